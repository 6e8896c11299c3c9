use Rattle.std.proofs.Common.{get_or, arith}
use Rattle.std.proofs.lemmas.Option.{slice_get-get_or}
use Rattle.stated_acts.specs.SaidAnswers.{data_said}
use Rattle.stated_history.specs.Walks.{IsGoneOnAt}
use Rattle.stated_history.proofs.SourceLaws.{takings_long, taken_there, prints_at, ok_both, gone_by}
use Rattle.stated_history.proofs.commits.pass_line.Goals as goal

pub view_said-requires-clause-place : goal.view_said-requires-clause-place
view_said-requires-clause-place c = omega (arith, takings_long c.args.source.now c.requires.source, c.requires.place)

pub view_said-requires-clause-taken : goal.view_said-requires-clause-taken
view_said-requires-clause-taken c = taken_there c.args.source.now c.args.place c.args.walk.now c.args.act c.requires.source c.requires.place c.requires.facing

pub go_on-requires-clause-numbers : goal.go_on-requires-clause-numbers
go_on-requires-clause-numbers c =
    let s = c.args.source.now in
    let place = c.args.place in
    let d = get_or s.said.now place c.index-source-place.result in
    let at = slice_get-get_or s.said.now place c.index-source-place.result c.requires.place in
    prints_at s place d (data_said c.args.answer.now) c.requires.source at (c.requires.answer d at)

pub returns-in-Ok-clause-gone : goal.returns-in-Ok-clause-gone
returns-in-Ok-clause-gone c =
    let s = c.args.source.now in
    let place = c.args.place in
    let d = get_or s.said.now place c.index-source-place.result in
    let at = slice_get-get_or s.said.now place c.index-source-place.result c.requires.place in
    ok_both c.go_on.result _ (IsGoneOnAt s place c.go_on.new.self) _ c.go_on.ensures.event c.go_on.ensures.stands
    (λ commit event stands. λ told t of_it there.
    gone_by s told place d t c.args.walk.now c.go_on.new.self c.args.act (data_said c.args.answer.now) c.in-Ok.opened commit c.requires.source at (c.requires.facing told t of_it there) (c.requires.answer d at) c.in-Ok.ensures.view
    c.go_on.ensures.session stands event)
