use Rattle.std.proofs.Common.{◌∙◌, get_or, sym, ap}
use Rattle.std.proofs.lemmas.Option.{slice_get-get_or}
use Rattle.std.proofs.lemmas.Result.{on_ok_weaker}
use Rattle.history.proofs.Laws.{some_inj}
use Rattle.stated_acts.specs.declared.Said.{Said}
use Rattle.stated_history.proofs.SourceLaws.{line_of_source, facing}
use Rattle.stated_history.proofs.commits.state_line.Goals as goal

pub act_said-requires-clause-placed : goal.act_said-requires-clause-placed
act_said-requires-clause-placed c =
    let s = c.args.source.now in
    let d = get_or s.said.now c.args.place c.index-source-place.result in
    (line_of_source s c.args.place d c.requires.source (slice_get-get_or s.said.now c.args.place c.index-source-place.result c.requires.place)).placed

pub act_said-requires-clause-checked : goal.act_said-requires-clause-checked
act_said-requires-clause-checked c =
    let s = c.args.source.now in
    let d = get_or s.said.now c.args.place c.index-source-place.result in
    (line_of_source s c.args.place d c.requires.source (slice_get-get_or s.said.now c.args.place c.index-source-place.result c.requires.place)).checked

pub state_by-requires-clause-facing : goal.state_by-requires-clause-facing
state_by-requires-clause-facing c = λ told t of_it there.
    let s = c.args.source.now in
    let place = c.args.place in
    let d = get_or s.said.now place c.index-source-place.result in
    let at = slice_get-get_or s.said.now place c.index-source-place.result c.requires.place in
    facing s told place d t c.args.walk.now c.turn_to.new.self c.in-Ok.act of_it at there c.requires.reached c.requires.order c.turn_to.ensures.session c.turn_to.ensures.same c.turn_to.ensures.first c.in-Ok.ensures.act

pub returns-in-Ok-clause-session : goal.returns-in-Ok-clause-session
returns-in-Ok-clause-session c =
    on_ok_weaker c.state_by.result
    (λ same. λ e there.
    let s = c.args.source.now in
    let place = c.args.place in
    let d = get_or s.said.now place c.index-source-place.result in
    let at = slice_get-get_or s.said.now place c.index-source-place.result c.requires.place in
    same ∙ c.turn_to.ensures.session ∙ ap (λ (x : Said). x.line.session) (some_inj d e (sym at ∙ there))) c.state_by.ensures.session

pub act_said-requires-clause-kept : goal.act_said-requires-clause-kept
act_said-requires-clause-kept c =
    let s = c.args.source.now in
    c.requires.command (get_or s.said.now c.args.place c.index-source-place.result) (slice_get-get_or s.said.now c.args.place c.index-source-place.result c.requires.place)
