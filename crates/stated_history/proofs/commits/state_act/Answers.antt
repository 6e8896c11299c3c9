use Rattle.std.proofs.Common.{get_or}
use Rattle.std.proofs.lemmas.Option.{slice_get-get_or}
use Rattle.stated_history.proofs.SourceLaws.{prints_own, never_true, none_told_on}
use Rattle.stated_history.proofs.commits.state_act.Goals as goal

pub returns-in-Ok-clause-next : goal.returns-in-Ok-clause-next
returns-in-Ok-clause-next c = λ told t of_it there.
    let s = c.args.source.now in
    let place = c.args.place in
    let d = get_or s.said.now place c.index-source-place.result in
    let at = slice_get-get_or s.said.now place c.index-source-place.result c.requires.place in
    let tells = prints_own s told place d t c.args.walk.now c.args.act c.is_some-stands.result c.may_print.result c.requires.source at (c.requires.facing told t of_it there) c.is_some-stands.ensures c.may_print.ensures in
    let gone = c.in-Ok.ensures.gone told t of_it there in
    (record { numbers = tells.0 c.if-may_print.true; event = gone.event }, gone.behind)

pub returns-else-may_print-clause-next : goal.returns-else-may_print-clause-next
returns-else-may_print-clause-next c =
    none_told_on c.state_none.result _ c.state_none.ensures
    (λ told t of_it there. λ has.
    let s = c.args.source.now in
    let place = c.args.place in
    let d = get_or s.said.now place c.index-source-place.result in
    let at = slice_get-get_or s.said.now place c.index-source-place.result c.requires.place in
    let tells = prints_own s told place d t c.args.walk.now c.args.act c.is_some-stands.result c.may_print.result c.requires.source at (c.requires.facing told t of_it there) c.is_some-stands.ensures c.may_print.ensures in
    never_true c.may_print.result c.if-may_print.false (tells.1 has))
