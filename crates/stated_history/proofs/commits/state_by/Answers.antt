use Rattle.std.proofs.Common.{◌≡◌, Option, Some, None, cond, get_or, sym, subst}
use Rattle.std.proofs.lemmas.Option.{slice_get-get_or}
use Rattle.std.proofs.lemmas.Result.{IfOk-weaker, on_ok_weaker}
use Rattle.stated_acts.specs.Acts.{kept_act}
use Rattle.stated_history.specs.Walks.{TellsAt}
use Rattle.stated_history.specs.declared.putting.Commit.{Commit}
use Rattle.stated_history.proofs.KeptLaws.{act_kept, whole_kept, kept_on}
use Rattle.stated_history.proofs.SourceLaws.{read_tells}
use Rattle.stated_history.proofs.commits.state_by.Goals as goal

pub returns-then-is_read_alone-clause-next : goal.returns-then-is_read_alone-clause-next
returns-then-is_read_alone-clause-next c =
    let s = c.args.source.now in
    let place = c.args.place in
    let d = get_or s.said.now place c.index-source-place.result in
    let at = slice_get-get_or s.said.now place c.index-source-place.result c.requires.place in
    let tells = read_tells s place d c.args.walk.now c.args.act c.may_print-may.result c.requires.source at c.requires.facing (c.is_read_alone.ensures c.if-is_read_alone.true) c.may_print-may.ensures in
    IfOk-weaker c.state_read.result (λ (next : Option (Option Commit)). next ≡ cond c.may_print-may.result (Some None) None) (TellsAt s place c.args.walk.now)
    (λ next same. subst (TellsAt s place c.args.walk.now) (sym same) tells) c.state_read.ensures.next

pub returns-then-is_read_alone-clause-acts : goal.returns-then-is_read_alone-clause-acts
returns-then-is_read_alone-clause-acts c =
    on_ok_weaker c.state_read.result (λ pushed. (Some c.args.act, pushed, whole_kept c.args.source.now c.args.place c.args.walk.now c.args.act c.requires.facing c.requires.act)) c.state_read.ensures.acts

pub returns-in-Ok-clause-acts : goal.returns-in-Ok-clause-acts
returns-in-Ok-clause-acts c =
    let s = c.args.source.now in
    let place = c.args.place in
    kept_on c.state_answered.result s place c.args.acts.now.items c.keep.new.acts.items (kept_act c.args.act, c.in-Ok.ensures, act_kept s place c.args.walk.now c.args.act c.requires.facing c.requires.act)
