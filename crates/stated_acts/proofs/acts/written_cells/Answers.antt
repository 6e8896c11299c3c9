use Rattle.std.proofs.Common.{Option, refl}
use Rattle.std.proofs.lemmas.Result.{IfOk-weaker}
use Rattle.history.specs.Acts.{write_act}
use Rattle.history.specs.Commit.{Transaction}
use Rattle.stated_acts.specs.Acts.{IsActOfView, IsSoundAct}
use Rattle.stated_acts.specs.declared.acts.Act.{Act}
use Rattle.stated_acts.specs.declared.acts.Act.TheVariants.{Writes}
use Rattle.stated_acts.proofs.ActLaws.{found_view, faulty_view, refused_sound}
use Rattle.stated_acts.proofs.acts.written_cells.Goals as goal

pub check_cells-requires-clause-counted : goal.check_cells-requires-clause-counted
check_cells-requires-clause-counted c = (_, c.requires.count)

pub returns-in-Ok-clause-act : goal.returns-in-Ok-clause-act
returns-in-Ok-clause-act c = λ t. found_view c.args.worded.view (write_act t c.args.worded.view c.args.worded.words) t (Writes c.args.worded.view c.args.worded.words) c.in-Ok.ensures.found refl

pub returns-in-Ok-clause-sound : goal.returns-in-Ok-clause-sound
returns-in-Ok-clause-sound c = (c.requires.view, c.requires.count)

pub returns-in-Err-clause-act : goal.returns-in-Err-clause-act
returns-in-Err-clause-act c =
    IfOk-weaker c.refused.result _ (λ (act : Act). (t : Option Transaction) → IsActOfView c.args.worded.view (write_act t c.args.worded.view c.args.worded.words) t act)
    (λ act told t. faulty_view c.args.worded.view (write_act t c.args.worded.view c.args.worded.words) t act c.in-Err.body told c.in-Err.ensures.err) c.refused.ensures

pub returns-in-Err-clause-sound : goal.returns-in-Err-clause-sound
returns-in-Err-clause-sound c = IfOk-weaker c.refused.result _ IsSoundAct (λ act told. refused_sound c.in-Err.body act told) c.refused.ensures
