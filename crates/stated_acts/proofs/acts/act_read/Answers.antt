use Rattle.std.proofs.Common.{[], ◌∷◌, IfOk, sym, ap, subst, ◌∙◌}
use Rattle.std.proofs.lemmas.Result.{IfOk-weaker}
use Rattle.line_acts.specs.Form.{IsSound}
use Rattle.line_acts.specs.Meanings.{line_in, line_of_bytes}
use Rattle.stated_arrays.specs.CommandLines.{command_of_line}
use Rattle.stated_arrays.specs.Transcript.{mount}
use Rattle.stated_arrays.specs.Unchecked.{is_unchecked_in}
use Rattle.stated_acts.specs.Acts.{IsActAt, IsSoundAct}
use Rattle.stated_acts.specs.Standings.{standing_of}
use Rattle.stated_acts.proofs.ActLaws.{refused_at, refused_sound}
use Rattle.stated_acts.proofs.acts.act_read.Goals as goal

pub act_in-requires-clause-command : goal.act_in-requires-clause-command
act_in-requires-clause-command c = subst (λ ns. IsSound ns c.in-Ok.command) c.requires.mounts c.in-Ok.ensures.sound

pub act_in-requires-clause-checked : goal.act_in-requires-clause-checked
act_in-requires-clause-checked c =
    sym (ap is_unchecked_in (ap (λ ns. command_of_line ns c.args.bytes.now) (sym c.requires.mounts) ∙ c.in-Ok.ensures.ok)) ∙ c.requires.checked

pub returns-in-Ok-clause-act : goal.returns-in-Ok-clause-act
returns-in-Ok-clause-act c =
    subst (λ l. IfOk c.act_in.result (IsActAt (standing_of c.args.standing.now) l))
    (sym (ap line_in (ap (λ ns. command_of_line ns c.args.bytes.now) (sym c.requires.mounts) ∙ c.in-Ok.ensures.ok))) c.act_in.ensures.act

pub returns-in-Err-clause-act : goal.returns-in-Err-clause-act
returns-in-Err-clause-act c =
    IfOk-weaker c.refused_form.result _ (IsActAt (standing_of c.args.standing.now) (line_of_bytes (mount ∷ []) c.args.bytes.now))
    (λ act told. refused_at (mount ∷ []) c.args.bytes.now c.in-Err.error c.args.standing.now act
    (λ other. ap (λ ns. command_of_line ns c.args.bytes.now) (sym c.requires.mounts) ∙ c.in-Err.ensures.err other) told) c.refused_form.ensures

pub returns-in-Err-clause-sound : goal.returns-in-Err-clause-sound
returns-in-Err-clause-sound c = IfOk-weaker c.refused_form.result _ IsSoundAct (λ act told. refused_sound _ act told) c.refused_form.ensures
