use Rattle.std.proofs.Common.{[], ◌∷◌, sym, subst}
use Rattle.std.proofs.lemmas.Result.{IfOk-weaker}
use Rattle.transcript_cut.specs.Form.{form_of, IsSound}
use Rattle.transcript_cut.specs.Meanings.{line_of_bytes}
use Rattle.transcript_cut.specs.Transcript.{mount}
use Rattle.stated_arrays.specs.Acts.{IsActOf, IsSoundAct}
use Rattle.stated_arrays.specs.declared.acts.Act.{Act}
use Rattle.stated_arrays.proofs.Meanings.{command_line, refused_line}
use Rattle.stated_arrays.proofs.acts.act_of_bytes.Goals as goal

pub act_in-requires : goal.act_in-requires
act_in-requires c = subst (λ ns. IsSound ns c.in-Ok.command) c.requires c.in-Ok.ensures.sound

pub returns-in-Ok-clause-asked : goal.returns-in-Ok-clause-asked
returns-in-Ok-clause-asked c = command_line c.args.mounts.now c.args.bytes.now (form_of c.in-Ok.command) c.act_in.result c.requires c.in-Ok.ensures.ok c.act_in.ensures.asked

pub returns-in-Err-clause-asked : goal.returns-in-Err-clause-asked
returns-in-Err-clause-asked c =
    IfOk-weaker c.refused.result _ (IsActOf (line_of_bytes (mount ∷ []) c.args.bytes.now))
    (λ act h. subst (λ (a : Act). IsActOf (line_of_bytes (mount ∷ []) c.args.bytes.now) a) (sym h.0) (refused_line c.args.mounts.now c.args.bytes.now c.in-Err.e c.requires (c.in-Err.ensures.err h.1))) c.refused.ensures

pub returns-in-Err-clause-sound : goal.returns-in-Err-clause-sound
returns-in-Err-clause-sound c = IfOk-weaker c.refused.result _ IsSoundAct (λ act h. subst IsSoundAct (sym h.0) tt) c.refused.ensures
