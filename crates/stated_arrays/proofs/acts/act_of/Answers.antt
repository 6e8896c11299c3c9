use Rattle.std.proofs.Common.{[], ◌∷◌, IfOk, refl, subst}
use Rattle.transcript_cut.specs.Form.{form_of}
use Rattle.transcript_cut.specs.Keeping.{IsCommandIn}
use Rattle.transcript_cut.specs.Meanings.{line_of_bytes}
use Rattle.transcript_cut.specs.Spans.{line_at}
use Rattle.transcript_cut.specs.Transcript.{mount}
use Rattle.stated_arrays.specs.Acts.{IsActOf}
use Rattle.stated_arrays.proofs.Meanings.{command_line}
use Rattle.stated_arrays.proofs.acts.act_of.Goals as goal

pub act_by-requires : goal.act_by-requires
act_by-requires c = let read = subst (IsCommandIn (line_at c.args.scripts.now c.args.line).bytes) c.in-Some.is c.requires.command in read.other

pub returns-in-Some-clause-asked : goal.returns-in-Some-clause-asked
returns-in-Some-clause-asked c =
    let bytes = (line_at c.args.scripts.now c.args.line).bytes in
    let read = subst (IsCommandIn bytes) c.in-Some.is c.requires.command in
    command_line (mount ∷ []) bytes (form_of c.in-Some.command) c.act_by.result refl read.form c.act_by.ensures.asked

pub returns-in-None-clause-asked : goal.returns-in-None-clause-asked
returns-in-None-clause-asked c = subst (λ b. IfOk c.act_read.result (IsActOf (line_of_bytes (mount ∷ []) b))) c.bytes_of.ensures c.act_read.ensures.asked
