use Rattle.std.proofs.Common.{◌∙◌, ap}
use Rattle.std.proofs.lemmas.Result.{IfOk-weaker}
use Rattle.transcript_laws.specs.Text.{answer_text}
use Rattle.transcript_laws.specs.declared.Body.{Body}
use Rattle.transcript_cut.proofs.PlainLaws.{plain_printable}
use Rattle.transcript_cut.proofs.plain.Plain.text.Goals as goal

pub returns-in-Ok : goal.returns-in-Ok
returns-in-Ok c =
    IfOk-weaker c.render.result _ _
    (λ text is. record {
      same = is ∙ ap (λ (b : Body). answer_text (record { line = c.args.number; body = b })) c.in-Ok.ensures.body;
      printable = plain_printable c.args.self c.args.number c.in-Ok.ensures.small c.ranges.number.fits;
    })
    c.render.ensures
