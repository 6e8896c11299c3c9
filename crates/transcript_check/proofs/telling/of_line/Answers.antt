use Rattle.std.proofs.lemmas.Result.{IfOk-weaker}
use Rattle.transcript_check.proofs.TextLaws.{line_text}
use Rattle.transcript_check.proofs.telling.of_line.Goals as goal

pub returns-in-Ok : goal.returns-in-Ok
returns-in-Ok c = IfOk-weaker c.with_number.result _ _ (λ all is. line_text c.args.line c.args.session c.in-Ok.text.items all.items c.in-Ok.ensures is) c.with_number.ensures
