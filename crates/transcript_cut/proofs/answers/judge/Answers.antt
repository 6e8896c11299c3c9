use Rattle.std.proofs.Common.{sym, subst}
use Rattle.std.specs.Prelude.{IfOk}
use Rattle.std.proofs.lemmas.Result.{IfOk-weaker}
use Rattle.transcript_cut.specs.Judged.{IsJudged}
use Rattle.transcript_cut.proofs.PlainLaws.{plain_is_judged}
use Rattle.transcript_cut.proofs.answers.judge.Goals as goal

pub returns-in-Ok-Some : goal.returns-in-Ok-Some
returns-in-Ok-Some c =
    IfOk-weaker c.judge_plain.result _ _
    (λ judged is. subst (IsJudged c.args.bytes.now c.args.number) (sym is) (plain_is_judged c.args.bytes.now c.args.number c.in-Ok-Some.plain (rw c.in-Ok-Some.field-0-is at c.in-Ok-Some.ensures)))
    c.judge_plain.ensures
