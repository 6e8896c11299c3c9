use Rattle.std.proofs.Common.{arith}
use Rattle.transcript_check.proofs.WordLaws.{told_words}
use Rattle.transcript_check.proofs.words.are_few_files.Goals as goal

pub returns-then-words-le1025 : goal.returns-then-words-le1025
returns-then-words-le1025 c = told_words c.args.words.now c.are_files.result (omega (arith, c.requires)) (omega (arith, c.if-words-le1025.true)) c.are_files.ensures
