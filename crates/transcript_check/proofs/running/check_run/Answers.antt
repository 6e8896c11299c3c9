use Rattle.std.proofs.Common.{arith}
use Rattle.transcript_check.proofs.WordLaws.{few_words}
use Rattle.transcript_check.proofs.running.check_run.Goals as goal

pub read_files-requires-clause-least : goal.read_files-requires-clause-least
read_files-requires-clause-least g c = (few_words c.args.words.now (c.are_check_words.ensures.0 c.if-not-are_check_words.false)).0

pub read_files-requires-clause-most : goal.read_files-requires-clause-most
read_files-requires-clause-most g c = (few_words c.args.words.now (c.are_check_words.ensures.0 c.if-not-are_check_words.false)).1

pub check_files-requires : goal.check_files-requires
check_files-requires g c =
    let most = (c.are_check_words.ensures.0 c.if-not-are_check_words.false).most in
    omega (arith, most, c.in-Ok.ensures.read.count)

pub returns-in-Ok-clause-words : goal.returns-in-Ok-clause-words
returns-in-Ok-clause-words g c = (
  λ is. absurd (c.check_files.ensures.known.1 is),
  λ none. absurd (none (c.are_check_words.ensures.0 c.if-not-are_check_words.false)),
)

pub returns-in-Ok-clause-told : goal.returns-in-Ok-clause-told
returns-in-Ok-clause-told g c = λ has.
    record { transcript = c.in-Ok.files.transcript; scripts = c.in-Ok.files.scripts; files = c.in-Ok.ensures.read; told = c.check_files.ensures.told has }

pub returns-in-Ok-clause-untold : goal.returns-in-Ok-clause-untold
returns-in-Ok-clause-untold g c = λ is.
    record { transcript = c.in-Ok.files.transcript; scripts = c.in-Ok.files.scripts; files = c.in-Ok.ensures.read; untold = c.check_files.ensures.untold is }
