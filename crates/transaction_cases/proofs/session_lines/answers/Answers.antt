use Rattle.transaction_cases.proofs.SessionLaws.{between_fresh}
use Rattle.transaction_cases.proofs.session_lines.answers.Goals as goal

pub by_steps-requires-clause-one : goal.by_steps-requires-clause-one
by_steps-requires-clause-one g c = between_fresh c.args.book.now 0 _ c.requires.one

pub by_steps-requires-clause-other : goal.by_steps-requires-clause-other
by_steps-requires-clause-other g c = between_fresh c.args.book.now 1 _ c.requires.other
