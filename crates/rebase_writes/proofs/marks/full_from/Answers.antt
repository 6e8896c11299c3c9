use Rattle.rebase_writes.proofs.marks.full_from.Goals as goal

pub is_full-requires-clause-at : goal.is_full-requires-clause-at
is_full-requires-clause-at c = c.is_at_word.ensures.at c.if-not-is_at_word.false

pub returns-then-is_full-clause-full : goal.returns-then-is_full-clause-full
returns-then-is_full-clause-full c = c.is_full.ensures.0 c.if-is_full.true
