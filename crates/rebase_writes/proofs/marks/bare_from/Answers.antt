use Rattle.rebase_writes.proofs.marks.bare_from.Goals as goal

pub is_bare-requires-clause-at : goal.is_bare-requires-clause-at
is_bare-requires-clause-at c = c.is_at_word.ensures.at c.if-not-is_at_word.false

pub returns-then-is_bare-clause-bare : goal.returns-then-is_bare-clause-bare
returns-then-is_bare-clause-bare c = c.is_bare.ensures.0 c.if-is_bare.true
