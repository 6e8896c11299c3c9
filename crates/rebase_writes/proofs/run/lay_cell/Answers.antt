use Rattle.std.proofs.Common.{◌≡◌, ◌∙◌, true, false, sym}
use Rattle.rebase_writes.proofs.run.lay_cell.Goals as goal

pub set-requires-clause-word : goal.set-requires-clause-word
set-requires-clause-word c = c.requires.word (sym c.is_marked.ensures ∙ c.if-is_marked.true)

pub returns-then-is_marked-clause-unmarked : goal.returns-then-is_marked-clause-unmarked
returns-then-is_marked-clause-unmarked c bare = let no : true ≡ false = sym c.if-is_marked.true ∙ c.is_marked.ensures ∙ bare in absurd (cc)

pub returns-else-is_marked-clause-marked : goal.returns-else-is_marked-clause-marked
returns-else-is_marked-clause-marked c mark = let no : false ≡ true = sym c.if-is_marked.false ∙ c.is_marked.ensures ∙ mark in absurd (cc)
