use Rattle.std.proofs.Common.{◌≡◌, ℕ, Some, sym, subst}
use Rattle.std.proofs.lemmas.List.Elements.{All-set}
use Rattle.std.specs.Option.{ForSome}
use Rattle.cells.specs.Numbers.{IsWord}
use Rattle.cells.specs.declared.dtype.Dtype.TheVariants.{U8}
use Rattle.rebase_writes.specs.Staged.{AreWords}
use Rattle.state_cases.proofs.laying.stage.Goals as goal

same_word : (one other : ℕ) → IsWord U8 one → Some one ≡ Some other → IsWord U8 other
same_word one other is e = let same : one ≡ other = cc in subst (IsWord U8) same is

pub returns-clause-words : goal.returns-clause-words
returns-clause-words c =
    subst (AreWords U8) (sym c.write_cell.ensures)
    (All-set (λ cell. ForSome cell (IsWord U8)) c.args.staged.now c.args.place (Some c.in_ok-word_of.field-0) (λ x e. same_word c.in_ok-word_of.field-0 x c.in_ok-word_of.ensures e) c.requires.words)
