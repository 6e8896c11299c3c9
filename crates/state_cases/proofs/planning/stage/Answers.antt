use Rattle.std.proofs.Common.{◌≡◌, ℕ, Some, sym, subst}
use Rattle.std.proofs.lemmas.List.Elements.{All-set}
use Rattle.std.specs.Option.{ForSome}
use Rattle.cells.specs.Numbers.{IsWord}
use Rattle.cells.specs.declared.dtype.Dtype.{Dtype}
use Rattle.rebase_writes.specs.Staged.{AreWords}
use Rattle.state_cases.proofs.planning.stage.Goals as goal

same_word : (dtype : Dtype) (one other : ℕ) → IsWord dtype one → Some one ≡ Some other → IsWord dtype other
same_word dtype one other is e = let same : one ≡ other = cc in subst (IsWord dtype) same is

pub returns-clause-words : goal.returns-clause-words
returns-clause-words c =
    subst (AreWords c.args.dtype) (sym c.write_cell.ensures)
    (All-set (λ cell. ForSome cell (IsWord c.args.dtype)) c.args.staged.now c.args.place (Some c.in_ok-word_of.field-0) (λ x e. same_word c.args.dtype c.in_ok-word_of.field-0 x c.in_ok-word_of.ensures e) c.requires.words)
