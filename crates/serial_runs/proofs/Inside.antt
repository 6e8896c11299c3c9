-- Each cell that a commit writes lies in the shape that its array has before it.
use Rattle.std.proofs.Common.{◌≡◌, List, [], ◌∷◌, ◌++◌, Bool, true, false, cond, refl, sym, ap, ◌∙◌}
use Rattle.std.specs.Prelude.{filter}
use Rattle.std.specs.List.{AllByRecursion}
use Rattle.history.specs.declared.event.Op.{Op}
use Rattle.history.specs.declared.event.Op.TheVariants.{Write, Read}
use Rattle.history.specs.History.{History}
use Rattle.history.specs.Commit.{Transaction, is_write, kept_ops}
use Rattle.history.specs.Legal.{IsLegalOp, is_present}
use Rattle.history.specs.Reads.{is_put}
use Rattle.history.specs.Staged.{AreInShapes}
use Rattle.history.specs.Writes.{puts_of, puts_of_op}
use Rattle.history.proofs.Written.{absent}

writes_put : (ops : List Op) → puts_of (filter is_write ops) ≡ puts_of ops
writes_put [] = refl
writes_put (Write view words ∷ ops) = ap (λ ps. puts_of_op (Write view words) ++ ps) (writes_put ops)
writes_put (Read view words ∷ ops) = writes_put ops

-- the Reads of a transaction put nothing
kept_puts : (b : Bool) (ops : List Op) → puts_of (cond b ops (filter is_write ops)) ≡ puts_of ops
kept_puts true ops = refl
kept_puts false ops = writes_put ops

-- what legal operations put lies in the shapes
pub written_inside : (before : History) (t : Transaction) → AllByRecursion (IsLegalOp before) (kept_ops t) → AreInShapes before t.ops
written_inside before t legal x put = told (is_present before x) refl
  where
    told : (b : Bool) → is_present before x ≡ b → is_present before x ≡ true
    told true is = is
    told false is =
        let clash : true ≡ false = sym put ∙ ap (λ ps. is_put ps x) (sym (kept_puts t.mode.repeatable_read t.ops)) ∙ absent before x (kept_ops t) legal is in
        absurd (cc)
