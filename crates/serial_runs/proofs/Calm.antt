-- While a transaction stands its session changes nothing, and so it changed nothing behind the marks of its reads.
use Rattle.std.proofs.Common.{◌≡◌, ℕ, zero, suc, ◌≤◌, List, [], ◌∷◌, ◌++◌, length, take, take-take, drop, ap, subst, length-append, length-take, arith}
use Rattle.std.specs.List.{AllByRecursion}
use Rattle.std.proofs.Math.Seq.{take-length}
use Rattle.history.specs.History.{History}
use Rattle.history.specs.Chunks.{Chunk}
use Rattle.history.specs.Commit.{Transaction}
use Rattle.history.specs.Generations.{IsForeignChange}
use Rattle.history.specs.Reads.{Marks}
use Rattle.history.proofs.Quiet.{IsQuiet}
use Rattle.serial_runs.specs.Ends.{IsNoOwnChange, IsCalm}

-- what holds of all items from a place on holds of those between two later ones
between : {A : Type 0} (P : A → Type 0) (xs : List A) (a b n : ℕ) → a ≤ b → AllByRecursion P (drop a xs) → AllByRecursion P (drop b (take n xs))
between P [] a zero zero low all = tt
between P [] a zero (suc n) low all = tt
between P [] a (suc b) zero low all = tt
between P [] a (suc b) (suc n) low all = tt
between P (x ∷ xs) a zero zero low all = tt
between P (x ∷ xs) a (suc b) zero low all = tt
between P (x ∷ xs) zero zero (suc n) low all = (all.0, between P xs zero zero n (omega arith) all.1)
between P (x ∷ xs) (suc a) zero (suc n) low all = absurd (omega (arith, low))
between P (x ∷ xs) zero (suc b) (suc n) low all = between P xs zero b n (omega arith) all.1
between P (x ∷ xs) (suc a) (suc b) (suc n) low all = between P xs a b n (omega (arith, low)) all

-- an event of a history has a number up to its length
pub number_within : (owner : ℕ) (h : History) (c : Chunk) (read n : ℕ) → IsForeignChange owner h c read n → n ≤ length h
number_within owner h c read n is =
    let size : length h ≡ length (is.touch.before ++ is.touch.event ∷ is.touch.later) = ap length is.touch.parts in
    let both = length-append is.touch.before (is.touch.event ∷ is.touch.later) in
    let number = is.touch.number in
    omega (arith, size, both, number)

module _ (owner : ℕ) (history : History) (m n : ℕ) (low : n ≤ length (take m history)) where
  abbrev now : History
  now = take m history

  calm_from : (begun from : ℕ) → begun ≤ from → AllByRecursion (IsNoOwnChange owner) (drop begun now) → IsCalm owner history from n
  calm_from begun from before quiet =
      subst (λ h. AllByRecursion (IsNoOwnChange owner) (drop from h)) (take-take n m history (omega (arith, low, length-take m history)))
      (between (IsNoOwnChange owner) now begun from n before quiet)

  each_calm : (begun : ℕ) (marks : Marks) → AllByRecursion (λ mark. begun ≤ mark.1) marks → AllByRecursion (IsNoOwnChange owner) (drop begun now) → AllByRecursion (λ (mark : Chunk × ℕ). IsCalm owner history mark.1 n) marks
  each_calm begun [] all quiet = tt
  each_calm begun (mark ∷ marks) all quiet = (calm_from begun mark.1 all.0 quiet, each_calm begun marks all.1 quiet)

  -- the session changed nothing between a mark and an event that it had seen
  pub calm_marks : (t : Transaction) → IsQuiet owner (length now) now t → AllByRecursion (λ (mark : Chunk × ℕ). IsCalm owner history mark.1 n) t.marks
  calm_marks t quiet = each_calm quiet.begun t.marks quiet.marked (subst (λ h. AllByRecursion (IsNoOwnChange owner) (drop quiet.begun h)) (take-length now) quiet.quiet)
