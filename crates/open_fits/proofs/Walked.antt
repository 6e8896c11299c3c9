-- The walk over the leaves of an open line.
use Rattle.std.proofs.Common.{◌≡◌, ℕ, zero, suc, ◌+◌, List, [], ◌∷◌, ◌++◌, length, map, take, Option, Some, None, refl, sym, ap, subst, ◌∙◌, arith}
use Rattle.std.specs.Prelude.{unwrap_or}
use Rattle.std.specs.List.{slice_get}
use Rattle.stack_driver.specs.References.{Reference}
use Rattle.history.specs.History.{History}
use Rattle.read_fits.specs.declared.SpecLeaf as spec
use Rattle.read_fits.specs.declared.Tree.{Tree}
use Rattle.read_fits.specs.Outline.{outline}
use Rattle.read_fits.specs.OpenedViews.{paired}
use Rattle.read_fits.specs.Asked.{wanted_leaf}
use Rattle.read_fits.specs.Lines.{bare}
use Rattle.read_fits.specs.declared.Wanted.{Wanted}
use Rattle.read_fits.specs.Openings.{leaf_of, node_of}
use Rattle.read_fits.specs.Takings.{Taking, taking}
use Rattle.read_fits.specs.Windows.{Window}
use Rattle.open_fits.specs.Opens.{leaf_at, leaves_at, IsFront}
use Rattle.open_fits.specs.Settling.{AreArraysFor, IsArrayFor}
use Rattle.open_fits.proofs.Fronts.{pair_at, front_more, front_stop, length-paired, length-leaves_at}

-- the first leaves, so many, were opened, and these are their arrays
abbrev pub AreFirstFor : History → ℕ → List Wanted → List (Option ℕ) → ℕ → List Reference → Type 0
AreFirstFor events upto leaves numbers k refs =
    (history : History) → outline history ≡ events → (w : Window) → w.upto ≡ upto → (tree : Tree)
    → IsFront history w (take k (paired (leaves_at tree 0 leaves) numbers)) refs

none_first : (xs : List Taking) → take zero xs ≡ []
none_first [] = refl
none_first (x ∷ xs) = refl

take_whole : (xs : List Taking) → take (length xs) xs ≡ xs
take_whole [] = refl
take_whole (x ∷ xs) = ap (λ ys. x ∷ ys) (take_whole xs)

next : (k : ℕ) → suc k ≡ k + 1
next k = omega arith

module _ (events : History) (upto : ℕ) (leaves : List Wanted) (numbers : List (Option ℕ)) where
  pub first_none : (refs : List Reference) → refs ≡ [] → AreFirstFor events upto leaves numbers 0 refs
  first_none refs none history same w is tree =
      subst (λ rs. IsFront history w (take 0 (paired (leaves_at tree 0 leaves) numbers)) rs) (sym none) (subst (λ xs. IsFront history w xs []) (sym (none_first (paired (leaves_at tree 0 leaves) numbers))) tt)

  pub first_more : (k : ℕ) (refs : List Reference) (wanted : Wanted) (n : Option ℕ) (r : Reference) → slice_get leaves k ≡ Some wanted → slice_get numbers k ≡ Some n → length refs ≡ k → AreFirstFor events upto leaves numbers k refs
      → IsArrayFor events upto wanted n (Some r) → AreFirstFor events upto leaves numbers (k + 1) (refs ++ r ∷ [])
  first_more k refs wanted n r at here count first array history same w is tree =
      let node = unwrap_or (node_of k tree) [] in
      let one = array history same w is node in
      subst (λ m. IsFront history w (take m (paired (leaves_at tree 0 leaves) numbers)) (refs ++ r ∷ [])) (next k)
      (front_more history w (paired (leaves_at tree 0 leaves) numbers) refs k (taking (leaf_at node wanted) n) r (first history same w is tree) count (pair_at tree 0 leaves numbers k k wanted n (omega arith) at here) one.0 one.1)

  pub first_stop : (k : ℕ) (refs : List Reference) (wanted : Wanted) (n : Option ℕ) → slice_get leaves k ≡ Some wanted → slice_get numbers k ≡ Some n → length refs ≡ k → AreFirstFor events upto leaves numbers k refs
      → IsArrayFor events upto wanted n None → AreArraysFor events upto leaves numbers refs
  first_stop k refs wanted n at here count first array history same w is tree =
      let node = unwrap_or (node_of k tree) [] in
      front_stop history w (paired (leaves_at tree 0 leaves) numbers) refs k (taking (leaf_at node wanted) n) (first history same w is tree) count (pair_at tree 0 leaves numbers k k wanted n (omega arith) at here) (array history same w is node)

  pub first_all : (k : ℕ) (refs : List Reference) → length leaves ≡ k → AreFirstFor events upto leaves numbers k refs → AreArraysFor events upto leaves numbers refs
  first_all k refs count first history same w is tree =
      let ts = paired (leaves_at tree 0 leaves) numbers in
      let size : k ≡ length ts = sym count ∙ sym (length-paired (leaves_at tree 0 leaves) numbers ∙ length-leaves_at tree 0 leaves) in
      subst (λ xs. IsFront history w xs refs) (ap (λ m. take m ts) size ∙ take_whole ts) (first history same w is tree)

-- one leaf more is made into what it asks for
pub leaf_moved : (wanted : List Wanted) (one : Wanted) (leaf : spec.SpecLeaf) (rest all : List spec.SpecLeaf) → wanted_leaf one ≡ leaf_of [] leaf → map wanted_leaf wanted ++ bare (leaf ∷ rest) ≡ bare all → map wanted_leaf (wanted ++ one ∷ []) ++ bare rest ≡ bare all
leaf_moved wanted one leaf rest all is so_far = by wanted ∙ ap (λ x. map wanted_leaf wanted ++ x ∷ bare rest) is ∙ so_far
  where
    by : (ws : List Wanted) → map wanted_leaf (ws ++ one ∷ []) ++ bare rest ≡ map wanted_leaf ws ++ wanted_leaf one ∷ bare rest
    by [] = refl
    by (w ∷ ws) = ap (λ xs. wanted_leaf w ∷ xs) (by ws)
