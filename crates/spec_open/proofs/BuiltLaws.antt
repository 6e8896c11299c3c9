-- The view of a tree, by its form; the views of layers one after another.
use Rattle.std.proofs.Common.{◌≡◌, ◌<◌, ◌≤◌, ◌+◌, ◌∙◌, ℕ, zero, suc, List, [], ◌∷◌, ◌++◌, length, map, drop, get_or, Option, Result, Ok, Err, refl, sym, ap, subst, arith, append_assoc, append-nil, add-one, drop-cons}
use Rattle.std.proofs.Math.ListN.{drop_of_length-le}
use Rattle.std.proofs.lemmas.List.{length-map}
use Rattle.std.specs.List.{AllByRecursion}
use Rattle.cells.specs.declared.dtype.Dtype.{Dtype}
use Rattle.index_transform.specs.Transforms.{DomainAndMaps}
use Rattle.stack_driver.specs.Arrays.{whole_view}
use Rattle.stack_driver.specs.References.{Reference}
use Rattle.stack_driver.specs.declared.view.View.{View}
use Rattle.spec_open.specs.Built.{through, through_if, cast_if, before, all_built, stacked_if, no_array, built_step, built}
use Rattle.spec_open.specs.declared.error.BuildError.{BuildError}
use Rattle.spec_open.specs.declared.tree.Tree.{Tree, fold-roll-Tree}
use Rattle.spec_open.specs.declared.tree.Tree.TheOpen.{Tree-F}
use Rattle.spec_open.specs.declared.tree.Tree.TheVariants as tree

any_default : (rs : List Reference) (k : ℕ) (a b : Reference) → k < length rs → get_or rs k a ≡ get_or rs k b
any_default [] k a b less = absurd (omega arith)
any_default (r ∷ rs) zero a b less = refl
any_default (r ∷ rs) (suc k) a b less = any_default rs k a b (omega (arith, less))

-- a leaf's view is that of its array through its transform
pub built-Leaf : (arrays : List Reference) (t : Tree) (leaf : ℕ) (u : Option DomainAndMaps) (at path : List ℕ) (array : Reference) → t ≡ tree.Leaf leaf u at → leaf < length arrays
    → array ≡ get_or arrays leaf array → path ≡ at → through path u (whole_view array) ≡ built arrays t
built-Leaf arrays t leaf u at path array is less here same =
    ap (λ p. through p u (whole_view array)) same ∙ ap (λ r. through at u (whole_view r)) (here ∙ any_default arrays leaf array no_array less)
    ∙ sym (ap (built arrays) (is ∙ sym (tree.rolls-Leaf leaf u at)) ∙ fold-roll-Tree (Result View BuildError) (built_step arrays) (Tree-F.Leaf leaf u at))

pub built-Cast : (arrays : List Reference) (t : Tree) (to : Dtype) (base : Tree) (u : Option DomainAndMaps) (at : List ℕ) → t ≡ tree.Cast to base u at
    → through_if at u (cast_if to (built arrays base)) ≡ built arrays t
built-Cast arrays t to base u at is =
    sym (ap (built arrays) (is ∙ sym (tree.rolls-Cast to base u at)) ∙ fold-roll-Tree (Result View BuildError) (built_step arrays) (Tree-F.Cast to base u at))

pub built-Stack : (arrays : List Reference) (t : Tree) (layers : List Tree) (dtype : Option Dtype) (u : Option DomainAndMaps) (at : List ℕ) → t ≡ tree.Stack layers dtype u at
    → through_if at u (stacked_if at dtype (all_built (map (built arrays) layers))) ≡ built arrays t
built-Stack arrays t layers dtype u at is =
    sym (ap (built arrays) (is ∙ sym (tree.rolls-Stack layers dtype u at)) ∙ fold-roll-Tree (Result View BuildError) (built_step arrays) (Tree-F.Stack layers dtype u at))

-- views, and those behind them
abbrev pub behind : List View → Result (List View) BuildError → Result (List View) BuildError
behind views (Ok more) = Ok (views ++ more)
behind views (Err e) = Err e

-- the views so far and those of the trees from k on are those of all
abbrev pub IsBuilt : (Tree → Result View BuildError) → List Tree → ℕ → List View → Type 0
IsBuilt f trees k views = all_built (map f trees) ≡ behind views (all_built (map f (drop k trees)))

pub none_built : (f : Tree → Result View BuildError) (trees : List Tree) → IsBuilt f trees 0 []
none_built f trees = all-behind (all_built (map f trees))
  where
    all-behind : (r : Result (List View) BuildError) → r ≡ behind [] r
    all-behind (Ok views) = refl
    all-behind (Err e) = refl

one_behind : (views : List View) (v : View) (r : Result (List View) BuildError) → behind views (before v r) ≡ behind (views ++ v ∷ []) r
one_behind views v (Ok more) = ap Ok (sym (append_assoc views (v ∷ []) more))
one_behind views v (Err e) = refl

pub more_built : (f : Tree → Result View BuildError) (trees : List Tree) (k : ℕ) (views : List View) (t : Tree) (v : View) → k < length trees → f (get_or trees k t) ≡ Ok v
    → IsBuilt f trees k views → IsBuilt f trees (k + 1) (views ++ v ∷ [])
more_built f trees k views t v less is so =
    so ∙ rw (drop-cons trees k t) (rw is (rw add-one (one_behind views v (all_built (map f (drop (suc k) trees))))))

pub not_built : (f : Tree → Result View BuildError) (trees : List Tree) (k : ℕ) (views : List View) (t : Tree) (e : BuildError) → k < length trees → f (get_or trees k t) ≡ Err e
    → IsBuilt f trees k views → all_built (map f trees) ≡ Err e
not_built f trees k views t e less is so = so ∙ rw (drop-cons trees k t) (rw is refl)

pub built_all : (f : Tree → Result View BuildError) (trees : List Tree) (k : ℕ) (views : List View) → length trees ≤ k → IsBuilt f trees k views → all_built (map f trees) ≡ Ok views
built_all f trees k views past so = so ∙ rw (drop_of_length-le trees past) (ap Ok (append-nil views))

counted : (v : View) (r : Result (List View) BuildError) (n : ℕ) (vs : List View) → ((ws : List View) → r ≡ Ok ws → length ws ≡ n) → before v r ≡ Ok vs → length vs ≡ suc n
counted v (Ok ws) n vs more e = let same : vs ≡ v ∷ ws = cc in ap length same ∙ ap suc (more ws refl)
counted v (Err x) n vs more e = absurd (let no_such : ⊥ = cc in no_such)

count_built : (rs : List (Result View BuildError)) (vs : List View) → all_built rs ≡ Ok vs → length vs ≡ length rs
count_built [] vs e = let same : vs ≡ [] = cc in ap length same
count_built (Ok v ∷ rs) vs e = counted v (all_built rs) (length rs) vs (λ ws f. count_built rs ws f) e
count_built (Err x ∷ rs) vs e = absurd (let no_such : ⊥ = cc in no_such)

-- all views are as many as their trees
pub built-length : (f : Tree → Result View BuildError) (trees shown : List Tree) (vs : List View) → shown ≡ trees → all_built (map f shown) ≡ Ok vs → length vs ≡ length trees
built-length f trees shown vs same e = count_built (map f shown) vs e ∙ length-map shown f ∙ ap length same

-- one view more keeps what each keeps
pub one_more : (P : View → Type 0) (vs : List View) (v : View) → AllByRecursion P vs → P v → AllByRecursion P (vs ++ v ∷ [])
one_more P [] v all h = (h, tt)
one_more P (w ∷ ws) v all h = (all.0, one_more P ws v all.1 h)
