-- Views have at most 32 dimensions, each with a label, where the transforms and the arrays of which they are made have.
use Rattle.std.proofs.Common.{◌≡◌, ◌∙◌, ◌≤◌, ℕ, zero, suc, Bool, true, false, cond, List, [], ◌∷◌, length, map, get_or, Option, Some, None, Result, Ok, Err, refl, sym, ap, subst, arith}
use Rattle.std.specs.List.{AllByRecursion}
use Rattle.std.proofs.lemmas.List.{length-map}
use Rattle.cells.specs.declared.dtype.Dtype.{Dtype}
use Rattle.index_transform.specs.Transforms.{DomainAndMaps}
use Rattle.index_transform.specs.Identity.{identity_over}
use Rattle.transform_composition.specs.Composing.{composed}
use Rattle.transform_composition.specs.declared.error.ComposeError.{ComposeError}
use Rattle.stack_driver.specs.Arrays.{array_dim, array_domain, whole_view}
use Rattle.stack_driver.specs.Changes.{under, under_result, moved}
use Rattle.stack_driver.specs.References.{Reference}
use Rattle.stack_driver.specs.Stacks.{stacked_domain, first_unlike, unless_unlike, stack_answer}
use Rattle.stack_driver.specs.Views.{look_of, own_transform}
use Rattle.stack_driver.specs.declared.view.View.{View, ind-View, roll-View, map-View}
use Rattle.stack_driver.specs.declared.view.View.TheOpen.{View-F}
use Rattle.stack_driver.specs.declared.view.View.TheVariants as view
use Rattle.stack_driver.proofs.Looks.{own-Leaf, own-Cast, own-Stack, own_dims}
use Rattle.stack_driver.proofs.Unders.{under-Leaf, under-Cast, under-Stack}
use Rattle.stack_driver.proofs.StackRules.{length-stacked_dims, length-stacked_labels}
use Rattle.spec_open.specs.Built.{composed_at, through, through_if, cast_if, before, all_built, of_dtype, stacked_at, stacked_if, no_array, built_step, built}
use Rattle.spec_open.specs.declared.error.BuildCause.TheVariants.{Layers}
use Rattle.spec_open.specs.declared.error.BuildError.{BuildError}
use Rattle.spec_open.specs.declared.error.BuildError.TheVariants.{Refused}
use Rattle.spec_open.specs.declared.tree.Tree.{Tree, fold-roll-Tree}
use Rattle.spec_open.specs.declared.tree.Tree.TheOpen.{Tree-F}
use Rattle.spec_open.specs.declared.tree.Tree.TheVariants as tree
use Rattle.output_laws.proofs.Ranks.{HasRank, composed_rank}

-- a view's own transform has at most 32 dimensions, each with a label
abbrev pub HasViewRank : View → Type 0
HasViewRank v = HasRank (own_transform v)

-- an array has at most 32 sizes
abbrev pub IsRankRef : Reference → Type 0
IsRankRef r = length r.shape ≤ 32

-- a transform that may be there has a rank
abbrev pub MayHaveRank : Option DomainAndMaps → Type 0
MayHaveRank None = Unit {0}
MayHaveRank (Some t) = HasRank t

-- the own transform of a view under a transform is that
abbrev IsUnder : DomainAndMaps → View → Type 0
IsUnder t v = own_transform (under t v) ≡ t

under_step : (t : DomainAndMaps) (x : View-F View) (y : View-F ((z : View) × IsUnder t z)) → map-View ((z : View) × IsUnder t z) View (λ e. e.0) y ≡ x → IsUnder t (roll-View x)
under_step t x (View-F.Leaf array u) e =
    subst (λ z. IsUnder t (roll-View z)) e (subst (IsUnder t) (sym (view.rolls-Leaf array u)) (ap own_transform (under-Leaf t array u) ∙ own-Leaf array t))
under_step t x (View-F.Cast to p) e =
    subst (λ z. IsUnder t (roll-View z)) e (subst (IsUnder t) (sym (view.rolls-Cast to p.0)) (ap own_transform (under-Cast t to p.0) ∙ own-Cast to (under t p.0) ∙ p.1))
under_step t x (View-F.Stack ys u) e =
    subst (λ z. IsUnder t (roll-View z)) e
    (subst (IsUnder t) (sym (view.rolls-Stack (map (λ y. y.0) ys) u)) (ap own_transform (under-Stack t (map (λ y. y.0) ys) u) ∙ own-Stack (map (λ y. y.0) ys) t))

pub own_under : (t : DomainAndMaps) (v : View) → own_transform (under t v) ≡ t
own_under t v = ind-View (IsUnder t) (under_step t) v

pub under_rank : (t : DomainAndMaps) (v : View) → HasRank t → HasViewRank (under t v)
under_rank t v has = subst HasRank (sym (own_under t v)) has

pub moved_rank : (v made : View) (t : DomainAndMaps) → HasRank t → moved v t ≡ Ok made → HasViewRank made
moved_rank v made t has e = by (composed (own_transform v) t) refl e
  where
    by : (r : Result DomainAndMaps ComposeError) → composed (own_transform v) t ≡ r → under_result v r ≡ Ok made → HasViewRank made
    by (Ok u) is given = let same : under u v ≡ made = cc in subst HasViewRank same (under_rank u v (composed_rank (own_transform v) t u has is))
    by (Err cause) is given = absurd (cc)

-- where it is a view, it has a rank
pub record Gives (r : Result View BuildError) : Type 0 where
  pub are : (made : View) → r ≡ Ok made → HasViewRank made

record GiveAll (r : Result (List View) BuildError) : Type 0 where
  are : (made : List View) → r ≡ Ok made → AllByRecursion HasViewRank made

refusing : (e : BuildError) → Gives (Err e)
refusing e = record { are = λ made is. absurd (cc) }

one : (v : View) → HasViewRank v → Gives (Ok v)
one v has = record { are = λ made is. let same : v ≡ made = cc in subst HasViewRank same has }

through_rank : (at : List ℕ) (transform : Option DomainAndMaps) (v : View) → MayHaveRank transform → HasViewRank v → Gives (through at transform v)
through_rank at None v may has = one v has
through_rank at (Some t) v may has = by (moved v t) refl
  where
    by : (r : Result View ComposeError) → moved v t ≡ r → Gives (composed_at at r)
    by (Ok w) is = one w (moved_rank v w t may is)
    by (Err cause) is = refusing _

through_if_rank : (at : List ℕ) (transform : Option DomainAndMaps) (r : Result View BuildError) → MayHaveRank transform → Gives r → Gives (through_if at transform r)
through_if_rank at transform (Ok v) may g = through_rank at transform v may (g.are v refl)
through_if_rank at transform (Err e) may g = refusing e

cast_if_rank : (to : Dtype) (r : Result View BuildError) → Gives r → Gives (cast_if to r)
cast_if_rank to (Ok v) g = one (view.Cast to v) (subst HasRank (sym (own-Cast to v)) (g.are v refl))
cast_if_rank to (Err e) g = refusing e

before_rank : (v : View) (r : Result (List View) BuildError) → HasViewRank v → GiveAll r → GiveAll (before v r)
before_rank v (Ok vs) has g = record { are = λ made is. let same : v ∷ vs ≡ made = cc in subst (AllByRecursion HasViewRank) same (has, g.are vs refl) }
before_rank v (Err e) has g = record { are = λ made is. absurd (cc) }

all_rank : (rs : List (Result View BuildError)) → AllByRecursion Gives rs → GiveAll (all_built rs)
all_rank [] all = record { are = λ made is. let same : [] ≡ made = cc in subst (AllByRecursion HasViewRank) same tt }
all_rank (Ok v ∷ rest) all = before_rank v (all_built rest) (all.0.are v refl) (all_rank rest all.1)
all_rank (Err e ∷ rest) all = record { are = λ made is. absurd (cc) }

of_dtype_rank : (at : List ℕ) (dtype : Option Dtype) (v : View) → HasViewRank v → Gives (of_dtype at dtype v)
of_dtype_rank at None v has = one v has
of_dtype_rank at (Some dtype) v has = by _
  where
    by : (test : Bool) → Gives (cond test (Ok v) (Err (Refused at Layers)))
    by true = one v has
    by false = refusing _

-- the domain of a stack is as that of its first layer
stacked_rank : (layers : List View) → AllByRecursion HasViewRank layers → HasRank (identity_over (stacked_domain layers))
stacked_rank [] all = record { few = omega arith; labels = refl }
stacked_rank (v ∷ vs) all =
    let first : HasViewRank v = all.0 in
    let dims : length (own_transform v).domain.dims ≡ length (look_of v).dims = ap length (own_dims v) in
    let few = first.few in
    let same = first.labels in
    let one = length-stacked_dims 0 (look_of v).dims (v ∷ vs) in
    let other = length-stacked_labels 0 (own_transform v).domain.labels (v ∷ vs) in
    record { few = omega (arith, few, dims, one); labels = omega (arith, same, dims, one, other) }

stacks_rank : (at : List ℕ) (dtype : Option Dtype) (layers : List View) → AllByRecursion HasViewRank layers → Gives (stacked_at at dtype (stack_answer layers))
stacks_rank at dtype layers all = by (first_unlike layers)
  where
    by : (o : Option ℕ) → Gives (stacked_at at dtype (unless_unlike o layers))
    by None = let t = identity_over (stacked_domain layers) in of_dtype_rank at dtype (view.Stack layers t) (subst HasRank (sym (own-Stack layers t)) (stacked_rank layers all))
    by (Some layer) = refusing _

stacked_if_rank : (at : List ℕ) (dtype : Option Dtype) (r : Result (List View) BuildError) → GiveAll r → Gives (stacked_if at dtype r)
stacked_if_rank at dtype (Ok views) g = stacks_rank at dtype views (g.are views refl)
stacked_if_rank at dtype (Err e) g = refusing e

whole_rank : (r : Reference) → IsRankRef r → HasViewRank (whole_view r)
whole_rank r few =
    let one = length-map r.shape (array_dim r.local) in
    let other = length-map {B = List ℕ} r.shape (λ size. []) in
    subst HasRank (sym (own-Leaf r (identity_over (array_domain r)))) (record { few = omega (arith, few, one); labels = omega (arith, one, other) })

ref_rank : (refs : List Reference) (k : ℕ) → AllByRecursion IsRankRef refs → IsRankRef (get_or refs k no_array)
ref_rank [] k all = omega arith
ref_rank (r ∷ refs) zero all = all.0
ref_rank (r ∷ refs) (suc k) all = ref_rank refs k all.1

-- what a tree builds over such arrays has a rank
pub record Builds (t : Tree) : Type 0 where
  pub over : (arrays : List Reference) → AllByRecursion IsRankRef arrays → Gives (built arrays t)

pub leaf_builds : (leaf : ℕ) (u : Option DomainAndMaps) (at : List ℕ) → MayHaveRank u → Builds (tree.Leaf leaf u at)
leaf_builds leaf u at may = record {
  over = λ arrays all.
      subst Gives (sym (ap (built arrays) (sym (tree.rolls-Leaf leaf u at)) ∙ fold-roll-Tree (Result View BuildError) (built_step arrays) (Tree-F.Leaf leaf u at)))
      (through_rank at u (whole_view (get_or arrays leaf no_array)) may (whole_rank (get_or arrays leaf no_array) (ref_rank arrays leaf all)));
}

pub cast_builds : (to : Dtype) (base : Tree) (u : Option DomainAndMaps) (at : List ℕ) → MayHaveRank u → Builds base → Builds (tree.Cast to base u at)
cast_builds to base u at may b = record {
  over = λ arrays all.
      subst Gives (sym (ap (built arrays) (sym (tree.rolls-Cast to base u at)) ∙ fold-roll-Tree (Result View BuildError) (built_step arrays) (Tree-F.Cast to base u at)))
      (through_if_rank at u (cast_if to (built arrays base)) may (cast_if_rank to (built arrays base) (b.over arrays all)));
}

layers_build : (arrays : List Reference) (layers : List Tree) → AllByRecursion IsRankRef arrays → AllByRecursion Builds layers → AllByRecursion Gives (map (built arrays) layers)
layers_build arrays [] all each = tt
layers_build arrays (l ∷ layers) all each = (each.0.over arrays all, layers_build arrays layers all each.1)

pub stack_builds : (layers : List Tree) (dtype : Option Dtype) (u : Option DomainAndMaps) (at : List ℕ) → MayHaveRank u → AllByRecursion Builds layers → Builds (tree.Stack layers dtype u at)
stack_builds layers dtype u at may each = record {
  over = λ arrays all.
      subst Gives (sym (ap (built arrays) (sym (tree.rolls-Stack layers dtype u at)) ∙ fold-roll-Tree (Result View BuildError) (built_step arrays) (Tree-F.Stack layers dtype u at)))
      (through_if_rank at u (stacked_if at dtype (all_built (map (built arrays) layers))) may
      (stacked_if_rank at dtype (all_built (map (built arrays) layers)) (all_rank (map (built arrays) layers) (layers_build arrays layers all each))));
}
