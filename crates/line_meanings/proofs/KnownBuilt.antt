-- What is built over known arrays is a view of such.
use Rattle.std.proofs.Common.{◌≡◌, ◌<◌, ◌≤◌, ℕ, zero, suc, Bool, true, false, cond, List, [], ◌∷◌, length, map, get_or, Option, Some, None, Result, Ok, Err, refl, sym, subst, arith}
use Rattle.std.specs.Prelude.{nat_le}
use Rattle.std.specs.List.{AllByRecursion}
use Rattle.std.proofs.lemmas.Bool.Decides.{nat_tests}
use Rattle.cells.specs.declared.dtype.Dtype.{Dtype}
use Rattle.line_answers.specs.Wants.{same_dtype}
use Rattle.index_transform.specs.Identity.{identity_over}
use Rattle.index_transform.specs.Transforms.{DomainAndMaps}
use Rattle.transform_composition.specs.declared.error.ComposeError.{ComposeError}
use Rattle.stack_driver.specs.Arrays.{array_domain, whole_view}
use Rattle.stack_driver.specs.Changes.{moved}
use Rattle.stack_driver.specs.References.{Reference}
use Rattle.stack_driver.specs.Stacks.{stacked_domain, first_unlike, unless_unlike, stack_answer}
use Rattle.stack_driver.specs.Views.{look_of}
use Rattle.stack_driver.specs.declared.view.View.{View}
use Rattle.stack_driver.specs.declared.view.View.TheVariants as view
use Rattle.line_forms.specs.Built.{composed_at, through, through_if, cast_if, before, all_built, of_dtype, stacked_at, stacked_if, no_array, built}
use Rattle.line_forms.specs.Conditions.{IsTree}
use Rattle.line_forms.specs.declared.BuildCause.TheVariants.{Layers}
use Rattle.line_forms.specs.declared.BuildError.{BuildError}
use Rattle.line_forms.specs.declared.BuildError.TheVariants.{Refused}
use Rattle.line_forms.specs.declared.OpenPlan.{OpenPlan}
use Rattle.line_forms.specs.declared.Tree.{Tree, ind-Tree, roll-Tree, map-Tree}
use Rattle.line_forms.specs.declared.Tree.TheOpen.{Tree-F}
use Rattle.line_forms.specs.declared.Tree.TheVariants as tree
use Rattle.line_answers.specs.Answers as told
use Rattle.line_answers.specs.History.{History}
use Rattle.line_answers.specs.Bound.{IsBuildWithin}
use Rattle.line_answers.specs.Refs.{IsKnownRef, HasKnownRefs}
use Rattle.line_meanings.specs.Openings.{by_built, build_of}
use Rattle.line_meanings.proofs.KnownForms.{known_leaf, known_cast, known_stack}
use Rattle.line_meanings.proofs.KnownUnder.{moved_known}
use Rattle.line_meanings.proofs.TreeForms.{built-Leaf, built-Cast, built-Stack, leaf_node, every_base, every_layer}

module _ (events : History) where
  -- where it is a view, it is of known arrays
  record Gives (r : Result View BuildError) : Type 0 where
    are : (made : View) → r ≡ Ok made → HasKnownRefs events made

  record GiveAll (r : Result (List View) BuildError) : Type 0 where
    are : (made : List View) → r ≡ Ok made → AllByRecursion (HasKnownRefs events) made

  refused : (e : BuildError) → Gives (Err e)
  refused e = record { are = λ made is. absurd (cc) }

  one : (v : View) → HasKnownRefs events v → Gives (Ok v)
  one v refs = record { are = λ made is. let same : v ≡ made = cc in subst (HasKnownRefs events) same refs }

  through_known : (at : List ℕ) (transform : Option DomainAndMaps) (v : View) → HasKnownRefs events v → Gives (through at transform v)
  through_known at None v refs = one v refs
  through_known at (Some t) v refs = by (moved v t) refl
    where
      by : (r : Result View ComposeError) → moved v t ≡ r → Gives (composed_at at r)
      by (Ok w) is = one w (moved_known events v w t refs is)
      by (Err cause) is = refused _

  through_if_known : (at : List ℕ) (transform : Option DomainAndMaps) (r : Result View BuildError) → Gives r → Gives (through_if at transform r)
  through_if_known at transform (Ok v) g = through_known at transform v (g.are v refl)
  through_if_known at transform (Err e) g = refused e

  cast_if_known : (to : Dtype) (r : Result View BuildError) → Gives r → Gives (cast_if to r)
  cast_if_known to (Ok v) g = one (view.Cast to v) (known_cast events to v (g.are v refl))
  cast_if_known to (Err e) g = refused e

  before_known : (v : View) (r : Result (List View) BuildError) → HasKnownRefs events v → GiveAll r → GiveAll (before v r)
  before_known v (Ok vs) refs g = record { are = λ made is. let same : v ∷ vs ≡ made = cc in subst (AllByRecursion (HasKnownRefs events)) same (refs, g.are vs refl) }
  before_known v (Err e) refs g = record { are = λ made is. absurd (cc) }

  all_known : (rs : List (Result View BuildError)) → AllByRecursion Gives rs → GiveAll (all_built rs)
  all_known [] all = record { are = λ made is. let same : [] ≡ made = cc in subst (AllByRecursion (HasKnownRefs events)) same tt }
  all_known (Ok v ∷ rest) all = before_known v (all_built rest) (all.0.are v refl) (all_known rest all.1)
  all_known (Err e ∷ rest) all = record { are = λ made is. absurd (cc) }

  of_dtype_known : (at : List ℕ) (dtype : Option Dtype) (v : View) → HasKnownRefs events v → Gives (of_dtype at dtype v)
  of_dtype_known at None v refs = one v refs
  of_dtype_known at (Some dtype) v refs = by (same_dtype dtype (look_of v).dtype)
    where
      by : (test : Bool) → Gives (cond test (Ok v) (Err (Refused at Layers)))
      by true = one v refs
      by false = refused _

  stacked_known : (at : List ℕ) (dtype : Option Dtype) (layers : List View) → AllByRecursion (HasKnownRefs events) layers → Gives (stacked_at at dtype (stack_answer layers))
  stacked_known at dtype layers all = by (first_unlike layers)
    where
      by : (o : Option ℕ) → Gives (stacked_at at dtype (unless_unlike o layers))
      by None = of_dtype_known at dtype (view.Stack layers (identity_over (stacked_domain layers))) (known_stack events layers (identity_over (stacked_domain layers)) all)
      by (Some layer) = refused _

  stacked_if_known : (at : List ℕ) (dtype : Option Dtype) (r : Result (List View) BuildError) → GiveAll r → Gives (stacked_if at dtype r)
  stacked_if_known at dtype (Ok views) g = stacked_known at dtype views (g.are views refl)
  stacked_if_known at dtype (Err e) g = refused e

  known_at : (arrays : List Reference) (k : ℕ) (d : Reference) → k < length arrays → AllByRecursion (IsKnownRef events) arrays → IsKnownRef events (get_or arrays k d)
  known_at [] k d less all = absurd (omega (arith, less))
  known_at (a ∷ arrays) zero d less all = all.0
  known_at (a ∷ arrays) (suc k) d less all = known_at arrays k d (omega (arith, less)) all.1

  module _ (arrays : List Reference) (count : ℕ) (enough : count ≤ length arrays) (all : AllByRecursion (IsKnownRef events) arrays) where
    Builds : Tree → Type 0
    Builds t = IsTree count t → Gives (built arrays t)

    layers_built : (ys : List ((z : Tree) × Builds z)) → AllByRecursion (IsTree count) (map (λ (y : (z : Tree) × Builds z). y.0) ys) → AllByRecursion Gives (map (built arrays) (map (λ (y : (z : Tree) × Builds z). y.0) ys))
    unfolding Builds
    layers_built [] trees = tt
    layers_built (y ∷ ys) trees = (y.1 trees.0, layers_built ys trees.1)

    builds_step : (x : Tree-F Tree) (y : Tree-F ((z : Tree) × Builds z)) → map-Tree ((z : Tree) × Builds z) Tree (λ e. e.0) y ≡ x → Builds (roll-Tree x)
    unfolding Builds
    builds_step x (Tree-F.Leaf leaf u at) e =
        subst (λ z. Builds (roll-Tree z)) e
        (subst Builds (sym (tree.rolls-Leaf leaf u at))
        (λ is_tree.
        let less : leaf < length arrays = omega (arith, enough, leaf_node count leaf u at is_tree) in
        let array = get_or arrays leaf no_array in
        subst Gives (sym (built-Leaf arrays leaf u at))
        (through_known at u (whole_view array) (known_leaf events array (identity_over (array_domain array)) (known_at arrays leaf no_array less all)))))
    builds_step x (Tree-F.Cast to p u at) e =
        subst (λ z. Builds (roll-Tree z)) e
        (subst Builds (sym (tree.rolls-Cast to p.0 u at))
        (λ is_tree. subst Gives (sym (built-Cast arrays to p.0 u at))
        (through_if_known at u (cast_if to (built arrays p.0)) (cast_if_known to (built arrays p.0) (p.1 (every_base count to p.0 u at is_tree))))))
    builds_step x (Tree-F.Stack ys dtype u at) e =
        let layers = map (λ (y : (z : Tree) × Builds z). y.0) ys in
        subst (λ z. Builds (roll-Tree z)) e
        (subst Builds (sym (tree.rolls-Stack layers dtype u at))
        (λ is_tree. subst Gives (sym (built-Stack arrays layers dtype u at))
        (through_if_known at u (stacked_if at dtype (all_built (map (built arrays) layers)))
        (stacked_if_known at dtype (all_built (map (built arrays) layers)) (all_known (map (built arrays) layers) (layers_built ys (every_layer count layers dtype u at is_tree)))))))

    built_known : (t : Tree) → IsTree count t → Gives (built arrays t)
    unfolding Builds
    built_known t = ind-Tree Builds builds_step t

-- no Spec brings in an array
pub build_within : (plan : OpenPlan) → IsTree (length plan.leaves) plan.tree → IsBuildWithin (build_of plan)
build_within plan over events arrays made all e = enough_or (nat_le (length plan.leaves) (length arrays)) refl e
  where
    by : (r : Result View BuildError) → Gives events r → by_built r ≡ Ok made → HasKnownRefs events made
    by (Ok v) g given = let same : v ≡ made = cc in subst (HasKnownRefs events) same (g.are v refl)
    by (Err cause) g given = absurd (cc)

    enough_or : (test : Bool) → nat_le (length plan.leaves) (length arrays) ≡ test → cond test (by_built (built arrays plan.tree)) (Err ([], told.layers)) ≡ Ok made → HasKnownRefs events made
    enough_or true is given =
        by (built arrays plan.tree) (built_known events arrays (length plan.leaves) (grind (arith, nat_tests, is)) all plan.tree over) given
    enough_or false is given = absurd (cc)
