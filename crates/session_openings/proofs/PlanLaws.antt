-- The leaves of a sound plan may be asked of the state.
use Rattle.std.proofs.Common.{◌≡◌, ◌≤◌, ℕ, suc, true, cond, List, [], ◌∷◌, length, Option, Ok, Err, refl, sym, ap, ◌∙◌, arith}
use Rattle.std.specs.Prelude.{nat_le}
use Rattle.std.specs.List.{AllByRecursion}
use Rattle.std.proofs.lemmas.Bool.Decides.{nat_tests}
use Rattle.history.specs.Answers as old
use Rattle.history.specs.Answers.{Text}
use Rattle.history.specs.Legal.{IsMount}
use Rattle.sessions.specs.MeaningOpenings.{leaf_of, leaves_from, leaves_of, by_built, build_of}
use Rattle.session_openings.specs.Wanted.{MayBeAsked, MayOpen}
use Rattle.spec_forms.specs.Leaves.{IsSoundLeaf}
use Rattle.spec_forms.specs.declared.leaf.SpecLeaf.{SpecLeaf}
use Rattle.spec_forms.specs.declared.leaf.SpecLeaf.TheVariants.{Zarr, N5, Zarr3, Given}
use Rattle.spec_open.specs.Built.{built}
use Rattle.spec_open.specs.declared.plan.OpenPlan.{OpenPlan}
use Rattle.spec_open.specs.declared.tree.Tree.{Tree}
use Rattle.spec_open.proofs.Laws.{among-keeps}
use Rattle.stack_driver.specs.References.{Reference}
use Rattle.sessions.specs.Agreement.{TakesMount}

module _ (names : Option (List (List ℕ))) (mounts : List Text) (valid : AllByRecursion IsMount mounts) (taken : AllByRecursion (TakesMount names) mounts) where
  asked_one : (node : Text) (leaf : SpecLeaf) → IsSoundLeaf mounts leaf → MayBeAsked names (leaf_of node leaf)
  asked_one node (Zarr mount path want may_open may_create) sound = (among-keeps IsMount mounts mount valid (search (sound.mounted)), among-keeps (TakesMount names) mounts mount taken (search (sound.mounted)))
  asked_one node (N5 mount path want may_open may_create) sound = (among-keeps IsMount mounts mount valid (search (sound.mounted)), among-keeps (TakesMount names) mounts mount taken (search (sound.mounted)))
  asked_one node (Zarr3 mount path want may_open may_create) sound = (among-keeps IsMount mounts mount valid (search (sound.mounted)), among-keeps (TakesMount names) mounts mount taken (search (sound.mounted)))
  asked_one node (Given start) sound = sound.small

  asked_from : (tree : Tree) (number : ℕ) (leaves : List SpecLeaf) → AllByRecursion (IsSoundLeaf mounts) leaves → AllByRecursion (MayBeAsked names) (leaves_from tree number leaves)
  asked_from tree number [] all = tt
  asked_from tree number (leaf ∷ leaves) all = (asked_one _ leaf all.0, asked_from tree (suc number) leaves all.1)

pub may_ask : (names : Option (List (List ℕ))) (plan : OpenPlan) → MayOpen names plan → AllByRecursion (MayBeAsked names) (leaves_of plan)
may_ask names plan may = asked_from names may.mounts may.valid may.taken plan.tree 0 plan.leaves may.sound.each

-- as many leaves are asked as there are
pub length-leaves : (tree : Tree) (number : ℕ) (leaves : List SpecLeaf) → length (leaves_from tree number leaves) ≡ length leaves
length-leaves tree number [] = refl
length-leaves tree number (leaf ∷ leaves) = ap suc (length-leaves tree (suc number) leaves)

-- with an array for each leaf the view is that of the tree
pub build-full : (plan : OpenPlan) (arrays : List Reference) → length arrays ≡ length plan.leaves → build_of plan arrays ≡ by_built (built arrays plan.tree)
build-full plan arrays count =
    let test : nat_le (length plan.leaves) (length arrays) ≡ true = let le : length plan.leaves ≤ length arrays = omega (arith, count) in grind (arith, nat_tests, le) in
    ap (λ b. cond b (by_built (built arrays plan.tree)) (Err ([], old.layers))) test
