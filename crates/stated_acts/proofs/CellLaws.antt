-- A view all of whose cells have targets.
use Rattle.std.proofs.Common.{◌≡◌, ℕ, ◌+◌, ℤ, List, [], ◌∷◌, None, Result, Ok, Err, IfErr, OnOk, refl, sym, subst}
use Rattle.history.specs.Viewing.{first_fault, cell_fault}
use Rattle.index_transform.specs.Cells.{cells_of}
use Rattle.stack_driver.specs.Targets.{Target}
use Rattle.stack_driver.specs.Views.{look_of, targets_of}
use Rattle.stack_driver.specs.declared.error.TargetError.{TargetError}
use Rattle.stack_driver.specs.declared.view.View.{View}
use Rattle.stack_targets.specs.Buffers.{first_and, all_or_first, all_targets}
use Rattle.stack_targets.specs.declared.error.TargetsError.{TargetsError}

no_fault : (xs : List (List ℤ)) (ts : List (Result Target TargetError)) (n : ℕ) (got : List Target) → all_or_first n ts ≡ Ok got → first_fault xs ts ≡ None
no_fault [] ts n got is = refl
no_fault (x ∷ xs) [] n got is = refl
no_fault (x ∷ xs) (Ok t ∷ ts) n got is = by (all_or_first (n + 1) ts) (λ more same. no_fault xs ts (n + 1) more same) refl is
  where
    by : (r : Result (List Target) TargetsError) → ((more : List Target) → all_or_first (n + 1) ts ≡ Ok more → first_fault xs ts ≡ None) → all_or_first (n + 1) ts ≡ r → first_and t r ≡ Ok got → first_fault xs ts ≡ None
    by (Ok more) rest same told = rest more same
    by (Err e) rest same told = let no : ⊥ = cc in absurd no
no_fault (x ∷ xs) (Err e ∷ ts) n got is = let no : ⊥ = cc in absurd no

pub found_none : (v : View) (got : List Target) → all_targets v ≡ Ok got → cell_fault v ≡ None
found_none v got is = no_fault (cells_of (look_of v).dims) (targets_of v) 0 got is

-- what holds whatever was answered, and of an answer that is no error
pub ok_holds : {X E : Type 0} (r : Result X E) (P : Type 0) → P → OnOk r P
ok_holds (Ok x) P holds = holds
ok_holds (Err e) P holds = tt

pub no_err : {X E : Type 0} (r : Result X E) (x : X) (P : E → Type 0) → r ≡ Ok x → IfErr r P
no_err r x P is = subst (λ s. IfErr s P) (sym is) tt
