-- What holds of an answer, by what holds of another.
use Rattle.std.proofs.Common.{◌≡◌, List, [], ◌∷◌, Result, Ok, Err, refl, subst}
use Rattle.std.specs.Prelude.{IfOk, IfErr}
use Rattle.std.specs.List.{AllByRecursion}
use Rattle.history.specs.Acts.{changed}
use Rattle.history.specs.Bound.{IsChangeWithin}
use Rattle.history.specs.History.{History}
use Rattle.history.specs.Lines.{Change, ChangeError}
use Rattle.history.specs.Refs.{HasKnownRefs}
use Rattle.stack_driver.specs.declared.view.View.{View}

pub if_ok_map : {T E : Type 0} {P Q : T → Type 0} (r : Result T E) → IfOk r P → ((x : T) → P x → Q x) → IfOk r Q
if_ok_map (Ok x) p f = f x p
if_ok_map (Err e) p f = tt

pub if_ok_both : {T E : Type 0} {P Q R : T → Type 0} (r : Result T E) → IfOk r P → IfOk r Q → ((x : T) → P x → Q x → R x) → IfOk r R
if_ok_both (Ok x) p q f = f x p q
if_ok_both (Err e) p q f = tt

pub if_err_map : {T E : Type 0} {P Q : E → Type 0} (r : Result T E) → IfErr r P → ((e : E) → P e → Q e) → IfErr r Q
if_err_map (Ok x) p f = tt
if_err_map (Err e) p f = f e p

-- what changes make of a view of known arrays is one
pub changed_known : (events : History) (changes : List Change) (v made : View) → AllByRecursion IsChangeWithin changes → HasKnownRefs events v → changed (Ok v) changes ≡ Ok made → HasKnownRefs events made
changed_known events [] v made within refs is = let same : v ≡ made = cc in subst (HasKnownRefs events) same refs
changed_known events (change ∷ changes) v made within refs is = by (change v) (λ w one. within.0 events v w refs one) (λ w known told. changed_known events changes w made within.1 known told) is
  where
    by : (r : Result View ChangeError) → ((w : View) → r ≡ Ok w → HasKnownRefs events w) → ((w : View) → HasKnownRefs events w → changed (Ok w) changes ≡ Ok made → HasKnownRefs events made) → changed r changes ≡ Ok made → HasKnownRefs events made
    by (Ok w) known rest told = rest w (known w refl) told
    by (Err e) known rest told = absurd (let no_such : ⊥ = cc in no_such)
