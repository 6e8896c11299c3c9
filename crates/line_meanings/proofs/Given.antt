-- What holds of each form that the bytes of a line may have.
use Rattle.std.proofs.Common.{◌≡◌, ℕ, Bool, true, false, cond, List, Option, Some, None, Result, Ok, Err, refl, subst}
use Rattle.line_forms.specs.Form.{Form}
use Rattle.line_forms.specs.Parts.{◌>>=◌, where_sound}
use Rattle.line_forms.specs.Within.{within}
use Rattle.line_forms.specs.declared.LineError.{LineError}

module _ (P : Form → Type 0) where
  -- where there is a form, it keeps P
  pub record Gives (r : Result Form LineError) : Type 0 where
    pub each : (form : Form) → r ≡ Ok form → P form

  pub one : (form : Form) → P form → Gives (Ok form)
  one form keeps = record { each = λ made is. let same : form ≡ made = cc in subst P same keeps }

  pub nothing : (e : LineError) → Gives (Err e)
  nothing e = record { each = λ made is. absurd (let no_such : ⊥ = cc in no_such) }

  pub then : {A : Type 0} (r : Result A LineError) (f : A → Result Form LineError) → ((a : A) → r ≡ Ok a → Gives (f a)) → Gives (r >>= f)
  then (Ok a) f keeps = keeps a refl
  then (Err e) f keeps = nothing e

  pub sound : (fault : Option (List ℕ)) (r : Result Form LineError) → Gives r → Gives (where_sound fault r)
  sound None r keeps = keeps
  sound (Some k) r keeps = nothing _

  pub inside : {A : Type 0} (name : List ℕ) (others : Option (List ℕ)) (r : Result A (List ℕ)) (f : A → Result Form LineError) → ((a : A) → Gives (f a)) → Gives (within name others r f)
  inside name others (Ok a) f keeps = sound others (f a) (keeps a)
  inside name others (Err path) f keeps = nothing _

  pub either : (test : Bool) (x y : Result Form LineError) → Gives x → Gives y → Gives (cond test x y)
  either true x y one other = one
  either false x y one other = other
