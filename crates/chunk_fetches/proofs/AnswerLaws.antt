-- What holds of an answer, by what holds of its parts.
use Rattle.std.proofs.Common.{◌≡◌, subst}
use Rattle.std.specs.Prelude.{IfOk, IsErrAnd, Result, Ok, Err}

pub if_ok_two : {T E : Type 0} {P Q R : T → Type 0} (r : Result T E) → IfOk r P → IfOk r Q → ((x : T) → P x → Q x → R x) → IfOk r R
if_ok_two (Ok x) p q f = f x p q
if_ok_two (Err e) p q f = tt

-- what holds of the error of an answer
pub err_and : {A E : Type 0} (P : E → Type 0) (r : Result A E) (x : E) → r ≡ Err x → IsErrAnd r P → P x
err_and P (Ok a) x is holds = absurd (let no_such : ⊥ = cc in no_such)
err_and {A} {E} P (Err y) x is holds = subst (λ (r : Result A E). IsErrAnd r P) is holds
