-- Faults with the names of their members, and judgements one after another.
use Rattle.std.specs.Prelude.{ℕ, List, Result, Ok, Err}
use Rattle.meta_forms.specs.declared.error.MetaError.{MetaError}
use Rattle.meta_forms.specs.declared.error.MetaError.TheVariants as meta
use Rattle.meta_forms.specs.declared.error.Fault.{Fault}
use Rattle.meta_forms.specs.declared.error.Fault.TheVariants as fault

-- a fault of the member of this name
abbrev pub fault_of : List ℕ → Fault → MetaError
fault_of name fault.Bad = meta.BadMember name
fault_of name fault.Unsupported = meta.Unsupported name

-- what a judgement of the member of this name gives
abbrev pub named : {A : Type 0} → List ℕ → Result A Fault → Result A MetaError
named name (Ok x) = Ok x
named name (Err fault) = Err (fault_of name fault)

-- what f gives of the value, or the first fault
infixl 10 ◌>>=◌
abbrev pub ◌>>=◌ : {A B : Type 0} → Result A MetaError → (A → Result B MetaError) → Result B MetaError
Ok a >>= f = f a
Err e >>= f = Err e
