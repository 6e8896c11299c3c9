-- What reading gives, or the fault at its path; members in byte order.
use Rattle.std.specs.Prelude.{ℕ, List, [], ◌∷◌, ◌++◌, codes, Option, Some, None, Result, Ok, Err, if◌then◌else◌}
use Rattle.meta_forms.specs.declared.error.Fault.{Fault}
use Rattle.meta_forms.specs.declared.error.Fault.TheVariants.{Bad, Unsupported}
use Rattle.want_forms.specs.Asking.{comes_before}
use Rattle.spec_forms.specs.declared.error.SpecError.{SpecError}
use Rattle.spec_forms.specs.declared.error.SpecError.TheVariants as spec

-- a path in the value at a path: behind a slash, also where it is empty, as that of a member with no name; that of the whole value is empty
abbrev pub joined : List ℕ → List ℕ → List ℕ
joined [] inner = inner
joined (b ∷ path) inner = (b ∷ path) ++ 47 ∷ inner

-- a fault at a path
abbrev pub fault_at : List ℕ → Fault → SpecError
fault_at path Bad = spec.BadSpec path
fault_at path Unsupported = spec.Unsupported path

-- what is judged at a path
unfoldable pub at_path : {A : Type 0} → List ℕ → Result A Fault → Result A SpecError
at_path path (Ok x) = Ok x
at_path path (Err fault) = Err (fault_at path fault)

-- what f gives of the value, or the first fault
infixl 10 ◌>>=◌
abbrev pub ◌>>=◌ : {A B : Type 0} → Result A SpecError → (A → Result B SpecError) → Result B SpecError
Ok a >>= f = f a
Err e >>= f = Err e

-- no unknown member of the value at a path comes before this name
unfoldable pub none_before : List ℕ → Option (List ℕ) → List ℕ → Result (Unit {0}) SpecError
none_before path None name = Ok tt
none_before path (Some unknown) name = if comes_before unknown name then Err (spec.BadSpec (joined path unknown)) else Ok tt

-- there is no unknown member
unfoldable pub none_left : List ℕ → Option (List ℕ) → Result (Unit {0}) SpecError
none_left path None = Ok tt
none_left path (Some unknown) = Err (spec.BadSpec (joined path unknown))

-- what is read of a member in its turn: unless an unknown member, the least, comes before it
unfoldable pub in_turn : {A : Type 0} → List ℕ → Option (List ℕ) → List ℕ → Result A SpecError → Result A SpecError
in_turn path unknown name given = none_before path unknown name >>= (λ _. given)

-- what is judged of a member in its turn
unfoldable pub judged_in_turn : {A : Type 0} → List ℕ → Option (List ℕ) → List ℕ → Result A Fault → Result A SpecError
judged_in_turn path unknown name judged = in_turn path unknown name (at_path (joined path name) judged)
