-- What reading gives, or the first faulty member.
use Rattle.std.specs.Prelude.{ℕ, List, Bool, Option, Some, None, Result, Ok, Err, if◌then◌else◌}
use Rattle.transform_json.specs.declared.error.JsonError.{JsonError}
use Rattle.transform_json.specs.declared.error.JsonError.TheVariants.{BadMember}

-- what f gives of the value, or the fault
infixl 10 ◌>>=◌
abbrev pub ◌>>=◌ : {A B : Type 0} → Result A JsonError → (A → Result B JsonError) → Result B JsonError
Ok a >>= f = f a
Err e >>= f = Err e

-- the value, or a fault at this path
abbrev pub found_at : {A : Type 0} → List ℕ → Option A → Result A JsonError
found_at path None = Err (BadMember path)
found_at path (Some a) = Ok a

-- a fault at this path, where a test isn't passed
abbrev pub unless_faulty : List ℕ → Bool → Result (Unit {0}) JsonError
unless_faulty path good = if good then Ok tt else Err (BadMember path)

-- a fault where there is a path
abbrev pub no_fault : Option (List ℕ) → Result (Unit {0}) JsonError
no_fault None = Ok tt
no_fault (Some path) = Err (BadMember path)
