-- The members of a line: what they hold, and the least that is at fault.
use Rattle.std.specs.Prelude.{ℕ, List, [], Bool, Option, Some, None, option_and_then, is_some, Result, Ok, Err, codes, if◌then◌else◌}
use Rattle.serde_json.specs.Data.{Data}
use Rattle.serde_json.specs.Find.{get}
use Rattle.json_forms.specs.Members.{lesser}
use Rattle.step_forms.specs.Steps.{steps_of_json}
use Rattle.step_forms.specs.declared.act.Step.{Step}
use Rattle.step_forms.specs.declared.error.StepsError.{StepsError}
use Rattle.line_parts.specs.Names.{name_of}
use Rattle.line_parts.specs.declared.error.LineError.{LineError}
use Rattle.line_parts.specs.declared.error.LineError.TheVariants.{Member, Steps}

-- what f gives of a part, where there is one
infixl 10 ◌>>=◌
abbrev pub ◌>>=◌ : {A B : Type 0} → Result A LineError → (A → Result B LineError) → Result B LineError
Ok x >>= f = f x
Err e >>= f = Err e

-- the member is there
abbrev pub has : List ℕ → Data → Bool
has k d = is_some (get k d)

-- the name that a member is
abbrev pub name_at : List ℕ → Data → Option (List ℕ)
name_at k d = option_and_then name_of (get k d)

-- the lesser of two names in byte order, as far as they are there
abbrev pub earlier : Option (List ℕ) → Option (List ℕ) → Option (List ℕ)
earlier None other = other
earlier (Some name) other = Some (lesser name other)

-- the member, where it fails its test
abbrev pub unless_so : Bool → List ℕ → Option (List ℕ)
unless_so test k = if test then None else Some k

-- the member is missing
abbrev pub missing : List ℕ → Data → Option (List ℕ)
missing k d = unless_so (has k d) k

-- the member is missing or no name
abbrev pub no_name : List ℕ → Data → Option (List ℕ)
no_name k d = unless_so (is_some (name_at k d)) k

-- a member's part, which has to be there
abbrev pub needed : {A : Type 0} → List ℕ → Option A → Result A LineError
needed k None = Err (Member k)
needed k (Some x) = Ok x

-- the name that a member has to be
abbrev pub name_in : List ℕ → Data → Result (List ℕ) LineError
name_in k d = needed k (name_at k d)

-- the answer, where no member is at fault
abbrev pub where_sound : {A : Type 0} → Option (List ℕ) → Result A LineError → Result A LineError
where_sound (Some k) r = Err (Member k)
where_sound None r = r

-- the steps, or their fault
abbrev pub steps_read : Result (List Step) StepsError → Result (List Step) LineError
steps_read (Ok steps) = Ok steps
steps_read (Err e) = Err (Steps e)

-- those of a member; none where it is missing
abbrev pub steps_given : Option Data → Result (List Step) LineError
steps_given None = Ok []
steps_given (Some v) = steps_read (steps_of_json v)

-- the steps of a line; none where there is no such member
unfoldable pub steps_in : Data → Result (List Step) LineError
steps_in d = steps_given (get (codes "steps") d)
