-- Parts of a form: what passes a test, and what stands at a member.
use Rattle.std.specs.Prelude.{ℕ, ℤ, List, Bool, Option, Some, None, option_and_then, option_map, is_some, if◌then◌else◌}
use Rattle.serde_json.specs.Data.{Data}
use Rattle.serde_json.specs.Find.{get, as_null}
use Rattle.index_intervals.specs.Bounds.{is_index}
use Rattle.json_forms.specs.Lists.{list_items, all_of}
use Rattle.json_forms.specs.Numbers.{whole_number}

-- what f gives of the value, where there is one
infixl 10 ◌>>=◌
abbrev pub ◌>>=◌ : {A B : Type 0} → Option A → (A → Option B) → Option B
o >>= f = option_and_then f o

-- the value, where the test is passed
abbrev pub where_so : {A : Type 0} → Bool → Option A → Option A
where_so test o = if test then o else None

-- the member is there
abbrev pub has : List ℕ → Data → Bool
has k d = is_some (get k d)

-- a whole number that is a finite index
abbrev pub index_of : Data → Option ℤ
index_of d = do
  z ← whole_number d
  where_so (is_index z) (Some z)

-- null as nothing, or what f gives
abbrev pub or_null : {A : Type 0} → (Data → Option A) → Data → Option (Option A)
or_null f d = if is_some (as_null d) then Some None else option_map Some (f d)

-- what f gives of a member, and nothing where it is left out
abbrev pub left_out_or : {A : Type 0} → (Data → Option (Option A)) → Option Data → Option (Option A)
left_out_or f None = Some None
left_out_or f (Some d) = f d

-- what f gives of each item of a list
abbrev pub list_by : {A : Type 0} → (Data → Option A) → Data → Option (List A)
list_by f d = list_items d >>= all_of f
