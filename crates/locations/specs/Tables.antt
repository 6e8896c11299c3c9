-- A table of locations, as it is held.
use Rattle.std.specs.Prelude.{◌≡◌, ◌==◌, ℕ, List, [], ◌∷◌, ◌++◌, Option, Some, None, true, false, Vec, if◌then◌else◌}
use Rattle.std.specs.declared.alloc.Global.{Global}
use Rattle.std.specs.Ordering.{is_lt, nat_cmp}
use Rattle.std.specs.Cmp.Lexicographic.{slice_cmp}
use Rattle.std.specs.BTreeMap.{BTreeMap, get_by}
use Rattle.std.specs.FinMap as finmap
use Rattle.locations.specs.Paths.{Located, begins}
use Rattle.locations.specs.declared.table.Place.{Place}

abbrev pub Table : Type 0
Table = BTreeMap (Vec ℕ Global) Place

-- the array at a location
abbrev pub place_at : Table → List ℕ → Option Place
place_at table here = get_by (λ k. slice_cmp nat_cmp here k.items) table

-- the numbers of the arrays that entries have
abbrev pub numbers_of : List (Vec ℕ Global × Place) → Located
numbers_of [] = finmap.empty
numbers_of (e ∷ es) = finmap.insert (numbers_of es) e.0.items e.1.number

-- each array has its location as its text
abbrev pub AreNamed : Table → Type 0
AreNamed table = (here : List ℕ) (p : Place) → place_at table here ≡ Some p → p.text ≡ here

abbrev pub first_or : Option Place → Option Place → Option Place
first_or None other = other
first_or (Some p) other = Some p

-- the array at the shortest part of a location that ends before a "/"
abbrev pub first_above : (List ℕ → Option Place) → List ℕ → List ℕ → Option Place
first_above at before [] = None
first_above at before (b ∷ rest) = first_or (if b == 47 then at before else None) (first_above at (before ++ b ∷ []) rest)

-- the array at a least location that begins so
pub record IsLeastBelow (at : List ℕ → Option Place) (from : List ℕ) (place : Place) : Type 0 where
  pub location : List ℕ
  pub below : begins from location ≡ true
  pub there : at location ≡ Some place
  pub least : (other : List ℕ) (more : Place) → begins from other ≡ true → at other ≡ Some more → is_lt (slice_cmp nat_cmp other location) ≡ false
