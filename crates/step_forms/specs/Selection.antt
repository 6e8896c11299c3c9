-- Which dimensions a step selects.
use Rattle.std.specs.Prelude.{◌≡◌, ◌≢◌, ◌<◌, ℕ, zero, suc, ◌+◌, ◌==◌, nat_eq, ℤ, pos, negsuc, ◌+ℤ◌, ◌-ℤ◌, int_le, int_lt, unsigned_abs, Bool, true, false, ◌&&◌, ◌||◌, if◌then◌else◌, List, [], ◌∷◌, ◌++◌, length, Option, Some, None, option_map, option_and_then, Result, Ok, Err}
use Rattle.std.specs.Int.{is_negative}
use Rattle.std.specs.List.{All, list_any, position_from, range_with_len}
use Rattle.std.specs.Cmp.Lexicographic.{pointwise}
use Rattle.json_forms.specs.Lists.{all_of}
use Rattle.index_transform.specs.declared.domain.Domain.{Domain}
use Rattle.step_forms.specs.Steps.{is_newaxis}
use Rattle.step_forms.specs.declared.act.Act.{Act}
use Rattle.step_forms.specs.declared.act.Step.{Step}
use Rattle.step_forms.specs.declared.act.Select.{Select}
use Rattle.step_forms.specs.declared.selection.SelectError.{SelectError}
use Rattle.step_forms.specs.declared.selection.SelectError.TheVariants.{Unknown, Repeated}
use Rattle.step_forms.specs.declared.act.Select.TheVariants as select

-- a negative position counts from the end
abbrev pub from_end : ℕ → ℤ → ℤ
from_end rank x = if is_negative x then x +ℤ pos rank else x

-- the dimension at a position, where there is one
abbrev pub dim_numbered : ℕ → ℤ → Option ℕ
dim_numbered rank x = if int_le (pos 0) x && int_lt x (pos rank) then Some (unsigned_abs x) else None

-- the dimension of a label, where there is one
abbrev pub dim_of_label : List (List ℕ) → List ℕ → Option ℕ
dim_of_label labels label = position_from (λ other. pointwise nat_eq other label) 0 labels

-- a range that is at this number hasn't come to its stop
abbrev pub is_before : ℤ → ℤ → ℤ → Bool
is_before step stop x = if is_negative step then int_lt stop x else int_lt x stop

-- the first so many of the numbers x, x + step and so on up to but without stop
abbrev pub first_before : ℕ → ℤ → ℤ → ℤ → List ℤ
first_before zero step stop x = []
first_before (suc n) step stop x = if is_before step stop x then x ∷ first_before n step stop (x +ℤ step) else []

-- all of them: each is nearer to stop than the one before it
abbrev pub all_before : ℤ → ℤ → ℤ → List ℤ
all_before step stop x = first_before (unsigned_abs (stop -ℤ x)) step stop x

-- where a range starts and stops: a bound that is left out is that of all positions in this direction
abbrev pub range_start : ℕ → ℤ → Option ℤ → ℤ
range_start rank step (Some x) = from_end rank x
range_start rank step None = if is_negative step then pos rank -ℤ pos 1 else pos 0

abbrev pub range_stop : ℕ → ℤ → Option ℤ → ℤ
range_stop rank step (Some x) = from_end rank x
range_stop rank step None = if is_negative step then negsuc 0 else pos rank

-- the dimensions of a selector, where it finds all of them
abbrev pub selected_by : ℕ → List (List ℕ) → Select → Option (List ℕ)
selected_by rank labels (select.Position number) = option_map (λ dim. dim ∷ []) (dim_numbered rank (from_end rank number))
selected_by rank labels (select.Label label) = option_map (λ dim. dim ∷ []) (dim_of_label labels label)
selected_by rank labels (select.Range start stop step) =
    all_of (dim_numbered rank) (all_before step (range_stop rank step stop) (range_start rank step start))

-- those of selectors one after another
abbrev pub selected_by_all : ℕ → List (List ℕ) → List Select → Option (List ℕ)
selected_by_all rank labels [] = Some []
selected_by_all rank labels (selector ∷ selectors) =
    option_and_then (λ dims. option_map (λ more. dims ++ more) (selected_by_all rank labels selectors)) (selected_by rank labels selector)

-- a dimension comes twice
abbrev pub has_repeat : List ℕ → Bool
has_repeat [] = false
has_repeat (dim ∷ dims) = list_any (λ other. other == dim) dims || has_repeat dims

-- how many positions there are: those of the old dimensions, and for `newaxis` those of the new ones
abbrev pub positions_with : Act → ℕ → ℕ → ℕ
positions_with a rank added = if is_newaxis a then rank + added else rank

abbrev pub positions_of : Step → ℕ → ℕ
positions_of step rank = positions_with step.act rank (length step.dims)

abbrev pub unless_repeated : List ℕ → Result (List ℕ) SelectError
unless_repeated dims = if has_repeat dims then Err Repeated else Ok dims

abbrev pub where_known : Option (List ℕ) → Result (List ℕ) SelectError
where_known None = Err Unknown
where_known (Some dims) = unless_repeated dims

-- the dimensions that a step selects, in this order, or why it selects none: an unknown one anywhere comes before a repeated one
abbrev pub selected_of : Step → Domain → Result (List ℕ) SelectError
selected_of step domain =
    if step.all then Ok (range_with_len 0 (length domain.dims))
    else where_known (selected_by_all (positions_of step (length domain.dims)) domain.labels step.dims)

-- a range has a step
abbrev pub HasStep : Select → Type 0
HasStep (select.Position number) = Unit {0}
HasStep (select.Label label) = Unit {0}
HasStep (select.Range start stop step) = step ≢ pos 0

-- the selector is a position
abbrev pub IsPosition : Select → Type 0
IsPosition (select.Position number) = Unit {0}
IsPosition (select.Label label) = ⊥
IsPosition (select.Range start stop step) = ⊥

-- ranges have steps, and new dimensions are given by positions alone
pub record AreSelectors (step : Step) : Type 0 where
  pub ranges : All HasStep step.dims
  pub positions : is_newaxis step.act ≡ true → (step.all ≡ false) × All IsPosition step.dims

-- dimensions that a step may be done on: each is there, and none comes twice
pub record AreSelected (a : Act) (rank : ℕ) (dims : List ℕ) : Type 0 where
  pub known : All (λ dim. dim < positions_with a rank (length dims)) dims
  pub distinct : has_repeat dims ≡ false
