-- Why views aren't joined.
use Rattle.std.specs.Prelude.{ℕ, ◌+◌, nat_lt, ◌==◌, ◌&&◌, Bool, true, not, ℤ, ◌+ℤ◌, List, [], ◌∷◌, length, map, Option, Some, None, if◌then◌else◌}
use Rattle.std.specs.List.{list_all, position_from}
use Rattle.index_intervals.specs.Bounds.{is_index}
use Rattle.index_intervals.specs.Members.{is_finite}
use Rattle.index_transform.specs.Values.{is_word}
use Rattle.index_transform.specs.declared.map.OutMap.{OutMap}
use Rattle.index_transform.specs.declared.map.OutMap.TheVariants.{Constant, Strided, Indexed}
use Rattle.stack_driver.specs.Counts.{depth_of, greatest_of}
use Rattle.stack_driver.specs.Stacks.{first_unlike}
use Rattle.stack_driver.specs.Views.{look_of, own_transform}
use Rattle.stack_driver.specs.declared.view.View.{View}
use Rattle.layer_join.specs.Slid.{along, slid_offset, shift_to, behind, start_of}
use Rattle.layer_join.specs.declared.error.JoinError.{JoinError}
use Rattle.layer_join.specs.declared.error.JoinError.TheVariants.{Depth, Layers, Axis, Rank, Unbounded, Overflow}

-- in a stack of the views, casts and stacks would stand more than 16 deep around a leaf
abbrev pub is_too_deep : List View → Bool
is_too_deep layers = nat_lt 16 (1 + greatest_of (map depth_of layers))

-- the rank of the first view
abbrev pub rank_of : List View → ℕ
rank_of [] = 0
rank_of (v ∷ vs) = length (look_of v).dims

-- the offset that a map from the axis gets fits 64 bits
abbrev pub can_slide_map : ℕ → ℤ → OutMap → Bool
can_slide_map axis by (Constant offset) = true
can_slide_map axis by (Strided offset stride dim) = if dim == axis then is_word (slid_offset by offset stride) else true
can_slide_map axis by (Indexed offset stride sizes entries) = true

-- the moved interval's bounds are finite indices, and each offset fits 64 bits
abbrev pub can_slide : ℕ → ℤ → View → Bool
can_slide axis by v =
    is_index ((along axis v).lo +ℤ by) && is_index ((along axis v).hi +ℤ by) && list_all (can_slide_map axis by) (own_transform v).maps

-- the first view that can't move to where the one before it ends
abbrev pub first_stuck : ℤ → ℕ → ℕ → List View → Option ℕ
first_stuck next k axis [] = None
first_stuck next k axis (v ∷ vs) = if can_slide axis (shift_to next axis v) v then first_stuck (behind next axis v) (k + 1) axis vs else Some k

-- the first view whose interval on the axis is infinite
abbrev pub first_infinite : ℕ → List View → Option ℕ
first_infinite axis layers = position_from (λ v. not (is_finite (along axis v))) 0 layers

-- the first of two reasons
abbrev pub if_none : Option JoinError → Option JoinError → Option JoinError
if_none (Some e) later = Some e
if_none None later = later

abbrev pub at_layer : (ℕ → JoinError) → Option ℕ → Option JoinError
at_layer cause None = None
at_layer cause (Some layer) = Some (cause layer)

abbrev pub only_if : Bool → JoinError → Option JoinError
only_if test e = if test then Some e else None

-- casts and stacks too deep, or the first view whose dtype or rank differs from the first one's
abbrev pub unlike_refusal : List View → Option JoinError
unlike_refusal layers = if_none (only_if (is_too_deep layers) Depth) (at_layer Layers (first_unlike layers))

-- why views can't be put behind one another
abbrev pub concat_refusal : ℕ → List View → Option JoinError
concat_refusal axis layers =
    if_none (unlike_refusal layers)
    (if_none (only_if (not (nat_lt axis (rank_of layers))) Axis)
    (if_none (at_layer Unbounded (first_infinite axis layers))
    (at_layer Overflow (first_stuck (start_of axis layers) 0 axis layers))))

-- why views can't be put beside one another along a new dimension
abbrev pub stack_refusal : ℕ → List View → Option JoinError
stack_refusal axis layers =
    if_none (unlike_refusal layers)
    (if_none (only_if (nat_lt (rank_of layers) axis) Axis)
    (only_if (nat_lt 32 (rank_of layers + 1)) Rank))
