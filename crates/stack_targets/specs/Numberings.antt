-- How a view's leaves are numbered, from left to right, and along which dimension a stack's layers stand.
use Rattle.std.specs.Prelude.{ℕ, ◌+◌, min, List, [], ◌∷◌, length, map, slice_index_or, Option, None}
use Rattle.index_intervals.specs.Bounds.{Bounds}
use Rattle.stack_driver.specs.declared.view.View.{View, fold-View}
use Rattle.stack_driver.specs.declared.view.View.TheOpen.{View-F}
use Rattle.stack_targets.specs.Axes.{axis_of}
use Rattle.stack_targets.specs.declared.numbering.Numbering.{Numbering, out-Numbering}
use Rattle.stack_targets.specs.declared.numbering.Numbering.TheOpen.{Numbering-F}
use Rattle.stack_targets.specs.declared.numbering.Numbering.TheVariants as numbering

-- how many leaves are numbered, up to 2^32 - 1
abbrev pub size_in : Numbering-F Numbering → ℕ
size_in Numbering-F.Leaf = 1
size_in (Numbering-F.Stack leaves firsts axis layers) = leaves

abbrev pub size_of : Numbering → ℕ
size_of n = size_in (out-Numbering n)

-- the number of each layer's first leaf, by how many leaves the layers have, the first layer beginning at this number
abbrev pub firsts_from : ℕ → List ℕ → List ℕ
firsts_from n [] = []
firsts_from n (size ∷ sizes) = n ∷ firsts_from (min (n + size) 4294967295) sizes

-- the number behind the last layer's leaves
abbrev pub total_from : ℕ → List ℕ → ℕ
total_from n [] = n
total_from n (size ∷ sizes) = total_from (min (n + size) 4294967295) sizes

-- the numbering of a stack, by the rank, the domains and the numberings of its layers
abbrev pub stack_of : ℕ → List (List Bounds) → List Numbering → Numbering
stack_of rank domains layers =
    numbering.Stack (total_from 0 (map size_of layers)) (firsts_from 0 (map size_of layers)) (axis_of rank domains) layers

-- a view's domain, and the numbering of its leaves
pub record Counted : Type 0 where
  pub dims : List Bounds
  pub numbering : Numbering

abbrev pub counted_step : View-F Counted → Counted
counted_step (View-F.Leaf array t) = record { dims = t.domain.dims; numbering = numbering.Leaf }
counted_step (View-F.Cast to base) = base
counted_step (View-F.Stack layers t) = record {
  dims = t.domain.dims;
  numbering =
      stack_of (length t.maps) (map (λ (c : Counted). c.dims) layers) (map (λ (c : Counted). c.numbering) layers);
}

abbrev pub counted_of : View → Counted
counted_of = fold-View Counted counted_step

-- the numbering of a view's leaves
abbrev pub numbering_of : View → Numbering
numbering_of v = (counted_of v).numbering

-- the number of the first leaf of a stack's layer
abbrev pub first_in : Numbering-F Numbering → ℕ → ℕ
first_in Numbering-F.Leaf place = 0
first_in (Numbering-F.Stack leaves firsts axis layers) place = slice_index_or firsts place 0

-- the numbering of a stack's layer, or this one
abbrev pub layer_in : Numbering → Numbering-F Numbering → ℕ → Numbering
layer_in n Numbering-F.Leaf place = n
layer_in n (Numbering-F.Stack leaves firsts axis layers) place = slice_index_or layers place n

-- the dimension along which a stack's layers stand
abbrev pub axis_in : Numbering-F Numbering → Option ℕ
axis_in Numbering-F.Leaf = None
axis_in (Numbering-F.Stack leaves firsts axis layers) = axis
