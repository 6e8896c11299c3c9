-- The sizes of chunks beside those of an array.
use Rattle.std.specs.Prelude.{◌≡◌, ◌≤◌, ℕ, List, length, ◌&&◌, nat_le, Option, Some, None, Result, Err, if◌then◌else◌}
use Rattle.meta_forms.specs.Judged.{judged_chunks}
use Rattle.meta_forms.specs.declared.error.Fault.{Fault}
use Rattle.meta_forms.specs.declared.error.Fault.TheVariants.{Bad}

-- the sizes of a chunk where no shape is given: from so many of them to 32
unfoldable pub judged_alone : ℕ → Option (List ℕ) → Result (List ℕ) Fault
judged_alone least None = Err Bad
judged_alone least (Some sizes) =
    if nat_le least (length sizes) && nat_le (length sizes) 32 then judged_chunks (length sizes) (Some sizes) else Err Bad

-- the sizes of a chunk: as many as the shape has items, if it is a list
unfoldable pub judged_beside : ℕ → Option ℕ → Option (List ℕ) → Result (List ℕ) Fault
judged_beside least (Some rank) sizes = judged_chunks rank sizes
judged_beside least None sizes = judged_alone least sizes

-- there are so many sizes, or from so many to 32
abbrev pub HasRank : ℕ → Option ℕ → List ℕ → Type 0
HasRank least (Some rank) sizes = length sizes ≡ rank
HasRank least None sizes = (least ≤ length sizes) × (length sizes ≤ 32)
