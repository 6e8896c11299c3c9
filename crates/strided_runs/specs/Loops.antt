-- Nested loops whose pairs can be cut into runs.
use Rattle.std.specs.Prelude.{ℕ, ◌+◌, ◌-◌, ◌*◌, ◌<◌, ◌==◌, ℤ, pos, ◌+ℤ◌, ◌*ℤ◌, ◌≤ℤ◌, ◌<ℤ◌, unsigned_abs, List, [], ◌∷◌, Bool, ◌&&◌, ◌||◌, map, if◌then◌else◌}
use Rattle.std.specs.List.{flat_map, range_with_len}
use Rattle.std.specs.Ordering.{int_eq}
use Rattle.strided_runs.specs.declared.lines.Loop.{Loop}
use Rattle.cells.specs.Runs.{Pair}

-- a number that a place can be
abbrev pub IsPlace : ℤ → Type 0
IsPlace x = (pos 0 ≤ℤ x) × (x <ℤ pos 4294967296)

-- the chunk's places of so many pairs of a line can be places
abbrev pub ArePlaces : ℕ → ℤ → ℕ → Type 0
ArePlaces chunk step len = (k : ℕ) → k < len → IsPlace (pos chunk +ℤ step *ℤ pos k)

-- each loop runs at least once
abbrev pub AllRun : List Loop → Type 0
AllRun [] = Unit {0}
AllRun (loop ∷ loops) = (0 < loop.times) × AllRun loops

-- how far the last pair's place in the view lies behind the first one's
abbrev pub view_reach : List Loop → ℕ
view_reach [] = 0
view_reach (loop ∷ loops) = loop.view_step * (loop.times - 1) + view_reach loops

-- the places in the view rise: a loop's step leads further than all that the loops in it reach
abbrev pub ViewsRise : List Loop → Type 0
ViewsRise [] = Unit {0}
ViewsRise (loop ∷ loops) = (view_reach loops < loop.view_step) × ViewsRise loops

-- the chunk's places can be places
abbrev pub StayPlaces : List Loop → ℤ → Type 0
StayPlaces [] chunk = IsPlace chunk
StayPlaces (loop ∷ loops) chunk = (k : ℕ) → k < loop.times → StayPlaces loops (chunk +ℤ loop.chunk_step *ℤ pos k)

-- a pair of a line, and so many of them from one on
abbrev pub pair_on : ℕ → ℕ → ℕ → ℤ → ℕ → Pair
pair_on view view_step chunk step k = record { view = view + view_step * k; chunk = unsigned_abs (pos chunk +ℤ step *ℤ pos k) }

abbrev pub pairs_on : ℕ → ℕ → ℕ → ℤ → ℕ → ℕ → List Pair
pairs_on view view_step chunk step from len = map (pair_on view view_step chunk step) (range_with_len from len)

-- the outer loop goes on where the inner one ends, in the view and in the chunk
abbrev pub fits : Loop → Loop → Bool
fits outer inner = outer.view_step == inner.times * inner.view_step && int_eq outer.chunk_step (pos inner.times *ℤ inner.chunk_step)

-- an outer and an inner loop can run as one
abbrev pub run_as_one : Loop → Loop → Bool
run_as_one outer inner = inner.times == 1 || (outer.times == 1 || fits outer inner)

abbrev pub as_one : Loop → Loop → Loop
as_one outer inner =
    if inner.times == 1 then outer
    else record { times = outer.times * inner.times; view_step = inner.view_step; chunk_step = inner.chunk_step }

-- a loop and those in it, each with the next one where the two can run as one
abbrev pub joined : Loop → List Loop → List Loop
joined outer [] = outer ∷ []
joined outer (inner ∷ loops) = if run_as_one outer inner then joined (as_one outer inner) loops else outer ∷ joined inner loops

abbrev pub all_joined : List Loop → List Loop
all_joined [] = []
all_joined (outer ∷ loops) = joined outer loops

-- the pairs of nested loops, the last of which runs fastest, from a first pair on
abbrev pub looped : List Loop → ℕ → ℤ → List Pair
looped [] view chunk = record { view = view; chunk = unsigned_abs chunk } ∷ []
looped (loop ∷ loops) view chunk =
    flat_map (λ k. looped loops (view + loop.view_step * k) (chunk +ℤ loop.chunk_step *ℤ pos k)) (range_with_len 0 loop.times)
