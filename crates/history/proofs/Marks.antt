-- Generations as marks.
use Rattle.std.proofs.Common.{◌≡◌, ℕ, ◌≤◌, List, [], length, take, true, sym, ap, subst, ◌∙◌, length-take, arith}
use Rattle.std.specs.List.{AllByRecursion}
use Rattle.std.proofs.lemmas.List.{take-take}
use Rattle.stack_driver.specs.Targets.{Cell}
use Rattle.history.specs.declared.event.Op.{Op}
use Rattle.history.specs.History.{History}
use Rattle.history.specs.Arrays.{known_after}
use Rattle.history.specs.Chunks.{Chunk, chunk_of}
use Rattle.history.specs.Touch.{generation_of}
use Rattle.history.specs.Writes.{Content}
use Rattle.kv_face.specs.Store.{Contents}
use Rattle.history.specs.Content.{content_after, world_after}
use Rattle.history.specs.Reads.{first_reads, marked_world}
use Rattle.history.specs.Legal.{AreReads, is_present_in}
use Rattle.history.proofs.Moments.{content_at_mark}
use Rattle.history.proofs.Presence.{world_some, world_from}
use Rattle.history.proofs.Serial.{IsKeptAt, reads_kept}
use Rattle.history.proofs.Commits.{all_to}

-- each cell as it was at its chunk's mark, also past the shape then
abbrev pub marked_content : Contents → History → (Chunk → ℕ) → Content
marked_content start events marks x = content_after start (take (marks (chunk_of events x)) events) x

-- a cell in the present shape whose chunk has its generation still
pub record IsCurrent (events : History) (generations : Chunk → ℕ) (x : Cell) : Type 0 where
  pub within : generations (chunk_of events x) ≤ length events
  pub same : generation_of events (chunk_of events x) ≤ generations (chunk_of events x)
  pub present : is_present_in (known_after events x.array) x ≡ true

current_kept : (start : Contents) (events : History) (generations : Chunk → ℕ) (x : Cell) → IsCurrent events generations x → IsKeptAt (marked_content start events generations) (world_after start events) x
current_kept start events generations x current w has =
    world_from (known_after events x.array) x (content_after start events x) w current.present (sym (content_at_mark start events x (generations (chunk_of events x)) current.within current.same) ∙ has)

-- Reads at the generations of a footprint that is still current are Reads of the present world; no event's rank or shape is looked at
pub reads_are_current : (start : Contents) (events : History) (generations : Chunk → ℕ) (ops : List Op) → AllByRecursion (IsCurrent events generations) (first_reads [] ops)
    → AreReads (marked_content start events generations) [] ops → AreReads (world_after start events) [] ops
reads_are_current start events generations ops current =
    let f = marked_content start events generations in
    let g = world_after start events in
    reads_kept f g [] ops (all_to (IsCurrent events generations) (IsKeptAt f g) (current_kept start events generations) (first_reads [] ops) current)

-- a mark within the history, and the generation that the chunk had there; the cell is in the same chunk then
pub record IsGenerationAt (events : History) (marks generations : Chunk → ℕ) (x : Cell) : Type 0 where
  pub within : marks (chunk_of events x) ≤ length events
  pub same_chunk : chunk_of (take (marks (chunk_of events x)) events) x ≡ chunk_of events x
  pub generation : generations (chunk_of events x) ≡ generation_of (take (marks (chunk_of events x)) events) (chunk_of events x)
  pub low : generations (chunk_of events x) ≤ marks (chunk_of events x)

generation_kept : (start : Contents) (events : History) (marks generations : Chunk → ℕ) (x : Cell) → IsGenerationAt events marks generations x → IsKeptAt (marked_world start events marks) (marked_content start events generations) x
generation_kept start events marks generations x at w has =
    let c = chunk_of events x in
    let m = marks c in
    let g = generations c in
    let early = take m events in
    let shown = (world_some (known_after early x.array) x (content_after start early x) w has).1 in
    let low = at.low in
    let inside : g ≤ length early = omega (arith, length-take m events, at.within) in
    let small : generation_of early (chunk_of early x) ≤ g = subst (λ d. generation_of early d ≤ g) (sym at.same_chunk) (subst (λ n. n ≤ g) at.generation (omega arith)) in
    ap (λ h. content_after start h x) (sym (take-take g m events low)) ∙ content_at_mark start early x g inside small ∙ shown

-- what a transaction saw at its marks it saw at the generations there
pub reads_at_generations : (start : Contents) (events : History) (marks generations : Chunk → ℕ) (ops : List Op) → AllByRecursion (IsGenerationAt events marks generations) (first_reads [] ops)
    → AreReads (marked_world start events marks) [] ops → AreReads (marked_content start events generations) [] ops
reads_at_generations start events marks generations ops at =
    let f = marked_world start events marks in
    let g = marked_content start events generations in
    reads_kept f g [] ops (all_to (IsGenerationAt events marks generations) (IsKeptAt f g) (generation_kept start events marks generations) (first_reads [] ops) at)
