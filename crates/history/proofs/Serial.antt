-- What a transaction saw is what is there, where no chunk of its footprint was touched since its mark.
use Rattle.std.proofs.Common.{◌≡◌, ℕ, ◌≤◌, List, [], ◌∷◌, ◌++◌, length, map, Bool, true, false, cond, Option, Some, None, Result, Ok, Err, refl, sym, ap, ◌∙◌}
use Rattle.std.specs.Prelude.{fold, filter, filter_map, option_map, not, ◌||◌}
use Rattle.std.specs.List.{AllByRecursion, cons_option}
use Rattle.stack_driver.specs.Targets.{Cell, is_cell, Target, outwards}
use Rattle.stack_driver.specs.Views.{targets_of}
use Rattle.stack_driver.specs.declared.error.TargetError.{TargetError}
use Rattle.history.specs.declared.event.Op.{Op}
use Rattle.history.specs.declared.event.Op.TheVariants.{Write, Read}
use Rattle.history.specs.History.{History}
use Rattle.history.specs.Chunks.{Chunk, chunk_of}
use Rattle.history.specs.Touch.{generation_of}
use Rattle.history.specs.Writes.{Put, puts_of, Content, put, written, shown_in}
use Rattle.kv_face.specs.Store.{Contents}
use Rattle.history.specs.Content.{world_after}
use Rattle.history.specs.Reads.{target_cell, cells_named, is_put, unwritten, first_reads, marked_world}
use Rattle.history.specs.Legal.{IsLegal, AreReads}
use Rattle.history.proofs.Presence.{world_at_mark}

-- a number that is there in one content is there in another
abbrev pub IsKeptAt : Content → Content → Cell → Type 0
IsKeptAt f g x = (w : ℕ) → f x ≡ Some w → g x ≡ Some w

put_kept : (b : Bool) (word : ℕ) (o q : Option ℕ) → (b ≡ false → (w : ℕ) → o ≡ Some w → q ≡ Some w) → (w : ℕ) → cond b (Some word) o ≡ Some w → cond b (Some word) q ≡ Some w
put_kept true word o q kept w has = has
put_kept false word o q kept w has = kept refl w has

-- the same once both were written over, where a cell that isn't written is kept
fold-kept : (puts : List Put) (f g : Content) (x : Cell) → (is_put puts x ≡ false → IsKeptAt f g x) → IsKeptAt (fold put f puts) (fold put g puts) x
fold-kept [] f g x kept = kept refl
fold-kept (p ∷ ps) f g x kept =
    fold-kept ps (put f p) (put g p) x (λ rest. put_kept (is_cell p.0 x) p.1 (f x) (g x) (λ first. kept (ap (λ b. b || is_put ps x) first ∙ rest)))

seen_some : (o q : Option ℕ) (out : ℕ → ℕ) (w : ℕ) → ((v : ℕ) → o ≡ Some v → q ≡ Some v) → option_map out o ≡ Some w → option_map out q ≡ Some w
seen_some None q out w kept has = absurd (cc)
seen_some (Some v) q out w kept has = ap (option_map out) (kept v refl) ∙ has

seen_kept : (f g : Content) (t : Result Target TargetError) (w : ℕ) → AllByRecursion (IsKeptAt f g) (cons_option (target_cell t) []) → shown_in f t ≡ Some w → shown_in g t ≡ Some w
seen_kept f g (Ok t) w kept has = seen_some (f t.cell) (g t.cell) (outwards t.casts) w kept.0 has
seen_kept f g (Err e) w kept has = absurd (cc)

all_first : (P : Cell → Type 0) (o : Option Cell) (xs : List Cell) → AllByRecursion P (cons_option o xs) → AllByRecursion P (cons_option o []) × AllByRecursion P xs
all_first P None xs all = (tt, all)
all_first P (Some x) xs all = ((all.0, tt), all.1)

-- a view that shows its numbers in one content shows them in another that keeps them
values_kept : (f g : Content) (ts : List (Result Target TargetError)) (words : List ℕ) → AllByRecursion (IsKeptAt f g) (filter_map target_cell ts) → map Some words ≡ map (shown_in f) ts → map Some words ≡ map (shown_in g) ts
values_kept f g [] [] kept same = refl
values_kept f g [] (w ∷ ws) kept same = absurd (cc)
values_kept f g (t ∷ ts) [] kept same = absurd (cc)
values_kept f g (t ∷ ts) (w ∷ ws) kept same =
    let parts = all_first (IsKeptAt f g) (target_cell t) (filter_map target_cell ts) kept in
    let head : shown_in f t ≡ Some w = cc in
    let tail : map Some ws ≡ map (shown_in f) ts = cc in
    λ i. sym (seen_kept f g t w parts.0 head) i ∷ values_kept f g ts ws parts.1 tail i

all_filtered : (b : Bool) (P : Cell → Type 0) (x : Cell) (xs : List Cell) → AllByRecursion P (cond (not b) (x ∷ xs) xs) → (b ≡ false → P x) × AllByRecursion P xs
all_filtered true P x xs all = (λ e. absurd (cc), all)
all_filtered false P x xs all = (λ e. all.0, all.1)

-- what an unwritten cell keeps, every cell keeps once the writes were applied
all_written : (before : List Op) (f g : Content) (xs : List Cell) → AllByRecursion (IsKeptAt f g) (filter (λ x. not (is_put (puts_of before) x)) xs) → AllByRecursion (IsKeptAt (written before f) (written before g)) xs
all_written before f g [] kept = tt
all_written before f g (x ∷ xs) kept = let parts = all_filtered (is_put (puts_of before) x) (IsKeptAt f g) x _ kept in (fold-kept (puts_of before) f g x parts.0, all_written before f g xs parts.1)

all_parts : (P : Cell → Type 0) (xs ys : List Cell) → AllByRecursion P (xs ++ ys) → AllByRecursion P xs × AllByRecursion P ys
all_parts P [] ys all = (tt, all)
all_parts P (x ∷ xs) ys all = let rest = all_parts P xs ys all.1 in ((all.0, rest.0), rest.1)

pub all_mapped : (P Q : Cell → Type 0) → ((x : Cell) → P x → Q x) → (xs : List Cell) → AllByRecursion P xs → AllByRecursion Q xs
all_mapped P Q f [] all = tt
all_mapped P Q f (x ∷ xs) all = (f x all.0, all_mapped P Q f xs all.1)

-- Reads of one content are Reads of another that keeps the cells which were read first
pub reads_kept : (f g : Content) (before ops : List Op) → AllByRecursion (IsKeptAt f g) (first_reads before ops) → AreReads f before ops → AreReads g before ops
reads_kept f g before [] kept reads = tt
reads_kept f g before (Write view words ∷ ops) kept reads = reads_kept f g (before ++ Write view words ∷ []) ops kept reads
reads_kept f g before (Read view words ∷ ops) kept reads =
    let parts = all_parts (IsKeptAt f g) (unwritten before view) (first_reads (before ++ Read view words ∷ []) ops) kept in
    (values_kept (written before f) (written before g) (targets_of view) words (all_written before f g (cells_named view) parts.0) reads.0, reads_kept f g (before ++ Read view words ∷ []) ops parts.1 reads.1)

-- no event after its mark touches the chunk of the cell
pub record IsFresh (events : History) (marks : Chunk → ℕ) (x : Cell) : Type 0 where
  pub within : marks (chunk_of events x) ≤ length events
  pub same : generation_of events (chunk_of events x) ≤ marks (chunk_of events x)

fresh_kept : (start : Contents) (events : History) (marks : Chunk → ℕ) → IsLegal start events → (x : Cell) → IsFresh events marks x → IsKeptAt (marked_world start events marks) (world_after start events) x
fresh_kept start events marks legal x fresh w has = world_at_mark start events x w (marks (chunk_of events x)) legal fresh.within fresh.same has

-- where no cell that was read first has a chunk touched since its mark, what the transaction saw is the present world with its own writes
pub reads_are_present : (start : Contents) (events : History) (marks : Chunk → ℕ) → IsLegal start events → (before ops : List Op) → AllByRecursion (IsFresh events marks) (first_reads before ops)
    → AreReads (marked_world start events marks) before ops → AreReads (world_after start events) before ops
reads_are_present start events marks legal before ops fresh seen =
    let f = marked_world start events marks in
    let g = world_after start events in
    reads_kept f g before ops (all_mapped (IsFresh events marks) (IsKeptAt f g) (fresh_kept start events marks legal) (first_reads before ops) fresh) seen
