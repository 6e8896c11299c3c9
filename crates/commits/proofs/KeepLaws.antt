-- Cells that a commit left may be kept.
use Rattle.std.proofs.Common.{◌≡◌, ℕ, ◌+◌, List, [], ◌∷◌, length, Option, Some, None, Result, Ok, Err, refl, sym, ap, subst, ◌∙◌}
use Rattle.std.specs.Prelude.{OnOk, OnErr}
use Rattle.std.specs.List.{AllByRecursion}
use Rattle.cells.specs.Dense.{DenseCells}
use Rattle.chunk_cache.specs.Snapshot.{SnapshotCells}
use Rattle.kv_face.specs.Store.{Contents}
use Rattle.history.specs.declared.event.Event.{Event}
use Rattle.history.specs.Arrays.{Known, known_after}
use Rattle.history.specs.Chunks.{Chunk, IsIndexOf, chunk_key}
use Rattle.history.specs.Stored.{with_event}
use Rattle.history.specs.Touch.{generation_of}
use Rattle.history.proofs.Laws.{some_inj}
use Rattle.chunk_plans.specs.Agreement.{Opening}
use Rattle.chunk_plans.specs.Fetches.{IsChunkOf, settled}
use Rattle.chunk_plans.specs.Kept.{AreCellsOf, IsCurrent}
use Rattle.chunk_plans.specs.Log.{Log}
use Rattle.chunk_plans.specs.declared.plan.Left.{Left}
use Rattle.chunk_plans.specs.declared.plan.Left.TheVariants.{Stored, Held}
use Rattle.chunk_plans.specs.declared.plan.Planned.{Planned}
use Rattle.chunk_plans.specs.Leaving.{IsLeftOf}
use Rattle.chunk_plans.specs.Writes.{IsSameButCache}
use Rattle.chunk_plans.proofs.Laws.{settled_same, same_by}
use Rattle.commits.specs.Keeping.{LeftChunk, IsChunkLeft, MayKeep, chunk_of_plan, left_by, left_cells}
use Rattle.commits.specs.Plans.{IsPlanned, IsRightLeft, IsRightPlan}

-- behind the event that left them
module _ (log later : Log) (e : Event) (grown : later.events ≡ with_event log.events e) (same : (a : ℕ) → known_after (with_event log.events e) a ≡ known_after log.events a) where
  known_is : (p : Planned) (is : IsPlanned log e p) → known_after later.events p.array ≡ Some is.array
  known_is p is = ap (λ h. known_after h p.array) grown ∙ same p.array ∙ ap (known_after log.events) (sym is.of_array) ∙ is.known

  -- a plan is of a chunk of an array of the history
  chunk_left : (p : Planned) → IsPlanned log e p → IsChunkOf later.events (chunk_of_plan p)
  chunk_left p is = record { array = is.array; known = known_is p is; valid = subst (IsIndexOf is.array.info) is.of_index is.valid }

  chunks_by : (p : Planned) (left : Left) (rest : List LeftChunk) → IsPlanned log e p → AllByRecursion (IsChunkLeft later.events) rest → AllByRecursion (IsChunkLeft later.events) (left_by (chunk_of_plan p) left rest)
  chunks_by p (Stored bytes None) rest is all = all
  chunks_by p (Stored bytes (Some cells)) rest is all = (chunk_left p is, all)
  chunks_by p (Held a snapshot) rest is all = all

  pub chunks_left : (ps : List Planned) → AllByRecursion (IsPlanned log e) ps → AllByRecursion (IsChunkLeft later.events) (left_cells ps)
  chunks_left [] each = tt
  chunks_left (p ∷ ps) each = chunks_by p p.left (left_cells ps) each.0 (chunks_left ps each.1)

  module _ (opening : Opening) where
    -- the cells that are left of a chunk are the chunk
    current_left : (start : Contents) (p : Planned) (bytes : Option (List ℕ)) (cells : DenseCells) → p.left ≡ Stored bytes (Some cells) → (is : IsPlanned log e p) → IsRightPlan start log e p
        → IsCurrent start later.events is.array (chunk_of_plan p) (record { generation = length log.events + 1; cells = cells })
    current_left start p bytes cells left is right =
        let snapshot : SnapshotCells = record { generation = length log.events + 1; cells = cells } in
        let chunk : is.chunk ≡ chunk_of_plan p = λ i. record { array = is.of_array i; index = is.of_index i } in
        let there : IsRightLeft start log e is.array is.chunk (Stored bytes (Some cells)) = subst (IsRightLeft start log e is.array is.chunk) left (right is) in
        subst (λ h. IsCurrent start h is.array (chunk_of_plan p) snapshot) (sym grown) (subst (λ (c : Chunk). IsCurrent start (with_event log.events e) is.array c snapshot) chunk (there.1 cells refl))

    may_one : (p : Planned) (bytes : Option (List ℕ)) (cells : DenseCells) → p.left ≡ Stored bytes (Some cells) → IsPlanned log e p → ((start : Contents) → opening.store.contents ≡ Some start → IsRightPlan start log e p)
        → MayKeep opening later (length log.events + 1) (record { chunk = chunk_of_plan p; cells = cells })
    may_one p bytes cells left is right =
        let snapshot : SnapshotCells = record { generation = length log.events + 1; cells = cells } in
        let stored : IsLeftOf is.array is.chunk (Stored bytes (Some cells)) = subst (IsLeftOf is.array is.chunk) left is.left in
        let of = stored.1 cells refl in
        record {
          cells = λ k known. subst (λ (l : Known). AreCellsOf l snapshot) (some_inj is.array k (sym (known_is p is) ∙ known)) (record { dtype = of.dtype; shape = of.shape });
          now = λ start k told known generation.
              subst (λ (l : Known). IsCurrent start later.events l (chunk_of_plan p) snapshot) (some_inj is.array k (sym (known_is p is) ∙ known)) (current_left start p bytes cells left is (right start told));
        }

    may_by : (p : Planned) (left : Left) (rest : List LeftChunk) → p.left ≡ left → IsPlanned log e p → ((start : Contents) → opening.store.contents ≡ Some start → IsRightPlan start log e p) → AllByRecursion (MayKeep opening later (length log.events + 1)) rest
        → AllByRecursion (MayKeep opening later (length log.events + 1)) (left_by (chunk_of_plan p) left rest)
    may_by p (Stored bytes None) rest left is right all = all
    may_by p (Stored bytes (Some cells)) rest left is right all = (may_one p bytes cells left is right, all)
    may_by p (Held a snapshot) rest left is right all = all

    -- what right plans leave may be kept
    pub may_left : (ps : List Planned) → AllByRecursion (IsPlanned log e) ps → ((start : Contents) → opening.store.contents ≡ Some start → AllByRecursion (IsRightPlan start log e) ps) → AllByRecursion (MayKeep opening later (length log.events + 1)) (left_cells ps)
    may_left [] each right = tt
    may_left (p ∷ ps) each right = may_by p p.left (left_cells ps) refl each.0 (λ start told. (right start told).0) (may_left ps each.1 (λ start told. (right start told).1))

-- cells that may be kept may be so behind a change of the cache alone
pub may_same : (opening : Opening) (log later : Log) (number : ℕ) (l : LeftChunk) → later.events ≡ log.events → MayKeep opening log number l → MayKeep opening later number l
may_same opening log later number l same may = record {
  cells = λ k known. may.cells k (ap (λ h. known_after h l.chunk.array) (sym same) ∙ known);
  now = λ start k told known generation.
      subst (λ h. IsCurrent start h k l.chunk (record { generation = number; cells = l.cells })) (sym same)
      (may.now start k told (ap (λ h. known_after h l.chunk.array) (sym same) ∙ known) (generation ∙ ap (λ h. generation_of h l.chunk) same));
}

-- what was settled, or not, changed the cache alone
pub kept_same : {A E : Type 0} (old new : Log) (c : Chunk) (k : Known) (snapshot : SnapshotCells) (r : Result A E) → known_after old.events c.array ≡ Some k
    → OnOk r ((l : Known) → known_after old.events c.array ≡ Some l → new ≡ settled old l (chunk_key l c.index) snapshot) → OnErr r (new ≡ old) → IsSameButCache old new
kept_same old new c k snapshot (Ok x) known ok err = subst (IsSameButCache old) (sym (ok k known)) (settled_same old k (chunk_key k c.index) snapshot)
kept_same old new c k snapshot (Err e) known ok err = same_by old new err
