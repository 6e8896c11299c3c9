-- Writes whose words are all of cells in their arrays' shapes may be planned.
use Rattle.std.proofs.Common.{◌≡◌, ℕ, ◌*◌, ◌/◌, List, [], ◌∷◌, length, Bool, true, false, None, inl, inr, refl, sym, ap, subst, ◌∙◌, arith, nat_lt}
use Rattle.std.specs.Prelude.{◌&&◌, ◌||◌}
use Rattle.std.specs.List.{AllByRecursion, list_any}
use Rattle.std.proofs.Math.Nat.{div-mul-le_self}
use Rattle.std.proofs.lemmas.Bool.Decides.{nat_tests}
use Rattle.cells.specs.Shapes.{is_inside}
use Rattle.cells.proofs.Laws.{true_or_false}
use Rattle.stack_driver.specs.Targets.{Cell, is_cell}
use Rattle.history.specs.declared.event.Op.{Op}
use Rattle.history.specs.History.{History}
use Rattle.history.specs.Arrays.{Known, known_after, chunk_shape, is_local}
use Rattle.history.specs.Chunks.{Chunk, chunk_in, chunk_of, chunk_index, is_chunk}
use Rattle.history.specs.Reads.{is_put}
use Rattle.history.specs.Resizes.{reaches_into}
use Rattle.history.specs.Writes.{Put, puts_of}
use Rattle.history.proofs.Laws.{chunk_array, same_cell, same_chunks, some_inj}
use Rattle.chunk_plans.proofs.Laws.{good_in}
use Rattle.chunk_plans.specs.Agreement.{IsState}
use Rattle.chunk_plans.specs.Log.{Log}
use Rattle.chunk_plans.specs.Seen.{StoreSeen}
use Rattle.chunk_plans.specs.declared.write.ChunkWrite.{ChunkWrite}
use Rattle.chunk_plans.specs.Writes.{IsWrite, chunk_of_write}
use Rattle.commits.specs.Outside.{IsFirstOutside, IsWithin}
use Rattle.commits.specs.Prepared.{AreWrites, IsPutAmong, IsStagedFor, IsStagedWrite}
use Rattle.commits.specs.Writes.{IsSizedWrite}
use Rattle.commits.proofs.OutsideLaws.{put_within}

both : (a b : Bool) → (a && b) ≡ true → (a ≡ true) × (b ≡ true)
both true b h = (refl, h)
both false b h = absurd (cc)

-- the chunk of a cell inside a shape reaches into it
pub reaches_by_cell : (ns ss xs : List ℕ) → length xs ≡ length ns → is_inside ss xs ≡ true → reaches_into ns ss (chunk_index ns xs) ≡ true
reaches_by_cell [] [] [] rank inside = refl
reaches_by_cell [] [] (x ∷ xs) rank inside = absurd (cc)
reaches_by_cell [] (s ∷ ss) [] rank inside = absurd (cc)
reaches_by_cell [] (s ∷ ss) (x ∷ xs) rank inside = absurd (omega (arith, rank))
reaches_by_cell (n ∷ ns) [] [] rank inside = absurd (omega (arith, rank))
reaches_by_cell (n ∷ ns) [] (x ∷ xs) rank inside = absurd (cc)
reaches_by_cell (n ∷ ns) (s ∷ ss) [] rank inside = absurd (cc)
reaches_by_cell (n ∷ ns) (s ∷ ss) (x ∷ xs) rank inside =
    let parts = both (nat_lt x s) (is_inside ss xs) inside in
    ap (λ b. b && reaches_into ns ss (chunk_index ns xs)) (below x n s parts.0) ∙ reaches_by_cell ns ss xs (omega (arith, rank)) parts.1
  where
    below : (x n s : ℕ) → nat_lt x s ≡ true → nat_lt (x / n * n) s ≡ true
    below x n s h = let low = div-mul-le_self x n in grind (arith, nat_tests, h, low)

-- a put in a chunk that operations write
pub record IsPutIn (P : Cell → Type 0) (events : History) (ps : List Put) (c : Chunk) : Type 0 where
  pub cell : Cell
  pub put : is_put ps cell ≡ true
  pub in_chunk : chunk_of events cell ≡ c
  pub holds : P cell

pub put_in : (P : Cell → Type 0) (events : History) (c : Chunk) (ps : List Put) → AllByRecursion (λ (p : Put). P p.0) ps → list_any (λ p. is_chunk (chunk_of events p.0) c) ps ≡ true → IsPutIn P events ps c
put_in P events c [] all is = absurd (cc)
put_in P events c (p ∷ ps) all is = by (is_chunk (chunk_of events p.0) c) refl (λ rest. put_in P events c ps all.1 rest)
  where
    first : (b : Bool) → b ≡ true → (b || is_put ps p.0) ≡ true
    first b h = ap (λ a. a || is_put ps p.0) h

    second : (a b : Bool) → b ≡ true → (a || b) ≡ true
    second true b h = refl
    second false b h = h

    by : (b : Bool) → is_chunk (chunk_of events p.0) c ≡ b → (list_any (λ q. is_chunk (chunk_of events q.0) c) ps ≡ true → IsPutIn P events ps c) → IsPutIn P events (p ∷ ps) c
    by true same rest = record { cell = p.0; put = first (is_cell p.0 p.0) (same_cell p.0); in_chunk = same_chunks (chunk_of events p.0) c same; holds = all.0 }
    by false other rest =
        let there = rest (sym (ap (λ b. b || list_any (λ q. is_chunk (chunk_of events q.0) c) ps) other) ∙ is) in
        record { cell = there.cell; put = second (is_cell p.0 there.cell) (is_put ps there.cell) there.put; in_chunk = there.in_chunk; holds = there.holds }

-- a write that operations stage, of which each word is of a cell in the shape, may be planned
module _ (store : StoreSeen) (log : Log) (ops : List Op) (state : IsState store log) (writes : List ChunkWrite) (are : AreWrites log.events ops writes) where
  planned : (w : ChunkWrite) (k : Known) → IsStagedFor log.events ops w k → IsWithin k w → IsWrite log.events w
  planned w k is within = (
    k,
    record {
      known = is.known;
      valid = is.valid;
      named = is.named;
      reached = ap (reaches_into (chunk_shape k.info) k.shape) (sym index) ∙ reaches_by_cell (chunk_shape k.info) k.shape found.cell.index rank present;
      size = is.size;
      words = is.words;
    },
  )
    where
      found : IsPutIn (IsPutAmong log.events writes) log.events (puts_of ops) (chunk_of_write w)
      found = put_in (IsPutAmong log.events writes) log.events (chunk_of_write w) (puts_of ops) are.all is.written

      array : found.cell.array ≡ w.array
      array = sym (chunk_array (known_after log.events found.cell.array) found.cell) ∙ ap (λ (c : Chunk). c.array) found.in_chunk

      same : found.holds.array ≡ k
      same = some_inj found.holds.array k (sym found.holds.known ∙ ap (known_after log.events) array ∙ is.known)

      rank : length found.cell.index ≡ length (chunk_shape k.info)
      rank = subst (λ (l : Known). length found.cell.index ≡ length (chunk_shape l.info)) same found.holds.rank

      index : chunk_index (chunk_shape k.info) found.cell.index ≡ w.chunk.now
      index = sym (ap (λ o. (chunk_in o found.cell).index) (ap (known_after log.events) array ∙ is.known)) ∙ ap (λ (c : Chunk). c.index) found.in_chunk

      present : is_inside k.shape found.cell.index ≡ true
      present = elim (true_or_false (is_local k.info.home)) [
        | inl local ↦ subst (λ (l : Known). is_local l.info.home ≡ true → is_inside l.shape found.cell.index ≡ true) same found.holds.held local
        | inr stored ↦ put_within log.events ops w k is found.cell (good_in log.events state.1.outline w.array k is.known) rank found.in_chunk (within stored) found.put
      ]

  by_each : (ws : List ChunkWrite) → AllByRecursion (IsStagedWrite log.events ops) ws → IsFirstOutside log.events ws None → AllByRecursion (IsWrite log.events) ws
  by_each [] each none = tt
  by_each (w ∷ ws) each none = (planned w each.0.0 each.0.1 (none.0 each.0.0 each.0.1.known), by_each ws each.1 none.1)

  pub may_plan : IsFirstOutside log.events writes None → AllByRecursion (IsWrite log.events) writes
  may_plan none = by_each writes are.each none

-- staged writes have a place for each cell
pub sized_each : (events : History) (ops : List Op) (ws : List ChunkWrite) → AllByRecursion (IsStagedWrite events ops) ws → AllByRecursion (IsSizedWrite events) ws
sized_each events ops [] each = tt
sized_each events ops (w ∷ ws) each = ((each.0.0, record { known = each.0.1.known; valid = each.0.1.valid; size = each.0.1.size }), sized_each events ops ws each.1)
