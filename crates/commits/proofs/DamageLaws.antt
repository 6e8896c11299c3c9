-- Damaged chunks that are written in part.
use Rattle.std.proofs.Common.{◌≡◌, ℕ, zero, suc, ◌+◌, List, [], ◌∷◌, length, map, Bool, true, false, cond, Option, Some, None, inl, inr, refl, sym, ap, subst, ◌∙◌, arith}
use Rattle.std.specs.Prelude.{IsSome, Contains, ◌||◌}
use Rattle.std.specs.List.{AllByRecursion, list_any}
use Rattle.cells.specs.Dense.{DenseCells}
use Rattle.cells.specs.Elements.{word_at}
use Rattle.cells.specs.Places.{IsInside}
use Rattle.cells.specs.Shapes.{is_inside}
use Rattle.cells.proofs.Laws.{IsInside-from_test, IsInside-length}
use Rattle.chunk_forms.specs.declared.form.Damage.{Damage}
use Rattle.kv_face.specs.Store.{Contents}
use Rattle.stack_driver.specs.Targets.{Cell}
use Rattle.history.specs.History.{History}
use Rattle.history.specs.Arrays.{Known, known_after, chunk_shape, is_local}
use Rattle.history.specs.Chunks.{Chunk, cell_at, chunk_in, chunk_index, chunk_of, in_array, is_chunk, key_in, key_of, within_chunk}
use Rattle.history.specs.Commit.{Fixed, Key, Transaction, is_before}
use Rattle.history.specs.CommitRows.{HasNoDamage}
use Rattle.history.specs.Content.{content_after}
use Rattle.history.specs.Damaged.{IsDamaged}
use Rattle.history.specs.Legal.{IsLegal, is_present, is_present_in}
use Rattle.history.specs.Refusals as refusals
use Rattle.history.specs.Refusals.{IsDamagedCommit, IsSpoiled, IsWritten}
use Rattle.history.specs.Snapshots.{IsSnapshotOf, chunk_box}
use Rattle.history.specs.Writes.{Put, puts_of}
use Rattle.history.proofs.Laws.{ArePositive, chunk_array, chunk_index-in_array, good_positive, good_rank, known_good, never_itself, no_word_of_damaged, other_way, same_chunks, some_inj}
use Rattle.chunk_plans.specs.Laid as laid
use Rattle.chunk_plans.specs.Agreement.{Opening, Agrees}
use Rattle.chunk_plans.specs.Log.{Log}
use Rattle.chunk_plans.specs.Seen.{StoreSeen}
use Rattle.chunk_plans.specs.declared.plan.Left.{Left}
use Rattle.chunk_plans.specs.declared.plan.Left.TheVariants.{Stored, Held}
use Rattle.chunk_plans.specs.declared.plan.Planned.{Planned}
use Rattle.chunk_plans.specs.Leaving.{IsLeftOf}
use Rattle.chunk_plans.specs.declared.write.ChunkWrite.{ChunkWrite}
use Rattle.chunk_plans.specs.Under.{IsUnder}
use Rattle.chunk_plans.specs.Writes.{IsPlanOf, IsReadyWrite, chunk_of_write}
use Rattle.commits.specs.Planning.{ArePlannedBy, IsDamagedWrite, IsFirstDamaged, IsPlannedBy}
use Rattle.commits.specs.Prepared.{AreWrites, HasWrite, IsPutAmong, IsStagedFor, IsStagedWrite, write_keys}
use Rattle.chunk_plans.specs.Rising.{AreRising}
use Rattle.commits.proofs.OutsideLaws.{put_some, some_put, staged_of_cell}

-- a chunk that is written is among those of the puts
written_among : (events : History) (c : Chunk) (ps : List Put) → list_any (λ p. is_chunk (chunk_of events p.0) c) ps ≡ true → Contains (map (λ (p : Put). chunk_of events p.0) ps) c
written_among events c [] is = absurd (cc)
written_among events c (p ∷ ps) is = by (is_chunk (chunk_of events p.0) c) refl (λ rest. written_among events c ps rest)
  where
    by : (b : Bool) → is_chunk (chunk_of events p.0) c ≡ b → (list_any (λ q. is_chunk (chunk_of events q.0) c) ps ≡ true → Contains (map (λ (q : Put). chunk_of events q.0) ps) c) → Contains (map (λ (q : Put). chunk_of events q.0) (p ∷ ps)) c
    by true same rest = (zero, omega arith, same_chunks (chunk_of events p.0) c same)
    by false other rest =
        let there = rest (sym (ap (λ b. b || list_any (λ q. is_chunk (chunk_of events q.0) c) ps) other) ∙ is) in
        let low = there.1 in
        (suc there.0, omega (arith, low), there.2)

among_write : (events : History) (writes : List ChunkWrite) (c : Chunk) (ps : List Put) → AllByRecursion (λ (p : Put). IsPutAmong events writes p.0) ps → Contains (map (λ (p : Put). chunk_of events p.0) ps) c → HasWrite c writes
among_write events writes c [] all (k, low, is) = absurd (omega (arith, low))
among_write events writes c (p ∷ ps) all (zero, low, is) = subst (λ (d : Chunk). HasWrite d writes) is all.0.write
among_write events writes c (p ∷ ps) all (suc k, low, is) = among_write events writes c ps all.1 (k, omega (arith, low), is)

-- the first index vector of a shape
zeros : List ℕ → List ℕ
zeros [] = []
zeros (n ∷ ns) = 0 ∷ zeros ns

zeros_inside : (ns : List ℕ) → ArePositive ns → IsInside ns (zeros ns)
unfolding zeros
zeros_inside [] positive = tt
zeros_inside (n ∷ ns) positive = (positive.0, zeros_inside ns positive.1)

module _ (start : Contents) (events : History) (t : Transaction) (legal : IsLegal start events) where
  -- staged words cover a chunk exactly where the operations do
  module _ (w : ChunkWrite) (k : Known) (is : IsStagedFor events t.ops w k) where
    abbrev ns : List ℕ
    ns = chunk_shape k.info

    pub covered_to : laid.IsCovered k.shape ns w.chunk.now w.staged.now → refusals.IsCovered events t (chunk_of_write w)
    covered_to covered x here present =
        let array : x.array ≡ w.array = sym (chunk_array (known_after events x.array) x) ∙ ap (λ (c : Chunk). c.array) here in
        let known : known_after events x.array ≡ Some k = ap (known_after events) array ∙ is.known in
        let good = known_good start w.array events legal k is.known in
        let inside : is_inside k.shape x.index ≡ true = sym (ap (λ o. is_present_in o x) known) ∙ present in
        let rank : length x.index ≡ length ns = IsInside-length k.shape x.index (IsInside-from_test k.shape x.index inside) ∙ sym (good_rank w.array k good) in
        let at = staged_of_cell events t.ops w k is x good rank here in
        let within : is_inside k.shape (in_array ns w.chunk.now (within_chunk ns x.index)) ≡ true = ap (λ (y : Cell). is_inside k.shape y.index) at.1 ∙ inside in
        some_put (puts_of t.ops) x (subst IsSome at.2 (covered (within_chunk ns x.index) at.0 within))

    pub covered_from : refusals.IsCovered events t (chunk_of_write w) → laid.IsCovered k.shape ns w.chunk.now w.staged.now
    covered_from covered index inside within =
        let x : Cell = cell_at k (chunk_of_write w) index in
        let at : chunk_index ns x.index ≡ w.chunk.now = chunk_index-in_array ns w.chunk.now index inside is.valid.rank in
        let same : chunk_in (Some k) x ≡ chunk_of_write w = λ i. record { array = w.array; index = at i } in
        let here : chunk_of events x ≡ chunk_of_write w = ap (λ o. chunk_in o x) is.known ∙ same in
        let present : is_present events x ≡ true = ap (λ o. is_present_in o x) is.known ∙ within in
        subst IsSome (sym (is.cells index inside)) (put_some (puts_of t.ops) (λ y. None) x (covered x here present))

  -- a chunk with words isn't damaged
  worded : (w : ChunkWrite) (k : Known) (generation : ℕ) (word : List ℕ → ℕ) (key : Key) (cause : Damage) → IsSnapshotOf start events k (chunk_of_write w) generation word → IsDamaged start events (chunk_of_write w) key cause → ⊥
  worded w k generation word key cause snapshot damaged =
      let array : damaged.array ≡ k = some_inj damaged.array k (sym damaged.known ∙ snapshot.known) in
      let shape : List ℕ = chunk_shape damaged.array.info in
      let good = known_good start w.array events legal damaged.array damaged.known in
      let index : List ℕ = zeros shape in
      let inside : IsInside shape index = zeros_inside shape (good_positive w.array damaged.array good) in
      let none : content_after start events (cell_at damaged.array (chunk_of_write w) index) ≡ None = no_word_of_damaged start events (chunk_of_write w) key cause index damaged inside in
      let box : chunk_box damaged.array.info ≡ shape = ap (λ b. cond b damaged.array.info.shape shape) damaged.stored in
      let some : content_after start events (cell_at damaged.array (chunk_of_write w) index) ≡ Some (word index) =
      subst (λ (l : Known). IsInside (chunk_box l.info) index → content_after start events (cell_at l (chunk_of_write w) index) ≡ Some (word index)) (sym array) (snapshot.cells index) (subst (λ s. IsInside s index) (sym box) inside) in
      let clash : None ≡ Some (word index) = sym none ∙ some in
      absurd (cc)

  -- a chunk that is planned isn't both damaged and written in part
  planned_sound : (w : ChunkWrite) (k : Known) (number : ℕ) (left : Left) (key : Key) (cause : Damage) → known_after events w.array ≡ Some k → IsLeftOf k (chunk_of_write w) left → IsPlanOf start events number k w left → IsDamaged start events (chunk_of_write w) key cause
      → ¬ (laid.IsCovered k.shape (chunk_shape k.info) w.chunk.now w.staged.now) → ⊥
  planned_sound w k number (Stored bytes kept) key cause known is plan damaged partly = by plan.1.base plan.1.under
    where
      by : (base : Option DenseCells) → IsUnder start events k (chunk_of_write w) w.staged.now base → ⊥
      by None covered = partly covered
      by (Some base) under = worded w k under.0 (word_at base) key cause under.1 damaged
  planned_sound w k number (Held a cells) key cause known is plan damaged partly =
      let array : damaged.array ≡ k = some_inj damaged.array k (sym damaged.known ∙ known) in
      let clash : true ≡ false = sym is.0 ∙ ap (λ (l : Known). is_local l.info.home) (sym array) ∙ damaged.stored in
      absurd (cc)

module _ (opening : Opening) (start : Contents) (store : StoreSeen) (log : Log) (fixed : Fixed) (t : Transaction) (agrees : Agrees opening store log) (told : opening.store.contents ≡ Some start) (from : fixed.start ≡ start) where
  legal : IsLegal start log.events
  legal = (agrees.holds start told).legal

  sound_one : (w : ChunkWrite) (p : Planned) (number : ℕ) → IsStagedWrite log.events t.ops w → ((k : Known) → known_after log.events w.array ≡ Some k → IsReadyWrite start log k w) → IsPlannedBy store log number w p → (key : Key) (cause : Damage)
      → IsSpoiled fixed log.events t (chunk_of_write w) key cause → ⊥
  sound_one w p number staged ready planned key cause spoiled =
      planned_sound start log.events t legal w staged.0 number p.left key cause staged.1.known (planned.left staged.0 staged.1.known) (planned.plan opening start staged.0 agrees told staged.1.known (ready staged.0 staged.1.known))
      (subst (λ s. IsDamaged s log.events (chunk_of_write w) key cause) from spoiled.damaged) (λ covered. spoiled.partly (covered_to start log.events t legal w staged.0 staged.1 covered))

  sound_by : (c : Chunk) (key : Key) (cause : Damage) (number step : ℕ) (ws : List ChunkWrite) (ps : List Planned) → AllByRecursion (IsStagedWrite log.events t.ops) ws
      → AllByRecursion (λ (w : ChunkWrite). (k : Known) → known_after log.events w.array ≡ Some k → IsReadyWrite start log k w) ws → ArePlannedBy store log number step ws ps → HasWrite c ws → IsSpoiled fixed log.events t c key cause → ⊥
  sound_by c key cause number step [] ps each ready are has spoiled = has
  sound_by c key cause number step (w ∷ ws) [] each ready are has spoiled = are
  sound_by c key cause number step (w ∷ ws) (p ∷ ps) each ready are (inl here) spoiled = sound_one w p number each.0 ready.0 are.0 key cause (subst (λ (d : Chunk). IsSpoiled fixed log.events t d key cause) (sym here) spoiled)
  sound_by c key cause number step (w ∷ ws) (p ∷ ps) each ready are (inr more) spoiled = sound_by c key cause (number + step) step ws ps each.1 ready.1 are.1 more spoiled

  -- where all writes are planned, no damaged chunk is written in part
  pub no_damage : (number step : ℕ) (ws : List ChunkWrite) (ps : List Planned) → AreWrites log.events t.ops ws → AllByRecursion (λ (w : ChunkWrite). (k : Known) → known_after log.events w.array ≡ Some k → IsReadyWrite start log k w) ws
      → ArePlannedBy store log number step ws ps → HasNoDamage fixed log.events t
  no_damage number step ws ps are ready planned c key cause spoiled = sound_by c key cause number step ws ps are.each ready planned (among_write log.events ws c (puts_of t.ops) are.all spoiled.changed) spoiled

  -- the first that can't be planned
  record IsLeastDamaged (key : Key) (cause : Damage) (ws : List ChunkWrite) : Type 0 where
    write : ChunkWrite
    staged : IsStagedWrite log.events t.ops write
    damaged : IsDamagedWrite store log write key cause
    least : (c : Chunk) (k : Key) (why : Damage) → HasWrite c ws → IsSpoiled fixed log.events t c k why → is_before k key ≡ false

  damaged_there : (w : ChunkWrite) (key : Key) (cause : Damage) → IsDamagedWrite store log w key cause → IsDamaged start log.events (chunk_of_write w) key cause
  damaged_there w key cause damaged = damaged.there opening start agrees told

  key_of_write : (w : ChunkWrite) (c : Chunk) (key : Key) (cause : Damage) (s : Contents) → IsStagedWrite log.events t.ops w → chunk_of_write w ≡ c → IsDamaged s log.events c key cause → key ≡ w.key
  key_of_write w c key cause s staged here damaged =
      some_inj key w.key (sym damaged.named ∙ ap (key_of log.events) (sym here) ∙ ap (λ o. key_in o (chunk_of_write w)) staged.1.known ∙ ap Some staged.1.named)

  behind : (low : Key) (c : Chunk) (k : Key) (why : Damage) (ws : List ChunkWrite) → AllByRecursion (IsStagedWrite log.events t.ops) ws → AllByRecursion (λ other. is_before low other ≡ true) (write_keys ws) → HasWrite c ws → IsSpoiled fixed log.events t c k why → is_before k low ≡ false
  behind low c k why [] each before has spoiled = absurd has
  behind low c k why (w ∷ ws) each before (inl here) spoiled = ap (λ j. is_before j low) (key_of_write w c k why fixed.start each.0 here spoiled.damaged) ∙ other_way low w.key before.0
  behind low c k why (w ∷ ws) each before (inr more) spoiled = behind low c k why ws each.1 before.1 more spoiled

  least_by : (key : Key) (cause : Damage) (number step : ℕ) (ws : List ChunkWrite) → AllByRecursion (IsStagedWrite log.events t.ops) ws → AreRising (write_keys ws)
      → AllByRecursion (λ (w : ChunkWrite). (k : Known) → known_after log.events w.array ≡ Some k → IsReadyWrite start log k w) ws → IsFirstDamaged store log number step ws key cause → IsLeastDamaged key cause ws
  least_by key cause number step [] each rising ready found = absurd found
  least_by key cause number step (w ∷ ws) each rising ready (inl here) = record {
    write = w;
    staged = each.0;
    damaged = here;
    least = λ c k why has spoiled. elim has [
      | inl same ↦ ap (λ j. is_before j key) (key_of_write w c k why fixed.start each.0 same spoiled.damaged) ∙ ap (is_before w.key) named ∙ never_itself w.key
      | inr more ↦ ap (is_before k) named ∙ behind w.key c k why ws each.1 rising.0 more spoiled
    ];
  }
    where
      named : key ≡ w.key
      named = key_of_write w (chunk_of_write w) key cause start each.0 refl (damaged_there w key cause here)
  least_by key cause number step (w ∷ ws) each rising ready (inr (p, planned, rest)) =
      let there = least_by key cause (number + step) step ws each.1 rising.1 ready.1 rest in
      record {
        write = there.write;
        staged = there.staged;
        damaged = there.damaged;
        least = λ c k why has spoiled. elim has [
          | inl same ↦ absurd (sound_one w p number each.0 ready.0 planned k why (subst (λ (d : Chunk). IsSpoiled fixed log.events t d k why) (sym same) spoiled))
          | inr more ↦ there.least c k why more spoiled
        ];
      }

  -- is the least damaged chunk that is written in part
  pub damaged_of : (key : Key) (cause : Damage) (number step : ℕ) (ws : List ChunkWrite) → AreWrites log.events t.ops ws → AllByRecursion (λ (w : ChunkWrite). (k : Known) → known_after log.events w.array ≡ Some k → IsReadyWrite start log k w) ws
      → IsFirstDamaged store log number step ws key cause → IsDamagedCommit fixed log.events t key cause
  damaged_of key cause number step ws are ready found =
      let least = least_by key cause number step ws are.each are.sorted ready found in
      record {
        chunk = chunk_of_write least.write;
        spoiled = record {
          changed = written_among log.events (chunk_of_write least.write) (puts_of t.ops) least.staged.1.written;
          partly = λ covered. least.damaged.partly least.staged.0 least.staged.1.known (covered_from start log.events t legal least.write least.staged.0 least.staged.1 covered);
          damaged = subst (λ s. IsDamaged s log.events (chunk_of_write least.write) key cause) (sym from) (damaged_there least.write key cause least.damaged);
        };
        least = λ c k why spoiled. least.least c k why (among_write log.events ws c (puts_of t.ops) are.all spoiled.changed) spoiled;
      }
