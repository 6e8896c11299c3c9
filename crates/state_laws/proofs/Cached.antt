-- What is kept of chunks, and what is kept of them later.
use Rattle.std.proofs.Common.{◌≡◌, ℕ, List, Bool, true, false, cond, Option, Some, None, refl, sym, ap, subst, ◌∙◌, All, eqb-true}
use Rattle.std.specs.Prelude.{◌==◌, unwrap_or, IfSome}
use Rattle.std.specs.FinMap as finmap
use Rattle.chunk_cache.specs.Cache.{kept, after_hit, after_keep}
use Rattle.chunk_cache.specs.Snapshot.{SnapshotCells}
use Rattle.chunk_cache.proofs.Laws.{All-kept, All-after_hit, All-after_keep}
use Rattle.kv_face.specs.Store.{Contents}
use Rattle.history.specs.Arrays.{Known, known_after, is_local}
use Rattle.history.specs.Chunks.{Chunk, IsIndexOf, key_in, key_of}
use Rattle.history.specs.Generations.{HasKey}
use Rattle.history.specs.Touch.{generation_of}
use Rattle.history.proofs.Laws.{generation_by_table, some_inj}
use Rattle.state_laws.specs.Seen.{StoreSeen}
use Rattle.state_laws.specs.Log.{Log, cells_held}
use Rattle.state_laws.specs.Kept.{AreCellsOf, IsCurrent, IsKept, IsKeptNow}
use Rattle.state_laws.specs.Agreement.{Opening, Agrees, IsState}
use Rattle.state_laws.specs.Fetches.{IsAnswered, IsNamed, MaySettle, kept_of, looked_at, generation_in, settled}
use Rattle.state_laws.proofs.Outline.{one_key_in, one_chunk_in}

-- a chunk's key
key_named : (log : Log) (c : Chunk) (key : List ℕ) (named : IsNamed log.events c key) → key_of log.events c ≡ Some key
key_named log c key named = ap (λ o. key_in o c) named.known ∙ ap Some named.named

known_named : (log : Log) (c : Chunk) (key : List ℕ) (k : Known) (named : IsNamed log.events c key) → known_after log.events c.array ≡ Some k → named.array ≡ k
known_named log c key k named is = some_inj named.array k (sym named.known ∙ is)

-- the generation by the table is the chunk's
pub generation_now : (opening : Opening) (store : StoreSeen) (log : Log) (c : Chunk) (key : List ℕ) (k : Known) → Agrees opening store log → IsNamed log.events c key → known_after log.events c.array ≡ Some k
    → generation_in log k key ≡ generation_of log.events c
generation_now opening store log c key k agrees named is =
    let same = known_named log c key k named is in
    let has : HasKey log.events c key = record { array = named.array; known = named.known; valid = named.valid; named = key_named log c key named } in
    ap (λ (l : Known). unwrap_or (finmap.get log.generations key) l.opened) (sym same) ∙ sym (generation_by_table log.events log.generations c key (one_chunk_in log.events agrees.outline) agrees.generations has)

-- a cache whose entries are kept chunks
agrees_cached : (opening : Opening) (store : StoreSeen) (log : Log) (entries : List (List ℕ × SnapshotCells)) → Agrees opening store log → All (IsKept log.events) entries
    → ((start : Contents) → opening.store.contents ≡ Some start → All (IsKeptNow start log.events) entries) → Agrees opening store (record log { cache = record log.cache { entries = entries } })
agrees_cached opening store log entries is kept now = record {
  frame = is.frame;
  faults = is.faults;
  told = is.told;
  limit = is.limit;
  count = is.count;
  outline = is.outline;
  generations = is.generations;
  mounts = is.mounts;
  kept = kept;
  held = λ a k known local. let was = is.held a k known local in record { snapshot = was.snapshot; held = was.held; cells = was.cells; generation = was.generation };
  holds = λ start told.
      let was = is.holds start told in
      record {
        legal = was.legal;
        contents = was.contents;
        told = was.told;
        represents = was.represents;
        counted = was.counted;
        kept = now start told;
        held = λ a k known local. let held = was.held a k known local in (record { snapshot = held.0.snapshot; held = held.0.held; cells = held.0.cells; generation = held.0.generation }, held.1);
      };
}

-- behind a look into the cache
looked_by : (opening : Opening) (store : StoreSeen) (log : Log) (key : List ℕ) (local : Bool) → Agrees opening store log → Agrees opening store (cond local log (record log { cache = record log.cache { entries = after_hit key log.cache.entries } }))
looked_by opening store log key true is = is
looked_by opening store log key false is =
    agrees_cached opening store log (after_hit key log.cache.entries) is (All-after_hit (IsKept log.events) key log.cache.entries is.kept)
    (λ start told. All-after_hit (IsKeptNow start log.events) key log.cache.entries (is.holds start told).kept)

pub agrees_looked : (opening : Opening) (store : StoreSeen) (log : Log) (k : Known) (key : List ℕ) → Agrees opening store log → Agrees opening store (looked_at log k key)
agrees_looked opening store log k key is = looked_by opening store log key (is_local k.info.home) is

-- and behind a chunk that was settled
module _ (opening : Opening) (store : StoreSeen) (log : Log) (c : Chunk) (key : List ℕ) (k : Known) (snapshot : SnapshotCells) (named : IsNamed log.events c key) (known : known_after log.events c.array ≡ Some k) (may : MaySettle opening log c snapshot)
    (agrees : Agrees opening store log) where
  kept_new : is_local k.info.home ≡ false → (generation_in log k key == snapshot.generation) ≡ true → IsKept log.events (key, snapshot)
  kept_new stored equal =
      let same = known_named log c key k named known in
      record {
        chunk = c;
        array = k;
        known = known;
        stored = stored;
        valid = subst (λ (l : Known). IsIndexOf l.info c.index) same named.valid;
        named = key_named log c key named;
        cells = may.cells k known;
        generation = sym (eqb-true (generation_in log k key) snapshot.generation equal) ∙ generation_now opening store log c key k agrees named known;
      }

  kept_new_now : (stored : is_local k.info.home ≡ false) → (generation_in log k key == snapshot.generation) ≡ true → (start : Contents) → opening.store.contents ≡ Some start → IsKeptNow start log.events (key, snapshot)
  unfolding kept_new
  kept_new_now stored same start told =
      let now = generation_now opening store log c key k agrees named known in
      (kept_new stored same, may.now start k told known (sym (eqb-true (generation_in log k key) snapshot.generation same) ∙ now))

  settled_by : (local same : Bool) → is_local k.info.home ≡ local → (generation_in log k key == snapshot.generation) ≡ same
      → Agrees opening store (cond local log (cond same (record log { cache = record log.cache { entries = after_keep log.cache.limit key snapshot log.cache.entries } }) log))
  settled_by true same is equal = agrees
  settled_by false false is equal = agrees
  settled_by false true is equal =
      agrees_cached opening store log (after_keep log.cache.limit key snapshot log.cache.entries) agrees (All-after_keep (IsKept log.events) log.cache.limit key snapshot log.cache.entries (kept_new is equal) agrees.kept)
      (λ start told. All-after_keep (IsKeptNow start log.events) log.cache.limit key snapshot log.cache.entries (kept_new_now is equal start told) (agrees.holds start told).kept)

  pub agrees_settled : Agrees opening store (settled log k key snapshot)
  agrees_settled = settled_by (is_local k.info.home) (generation_in log k key == snapshot.generation) refl refl

-- what is kept under a chunk's key is the chunk
module _ (store : StoreSeen) (log : Log) (c : Chunk) (key : List ℕ) (k : Known) (snapshot : SnapshotCells) (named : IsNamed log.events c key) (known : known_after log.events c.array ≡ Some k) where
  same_chunk : (opening : Opening) → Agrees opening store log → (entry : IsKept log.events (key, snapshot)) → entry.chunk ≡ c
  same_chunk opening agrees entry =
      one_key_in log.events agrees.outline entry.chunk c entry.array named.array key entry.known named.known entry.valid named.valid entry.named (key_named log c key named)

  same_array : (opening : Opening) → Agrees opening store log → (entry : IsKept log.events (key, snapshot)) → entry.array ≡ k
  same_array opening agrees entry =
      some_inj entry.array k (sym entry.known ∙ ap (λ (d : Chunk). known_after log.events d.array) (same_chunk opening agrees entry) ∙ known)

  cached_cells : (opening : Opening) → Agrees opening store log → kept key log.cache.entries ≡ Some snapshot → AreCellsOf k snapshot
  cached_cells opening agrees is =
      let entry = All-kept (IsKept log.events) key snapshot log.cache.entries is agrees.kept in
      subst (λ l. AreCellsOf l snapshot) (same_array opening agrees entry) entry.cells

  cached_generation : (opening : Opening) → Agrees opening store log → kept key log.cache.entries ≡ Some snapshot → snapshot.generation ≡ generation_of log.events c
  cached_generation opening agrees is =
      let entry = All-kept (IsKept log.events) key snapshot log.cache.entries is agrees.kept in
      entry.generation ∙ ap (generation_of log.events) (same_chunk opening agrees entry)

  cached_now : (opening : Opening) (start : Contents) → Agrees opening store log → opening.store.contents ≡ Some start → kept key log.cache.entries ≡ Some snapshot → IsCurrent start log.events k c snapshot
  cached_now opening start agrees told is =
      let entry = All-kept (IsKeptNow start log.events) key snapshot log.cache.entries is (agrees.holds start told).kept in
      subst (λ d. IsCurrent start log.events k d snapshot) (same_chunk opening agrees entry.0) (subst (λ l. IsCurrent start log.events l entry.0.chunk snapshot) (same_array opening agrees entry.0) entry.1)

  held_cells : (opening : Opening) → Agrees opening store log → is_local k.info.home ≡ true → cells_held log c.array ≡ Some snapshot → AreCellsOf k snapshot
  held_cells opening agrees local is =
      let held = agrees.held c.array k known local in
      subst (AreCellsOf k) (some_inj held.snapshot snapshot (sym held.held ∙ is)) held.cells

  held_generation : (opening : Opening) → Agrees opening store log → is_local k.info.home ≡ true → cells_held log c.array ≡ Some snapshot → snapshot.generation ≡ generation_of log.events c
  held_generation opening agrees local is =
      let held = agrees.held c.array k known local in
      let valid = subst (λ (l : Known). IsIndexOf l.info c.index) (known_named log c key k named known) named.valid in
      ap (λ (s : SnapshotCells). s.generation) (some_inj snapshot held.snapshot (sym is ∙ held.held)) ∙ held.generation c.index valid

  held_now : (opening : Opening) (start : Contents) → Agrees opening store log → opening.store.contents ≡ Some start → is_local k.info.home ≡ true → cells_held log c.array ≡ Some snapshot → IsCurrent start log.events k c snapshot
  held_now opening start agrees told local is =
      let held = (agrees.holds start told).held c.array k known local in
      let valid = subst (λ (l : Known). IsIndexOf l.info c.index) (known_named log c key k named known) named.valid in
      subst (IsCurrent start log.events k c) (some_inj held.0.snapshot snapshot (sym held.0.held ∙ is)) (held.1 c.index valid)

  cells_by : (opening : Opening) → Agrees opening store log → (local : Bool) → is_local k.info.home ≡ local → cond local (cells_held log c.array) (kept key log.cache.entries) ≡ Some snapshot → AreCellsOf k snapshot
  cells_by opening agrees true local is = held_cells opening agrees local is
  cells_by opening agrees false local is = cached_cells opening agrees is

  generation_by : (opening : Opening) → Agrees opening store log → (local : Bool) → is_local k.info.home ≡ local → cond local (cells_held log c.array) (kept key log.cache.entries) ≡ Some snapshot → snapshot.generation ≡ generation_of log.events c
  generation_by opening agrees true local is = held_generation opening agrees local is
  generation_by opening agrees false local is = cached_generation opening agrees is

  now_by : (opening : Opening) (start : Contents) → Agrees opening store log → opening.store.contents ≡ Some start → (local : Bool) → is_local k.info.home ≡ local → cond local (cells_held log c.array) (kept key log.cache.entries) ≡ Some snapshot
      → IsCurrent start log.events k c snapshot
  now_by opening start agrees told true local is = held_now opening start agrees told local is
  now_by opening start agrees told false local is = cached_now opening start agrees told is

  pub answered_kept : IsState store log → kept_of log c.array k key ≡ Some snapshot → IsAnswered store log c snapshot
  answered_kept state is = record {
    generation = generation_by state.0 state.1 (is_local k.info.home) refl is;
    cells = λ l known_too. subst (λ m. AreCellsOf m snapshot) (some_inj k l (sym known ∙ known_too)) (cells_by state.0 state.1 (is_local k.info.home) refl is);
    now = λ opening start l agrees told known_too. subst (λ m. IsCurrent start log.events m c snapshot) (some_inj k l (sym known ∙ known_too)) (now_by opening start agrees told (is_local k.info.home) refl is);
  }

-- the same of an answer that may be none
pub answered_some : (store : StoreSeen) (log : Log) (c : Chunk) (key : List ℕ) (k : Known) (o : Option SnapshotCells) → IsNamed log.events c key → known_after log.events c.array ≡ Some k → IsState store log → o ≡ kept_of log c.array k key
    → IfSome o (λ s. IsAnswered store log c s)
answered_some store log c key k None named known state is = tt
answered_some store log c key k (Some s) named known state is = answered_kept store log c key k s named known state (sym is)
