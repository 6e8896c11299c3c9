-- Which conflicts a commit may be told, by what its transaction has.
use Rattle.std.proofs.Common.{◌≡◌, ◌∙◌, ◌+◌, ◌<◌, ◌≢◌, ◌||◌, ◌==◌, ℕ, zero, suc, List, [], ◌∷◌, ◌++◌, length, map, get_or, Bool, true, false, Option, Some, None, Result, Ok, Err, refl, sym, ap, subst, arith, eqb-true}
use Rattle.std.specs.Prelude.{◌↔◌, Contains, IsTrue, filter_map, not}
use Rattle.std.specs.FinMap as finmap
use Rattle.std.proofs.lemmas.Option.{slice_get_past}
use Rattle.std.specs.List.{AllByRecursion, slice_get}
use Rattle.std.specs.Str.{bytes_eq}
use Rattle.std.proofs.lemmas.Slice.Eq.{bytes_eq-Decides}
use Rattle.array_homes.specs.Names.{HasRank}
use Rattle.history.specs.declared.array.Home.{Home}
use Rattle.history.specs.declared.array.Home.TheVariants.{Zarr, N5, Zarr3, Local}
use Rattle.history.specs.declared.event.Event.{Event}
use Rattle.history.specs.declared.event.Op.{Op}
use Rattle.history.specs.declared.event.Op.TheVariants.{Write, Read}
use Rattle.history.specs.Arrays.{Known, chunk_shape, chunk_shape_in, known_after}
use Rattle.history.specs.Chunks.{Chunk, chunk_key, chunk_in, chunk_index, chunk_of, key_in, key_of}
use Rattle.history.specs.Commit.{Key, Transaction}
use Rattle.history.specs.Generations.{IsTouched}
use Rattle.history.specs.History.{History}
use Rattle.history.specs.Legal.{HasTarget, is_present, is_present_in}
use Rattle.history.specs.Reads.{cells_named, first_reads, is_put, target_cell, unwritten}
use Rattle.history.specs.Targets.{Cell}
use Rattle.history.specs.Writes.{puts_of}
use Rattle.history.proofs.Laws.{chunk_array, some_inj, valid_of_cell}
use Rattle.line_fits.specs.Fitting.{IsConflictTold, IsOthersTouch}
use Rattle.line_fits.specs.Sweeps.{IsOpIn}
use Rattle.stack_driver.specs.Targets.{Target}
use Rattle.stack_driver.specs.Views.{targets_of}
use Rattle.stack_driver.specs.declared.error.TargetError.{TargetError}
use Rattle.stated_arrays.specs.Outline.{outline, outlined_event}
use Rattle.stated_arrays.specs.declared.Openings.{Openings}
use Rattle.version_store.specs.Ids.{IsChunkIn, id_of}
use Rattle.version_store.specs.declared.store.VersionStore.{VersionStore}
use Rattle.transaction_cells.specs.Staging.{StagedChunk}
use Rattle.read_fits.specs.Conflicts.{AreChunks, AreTablesOf, HasCell, IsArrayOf, IsChunkId, IsMetAt, IsMetIn, IsOthers}
use Rattle.read_fits.specs.Owned.{AreOwn, Id, has_id}
use Rattle.read_fits.proofs.FetchLaws.{infos_kept, known_in}
use Rattle.read_fits.proofs.NeededChunks.{kept_there, or_right}

-- an id of a list is one of it, and one of it stands somewhere
pub has_at : (ids : List Id) (i : ℕ) (d : Id) → i < length ids → has_id ids (get_or ids i d).items ≡ true
has_at [] i d lt = absurd (omega (arith, lt))
has_at (key ∷ ids) zero d lt = ap (λ b. b || has_id ids key.items) ((bytes_eq-Decides key.items key.items).1 refl)
has_at (key ∷ ids) (suc i) d lt = or_right (bytes_eq (get_or ids i d).items key.items) (has_id ids (get_or ids i d).items) (has_at ids i d (omega (arith, lt)))

pub has_place : (ids : List Id) (id : List ℕ) → has_id ids id ≡ true → (i : ℕ) × (i < length ids) × ((d : Id) → (get_or ids i d).items ≡ id)
has_place [] id so = absurd (cc)
has_place (key ∷ ids) id so = by (bytes_eq id key.items) refl (λ rest. has_place ids id rest) so
  where
    by : (b : Bool) → bytes_eq id key.items ≡ b → (has_id ids id ≡ true → (i : ℕ) × (i < length ids) × ((d : Id) → (get_or ids i d).items ≡ id)) → (b || has_id ids id) ≡ true
        → (i : ℕ) × (i < length (key ∷ ids)) × ((d : Id) → (get_or (key ∷ ids) i d).items ≡ id)
    by true same rest more = (zero, omega arith, λ d. sym ((bytes_eq-Decides id key.items).0 same))
    by false same rest more = let found = rest more in let lt = found.1 in (suc found.0, omega arith, λ d. found.2 d)

pub some_id : (ids : List Id) (i : ℕ) → i < length ids → Id
some_id [] i lt = absurd (omega (arith, lt))
some_id (key ∷ ids) i lt = key

-- a test of a length for 0
pub none_left : (n : ℕ) → (n == 0) ≡ true → n ≡ 0
none_left n is = eqb-true n 0 is

pub some_left : (n : ℕ) → (n == 0) ≡ false → 0 < n
some_left zero is = absurd (cc)
some_left (suc n) is = omega arith

-- a text that isn't empty is the id of a chunk
pub chunk_of_id : (id : List ℕ) → 0 < length id → (c : Chunk) × (id ≡ id_of c)
chunk_of_id [] some = absurd (omega (arith, some))
chunk_of_id (array ∷ index) some = (record { array = array; index = index }, refl)

pub id_some : (id : List ℕ) (c : Chunk) → id ≡ id_of c → 0 < length id
id_some id c named = subst (λ (xs : List ℕ). 0 < length xs) (sym named) (omega arith)

-- the cells that Reads name first lie in arrays of the history
abbrev IsHere : History → Cell → Type 0
IsHere h x = is_present h x ≡ true

all_append : (P : Cell → Type 0) (xs ys : List Cell) → AllByRecursion P xs → AllByRecursion P ys → AllByRecursion P (xs ++ ys)
all_append P [] ys all rest = rest
all_append P (x ∷ xs) ys all rest = (all.0, all_append P xs ys all.1 rest)

module _ (h : History) where
  -- a cell that a view names
  named_here : (ts : List (Result Target TargetError)) → AllByRecursion (HasTarget h) ts → AllByRecursion (IsHere h) (filter_map target_cell ts)
  named_here [] all = tt
  named_here (Err e ∷ ts) all = absurd all.0
  named_here (Ok t ∷ ts) all = (all.0, named_here ts all.1)

  reads_here : (before ops : List Op) → AllByRecursion (IsOpIn h) ops → AllByRecursion (IsHere h) (first_reads before ops)
  reads_here before [] all = tt
  reads_here before (Write view words ∷ ops) all = reads_here (before ++ Write view words ∷ []) ops all.1
  reads_here before (Read view words ∷ ops) all =
      all_append (IsHere h) (unwritten before view) (first_reads (before ++ Read view words ∷ []) ops)
      (kept_there (IsHere h) (λ x. not (is_put (puts_of before) x)) (cells_named view) (named_here (targets_of view) all.0.view.targets))
      (reads_here (before ++ Read view words ∷ []) ops all.1)

  -- the chunk of such a cell
  cell_chunk : (x : Cell) (c : Chunk) → IsHere h x → chunk_of h x ≡ c → HasCell h c
  cell_chunk x c here same = by (known_after h x.array) refl here
    where
      array : c.array ≡ x.array
      array = sym (ap (λ (d : Chunk). d.array) same) ∙ chunk_array (known_after h x.array) x

      by : (o : Option Known) → known_after h x.array ≡ o → is_present_in o x ≡ true → HasCell h c
      by None is present = absurd (cc)
      by (Some k) is present = record { array = k; known = ap (known_after h) array ∙ is; cell = x; has = record { chunk = same; present = here } }

  cells_chunk : (xs : List Cell) (c : Chunk) → AllByRecursion (IsHere h) xs → Contains (map (chunk_of h) xs) c → HasCell h c
  cells_chunk [] c all at = absurd (omega (arith, at.1))
  cells_chunk (x ∷ xs) c all (zero, lt, same) = cell_chunk x c all.0 same
  cells_chunk (x ∷ xs) c all (suc i, lt, same) = cells_chunk xs c all.1 (i, omega (arith, lt), same)

  -- the chunks that Reads of the history name first
  pub own_chunks : (upto : ℕ) (ops : List Op) (staged : List StagedChunk) (ids : List Id) → AreOwn h upto ops staged ids → AllByRecursion (IsOpIn h) ops → AreChunks h ids
  own_chunks upto ops staged ids own all c so = cells_chunk (first_reads [] ops) c (reads_here [] ops all) ((own.reads c).1 so)

  -- one of these chunks
  pub chunk_at : (ids : List Id) (i : ℕ) (d : Id) → i < length ids → AreChunks h ids → IsChunkId h (get_or ids i d).items
  chunk_at ids i d lt all c named = all c (ap (has_id ids) (sym named) ∙ has_at ids i d lt)

  pub met_at : (ids : List Id) (i : ℕ) (d : Id) (key : Key) (read now : ℕ) → i < length ids → IsMetAt h key read now (get_or ids i d).items → IsMetIn h key read now ids
  met_at ids i d key read now lt met = (met.0, ap (has_id ids) (sym met.1) ∙ has_at ids i d lt, met.2)

  pub met_place : (ids : List Id) (key : Key) (read now : ℕ) → IsMetIn h key read now ids → (i : ℕ) × (i < length ids) × ((d : Id) → IsMetAt h key read now (get_or ids i d).items)
  met_place ids key read now met = let at = has_place ids (id_of met.0) met.1 in (at.0, at.1, λ d. (met.0, at.2 d, met.2))

-- the rank of a chunk's index
rank_in : (home : Home) (shape index : List ℕ) → length index ≡ length (chunk_shape_in home shape) → HasRank home index
rank_in (Zarr mount path meta) shape index is = is
rank_in (N5 mount path meta) shape index is = is
rank_in (Zarr3 mount path meta) shape index is = is
rank_in (Local start) shape index is = tt

module _ (h : History) (openings : Openings) (store : VersionStore) (tables : AreTablesOf h openings store) where
  -- a chunk with a cell is one that the store tells of
  pub chunk_is : (id : List ℕ) (c : Chunk) → id ≡ id_of c → (has : HasCell h c) → IsChunkIn h has.array c id
  chunk_is id c named has = record { named = named; known = has.known; cell = has.cell; has = has.has }

  known_here : (a : ℕ) (k : Known) → known_after h a ≡ Some k → known_after openings.events a ≡ Some k
  known_here a k is = known_in h openings.events tables.outlined a ∙ is

  -- its array is in the tables
  pub array_is : (c : Chunk) (has : HasCell h c) → IsArrayOf openings c.array has.array
  array_is c has = record {
    number = tables.arrays.numbered c.array has.array (known_here c.array has.array has.known);
    info = infos_kept openings.events openings.opened openings.places tables.arrays c.array has.array (known_here c.array has.array has.known);
  }

  -- and its index has the rank of the array's chunks
  pub rank_is : (c : Chunk) (has : HasCell h c) → HasRank has.array.info.home c.index
  rank_is c has =
      let x = has.cell in
      let k = has.array in
      let array : x.array ≡ c.array = sym (chunk_array (known_after h x.array) x) ∙ ap (λ (d : Chunk). d.array) has.has.chunk in
      let known : known_after h x.array ≡ Some k = ap (known_after h) array ∙ has.known in
      let inside : is_present_in (Some k) x ≡ true = sym (ap (λ o. is_present_in o x) known) ∙ has.has.present in
      let index : chunk_index (chunk_shape k.info) x.index ≡ c.index = ap (λ (d : Chunk). d.index) (sym (ap (λ o. chunk_in o x) known) ∙ has.has.chunk) in
      let valid = valid_of_cell finmap.empty x.array openings.events k x.index tables.arrays.legal (known_here x.array k known) inside in
      rank_in k.info.home k.info.shape c.index (sym (ap length index) ∙ valid.rank)

-- the key of a chunk whose array is known
pub key_named : (h : History) (c : Chunk) (k : Known) (key : Key) → known_after h c.array ≡ Some k → (chunk_key k c.index ≡ key) ↔ (key_of h c ≡ Some key)
key_named h c k key known = (
  λ is. ap (λ o. key_in o c) known ∙ ap Some is,
  λ is. some_inj (chunk_key k c.index) key (sym (ap (λ o. key_in o c) known) ∙ is),
)

-- whether the event at a place is another session's
pub item_at : (events : List Event) (i : ℕ) (d : Event) → i < length events → slice_get events i ≡ Some (get_or events i d)
item_at [] i d lt = absurd (omega (arith, lt))
item_at (e ∷ events) zero d lt = refl
item_at (e ∷ events) (suc i) d lt = item_at events i d (omega (arith, lt))

pub others_at : (events : History) (owner at : ℕ) (e : Event) (other : Bool) → slice_get events at ≡ Some e → IsTrue other ↔ (e.owner ≢ owner) → IsTrue other ↔ IsOthers events owner (at + 1)
others_at events owner at e other there test = (
  (λ so. record { at = at; event = e; place = refl; there = there; other = test.0 so }),
  (λ is.
      let place = is.place in
      let same : is.at ≡ at = omega (arith, place) in
      let one : Some is.event ≡ Some e = sym is.there ∙ ap (slice_get events) same ∙ there in
      let event : is.event ≡ e = some_inj is.event e one in
      test.1 (λ own. is.other (ap (λ (f : Event). f.owner) event ∙ own))),
)

-- an event past the last is no session's
pub none_past : (events : History) (owner number : ℕ) → length events < number → ¬ IsOthers events owner number
none_past events owner number past is =
    let place = is.place in
    let none : slice_get events is.at ≡ None = slice_get_past events is.at (omega (arith, past, place)) in
    let clash : None ≡ Some is.event = sym none ∙ is.there in
    absurd (cc)

-- the event that touches a chunk is another session's by the outline as by the history
event_at : (before later : History) (e : Event) → slice_get (outline (before ++ e ∷ later)) (length before) ≡ Some (outlined_event e)
event_at [] later e = refl
event_at (b ∷ before) later e = event_at before later e

module _ (h events : History) (same : outline h ≡ events) (owner : ℕ) (c : Chunk) (now : ℕ) where
  touch_event : (t : IsTouched h c now) → slice_get events (length t.before) ≡ Some (outlined_event t.event)
  touch_event t = ap (λ g. slice_get g (length t.before)) (sym same ∙ ap outline t.parts) ∙ event_at t.before t.later t.event

  pub others_told : IsOthersTouch h owner c now → IsOthers events owner now
  others_told is =
      let t = is.touch in
      record { at = length t.before; event = outlined_event t.event; place = t.number; there = touch_event t; other = is.other }

  pub others_touch : IsTouched h c now → IsOthers events owner now → IsOthersTouch h owner c now
  others_touch t is =
      let number = t.number in
      let place = is.place in
      let at : length t.before ≡ is.at = omega (arith, number, place) in
      let one : Some (outlined_event t.event) ≡ Some is.event = sym (touch_event t) ∙ ap (slice_get events) at ∙ is.there in
      let event : outlined_event t.event ≡ is.event = some_inj (outlined_event t.event) is.event one in
      record { touch = t; other = λ own. is.other (sym (ap (λ (e : Event). e.owner) event) ∙ own) }

module _ (h : History) (openings : Openings) (store : VersionStore) (tables : AreTablesOf h openings store) (upto : ℕ) (t : Transaction) (staged : List StagedChunk) (ids : List Id) (own : AreOwn h upto t.ops staged ids) (owner : ℕ) (key : Key) (read now : ℕ) where
  -- a conflict that may be told is one of the chunks that the transaction read
  pub told_met : IsConflictTold h owner t key read now → IsMetIn h key read now ids
  told_met is = (is.chunk, (own.reads is.chunk).0 is.was_read, record { named = is.named; touches = record { read_at = is.read_at; now_at = is.now_at.touch } })

  pub told_others : IsConflictTold h owner t key read now → IsOthers openings.events owner now
  told_others is = others_told h openings.events tables.outlined owner is.chunk now is.now_at

  pub met_told : IsTrue t.mode.repeatable_read → read < now → IsOthers openings.events owner now → IsMetIn h key read now ids → IsConflictTold h owner t key read now
  met_told asked later others met = record {
    asked = asked;
    chunk = met.0;
    was_read = (own.reads met.0).1 met.1;
    named = met.2.named;
    later = later;
    read_at = met.2.touches.read_at;
    now_at = others_touch h openings.events tables.outlined owner met.0 now met.2.touches.now_at others;
  }
