-- Words that are put into a chunk.
use Rattle.std.proofs.Common.{◌≡◌, ◌<◌, ◌≤◌, inl, inr, ℕ, ◌+◌, ◌-◌, List, [], ◌∷◌, ◌++◌, length, get_or, Bool, true, false, cond, Some, None, refl, sym, ap, subst, ◌∙◌, arith, append_assoc, append-nil, eqb-true, eq-eqb}
use Rattle.std.specs.Prelude.{◌==◌, ◌&&◌, nat_le, slice_index, All, if◌then◌else◌}
use Rattle.std.specs.FinMap as finmap
use Rattle.std.specs.List.{AllByRecursion}
use Rattle.std.specs.Str.{bytes_eq}
use Rattle.std.proofs.lemmas.List.{get_or_push, length_push}
use Rattle.std.proofs.lemmas.List.Elements.{All-from_recursion}
use Rattle.std.proofs.lemmas.Slice.Eq.{bytes_eq-Decides}
use Rattle.cells.proofs.Laws.{IsInside-length, c_place-lt, true_or_false, not_both, less_or_not}
use Rattle.history.specs.Arrays.{Known, known_after, chunk_shape}
use Rattle.history.specs.Chunks.{Chunk, is_chunk, within_chunk}
use Rattle.history.specs.History.{History}
use Rattle.history.specs.Legal.{IsLegal}
use Rattle.history.specs.Targets.{Cell}
use Rattle.history.specs.Writes.{Put}
use Rattle.history.proofs.Laws.{known_good, good_rank, good_positive, inside_within, inside-from, none_is_none, some_inj}
use Rattle.cells.specs.Places.{cell_count}
use Rattle.chunk_versions.specs.Moments.{newest, touched}
use Rattle.chunk_versions.specs.Versions.{Versions, IsVersions, word_as_of, word_if}
use Rattle.version_laws.specs.Kept.{place_in, IsCellOf, ArePartVersionsOf}
use Rattle.version_laws.proofs.Cells.{cell_inside}
use Rattle.version_laws.proofs.Laws.{part_low, part_put, part_elsewhere}
use Rattle.version_store.specs.Ids.{id_of, found, IsChunkIn}
use Rattle.version_store.specs.Openings.{no_opening, IsNew, IsKeptAs}
use Rattle.version_store.specs.Putting.{IsWordOf, AreWordsOf, ArePutIn, HasRoom, HasRoomUnder, AreOver, HasPut}
use Rattle.version_store.specs.Stores.{opening_under, IsKeptUnder, IsPartStoreOf}
use Rattle.version_store.specs.declared.opening.Opening.{Opening}
use Rattle.version_store.specs.declared.placed.PlacedWord.{PlacedWord}
use Rattle.version_store.specs.declared.store.VersionStore.{VersionStore}

-- with a number as the last of them it is the newest
pub newest-touched : (n : ℕ) (ns : List ℕ) → newest (touched n ns) ≡ n
newest-touched n ns = by (newest ns == n) refl where
  by : (b : Bool) → (newest ns == n) ≡ b → newest (cond b ns (ns ++ n ∷ [])) ≡ n
  by true same = eqb-true (newest ns) n same
  by false other = let more = length_push ns n in get_or_push ns n 0 (length (ns ++ n ∷ []) - 1) (omega (arith, more))

-- the place of a cell of a chunk lies in it
place_low : (h : History) (k : Known) (c : Chunk) (x : Cell) → IsLegal finmap.empty h → known_after h c.array ≡ Some k → IsCellOf h c x → place_in k x < cell_count (chunk_shape k.info)
place_low h k c x legal known cell =
    let good = known_good finmap.empty c.array h legal k known in
    let inside = inside-from k.shape x.index (cell_inside h k c x cell known) in
    let rank : length x.index ≡ length (chunk_shape k.info) = IsInside-length k.shape x.index inside ∙ sym (good_rank c.array k good) in
    c_place-lt (chunk_shape k.info) (within_chunk (chunk_shape k.info) x.index) (inside_within (chunk_shape k.info) x.index rank (good_positive c.array k good))

-- so do those of words
words_low : (h : History) (k : Known) (c : Chunk) → IsLegal finmap.empty h → known_after h c.array ≡ Some k → (words : List PlacedWord) (ps : List Put) → AreWordsOf h k c words ps → AllByRecursion (λ (w : PlacedWord). w.place < cell_count (chunk_shape k.info)) words
words_low h k c legal known [] ps all = tt
words_low h k c legal known (w ∷ words) [] all = absurd all
words_low h k c legal known (w ∷ words) (p ∷ ps) all =
    (subst (λ place. place < cell_count (chunk_shape k.info)) (sym all.0.place) (place_low h k c p.0 legal known all.0.cell), words_low h k c legal known words ps all.1)

-- where words are put at cells of a chunk, the versions that are kept have room for them
pub has_room : (s : VersionStore) (h : History) (puts : List Put) (k : Known) (c : Chunk) (ps : List Put) (number : ℕ) (id : List ℕ) (words : List PlacedWord) → IsPartStoreOf h puts s → ArePutIn h k c ps number id words → HasRoomUnder s number id words
has_room s h puts k c ps number id words store put v kept is =
    let part = store.chunks k c id v put.chunk is kept in
    let low = part_low h k c puts v is part in
    let now = put.next in
    record {
      newest = omega (arith, low, now);
      places = subst (λ size. All (λ (w : PlacedWord). w.place < size) words) (sym part.size)
          (All-from_recursion (λ (w : PlacedWord). w.place < cell_count (chunk_shape k.info)) words (words_low h k c put.legal put.chunk.known words ps put.cells));
    }

-- a chunk that is new has room for words at its places
pub new_room : (o : Opening) (number : ℕ) (words : List PlacedWord) (v : Versions) → o.opened ≤ number → All (λ (w : PlacedWord). w.place < o.size) words → IsNew o v → HasRoom number words v
new_room o number words v low places new = record {
  newest = subst (λ ts. newest ts ≤ number) (sym new.touches) low;
  places = subst (λ size. All (λ (w : PlacedWord). w.place < size) words) (sym new.size) places;
}

-- the versions of a chunk that only its opening touched
abbrev new_versions : Opening → Versions
new_versions o = record { size = o.size; fill = o.fill; touches = o.opened ∷ []; last = []; puts = [] }

new_valid : (o : Opening) → IsVersions (new_versions o)
new_valid o = record {
  opened = omega arith;
  rising = record { each = λ i j less within. absurd (omega (arith, less, within)) };
  table = inl refl;
  links = λ place. omega arith;
  linked = record { before = λ k within. absurd (omega (arith, within)); behind = λ k within. absurd (omega (arith, within)) };
}

new_is : (o : Opening) → IsNew o (new_versions o)
new_is o = record { size = refl; touches = refl; words = λ m place. by m place (nat_le o.opened m) } where
  by : (m place : ℕ) (b : Bool) → word_if (new_versions o) place (cond b 1 0) ≡ cond b (Some o.fill) None
  by m place true = refl
  by m place false = refl

-- where words may be put under an id, what is kept there has room
pub kept_has : (s : VersionStore) (number : ℕ) (id : List ℕ) (words : List PlacedWord) (w : Versions) → Some w ≡ found s.chunks.entries id → IsVersions w → HasRoomUnder s number id words → HasRoom number words w
kept_has s number id words w entry valid room = room w (subst (λ o. IsKeptAs (opening_under s id) o w) entry refl) valid

-- and where nothing is kept the array has the places, and was opened before
pub record AreInNew (o : Opening) (number : ℕ) (words : List PlacedWord) : Type 0 where
  pub opened : o.opened ≤ number
  pub places : All (λ (w : PlacedWord). w.place < o.size) words

pub new_has : (s : VersionStore) (number : ℕ) (id : List ℕ) (words : List PlacedWord) → None ≡ found s.chunks.entries id → HasRoomUnder s number id words → AreInNew (opening_under s id) number words
new_has s number id words entry room =
    let o = opening_under s id in
    let has = room (new_versions o) (subst (λ k. IsKeptAs o k (new_versions o)) entry (new_is o)) (new_valid o) in
    record { opened = has.newest; places = has.places }

-- what is kept of a chunk has room
pub room_kept : (s : VersionStore) (number : ℕ) (id : List ℕ) (words : List PlacedWord) (w : Versions) → Some w ≡ found s.chunks.entries id → HasRoom number words w → HasRoomUnder s number id words
room_kept s number id words w entry room v kept is =
    let same : v ≡ w = subst (λ o. IsKeptAs (opening_under s id) o v) (sym entry) kept in
    subst (HasRoom number words) (sym same) room

-- so has a chunk of which nothing is kept
pub room_new : (s : VersionStore) (number : ℕ) (id : List ℕ) (words : List PlacedWord) → None ≡ found s.chunks.entries id → ((v : Versions) → IsNew (opening_under s id) v → HasRoom number words v) → HasRoomUnder s number id words
room_new s number id words entry room v kept is = room v (subst (λ o. IsKeptAs (opening_under s id) o v) (sym entry) kept)

-- one word that is put
pub one_over : (h : History) (k : Known) (c : Chunk) (puts : List Put) (old new : Versions) (number : ℕ) (w : PlacedWord) (p : Put) → IsLegal finmap.empty h → IsVersions old → number ≡ length h + 1 → IsWordOf h k c w p → new.size ≡ old.size → new.touches ≡ touched number old.touches
    → ((m q : ℕ) → word_as_of new m q ≡ (if nat_le number m && q == w.place then Some w.word else word_as_of old m q)) → ArePartVersionsOf h k c puts old → ArePartVersionsOf h k c (puts ++ p ∷ []) new
one_over h k c puts old new number w p legal is now of size touches words part =
    part_put h k c puts old new p legal is of.cell size (touches ∙ ap (λ n. touched n old.touches) now)
    (λ m q. words m q ∙ (λ i. if nat_le (now i) m && q == of.place i then Some (of.word i) else word_as_of old m q)) part

-- no word
pub none_over : (number : ℕ) (v : Versions) → AreOver number [] v v
none_over number v h k c puts [] legal now all part = subst (λ qs. ArePartVersionsOf h k c qs v) (sym (append-nil puts)) part
none_over number v h k c puts (p ∷ ps) legal now all part = absurd all

-- words and one more are those of cells and one more
record Split (h : History) (k : Known) (c : Chunk) (words : List PlacedWord) (w : PlacedWord) (ps : List Put) : Type 0 where
  front : List Put
  last : Put
  whole : ps ≡ front ++ last ∷ []
  words_of : AreWordsOf h k c words front
  word_of : IsWordOf h k c w last

split : (h : History) (k : Known) (c : Chunk) (words : List PlacedWord) (w : PlacedWord) (ps : List Put) → AreWordsOf h k c (words ++ w ∷ []) ps → Split h k c words w ps
split h k c [] w [] all = absurd all
split h k c [] w (p ∷ []) all = record { front = []; last = p; whole = refl; words_of = tt; word_of = all.0 }
split h k c [] w (p ∷ q ∷ ps) all = absurd all.1
split h k c (v ∷ words) w [] all = absurd all
split h k c (v ∷ words) w (p ∷ ps) all =
    let rest = split h k c words w ps all.1 in
    record { front = p ∷ rest.front; last = rest.last; whole = ap (λ qs. p ∷ qs) rest.whole; words_of = (all.0, rest.words_of); word_of = rest.word_of }

-- one word more
pub more_over : (number : ℕ) (words : List PlacedWord) (w : PlacedWord) (old mid new : Versions) → AreOver number words old mid
    → ((h : History) (k : Known) (c : Chunk) (puts : List Put) (p : Put) → IsLegal finmap.empty h → number ≡ length h + 1 → IsWordOf h k c w p → ArePartVersionsOf h k c puts mid → ArePartVersionsOf h k c (puts ++ p ∷ []) new)
    → AreOver number (words ++ w ∷ []) old new
more_over number words w old mid new over one h k c puts ps legal now all part =
    let parts = split h k c words w ps all in
    let behind = one h k c (puts ++ parts.front) parts.last legal now parts.word_of (over h k c puts parts.front legal now parts.words_of part) in
    subst (λ qs. ArePartVersionsOf h k c qs new) (append_assoc puts parts.front (parts.last ∷ []) ∙ ap (λ qs. puts ++ qs) (sym parts.whole)) behind

-- words that are put into another chunk
elsewhere : (h : History) (l k : Known) (d c : Chunk) (v : Versions) → is_chunk c d ≡ false → (words : List PlacedWord) (ps puts : List Put) → AreWordsOf h k c words ps → ArePartVersionsOf h l d puts v → ArePartVersionsOf h l d (puts ++ ps) v
elsewhere h l k d c v other [] [] puts all part = subst (λ qs. ArePartVersionsOf h l d qs v) (sym (append-nil puts)) part
elsewhere h l k d c v other [] (p ∷ ps) puts all part = absurd all
elsewhere h l k d c v other (w ∷ words) [] puts all part = absurd all
elsewhere h l k d c v other (w ∷ words) (p ∷ ps) puts all part =
    subst (λ qs. ArePartVersionsOf h l d qs v) (append_assoc puts (p ∷ []) ps)
    (elsewhere h l k d c v other words ps (puts ++ p ∷ []) all.1 (part_elsewhere h l d puts v p (ap (λ q. is_chunk q d) all.0.cell.chunk ∙ other) part))

-- chunks with one id are one
one_id : (c d : Chunk) → id_of c ≡ id_of d → c ≡ d
one_id c d same =
    let array : c.array ≡ d.array = cc in
    let index : c.index ≡ d.index = cc in
    λ i. record { array = array i; index = index i }

-- behind words that were put into one chunk, what is kept of all is right
pub put_store : (h : History) (puts : List Put) (k : Known) (c : Chunk) (ps : List Put) (number : ℕ) (id : List ℕ) (words : List PlacedWord) (s t : VersionStore) → IsPartStoreOf h puts s → ArePutIn h k c ps number id words → t.arrays.items ≡ s.arrays.items
    → HasPut (opening_under s id) number id words s.chunks.entries t.chunks.entries → IsPartStoreOf h (puts ++ ps) t
put_store h puts k c ps number id words s t part put arrays has = record {
  arrays = ap length arrays ∙ part.arrays;
  unknown = λ d none. has.table (id_of d) ∙ ap (λ b. cond b (Some has.after) (found s.chunks.entries (id_of d))) (unlike d none) ∙ part.unknown d none;
  chunks = λ l d other v at is kept. chunk_by l d other v at is kept (bytes_eq id other) refl;
} where
  unlike : (d : Chunk) → known_after h d.array ≡ None → bytes_eq id (id_of d) ≡ false
  unlike d none = elim (true_or_false (bytes_eq id (id_of d))) [
    | inl same ↦
        let one : c ≡ d = one_id c d (sym put.chunk.named ∙ (bytes_eq-Decides id (id_of d)).0 same) in
        absurd (none_is_none k (sym none ∙ ap (λ (b : Chunk). known_after h b.array) (sym one) ∙ put.chunk.known))
    | inr other ↦ other
  ]

  chunk_by : (l : Known) (d : Chunk) (other : List ℕ) (v : Versions) → IsChunkIn h l d other → IsVersions v → IsKeptUnder t other v → (b : Bool) → bytes_eq id other ≡ b → ArePartVersionsOf h l d (puts ++ ps) v
  chunk_by l d other v at is kept true same =
      let alike : id ≡ other = (bytes_eq-Decides id other).0 same in
      let one : c ≡ d = one_id c d (sym put.chunk.named ∙ alike ∙ at.named) in
      let array : k ≡ l = some_inj k l (sym put.chunk.known ∙ ap (λ (b : Chunk). known_after h b.array) one ∙ at.known) in
      let entry : found t.chunks.entries other ≡ Some has.after = has.table other ∙ ap (λ b. cond b (Some has.after) (found s.chunks.entries other)) same in
      let is_after : v ≡ has.after = subst (λ o. IsKeptAs (opening_under t other) o v) entry kept in
      let right = has.over h k c puts ps put.legal put.next put.cells (part.chunks k c id has.before put.chunk has.valid has.kept) in
      subst (λ (q : Known × Chunk × Versions). ArePartVersionsOf h q.0 q.1 (puts ++ ps) q.2) (λ i. (array i, one i, sym is_after i)) right
  chunk_by l d other v at is kept false apart =
      let entry : found t.chunks.entries other ≡ found s.chunks.entries other = has.table other ∙ ap (λ b. cond b (Some has.after) (found s.chunks.entries other)) apart in
      let there : IsKeptUnder s other v =
      subst (λ o. IsKeptAs (opening_under s other) o v) entry (subst (λ (os : List Opening). IsKeptAs (get_or os (get_or other 0 0) no_opening) (found t.chunks.entries other) v) arrays kept) in
      let two : is_chunk c d ≡ false = (λ i. bytes_eq (sym put.chunk.named i) (sym at.named i)) ∙ apart in
      elsewhere h l k d c v two words ps puts put.cells (part.chunks l d other v at is there)

-- the touch of a local array's own words
pub same_touch : (n : ℕ) → touched n (n ∷ []) ≡ n ∷ []
same_touch n = ap (λ b. cond b (n ∷ []) (n ∷ n ∷ [])) (eq-eqb n n refl)

-- one of these words more
module _ (number place : ℕ) (words : List ℕ) (old new : Versions) (put : (m q : ℕ) → word_as_of new m q ≡ (if nat_le number m && q == place then Some (slice_index words place) else word_as_of old m q))
    (none : (m q : ℕ) → nat_le number m ≡ false → word_as_of old m q ≡ None) where
  pub local_none : (m q : ℕ) → nat_le number m ≡ false → word_as_of new m q ≡ None
  local_none m q early = put m q ∙ ap (λ b. cond (b && q == place) (Some (slice_index words place)) (word_as_of old m q)) early ∙ none m q early

  pub local_more : ((m q : ℕ) → q < place → word_as_of old m q ≡ (if nat_le number m then Some (slice_index words q) else None)) → (m q : ℕ) → q < place + 1 → word_as_of new m q ≡ (if nat_le number m then Some (slice_index words q) else None)
  local_more before m q low = by (nat_le number m) refl (q == place) refl where
    below : (q place : ℕ) → q < place + 1 → (q == place) ≡ false → q < place
    below q place low other = elim (less_or_not q place) [
      | inl less ↦ less
      | inr not ↦ (let same : q ≡ place = omega (arith, low, not) in not_both (q == place) (eq-eqb q place same) other)
    ]

    by : (b : Bool) → nat_le number m ≡ b → (d : Bool) → (q == place) ≡ d → word_as_of new m q ≡ cond b (Some (slice_index words q)) None
    by false early d same = local_none m q early
    by true late true same =
        put m q
        ∙ (λ i. cond (late i && same i) (Some (slice_index words place)) (word_as_of old m q))
        ∙ ap (λ r. Some (slice_index words r)) (sym (eqb-true q place same))
    by true late false other =
        put m q
        ∙ (λ i. cond (late i && other i) (Some (slice_index words place)) (word_as_of old m q))
        ∙ before m q (below q place low other)
        ∙ ap (λ b. cond b (Some (slice_index words q)) None) late
