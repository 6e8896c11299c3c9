-- What a transaction prepares of its writes, over each history that goes on from what was asked.
use Rattle.std.proofs.Common.{◌≡◌, ◌∙◌, ℕ, ◌+◌, ◌<◌, zero, suc, ◌⊎◌, inl, inr, Bool, true, false, cond, ◌||◌, List, [], ◌∷◌, ◌++◌, length, map, take, drop, Option, Some, None, Result, Ok, Err, refl, sym, ap, subst, get_or, arith}
use Rattle.std.specs.Prelude.{filter_map, is_some, Contains}
use Rattle.std.specs.FinMap as finmap
use Rattle.std.specs.List.{All, AllByRecursion, IsDistinct, list_any, zip}
use Rattle.std.specs.List.Sorted.{IsPermutation, IsSortedByKey}
use Rattle.std.specs.Cmp.Lexicographic.{slice_cmp}
use Rattle.std.specs.Ordering.{nat_cmp}
use Rattle.std.specs.Str.{bytes_eq}
use Rattle.std.proofs.lemmas.List.{map-append, take-map, take-append-drop}
use Rattle.std.proofs.lemmas.List.Elements.{All-from_recursion, recursion_from_All}
use Rattle.std.proofs.lemmas.List.Sorted.{All-permutation, Contains-permutation, IsPermutation-map}
use Rattle.std.proofs.lemmas.Map.Keys.{IsDistinct-IsPermutation}
use Rattle.std.proofs.lemmas.Slice.Eq.{bytes_eq-Decides}
use Rattle.cells.specs.Places.{IsInside, cell_count, c_place}
use Rattle.cells.specs.Shapes.{is_inside}
use Rattle.cells.proofs.Laws.{both, true_or_false}
use Rattle.commits.specs.PlanWrites.{chunk_of_write}
use Rattle.commits.specs.declared.ChunkWrite.{ChunkWrite}
use Rattle.commits.specs.Prepared.{AreWrites, HasWrite, IsPutAmong, IsStagedFor, IsStagedWrite, word_put}
use Rattle.chunk_forms.specs.Names as names
use Rattle.history.specs.Arrays.{Known, known_after, chunk_shape, form_of, is_local}
use Rattle.history.specs.Chunks.{Chunk, IsIndexOf, cell_at, chunk_index, chunk_in, chunk_key, chunk_of, home_text}
use Rattle.history.specs.History.{History}
use Rattle.history.specs.Legal.{IsLegal, viewed}
use Rattle.history.specs.Touch.{writes_chunk}
use Rattle.history.specs.Writes.{Put, put_at, puts_of, puts_of_op, written}
use Rattle.history.specs.declared.array.ArrayInfo.{ArrayInfo}
use Rattle.history.specs.declared.event.Op.{Op}
use Rattle.history.specs.declared.event.Op.TheVariants.{Write, Read}
use Rattle.history.proofs.Laws.{IsLegal-front, LiesOf, known_good, WasInside, as_opened, good_rank, known-longer, local_shape, one_chunk, opened_itself, some_inj, targets_lie}
use Rattle.commits.specs.Asking.{IsAsked, IsPart, chunk_of_part, part_in}
use Rattle.commits.specs.Readying.{IsWriteFor}
use Rattle.commits.specs.Sorting.{key_of_write}
use Rattle.commits.specs.declared.Asked.{Asked}
use Rattle.commits.specs.declared.Part.{Part}
use Rattle.commits.proofs.Laws.{rising_sorted}
use Rattle.rebase_writes.specs.Staged.{AreWords, staged_at}
use Rattle.stack_driver.specs.Targets.{Cell, Target}
use Rattle.stack_driver.specs.Views.{targets_of}
use Rattle.stack_driver.specs.declared.error.TargetError.{TargetError}
use Rattle.chunk_fetches.specs.Agreement.{Opening}
use Rattle.chunk_fetches.specs.Outline.{outline, outlined_event}
use Rattle.chunk_fetches.proofs.Laws.{good_in, known-outline, grows_in}
use Rattle.chunk_fetches.specs.Operations.{AreStaged, IsInArray}
use Rattle.chunk_fetches.specs.Sites.{id_of}
use Rattle.chunk_fetches.specs.Staging.{StagedChunk, staged_of}
use Rattle.chunk_fetches.proofs.Laws.{staged_cell}
use Rattle.transactions.specs.Conditions.{IsKnownOp}
use Rattle.transactions.specs.Preparing.{AreWritesFor, seen_chunk, seen_part}
use Rattle.chunk_fetches.specs.Kept.{chunk_at}
use Rattle.transactions.proofs.PieceLaws.{was_index}
use Rattle.transactions.proofs.TxnLaws.{all_with}

-- parts of lists that are equal
abbrev head_or : {A : Type 0} → A → List A → A
head_or d [] = d
head_or d (x ∷ xs) = x

abbrev tail_of : {A : Type 0} → List A → List A
tail_of [] = []
tail_of (x ∷ xs) = xs

or_true : (b c : Bool) → c ≡ true → (b || c) ≡ true
or_true true c is = refl
or_true false c is = is

inside_length : (shape index : List ℕ) → is_inside shape index ≡ true → length index ≡ length shape
inside_length [] [] is = refl
inside_length [] (i ∷ index) is = absurd (cc)
inside_length (s ∷ shape) [] is = absurd (cc)
inside_length (s ∷ shape) (i ∷ index) is = ap (λ n. suc n) (inside_length shape index (both _ (is_inside shape index) is).1)

-- what is staged under distinct ids is found by each of them
flipped : (one other : List ℕ) → bytes_eq one other ≡ false → bytes_eq other one ≡ false
flipped one other isnt = by (true_or_false (bytes_eq other one))
  where
    by : (bytes_eq other one ≡ true) ⊎ (bytes_eq other one ≡ false) → bytes_eq other one ≡ false
    by (inl same) = let clash : true ≡ false = sym ((bytes_eq-Decides one other).1 (sym ((bytes_eq-Decides other one).0 same))) ∙ isnt in absurd (cc)
    by (inr fine) = fine

abbrev ids : List StagedChunk → List (List ℕ)
ids chunks = map (λ (c : StagedChunk). c.id) chunks

found_behind : (first : StagedChunk) (chunks rest : List StagedChunk) → AllByRecursion (λ id. bytes_eq first.id id ≡ false) (ids rest)
    → AllByRecursion (λ (c : StagedChunk). staged_of chunks c.id ≡ Some c.cells) rest → AllByRecursion (λ (c : StagedChunk). staged_of (first ∷ chunks) c.id ≡ Some c.cells) rest
found_behind first chunks [] apart found = tt
found_behind first chunks (c ∷ rest) apart found =
    (ap (λ b. cond b (Some first.cells) (staged_of chunks c.id)) (flipped first.id c.id apart.0) ∙ found.0, found_behind first chunks rest apart.1 found.1)

pub each_found : (chunks : List StagedChunk) → IsDistinct bytes_eq (ids chunks) → AllByRecursion (λ (c : StagedChunk). staged_of chunks c.id ≡ Some c.cells) chunks
unfolding IsDistinct
each_found [] distinct = tt
each_found (c ∷ chunks) distinct =
    (ap (λ b. cond b (Some c.cells) (staged_of chunks c.id)) ((bytes_eq-Decides c.id c.id).1 refl), found_behind c chunks chunks distinct.0 (each_found chunks distinct.1))

-- one of the chunks has the id
abbrev HasId : List ℕ → List StagedChunk → Type 0
HasId id [] = ⊥
HasId id (c ∷ chunks) = (c.id ≡ id) ⊎ HasId id chunks

-- one of the chunks is this one
abbrev HasIn : Chunk → List Chunk → Type 0
HasIn c [] = ⊥
HasIn c (d ∷ ds) = (d ≡ c) ⊎ HasIn c ds

bytes_flip : (one other : List ℕ) → bytes_eq one other ≡ bytes_eq other one
bytes_flip one other = by (true_or_false (bytes_eq one other))
  where
    by : (bytes_eq one other ≡ true) ⊎ (bytes_eq one other ≡ false) → bytes_eq one other ≡ bytes_eq other one
    by (inl same) = same ∙ sym ((bytes_eq-Decides other one).1 (sym ((bytes_eq-Decides one other).0 same)))
    by (inr apart) = apart ∙ sym (flipped one other apart)

found_among : (chunks : List StagedChunk) (id : List ℕ) (cells : List (Option ℕ)) → staged_of chunks id ≡ Some cells → HasId id chunks
found_among [] id cells is = absurd (cc)
found_among (c ∷ chunks) id cells is = by (bytes_eq id c.id) refl is (λ rest. found_among chunks id cells rest)
  where
    by : (b : Bool) → bytes_eq id c.id ≡ b → cond b (Some c.cells) (staged_of chunks id) ≡ Some cells → (staged_of chunks id ≡ Some cells → HasId id chunks) → HasId id (c ∷ chunks)
    by true same f rest = inl (sym ((bytes_eq-Decides id c.id).0 same))
    by false other f rest = inr (rest f)

-- writes change places
write_contained : (c : Chunk) (ws : List ChunkWrite) → HasWrite c ws → Contains (map chunk_of_write ws) c
write_contained c [] has = absurd has
write_contained c (w ∷ ws) (inl same) = (0, omega arith, same)
write_contained c (w ∷ ws) (inr rest) =
    let more = write_contained c ws rest in
    let low = more.1 in
    (suc more.0, omega (arith, low), more.2)

contained_write : (c : Chunk) (ws : List ChunkWrite) (k : ℕ) → k < length (map chunk_of_write ws) → get_or (map chunk_of_write ws) k c ≡ c → HasWrite c ws
contained_write c [] k low is = absurd (omega (arith, low))
contained_write c (w ∷ ws) zero low is = inl is
contained_write c (w ∷ ws) (suc k) low is = inr (contained_write c ws k (omega (arith, low)) is)

moved_write : (c : Chunk) (ws vs : List ChunkWrite) → IsPermutation ws vs → HasWrite c ws → HasWrite c vs
moved_write c ws vs moves has =
    let there = Contains-permutation (map chunk_of_write ws) (map chunk_of_write vs) c (IsPermutation-map chunk_of_write ws vs moves) (write_contained c ws has) in
    contained_write c vs there.0 there.1 there.2

pub moved_all : {X : Type 0} (P : X → Type 0) (xs ys : List X) → IsPermutation xs ys → AllByRecursion P xs → AllByRecursion P ys
moved_all P xs ys moves all = recursion_from_All P ys (All-permutation P xs ys moves (All-from_recursion P xs all))

-- an array keeps its keys
key_longer : (early more : History) (a : ℕ) (k l : Known) (index : List ℕ) → IsLegal finmap.empty (outline (early ++ more)) → known_after early a ≡ Some k → known_after (early ++ more) a ≡ Some l → chunk_key l index ≡ chunk_key k index
key_longer early more a k l index legal is later =
    let parts : outline (early ++ more) ≡ outline early ++ outline more = map-append outlined_event early more in
    let here : known_after (outline early) a ≡ Some k = known-outline a early ∙ is in
    let opened = known-longer finmap.empty (outline early) a k.info k.opened (opened_itself (known_after (outline early) a) k here) (outline more) (subst (IsLegal finmap.empty) parts legal) in
    let m = as_opened k.info k.opened (known_after (outline early ++ outline more) a) opened in
    let same : m.0 ≡ l = some_inj m.0 l (sym m.1 ∙ ap (λ h. known_after h a) (sym parts) ∙ known-outline a (early ++ more) ∙ later) in
    let info : l.info ≡ k.info = ap (λ (n : Known). n.info) (sym same) ∙ m.2 in
    let opened_at : l.opened ≡ k.opened = ap (λ (n : Known). n.opened) (sym same) ∙ m.3 in
    ap (λ (i : ArrayInfo). home_text i.home l.opened ++ names.chunk_name (form_of i.home) index) info ∙ ap (λ n. home_text k.info.home n ++ names.chunk_name (form_of k.info.home) index) opened_at

module _ (events : History) (legal : IsLegal finmap.empty (outline events)) where
  -- where a cell lies that once was inside its array's shape
  record IsPlaced (x : Cell) (k : Known) : Type 0 where
    pub rank : length x.index ≡ length (chunk_shape k.info)
    pub valid : IsIndexOf k.info (chunk_index (chunk_shape k.info) x.index)
    pub held : is_local k.info.home ≡ true → is_inside k.shape x.index ≡ true

  placed : (x : Cell) → WasInside events x → (k : Known) → known_after events x.array ≡ Some k → IsPlaced x k
  placed x was k known =
      let front : IsLegal finmap.empty (take was.seen (outline events)) =
      IsLegal-front finmap.empty (take was.seen (outline events)) (drop was.seen (outline events)) (subst (IsLegal finmap.empty) (sym (take-append-drop was.seen (outline events))) legal) in
      let early : known_after (take was.seen (outline events)) x.array ≡ Some was.array =
      ap (λ h. known_after h x.array) (take-map outlined_event was.seen events) ∙ known-outline x.array (take was.seen events) ∙ was.known in
      let later = grows_in events legal was.seen x.array was.array was.known in
      let same : k ≡ later.0 = some_inj k later.0 (sym known ∙ later.1) in
      let info : k.info ≡ was.array.info = ap (λ (l : Known). l.info) same ∙ later.2 in
      let good = known_good finmap.empty x.array (take was.seen (outline events)) front was.array early in
      let rank : length x.index ≡ length (chunk_shape k.info) =
      inside_length was.array.shape x.index was.inside ∙ sym (good_rank x.array was.array good) ∙ ap (λ i. length (chunk_shape i)) (sym info) in
      record {
        rank = rank;
        valid = was_index events legal x was k known;
        held = λ local.
            let old : is_local was.array.info.home ≡ true = ap (λ (i : ArrayInfo). is_local i.home) (sym info) ∙ local in
            let before : was.array.shape ≡ was.array.info.shape = local_shape finmap.empty x.array (take was.seen (outline events)) front was.array early old in
            let now : k.shape ≡ k.info.shape = local_shape finmap.empty x.array (outline events) legal k (known-outline x.array events ∙ known) local in
            subst (λ s. is_inside s x.index ≡ true) (before ∙ ap (λ (i : ArrayInfo). i.shape) (sym info) ∙ sym now) was.inside;
      }

  abbrev WasPut : Put → Type 0
  WasPut p = WasInside events p.0

  zipped_inside : (ts : List (Result Target TargetError)) (words : List ℕ) → AllByRecursion (LiesOf events) ts → AllByRecursion WasPut (filter_map put_at (zip ts words))
  zipped_inside [] words lie = tt
  zipped_inside (t ∷ ts) [] lie = tt
  zipped_inside (Err e ∷ ts) (w ∷ ws) lie = zipped_inside ts ws lie.1
  zipped_inside (Ok t ∷ ts) (w ∷ ws) lie = (lie.0, zipped_inside ts ws lie.1)

  puts_inside : (ops : List Op) → AllByRecursion (IsKnownOp events) ops → AllByRecursion WasPut (puts_of ops)
  puts_inside [] known = tt
  puts_inside (Write view words ∷ ops) known =
      all_with WasPut (puts_of_op (Write view words)) (puts_of ops) (zipped_inside (targets_of view) words (targets_lie events view known.0)) (puts_inside ops known.1)
  puts_inside (Read view words ∷ ops) known = puts_inside ops known.1

  put_chunk : (p : Put) (k : Known) → known_after events p.0.array ≡ Some k → chunk_of events p.0 ≡ record { array = p.0.array; index = chunk_index (chunk_shape k.info) p.0.index }
  put_chunk p k known = ap (λ o. chunk_in o p.0) known

  -- a word is put into the chunk of the id
  abbrev is_put_in : List ℕ → Put → Bool
  is_put_in id p = bytes_eq (id_of (chunk_of events p.0)) id

  record PutIn (id : List ℕ) : Type 0 where
    pub found : Put
    pub was : WasPut found
    pub in_array : IsInArray events found
    pub id_is : id_of (chunk_of events found.0) ≡ id

  put_in : (id : List ℕ) (ps : List Put) → list_any (is_put_in id) ps ≡ true → AllByRecursion WasPut ps → AllByRecursion (IsInArray events) ps → PutIn id
  put_in id [] any was arrays = absurd (cc)
  put_in id (p ∷ ps) any was arrays = by (is_put_in id p) refl any (λ rest. put_in id ps rest was.1 arrays.1)
    where
      by : (b : Bool) → is_put_in id p ≡ b → (b || list_any (is_put_in id) ps) ≡ true → (list_any (is_put_in id) ps ≡ true → PutIn id) → PutIn id
      by true here is rest = record { found = p; was = was.0; in_array = arrays.0; id_is = (bytes_eq-Decides (id_of (chunk_of events p.0)) id).0 here }
      by false other is rest = rest is

  -- each put is into the chunk of its own id
  own_chunks : (ps : List Put) → AllByRecursion (λ (p : Put). list_any (is_put_in (id_of (chunk_of events p.0))) ps ≡ true) ps
  own_chunks [] = tt
  own_chunks (p ∷ ps) =
      (ap (λ b. b || list_any (is_put_in (id_of (chunk_of events p.0))) ps) ((bytes_eq-Decides (id_of (chunk_of events p.0)) (id_of (chunk_of events p.0))).1 refl), behind p ps ps (own_chunks ps))
    where
      behind : (p : Put) (ps rest : List Put) → AllByRecursion (λ (q : Put). list_any (is_put_in (id_of (chunk_of events q.0))) ps ≡ true) rest
          → AllByRecursion (λ (q : Put). list_any (is_put_in (id_of (chunk_of events q.0))) (p ∷ ps) ≡ true) rest
      behind p ps [] all = tt
      behind p ps (q ∷ qs) all = (or_true (is_put_in (id_of (chunk_of events q.0)) p) (list_any (is_put_in (id_of (chunk_of events q.0))) ps) all.0, behind p ps qs all.1)

  module _ (ops : List Op) (chunks : List StagedChunk) (known : AllByRecursion (IsKnownOp events) ops) (staged : AreStaged events ops chunks) where
    -- words that are staged under an id are those of a chunk of an array of the history
    record IsStagedOf (id : List ℕ) (cells : List (Option ℕ)) (k : Known) : Type 0 where
      pub id_is : id ≡ id_of (chunk_at id)
      pub is_known : known_after events (chunk_at id).array ≡ Some k
      pub valid : IsIndexOf k.info (chunk_at id).index
      pub is_written : writes_chunk events ops (chunk_at id) ≡ true
      pub size : length cells ≡ cell_count (chunk_shape k.info)
      pub words : AreWords k.info.dtype cells
      pub cells_are : (index : List ℕ) → IsInside (chunk_shape k.info) index → staged_at cells (c_place (chunk_shape k.info) index) ≡ word_put ops (cell_at k (chunk_at id) index)

    abbrev IsStagedUnder : List ℕ → List (Option ℕ) → Type 0
    IsStagedUnder id cells = (k : Known) × IsStagedOf id cells k

    staged_under : (id : List ℕ) (cells : List (Option ℕ)) → staged_of chunks id ≡ Some cells → IsStagedUnder id cells
    staged_under id cells there =
        let any : list_any (is_put_in id) (puts_of ops) ≡ true = sym (staged.there id) ∙ ap is_some there in
        let p = put_in id (puts_of ops) any (puts_inside ops known) staged.known in
        let k = p.in_array.array in
        let x = p.found.0 in
        let place = placed x p.was k p.in_array.known in
        let index = chunk_index (chunk_shape k.info) x.index in
        let same : x.array ∷ index ≡ id = ap id_of (sym (put_chunk p.found k p.in_array.known)) ∙ p.id_is in
        let here : staged_of chunks (x.array ∷ index) ≡ Some cells = ap (staged_of chunks) same ∙ there in
        subst (λ i. IsStagedUnder i cells) same (
          k,
          record {
            id_is = refl;
            is_known = p.in_array.known;
            valid = place.valid;
            is_written = subst (λ i. list_any (is_put_in i) (puts_of ops) ≡ true) (sym same) any;
            size = staged.sizes x.array index k cells p.in_array.known here;
            words = staged.typed x.array index k cells p.in_array.known here;
            cells_are = λ at inside. staged_cell events ops chunks k x.array index at cells staged p.in_array.known here place.valid.rank inside;
          },
        )

    all_under : (cs : List StagedChunk) → AllByRecursion (λ (c : StagedChunk). staged_of chunks c.id ≡ Some c.cells) cs → AllByRecursion (λ (c : StagedChunk). IsStagedUnder c.id c.cells) cs
    all_under [] found = tt
    all_under (c ∷ cs) found = (staged_under c.id c.cells found.0, all_under cs found.1)

    part_is : (p : Part) (c : StagedChunk) → seen_part p ≡ seen_chunk c → IsStagedUnder c.id c.cells → IsPart events p
    part_is p c same under =
        let chunk : chunk_of_part p ≡ chunk_at c.id = ap (λ (s : Chunk × List (Option ℕ)). s.0) same in
        let cells : p.staged.now ≡ c.cells = ap (λ (s : Chunk × List (Option ℕ)). s.1) same in
        let is = under.1 in (
          under.0,
          record {
            known = ap (λ (d : Chunk). known_after events d.array) chunk ∙ is.is_known;
            valid = subst (λ (d : Chunk). IsIndexOf under.0.info d.index) (sym chunk) is.valid;
            size = ap length cells ∙ is.size;
            words = subst (AreWords under.0.info.dtype) (sym cells) is.words;
          },
        )

    parts_from : (ps : List Part) (cs : List StagedChunk) → map seen_part ps ≡ map seen_chunk cs → AllByRecursion (λ (c : StagedChunk). IsStagedUnder c.id c.cells) cs → AllByRecursion (IsPart events) ps
    parts_from [] cs same under = tt
    parts_from (p ∷ ps) [] same under = absurd (cc)
    parts_from (p ∷ ps) (c ∷ cs) same under = (part_is p c (ap (head_or (seen_part p)) same) under.0, parts_from ps cs (ap tail_of same) under.1)

    -- what was parted may be asked for
    pub are_parts : (ps : List Part) → IsDistinct bytes_eq (map (λ (c : StagedChunk). c.id) chunks) → map seen_part ps ≡ map seen_chunk chunks → AllByRecursion (IsPart events) ps
    are_parts ps distinct same = parts_from ps chunks same (all_under chunks (each_found chunks distinct))

    -- a write of what was asked for
    module _ (opening : Opening) (early more : History) (grown : events ≡ early ++ more) where
      write_is : (a : Asked) (w : ChunkWrite) (c : StagedChunk) → IsAsked opening early a → IsWriteFor a w → seen_part a.part ≡ seen_chunk c → IsStagedUnder c.id c.cells → IsStagedWrite events ops w
      write_is a w c asked write same under =
          let k = under.0 in
          let is = under.1 in
          let chunk : chunk_of_write w ≡ chunk_at c.id = (λ i. record { array = write.array i; index = write.chunk i }) ∙ ap (λ (s : Chunk × List (Option ℕ)). s.0) same in
          let cells : w.staged.now ≡ c.cells = write.staged ∙ ap (λ (s : Chunk × List (Option ℕ)). s.1) same in
          let now : known_after events w.array ≡ Some k = ap (λ (d : Chunk). known_after events d.array) chunk ∙ is.is_known in
          let late : known_after (early ++ more) a.part.array ≡ Some k = ap (λ h. known_after h a.part.array) (sym grown) ∙ ap (known_after events) (sym write.array) ∙ now in
          let key : chunk_key k a.part.chunk.now ≡ chunk_key asked.array a.part.chunk.now =
          key_longer early more a.part.array asked.array k a.part.chunk.now (subst (λ h. IsLegal finmap.empty (outline h)) grown legal) asked.part.known late in (
            k,
            record {
              known = now;
              valid = subst (λ (d : Chunk). IsIndexOf k.info d.index) (sym chunk) is.valid;
              named = ap (chunk_key k) write.chunk ∙ key ∙ asked.named ∙ sym write.key;
              written = subst (λ (d : Chunk). writes_chunk events ops d ≡ true) (sym chunk) is.is_written;
              size = ap length cells ∙ is.size;
              words = subst (AreWords k.info.dtype) (sym cells) is.words;
              cells = λ index inside.
                  ap (λ ws. staged_at ws (c_place (chunk_shape k.info) index)) cells ∙ is.cells_are index inside
                  ∙ ap (λ d. word_put ops (cell_at k d index)) (sym chunk);
            },
          )

      writes_from : (asked : List Asked) (ws : List ChunkWrite) (cs : List StagedChunk) → AllByRecursion (IsAsked opening early) asked → AreWritesFor asked ws → map seen_part (map part_in asked) ≡ map seen_chunk cs
          → AllByRecursion (λ (c : StagedChunk). IsStagedUnder c.id c.cells) cs → AllByRecursion (IsStagedWrite events ops) ws
      writes_from [] [] cs are writes same under = tt
      writes_from [] (w ∷ ws) cs are writes same under = absurd writes
      writes_from (a ∷ asked) [] cs are writes same under = tt
      writes_from (a ∷ asked) (w ∷ ws) [] are writes same under = absurd (cc)
      writes_from (a ∷ asked) (w ∷ ws) (c ∷ cs) are writes same under =
          (write_is a w c are.0 writes.0 (ap (head_or (seen_part a.part)) same) under.0, writes_from asked ws cs are.1 writes.1 (ap tail_of same) under.1)

      chunks_from_ids : (asked : List Asked) (ws : List ChunkWrite) (cs : List StagedChunk) → AreWritesFor asked ws → map seen_part (map part_in asked) ≡ map seen_chunk cs → map chunk_of_write ws ≡ map (λ (c : StagedChunk). chunk_at c.id) cs
      chunks_from_ids [] [] [] writes same = refl
      chunks_from_ids [] [] (c ∷ cs) writes same = absurd (cc)
      chunks_from_ids [] (w ∷ ws) cs writes same = absurd writes
      chunks_from_ids (a ∷ asked) [] cs writes same = absurd writes
      chunks_from_ids (a ∷ asked) (w ∷ ws) [] writes same = absurd (cc)
      chunks_from_ids (a ∷ asked) (w ∷ ws) (c ∷ cs) writes same =
          let first : chunk_of_write w ≡ chunk_at c.id =
          (λ i. record { array = writes.0.array i; index = writes.0.chunk i }) ∙ ap (λ (s : Chunk × List (Option ℕ)). s.0) (ap (head_or (seen_part a.part)) same) in
          ap (λ d. d ∷ map chunk_of_write ws) first ∙ ap (λ ds. chunk_at c.id ∷ ds) (chunks_from_ids asked ws cs writes.1 (ap tail_of same))

      has_chunk : (id : List ℕ) (cs : List StagedChunk) → HasId id cs → HasIn (chunk_at id) (map (λ (c : StagedChunk). chunk_at c.id) cs)
      has_chunk id [] has = absurd has
      has_chunk id (c ∷ cs) (inl same) = inl (ap chunk_at same)
      has_chunk id (c ∷ cs) (inr rest) = inr (has_chunk id cs rest)

      puts_among : (writes : List ChunkWrite) → ((c : Chunk) → HasIn c (map (λ (s : StagedChunk). chunk_at s.id) chunks) → HasWrite c writes) → (ps : List Put) → AllByRecursion WasPut ps → AllByRecursion (IsInArray events) ps
          → AllByRecursion (λ (p : Put). list_any (is_put_in (id_of (chunk_of events p.0))) (puts_of ops) ≡ true) ps → AllByRecursion (λ (p : Put). IsPutAmong events writes p.0) ps
      puts_among writes has [] was arrays any = tt
      puts_among writes has (p ∷ ps) was arrays any = (among, puts_among writes has ps was.1 arrays.1 any.1)
        where
          k : Known
          k = arrays.0.array

          some_staged : (o : Option (List (Option ℕ))) → staged_of chunks (id_of (chunk_of events p.0)) ≡ o → is_some o ≡ true → HasId (id_of (chunk_of events p.0)) chunks
          some_staged None is some = absurd (cc)
          some_staged (Some cells) is some = found_among chunks (id_of (chunk_of events p.0)) cells is

          among : IsPutAmong events writes p.0
          among =
              let there : is_some (staged_of chunks (id_of (chunk_of events p.0))) ≡ true = staged.there (id_of (chunk_of events p.0)) ∙ any.0 in
              let place = placed p.0 was.0 arrays.0.array arrays.0.known in
              record {
                array = arrays.0.array;
                known = arrays.0.known;
                rank = place.rank;
                held = place.held;
                write = has (chunk_of events p.0) (has_chunk (id_of (chunk_of events p.0)) chunks (some_staged (staged_of chunks (id_of (chunk_of events p.0))) refl there));
              }

      in_writes : (c : Chunk) (ws : List ChunkWrite) (cs : List Chunk) → map chunk_of_write ws ≡ cs → HasIn c cs → HasWrite c ws
      in_writes c [] [] same has = absurd has
      in_writes c [] (d ∷ ds) same has = absurd (cc)
      in_writes c (w ∷ ws) [] same has = absurd has
      in_writes c (w ∷ ws) (d ∷ ds) same (inl here) = inl (ap (head_or d) same ∙ here)
      in_writes c (w ∷ ws) (d ∷ ds) same (inr rest) = inr (in_writes c ws ds (ap tail_of same) rest)

      -- writes of different chunks have different keys
      key_apart : (w : ChunkWrite) (ws : List ChunkWrite) → IsStagedWrite events ops w → AllByRecursion (IsStagedWrite events ops) ws → AllByRecursion (λ id. bytes_eq (id_of (chunk_of_write w)) id ≡ false) (map (λ v. id_of (chunk_of_write v)) ws)
          → AllByRecursion (λ key. bytes_eq w.key key ≡ false) (map key_of_write ws)
      key_apart w [] one all apart = tt
      key_apart w (v ∷ vs) one all apart = (by (true_or_false (bytes_eq w.key v.key)), key_apart w vs one all.1 apart.1)
        where
          by : (bytes_eq w.key v.key ≡ true) ⊎ (bytes_eq w.key v.key ≡ false) → bytes_eq w.key v.key ≡ false
          by (inr other) = other
          by (inl same) =
              let k = one.0 in
              let l = all.0.0 in
              let keys : chunk_key k (chunk_of_write w).index ≡ chunk_key l (chunk_of_write v).index = one.1.named ∙ (bytes_eq-Decides w.key v.key).0 same ∙ sym all.0.1.named in
              let chunk : chunk_of_write w ≡ chunk_of_write v =
              one_chunk finmap.empty (outline events) legal (chunk_of_write w) (chunk_of_write v) k l (known-outline w.array events ∙ one.1.known) (known-outline v.array events ∙ all.0.1.known) one.1.valid all.0.1.valid keys in
              let clash : true ≡ false = sym ((bytes_eq-Decides (id_of (chunk_of_write w)) (id_of (chunk_of_write v))).1 (ap id_of chunk)) ∙ apart.0 in absurd (cc)

      keys_apart : (ws : List ChunkWrite) → AllByRecursion (IsStagedWrite events ops) ws → IsDistinct bytes_eq (map (λ v. id_of (chunk_of_write v)) ws) → IsDistinct bytes_eq (map key_of_write ws)
      unfolding IsDistinct
      keys_apart [] all distinct = tt
      keys_apart (w ∷ ws) all distinct = (key_apart w ws all.0 all.1 distinct.0, keys_apart ws all.1 distinct.1)

      ids_are : (ws : List ChunkWrite) (cs : List StagedChunk) → map chunk_of_write ws ≡ map (λ (c : StagedChunk). chunk_at c.id) cs → AllByRecursion (λ (c : StagedChunk). IsStagedUnder c.id c.cells) cs
          → map (λ v. id_of (chunk_of_write v)) ws ≡ map (λ (c : StagedChunk). c.id) cs
      ids_are [] [] same under = refl
      ids_are [] (c ∷ cs) same under = absurd (cc)
      ids_are (w ∷ ws) [] same under = absurd (cc)
      ids_are (w ∷ ws) (c ∷ cs) same under =
          ap (λ d. d ∷ map (λ v. id_of (chunk_of_write v)) ws) (ap id_of (ap (head_or (chunk_at c.id)) same) ∙ sym under.0.1.id_is) ∙ ap (λ ds. c.id ∷ ds) (ids_are ws cs (ap tail_of same) under.1)

      -- what was prepared, in the order of the keys, are the writes of the operations
      pub are_writes : (asked : List Asked) (ws writes : List ChunkWrite) → IsDistinct bytes_eq (map (λ (c : StagedChunk). c.id) chunks) → AllByRecursion (IsAsked opening early) asked → AreWritesFor asked ws → map seen_part (map part_in asked) ≡ map seen_chunk chunks
          → IsPermutation ws writes → IsSortedByKey key_of_write (slice_cmp nat_cmp) writes → AreWrites events ops writes
      are_writes asked ws writes distinct are for same moves sorted =
          let under = all_under chunks (each_found chunks distinct) in
          let each = writes_from asked ws chunks are for same under in
          let cs = chunks_from_ids asked ws chunks for same in
          let keys = keys_apart ws each (subst (IsDistinct bytes_eq) (sym (ids_are ws chunks cs under)) distinct) in
          record {
            each = moved_all (IsStagedWrite events ops) ws writes moves each;
            all =
                puts_among writes (λ c has. moved_write c ws writes moves (in_writes c ws (map (λ (s : StagedChunk). chunk_at s.id) chunks) cs has)) (puts_of ops) (puts_inside ops known) staged.known (own_chunks (puts_of ops));
            sorted =
                rising_sorted key_of_write writes sorted
                (IsDistinct-IsPermutation bytes_eq bytes_flip (map key_of_write ws) (map key_of_write writes) (IsPermutation-map key_of_write ws writes moves) keys);
          }
