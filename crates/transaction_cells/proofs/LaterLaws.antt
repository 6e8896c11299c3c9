-- What is staged, over a later history.
use Rattle.std.proofs.Common.{◌≡◌, ◌∙◌, ℕ, suc, arith, ◌||◌, ◌==◌, Bool, true, false, List, [], ◌∷◌, length, Option, Some, None, refl, sym, ap, subst, eqb-true, unwrap_or}
use Rattle.std.specs.Prelude.{is_some}
use Rattle.std.specs.List.{AllByRecursion, list_any}
use Rattle.std.specs.Str.{bytes_eq}
use Rattle.std.proofs.lemmas.Slice.Eq.{bytes_eq-Decides}
use Rattle.cells.proofs.Laws.{both, IsInside-length}
use Rattle.cells.specs.Places.{cell_count, c_place, IsInside}
use Rattle.history.specs.declared.array.ArrayInfo.{ArrayInfo}
use Rattle.history.specs.declared.event.Op.{Op}
use Rattle.history.specs.Arrays.{Known, known_after, chunk_shape}
use Rattle.history.specs.Chunks.{Chunk, cell_at, chunk_index, within_chunk, in_array, chunk_of, chunk_in}
use Rattle.history.specs.History.{History}
use Rattle.history.specs.Reads.{is_put}
use Rattle.history.specs.Writes.{Put, puts_of, written}
use Rattle.history.proofs.Laws.{some_inj, none_is_none, chunk_index-in_array, within_chunk-in_array}
use Rattle.rebase_writes.specs.Staged.{staged_at, AreWords}
use Rattle.stack_driver.specs.Targets.{Cell, is_cell}
use Rattle.stack_targets.specs.Landings.{Seen}
use Rattle.transaction_cells.specs.Operations.{AreStaged, IsInArray, IsLeafIn, KeepsArrays, no_content, word_at}
use Rattle.transaction_cells.specs.Sites.{id_of}
use Rattle.transaction_cells.specs.Staging.{StagedChunk, staged_of}
use Rattle.transaction_cells.proofs.OperationLaws.{some_put}

-- leaves of arrays of a history are so later
pub leaves_later : (events later : History) (leaves : List Seen) → KeepsArrays events later → AllByRecursion (IsLeafIn events) leaves → AllByRecursion (IsLeafIn later) leaves
leaves_later events later [] keeps all = tt
leaves_later events later (s ∷ leaves) keeps all =
    let now = keeps s.array.number all.0.array all.0.known in (
      record {
        array = now.0;
        known = now.1;
        chunk = all.0.chunk ∙ sym (ap chunk_shape now.2);
        dtype = all.0.dtype ∙ sym (ap (λ (i : ArrayInfo). i.dtype) now.2);
      },
      leaves_later events later leaves keeps all.1,
    )

module _ (events later : History) (keeps : KeepsArrays events later) where
  -- the chunk of a cell of an array stays
  pub same_chunk : (x : Cell) (k : Known) → known_after events x.array ≡ Some k → chunk_of later x ≡ chunk_of events x
  same_chunk x k is =
      let now = keeps x.array k is in
      ap (λ o. chunk_in o x) now.1 ∙ ap (λ (i : ArrayInfo). record { array = x.array; index = chunk_index (chunk_shape i) x.index }) now.2 ∙ sym (ap (λ o. chunk_in o x) is)

  same_puts : (id : List ℕ) (ps : List Put) → AllByRecursion (IsInArray events) ps → list_any (λ p. bytes_eq (id_of (chunk_of events p.0)) id) ps ≡ list_any (λ p. bytes_eq (id_of (chunk_of later p.0)) id) ps
  same_puts id [] all = refl
  same_puts id (p ∷ ps) all = (λ i. bytes_eq (id_of (sym (same_chunk p.0 all.0.array all.0.known) i)) id || same_puts id ps all.1 i)

  puts_later : (ps : List Put) → AllByRecursion (IsInArray events) ps → AllByRecursion (IsInArray later) ps
  puts_later [] all = tt
  puts_later (p ∷ ps) all = let now = keeps p.0.array all.0.array all.0.known in (record { array = now.0; known = now.1 }, puts_later ps all.1)

  -- an array into which a word is put is one of the history
  none_there : (array : ℕ) (index : List ℕ) (ps : List Put) → known_after events array ≡ None → AllByRecursion (IsInArray events) ps → list_any (λ p. bytes_eq (id_of (chunk_of events p.0)) (array ∷ index)) ps ≡ false
  none_there array index [] none all = refl
  none_there array index (p ∷ ps) none all = told (bytes_eq (id_of (chunk_of events p.0)) (array ∷ index)) refl (none_there array index ps none all.1)
    where
      told : (b : Bool) → bytes_eq (id_of (chunk_of events p.0)) (array ∷ index) ≡ b → list_any (λ q. bytes_eq (id_of (chunk_of events q.0)) (array ∷ index)) ps ≡ false
          → (b || list_any (λ q. bytes_eq (id_of (chunk_of events q.0)) (array ∷ index)) ps) ≡ false
      told false e rest = rest
      told true e rest =
          let same : p.0.array ∷ chunk_index (chunk_shape all.0.array.info) p.0.index ≡ array ∷ index = sym (ap (λ o. id_of (chunk_in o p.0)) all.0.known) ∙ (bytes_eq-Decides (id_of (chunk_of events p.0)) (array ∷ index)).0 e in
          let number : p.0.array ≡ array = cc in
          let clash : None ≡ Some all.0.array = sym none ∙ ap (known_after events) (sym number) ∙ all.0.known in
          absurd (none_is_none all.0.array clash)

  no_cell : (x : Cell) (ps : List Put) → known_after events x.array ≡ None → AllByRecursion (IsInArray events) ps → is_put ps x ≡ false
  no_cell x [] none all = refl
  no_cell x (p ∷ ps) none all = told (is_cell p.0 x) refl (no_cell x ps none all.1)
    where
      told : (b : Bool) → is_cell p.0 x ≡ b → is_put ps x ≡ false → (b || is_put ps x) ≡ false
      told false e rest = rest
      told true e rest =
          let number : p.0.array ≡ x.array = eqb-true p.0.array x.array (both (p.0.array == x.array) (bytes_eq p.0.index x.index) e).0 in
          let clash : None ≡ Some all.0.array = sym none ∙ ap (known_after events) (sym number) ∙ all.0.known in
          absurd (none_is_none all.0.array clash)

  none_from : (o : Option ℕ) → is_some o ≡ false → o ≡ None
  none_from None is = refl
  none_from (Some w) is = absurd (let no_such : ⊥ = cc in no_such)

  no_chunk : (o : Option (List (Option ℕ))) → is_some o ≡ false → o ≡ None
  no_chunk None is = refl
  no_chunk (Some c) is = absurd (let no_such : ⊥ = cc in no_such)

  -- what is staged by operations is so over a later history
  pub staged_later : (ops : List Op) (chunks : List StagedChunk) → AreStaged events ops chunks → AreStaged later ops chunks
  staged_later ops chunks h = record {
    words = λ x l there rank. words x l (known_after events x.array) refl there rank;
    there = λ id. h.there id ∙ same_puts id (puts_of ops) h.known;
    sizes = λ array index l cells there e. let was = before array index l cells (known_after events array) refl there e in
        h.sizes array index was.0 cells was.1 e ∙ sym (ap (λ (i : ArrayInfo). cell_count (chunk_shape i)) was.2);
    typed = λ array index l cells there e. let was = before array index l cells (known_after events array) refl there e in
        subst (λ (i : ArrayInfo). AreWords i.dtype cells) (sym was.2) (h.typed array index was.0 cells was.1 e);
    known = puts_later (puts_of ops) h.known;
  }
    where
      missing : (array : ℕ) (index : List ℕ) → known_after events array ≡ None → staged_of chunks (array ∷ index) ≡ None
      missing array index none = no_chunk (staged_of chunks (array ∷ index)) (h.there (array ∷ index) ∙ none_there array index (puts_of ops) none h.known)

      before : (array : ℕ) (index : List ℕ) (l : Known) (cells : List (Option ℕ)) (o : Option Known) → known_after events array ≡ o → known_after later array ≡ Some l → staged_of chunks (array ∷ index) ≡ Some cells
          → (k : Known) × (known_after events array ≡ Some k) × (l.info ≡ k.info)
      before array index l cells (Some k) is there e =
          let now = keeps array k is in
          (k, is, ap (λ (m : Known). m.info) (some_inj l now.0 (sym there ∙ now.1)) ∙ now.2)
      before array index l cells None is there e = let clash : None ≡ Some cells = sym (missing array index is) ∙ e in absurd (let no_such : ⊥ = cc in no_such)

      words : (x : Cell) (l : Known) (o : Option Known) → known_after events x.array ≡ o → known_after later x.array ≡ Some l → length x.index ≡ length (chunk_shape l.info) → word_at chunks l x ≡ written ops no_content x
      words x l (Some k) is there rank =
          let now = keeps x.array k is in
          let info : l.info ≡ k.info = ap (λ (m : Known). m.info) (some_inj l now.0 (sym there ∙ now.1)) ∙ now.2 in
          ap (λ (i : ArrayInfo). staged_at (unwrap_or (staged_of chunks (x.array ∷ chunk_index (chunk_shape i) x.index)) []) (c_place (chunk_shape i) (within_chunk (chunk_shape i) x.index))) info
          ∙ h.words x k is (rank ∙ ap (λ (i : ArrayInfo). length (chunk_shape i)) info)
      words x l None is there rank =
          ap (λ o. staged_at (unwrap_or o []) (c_place (chunk_shape l.info) (within_chunk (chunk_shape l.info) x.index))) (missing x.array (chunk_index (chunk_shape l.info) x.index) is)
          ∙ sym (none_from (written ops no_content x) (some_put (puts_of ops) no_content x ∙ no_cell x (puts_of ops) is h.known))

length_in : (ns cs is : List ℕ) → length cs ≡ length ns → length is ≡ length ns → length (in_array ns cs is) ≡ length ns
length_in [] [] [] e f = refl
length_in [] [] (i ∷ is) e f = absurd (omega (arith, f))
length_in [] (c ∷ cs) is e f = absurd (omega (arith, e))
length_in (n ∷ ns) [] is e f = absurd (omega (arith, e))
length_in (n ∷ ns) (c ∷ cs) [] e f = absurd (omega (arith, f))
length_in (n ∷ ns) (c ∷ cs) (i ∷ is) e f = ap suc (length_in ns cs is (omega (arith, e)) (omega (arith, f)))

-- at each place of a chunk is staged the word that the operations put last at its cell
pub staged_cell : (events : History) (ops : List Op) (chunks : List StagedChunk) (k : Known) (array : ℕ) (index at : List ℕ) (cells : List (Option ℕ)) → AreStaged events ops chunks → known_after events array ≡ Some k → staged_of chunks (array ∷ index) ≡ Some cells
    → length index ≡ length (chunk_shape k.info) → IsInside (chunk_shape k.info) at
    → staged_at cells (c_place (chunk_shape k.info) at) ≡ written ops no_content (cell_at k (record { array = array; index = index }) at)
staged_cell events ops chunks k array index at cells h known there rank inside =
    let ns = chunk_shape k.info in
    let c : Chunk = record { array = array; index = index } in
    let x = cell_at k c at in
    let same : chunk_index ns x.index ≡ index = chunk_index-in_array ns index at inside rank in
    let place : within_chunk ns x.index ≡ at = within_chunk-in_array ns index at inside rank in
    sym (ap (λ o. staged_at (unwrap_or o []) (c_place ns at)) (ap (λ xs. staged_of chunks (array ∷ xs)) same ∙ there))
    ∙ sym (ap (λ xs. staged_at (unwrap_or (staged_of chunks (array ∷ chunk_index ns x.index)) []) (c_place ns xs)) place)
    ∙ h.words x k known (length_in ns index at rank (IsInside-length ns at inside))
