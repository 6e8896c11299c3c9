-- What is staged after a write is what the operations with it write.
use Rattle.std.proofs.Common.{◌≡◌, ◌∙◌, ℕ, zero, suc, ◌<◌, ◌≤◌, ◌^◌, ◌+◌, ◌==◌, ◌&&◌, ◌||◌, not, Bool, true, false, cond, List, [], ◌∷◌, ◌++◌, length, map, set, get_or, replicate, Option, Some, None, Result, Ok, Err, refl, sym, ap, subst, arith, unwrap_or, eqb-true, append_assoc, get_or-set_other, get_or-set_same}
use Rattle.std.specs.Prelude.{is_some, is_none, filter, filter_map}
use Rattle.history.specs.Reads.{is_put, target_cell, unwritten}
use Rattle.transaction_cells.specs.Needs.{is_bare, needs}
use Rattle.transaction_cells.specs.declared.view_cells.Piece.{Piece}
use Rattle.transaction_cells.proofs.NeedLaws.{piece_pairs}
use Rattle.std.specs.List.{AllByRecursion, list_any, fold, zip}
use Rattle.std.specs.Str.{bytes_eq}
use Rattle.std.proofs.lemmas.Bool.Decides.{nat_tests}
use Rattle.std.proofs.lemmas.List.{length-replicate, length-set, append-nil}
use Rattle.std.proofs.lemmas.List.Sums.{fold-append}
use Rattle.std.proofs.lemmas.Slice.Eq.{bytes_eq-Decides}
use Rattle.cells.specs.Places.{cell_count, c_place, c_index}
use Rattle.cells.specs.Shapes.{IsChunkShape}
use Rattle.cells.proofs.Laws.{c_index-c_place}
use Rattle.history.specs.declared.event.Op.{Op}
use Rattle.history.specs.declared.event.Op.TheVariants.{Write}
use Rattle.history.specs.Arrays.{Known, known_after, chunk_shape}
use Rattle.history.specs.Chunks.{chunk_index, within_chunk, in_array, chunk_of, chunk_in}
use Rattle.history.specs.History.{History}
use Rattle.history.specs.Writes.{Put, Content, put, put_at, puts_of, puts_of_op, written}
use Rattle.history.proofs.Laws.{in_array-split, some_inj, none_is_none}
use Rattle.rebase_writes.specs.Staged.{staged_at, AreWords}
use Rattle.stack_driver.specs.Targets.{Cell, is_cell, inwards}
use Rattle.stack_driver.specs.Views.{targets_of}
use Rattle.stack_driver.specs.declared.view.View.{View}
use Rattle.transaction_cells.specs.Operations.{HasSites, AreStaged, IsInArray, IsLeafIn, IsGrowing, no_content}
use Rattle.history.specs.declared.array.ArrayInfo.{ArrayInfo}
use Rattle.cast_driver.proofs.Laws.{IsWord-word_back}
use Rattle.cells.specs.Numbers.{IsWord}
use Rattle.cells.specs.declared.dtype.Dtype.{Dtype}
use Rattle.std.specs.Option.{ForSome}
use Rattle.std.proofs.lemmas.List.Elements.{All-set, All-replicate}
use Rattle.index_transform.specs.Cells.{cells_of}
use Rattle.stack_driver.specs.Views.{look_of}
use Rattle.stack_targets.specs.Buffers.{all_landings}
use Rattle.stack_targets.specs.Landings.{Seen, Landing, leaves_of, no_leaf}
use Rattle.stack_targets.specs.declared.error.TargetsError.{TargetsError}
use Rattle.cells.proofs.Laws.{both, both_true}
use Rattle.transaction_cells.proofs.ToldLaws.{all_landed}
use Rattle.transaction_cells.specs.Lanes.{HasGrid, IsShownAs}
use Rattle.transaction_cells.specs.Sites.{Site, sites_of, sites_in, site_of, id_of, IsLanded, pairs_at}
use Rattle.transaction_cells.specs.Pieces.{AreCells, IsPiece}
use Rattle.transaction_cells.specs.declared.view_cells.ViewCells.{ViewCells}
use Rattle.history.specs.Refs.{IsKnownRef}
use Rattle.stack_driver.specs.References.{Reference}
use Rattle.transaction_cells.specs.Staging.{word_in, StagedChunk, IsSized, CanStage, staged_of, with_word, written_at}
use Rattle.transaction_cells.proofs.PlaceLaws.{inside_within, place-lt}

-- what words put at the cells of sites
abbrev pub puts_at : List Site → List ℕ → List Put
puts_at [] words = []
puts_at (s ∷ sites) [] = []
puts_at (s ∷ sites) (word ∷ words) = (s.target.cell, inwards s.target.casts word) ∷ puts_at sites words

puts_of_sites : (sites : List Site) (words : List ℕ) → filter_map put_at (zip (map (λ (s : Site). Ok s.target) sites) words) ≡ puts_at sites words
puts_of_sites [] words = refl
puts_of_sites (s ∷ sites) [] = refl
puts_of_sites (s ∷ sites) (word ∷ words) = ap (λ ps. (s.target.cell, inwards s.target.casts word) ∷ ps) (puts_of_sites sites words)

puts-append : (ops more : List Op) → puts_of (ops ++ more) ≡ puts_of ops ++ puts_of more
puts-append [] more = refl
puts-append (op ∷ ops) more = ap (λ ps. puts_of_op op ++ ps) (puts-append ops more) ∙ sym (append_assoc (puts_of_op op) (puts_of ops) (puts_of more))

-- one write more
pub puts-more : (ops : List Op) (v : View) (words : List ℕ) → HasSites v → puts_of (ops ++ Write v words ∷ []) ≡ puts_of ops ++ puts_at (sites_of v) words
puts-more ops v words has =
    puts-append ops (Write v words ∷ [])
    ∙ ap (λ ps. puts_of ops ++ ps) (append-nil (filter_map put_at (zip (targets_of v) words)) ∙ ap (λ ts. filter_map put_at (zip ts words)) has.targets ∙ puts_of_sites (sites_of v) words)

-- a site of an array of a history, where the history says that its cell lies
pub record IsSiteIn (events : History) (s : Site) : Type 0 where
  pub array : Known
  pub known : known_after events s.target.cell.array ≡ Some array
  pub rank : length s.target.cell.index ≡ length (chunk_shape array.info)
  pub shape : IsChunkShape (chunk_shape array.info)
  pub id : s.id ≡ s.target.cell.array ∷ chunk_index (chunk_shape array.info) s.target.cell.index
  pub place : s.place ≡ c_place (chunk_shape array.info) (within_chunk (chunk_shape array.info) s.target.cell.index)
  pub size : s.size ≡ cell_count (chunk_shape array.info)

-- the chunk and the place tell an index vector
same_index : (ns xs ys : List ℕ) → IsChunkShape ns → length xs ≡ length ns → length ys ≡ length ns → chunk_index ns xs ≡ chunk_index ns ys
    → c_place ns (within_chunk ns xs) ≡ c_place ns (within_chunk ns ys) → xs ≡ ys
same_index ns xs ys shape one other chunks places =
    let within : within_chunk ns xs ≡ within_chunk ns ys =
    sym (c_index-c_place ns (within_chunk ns xs) (inside_within ns xs shape one)) ∙ ap (c_index ns) places ∙ c_index-c_place ns (within_chunk ns ys) (inside_within ns ys shape other) in
    sym (in_array-split ns xs one) ∙ (λ i. in_array ns (chunks i) (within i)) ∙ in_array-split ns ys other

-- whether a site is that of a cell
pub record Meets (id : List ℕ) (place n : ℕ) (x : Cell) (s : Site) : Type 0 where
  pub other : bytes_eq s.id id ≡ false → is_cell s.target.cell x ≡ false
  pub same : bytes_eq s.id id ≡ true → is_cell s.target.cell x ≡ (s.place == place)
  pub size : bytes_eq s.id id ≡ true → (s.size ≡ n) × (s.place < n)

itself_is : (n : ℕ) → (n == n) ≡ true
itself_is n = grind (arith, nat_tests)

-- a word at one place
at_place : (cells : List (Option ℕ)) (p q w : ℕ) → p < length cells → staged_at (set cells p (Some w)) q ≡ cond (p == q) (Some w) (staged_at cells q)
at_place cells p q w lt = by (p == q) refl
  where
    by : (b : Bool) → (p == q) ≡ b → staged_at (set cells p (Some w)) q ≡ cond b (Some w) (staged_at cells q)
    by true e = let same : p ≡ q = eqb-true p q e in subst (λ r. staged_at (set cells p (Some w)) r ≡ Some w) same (get_or-set_same cells p (Some w) None lt)
    by false e = get_or-set_other cells p q (Some w) None (λ same. let itself : (p == q) ≡ true = subst (λ r. (p == r) ≡ true) (sym same) (itself_is p) in let no_such : ⊥ = cc in no_such)

none_at : (n place : ℕ) → staged_at (replicate n None) place ≡ None
none_at zero place = refl
none_at (suc n) zero = refl
none_at (suc n) (suc place) = none_at n place

-- the size of what there is
abbrev HasSize : ℕ → Option (List (Option ℕ)) → Type 0
HasSize n cells = (c : List (Option ℕ)) → cells ≡ Some c → length c ≡ n

-- one word more of a chunk
one_word : (s : Site) (word place n : ℕ) (cells : Option (List (Option ℕ))) → s.size ≡ n → s.place < n → HasSize n cells
    → HasSize n (with_word s word cells) × (staged_at (unwrap_or (with_word s word cells) []) place ≡ cond (s.place == place) (Some (inwards s.target.casts word)) (staged_at (unwrap_or cells []) place))
one_word s word place n None size below sized =
    let long : length (replicate s.size None) ≡ n = length-replicate s.size None ∙ size in
    let w = Some (inwards s.target.casts word) in (
      λ c is. let same : set (replicate s.size None) s.place w ≡ c = cc in ap (λ (xs : List (Option ℕ)). length xs) (sym same) ∙ length-set (replicate s.size None) s.place w ∙ long,
      at_place (replicate s.size None) s.place place (inwards s.target.casts word) (omega (arith, long, below)) ∙ ap (cond (s.place == place) w) (none_at s.size place),
    )
one_word s word place n (Some cells) size below sized =
    let long : length cells ≡ n = (let there : Some cells ≡ Some cells = refl in sized cells there) in
    let w = Some (inwards s.target.casts word) in (
      λ c is. let same : set cells s.place w ≡ c = cc in ap (λ (xs : List (Option ℕ)). length xs) (sym same) ∙ length-set cells s.place w ∙ long,
      at_place cells s.place place (inwards s.target.casts word) (omega (arith, long, below)),
    )

-- what is written at a place of a chunk is what is put at the cell
module _ (id : List ℕ) (place n : ℕ) (x : Cell) where
  pub put_words : (sites : List Site) (words : List ℕ) (cells : Option (List (Option ℕ))) (content : Content) → AllByRecursion (Meets id place n x) sites → HasSize n cells → staged_at (unwrap_or cells []) place ≡ content x
      → HasSize n (written_at id sites words cells) × (staged_at (unwrap_or (written_at id sites words cells) []) place ≡ fold put content (puts_at sites words) x)
  put_words [] words cells content meets sized is = (sized, is)
  put_words (s ∷ sites) [] cells content meets sized is = (sized, is)
  put_words (s ∷ sites) (word ∷ words) cells content meets sized is =
      told (bytes_eq s.id id) refl (λ next size now. put_words sites words next (put content (s.target.cell, inwards s.target.casts word)) meets.1 size now)
    where
      told : (b : Bool) → bytes_eq s.id id ≡ b
          → ((next : Option (List (Option ℕ))) → HasSize n next → staged_at (unwrap_or next []) place ≡ put content (s.target.cell, inwards s.target.casts word) x
          → HasSize n (written_at id sites words next) × (staged_at (unwrap_or (written_at id sites words next) []) place ≡ fold put (put content (s.target.cell, inwards s.target.casts word)) (puts_at sites words) x))
          → HasSize n (written_at id sites words (cond b (with_word s word cells) cells))
          × (staged_at (unwrap_or (written_at id sites words (cond b (with_word s word cells) cells)) []) place ≡ fold put (put content (s.target.cell, inwards s.target.casts word)) (puts_at sites words) x)
      told true e rest =
          let size = meets.0.size e in
          let one = one_word s word place n cells size.0 size.1 sized in
          rest (with_word s word cells) one.0 (one.1 ∙ (λ i. cond (sym (meets.0.same e) i) (Some (inwards s.target.casts word)) (is i)))
      told false e rest = rest cells sized (is ∙ sym (ap (λ b. cond b (Some (inwards s.target.casts word)) (content x)) (meets.0.other e)))

-- a chunk is there where a word is put in it
some_stays : (id : List ℕ) (sites : List Site) (words : List ℕ) (c : List (Option ℕ)) → is_some (written_at id sites words (Some c)) ≡ true
some_stays id [] words c = refl
some_stays id (s ∷ sites) [] c = refl
some_stays id (s ∷ sites) (word ∷ words) c = told (bytes_eq s.id id) (some_stays id sites words (set c s.place (Some (inwards s.target.casts word)))) (some_stays id sites words c)
  where
    told : (b : Bool) → is_some (written_at id sites words (with_word s word (Some c))) ≡ true → is_some (written_at id sites words (Some c)) ≡ true
        → is_some (written_at id sites words (cond b (with_word s word (Some c)) (Some c))) ≡ true
    told true on off = on
    told false on off = off

or_true : (b : Bool) → (b || true) ≡ true
or_true true = refl
or_true false = refl

there_after : (events : History) (id : List ℕ) (sites : List Site) (words : List ℕ) (cells : Option (List (Option ℕ))) → AllByRecursion (λ (s : Site). s.id ≡ id_of (chunk_of events s.target.cell)) sites
    → is_some (written_at id sites words cells) ≡ (is_some cells || list_any (λ p. bytes_eq (id_of (chunk_of events p.0)) id) (puts_at sites words))
there_after events id [] words cells ids = sym (or_false (is_some cells))
  where
    or_false : (b : Bool) → (b || false) ≡ b
    or_false true = refl
    or_false false = refl
there_after events id (s ∷ sites) [] cells ids = sym (or_false (is_some cells))
  where
    or_false : (b : Bool) → (b || false) ≡ b
    or_false true = refl
    or_false false = refl
there_after events id (s ∷ sites) (word ∷ words) cells ids =
    told (bytes_eq s.id id) (there_after events id sites words cells ids.1)
    ∙ ap (λ b. is_some cells || (b || list_any (λ p. bytes_eq (id_of (chunk_of events p.0)) id) (puts_at sites words))) (ap (λ xs. bytes_eq xs id) ids.0)
  where
    told : (b : Bool) → is_some (written_at id sites words cells) ≡ (is_some cells || list_any (λ p. bytes_eq (id_of (chunk_of events p.0)) id) (puts_at sites words))
        → is_some (written_at id sites words (cond b (with_word s word cells) cells)) ≡ (is_some cells || (b || list_any (λ p. bytes_eq (id_of (chunk_of events p.0)) id) (puts_at sites words)))
    told true e = some_stays id sites words (set (unwrap_or cells (replicate s.size None)) s.place (Some (inwards s.target.casts word))) ∙ sym (or_true (is_some cells))
    told false e = e

-- sizes stay
sized_after : (id : List ℕ) (n : ℕ) (sites : List Site) (words : List ℕ) (cells : Option (List (Option ℕ))) → AllByRecursion (λ (s : Site). bytes_eq s.id id ≡ true → (s.size ≡ n) × (s.place < n)) sites → HasSize n cells → HasSize n (written_at id sites words cells)
sized_after id n [] words cells all sized = sized
sized_after id n (s ∷ sites) [] cells all sized = sized
sized_after id n (s ∷ sites) (word ∷ words) cells all sized =
    told (bytes_eq s.id id) refl (λ next size. sized_after id n sites words next all.1 size)
  where
    told : (b : Bool) → bytes_eq s.id id ≡ b → ((next : Option (List (Option ℕ))) → HasSize n next → HasSize n (written_at id sites words next)) → HasSize n (written_at id sites words (cond b (with_word s word cells) cells))
    told true e rest = let size = all.0 e in rest (with_word s word cells) (one_word s word 0 n cells size.0 size.1 sized).0
    told false e rest = rest cells sized

-- the sites of a view of arrays of a history
site_known : (events : History) (leaves : List Seen) (l : Landing) → AllByRecursion (IsLeafIn events) leaves → AllByRecursion HasGrid leaves → IsLanded leaves l → IsSiteIn events (site_of leaves l)
site_known events leaves l all grids landed =
    let leaf = leaf_at (IsLeafIn events) leaves l.leaf all landed.0 in
    let grid = leaf_at HasGrid leaves l.leaf grids landed.0 in
    let seen = get_or leaves l.leaf no_leaf in
    record {
      array = leaf.array;
      known = leaf.known;
      rank = landed.1 ∙ sym grid.rank ∙ ap (λ (ns : List ℕ). length ns) leaf.chunk;
      shape = subst IsChunkShape leaf.chunk grid.shape;
      id = ap (λ (ns : List ℕ). seen.array.number ∷ chunk_index ns l.index) leaf.chunk;
      place = ap (λ (ns : List ℕ). c_place ns (within_chunk ns l.index)) leaf.chunk;
      size = ap cell_count leaf.chunk;
    }
  where
    leaf_at : (P : Seen → Type 0) (ls : List Seen) (n : ℕ) → AllByRecursion P ls → n < length ls → P (get_or ls n no_leaf)
    leaf_at P [] n all lt = absurd (omega (arith, lt))
    leaf_at P (s ∷ ls) zero all lt = all.0
    leaf_at P (s ∷ ls) (suc n) all lt = leaf_at P ls n all.1 (omega (arith, lt))

known_landings : (events : History) (leaves : List Seen) (ls : List Landing) → AllByRecursion (IsLeafIn events) leaves → AllByRecursion HasGrid leaves → AllByRecursion (IsLanded leaves) ls → AllByRecursion (IsSiteIn events) (map (site_of leaves) ls)
known_landings events leaves [] all grids landed = tt
known_landings events leaves (l ∷ ls) all grids landed = (site_known events leaves l all grids landed.0, known_landings events leaves ls all grids landed.1)

pub known_sites : (events : History) (v : View) → AllByRecursion (IsLeafIn events) (leaves_of v) → AllByRecursion HasGrid (leaves_of v) → AllByRecursion (IsSiteIn events) (sites_of v)
known_sites events v all grids = by (all_landings v) refl
  where
    by : (r : Result (List Landing) TargetsError) → all_landings v ≡ r → AllByRecursion (IsSiteIn events) (sites_in (leaves_of v) r)
    by (Ok ls) is = known_landings events (leaves_of v) ls all grids (all_landed v (cells_of (look_of v).dims) 0 ls is).0
    by (Err e) is = tt

-- a word of the view's dtype goes back to one of the array's dtype
abbrev pub GoesBack : History → Dtype → Site → Type 0
GoesBack events dtype s = (k : Known) (w : ℕ) → known_after events s.target.cell.array ≡ Some k → IsWord dtype w → IsWord k.info.dtype (inwards s.target.casts w)

site_typed : (events : History) (dtype : Dtype) (leaves : List Seen) (l : Landing) → AllByRecursion (IsLeafIn events) leaves → AllByRecursion (IsShownAs dtype) leaves → IsLanded leaves l → GoesBack events dtype (site_of leaves l)
site_typed events dtype leaves l all typed landed k w known word =
    let seen = get_or leaves l.leaf no_leaf in
    let leaf : IsLeafIn events seen = leaf_at (IsLeafIn events) leaves l.leaf all landed.0 in
    let shown : IsShownAs dtype seen = leaf_at (IsShownAs dtype) leaves l.leaf typed landed.0 in
    let same : leaf.array ≡ k = some_inj leaf.array k (sym leaf.known ∙ known) in
    subst (λ d. IsWord d (inwards seen.casts w)) (leaf.dtype ∙ ap (λ (a : Known). a.info.dtype) same)
    (IsWord-word_back seen.casts seen.array.dtype w shown.begins (subst (λ d. IsWord d w) (sym shown.ends) word))
  where
    leaf_at : (P : Seen → Type 0) (ls : List Seen) (n : ℕ) → AllByRecursion P ls → n < length ls → P (get_or ls n no_leaf)
    leaf_at P [] n all lt = absurd (omega (arith, lt))
    leaf_at P (s ∷ ls) zero all lt = all.0
    leaf_at P (s ∷ ls) (suc n) all lt = leaf_at P ls n all.1 (omega (arith, lt))

typed_landings : (events : History) (dtype : Dtype) (leaves : List Seen) (ls : List Landing) → AllByRecursion (IsLeafIn events) leaves → AllByRecursion (IsShownAs dtype) leaves → AllByRecursion (IsLanded leaves) ls
    → AllByRecursion (GoesBack events dtype) (map (site_of leaves) ls)
typed_landings events dtype leaves [] all typed landed = tt
typed_landings events dtype leaves (l ∷ ls) all typed landed = (site_typed events dtype leaves l all typed landed.0, typed_landings events dtype leaves ls all typed landed.1)

typed_sites : (events : History) (v : View) → AllByRecursion (IsLeafIn events) (leaves_of v) → HasSites v → AllByRecursion (GoesBack events (look_of v).dtype) (sites_of v)
typed_sites events v all has = by (all_landings v) refl
  where
    by : (r : Result (List Landing) TargetsError) → all_landings v ≡ r → AllByRecursion (GoesBack events (look_of v).dtype) (sites_in (leaves_of v) r)
    by (Ok ls) is = typed_landings events (look_of v).dtype (leaves_of v) ls all has.typed (all_landed v (cells_of (look_of v).dims) 0 ls is).0
    by (Err e) is = tt

-- an id tells the array
module _ (events : History) (s : Site) (h : IsSiteIn events s) (array : ℕ) (index : List ℕ) (k : Known) (known : known_after events array ≡ Some k) where
  pub of_id : bytes_eq s.id (array ∷ index) ≡ true → (s.target.cell.array ≡ array) × (chunk_index (chunk_shape h.array.info) s.target.cell.index ≡ index) × (h.array ≡ k)
  of_id e =
      let same : s.target.cell.array ∷ chunk_index (chunk_shape h.array.info) s.target.cell.index ≡ array ∷ index = sym h.id ∙ (bytes_eq-Decides s.id (array ∷ index)).0 e in
      let number : s.target.cell.array ≡ array = cc in
      let chunks : chunk_index (chunk_shape h.array.info) s.target.cell.index ≡ index = cc in
      let one : Some h.array ≡ Some k = sym h.known ∙ ap (known_after events) number ∙ known in
      (number, chunks, some_inj h.array k one)

  fits_id : bytes_eq s.id (array ∷ index) ≡ true → (s.size ≡ cell_count (chunk_shape k.info)) × (s.place < cell_count (chunk_shape k.info))
  fits_id e =
      let same = ap (λ (l : Known). chunk_shape l.info) (of_id e).2 in (
        h.size ∙ ap cell_count same,
        subst (λ (ns : List ℕ). s.place < cell_count ns) same (subst (λ n. n < cell_count (chunk_shape h.array.info)) (sym h.place) (place-lt (chunk_shape h.array.info) s.target.cell.index h.shape h.rank)),
      )

-- a cell and a site meet in the chunk's place alone
module _ (events : History) (s : Site) (h : IsSiteIn events s) (x : Cell) (k : Known) (known : known_after events x.array ≡ Some k) (rank : length x.index ≡ length (chunk_shape k.info)) where
  abbrev ns : List ℕ
  ns = chunk_shape k.info

  abbrev place : ℕ
  place = c_place (chunk_shape k.info) (within_chunk (chunk_shape k.info) x.index)

  cell_parts : is_cell s.target.cell x ≡ true → (s.target.cell.array ≡ x.array) × (s.target.cell.index ≡ x.index)
  cell_parts e =
      let parts = both (s.target.cell.array == x.array) (bytes_eq s.target.cell.index x.index) e in
      (eqb-true s.target.cell.array x.array parts.0, (bytes_eq-Decides s.target.cell.index x.index).0 parts.1)

  same_array : s.target.cell.array ≡ x.array → h.array ≡ k
  same_array number = some_inj h.array k (sym h.known ∙ ap (known_after events) number ∙ known)

  -- of one cell are one id and one place
  at_cell : is_cell s.target.cell x ≡ true → (s.id ≡ x.array ∷ chunk_index ns x.index) × (s.place ≡ place)
  at_cell e =
      let parts = cell_parts e in
      let same = ap (λ (l : Known). chunk_shape l.info) (same_array parts.0) in (
        h.id ∙ (λ i. parts.0 i ∷ chunk_index (same i) (parts.1 i)),
        h.place ∙ (λ i. c_place (same i) (within_chunk (same i) (parts.1 i))),
      )

  -- and of one id and one place is one cell
  one_cell : bytes_eq s.id (x.array ∷ chunk_index ns x.index) ≡ true → s.place ≡ place → is_cell s.target.cell x ≡ true
  one_cell e at =
      let parts = of_id events s h x.array (chunk_index ns x.index) k known e in
      let same = ap (λ (l : Known). chunk_shape l.info) parts.2 in
      let index : s.target.cell.index ≡ x.index =
      same_index ns s.target.cell.index x.index (subst IsChunkShape same h.shape) (h.rank ∙ ap (λ (ms : List ℕ). length ms) same) rank
      (sym (ap (λ (ms : List ℕ). chunk_index ms s.target.cell.index) same) ∙ parts.1)
      (sym (ap (λ (ms : List ℕ). c_place ms (within_chunk ms s.target.cell.index)) same) ∙ sym h.place ∙ at) in
      both_true (s.target.cell.array == x.array) (bytes_eq s.target.cell.index x.index) (subst (λ (m : ℕ). (s.target.cell.array == m) ≡ true) parts.0 (itself_is s.target.cell.array)) ((bytes_eq-Decides s.target.cell.index x.index).1 index)

  pub meets_cell : Meets (x.array ∷ chunk_index ns x.index) place (cell_count ns) x s
  meets_cell = record {
    other = λ e. no_true (is_cell s.target.cell x) (λ t. let clash : true ≡ false = sym ((bytes_eq-Decides s.id (x.array ∷ chunk_index ns x.index)).1 (at_cell t).0) ∙ e in let no_such : ⊥ = cc in no_such);
    same = λ e. alike (is_cell s.target.cell x) (s.place == place) (λ t. subst (λ (m : ℕ). (s.place == m) ≡ true) (at_cell t).1 (itself_is s.place)) (λ t. one_cell e (eqb-true s.place place t));
    size = λ e. fits_id events s h x.array (chunk_index ns x.index) k known e;
  }
    where
      no_true : (b : Bool) → (b ≡ true → ⊥) → b ≡ false
      no_true true f = absurd (f refl)
      no_true false f = refl

      alike : (a b : Bool) → (a ≡ true → b ≡ true) → (b ≡ true → a ≡ true) → a ≡ b
      alike true b f g = sym (f refl)
      alike false true f g = g refl
      alike false false f g = refl

all_meet : (events : History) (sites : List Site) (x : Cell) (k : Known) → known_after events x.array ≡ Some k → length x.index ≡ length (chunk_shape k.info) → AllByRecursion (IsSiteIn events) sites
    → AllByRecursion (Meets (x.array ∷ chunk_index (chunk_shape k.info) x.index) (c_place (chunk_shape k.info) (within_chunk (chunk_shape k.info) x.index)) (cell_count (chunk_shape k.info)) x) sites
all_meet events [] x k known rank all = tt
all_meet events (s ∷ sites) x k known rank all = (meets_cell events s all.0 x k known rank, all_meet events sites x k known rank all.1)

all_fit : (events : History) (sites : List Site) (array : ℕ) (index : List ℕ) (k : Known) → known_after events array ≡ Some k → AllByRecursion (IsSiteIn events) sites
    → AllByRecursion (λ (s : Site). bytes_eq s.id (array ∷ index) ≡ true → (s.size ≡ cell_count (chunk_shape k.info)) × (s.place < cell_count (chunk_shape k.info))) sites
all_fit events [] array index k known all = tt
all_fit events (s ∷ sites) array index k known all = (λ e. fits_id events s all.0 array index k known e, all_fit events sites array index k known all.1)

all_named : (events : History) (sites : List Site) → AllByRecursion (IsSiteIn events) sites → AllByRecursion (λ (s : Site). s.id ≡ id_of (chunk_of events s.target.cell)) sites
all_named events [] all = tt
all_named events (s ∷ sites) all = (all.0.id ∙ sym (ap (λ o. id_of (chunk_in o s.target.cell)) all.0.known), all_named events sites all.1)

any-append : (f : Put → Bool) (ps qs : List Put) → list_any f (ps ++ qs) ≡ (list_any f ps || list_any f qs)
any-append f [] qs = refl
any-append f (p ∷ ps) qs = told (f p) (any-append f ps qs)
  where
    told : (b : Bool) → list_any f (ps ++ qs) ≡ (list_any f ps || list_any f qs) → (b || list_any f (ps ++ qs)) ≡ ((b || list_any f ps) || list_any f qs)
    told true e = refl
    told false e = e

-- words of a chunk are of its array's dtype
abbrev HasWords : Dtype → Option (List (Option ℕ)) → Type 0
HasWords dtype cells = (c : List (Option ℕ)) → cells ≡ Some c → AreWords dtype c

one_typed : (s : Site) (word : ℕ) (dtype : Dtype) (cells : Option (List (Option ℕ))) → IsWord dtype (inwards s.target.casts word) → HasWords dtype cells → HasWords dtype (with_word s word cells)
one_typed s word dtype None is typed c same =
    let here : set (replicate s.size None) s.place (Some (inwards s.target.casts word)) ≡ c = cc in
    subst (AreWords dtype) here (All-set (λ cell. ForSome cell (IsWord dtype)) (replicate s.size None) s.place (Some (inwards s.target.casts word))
    (λ w e. subst (IsWord dtype) (some_inj (inwards s.target.casts word) w e) is) (All-replicate (λ cell. ForSome cell (IsWord dtype)) s.size None (λ w e. absurd (none_is_none w e))))
one_typed s word dtype (Some cells) is typed c same =
    let here : set cells s.place (Some (inwards s.target.casts word)) ≡ c = cc in
    subst (AreWords dtype) here (All-set (λ cell. ForSome cell (IsWord dtype)) cells s.place (Some (inwards s.target.casts word))
    (λ w e. subst (IsWord dtype) (some_inj (inwards s.target.casts word) w e) is) (typed cells refl))

typed_after : (id : List ℕ) (shown dtype : Dtype) (sites : List Site) (words : List ℕ) (cells : Option (List (Option ℕ))) → AllByRecursion (λ (s : Site). bytes_eq s.id id ≡ true → (w : ℕ) → IsWord shown w → IsWord dtype (inwards s.target.casts w)) sites
    → AllByRecursion (IsWord shown) words → HasWords dtype cells → HasWords dtype (written_at id sites words cells)
typed_after id shown dtype [] words cells back are typed = typed
typed_after id shown dtype (s ∷ sites) [] cells back are typed = typed
typed_after id shown dtype (s ∷ sites) (word ∷ words) cells back are typed =
    told (bytes_eq s.id id) refl (λ next h. typed_after id shown dtype sites words next back.1 are.1 h)
  where
    told : (b : Bool) → bytes_eq s.id id ≡ b → ((next : Option (List (Option ℕ))) → HasWords dtype next → HasWords dtype (written_at id sites words next)) → HasWords dtype (written_at id sites words (cond b (with_word s word cells) cells))
    told true e rest = rest (with_word s word cells) (one_typed s word dtype cells (back.0 e word are.0) typed)
    told false e rest = rest cells typed

all_back : (events : History) (shown : Dtype) (sites : List Site) (array : ℕ) (index : List ℕ) (k : Known) → known_after events array ≡ Some k → AllByRecursion (IsSiteIn events) sites → AllByRecursion (GoesBack events shown) sites
    → AllByRecursion (λ (s : Site). bytes_eq s.id (array ∷ index) ≡ true → (w : ℕ) → IsWord shown w → IsWord k.info.dtype (inwards s.target.casts w)) sites
all_back events shown [] array index k known all typed = tt
all_back events shown (s ∷ sites) array index k known all typed =
    (λ e w word. typed.0 k w (ap (known_after events) (of_id events s all.0 array index k known e).0 ∙ known) word, all_back events shown sites array index k known all.1 typed.1)

all_with : {A : Type 0} (P : A → Type 0) (xs ys : List A) → AllByRecursion P xs → AllByRecursion P ys → AllByRecursion P (xs ++ ys)
all_with P [] ys all rest = rest
all_with P (x ∷ xs) ys all rest = (all.0, all_with P xs ys all.1 rest)

-- words that are put at sites are put into arrays of the history
puts_known : (events : History) (sites : List Site) (words : List ℕ) → AllByRecursion (IsSiteIn events) sites → AllByRecursion (IsInArray events) (puts_at sites words)
puts_known events [] words all = tt
puts_known events (s ∷ sites) [] all = tt
puts_known events (s ∷ sites) (word ∷ words) all = (record { array = all.0.array; known = all.0.known }, puts_known events sites words all.1)

-- what is staged after a write is what the operations with it write
pub staged_more : (events : History) (v : View) (ops : List Op) (words : List ℕ) (old new : List StagedChunk) → AllByRecursion (IsLeafIn events) (leaves_of v) → HasSites v
    → ((id : List ℕ) → staged_of new id ≡ written_at id (sites_of v) words (staged_of old id)) → AllByRecursion (IsWord (look_of v).dtype) words → AreStaged events ops old → AreStaged events (ops ++ Write v words ∷ []) new
staged_more events v ops words old new leaves has is are h =
    let sites = sites_of v in
    let known = known_sites events v leaves has.grids in
    let puts = puts-more ops v words has in
    record {
      words = λ x k there rank.
          let ns = chunk_shape k.info in
          let id = x.array ∷ chunk_index ns x.index in
          ap (λ o. staged_at (unwrap_or o []) (c_place ns (within_chunk ns x.index))) (is id)
          ∙ (put_words id (c_place ns (within_chunk ns x.index)) (cell_count ns) x sites words (staged_of old id) (written ops no_content) (all_meet events sites x k there rank known)
          (λ c e. h.sizes x.array (chunk_index ns x.index) k c there e) (h.words x k there rank)).1
          ∙ sym (ap (λ ps. fold put no_content ps x) puts ∙ ap (λ (c : Content). c x) (fold-append put no_content (puts_of ops) (puts_at sites words)));
      there = λ id.
          ap (λ o. is_some o) (is id) ∙ there_after events id sites words (staged_of old id) (all_named events sites known)
          ∙ ap (λ b. b || list_any (λ p. bytes_eq (id_of (chunk_of events p.0)) id) (puts_at sites words)) (h.there id)
          ∙ sym (ap (list_any (λ p. bytes_eq (id_of (chunk_of events p.0)) id)) puts ∙ any-append (λ p. bytes_eq (id_of (chunk_of events p.0)) id) (puts_of ops) (puts_at sites words));
      sizes = λ array index k cells there e.
          sized_after (array ∷ index) (cell_count (chunk_shape k.info)) sites words (staged_of old (array ∷ index)) (all_fit events sites array index k there known)
          (λ c f. h.sizes array index k c there f) cells (sym (is (array ∷ index)) ∙ e);
      typed = λ array index k cells there e.
          typed_after (array ∷ index) (look_of v).dtype k.info.dtype sites words (staged_of old (array ∷ index))
          (all_back events (look_of v).dtype sites array index k there known (typed_sites events v leaves has)) are (λ c f. h.typed array index k c there f) cells (sym (is (array ∷ index)) ∙ e);
      known = subst (AllByRecursion (IsInArray events)) (sym puts) (all_with (IsInArray events) (puts_of ops) (puts_at sites words) h.known (puts_known events sites words known));
    }

-- what is staged by operations has the sizes of the chunks of a view, and their cells lie in them
staged_sites : (events : History) (ops : List Op) (chunks : List StagedChunk) (sites : List Site) → AllByRecursion (IsSiteIn events) sites → AreStaged events ops chunks
    → AllByRecursion (IsSized chunks) sites × AllByRecursion (λ (s : Site). s.place < s.size) sites × AllByRecursion (λ (s : Site). s.size ≤ 2 ^ 24) sites
staged_sites events ops chunks [] all h = (tt, tt, tt)
staged_sites events ops chunks (s ∷ sites) all h =
    let rest = staged_sites events ops chunks sites all.1 h in
    let is = all.0 in
    let ns = chunk_shape is.array.info in
    let below = place-lt ns s.target.cell.index is.shape is.rank in
    let volume = is.shape.volume in
    let size = is.size in
    let place = is.place in (
      (λ cells there. h.sizes s.target.cell.array (chunk_index ns s.target.cell.index) is.array cells is.known (ap (staged_of chunks) (sym is.id) ∙ there) ∙ sym is.size, rest.0),
      (omega (arith, below, size, place), rest.1),
      (omega (arith, volume, size), rest.2),
    )

-- so words may be staged through a view of arrays of the history
pub can_stage : (events : History) (v : View) (ops : List Op) (chunks : List StagedChunk) (cells : ViewCells) → AllByRecursion (IsLeafIn events) (leaves_of v) → HasSites v → AreCells (sites_of v) cells → AreStaged events ops chunks
    → CanStage chunks cells (length (sites_of v))
can_stage events v ops chunks cells leaves has are h =
    let parts = staged_sites events ops chunks (sites_of v) (known_sites events v leaves has.grids) h in
    record { sites = sites_of v; are = are; counted = refl; sized = parts.0; inside = parts.1; small = parts.2 }

-- nothing is staged by no operations
pub none_staged : (events : History) → AreStaged events [] []
none_staged events = record {
  words = λ x k there rank. refl;
  there = λ id. refl;
  sizes = λ array index k cells there e. absurd (let no_such : ⊥ = cc in no_such);
  typed = λ array index k cells there e. absurd (let no_such : ⊥ = cc in no_such);
  known = tt;
}

-- a leaf with a known reference is of its array
pub leaf_in : (events : History) (seen : Seen) → IsGrowing events → IsKnownRef events seen.array → IsLeafIn events seen
leaf_in events seen grows ref =
    let still = grows ref.seen seen.array.number ref.array ref.known in
    record {
      array = still.0;
      known = still.1;
      chunk = ap (λ (r : Reference). r.chunk) ref.same ∙ ap chunk_shape (sym still.2);
      dtype = ap (λ (r : Reference). r.dtype) ref.same ∙ ap (λ (i : ArrayInfo). i.dtype) (sym still.2);
    }

-- a word is there where one was, or where one is put
pub some_put : (ps : List Put) (content : Content) (x : Cell) → is_some (fold put content ps x) ≡ (is_some (content x) || is_put ps x)
some_put [] content x = sym (or_no (is_some (content x)))
  where
    or_no : (b : Bool) → (b || false) ≡ b
    or_no true = refl
    or_no false = refl
some_put (p ∷ ps) content x = some_put ps (put content p) x ∙ told (is_cell p.0 x)
  where
    told : (b : Bool) → (is_some (cond b (Some p.1) (content x)) || is_put ps x) ≡ (is_some (content x) || (b || is_put ps x))
    told true = sym (or_true (is_some (content x)))
    told false = refl

none_or_some : (o : Option ℕ) → is_none o ≡ not (is_some o)
none_or_some None = refl
none_or_some (Some w) = refl

-- of a chunk's pairs one is bare where one of its sites is
bare_sites : (id : List ℕ) (cells : List (Option ℕ)) (k : ℕ) (sites : List Site) → list_any (is_bare cells) (pairs_at id k sites) ≡ list_any (λ (s : Site). bytes_eq s.id id && is_none (staged_at cells s.place)) sites
bare_sites id cells k [] = refl
bare_sites id cells k (s ∷ sites) = told (bytes_eq s.id id) (bare_sites id cells (k + 1) sites)
  where
    told : (b : Bool) → list_any (is_bare cells) (pairs_at id (k + 1) sites) ≡ list_any (λ (t : Site). bytes_eq t.id id && is_none (staged_at cells t.place)) sites
        → list_any (is_bare cells) (cond b (record { view = k; chunk = s.place } ∷ pairs_at id (k + 1) sites) (pairs_at id (k + 1) sites))
        ≡ ((b && is_none (staged_at cells s.place)) || list_any (λ (t : Site). bytes_eq t.id id && is_none (staged_at cells t.place)) sites)
    told true e = ap (λ c. is_none (staged_at cells s.place) || c) e
    told false e = e

pub any_kept : (keep test : Cell → Bool) (sites : List Site) → list_any test (filter keep (map (λ (s : Site). s.target.cell) sites)) ≡ list_any (λ (s : Site). keep s.target.cell && test s.target.cell) sites
any_kept keep test [] = refl
any_kept keep test (s ∷ sites) = told (keep s.target.cell) (any_kept keep test sites)
  where
    told : (b : Bool) → list_any test (filter keep (map (λ (t : Site). t.target.cell) sites)) ≡ list_any (λ (t : Site). keep t.target.cell && test t.target.cell) sites
        → list_any test (cond b (s.target.cell ∷ filter keep (map (λ (t : Site). t.target.cell) sites)) (filter keep (map (λ (t : Site). t.target.cell) sites)))
        ≡ ((b && test s.target.cell) || list_any (λ (t : Site). keep t.target.cell && test t.target.cell) sites)
    told true e = ap (λ c. test s.target.cell || c) e
    told false e = e

pub named_cells : (sites : List Site) → filter_map target_cell (map (λ (s : Site). Ok s.target) sites) ≡ map (λ (s : Site). s.target.cell) sites
named_cells [] = refl
named_cells (s ∷ sites) = ap (λ xs. s.target.cell ∷ xs) (named_cells sites)

-- a site is bare where no operation wrote its cell
module _ (events : History) (ops : List Op) (chunks : List StagedChunk) (h : AreStaged events ops chunks) (id : List ℕ) where
  pub bare_site : (s : Site) → IsSiteIn events s → (bytes_eq s.id id && is_none (staged_at (unwrap_or (staged_of chunks id) []) s.place)) ≡ (not (is_put (puts_of ops) s.target.cell) && bytes_eq (id_of (chunk_of events s.target.cell)) id)
  bare_site s is =
      let x = s.target.cell in
      let named : s.id ≡ id_of (chunk_of events x) = is.id ∙ sym (ap (λ o. id_of (chunk_in o x)) is.known) in
      told (bytes_eq s.id id) refl ∙ ap (λ xs. not (is_put (puts_of ops) s.target.cell) && bytes_eq xs id) named
    where
      and_no : (b : Bool) → (b && false) ≡ false
      and_no true = refl
      and_no false = refl

      and_yes : (b : Bool) → (b && true) ≡ b
      and_yes true = refl
      and_yes false = refl

      word : word_in chunks s.id s.place ≡ written ops no_content s.target.cell
      word = (λ i. word_in chunks (is.id i) (is.place i)) ∙ h.words s.target.cell is.array is.known is.rank

      told : (b : Bool) → bytes_eq s.id id ≡ b → (b && is_none (staged_at (unwrap_or (staged_of chunks id) []) s.place)) ≡ (not (is_put (puts_of ops) s.target.cell) && b)
      told false e = sym (and_no (not (is_put (puts_of ops) s.target.cell)))
      told true e =
          let same : s.id ≡ id = (bytes_eq-Decides s.id id).0 e in
          ap (λ xs. is_none (word_in chunks xs s.place)) (sym same) ∙ ap is_none word ∙ none_or_some (written ops no_content s.target.cell) ∙ ap not (some_put (puts_of ops) no_content s.target.cell)
          ∙ sym (and_yes (not (is_put (puts_of ops) s.target.cell)))

  bare_all : (sites : List Site) → AllByRecursion (IsSiteIn events) sites → list_any (λ (s : Site). bytes_eq s.id id && is_none (staged_at (unwrap_or (staged_of chunks id) []) s.place)) sites
      ≡ list_any (λ (s : Site). not (is_put (puts_of ops) s.target.cell) && bytes_eq (id_of (chunk_of events s.target.cell)) id) sites
  bare_all [] all = refl
  bare_all (s ∷ sites) all = (λ i. bare_site s all.0 i || bare_all sites all.1 i)

-- a read needs the chunk of a piece where the view names a cell of it that no operation wrote
pub needs_unwritten : (events : History) (v : View) (ops : List Op) (chunks : List StagedChunk) (p : Piece) → AllByRecursion (IsLeafIn events) (leaves_of v) → HasSites v → IsPiece (sites_of v) p → AreStaged events ops chunks
    → needs chunks p ≡ list_any (λ x. bytes_eq (id_of (chunk_of events x)) p.id) (unwritten ops v)
needs_unwritten events v ops chunks p leaves has piece h =
    let cells = unwrap_or (staged_of chunks p.id) [] in
    ap (list_any (is_bare cells)) (piece_pairs (sites_of v) p piece)
    ∙ bare_sites p.id cells 0 (sites_of v)
    ∙ bare_all events ops chunks h p.id (sites_of v) (known_sites events v leaves has.grids)
    ∙ sym (any_kept (λ x. not (is_put (puts_of ops) x)) (λ x. bytes_eq (id_of (chunk_of events x)) p.id) (sites_of v))
    ∙ ap (λ xs. list_any (λ x. bytes_eq (id_of (chunk_of events x)) p.id) (filter (λ x. not (is_put (puts_of ops) x)) xs)) (sym (ap (filter_map target_cell) has.targets ∙ named_cells (sites_of v)))
