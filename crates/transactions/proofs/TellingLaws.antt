-- The chunks that a read has tell the cells that lie inside, and fit their pieces.
use Rattle.std.proofs.Common.{◌≡◌, ◌≢◌, ◌∙◌, ℕ, zero, suc, ◌+◌, ◌<◌, ◌≤◌, max, Bool, true, false, cond, List, [], ◌∷◌, ◌++◌, length, map, take, drop, get_or, nat_lt, Option, Some, None, refl, sym, ap, subst, arith}
use Rattle.std.specs.Prelude.{All, Contains}
use Rattle.std.specs.FinMap as finmap
use Rattle.std.specs.List.{AllByRecursion}
use Rattle.std.proofs.lemmas.Bool.Decides.{nat_tests}
use Rattle.std.proofs.lemmas.List.{take-append-drop, take-map}
use Rattle.cells.specs.Dense.{DenseCells, IsDense}
use Rattle.cells.specs.Elements.{word_at}
use Rattle.cells.specs.Numbers.{IsWord}
use Rattle.cells.specs.Places.{IsInside, c_place, cell_count}
use Rattle.cells.specs.Shapes.{IsChunkShape, is_inside}
use Rattle.cells.proofs.Laws.{both}
use Rattle.chunk_cache.specs.Snapshot.{SnapshotCells}
use Rattle.history.specs.Arrays.{Known, known_after, chunk_shape, chunk_shape_in, is_local}
use Rattle.history.specs.Chunks.{Chunk, IsIndexOf, cell_at, chunk_in, chunk_index, chunk_of, in_array, within_chunk}
use Rattle.history.specs.Content.{content_after, world_after, world_in}
use Rattle.history.specs.History.{History}
use Rattle.history.specs.Legal.{IsLegal, is_present_in}
use Rattle.history.specs.Reads.{Marks, mark_of, marked_world}
use Rattle.history.specs.Snapshots.{box_in, chunk_box}
use Rattle.history.specs.declared.array.ArrayInfo.{ArrayInfo}
use Rattle.history.specs.declared.array.Home.{Home}
use Rattle.history.specs.declared.array.Home.TheVariants.{Zarr, N5, Zarr3, Local}
use Rattle.history.proofs.Laws.{IsLegal-front, WasInside, good_rank, in_array-split, known_good, local_shape, some_inj, world_from}
use Rattle.kv_face.specs.Store.{Contents}
use Rattle.stack_driver.specs.Targets.{Cell}
use Rattle.chunk_fetches.specs.Agreement.{Opening}
use Rattle.chunk_fetches.specs.Fetches.{IsChunkOf}
use Rattle.chunk_fetches.specs.Outline.{outline, outlined_event}
use Rattle.chunk_fetches.specs.declared.Bounds.{Bounds}
use Rattle.chunk_fetches.proofs.Laws.{known-outline, IsNamed, grows_in}
use Rattle.chunk_fetches.specs.Gathered.{AreChunksOf, AreTypedChunks, IsTold, chunk_word, place_in}
use Rattle.chunk_fetches.specs.Outside.{AreRanked, IsInGrid, index_in}
use Rattle.chunk_fetches.specs.Pieces.{IsPiece}
use Rattle.chunk_fetches.specs.Sites.{Site, id_of, pairs_at}
use Rattle.chunk_fetches.specs.Staging.{StagedChunk}
use Rattle.chunk_fetches.specs.declared.Piece.{Piece}
use Rattle.chunk_fetches.proofs.Laws.{IsSiteIn, inside_in_chunk}
use Rattle.chunk_fetches.specs.Kept.{IsChunkThen, IsKeptIn, chunk_at}
use Rattle.transactions.specs.Had.{AreHad, IsDenseOrNone, IsHad, IsHadFor, snapshots_of}
use Rattle.chunk_fetches.specs.Looking.{AreChunks}
use Rattle.transactions.specs.Strays.{AreFitting, IsFitting}
use Rattle.chunk_fetches.specs.declared.kept.Kept.{Kept}
use Rattle.transactions.proofs.PieceLaws.{has_site}
use Rattle.transactions.proofs.ViewCellLaws.{IsCellOf, IsFound}

-- a shape with a cell has no size of 0
ones_same : (shape xs : List ℕ) → is_inside shape xs ≡ true → map (max 1) shape ≡ shape
ones_same [] xs is = refl
ones_same (s ∷ shape) [] is = absurd (let no_such : ⊥ = cc in no_such)
ones_same (s ∷ shape) (x ∷ xs) is =
    let parts = both (nat_lt x s) (is_inside shape xs) is in
    (λ i. one parts.0 i ∷ ones_same shape xs parts.1 i)
  where
    one : nat_lt x s ≡ true → max 1 s ≡ s
    one lt = let below : x < s = grind (arith, nat_tests, lt) in omega (arith, below)

box_by : (home : Home) (shape xs : List ℕ) → (is_local home ≡ true → is_inside shape xs ≡ true) → box_in home shape ≡ chunk_shape_in home shape
box_by (Zarr mount path meta) shape xs inside = refl
box_by (N5 mount path meta) shape xs inside = refl
box_by (Zarr3 mount path meta) shape xs inside = refl
box_by (Local start) shape xs inside = sym (ones_same shape xs (inside refl))

-- a piece of a chunk of an array of the history, whose cells are those of the array's chunk shape
pub record IsPieceOf (events : History) (p : Piece) : Type 0 where
  pub array : Known
  pub known : known_after events (chunk_at p.id).array ≡ Some array
  pub shape : IsChunkShape (chunk_shape array.info)
  pub named : IsNamed p.id
  pub size : p.size ≡ cell_count (chunk_shape array.info)
  pub box : chunk_box array.info ≡ chunk_shape array.info

module _ (events : History) (legal : IsLegal finmap.empty (outline events)) where
  pub early_legal : (m : ℕ) → IsLegal finmap.empty (outline (take m events))
  early_legal m =
      subst (IsLegal finmap.empty) (take-map outlined_event m events)
      (IsLegal-front finmap.empty (take m (outline events)) (drop m (outline events)) (subst (IsLegal finmap.empty) (sym (take-append-drop m (outline events))) legal))

  -- an array is opened as it was at an earlier moment
  pub info_at : (m a : ℕ) (early late : Known) → known_after (take m events) a ≡ Some early → known_after events a ≡ Some late → early.info ≡ late.info
  info_at m a early late is there =
      let later = grows_in events legal m a early is in
      sym later.2 ∙ ap (λ (k : Known). k.info) (some_inj later.0 late (sym later.1 ∙ there))

  -- a local array keeps its shape
  pub local_at : (m a : ℕ) (k : Known) → known_after (take m events) a ≡ Some k → is_local k.info.home ≡ true → k.shape ≡ k.info.shape
  local_at m a k is local = local_shape finmap.empty a (outline (take m events)) (early_legal m) k (known-outline a (take m events) ∙ is) local

  -- a cell of a local array was inside the shape that the array has at each moment
  pub local_inside : (x : Cell) (k : Known) → known_after events x.array ≡ Some k → WasInside events x → is_local k.info.home ≡ true → is_inside k.info.shape x.index ≡ true
  local_inside x k known was local =
      let info = info_at was.seen x.array was.array k was.known known in
      let then : was.array.shape ≡ was.array.info.shape = local_at was.seen x.array was.array was.known (ap (λ (i : ArrayInfo). is_local i.home) info ∙ local) in
      subst (λ s. is_inside s x.index ≡ true) (then ∙ ap (λ (i : ArrayInfo). i.shape) info) was.inside

  -- the cells of its chunk are those of the array's chunk shape
  pub box_of : (x : Cell) (k : Known) → known_after events x.array ≡ Some k → WasInside events x → chunk_box k.info ≡ chunk_shape k.info
  box_of x k known was = box_by k.info.home k.info.shape x.index (local_inside x k known was)

  site_piece : (s : Site) (p : Piece) → IsSiteIn events s → WasInside events s.target.cell → (s.id ≡ p.id → s.size ≡ p.size) → s.id ≡ p.id → IsPieceOf events p
  site_piece s p is was sizes same =
      let id : p.id ≡ s.target.cell.array ∷ chunk_index (chunk_shape is.array.info) s.target.cell.index = sym same ∙ is.id in
      record {
        array = is.array;
        known = ap (λ xs. known_after events (chunk_at xs).array) id ∙ is.known;
        shape = is.shape;
        named = subst IsNamed (sym id) refl;
        size = sym (sizes same) ∙ is.size;
        box = box_of s.target.cell is.array is.known was;
      }

  all_sites : (p : Piece) (sites : List Site) → AllByRecursion (IsSiteIn events) sites → AllByRecursion (λ (s : Site). WasInside events s.target.cell) sites → AllByRecursion (λ (s : Site). s.id ≡ p.id → s.size ≡ p.size) sites
      → AllByRecursion (λ (s : Site). s.id ≡ p.id → IsPieceOf events p) sites
  all_sites p [] is was sizes = tt
  all_sites p (s ∷ sites) is was sizes = (site_piece s p is.0 was.0 sizes.0, all_sites p sites is.1 was.1 sizes.1)

  pub pieces_are : (sites : List Site) (pieces : List Piece) → AllByRecursion (IsSiteIn events) sites → AllByRecursion (λ (s : Site). WasInside events s.target.cell) sites → AllByRecursion (IsPiece sites) pieces → AllByRecursion (IsPieceOf events) pieces
  pieces_are sites [] is was each = tt
  pieces_are sites (p ∷ pieces) is was each = (has_site (λ id. id ≡ p.id → IsPieceOf events p) p.id 0 sites each.0.some (all_sites p sites is was each.0.size) refl, pieces_are sites pieces is was each.1)

  -- a kept chunk of a piece
  pub record IsChunkAt (opening : Opening) (p : Piece) (k : Kept) (array : Known) : Type 0 where
    pub then : Known
    pub known : known_after (take k.mark events) (chunk_at p.id).array ≡ Some then
    pub info : then.info ≡ array.info
    pub shape : k.snapshot.cells.shape ≡ chunk_shape array.info
    pub bounds : k.bounds.shape ≡ then.shape
    pub chunk : IsChunkThen opening (take k.mark events) (chunk_at p.id) k.snapshot k.bounds
    pub array_is : chunk.array ≡ then

  pub chunk_at_mark : (opening : Opening) (p : Piece) (k : Kept) (is : IsPieceOf events p) → k.id ≡ p.id → IsKeptIn opening events k → IsChunkAt opening p k is.array
  chunk_at_mark opening p k is same kept =
      let chunk : IsChunkThen opening (take k.mark events) (chunk_at p.id) k.snapshot k.bounds = subst (λ id. IsChunkThen opening (take k.mark events) (chunk_at id) k.snapshot k.bounds) same kept.chunk in
      let info : chunk.array.info ≡ is.array.info = info_at k.mark (chunk_at p.id).array chunk.array is.array chunk.known is.known in
      record {
        then = chunk.array;
        known = chunk.known;
        info = info;
        shape = chunk.cells.shape ∙ ap chunk_box info ∙ is.box;
        bounds = ap (λ (b : Bounds). b.shape) chunk.bounded;
        chunk = chunk;
        array_is = refl;
      }

  -- its bounds and its cells fit the piece
  pub fits_piece : (opening : Opening) (p : Piece) (k : Kept) → IsPieceOf events p → k.id ≡ p.id → IsKeptIn opening events k → IsInGrid k.bounds.shape k.snapshot.cells.shape p
  fits_piece opening p k is same kept =
      let at = chunk_at_mark opening p k is same kept in
      let good = known_good finmap.empty (chunk_at p.id).array (outline (take k.mark events)) (early_legal k.mark) at.then (known-outline (chunk_at p.id).array (take k.mark events) ∙ at.known) in
      let rank : length (chunk_shape at.then.info) ≡ length at.then.shape = good_rank (chunk_at p.id).array at.then good in
      let there : length (chunk_at p.id).index ≡ length (chunk_shape at.then.info) = subst (λ (l : Known). length (chunk_at p.id).index ≡ length (chunk_shape l.info)) at.array_is at.chunk.valid.rank in
      let same_rank : length (chunk_shape at.then.info) ≡ length k.snapshot.cells.shape = ap (λ (i : ArrayInfo). length (chunk_shape i)) at.info ∙ sym (ap (λ (ns : List ℕ). length ns) at.shape) in
      record {
        ranks = record {
          chunks = subst IsChunkShape (sym at.shape) is.shape;
          shape_rank = ap (λ (ns : List ℕ). length ns) at.bounds ∙ sym rank ∙ same_rank;
          index_rank = ap (λ id. length (index_in id)) is.named ∙ there ∙ same_rank;
        };
        size = is.size ∙ sym (ap cell_count at.shape);
      }

  pub all_fit : (opening : Opening) (staged : List StagedChunk) (marks : Marks) (pieces : List Piece) (had : List (Option Kept)) → AllByRecursion (IsPieceOf events) pieces → AreHad opening events staged marks pieces had → AreFitting pieces had
  all_fit opening staged marks [] had is are = tt
  all_fit opening staged marks (p ∷ pieces) [] is are = absurd are
  all_fit opening staged marks (p ∷ pieces) (None ∷ had) is are = (tt, all_fit opening staged marks pieces had is.1 are.1)
  all_fit opening staged marks (p ∷ pieces) (Some k ∷ had) is are = (fits_piece opening p k is.0 are.0.same are.0.kept, all_fit opening staged marks pieces had is.1 are.1)

  -- the chunks are as large as their pieces say
  pub all_sized : (opening : Opening) (staged : List StagedChunk) (marks : Marks) (pieces : List Piece) (had : List (Option Kept)) → AllByRecursion (IsPieceOf events) pieces → AreHad opening events staged marks pieces had
      → AllByRecursion IsDenseOrNone (snapshots_of had) → AreChunksOf pieces (snapshots_of had)
  all_sized opening staged marks [] had is are full = tt
  all_sized opening staged marks (p ∷ pieces) [] is are full = absurd are
  all_sized opening staged marks (p ∷ pieces) (None ∷ had) is are full = (tt, all_sized opening staged marks pieces had is.1 are.1 full.1)
  all_sized opening staged marks (p ∷ pieces) (Some k ∷ had) is are full = (
    full.0.full ∙ ap cell_count (chunk_at_mark opening p k is.0 are.0.same are.0.kept).shape ∙ sym is.0.size,
    all_sized opening staged marks pieces had is.1 are.1 full.1,
  )

  -- their words are of their arrays' dtypes
  pub all_typed : (opening : Opening) (staged : List StagedChunk) (marks : Marks) (pieces : List Piece) (had : List (Option Kept)) → AllByRecursion (IsPieceOf events) pieces → AreHad opening events staged marks pieces had
      → AllByRecursion IsDenseOrNone (snapshots_of had) → AreTypedChunks events pieces (snapshots_of had)
  all_typed opening staged marks [] had is are dense = tt
  all_typed opening staged marks (p ∷ pieces) [] is are dense = absurd are
  all_typed opening staged marks (p ∷ pieces) (None ∷ had) is are dense = (tt, all_typed opening staged marks pieces had is.1 are.1 dense.1)
  all_typed opening staged marks (p ∷ pieces) (Some k ∷ had) is are dense = (
    λ array index there id known.
        let then = chunk_at_mark opening p k is.0 are.0.same are.0.kept in
        let one : is.0.array ≡ there = some_inj is.0.array there (sym is.0.known ∙ ap (λ xs. known_after events (chunk_at xs).array) id ∙ known) in
        subst (λ d. All (IsWord d) k.snapshot.cells.words)
        (then.chunk.cells.dtype ∙ ap (λ (l : Known). l.info.dtype) then.array_is ∙ ap (λ (i : ArrayInfo). i.dtype) then.info ∙ ap (λ (l : Known). l.info.dtype) one) dense.0.of_dtype,
    all_typed opening staged marks pieces had is.1 are.1 dense.1,
  )

  -- the chunk of a cell that lies inside tells the cell's word
  pub told_at : (opening : Opening) (staged : List StagedChunk) (marks : Marks) (pieces : List Piece) (had : List (Option Kept)) (start : Contents) (x : Cell) → opening.store.contents ≡ Some start → (is : IsCellOf events pieces x)
      → (f : IsFound opening events staged marks pieces had (id_of (chunk_of events x))) → is_inside f.chunk.bounds.shape x.index ≡ true → IsTold events (marked_world start events (mark_of marks)) pieces (snapshots_of had) x
  told_at opening staged marks pieces had start x told is f inside =
      let k = f.chunk in
      let ns = chunk_shape is.array.info in
      let c : Chunk = record { array = x.array; index = chunk_index ns x.index } in
      let id : f.piece.id ≡ x.array ∷ chunk_index ns x.index = f.id_is ∙ ap (λ o. id_of (chunk_in o x)) is.known in
      let at : chunk_at f.piece.id ≡ c = ap chunk_at id in
      let chunk : IsChunkThen opening (take k.mark events) c k.snapshot k.bounds = subst (λ d. IsChunkThen opening (take k.mark events) d k.snapshot k.bounds) (ap chunk_at f.is.same ∙ at) f.is.kept.chunk in
      let a = chunk.array in
      let info : a.info ≡ is.array.info = info_at k.mark x.array a is.array chunk.known is.known in
      let box : chunk_box a.info ≡ ns = ap chunk_box info ∙ box_of x is.array is.known is.was in
      let within = within_chunk ns x.index in
      let in_box : IsInside (chunk_box a.info) within = subst (λ ms. IsInside ms within) (sym box) (inside_in_chunk ns x.index is.shape is.rank) in
      let current = chunk.now start told in
      let cell : cell_at a c within ≡ x =
      (λ i. record { array = x.array; index = in_array (chunk_shape (info i)) (chunk_index ns x.index) within }) ∙ (λ i. record { array = x.array; index = in_array-split ns x.index is.rank i }) in
      let content : content_after start (take k.mark events) x ≡ Some (word_at k.snapshot.cells within) = ap (content_after start (take k.mark events)) (sym cell) ∙ current.cells within in_box in
      let present : is_present_in (known_after (take k.mark events) x.array) x ≡ true = ap (λ o. is_present_in o x) chunk.known ∙ subst (λ s. is_inside s x.index ≡ true) (ap (λ (b : Bounds). b.shape) chunk.bounded) inside in
      let here : chunk_of events x ≡ c = ap (λ o. chunk_in o x) is.known in
      let mark : mark_of marks (chunk_of events x) ≡ k.mark = ap (mark_of marks) (here ∙ sym at) ∙ f.is.mark in
      let place : place_in (known_after events x.array) x ≡ c_place ns within = ap (λ o. place_in o x) is.known in
      let shape : k.snapshot.cells.shape ≡ ns = chunk.cells.shape ∙ box in
      record {
        word = word_at k.snapshot.cells within;
        in_chunk = f.word (place_in (known_after events x.array) x) ∙ ap (λ n. Some (get_or k.snapshot.cells.words n 0)) (place ∙ ap (λ ms. c_place ms within) (sym shape));
        in_content = ap (λ m. world_after start (take m events) x) mark ∙ world_from (known_after (take k.mark events) x.array) x (content_after start (take k.mark events) x) (word_at k.snapshot.cells within) present content;
      }
