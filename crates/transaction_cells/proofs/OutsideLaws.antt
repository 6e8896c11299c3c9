-- Cells of a piece that lie outside a shape.
use Rattle.std.proofs.Common.{◌≡◌, ◌∙◌, ◌⊎◌, inl, inr, ℕ, zero, suc, ◌+◌, ◌*◌, ◌/◌, ◌%◌, ◌<◌, ◌≤◌, ◌==◌, ◌&&◌, ◌||◌, not, Bool, true, false, List, [], ◌∷◌, length, drop, get_or, nat_lt, Option, Some, None, refl, sym, ap, subst, arith, unwrap_or, cond}
use Rattle.std.specs.Prelude.{filter, is_none, filter_map}
use Rattle.std.specs.List.{AllByRecursion, list_any}
use Rattle.std.specs.Str.{bytes_eq}
use Rattle.std.proofs.Math.Nat.{mul_comm, mul-le-mul_right, mod-lt}
use Rattle.std.proofs.lemmas.Bool.Decides.{nat_tests}
use Rattle.std.proofs.lemmas.List.{at_drop_all, at_drop_more, drop_all, drop_more, length-replicate}
use Rattle.std.proofs.lemmas.Nat.{div-mul-add, div-add-mod', div_below, mod_below}
use Rattle.std.proofs.lemmas.Slice.Eq.{bytes_eq-Decides}
use Rattle.cells.specs.Places.{cell_count, c_index, IsInside}
use Rattle.cells.specs.Runs.{Pair, pair_at, pairs_of}
use Rattle.cells.specs.declared.run.Run.{Run}
use Rattle.cells.specs.Shapes.{is_inside}
use Rattle.cells.proofs.Laws.{both, both_true, less_or_not, IsInside-c_index, c_index-c_place, get_or-pairs_of, length-pairs_of}
use Rattle.history.specs.Arrays.{Known, known_after, chunk_shape}
use Rattle.history.specs.Chunks.{chunk_index, chunk_in, chunk_of, in_array, within_chunk}
use Rattle.history.specs.History.{History}
use Rattle.history.specs.Reads.{is_put, target_cell, unwritten}
use Rattle.history.specs.Writes.{puts_of}
use Rattle.history.specs.declared.event.Op.{Op}
use Rattle.history.proofs.Laws.{in_array-split}
use Rattle.rebase_writes.specs.Staged.{staged_at}
use Rattle.stack_driver.specs.declared.view.View.{View}
use Rattle.stack_targets.specs.Landings.{leaves_of}
use Rattle.transaction_cells.specs.Needs.{IsRunIn}
use Rattle.transaction_cells.specs.Operations.{AreStaged, HasSites, IsLeafIn}
use Rattle.transaction_cells.specs.Outside.{AreRanked, index_in, is_place_inside, is_pair_outside, are_outside, needs_outside, is_cell_outside}
use Rattle.transaction_cells.specs.Pieces.{IsPiece}
use Rattle.transaction_cells.specs.Sites.{Site, id_of, pairs_at, sites_of}
use Rattle.transaction_cells.specs.Staging.{IsSized, StagedChunk, staged_of}
use Rattle.transaction_cells.specs.declared.view_cells.Piece.{Piece}
use Rattle.transaction_cells.proofs.NeedLaws.{piece_pairs, runs_in}
use Rattle.transaction_cells.proofs.OperationLaws.{IsSiteIn, any_kept, bare_site, known_sites, named_cells, of_id}
use Rattle.transaction_cells.proofs.PlaceLaws.{inside_within}
use Rattle.transaction_cells.proofs.WrittenLaws.{both_of, room_of, site_with}

-- an index below a size, by the chunks that are whole and what is left
pub below_is : (c n r size : ℕ) → r < n → (nat_lt c (size / n) || ((c == size / n) && nat_lt r (size % n))) ≡ nat_lt (c * n + r) size
below_is c n r size inner = by (less_or_not c full)
  where
    full : ℕ
    full = size / n

    split : size / n * n + size % n ≡ size
    split = div-add-mod' size n

    last : size % n < n
    last = mod-lt size (omega (arith, inner))

    equal : c ≡ size / n → (nat_lt c (size / n) || ((c == size / n) && nat_lt r (size % n))) ≡ nat_lt (c * n + r) size
    equal same = told (nat_lt r (size % n)) refl
      where
        here : c * n ≡ size / n * n
        here = ap (λ m. m * n) same

        told : (b : Bool) → nat_lt r (size % n) ≡ b → (nat_lt c (size / n) || ((c == size / n) && b)) ≡ nat_lt (c * n + r) size
        told true is = grind (arith, nat_tests, is, here, split, same)
        told false is = grind (arith, nat_tests, is, here, split, same)

    by : (c < size / n) ⊎ (size / n ≤ c) → (nat_lt c (size / n) || ((c == size / n) && nat_lt r (size % n))) ≡ nat_lt (c * n + r) size
    by (inl less) =
        let rows : (c + 1) * n ≤ size / n * n = mul-le-mul_right n (omega (arith, less)) in
        let one : (c + 1) * n ≡ c * n + n = omega (arith, mul_comm (c + 1) n) in
        grind (arith, nat_tests, less, rows, one, split, inner)
    by (inr more) = elim (less_or_not (size / n) c) [
      | inl over ↦
          let rows : (size / n + 1) * n ≤ c * n = mul-le-mul_right n (omega (arith, over)) in
          let one : (size / n + 1) * n ≡ size / n * n + n = omega (arith, mul_comm (size / n + 1) n) in
          grind (arith, nat_tests, over, rows, one, split, last)
      | inr under ↦ equal (omega (arith, more, under))
    ]

-- along each dimension the chunk's last index lies below the size
abbrev pub is_within : List ℕ → List ℕ → List ℕ → Bool
is_within [] chunk index = true
is_within (size ∷ shape) [] index = true
is_within (size ∷ shape) (n ∷ chunk) [] = true
is_within (size ∷ shape) (n ∷ chunk) (c ∷ index) = nat_lt c (size / n) && is_within shape chunk index

-- then each index in the chunk does
within_inside : (shape chunk index r : List ℕ) → length shape ≡ length chunk → length index ≡ length chunk → is_within shape chunk index ≡ true → IsInside chunk r → is_inside shape (in_array chunk index r) ≡ true
within_inside [] [] index [] one other within inside = refl
within_inside [] [] index (x ∷ r) one other within inside = absurd inside
within_inside [] (n ∷ chunk) index r one other within inside = absurd (omega (arith, one))
within_inside (size ∷ shape) [] index r one other within inside = absurd (omega (arith, one))
within_inside (size ∷ shape) (n ∷ chunk) [] r one other within inside = absurd (omega (arith, other))
within_inside (size ∷ shape) (n ∷ chunk) (c ∷ index) [] one other within inside = absurd inside
within_inside (size ∷ shape) (n ∷ chunk) (c ∷ index) (x ∷ r) one other within inside =
    let parts = both (nat_lt c (size / n)) (is_within shape chunk index) within in
    both_true (nat_lt (c * n + x) size) (is_inside shape (in_array chunk index r))
    (sym (below_is c n x size inside.0) ∙ ap (λ b. b || ((c == size / n) && nat_lt x (size % n))) parts.0)
    (within_inside shape chunk index r (omega (arith, one)) (omega (arith, other)) parts.1 inside.1)

pub places_within : (shape chunk index : List ℕ) → AreRanked shape chunk index → is_within shape chunk index ≡ true → (place : ℕ) → place < cell_count chunk → is_place_inside shape chunk index place ≡ true
places_within shape chunk index ranks within place below =
    within_inside shape chunk index (c_index chunk place) ranks.shape_rank ranks.index_rank within (IsInside-c_index chunk place below)

pos_right : (n m : ℕ) → 0 < n * m → 0 < m
pos_right n zero above = absurd (omega (arith, above, mul_comm n zero))
pos_right n (suc m) above = omega arith

-- one dimension after another
module _ (shape chunk index : List ℕ) (ranks : AreRanked shape chunk index) where
  pub next_within : (k : ℕ) → k < length chunk → is_within (drop k shape) (drop k chunk) (drop k index)
      ≡ (nat_lt (get_or index k 0) (get_or shape k 0 / get_or chunk k 0) && is_within (drop (k + 1) shape) (drop (k + 1) chunk) (drop (k + 1) index))
  next_within k lt =
      let one = ranks.shape_rank in
      let other = ranks.index_rank in
      (λ i. is_within (drop_more shape k 0 (omega (arith, one, lt)) i) (drop_more chunk k 0 lt i) (drop_more index k 0 (omega (arith, other, lt)) i))

  pub next_inside : (k rest : ℕ) → k < length chunk → is_place_inside (drop k shape) (drop k chunk) (drop k index) rest
      ≡ (nat_lt (get_or index k 0 * get_or chunk k 0 + rest / cell_count (drop (k + 1) chunk)) (get_or shape k 0)
      && is_place_inside (drop (k + 1) shape) (drop (k + 1) chunk) (drop (k + 1) index) (rest % cell_count (drop (k + 1) chunk)))
  next_inside k rest lt =
      let one = ranks.shape_rank in
      let other = ranks.index_rank in
      (λ i. is_place_inside (drop_more shape k 0 (omega (arith, one, lt)) i) (drop_more chunk k 0 lt i) (drop_more index k 0 (omega (arith, other, lt)) i) rest)

  -- the cells of a row are those of the dimensions behind
  pub next_row : (k row : ℕ) → k < length chunk → row ≡ cell_count (drop k chunk) → row / get_or chunk k 0 ≡ cell_count (drop (k + 1) chunk)
  next_row k row lt is =
      let n = get_or chunk k 0 in
      let least = ranks.chunks.least k lt in
      let whole : row ≡ n * cell_count (drop (k + 1) chunk) = is ∙ ap cell_count (drop_more chunk k 0 lt) in
      let turned : row ≡ cell_count (drop (k + 1) chunk) * n + 0 = omega (arith, whole, mul_comm n (cell_count (drop (k + 1) chunk))) in
      ap (λ m. m / n) turned ∙ div-mul-add (cell_count (drop (k + 1) chunk)) n 0 (omega (arith, least))

  pub row_positive : (k row rest : ℕ) → k < length chunk → row ≡ cell_count (drop k chunk) → rest < row → 0 < cell_count (drop (k + 1) chunk)
  row_positive k row rest lt is below =
      let whole : row ≡ get_or chunk k 0 * cell_count (drop (k + 1) chunk) = is ∙ ap cell_count (drop_more chunk k 0 lt) in
      pos_right (get_or chunk k 0) (cell_count (drop (k + 1) chunk)) (omega (arith, whole, below))

  -- the index along the dimension lies in the chunk
  pub row_index : (k row rest : ℕ) → k < length chunk → row ≡ cell_count (drop k chunk) → rest < row → rest / cell_count (drop (k + 1) chunk) < get_or chunk k 0
  row_index k row rest lt is below =
      let whole : row ≡ get_or chunk k 0 * cell_count (drop (k + 1) chunk) = is ∙ ap cell_count (drop_more chunk k 0 lt) in
      div_below rest (cell_count (drop (k + 1) chunk)) (get_or chunk k 0) (row_positive k row rest lt is below) (omega (arith, whole, below))

  pub row_rest : (k row rest : ℕ) → k < length chunk → row ≡ cell_count (drop k chunk) → rest < row → rest % cell_count (drop (k + 1) chunk) < cell_count (drop (k + 1) chunk)
  row_rest k row rest lt is below = mod_below rest (cell_count (drop (k + 1) chunk)) (row_positive k row rest lt is below)

-- the runs of a piece are in its chunk
pub piece_runs : (sites : List Site) (p : Piece) → IsPiece sites p → AllByRecursion (λ (s : Site). s.place < s.size) sites → AllByRecursion (IsRunIn p.size) p.runs
piece_runs sites p h inside =
    subst (λ n. AllByRecursion (IsRunIn n) p.runs) (length-replicate p.size None)
    (runs_in (length sites) _ p.runs (room_of sites p (length sites) None h (omega arith) inside (λ c is. absurd (let no_such : ⊥ = cc in no_such))))

-- what is staged of a piece's chunk has the chunk's size
pub piece_staged : (sites : List Site) (chunks : List StagedChunk) (p : Piece) (cells : List (Option ℕ)) → IsPiece sites p → AllByRecursion (IsSized chunks) sites → staged_of chunks p.id ≡ Some cells → length cells ≡ p.size
piece_staged sites chunks p cells h sized there =
    let site = site_with p.id 0 sites (λ (s : Site). IsSized chunks s × (s.id ≡ p.id → s.size ≡ p.size)) h.some (both_of (IsSized chunks) (λ (s : Site). s.id ≡ p.id → s.size ≡ p.size) sites sized h.size) in
    site.1.0 cells (ap (staged_of chunks) site.2 ∙ there) ∙ site.1.1 site.2

-- one of a chunk's pairs passes a test of its place where one of its sites does
any_pairs : (test : ℕ → Bool) (id : List ℕ) (k : ℕ) (sites : List Site) → list_any (λ (p : Pair). test p.chunk) (pairs_at id k sites) ≡ list_any (λ (s : Site). bytes_eq s.id id && test s.place) sites
any_pairs test id k [] = refl
any_pairs test id k (s ∷ sites) = told (bytes_eq s.id id) (any_pairs test id (k + 1) sites)
  where
    told : (b : Bool) → list_any (λ (p : Pair). test p.chunk) (pairs_at id (k + 1) sites) ≡ list_any (λ (t : Site). bytes_eq t.id id && test t.place) sites
        → list_any (λ (p : Pair). test p.chunk) (cond b (record { view = k; chunk = s.place } ∷ pairs_at id (k + 1) sites) (pairs_at id (k + 1) sites))
        ≡ ((b && test s.place) || list_any (λ (t : Site). bytes_eq t.id id && test t.place) sites)
    told true e = ap (λ c. test s.place || c) e
    told false e = e

-- no word is staged at the place, and it is that of a cell outside
abbrev is_out : List ℕ → List ℕ → List ℕ → List (Option ℕ) → ℕ → Bool
is_out shape chunk index cells place = is_none (staged_at cells place) && not (is_place_inside shape chunk index place)

sites_outside : (sites : List Site) (p : Piece) (shape chunk index : List ℕ) (cells : List (Option ℕ)) → IsPiece sites p
    → are_outside shape chunk index cells p.runs ≡ list_any (λ (s : Site). bytes_eq s.id p.id && is_out shape chunk index cells s.place) sites
sites_outside sites p shape chunk index cells h = ap (list_any (is_pair_outside shape chunk index cells)) (piece_pairs sites p h) ∙ any_pairs (is_out shape chunk index cells) p.id 0 sites

-- where the whole chunk lies inside, none of its cells is outside
pub none_outside : (sites : List Site) (p : Piece) (shape chunk index : List ℕ) (cells : List (Option ℕ)) → IsPiece sites p → AllByRecursion (λ (s : Site). s.place < s.size) sites → p.size ≡ cell_count chunk
    → ((place : ℕ) → place < cell_count chunk → is_place_inside shape chunk index place ≡ true) → are_outside shape chunk index cells p.runs ≡ false
none_outside sites p shape chunk index cells h inside size whole = sites_outside sites p shape chunk index cells h ∙ by sites inside h.size
  where
    no_test : (a b : Bool) → b ≡ true → (a && not b) ≡ false
    no_test true b is = ap not is
    no_test false b is = refl

    by : (ss : List Site) → AllByRecursion (λ (s : Site). s.place < s.size) ss → AllByRecursion (λ (s : Site). s.id ≡ p.id → s.size ≡ p.size) ss → list_any (λ (s : Site). bytes_eq s.id p.id && is_out shape chunk index cells s.place) ss ≡ false
    by [] places sizes = refl
    by (s ∷ ss) places sizes = told (bytes_eq s.id p.id) refl (by ss places.1 sizes.1)
      where
        told : (b : Bool) → bytes_eq s.id p.id ≡ b → list_any (λ (t : Site). bytes_eq t.id p.id && is_out shape chunk index cells t.place) ss ≡ false
            → ((b && is_out shape chunk index cells s.place) || list_any (λ (t : Site). bytes_eq t.id p.id && is_out shape chunk index cells t.place) ss) ≡ false
        told false e rest = rest
        told true e rest =
            let same = sizes.0 ((bytes_eq-Decides s.id p.id).0 e) in
            let below = places.0 in
            ap (λ c. c || list_any (λ (t : Site). bytes_eq t.id p.id && is_out shape chunk index cells t.place) ss) (no_test (is_none (staged_at cells s.place)) (is_place_inside shape chunk index s.place) (whole s.place (omega (arith, same, below, size)))) ∙ rest

and_assoc : (a b c : Bool) → ((a && b) && c) ≡ (a && (b && c))
and_assoc true b c = refl
and_assoc false b c = refl

and_no : (a : Bool) → (a && false) ≡ false
and_no true = refl
and_no false = refl

-- a site is such a one where no operation wrote its cell, and this lies outside
module _ (events : History) (ops : List Op) (chunks : List StagedChunk) (h : AreStaged events ops chunks) (array : ℕ) (index : List ℕ) (k : Known) (known : known_after events array ≡ Some k) (shape : List ℕ) where
  abbrev cells_there : List (Option ℕ)
  cells_there = unwrap_or (staged_of chunks (array ∷ index)) []

  -- the place of a cell in its chunk is that of the cell
  place_cell : (s : Site) (is : IsSiteIn events s) → bytes_eq s.id (array ∷ index) ≡ true → is_place_inside shape (chunk_shape k.info) index s.place ≡ is_inside shape s.target.cell.index
  place_cell s is e =
      let x = s.target.cell in
      let parts = of_id events s is array index k known e in
      let ns = chunk_shape is.array.info in
      let same : ns ≡ chunk_shape k.info = ap (λ (l : Known). chunk_shape l.info) parts.2 in
      let within = c_index-c_place ns (within_chunk ns x.index) (inside_within ns x.index is.shape is.rank) in
      let back : in_array ns index (c_index ns s.place) ≡ x.index =
      (λ i. in_array ns (sym parts.1 i) (c_index ns (is.place i))) ∙ ap (in_array ns (chunk_index ns x.index)) within ∙ in_array-split ns x.index is.rank in
      ap (λ ms. is_inside shape (in_array ms index (c_index ms s.place))) (sym same) ∙ ap (is_inside shape) back

  outside_site : (s : Site) → IsSiteIn events s → (bytes_eq s.id (array ∷ index) && is_out shape (chunk_shape k.info) index cells_there s.place)
      ≡ (not (is_put (puts_of ops) s.target.cell) && is_cell_outside events shape (array ∷ index) s.target.cell)
  outside_site s is = told (bytes_eq s.id (array ∷ index)) refl
    where
      named : bytes_eq s.id (array ∷ index) ≡ bytes_eq (id_of (chunk_of events s.target.cell)) (array ∷ index)
      named = ap (λ xs. bytes_eq xs (array ∷ index)) (is.id ∙ sym (ap (λ o. id_of (chunk_in o s.target.cell)) is.known))

      told : (b : Bool) → bytes_eq s.id (array ∷ index) ≡ b → (b && is_out shape (chunk_shape k.info) index cells_there s.place)
          ≡ (not (is_put (puts_of ops) s.target.cell) && is_cell_outside events shape (array ∷ index) s.target.cell)
      told false e =
          sym (and_no (not (is_put (puts_of ops) s.target.cell)))
          ∙ ap (λ b. not (is_put (puts_of ops) s.target.cell) && (b && not (is_inside shape s.target.cell.index))) (sym e ∙ named)
      told true e =
          let bare : is_none (staged_at cells_there s.place) ≡ (not (is_put (puts_of ops) s.target.cell) && bytes_eq (id_of (chunk_of events s.target.cell)) (array ∷ index)) =
          ap (λ b. b && is_none (staged_at cells_there s.place)) (sym e) ∙ bare_site events ops chunks h (array ∷ index) s is in
          (λ i. bare i && not (place_cell s is e i))
          ∙ and_assoc (not (is_put (puts_of ops) s.target.cell)) (bytes_eq (id_of (chunk_of events s.target.cell)) (array ∷ index)) (not (is_inside shape s.target.cell.index))

  outside_all : (sites : List Site) → AllByRecursion (IsSiteIn events) sites → list_any (λ (s : Site). bytes_eq s.id (array ∷ index) && is_out shape (chunk_shape k.info) index cells_there s.place) sites
      ≡ list_any (λ (s : Site). not (is_put (puts_of ops) s.target.cell) && is_cell_outside events shape (array ∷ index) s.target.cell) sites
  outside_all [] all = refl
  outside_all (s ∷ sites) all = (λ i. outside_site s all.0 i || outside_all sites all.1 i)

  outside_told : (v : View) (p : Piece) → AllByRecursion (IsLeafIn events) (leaves_of v) → HasSites v → IsPiece (sites_of v) p → p.id ≡ array ∷ index
      → are_outside shape (chunk_shape k.info) index cells_there p.runs ≡ list_any (is_cell_outside events shape (array ∷ index)) (unwritten ops v)
  outside_told v p leaves has piece named =
      sites_outside (sites_of v) p shape (chunk_shape k.info) index cells_there piece
      ∙ ap (λ id. list_any (λ (s : Site). bytes_eq s.id id && is_out shape (chunk_shape k.info) index cells_there s.place) (sites_of v)) named
      ∙ outside_all (sites_of v) (known_sites events v leaves has.grids)
      ∙ sym (any_kept (λ x. not (is_put (puts_of ops) x)) (is_cell_outside events shape (array ∷ index)) (sites_of v))
      ∙ ap (λ xs. list_any (is_cell_outside events shape (array ∷ index)) (filter (λ x. not (is_put (puts_of ops) x)) xs)) (sym (ap (filter_map target_cell) has.targets ∙ named_cells (sites_of v)))

-- behind the last dimension nothing is left to decide
module _ (shape chunk index : List ℕ) (ranks : AreRanked shape chunk index) (k : ℕ) (done : length chunk ≤ k) where
  pub last_within : is_within (drop k shape) (drop k chunk) (drop k index) ≡ true
  last_within =
      let one = ranks.shape_rank in
      ap (λ s. is_within s (drop k chunk) (drop k index)) (drop_all k shape (omega (arith, one, done)))

  pub last_inside : (rest : ℕ) → is_place_inside (drop k shape) (drop k chunk) (drop k index) rest ≡ true
  last_inside rest =
      let one = ranks.shape_rank in
      (λ i. is_place_inside (drop_all k shape (omega (arith, one, done)) i) (drop_all k chunk done i) (drop k index) rest)

-- the pairs from one on
pub next_pair : (test : Pair → Bool) (run : Run) (k : ℕ) → k < run.len → list_any test (drop k (pairs_of run)) ≡ (test (pair_at run k) || list_any test (drop (k + 1) (pairs_of run)))
next_pair test run k lt =
    let long = length-pairs_of run in
    at_drop_more (list_any test) (pairs_of run) k (pair_at run k) (omega (arith, long, lt))
    ∙ ap (λ (p : Pair). test p || list_any test (drop (k + 1) (pairs_of run))) (get_or-pairs_of run k (pair_at run k) lt)

pub last_pair : (test : Pair → Bool) (run : Run) (k : ℕ) → run.len ≤ k → list_any test (drop k (pairs_of run)) ≡ false
last_pair test run k done =
    let long = length-pairs_of run in
    at_drop_all (list_any test) (pairs_of run) k (omega (arith, long, done))

-- a read needs a cell of a piece outside a shape where the view names one there that no operation wrote
pub outside_of_view : (events : History) (v : View) (ops : List Op) (chunks : List StagedChunk) (p : Piece) (array : ℕ) (index : List ℕ) (k : Known) (shape chunk : List ℕ) → AllByRecursion (IsLeafIn events) (leaves_of v) → HasSites v → IsPiece (sites_of v) p
    → AreStaged events ops chunks → p.id ≡ array ∷ index → known_after events array ≡ Some k → chunk ≡ chunk_shape k.info → needs_outside shape chunk chunks p ≡ list_any (is_cell_outside events shape p.id) (unwritten ops v)
outside_of_view events v ops chunks p array index k shape chunk leaves has piece h id known is =
    (λ i. are_outside shape (is i) (index_in (id i)) (unwrap_or (staged_of chunks (id i)) []) p.runs)
    ∙ outside_told events ops chunks h array index k known shape v p leaves has piece id
    ∙ ap (λ xs. list_any (is_cell_outside events shape xs) (unwritten ops v)) (sym id)
