-- The chunks that a read needs, by the pieces of its cells.
use Rattle.std.proofs.Common.{◌≡◌, ◌∙◌, ◌||◌, ℕ, zero, suc, List, [], ◌∷◌, map, take, get_or, Bool, true, false, cond, Option, Some, None, Result, Ok, Err, refl, sym, ap, subst, arith}
use Rattle.std.specs.Prelude.{◌&&◌, ◌↔◌, Contains, filter, filter_map, not}
use Rattle.std.specs.List.{AllByRecursion, list_any}
use Rattle.std.specs.Str.{bytes_eq}
use Rattle.std.proofs.lemmas.Slice.Eq.{bytes_eq-Decides}
use Rattle.line_fits.proofs.Laws.{grows}
use Rattle.line_fits.proofs.Laws.{IsSiteOf, all_present, id_is}
use Rattle.history.specs.declared.event.Op.{Op}
use Rattle.history.specs.Arrays.{Known, known_after}
use Rattle.history.specs.Chunks.{Chunk, chunk_of}
use Rattle.history.specs.History.{History}
use Rattle.history.specs.Legal.{HasTarget, is_present_in}
use Rattle.history.specs.Reads.{cells_named, is_put, target_cell, unwritten}
use Rattle.history.specs.Writes.{puts_of}
use Rattle.stack_driver.specs.Targets.{Cell, Target}
use Rattle.stack_driver.specs.Views.{targets_of}
use Rattle.stack_driver.specs.declared.error.TargetError.{TargetError}
use Rattle.stack_driver.specs.declared.view.View.{View}
use Rattle.transaction_cells.specs.Needs.{needs}
use Rattle.transaction_cells.specs.Operations.{AreStaged, HasSites, KeepsArrays}
use Rattle.transaction_cells.specs.Pieces.{AreCells, IsPiece, ids_of}
use Rattle.transaction_cells.specs.Sites.{Site, sites_of}
use Rattle.transaction_cells.specs.Staging.{StagedChunk}
use Rattle.transaction_cells.specs.declared.view_cells.Piece.{Piece}
use Rattle.transaction_cells.specs.declared.view_cells.ViewCells.{ViewCells}
use Rattle.transaction_cells.proofs.Laws.{known_sites, named_cells, needs_unwritten, same_chunk}
use Rattle.transaction_cells.proofs.WrittenLaws.{site_with}
use Rattle.version_store.specs.Ids.{id_of}
use Rattle.read_fits.specs.Owned.{IsThere, is_needed}

pub or_right : (a b : Bool) → b ≡ true → (a || b) ≡ true
or_right true b is = refl
or_right false b is = is

-- chunks with one id are one
pub one_chunk : (a b : Chunk) → id_of a ≡ id_of b → a ≡ b
one_chunk a b same =
    let array : a.array ≡ b.array = cc in
    let index : a.index ≡ b.index = cc in
    λ i. record { array = array i; index = index i }

-- the array of a cell is there
abbrev HasArray : History → Cell → Type 0
HasArray h x = (k : Known) × (known_after h x.array ≡ Some k)

has_array : (h : History) (x : Cell) (o : Option Known) → known_after h x.array ≡ o → is_present_in o x ≡ true → HasArray h x
has_array h x None is present = absurd (cc)
has_array h x (Some k) is present = (k, is)

named_there : (h : History) (ts : List (Result Target TargetError)) → AllByRecursion (HasTarget h) ts → AllByRecursion (HasArray h) (filter_map target_cell ts)
named_there h [] all = tt
named_there h (Err e ∷ ts) all = absurd all.0
named_there h (Ok t ∷ ts) all = (has_array h t.cell (known_after h t.cell.array) refl all.0, named_there h ts all.1)

pub kept_there : (P : Cell → Type 0) (f : Cell → Bool) (xs : List Cell) → AllByRecursion P xs → AllByRecursion P (filter f xs)
kept_there P f [] all = tt
kept_there P f (x ∷ xs) all = by (f x) (kept_there P f xs all.1)
  where
    by : (b : Bool) → AllByRecursion P (filter f xs) → AllByRecursion P (cond b (x ∷ filter f xs) (filter f xs))
    by true rest = (all.0, rest)
    by false rest = rest

-- what is among those that are kept is among all
any_kept_of : (f g : Cell → Bool) (xs : List Cell) → list_any g (filter f xs) ≡ true → list_any g xs ≡ true
any_kept_of f g [] is = is
any_kept_of f g (x ∷ xs) is = by (f x) (λ rest. any_kept_of f g xs rest) is
  where
    by : (b : Bool) → (list_any g (filter f xs) ≡ true → list_any g xs ≡ true) → list_any g (cond b (x ∷ filter f xs) (filter f xs)) ≡ true → (g x || list_any g xs) ≡ true
    by true rest here = first (g x) refl here
      where
        first : (b : Bool) → g x ≡ b → (b || list_any g (filter f xs)) ≡ true → (b || list_any g xs) ≡ true
        first true so more = refl
        first false so more = rest more
    by false rest here = or_right (g x) (list_any g xs) (rest here)

module _ (h : History) (n : ℕ) (view : View) (ops : List Op) (staged : List StagedChunk) (cells : ViewCells) (is : IsThere h n view) (own : AreStaged (take n h) ops staged) (sites : HasSites view) (cut : AreCells (sites_of view) cells) where
  keeps : KeepsArrays (take n h) h
  keeps = grows h is.stated n

  all_sites : AllByRecursion (IsSiteOf (take n h)) (sites_of view)
  all_sites = all_present (take n h) (sites_of view) (known_sites (take n h) view is.leaves sites.grids) (subst (AllByRecursion (HasTarget (take n h))) sites.targets is.targets)

  there : AllByRecursion (HasArray (take n h)) (unwritten ops view)
  there = kept_there (HasArray (take n h)) (λ x. not (is_put (puts_of ops) x)) (cells_named view) (named_there (take n h) (targets_of view) is.targets)

  -- one of the cells lies in the chunk of an id
  abbrev is_in : List ℕ → Cell → Bool
  is_in id x = bytes_eq (id_of (chunk_of (take n h) x)) id

  any_of : (c : Chunk) (xs : List Cell) → AllByRecursion (HasArray (take n h)) xs → Contains (map (chunk_of h) xs) c → list_any (is_in (id_of c)) xs ≡ true
  any_of c [] all at = absurd (omega (arith, at.1))
  any_of c (x ∷ xs) all (zero, lt, same) =
      let chunk : chunk_of (take n h) x ≡ c = sym (same_chunk (take n h) h keeps x all.0.0 all.0.1) ∙ same in
      ap (λ b. b || list_any (is_in (id_of c)) xs) ((bytes_eq-Decides (id_of (chunk_of (take n h) x)) (id_of c)).1 (ap id_of chunk))
  any_of c (x ∷ xs) all (suc i, lt, same) = or_right (is_in (id_of c) x) (list_any (is_in (id_of c)) xs) (any_of c xs all.1 (i, omega (arith, lt), same))

  contains_of : (c : Chunk) (xs : List Cell) → AllByRecursion (HasArray (take n h)) xs → list_any (is_in (id_of c)) xs ≡ true → Contains (map (chunk_of h) xs) c
  contains_of c [] all so = absurd (cc)
  contains_of c (x ∷ xs) all so = by (is_in (id_of c) x) refl (λ rest. contains_of c xs all.1 rest) so
    where
      by : (b : Bool) → is_in (id_of c) x ≡ b → (list_any (is_in (id_of c)) xs ≡ true → Contains (map (chunk_of h) xs) c) → (b || list_any (is_in (id_of c)) xs) ≡ true → Contains (map (chunk_of h) (x ∷ xs)) c
      by true here rest more =
          let named = (bytes_eq-Decides (id_of (chunk_of (take n h) x)) (id_of c)).0 here in
          (zero, omega arith, same_chunk (take n h) h keeps x all.0.0 all.0.1 ∙ one_chunk (chunk_of (take n h) x) c named)
      by false here rest more = let at = rest more in let lt = at.1 in (suc at.0, omega arith, at.2)

  -- the chunk of a named cell is that of a piece
  site_of_id : (id : List ℕ) (ss : List Site) → AllByRecursion (IsSiteOf (take n h)) ss → AllByRecursion (λ (s : Site). Contains (ids_of cells.pieces) s.id) ss → list_any (is_in id) (map (λ (s : Site). s.target.cell) ss) ≡ true
      → Contains (ids_of cells.pieces) id
  site_of_id id [] all ids so = absurd (cc)
  site_of_id id (s ∷ ss) all ids so = by (is_in id s.target.cell) refl (λ rest. site_of_id id ss all.1 ids.1 rest) so
    where
      by : (b : Bool) → is_in id s.target.cell ≡ b → (list_any (is_in id) (map (λ (s : Site). s.target.cell) ss) ≡ true → Contains (ids_of cells.pieces) id)
          → (b || list_any (is_in id) (map (λ (s : Site). s.target.cell) ss)) ≡ true → Contains (ids_of cells.pieces) id
      by true here rest more = subst (Contains (ids_of cells.pieces)) (id_is (take n h) s all.0 ∙ (bytes_eq-Decides (id_of (chunk_of (take n h) s.target.cell)) id).0 here) ids.0
      by false here rest more = rest more

  piece_of_id : (id : List ℕ) → list_any (is_in id) (unwritten ops view) ≡ true → Contains (ids_of cells.pieces) id
  piece_of_id id so =
      let named : cells_named view ≡ map (λ (s : Site). s.target.cell) (sites_of view) = ap (filter_map target_cell) sites.targets ∙ named_cells (sites_of view) in
      site_of_id id (sites_of view) all_sites cut.pieces.all
      (subst (λ xs. list_any (is_in id) xs ≡ true) named (any_kept_of (λ x. not (is_put (puts_of ops) x)) (is_in id) (cells_named view) so))

  needs_any : (p : Piece) → IsPiece (sites_of view) p → needs staged p ≡ list_any (is_in p.id) (unwritten ops view)
  needs_any p piece = needs_unwritten (take n h) view ops staged p is.leaves sites piece own

  needed_with : (id : List ℕ) (ps : List Piece) → AllByRecursion (IsPiece (sites_of view)) ps → Contains (ids_of ps) id → list_any (is_in id) (unwritten ops view) ≡ true → is_needed staged ps id ≡ true
  needed_with id [] all at so = absurd (omega (arith, at.1))
  needed_with id (p ∷ ps) all (zero, lt, same) so =
      let here : needs staged p ≡ true = needs_any p all.0 ∙ ap (λ i. list_any (is_in i) (unwritten ops view)) same ∙ so in
      let named : bytes_eq p.id id ≡ true = (bytes_eq-Decides p.id id).1 same in
      ap (λ b. (b && bytes_eq p.id id) || is_needed staged ps id) here ∙ ap (λ b. b || is_needed staged ps id) named
  needed_with id (p ∷ ps) all (suc i, lt, same) so = or_right (needs staged p && bytes_eq p.id id) (is_needed staged ps id) (needed_with id ps all.1 (i, omega (arith, lt), same) so)

  needed_by : (id : List ℕ) (ps : List Piece) → AllByRecursion (IsPiece (sites_of view)) ps → is_needed staged ps id ≡ true → list_any (is_in id) (unwritten ops view) ≡ true
  needed_by id [] all so = absurd (cc)
  needed_by id (p ∷ ps) all so = by (needs staged p) (bytes_eq p.id id) refl refl (λ rest. needed_by id ps all.1 rest) so
    where
      by : (b c : Bool) → needs staged p ≡ b → bytes_eq p.id id ≡ c → (is_needed staged ps id ≡ true → list_any (is_in id) (unwritten ops view) ≡ true) → ((b && c) || is_needed staged ps id) ≡ true → list_any (is_in id) (unwritten ops view) ≡ true
      by true true need same rest more = ap (λ i. list_any (is_in i) (unwritten ops view)) (sym ((bytes_eq-Decides p.id id).0 same)) ∙ sym (needs_any p all.0) ∙ need
      by true false need same rest more = rest more
      by false c need same rest more = rest more

  -- a chunk is needed where its piece has a cell at which no word is staged
  pub needed_chunk : (c : Chunk) → Contains (map (chunk_of h) (unwritten ops view)) c ↔ (is_needed staged cells.pieces (id_of c) ≡ true)
  needed_chunk c = (
    λ at.
        let so = any_of c (unwritten ops view) there at in
        needed_with (id_of c) cells.pieces cut.pieces.each (piece_of_id (id_of c) so) so,
    λ so. contains_of c (unwritten ops view) there (needed_by (id_of c) cells.pieces cut.pieces.each so),
  )

  chunk_in_id : (id : List ℕ) (xs : List Cell) → list_any (is_in id) xs ≡ true → (c : Chunk) × (id_of c ≡ id)
  chunk_in_id id [] so = absurd (cc)
  chunk_in_id id (x ∷ xs) so = by (is_in id x) refl (λ rest. chunk_in_id id xs rest) so
    where
      by : (b : Bool) → is_in id x ≡ b → (list_any (is_in id) xs ≡ true → (c : Chunk) × (id_of c ≡ id)) → (b || list_any (is_in id) xs) ≡ true → (c : Chunk) × (id_of c ≡ id)
      by true here rest more = (chunk_of (take n h) x, (bytes_eq-Decides (id_of (chunk_of (take n h) x)) id).0 here)
      by false here rest more = rest more

  -- a piece with such a cell is of a chunk
  pub chunk_with : (p : Piece) → IsPiece (sites_of view) p → needs staged p ≡ true → (c : Chunk) × (id_of c ≡ p.id)
  chunk_with p piece need = chunk_in_id p.id (unwritten ops view) (sym (needs_any p piece) ∙ need)

  abbrev HasKnown : List ℕ → Type 0
  HasKnown id = (k : Known) × (known_after h (get_or id 0 0) ≡ Some k)

  -- and the array of each piece is there
  pub piece_known : (p : Piece) → IsPiece (sites_of view) p → (k : Known) × (known_after h (get_or p.id 0 0) ≡ Some k)
  piece_known p piece =
      let found = site_with p.id 0 (sites_of view) (λ (s : Site). HasKnown s.id) piece.some (each (sites_of view) all_sites) in
      subst HasKnown found.2 found.1
    where
      each : (ss : List Site) → AllByRecursion (IsSiteOf (take n h)) ss → AllByRecursion (λ (s : Site). HasKnown s.id) ss
      each [] all = tt
      each (s ∷ ss) all = (
        (let now = keeps s.target.cell.array all.0.within.array all.0.within.known in
            (now.0, subst (λ (id : List ℕ). known_after h (get_or id 0 0) ≡ Some now.0) (sym all.0.within.id) now.1)),
        each ss all.1,
      )
