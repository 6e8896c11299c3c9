-- The pieces of one array's chunks, by those of its grid.
use Rattle.std.proofs.Common.{◌≡◌, ◌∙◌, ℕ, ◌+◌, ◌==◌, ◌/◌, ◌%◌, Bool, true, false, cond, ◌&&◌, List, [], ◌∷◌, map, refl, sym, ap, subst, arith, inl, inr}
use Rattle.std.specs.Prelude.{Contains, filter}
use Rattle.std.specs.List.{AllByRecursion, enumerate_from}
use Rattle.std.specs.List.Sorted.{IsStrictlySortedBy}
use Rattle.std.specs.Str.{bytes_eq}
use Rattle.std.specs.Ordering.{nat_cmp, ordering_then}
use Rattle.std.specs.Cmp.Lexicographic.{slice_cmp}
use Rattle.std.specs.declared.cmp.Ordering.TheVariants.{Less}
use Rattle.std.proofs.lemmas.Bool.Decides.{nat_tests}
use Rattle.std.proofs.lemmas.Cmp.{nat_cmp_total, tied_itself}
use Rattle.std.proofs.lemmas.Slice.Eq.{bytes_eq-Decides}
use Rattle.cells.specs.Places.{cell_count, c_place}
use Rattle.cells.specs.Runs.{Pair}
use Rattle.chunk_grid.specs.Grid.{chunk_index as grid_index, within_chunk as grid_within}
use Rattle.chunk_grid.specs.Pieces.{pair_of, is_of, touched}
use Rattle.chunk_grid.specs.Runs.{run_pieces, runs_of_pairs}
use Rattle.chunk_grid.proofs.PieceLaws.{run_piece, run_pieces-are}
use Rattle.chunk_grid.proofs.RisingLaws.{IsAmong, Rises, among_first, among_rest, among_cases, none_among, fold_rises, fold_has, fold_only}
use Rattle.history.specs.Chunks.{chunk_index, within_chunk}
use Rattle.transaction_cells.specs.Along.{numbered}
use Rattle.transaction_cells.specs.Lanes.{LaneSeen}
use Rattle.transaction_cells.specs.Pieces.{ArePieces, IsPiece, ids_of}
use Rattle.transaction_cells.specs.Sites.{Site, pairs_at, site_by}
use Rattle.transaction_cells.specs.declared.view_cells.Piece.{Piece}
use Rattle.transaction_cells.proofs.PieceLaws.{Contains-here, Contains-there, none_is_other}

-- chunk indices of a history and of a grid are the same, and so are index vectors within chunks
same_index : (chunk index : List ℕ) → chunk_index chunk index ≡ grid_index chunk index
same_index [] [] = refl
same_index [] (x ∷ index) = refl
same_index (n ∷ chunk) [] = refl
same_index (n ∷ chunk) (x ∷ index) = ap (λ c. x / n ∷ c) (same_index chunk index)

same_within : (chunk index : List ℕ) → within_chunk chunk index ≡ grid_within chunk index
same_within [] [] = refl
same_within [] (x ∷ index) = refl
same_within (n ∷ chunk) [] = refl
same_within (n ∷ chunk) (x ∷ index) = ap (λ c. x % n ∷ c) (same_within chunk index)

itself : (n : ℕ) → (n == n) ≡ true
itself n = grind (arith, nat_tests)

-- ids of one array are told by the chunk indices
same_test : (array : ℕ) (c d : List ℕ) → bytes_eq (array ∷ c) (array ∷ d) ≡ bytes_eq c d
same_test array c d = ap (λ b. b && bytes_eq c d) (itself array)

-- ids of rising chunk indices rise
below_all : (array : ℕ) (c : List ℕ) (cs : List (List ℕ)) → ((x : List ℕ) → IsAmong x cs → slice_cmp nat_cmp c x ≡ Less) → AllByRecursion (λ y. slice_cmp nat_cmp (array ∷ c) y ≡ Less) (map (λ d. array ∷ d) cs)
below_all array c [] h = tt
below_all array c (d ∷ cs) h =
    (ap (λ o. ordering_then o (slice_cmp nat_cmp c d)) (tied_itself nat_cmp_total array) ∙ h d (among_first d cs), below_all array c cs (λ x there. h x (among_rest x d cs there)))

sorted_ids : (array : ℕ) (cs : List (List ℕ)) → Rises cs → IsStrictlySortedBy (slice_cmp nat_cmp) (map (λ c. array ∷ c) cs)
unfolding IsStrictlySortedBy
sorted_ids array [] h = tt
sorted_ids array (c ∷ cs) h = (below_all array c cs h.0, sorted_ids array cs h.1)

-- a chunk index among some has its id among theirs
contains_id : (array : ℕ) (c : List ℕ) (cs : List (List ℕ)) → IsAmong c cs → Contains (map (λ d. array ∷ d) cs) (array ∷ c)
contains_id array c [] h = absurd (none_among c h)
contains_id array c (d ∷ cs) h =
    elim (among_cases c d cs h) [
      | inl is ↦ subst (λ x. Contains ((array ∷ d) ∷ map (λ e. array ∷ e) cs) (array ∷ x)) (sym is) (Contains-here (array ∷ d) (map (λ e. array ∷ e) cs))
      | inr there ↦ Contains-there (array ∷ d) (map (λ e. array ∷ e) cs) (array ∷ c) (contains_id array c cs there)
    ]

module _ (lane : LaneSeen) where
  -- the pairs of a chunk are the grid's
  pairs-along : (c : List ℕ) (k : ℕ) (targets : List (List ℕ))
      → pairs_at (lane.array ∷ c) k (map (site_by lane) targets) ≡ map (pair_of lane.chunk) (filter (is_of lane.chunk c) (enumerate_from k targets))
  pairs-along c k [] = refl
  pairs-along c k (x ∷ targets) =
      ap (λ b. cond b (here ∷ pairs_at (lane.array ∷ c) (k + 1) (map (site_by lane) targets)) (pairs_at (lane.array ∷ c) (k + 1) (map (site_by lane) targets))) test
      ∙ told (bytes_eq (grid_index lane.chunk x) c) (pairs-along c (k + 1) targets)
    where
      here : Pair
      here = record { view = k; chunk = c_place lane.chunk (within_chunk lane.chunk x) }

      same : here ≡ pair_of lane.chunk (k, x)
      same = λ i. record { view = k; chunk = c_place lane.chunk (same_within lane.chunk x i) }

      test : bytes_eq (lane.array ∷ chunk_index lane.chunk x) (lane.array ∷ c) ≡ bytes_eq (grid_index lane.chunk x) c
      test = same_test lane.array (chunk_index lane.chunk x) c ∙ ap (λ d. bytes_eq d c) (same_index lane.chunk x)

      told : (b : Bool) → pairs_at (lane.array ∷ c) (k + 1) (map (site_by lane) targets) ≡ map (pair_of lane.chunk) (filter (is_of lane.chunk c) (enumerate_from (k + 1) targets))
          → cond b (here ∷ pairs_at (lane.array ∷ c) (k + 1) (map (site_by lane) targets)) (pairs_at (lane.array ∷ c) (k + 1) (map (site_by lane) targets))
          ≡ map (pair_of lane.chunk) (cond b ((k, x) ∷ filter (is_of lane.chunk c) (enumerate_from (k + 1) targets)) (filter (is_of lane.chunk c) (enumerate_from (k + 1) targets)))
      told true e = λ i. same i ∷ e i
      told false e = e

  -- a chunk that occurs has a site
  never_other : (c : List ℕ) (targets : List (List ℕ)) → IsAmong c (map (grid_index lane.chunk) targets)
      → AllByRecursion (λ (s : Site). bytes_eq s.id (lane.array ∷ c) ≡ false) (map (site_by lane) targets) → ⊥
  never_other c [] h all = none_among c h
  never_other c (x ∷ targets) h all =
      elim (among_cases c (grid_index lane.chunk x) (map (grid_index lane.chunk) targets) h) [
        | inl is ↦
            let same : lane.array ∷ chunk_index lane.chunk x ≡ lane.array ∷ c = ap (λ d. lane.array ∷ d) (same_index lane.chunk x ∙ sym is) in
            let equal : bytes_eq (lane.array ∷ chunk_index lane.chunk x) (lane.array ∷ c) ≡ true = (bytes_eq-Decides (lane.array ∷ chunk_index lane.chunk x) (lane.array ∷ c)).1 same in
            let other : bytes_eq (lane.array ∷ chunk_index lane.chunk x) (lane.array ∷ c) ≡ false = all.0 in
            let clash : true ≡ false = sym equal ∙ other in let no_such : ⊥ = cc in no_such
        | inr there ↦ never_other c targets there all.1
      ]

  sizes : (id : List ℕ) (targets : List (List ℕ)) → AllByRecursion (λ (s : Site). s.id ≡ id → s.size ≡ cell_count lane.chunk) (map (site_by lane) targets)
  sizes id [] = tt
  sizes id (x ∷ targets) = (λ is. refl, sizes id targets)

  -- the piece of a chunk of the grid
  abbrev piece_at : List (List ℕ) → List ℕ → Piece
  piece_at targets c = numbered lane.array (cell_count lane.chunk) (run_piece lane.chunk targets c)

  is_piece : (targets : List (List ℕ)) (c : List ℕ) → IsAmong c (map (grid_index lane.chunk) targets) → IsPiece (map (site_by lane) targets) (piece_at targets c)
  is_piece targets c there = record {
    some = λ none. never_other c targets there (none_is_other (lane.array ∷ c) 0 (map (site_by lane) targets) none);
    runs = ap runs_of_pairs (sym (pairs-along c 0 targets));
    size = sizes (lane.array ∷ c) targets;
  }

  each_piece : (targets cs : List (List ℕ)) → ((c : List ℕ) → IsAmong c cs → IsAmong c (map (grid_index lane.chunk) targets)) → AllByRecursion (IsPiece (map (site_by lane) targets)) (map (piece_at targets) cs)
  each_piece targets [] sub = tt
  each_piece targets (c ∷ cs) sub = (is_piece targets c (sub c (among_first c cs)), each_piece targets cs (λ d there. sub d (among_rest d c cs there)))

  each_id : (ids targets : List (List ℕ)) → ((c : List ℕ) → IsAmong c (map (grid_index lane.chunk) targets) → Contains ids (lane.array ∷ c)) → AllByRecursion (λ (s : Site). Contains ids s.id) (map (site_by lane) targets)
  each_id ids [] sub = tt
  each_id ids (x ∷ targets) sub = (
    subst (λ c. Contains ids (lane.array ∷ c)) (sym (same_index lane.chunk x)) (sub (grid_index lane.chunk x) (among_first (grid_index lane.chunk x) (map (grid_index lane.chunk) targets))),
    each_id ids targets (λ c there. sub c (among_rest c (grid_index lane.chunk x) (map (grid_index lane.chunk) targets) there)),
  )

  ids_along : (targets cs : List (List ℕ)) → ids_of (map (piece_at targets) cs) ≡ map (λ c. lane.array ∷ c) cs
  ids_along targets [] = refl
  ids_along targets (c ∷ cs) = ap (λ ids. (lane.array ∷ c) ∷ ids) (ids_along targets cs)

  both_maps : (targets cs : List (List ℕ)) → map (numbered lane.array (cell_count lane.chunk)) (map (run_piece lane.chunk targets) cs) ≡ map (piece_at targets) cs
  both_maps targets [] = refl
  both_maps targets (c ∷ cs) = ap (λ ps. piece_at targets c ∷ ps) (both_maps targets cs)

  -- the chunks of a grid, numbered by their array, are the pieces of the array's sites
  pub pieces_along : (targets : List (List ℕ)) → ArePieces (map (site_by lane) targets) (map (numbered lane.array (cell_count lane.chunk)) (run_pieces lane.chunk targets))
  pieces_along targets =
      let cs = touched lane.chunk targets in
      let keys = map (grid_index lane.chunk) targets in
      let is : map (numbered lane.array (cell_count lane.chunk)) (run_pieces lane.chunk targets) ≡ map (piece_at targets) cs =
      ap (map (numbered lane.array (cell_count lane.chunk))) (run_pieces-are lane.chunk targets) ∙ both_maps targets cs in
      subst (ArePieces (map (site_by lane) targets)) (sym is)
      (record {
        sorted = subst (IsStrictlySortedBy (slice_cmp nat_cmp)) (sym (ids_along targets cs)) (sorted_ids lane.array cs (fold_rises keys [] tt));
        each = each_piece targets cs (λ c there. fold_only c keys there);
        all = each_id (ids_of (map (piece_at targets) cs)) targets
            (λ c there. subst (λ ids. Contains ids (lane.array ∷ c)) (sym (ids_along targets cs)) (contains_id lane.array c cs (fold_has c keys [] there)));
      })
