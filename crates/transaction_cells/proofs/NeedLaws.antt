-- Where no word is staged.
use Rattle.std.proofs.Common.{◌≡◌, ◌≢◌, ◌∙◌, ℕ, zero, suc, ◌+◌, ◌<◌, ◌≤◌, ◌^◌, ◌↔◌, ◌||◌, not, Bool, true, false, List, [], ◌∷◌, length, drop, get_or, Option, Some, None, refl, sym, ap, arith, unwrap_or}
use Rattle.std.specs.Prelude.{IsSome, is_none, IsTrue}
use Rattle.std.specs.List.{AllByRecursion, list_any, flat_map}
use Rattle.std.proofs.lemmas.List.{at_drop_more}
use Rattle.cells.specs.declared.run.Run.{Run}
use Rattle.cells.specs.Runs.{Pair, pairs_of, pair_at, chunk_place, IsRunInside}
use Rattle.cells.proofs.Laws.{length-pairs_of, get_or-pairs_of}
use Rattle.rebase_writes.specs.Staged.{staged_at}
use Rattle.transaction_cells.specs.Needs.{IsRunIn, is_bare, are_bare, needs}
use Rattle.transaction_cells.specs.Pieces.{IsPiece}
use Rattle.transaction_cells.specs.Sites.{Site, pairs_at}
use Rattle.transaction_cells.specs.Staging.{StagedChunk, staged_of}
use Rattle.transaction_cells.specs.Tables.{HasRoom}
use Rattle.transaction_cells.specs.declared.view_cells.Piece.{Piece}
use Rattle.transaction_cells.proofs.RunLaws.{pairs-runs}
use Rattle.transaction_cells.proofs.WrittenLaws.{rising_from, room_of, site_with, both_of}

-- whether a word is staged at a pair's place decides it
no_number : (o : Option ℕ) → o ≡ None → IsSome o → ⊥
no_number None none some = absurd (cc)
no_number (Some w) none some = absurd (cc)

by_answer : (o : Option ℕ) (b : Bool) → (IsTrue b ↔ IsSome o) → is_none o ≡ not b
by_answer None true h = absurd (no_number None refl (h.0 refl))
by_answer None false h = refl
by_answer (Some w) true h = refl
by_answer (Some w) false h = let is : false ≡ true = h.1 refl in absurd (let no_such : ⊥ = cc in no_such)

-- the pairs from one on
pub bare_from : (staged : List (Option ℕ)) (run : Run) (k : ℕ) (b : Bool) → k < run.len → (IsTrue b ↔ IsSome (staged_at staged (chunk_place run k)))
    → list_any (is_bare staged) (drop k (pairs_of run)) ≡ (not b || list_any (is_bare staged) (drop (k + 1) (pairs_of run)))
bare_from staged run k b lt h =
    let long = length-pairs_of run in
    at_drop_more (list_any (is_bare staged)) (pairs_of run) k (pair_at run k) (omega (arith, long, lt))
    ∙ ap (λ (p : Pair). is_bare staged p || list_any (is_bare staged) (drop (k + 1) (pairs_of run))) (get_or-pairs_of run k (pair_at run k) lt)
    ∙ ap (λ c. c || list_any (is_bare staged) (drop (k + 1) (pairs_of run))) (by_answer (staged_at staged (chunk_place run k)) b h)

-- where there is nothing of a chunk, no word is staged
none_bare : (ps : List Pair) → ps ≢ [] → list_any (is_bare []) ps ≡ true
none_bare [] some = absurd (some refl)
none_bare (p ∷ ps) some = refl

-- the pairs of a piece
pub piece_pairs : (sites : List Site) (p : Piece) → IsPiece sites p → flat_map pairs_of p.runs ≡ pairs_at p.id 0 sites
piece_pairs sites p h = ap (flat_map pairs_of) h.runs ∙ pairs-runs (pairs_at p.id 0 sites) (rising_from p.id sites 0)

pub needs_none : (sites : List Site) (chunks : List StagedChunk) (p : Piece) → IsPiece sites p → staged_of chunks p.id ≡ None → needs chunks p ≡ true
needs_none sites chunks p h none =
    ap (λ o. are_bare (unwrap_or o []) p.runs) none ∙ none_bare (flat_map pairs_of p.runs) (λ empty. h.some (sym (piece_pairs sites p h) ∙ empty))

pub needs_some : (chunks : List StagedChunk) (p : Piece) (cells : List (Option ℕ)) → staged_of chunks p.id ≡ Some cells → are_bare cells p.runs ≡ needs chunks p
needs_some chunks p cells some = sym (ap (λ o. are_bare (unwrap_or o []) p.runs) some)

-- one of some runs
pub run_in : (size : ℕ) (runs : List Run) (k : ℕ) (d : Run) → AllByRecursion (IsRunIn size) runs → k < length runs → IsRunIn size (get_or runs k d)
run_in size [] k d all lt = absurd (omega (arith, lt))
run_in size (r ∷ runs) zero d all lt = all.0
run_in size (r ∷ runs) (suc k) d all lt = run_in size runs k d all.1 (omega (arith, lt))

pub runs_in : (view size : ℕ) (runs : List Run) → AllByRecursion (λ run. IsRunInside run view size) runs → AllByRecursion (IsRunIn size) runs
runs_in view size [] all = tt
runs_in view size (r ∷ runs) all = ((view, all.0), runs_in view size runs all.1)

-- a piece's runs are in what is staged of its chunk, which is small
pub staged_room : (sites : List Site) (chunks : List StagedChunk) (p : Piece) (cells : List (Option ℕ)) → IsPiece sites p → AllByRecursion (λ (s : Site). (c : List (Option ℕ)) → staged_of chunks s.id ≡ Some c → length c ≡ s.size) sites
    → AllByRecursion (λ (s : Site). s.place < s.size) sites → AllByRecursion (λ (s : Site). s.size ≤ 2 ^ 24) sites → staged_of chunks p.id ≡ Some cells
    → AllByRecursion (IsRunIn (length cells)) p.runs × (length cells ≤ 2 ^ 24)
staged_room sites chunks p cells h sized inside small there =
    let site = site_with p.id 0 sites (λ (s : Site). ((c : List (Option ℕ)) → staged_of chunks s.id ≡ Some c → length c ≡ s.size) × ((s.id ≡ p.id → s.size ≡ p.size) × (s.size ≤ 2 ^ 24))) h.some
    (both_of (λ (s : Site). (c : List (Option ℕ)) → staged_of chunks s.id ≡ Some c → length c ≡ s.size) (λ (s : Site). (s.id ≡ p.id → s.size ≡ p.size) × (s.size ≤ 2 ^ 24)) sites sized
    (both_of (λ (s : Site). s.id ≡ p.id → s.size ≡ p.size) (λ (s : Site). s.size ≤ 2 ^ 24) sites h.size small)) in
    let long : length cells ≡ site.0.size = site.1.0 cells (ap (staged_of chunks) site.2 ∙ there) in
    let same : site.0.size ≡ p.size = site.1.1.0 site.2 in
    let few : site.0.size ≤ 2 ^ 24 = site.1.1.1 in
    let room : HasRoom p.runs (length sites) (Some cells) = room_of sites p (length sites) (Some cells) h (omega arith) inside (λ c is. let equal : cells ≡ c = cc in ap (λ (xs : List (Option ℕ)). length xs) (sym equal) ∙ long ∙ same) in
    (runs_in (length sites) (length cells) p.runs room, omega (arith, long, few))
