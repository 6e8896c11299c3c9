-- One index vector more.
use Rattle.std.proofs.Common.{◌≡◌, ◌∙◌, ℕ, ◌+◌, Bool, true, false, cond, List, [], ◌∷◌, ◌++◌, length, map, refl, ap, arith}
use Rattle.std.specs.Prelude.{filter}
use Rattle.std.specs.List.{fold, enumerate_from}
use Rattle.std.specs.Str.{bytes_eq}
use Rattle.std.proofs.lemmas.List.{map-append}
use Rattle.std.proofs.lemmas.List.Sums.{fold-append}
use Rattle.std.proofs.lemmas.List.Elements.{filter-append}
use Rattle.chunk_grid.specs.Grid.{chunk_index, place_within}
use Rattle.chunk_grid.specs.Pieces.{Piece, pair_of, is_of, pairs_in, among, touched}
use Rattle.chunk_grid.specs.Runs.{runs_of_pairs, run_pieces}
use Rattle.chunk_grid.specs.declared.piece.RunPiece.{RunPiece}

pub enumerate_from-more : (n : ℕ) (xs : List (List ℕ)) (x : List ℕ) → enumerate_from n (xs ++ x ∷ []) ≡ enumerate_from n xs ++ (n + length xs, x) ∷ []
enumerate_from-more n [] x = let e : n ≡ n + 0 = omega arith in ap (λ k. (k, x) ∷ []) e
enumerate_from-more n (y ∷ xs) x =
    let e : (n + 1) + length xs ≡ n + length (y ∷ xs) = omega arith in
    ap (λ zs. (n, y) ∷ zs) (enumerate_from-more (n + 1) xs x ∙ ap (λ k. enumerate_from (n + 1) xs ++ (k, x) ∷ []) e)

mapped : (chunk : List ℕ) (p : ℕ × List ℕ) (b : Bool) → map (pair_of chunk) (cond b (p ∷ []) []) ≡ cond b (pair_of chunk p ∷ []) []
mapped chunk p true = refl
mapped chunk p false = refl

-- the pairs of a chunk have one more, where the index vector has this chunk
pub pairs_in-more : (chunk c : List ℕ) (xs : List (List ℕ)) (x : List ℕ)
    → pairs_in chunk c (xs ++ x ∷ []) ≡ pairs_in chunk c xs ++ cond (bytes_eq (chunk_index chunk x) c) (record { view = length xs; chunk = place_within chunk x } ∷ []) []
pairs_in-more chunk c xs x =
    let zero_more : 0 + length xs ≡ length xs = omega arith in
    ap (λ es. map (pair_of chunk) (filter (is_of chunk c) es)) (enumerate_from-more 0 xs x ∙ ap (λ n. enumerate_from 0 xs ++ (n, x) ∷ []) zero_more)
    ∙ ap (map (pair_of chunk)) (filter-append (is_of chunk c) (enumerate_from 0 xs) ((length xs, x) ∷ []))
    ∙ map-append (pair_of chunk) (filter (is_of chunk c) (enumerate_from 0 xs)) (cond (bytes_eq (chunk_index chunk x) c) ((length xs, x) ∷ []) [])
    ∙ ap (λ ps. pairs_in chunk c xs ++ ps) (mapped chunk (length xs, x) (bytes_eq (chunk_index chunk x) c))

-- its chunk is among those that occur
pub touched-more : (chunk : List ℕ) (xs : List (List ℕ)) (x : List ℕ) → touched chunk (xs ++ x ∷ []) ≡ among (touched chunk xs) (chunk_index chunk x)
touched-more chunk xs x =
    ap (fold among []) (map-append (chunk_index chunk) xs (x ∷ []))
    ∙ fold-append among [] (map (chunk_index chunk) xs) (chunk_index chunk x ∷ [])

-- a chunk of the grid with its pairs cut into runs
abbrev pub run_piece : List ℕ → List (List ℕ) → List ℕ → RunPiece
run_piece chunk targets c = record { chunk = c; runs = runs_of_pairs (pairs_in chunk c targets) }

both_maps : (chunk : List ℕ) (targets cs : List (List ℕ))
    → map (λ (piece : Piece). let p : RunPiece = record { chunk = piece.chunk; runs = runs_of_pairs piece.pairs } in p) (map (λ c. record { chunk = c; pairs = pairs_in chunk c targets }) cs) ≡ map (run_piece chunk targets) cs
both_maps chunk targets [] = refl
both_maps chunk targets (c ∷ cs) = ap (λ ps. run_piece chunk targets c ∷ ps) (both_maps chunk targets cs)

pub run_pieces-are : (chunk : List ℕ) (targets : List (List ℕ)) → run_pieces chunk targets ≡ map (run_piece chunk targets) (touched chunk targets)
run_pieces-are chunk targets = both_maps chunk targets (touched chunk targets)
