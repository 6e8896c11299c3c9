-- The runs that pairs are cut into have these pairs.
use Rattle.std.proofs.Common.{◌≡◌, ◌∙◌, ℕ, ◌+◌, ◌-◌, ◌*◌, ◌≤◌, pos, ◌+ℤ◌, ◌-ℤ◌, ◌*ℤ◌, unsigned_abs, Bool, true, false, cond, List, [], ◌∷◌, ◌++◌, map, ◌⊎◌, inl, inr, refl, sym, ap, subst, arith, append_assoc, Result, Ok, Err, IfOk}
use Rattle.std.specs.Prelude.{filter}
use Rattle.std.specs.List.{flat_map, range_with_len, enumerate_from}
use Rattle.std.proofs.Math.IntN.{*ℤ-zero}
use Rattle.std.proofs.lemmas.Int.{ints}
use Rattle.std.proofs.lemmas.List.{map-append}
use Rattle.cells.specs.declared.run.Run.{Run}
use Rattle.chunk_grid.specs.declared.piece.RunPiece.{RunPiece}
use Rattle.chunk_grid.specs.Pieces.{Pair, pair_of, is_of, pairs_in, touched, pieces_by_chunk}
use Rattle.chunk_grid.specs.Runs.{run_of_one, goes_on, longer, cut_from, runs_of_pairs, run_pieces, pairs_of, unrolled}
use Rattle.strided_runs.proofs.Laws.{range-split}
use Rattle.strided_runs.proofs.Laws.{second, first-longer, longer-more, follows}
use Rattle.chunk_grid.proofs.PieceLaws.{run_piece, run_pieces-are}

-- the pair of a run at a place
abbrev at : Run → ℕ → Pair
at r k = record { view = r.view + r.view_step * k; chunk = unsigned_abs (pos r.chunk +ℤ r.chunk_step *ℤ pos k) }

first_at : (r : Run) → at r 0 ≡ record { view = r.view; chunk = r.chunk }
first_at r =
    let z = *ℤ-zero r.chunk_step in
    let v : r.view + r.view_step * 0 ≡ r.view = omega arith in
    let c : unsigned_abs (pos r.chunk +ℤ r.chunk_step *ℤ pos 0) ≡ r.chunk = omega (arith, ints, z) in
    λ i. record { view = v i; chunk = c i }

second_at : (r : Run) (p : Pair) → r.view ≤ p.view → at (second r p) 1 ≡ p
second_at r p le =
    let v : r.view + (p.view - r.view) * 1 ≡ p.view = omega arith in
    let c : unsigned_abs (pos r.chunk +ℤ (pos p.chunk -ℤ pos r.chunk) *ℤ pos 1) ≡ p.chunk = omega (arith, ints) in
    λ i. record { view = v i; chunk = c i }

one_pairs : (r : Run) → r.len ≡ 1 → pairs_of r ≡ record { view = r.view; chunk = r.chunk } ∷ []
one_pairs r e = ap (λ n. map (at r) (range_with_len 0 n)) e ∙ ap (λ p. p ∷ []) (first_at r)

-- a run with a pair more has its pairs and that one
pairs-longer : (r : Run) (p : Pair) → r.view ≤ p.view → goes_on r p ≡ true → (r.len ≡ 1) ⊎ (2 ≤ r.len) → pairs_of (longer r p) ≡ pairs_of r ++ p ∷ []
pairs-longer r p le on (inl one) =
    ap pairs_of (first-longer r p one)
    ∙ (λ i. first_at (second r p) i ∷ second_at r p le i ∷ [])
    ∙ sym (ap (λ ps. ps ++ p ∷ []) (one_pairs r one))
pairs-longer r p le on (inr two) =
    let f = follows r p two on in
    let zero_more : 0 + r.len ≡ r.len = omega arith in
    let c : unsigned_abs (pos r.chunk +ℤ r.chunk_step *ℤ pos r.len) ≡ p.chunk = omega (arith, ints, f.1) in
    ap pairs_of (longer-more r p two)
    ∙ ap (map (at r)) (range-split r.len 1 0)
    ∙ map-append (at r) (range_with_len 0 r.len) (range_with_len (0 + r.len) 1)
    ∙ ap (λ n. pairs_of r ++ at r n ∷ []) zero_more
    ∙ (λ i. pairs_of r ++ record { view = sym f.0 i; chunk = c i } ∷ [])

-- places of the view rise
abbrev pub Rise : ℕ → List Pair → Type 0
Rise least [] = Unit {0}
Rise least (p ∷ pairs) = (least ≤ p.view) × Rise least pairs

begun-longer : (r : Run) (p : Pair) → (r.len ≡ 1) ⊎ (2 ≤ r.len) → (2 ≤ (longer r p).len) × ((longer r p).view ≡ r.view)
begun-longer r p (inl one) = subst (λ (l : Run). (2 ≤ l.len) × (l.view ≡ r.view)) (sym (first-longer r p one)) (omega arith, refl)
begun-longer r p (inr two) = subst (λ (l : Run). (2 ≤ l.len) × (l.view ≡ r.view)) (sym (longer-more r p two)) (omega arith, refl)

abbrev pub AreRising : List Pair → Type 0
AreRising [] = Unit {0}
AreRising (p ∷ pairs) = Rise p.view pairs × AreRising pairs

pairs-cut : (pairs : List Pair) (r : Run) → (r.len ≡ 1) ⊎ (2 ≤ r.len) → Rise r.view pairs → AreRising pairs → flat_map pairs_of (cut_from r pairs) ≡ pairs_of r ++ pairs
pairs-cut [] r begun low rise = refl
pairs-cut (p ∷ pairs) r begun low rise =
    let more = begun-longer r p begun in
    told (goes_on r p) refl
    (pairs-cut pairs (longer r p) (inr more.0) (subst (λ n. Rise n pairs) (sym more.1) low.1) rise.1)
    (pairs-cut pairs (run_of_one p) (inl refl) rise.0 rise.1)
  where
    told : (b : Bool) → goes_on r p ≡ b → flat_map pairs_of (cut_from (longer r p) pairs) ≡ pairs_of (longer r p) ++ pairs
        → flat_map pairs_of (cut_from (run_of_one p) pairs) ≡ pairs_of (run_of_one p) ++ pairs
        → flat_map pairs_of (cond b (cut_from (longer r p) pairs) (r ∷ cut_from (run_of_one p) pairs)) ≡ pairs_of r ++ p ∷ pairs
    told true e on off = on ∙ ap (λ ps. ps ++ pairs) (pairs-longer r p low.0 e begun) ∙ append_assoc (pairs_of r) (p ∷ []) pairs
    told false e on off = ap (λ ps. pairs_of r ++ ps) (off ∙ ap (λ ps. ps ++ pairs) (one_pairs (run_of_one p) refl))

-- rising pairs are those of their runs
pub pairs-runs : (pairs : List Pair) → AreRising pairs → flat_map pairs_of (runs_of_pairs pairs) ≡ pairs
pairs-runs [] rise = refl
pairs-runs (p ∷ pairs) rise = pairs-cut pairs (run_of_one p) (inl refl) rise.0 rise.1 ∙ ap (λ ps. ps ++ pairs) (one_pairs (run_of_one p) refl)

-- a chunk's pairs rise
module _ (chunk c : List ℕ) where
  abbrev of : ℕ → List (List ℕ) → List Pair
  of n xs = map (pair_of chunk) (filter (is_of chunk c) (enumerate_from n xs))

  rise_from : (xs : List (List ℕ)) (n least : ℕ) → least ≤ n → Rise least (of n xs)
  rise_from [] n least le = tt
  rise_from (x ∷ xs) n least le = told (is_of chunk c (n, x)) (rise_from xs (n + 1) least (omega arith)) where
    told : (b : Bool) → Rise least (of (n + 1) xs) → Rise least (map (pair_of chunk) (cond b ((n, x) ∷ filter (is_of chunk c) (enumerate_from (n + 1) xs)) (filter (is_of chunk c) (enumerate_from (n + 1) xs))))
    told true h = (le, h)
    told false h = h

  rising_from : (xs : List (List ℕ)) (n : ℕ) → AreRising (of n xs)
  rising_from [] n = tt
  rising_from (x ∷ xs) n = told (is_of chunk c (n, x)) (rising_from xs (n + 1)) where
    told : (b : Bool) → AreRising (of (n + 1) xs) → AreRising (map (pair_of chunk) (cond b ((n, x) ∷ filter (is_of chunk c) (enumerate_from (n + 1) xs)) (filter (is_of chunk c) (enumerate_from (n + 1) xs))))
    told true h = (rise_from xs (n + 1) n (omega arith), h)
    told false h = h

  pub pairs-in-runs : (targets : List (List ℕ)) → flat_map pairs_of (runs_of_pairs (pairs_in chunk c targets)) ≡ pairs_in chunk c targets
  pairs-in-runs targets = pairs-runs (pairs_in chunk c targets) (rising_from targets 0)

-- the pieces have the pairs of their runs
all_unrolled : (chunk : List ℕ) (targets cs : List (List ℕ)) → map unrolled (map (run_piece chunk targets) cs) ≡ map (λ c. record { chunk = c; pairs = pairs_in chunk c targets }) cs
all_unrolled chunk targets [] = refl
all_unrolled chunk targets (c ∷ cs) = λ i. record { chunk = c; pairs = pairs-in-runs chunk c targets i } ∷ all_unrolled chunk targets cs i

pub unrolled-pieces : (chunk : List ℕ) (targets : List (List ℕ)) → map unrolled (run_pieces chunk targets) ≡ pieces_by_chunk chunk targets
unrolled-pieces chunk targets = ap (map unrolled) (run_pieces-are chunk targets) ∙ all_unrolled chunk targets (touched chunk targets)

pub told-unrolled : {E : Type 0} (r : Result (List RunPiece) E) (chunk : List ℕ) (targets : List (List ℕ)) → IfOk r (λ pieces. pieces ≡ run_pieces chunk targets)
    → IfOk r (λ pieces. map unrolled pieces ≡ pieces_by_chunk chunk targets)
told-unrolled (Ok pieces) chunk targets is = ap (map unrolled) is ∙ unrolled-pieces chunk targets
told-unrolled (Err e) chunk targets is = tt
