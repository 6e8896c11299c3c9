-- Each cell stands once, chunks rise, and runs are as long as their steps reach.
use Rattle.std.proofs.Common.{◌≡◌, ◌∙◌, zero, suc, ℕ, ◌+◌, ◌<◌, ◌≤◌, ◌==◌, Bool, true, false, cond, List, [], ◌∷◌, length, map, get_or, refl, sym, ap, subst, arith, ◌⊎◌, inl, inr, ◌||◌, zero-add, Result, Ok, Err, IfOk}
use Rattle.std.specs.Prelude.{filter}
use Rattle.std.specs.List.{list_any, enumerate_from, AllByRecursion}
use Rattle.std.specs.Str.{bytes_eq}
use Rattle.std.specs.Ordering.{is_lt, nat_cmp}
use Rattle.std.specs.Cmp.Lexicographic.{slice_cmp}
use Rattle.std.specs.declared.cmp.Ordering.TheVariants.{Less}
use Rattle.std.proofs.lemmas.Bool.Decides.{nat_tests}
use Rattle.std.proofs.lemmas.List.{get_or-map, length-map}
use Rattle.std.proofs.lemmas.Slice.Eq.{bytes_eq-Decides}
use Rattle.cells.specs.declared.run.Run.{Run}
use Rattle.chunk_grid.specs.declared.piece.RunPiece.{RunPiece}
use Rattle.chunk_grid.specs.Grid.{chunk_index, place_within}
use Rattle.chunk_grid.specs.Pieces.{Pair, Piece, pair_of, is_of, pairs_in, touched, pieces_by_chunk}
use Rattle.chunk_grid.specs.Runs.{run_of_one, goes_on, longer, cut_from, runs_of_pairs, run_pieces}
use Rattle.chunk_grid.specs.Boxes.{AreRising}
use Rattle.chunk_grid.specs.Once.{times_in, times, IsPairOf, EndsBefore, AreLong, IsCut}
use Rattle.chunk_grid.proofs.RisingLaws.{IsAmong, among_at, Rises, fold_rises, fold_has, never_below}
use Rattle.chunk_grid.proofs.RunLaws.{unrolled-pieces}
use Rattle.chunk_grid.proofs.PieceLaws.{run_piece, run_pieces-are}
use Rattle.strided_runs.proofs.Laws.{second}

-- chunk indices that rise do so place by place
rising-of : (cs : List (List ℕ)) → Rises cs → AreRising cs
rising-of [] h = λ i j l m. absurd (omega (arith, m))
rising-of (c ∷ cs) h = at (rising-of cs h.1)
  where
    at : AreRising cs → AreRising (c ∷ cs)
    at more i zero l m = absurd (omega (arith, l))
    at more zero (suc j) l m = let e : slice_cmp nat_cmp c (get_or cs j []) ≡ Less = h.0 (get_or cs j []) (among_at (get_or cs j []) cs j (omega (arith, m)) refl) in ap is_lt e
    at more (suc i) (suc j) l m = more i j (omega (arith, l)) (omega (arith, m))

-- the pairs of a chunk
module _ (chunk c : List ℕ) where
  abbrev of : ℕ → List (List ℕ) → List Pair
  of n xs = map (pair_of chunk) (filter (is_of chunk c) (enumerate_from n xs))

  none_before : (xs : List (List ℕ)) (n k : ℕ) → k < n → times_in k (of n xs) ≡ 0
  none_before [] n k h = refl
  none_before (x ∷ xs) n k h = told (is_of chunk c (n, x)) (none_before xs (n + 1) k (omega (arith, h)))
    where
      told : (b : Bool) → times_in k (of (n + 1) xs) ≡ 0
          → times_in k (map (pair_of chunk) (cond b ((n, x) ∷ filter (is_of chunk c) (enumerate_from (n + 1) xs)) (filter (is_of chunk c) (enumerate_from (n + 1) xs)))) ≡ 0
      told false e = e
      told true e = let other : (n == k) ≡ false = grind (arith, nat_tests, h) in rw (other, e) refl

  once_at : (xs : List (List ℕ)) (n j : ℕ) → j < length xs → times_in (n + j) (of n xs) ≡ cond (bytes_eq (chunk_index chunk (get_or xs j [])) c) 1 0
  once_at [] n j h = absurd (omega (arith, h))
  once_at (x ∷ xs) n zero h = told (bytes_eq (chunk_index chunk x) c) (none_before xs (n + 1) (n + 0) (omega arith))
    where
      told : (b : Bool) → times_in (n + 0) (of (n + 1) xs) ≡ 0
          → times_in (n + 0) (map (pair_of chunk) (cond b ((n, x) ∷ filter (is_of chunk c) (enumerate_from (n + 1) xs)) (filter (is_of chunk c) (enumerate_from (n + 1) xs)))) ≡ cond b 1 0
      told false e = e
      told true e = let same : (n == n + 0) ≡ true = grind (arith, nat_tests) in rw (same, e) refl
  once_at (x ∷ xs) n (suc j) h = told (is_of chunk c (n, x)) (let z : (n + 1) + j ≡ n + suc j = omega arith in subst (λ (i : ℕ). times_in i (of (n + 1) xs) ≡ cond (bytes_eq (chunk_index chunk (get_or xs j [])) c) 1 0) z (once_at xs (n + 1) j (omega (arith, h))))
    where
      told : (b : Bool) → times_in (n + suc j) (of (n + 1) xs) ≡ cond (bytes_eq (chunk_index chunk (get_or xs j [])) c) 1 0
          → times_in (n + suc j) (map (pair_of chunk) (cond b ((n, x) ∷ filter (is_of chunk c) (enumerate_from (n + 1) xs)) (filter (is_of chunk c) (enumerate_from (n + 1) xs)))) ≡ cond (bytes_eq (chunk_index chunk (get_or xs j [])) c) 1 0
      told false e = e
      told true e = let other : (n == n + suc j) ≡ false = grind (arith, nat_tests) in rw other (zero-add (times_in (n + suc j) (of (n + 1) xs)) ∙ e)

  each_placed : (all xs : List (List ℕ)) (n : ℕ) → n + length xs ≤ length all → ((j : ℕ) → j < length xs → get_or all (n + j) [] ≡ get_or xs j [])
      → AllByRecursion (IsPairOf chunk all c) (of n xs)
  each_placed all [] n l at = tt
  each_placed all (x ∷ xs) n l at =
      told (bytes_eq (chunk_index chunk x) c) refl
      (each_placed all xs (n + 1) (omega (arith, l)) (λ j h. let z : (n + 1) + j ≡ n + suc j = omega arith in ap (λ (i : ℕ). get_or all i []) z ∙ at (suc j) (omega (arith, h))))
    where
      here : get_or all n [] ≡ x
      here = (let z : n ≡ n + 0 = omega arith in ap (λ (i : ℕ). get_or all i []) z) ∙ at 0 (omega arith)

      told : (b : Bool) → bytes_eq (chunk_index chunk x) c ≡ b → AllByRecursion (IsPairOf chunk all c) (of (n + 1) xs)
          → AllByRecursion (IsPairOf chunk all c) (map (pair_of chunk) (cond b ((n, x) ∷ filter (is_of chunk c) (enumerate_from (n + 1) xs)) (filter (is_of chunk c) (enumerate_from (n + 1) xs))))
      told false e h = h
      told true e h = (
        record {
          below = omega (arith, l);
          lies = ap (chunk_index chunk) here ∙ (bytes_eq-Decides (chunk_index chunk x) c).0 e;
          stands = sym (ap (place_within chunk) here);
        },
        h,
      )

-- the chunks among which a key stands
sum_keys : List ℕ → List (List ℕ) → ℕ
sum_keys key [] = 0
sum_keys key (c ∷ cs) = cond (bytes_eq key c) 1 0 + sum_keys key cs

none-among : (key : List ℕ) (cs : List (List ℕ)) → list_any (bytes_eq key) cs ≡ false → sum_keys key cs ≡ 0
unfolding sum_keys
none-among key [] e = refl
none-among key (c ∷ cs) e = told (bytes_eq key c) e (none-among key cs)
  where
    told : (b : Bool) → (b || list_any (bytes_eq key) cs) ≡ false → (list_any (bytes_eq key) cs ≡ false → sum_keys key cs ≡ 0) → cond b 1 0 + sum_keys key cs ≡ 0
    told true e h = absurd (let no_such : ⊥ = cc in no_such)
    told false e h = rw (h e) refl

either : (b : Bool) → (b ≡ true) ⊎ (b ≡ false)
either true = inl refl
either false = inr refl

one-among : (key : List ℕ) (cs : List (List ℕ)) → Rises cs → IsAmong key cs → sum_keys key cs ≡ 1
unfolding sum_keys
one-among key [] r h = absurd (let no_such : ⊥ = cc in no_such)
one-among key (c ∷ cs) r h = told (bytes_eq key c) refl h (λ i. one-among key cs r.1 i)
  where
    gone : bytes_eq key c ≡ true → list_any (bytes_eq key) cs ≡ false
    gone e =
        let same : key ≡ c = (bytes_eq-Decides key c).0 e in
        elim (either (list_any (bytes_eq key) cs)) [
          | inr n ↦ n
          | inl y ↦ absurd (never_below c (subst (λ (k : List ℕ). slice_cmp nat_cmp c k ≡ Less) same (r.0 key y)))
        ]

    told : (b : Bool) → bytes_eq key c ≡ b → (b || list_any (bytes_eq key) cs) ≡ true → (IsAmong key cs → sum_keys key cs ≡ 1) → cond b 1 0 + sum_keys key cs ≡ 1
    told true e h more = rw (none-among key cs (gone e)) refl
    told false e h more = zero-add (sum_keys key cs) ∙ more h

-- how often a place stands in all pieces
times-keys : (chunk : List ℕ) (targets cs : List (List ℕ)) (k : ℕ) → k < length targets
    → times k (map (λ c. record { chunk = c; pairs = pairs_in chunk c targets }) cs) ≡ sum_keys (chunk_index chunk (get_or targets k [])) cs
unfolding sum_keys
times-keys chunk targets [] k h = refl
times-keys chunk targets (c ∷ cs) k h =
    let z : 0 + k ≡ k = omega arith in
    let here : times_in k (pairs_in chunk c targets) ≡ cond (bytes_eq (chunk_index chunk (get_or targets k [])) c) 1 0 =
    subst (λ (i : ℕ). times_in i (pairs_in chunk c targets) ≡ cond (bytes_eq (chunk_index chunk (get_or targets k [])) c) 1 0) z (once_at chunk c targets 0 k h) in
    ap (λ (n : ℕ). n + times k (map (λ c. record { chunk = c; pairs = pairs_in chunk c targets }) cs)) here
    ∙ ap (λ (n : ℕ). cond (bytes_eq (chunk_index chunk (get_or targets k [])) c) 1 0 + n) (times-keys chunk targets cs k h)

once-touched : (chunk : List ℕ) (targets : List (List ℕ)) (k : ℕ) → k < length targets → times k (pieces_by_chunk chunk targets) ≡ 1
once-touched chunk targets k h =
    let key = chunk_index chunk (get_or targets k []) in
    let keys = map (chunk_index chunk) targets in
    let l : k < length (map (chunk_index chunk) targets) = omega (arith, h, length-map targets (chunk_index chunk)) in
    let at : get_or (map (chunk_index chunk) targets) k [] ≡ chunk_index chunk (get_or targets k []) = get_or-map (chunk_index chunk) targets k [] [] h in
    let there : IsAmong (chunk_index chunk (get_or targets k [])) (touched chunk targets) =
    fold_has (chunk_index chunk (get_or targets k [])) (map (chunk_index chunk) targets) [] (among_at (chunk_index chunk (get_or targets k [])) (map (chunk_index chunk) targets) k l at) in
    times-keys chunk targets (touched chunk targets) k h
    ∙ one-among (chunk_index chunk (get_or targets k [])) (touched chunk targets) (fold_rises (map (chunk_index chunk) targets) [] tt) there

placed-all : (chunk : List ℕ) (targets cs : List (List ℕ))
    → AllByRecursion (λ piece. AllByRecursion (IsPairOf chunk targets piece.chunk) piece.pairs) (map (λ c. let r : Piece = record { chunk = c; pairs = pairs_in chunk c targets } in r) cs)
placed-all chunk targets [] = tt
placed-all chunk targets (c ∷ cs) =
    (each_placed chunk c targets targets 0 (omega arith) (λ j h. let z : 0 + j ≡ j = omega arith in ap (λ (i : ℕ). get_or targets i []) z), placed-all chunk targets cs)

-- a run begins with the same pair when it is longer
begins : (r : Run) (p : Pair) → ((longer r p).view ≡ r.view) × ((longer r p).chunk ≡ r.chunk)
begins r p = told (r.len == 1)
  where
    told : (b : Bool) → ((cond b (second r p) (record r { len = r.len + 1 })).view ≡ r.view) × ((cond b (second r p) (record r { len = r.len + 1 })).chunk ≡ r.chunk)
    told true = (refl, refl)
    told false = (refl, refl)

-- the first pair of runs
first_of : List Run → Pair → Pair
first_of [] d = d
first_of (r ∷ runs) d = record { view = r.view; chunk = r.chunk }

first-cut : (pairs : List Pair) (r : Run) (d : Pair) → first_of (cut_from r pairs) d ≡ record { view = r.view; chunk = r.chunk }
unfolding first_of
first-cut [] r d = refl
first-cut (p ∷ pairs) r d = told (goes_on r p) (first-cut pairs (longer r p) d)
  where
    told : (b : Bool) → first_of (cut_from (longer r p) pairs) d ≡ record { view = (longer r p).view; chunk = (longer r p).chunk }
        → first_of (cond b (cut_from (longer r p) pairs) (r ∷ cut_from (run_of_one p) pairs)) d ≡ record { view = r.view; chunk = r.chunk }
    told false e = refl
    told true e = let b = begins r p in e ∙ (λ i. record { view = b.0 i; chunk = b.1 i })

ends-before : (r : Run) (p : Pair) (runs : List Run) → goes_on r p ≡ false → first_of runs p ≡ p → EndsBefore r runs
unfolding first_of
ends-before r p [] e f = tt
ends-before r p (s ∷ runs) e f = subst (λ (q : Pair). goes_on r q ≡ false) (sym f) e

long-cut : (pairs : List Pair) (r : Run) → AreLong (cut_from r pairs)
long-cut [] r = (tt, tt)
long-cut (p ∷ pairs) r = told (goes_on r p) refl (long-cut pairs (longer r p)) (long-cut pairs (run_of_one p))
  where
    told : (b : Bool) → goes_on r p ≡ b → AreLong (cut_from (longer r p) pairs) → AreLong (cut_from (run_of_one p) pairs) → AreLong (cond b (cut_from (longer r p) pairs) (r ∷ cut_from (run_of_one p) pairs))
    told true e on off = on
    told false e on off = (ends-before r p (cut_from (run_of_one p) pairs) e (first-cut pairs (run_of_one p) p), off)

long-runs : (pairs : List Pair) → AreLong (runs_of_pairs pairs)
long-runs [] = tt
long-runs (p ∷ pairs) = long-cut pairs (run_of_one p)

long-all : (chunk : List ℕ) (targets cs : List (List ℕ)) → AllByRecursion (λ piece. AreLong piece.runs) (map (run_piece chunk targets) cs)
long-all chunk targets [] = tt
long-all chunk targets (c ∷ cs) = (long-runs (pairs_in chunk c targets), long-all chunk targets cs)

chunks-of : (chunk : List ℕ) (targets cs : List (List ℕ)) → map (λ piece. piece.chunk) (map (run_piece chunk targets) cs) ≡ cs
chunks-of chunk targets [] = refl
chunks-of chunk targets (c ∷ cs) = ap (λ (ds : List (List ℕ)). c ∷ ds) (chunks-of chunk targets cs)

-- the cut of a list of index vectors
pub IsCut-run_pieces : (chunk : List ℕ) (targets : List (List ℕ)) → IsCut chunk targets (run_pieces chunk targets)
IsCut-run_pieces chunk targets =
    let are = run_pieces-are chunk targets in
    let plain = unrolled-pieces chunk targets in
    record {
      rising = subst AreRising (sym (ap (λ (ps : List RunPiece). map (λ piece. piece.chunk) ps) are ∙ chunks-of chunk targets (touched chunk targets)))
          (rising-of (touched chunk targets) (fold_rises (map (chunk_index chunk) targets) [] tt));
      once = λ k h. ap (times k) plain ∙ once-touched chunk targets k h;
      placed = subst (λ (ps : List Piece). AllByRecursion (λ piece. AllByRecursion (IsPairOf chunk targets piece.chunk) piece.pairs) ps) (sym plain) (placed-all chunk targets (touched chunk targets));
      long = subst (λ (ps : List RunPiece). AllByRecursion (λ piece. AreLong piece.runs) ps) (sym are) (long-all chunk targets (touched chunk targets));
    }

pub told-cut : {E : Type 0} (r : Result (List RunPiece) E) (chunk : List ℕ) (targets : List (List ℕ)) → IfOk r (λ pieces. pieces ≡ run_pieces chunk targets)
    → IfOk r (λ pieces. IsCut chunk targets pieces)
told-cut (Ok pieces) chunk targets is = subst (IsCut chunk targets) (sym is) (IsCut-run_pieces chunk targets)
told-cut (Err e) chunk targets is = tt
