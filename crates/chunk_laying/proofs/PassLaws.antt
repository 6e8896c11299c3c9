-- The chunks that a new shape cuts, with one dimension more: behind each chunk along it that keeps its cells those that are cut, and behind each other one all.
use Rattle.std.proofs.Common.{◌≡◌, ℕ, zero, suc, ◌+◌, ◌-◌, ◌*◌, ◌/◌, ◌<◌, ◌≤◌, List, [], ◌∷◌, ◌++◌, length, map, min, Bool, true, false, cond, inl, inr, refl, sym, ap, ◌∙◌, arith, nat_lt}
use Rattle.std.specs.Prelude.{◌&&◌, ◌||◌, filter}
use Rattle.std.specs.List.{AllByRecursion, flat_map, range_with_len}
use Rattle.std.specs.Int.{div_ceil}
use Rattle.std.proofs.Math.Nat.{mul-le-mul_right}
use Rattle.std.proofs.lemmas.Bool.Decides.{nat_tests}
use Rattle.std.proofs.lemmas.Nat.{div-add-mod', mod_below}
use Rattle.std.proofs.lemmas.Grind.{div_ceil_times, flat_map-append}
use Rattle.std.proofs.lemmas.List.Elements.{filter-append}
use Rattle.cells.specs.Places.{index_vectors}
use Rattle.cells.proofs.Laws.{true_or_false}
use Rattle.history.specs.Grid.{grid_of}
use Rattle.history.specs.Resizes.{reaches_into, is_shorter, is_cut, whole_along}
use Rattle.history.proofs.Laws.{ArePositive}
use Rattle.chunk_laying.specs.Resized.{cut_indices}

-- lists that begin with each number of a range
abbrev pub rows : List (List ℕ) → ℕ → ℕ → List (List ℕ)
rows rest from count = flat_map (λ c. map (λ cs. c ∷ cs) rest) (range_with_len from count)

range_parts : (from m n : ℕ) → range_with_len from (m + n) ≡ range_with_len from m ++ range_with_len (from + m) n
range_parts from zero n =
    let none : 0 + n ≡ n = omega arith in
    let same : from + 0 ≡ from = omega arith in
    ap (range_with_len from) none ∙ ap (λ k. range_with_len k n) (sym same)
range_parts from (suc m) n =
    let more : suc m + n ≡ suc (m + n) = omega arith in
    let on : from + 1 + m ≡ from + suc m = omega arith in
    ap (range_with_len from) more ∙ ap (λ xs. from ∷ xs) (range_parts (from + 1) m n) ∙ ap (λ k. from ∷ (range_with_len (from + 1) m ++ range_with_len k n)) on

-- what passes a test of lists that begin with a number, by a test of their rests
filter_row : (test other : List ℕ → Bool) (c : ℕ) (rest : List (List ℕ)) → AllByRecursion (λ cs. test (c ∷ cs) ≡ other cs) rest
    → filter test (map (λ cs. c ∷ cs) rest) ≡ map (λ cs. c ∷ cs) (filter other rest)
filter_row test other c [] same = refl
filter_row test other c (cs ∷ rest) same = by (test (c ∷ cs)) (other cs) same.0 (filter_row test other c rest same.1) where
  by : (a b : Bool) → a ≡ b → filter test (map (λ ds. c ∷ ds) rest) ≡ map (λ ds. c ∷ ds) (filter other rest)
      → cond a ((c ∷ cs) ∷ filter test (map (λ ds. c ∷ ds) rest)) (filter test (map (λ ds. c ∷ ds) rest)) ≡ map (λ ds. c ∷ ds) (cond b (cs ∷ filter other rest) (filter other rest))
  by true true h k = ap (λ xs. (c ∷ cs) ∷ xs) k
  by true false h k = absurd (cc)
  by false true h k = absurd (cc)
  by false false h k = k

filter_rows : (test other : List ℕ → Bool) (rest : List (List ℕ)) (from count : ℕ) → ((c : ℕ) → from ≤ c → c < from + count → AllByRecursion (λ cs. test (c ∷ cs) ≡ other cs) rest)
    → filter test (rows rest from count) ≡ rows (filter other rest) from count
filter_rows test other rest from zero same = refl
filter_rows test other rest from (suc count) same =
    filter-append test (map (λ cs. from ∷ cs) rest) (rows rest (from + 1) count)
    ∙ ap (λ xs. xs ++ filter test (rows rest (from + 1) count)) (filter_row test other from rest (same from (omega arith) (omega arith)))
    ∙ ap (λ xs. map (λ cs. from ∷ cs) (filter other rest) ++ xs) (filter_rows test other rest (from + 1) count (λ c low high. same c (omega arith) (omega arith)))

filter_every : (rest : List (List ℕ)) → filter (λ cs. true) rest ≡ rest
filter_every [] = refl
filter_every (cs ∷ rest) = ap (λ xs. cs ∷ xs) (filter_every rest)

-- the chunks of a grid reach into the shape
start_below : (c s n : ℕ) → 0 < n → c < div_ceil s n → nat_lt (c * n) s ≡ true
start_below c s n pos lt =
    let times = div_ceil_times s n pos in
    let wide : (c + 1) * n ≤ div_ceil s n * n = mul-le-mul_right n (omega arith) in
    let same : (c + 1) * n ≡ c * n + n = grind arith in
    let low : c * n < s = omega arith in
    grind (arith, nat_tests, low)

all_with : (P : List ℕ → Type 0) (xs ys : List (List ℕ)) → AllByRecursion P xs → AllByRecursion P ys → AllByRecursion P (xs ++ ys)
all_with P [] ys all more = more
all_with P (x ∷ xs) ys all more = (all.0, all_with P xs ys all.1 more)

all_row : (P Q : List ℕ → Type 0) (c : ℕ) (xs : List (List ℕ)) → ((x : List ℕ) → P x → Q (c ∷ x)) → AllByRecursion P xs → AllByRecursion Q (map (λ x. c ∷ x) xs)
all_row P Q c [] g all = tt
all_row P Q c (x ∷ xs) g all = (g x all.0, all_row P Q c xs g all.1)

all_rows : (P Q : List ℕ → Type 0) (rest : List (List ℕ)) (from count : ℕ) → ((c : ℕ) (x : List ℕ) → c < from + count → P x → Q (c ∷ x)) → AllByRecursion P rest → AllByRecursion Q (rows rest from count)
all_rows P Q rest from zero g all = tt
all_rows P Q rest from (suc count) g all =
    all_with Q (map (λ x. from ∷ x) rest) (rows rest (from + 1) count) (all_row P Q from rest (λ x. g from x (omega arith)) all)
    (all_rows P Q rest (from + 1) count (λ c x lt. g c x (omega arith)) all)

pub all_reach : (ns olds : List ℕ) → ArePositive ns → length ns ≡ length olds → AllByRecursion (λ cs. reaches_into ns olds cs ≡ true) (index_vectors (grid_of olds ns))
all_reach [] [] pos e = (refl, tt)
all_reach [] (s ∷ olds) pos e = absurd (omega arith)
all_reach (n ∷ ns) [] pos e = absurd (omega arith)
all_reach (n ∷ ns) (s ∷ olds) pos e =
    all_rows (λ cs. reaches_into ns olds cs ≡ true) (λ cs. reaches_into (n ∷ ns) (s ∷ olds) cs ≡ true) (index_vectors (grid_of olds ns)) 0 (div_ceil s n)
    (λ c cs lt reached. ap (λ b. b && reaches_into ns olds cs) (start_below c s n pos.0 (omega arith)) ∙ reached) (all_reach ns olds pos.1 (omega arith))

-- a chunk along the dimension keeps its cells or doesn't
keeps_first : (n s t c whole : ℕ) → 0 < n → whole ≡ whole_along s t n (div_ceil s n) → c < whole → nat_lt t (min s (c * n + n)) ≡ false
keeps_first n s t c whole pos is lt =
    elim (true_or_false (nat_lt t s)) [
      | inl h ↦ (
          let few : whole ≡ t / n = is ∙ ap (λ b. cond b (t / n) (div_ceil s n)) h in
          let all = div-add-mod' t n in
          let wide : (c + 1) * n ≤ t / n * n = mul-le-mul_right n (omega arith) in
          let same : (c + 1) * n ≡ c * n + n = grind arith in
          let low : min s (c * n + n) ≤ t = omega arith in
          grind (arith, nat_tests, low))
      | inr h ↦ (
          let more : s ≤ t = grind (arith, nat_tests, h) in
          let low : min s (c * n + n) ≤ t = omega arith in
          grind (arith, nat_tests, low))
    ]

loses_later : (n s t c whole : ℕ) → 0 < n → whole ≡ whole_along s t n (div_ceil s n) → whole ≤ c → c < div_ceil s n → nat_lt t (min s (c * n + n)) ≡ true
loses_later n s t c whole pos is le lt =
    elim (true_or_false (nat_lt t s)) [
      | inl h ↦ (
          let few : whole ≡ t / n = is ∙ ap (λ b. cond b (t / n) (div_ceil s n)) h in
          let all = div-add-mod' t n in
          let rest = mod_below t n pos in
          let wide : t / n * n ≤ c * n = mul-le-mul_right n (omega arith) in
          let short : t < s = grind (arith, nat_tests, h) in
          let low : t < min s (c * n + n) = omega arith in
          grind (arith, nat_tests, low))
      | inr h ↦ (
          let few : whole ≡ div_ceil s n = is ∙ ap (λ b. cond b (t / n) (div_ceil s n)) h in
          absurd (omega arith))
    ]

first_true : (a b c d : Bool) → a ≡ true → c ≡ false → ((a && b) && (c || d)) ≡ (b && d)
first_true a b c d p q = ap (λ x. (x && b) && (c || d)) p ∙ ap (λ x. b && (x || d)) q

both_here : (a b c d : Bool) → a ≡ true → b ≡ true → c ≡ true → ((a && b) && (c || d)) ≡ true
both_here a b c d p q r = ap (λ x. (x && b) && (c || d)) p ∙ ap (λ x. x && (c || d)) q ∙ ap (λ x. x || d) r

each : (P Q : List ℕ → Type 0) (xs : List (List ℕ)) → ((x : List ℕ) → P x → Q x) → AllByRecursion P xs → AllByRecursion Q xs
each P Q [] g all = tt
each P Q (x ∷ xs) g all = (g x all.0, each P Q xs g all.1)

pub cut_indices-cons : (n s t : ℕ) (ns olds news : List ℕ) (whole : ℕ) → ArePositive (n ∷ ns) → length ns ≡ length olds → whole ≡ whole_along s t n (div_ceil s n) → whole ≤ div_ceil s n
    → cut_indices (n ∷ ns) (s ∷ olds) (t ∷ news) ≡ rows (cut_indices ns olds news) 0 whole ++ rows (index_vectors (grid_of olds ns)) whole (div_ceil s n - whole)
cut_indices-cons n s t ns olds news whole pos e is most =
    let all = index_vectors (grid_of olds ns) in
    let test : List ℕ → Bool = is_cut (n ∷ ns) (s ∷ olds) (t ∷ news) in
    let reached = all_reach ns olds pos.1 e in
    let split : div_ceil s n ≡ whole + (div_ceil s n - whole) = omega arith in
    let start : 0 + whole ≡ whole = omega arith in
    let parts : rows all 0 (div_ceil s n) ≡ rows all 0 whole ++ rows all whole (div_ceil s n - whole) =
    ap (rows all 0) split ∙ ap (flat_map (λ c. map (λ cs. c ∷ cs) all)) (range_parts 0 whole (div_ceil s n - whole) ∙ ap (λ k. range_with_len 0 whole ++ range_with_len k (div_ceil s n - whole)) start)
    ∙ flat_map-append (λ c. map (λ cs. c ∷ cs) all) (range_with_len 0 whole) (range_with_len whole (div_ceil s n - whole)) in
    let first : filter test (rows all 0 whole) ≡ rows (filter (is_cut ns olds news) all) 0 whole = filter_rows test (is_cut ns olds news) all 0 whole (λ c low high.
    each (λ cs. reaches_into ns olds cs ≡ true) (λ cs. test (c ∷ cs) ≡ is_cut ns olds news cs) all
    (λ cs h. first_true (nat_lt (c * n) s) (reaches_into ns olds cs) (nat_lt t (min s (c * n + n))) (is_shorter ns olds news cs) (start_below c s n pos.0 (omega arith)) (keeps_first n s t c whole pos.0 is (omega arith))) reached) in
    let others : filter test (rows all whole (div_ceil s n - whole)) ≡ rows (filter (λ cs. true) all) whole (div_ceil s n - whole) = filter_rows test (λ cs. true) all whole (div_ceil s n - whole) (λ c low high.
    each (λ cs. reaches_into ns olds cs ≡ true) (λ cs. test (c ∷ cs) ≡ true) all
    (λ cs h. both_here (nat_lt (c * n) s) (reaches_into ns olds cs) (nat_lt t (min s (c * n + n))) (is_shorter ns olds news cs) (start_below c s n pos.0 (omega arith)) h (loses_later n s t c whole pos.0 is low (omega arith))) reached) in
    ap (filter test) parts ∙ filter-append test (rows all 0 whole) (rows all whole (div_ceil s n - whole))
    ∙ ap (λ xs. xs ++ filter test (rows all whole (div_ceil s n - whole))) first
    ∙ ap (λ xs. rows (filter (is_cut ns olds news) all) 0 whole ++ xs) (others ∙ ap (λ xs. rows xs whole (div_ceil s n - whole)) (filter_every all))
