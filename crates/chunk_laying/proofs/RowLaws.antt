-- The rows of a chunk's cells.
use Rattle.std.proofs.Common.{◌≡◌, ℕ, zero, suc, ◌+◌, ◌*◌, ◌/◌, ◌%◌, ◌<◌, ◌≤◌, List, [], ◌∷◌, length, take, drop, slice_index, min, nat_lt, add-one, Bool, true, false, refl, sym, ap, subst, ◌∙◌, arith}
use Rattle.std.specs.Prelude.{◌&&◌}
use Rattle.std.proofs.Math.Nat.{mul_comm, mul_assoc, mul-pos, mul-le-mul_right, div-div-eq-div-mul, add-mul-div_right, add-mul-mod_self_right, mod-eq_of_lt, mul-div_cancel, div-lt_iff_lt-mul}
use Rattle.std.proofs.Math.Seq.{drop-cons}
use Rattle.std.proofs.lemmas.Bool.Decides.{nat_tests}
use Rattle.std.proofs.lemmas.Nat.{div-add-mod', mod_below, div_below, div-mul-add, mod-mul-add, mul-add-lt}
use Rattle.std.proofs.lemmas.List.{get_or-take, length-take}
use Rattle.cells.specs.Places.{cell_count, IsInside, c_place}
use Rattle.cells.specs.Shapes.{is_inside}
use Rattle.cells.proofs.Laws.{c_place-lt, same_test, both_true}
use Rattle.history.specs.Chunks.{in_array}
use Rattle.chunk_laying.specs.Rows.{is_place_inside, AreRows}

-- the place of an index vector is inside where the index vector is
pub inside-place : (ns ss cs index : List ℕ) → length ss ≡ length ns → length cs ≡ length ns → IsInside ns index → is_inside ss (in_array ns cs index) ≡ is_place_inside ns ss cs (c_place ns index)
inside-place [] [] [] [] e f h = refl
inside-place [] [] [] (i ∷ index) e f h = absurd h
inside-place [] [] (c ∷ cs) index e f h = absurd (omega arith)
inside-place [] (s ∷ ss) cs index e f h = absurd (omega arith)
inside-place (n ∷ ns) [] cs index e f h = absurd (omega arith)
inside-place (n ∷ ns) (s ∷ ss) [] index e f h = absurd (omega arith)
inside-place (n ∷ ns) (s ∷ ss) (c ∷ cs) [] e f h = absurd h
inside-place (n ∷ ns) (s ∷ ss) (c ∷ cs) (i ∷ index) e f h =
    let below = c_place-lt ns index h.1 in
    rw (div-mul-add i (cell_count ns) (c_place ns index) below, mod-mul-add i (cell_count ns) (c_place ns index) below)
    (ap (λ b. nat_lt (c * n + i) s && b) (inside-place ns ss cs index (omega arith) (omega arith) h.1))

-- the digits of a number by a product of bases
quotient-row : (place size count : ℕ) → 0 < size → 0 < count → place % (size * count) / count ≡ place / count % size
quotient-row place size count size_pos count_pos =
    let whole = size * count in
    let rest = place % whole in
    let turns = place / whole in
    let split : rest + turns * size * count ≡ place = omega (arith, div-add-mod' place whole, mul_assoc turns size count) in
    let quotient : place / count ≡ rest / count + turns * size = ap (λ n. n / count) (sym split) ∙ add-mul-div_right rest (turns * size) count_pos in
    let below : rest / count < size = div_below rest count size count_pos (mod_below place whole (mul-pos size_pos count_pos)) in
    sym (ap (λ n. n % size) quotient ∙ add-mul-mod_self_right (rest / count) turns size ∙ mod-eq_of_lt below)

rest-row : (place size count : ℕ) → place % (size * count) % count ≡ place % count
rest-row place size count =
    let whole = size * count in
    let rest = place % whole in
    let turns = place / whole in
    let split : rest + turns * size * count ≡ place = omega (arith, div-add-mod' place whole, mul_assoc turns size count) in
    sym (ap (λ n. n % count) (sym split) ∙ add-mul-mod_self_right rest (turns * size) count)

and_assoc : (a b c : Bool) → (a && (b && c)) ≡ ((a && b) && c)
and_assoc true b c = refl
and_assoc false b c = refl

and_true : (a b : Bool) → b ≡ true → (a && b) ≡ a
and_true true b e = e
and_true false b e = refl

factor-left : (m n : ℕ) → 0 < m * n → 0 < m
factor-left zero n above = absurd (omega arith)
factor-left (suc m) n above = omega arith

factor-right : (m n : ℕ) → 0 < m * n → 0 < n
factor-right m n above = factor-left n m (omega (arith, mul_comm m n))

-- a shape in three parts: the dimensions before one, that one, and those behind it
pub count-parts : (k : ℕ) (ns : List ℕ) → k < length ns → cell_count (take k ns) * (slice_index ns k * cell_count (drop (suc k) ns)) ≡ cell_count ns
count-parts k [] lt = absurd (omega arith)
count-parts zero (n ∷ ns) lt = omega arith
count-parts (suc k) (n ∷ ns) lt = mul_assoc n (cell_count (take k ns)) (slice_index ns k * cell_count (drop (suc k) ns)) ∙ ap (λ m. n * m) (count-parts k ns (omega arith))

-- a place's test by the one of its quotient
test-quotient : (p m reach n : ℕ) → 0 < m → p < n * m → nat_lt (p / m) reach ≡ nat_lt p (reach * m)
test-quotient p m reach n pos lt =
    same_test (nat_lt (p / m) reach) (nat_lt p (reach * m))
    (λ h. let below : p / m < reach = grind (arith, nat_tests) in let is : p < reach * m = (div-lt_iff_lt-mul {x = p} {y = reach} pos).0 below in grind (arith, nat_tests))
    (λ h. let below : p < reach * m = grind (arith, nat_tests) in let is : p / m < reach = (div-lt_iff_lt-mul {x = p} {y = reach} pos).1 below in grind (arith, nat_tests))

-- the dimension `k` parts the cells into rows, where those behind it are whole
pub split : (k : ℕ) (ns ss cs : List ℕ) (reach : ℕ) → k < length ns → length ss ≡ length ns → length cs ≡ length ns → 0 < cell_count ns
    → ((i : ℕ) → i < slice_index ns k → nat_lt (slice_index cs k * slice_index ns k + i) (slice_index ss k) ≡ nat_lt i reach)
    → ((p : ℕ) → p < cell_count (drop (suc k) ns) → is_place_inside (drop (suc k) ns) (drop (suc k) ss) (drop (suc k) cs) p ≡ true)
    → (place : ℕ) → place < cell_count ns → is_place_inside ns ss cs place ≡ (is_place_inside (take k ns) (take k ss) (take k cs) (place / (slice_index ns k * cell_count (drop (suc k) ns))) && nat_lt (place % (slice_index ns k * cell_count (drop (suc k) ns))) (reach * cell_count (drop (suc k) ns)))
split k [] ss cs reach lt e f above here behind place h = absurd (omega arith)
split k (n ∷ ns) [] cs reach lt e f above here behind place h = absurd (omega arith)
split k (n ∷ ns) (s ∷ ss) [] reach lt e f above here behind place h = absurd (omega arith)
split zero (n ∷ ns) (s ∷ ss) (c ∷ cs) reach lt e f above here behind place h =
    let m = cell_count ns in
    let pos = factor-right n m above in
    let rest : is_place_inside ns ss cs (place % m) ≡ true = behind (place % m) (mod_below place m pos) in
    let first : nat_lt (c * n + place / m) s ≡ nat_lt (place / m) reach = here (place / m) (div_below place m n pos h) in
    let same : place ≡ place % (n * m) = sym (mod-eq_of_lt h) in
    and_true (nat_lt (c * n + place / m) s) (is_place_inside ns ss cs (place % m)) rest ∙ first ∙ test-quotient place m reach n pos h ∙ ap (λ p. nat_lt p (reach * m)) same
split (suc k) (n ∷ ns) (s ∷ ss) (c ∷ cs) reach lt e f above here behind place h =
    let row = slice_index ns k * cell_count (drop (suc k) ns) in
    let heads = cell_count (take k ns) in
    let parts : heads * row ≡ cell_count ns = count-parts k ns (omega arith) in
    let pos = factor-right n (cell_count ns) above in
    let parts_pos : 0 < heads * row = subst (λ m. 0 < m) (sym parts) pos in
    let heads_pos = factor-left heads row parts_pos in
    let row_pos = factor-right heads row parts_pos in
    let deep = split k ns ss cs reach (omega arith) (omega arith) (omega arith) pos here behind (place % cell_count ns) (mod_below place (cell_count ns) pos) in
    let quotient : place / cell_count ns ≡ place / row / heads = ap (λ m. place / m) (sym parts) ∙ ap (λ m. place / m) (mul_comm heads row) ∙ sym (div-div-eq-div-mul place row heads) in
    let upper : place % cell_count ns / row ≡ place / row % heads = ap (λ m. place % m / row) (sym parts) ∙ quotient-row place heads row heads_pos row_pos in
    let lower : place % cell_count ns % row ≡ place % row = ap (λ m. place % m % row) (sym parts) ∙ rest-row place heads row in
    let inner : is_place_inside ns ss cs (place % cell_count ns) ≡ (is_place_inside (take k ns) (take k ss) (take k cs) (place / row % heads) && nat_lt (place % row) (reach * cell_count (drop (suc k) ns))) =
    deep ∙ ap (λ m. is_place_inside (take k ns) (take k ss) (take k cs) m && nat_lt (place % cell_count ns % row) (reach * cell_count (drop (suc k) ns))) upper
    ∙ ap (λ m. is_place_inside (take k ns) (take k ss) (take k cs) (place / row % heads) && nat_lt m (reach * cell_count (drop (suc k) ns))) lower in
    ap (λ m. nat_lt (c * n + m) s && is_place_inside ns ss cs (place % cell_count ns)) quotient
    ∙ ap (λ b. nat_lt (c * n + place / row / heads) s && b) inner
    ∙ and_assoc (nat_lt (c * n + place / row / heads) s) (is_place_inside (take k ns) (take k ss) (take k cs) (place / row % heads)) (nat_lt (place % row) (reach * cell_count (drop (suc k) ns)))

-- the dimensions from one on are whole: all their cells are inside
pub record AreWhole (ns ss cs : List ℕ) (cells : ℕ) : Type 0 where
  pub cells_are : cells ≡ cell_count ns
  pub all : (place : ℕ) → place < cells → is_place_inside ns ss cs place ≡ true

whole-more : (n s c : ℕ) (ns ss cs : List ℕ) (cells : ℕ) → ((i : ℕ) → i < n → nat_lt (c * n + i) s ≡ true) → AreWhole ns ss cs cells → AreWhole (n ∷ ns) (s ∷ ss) (c ∷ cs) (cells * n)
whole-more n s c ns ss cs cells here whole =
    let count : cells * n ≡ n * cell_count ns = mul_comm cells n ∙ ap (λ m. n * m) whole.cells_are in
    record {
      cells_are = count;
      all = λ place lt.
          let below : place < n * cell_count ns = subst (λ m. place < m) count lt in
          let pos : 0 < cell_count ns = factor-right n (cell_count ns) (omega arith) in
          let rest : place % cell_count ns < cells = subst (λ m. place % cell_count ns < m) (sym whole.cells_are) (mod_below place (cell_count ns) pos) in
          both_true (nat_lt (c * n + place / cell_count ns) s) (is_place_inside ns ss cs (place % cell_count ns)) (here (place / cell_count ns) (div_below place (cell_count ns) n pos below)) (whole.all (place % cell_count ns) rest);
    }

-- one step of the loop from the last dimension to the first, where `next` is `suc k`
pub whole-step : (ns ss cs : List ℕ) (k next cells reach : ℕ) → next ≡ suc k → k < length ns → length ss ≡ length ns → length cs ≡ length ns
    → ((i : ℕ) → i < slice_index ns k → nat_lt (slice_index cs k * slice_index ns k + i) (slice_index ss k) ≡ nat_lt i reach) → slice_index ns k ≤ reach
    → AreWhole (drop next ns) (drop next ss) (drop next cs) cells → AreWhole (drop k ns) (drop k ss) (drop k cs) (cells * slice_index ns k)
whole-step ns ss cs k next cells reach turn lt e f here most so_far =
    let from : AreWhole (drop (suc k) ns) (drop (suc k) ss) (drop (suc k) cs) cells = subst (λ j. AreWhole (drop j ns) (drop j ss) (drop j cs) cells) turn so_far in
    let all : (i : ℕ) → i < slice_index ns k → nat_lt (slice_index cs k * slice_index ns k + i) (slice_index ss k) ≡ true = λ i h. here i h ∙ below i reach (omega arith) in
    let step = whole-more (slice_index ns k) (slice_index ss k) (slice_index cs k) (drop (suc k) ns) (drop (suc k) ss) (drop (suc k) cs) cells all from in
    let in_ns = subst (λ l. AreWhole l (slice_index ss k ∷ drop (suc k) ss) (slice_index cs k ∷ drop (suc k) cs) (cells * slice_index ns k)) (sym (drop-cons ns k 0 lt)) step in
    let in_ss = subst (λ l. AreWhole (drop k ns) l (slice_index cs k ∷ drop (suc k) cs) (cells * slice_index ns k)) (sym (drop-cons ss k 0 (omega arith))) in_ns in
    subst (λ l. AreWhole (drop k ns) (drop k ss) l (cells * slice_index ns k)) (sym (drop-cons cs k 0 (omega arith))) in_ss
  where
    below : (a b : ℕ) → a < b → nat_lt a b ≡ true
    below a b h = grind (arith, nat_tests, h)

-- a row and the rows before it are within the whole
pub row-most : (ns : List ℕ) (k next below : ℕ) → next ≡ suc k → k < length ns → 0 < cell_count ns → below ≡ cell_count (drop next ns) → (0 < slice_index ns k * below) × (slice_index ns k * below ≤ cell_count ns)
row-most ns k next below turn lt above is =
    let here : below ≡ cell_count (drop (suc k) ns) = is ∙ ap (λ j. cell_count (drop j ns)) turn in
    let parts = count-parts k ns lt in
    let row = slice_index ns k * cell_count (drop (suc k) ns) in
    let same : slice_index ns k * below ≡ row = ap (λ m. slice_index ns k * m) here in
    let parts_pos : 0 < cell_count (take k ns) * row = subst (λ m. 0 < m) (sym parts) above in
    let heads_pos = factor-left (cell_count (take k ns)) row parts_pos in
    let row_pos = factor-right (cell_count (take k ns)) row parts_pos in
    let wide : 1 * row ≤ cell_count (take k ns) * row = mul-le-mul_right row (omega arith) in
    (omega arith, omega arith)

-- the rows that a dimension parts
pub rows-at : (ns ss cs : List ℕ) (k next below reach cells : ℕ) → next ≡ suc k → k < length ns → length ss ≡ length ns → length cs ≡ length ns → cells ≡ cell_count ns → 0 < cells
    → ((i : ℕ) → i < slice_index ns k → nat_lt (slice_index cs k * slice_index ns k + i) (slice_index ss k) ≡ nat_lt i reach) → reach ≤ slice_index ns k
    → AreWhole (drop next ns) (drop next ss) (drop next cs) below → AreRows ns ss cs k (cells / (slice_index ns k * below)) (slice_index ns k * below) (reach * below)
rows-at ns ss cs k next below reach cells turn lt e f cells_are above here most whole =
    let from : AreWhole (drop (suc k) ns) (drop (suc k) ss) (drop (suc k) cs) below = subst (λ j. AreWhole (drop j ns) (drop j ss) (drop j cs) below) turn whole in
    let m = cell_count (drop (suc k) ns) in
    let row = slice_index ns k * m in
    let heads = cell_count (take k ns) in
    let parts : heads * row ≡ cell_count ns = count-parts k ns lt in
    let count_pos : 0 < cell_count ns = subst (λ n. 0 < n) cells_are above in
    let row_pos = factor-right heads row (subst (λ n. 0 < n) (sym parts) count_pos) in
    let count : cells / row ≡ heads = ap (λ n. n / row) (cells_are ∙ sym parts) ∙ mul-div_cancel heads row_pos in
    let built : AreRows ns ss cs k (cells / row) row (reach * m) = record {
      positive = row_pos;
      short = mul-le-mul_right m most;
      rank = omega arith;
      rows = count;
      all = ap (λ n. n * row) count ∙ parts;
      cells = split k ns ss cs reach lt e f count_pos here (λ p h. from.all p (subst (λ n. p < n) (sym from.cells_are) h));
    } in
    subst (λ n. AreRows ns ss cs k (cells / (slice_index ns k * n)) (slice_index ns k * n) (reach * n)) (sym from.cells_are) built

-- all cells as one row
pub rows-whole : (ns ss cs : List ℕ) (k cells len : ℕ) → k ≤ 0 → cells ≡ cell_count ns → 0 < cells → AreWhole (drop k ns) (drop k ss) (drop k cs) len → AreRows ns ss cs 0 1 cells cells
rows-whole ns ss cs zero cells len end cells_are above whole =
    let same : len ≡ cells = whole.cells_are ∙ sym cells_are in
    record {
      positive = above;
      short = omega arith;
      rank = omega arith;
      rows = refl;
      all = omega arith;
      cells = λ place h. whole.all place (omega arith) ∙ sym (below (place % cells) cells (mod_below place cells above));
    }
  where
    below : (a b : ℕ) → a < b → nat_lt a b ≡ true
    below a b h = grind (arith, nat_tests, h)
rows-whole ns ss cs (suc k) cells len end cells_are above whole = absurd (omega arith)

-- rows of the same numbers
pub rows-same : (ns ss cs : List ℕ) (head count len inside head' count' len' inside' : ℕ) → head' ≡ head → count' ≡ count → len' ≡ len → inside' ≡ inside → AreRows ns ss cs head count len inside → AreRows ns ss cs head' count' len' inside'
rows-same ns ss cs head count len inside head' count' len' inside' h c l i rows =
    subst (λ x. AreRows ns ss cs x count' len' inside') (sym h)
    (subst (λ x. AreRows ns ss cs head x len' inside') (sym c)
    (subst (λ x. AreRows ns ss cs head count x inside') (sym l)
    (subst (λ x. AreRows ns ss cs head count len x) (sym i) rows)))

-- a cell of a row
pub row-cells : (ns ss cs : List ℕ) (head count len inside row : ℕ) → AreRows ns ss cs head count len inside → row < count → (i : ℕ) → i < len
    → is_place_inside ns ss cs (row * len + i) ≡ (is_place_inside (take head ns) (take head ss) (take head cs) row && nat_lt i inside)
row-cells ns ss cs head count len inside row rows lt i h =
    let place : row * len + i < cell_count ns = subst (λ m. row * len + i < m) (mul_comm len count ∙ rows.all) (mul-add-lt row len i count lt h) in
    rows.cells (row * len + i) place
    ∙ ap (λ r. is_place_inside (take head ns) (take head ss) (take head cs) r && nat_lt ((row * len + i) % len) inside) (div-mul-add row len i h)
    ∙ ap (λ r. is_place_inside (take head ns) (take head ss) (take head cs) row && nat_lt r inside) (mod-mul-add row len i h)

pub row-inside : (ns ss cs : List ℕ) (head count len inside row : ℕ) (b : Bool) → AreRows ns ss cs head count len inside → row < count → b ≡ is_place_inside (take head ns) (take head ss) (take head cs) row → b ≡ true
    → (i : ℕ) → i < len → is_place_inside ns ss cs (row * len + i) ≡ nat_lt i inside
row-inside ns ss cs head count len inside row b rows lt is inside_it i h = row-cells ns ss cs head count len inside row rows lt i h ∙ ap (λ t. t && nat_lt i inside) (sym is ∙ inside_it)

pub row-outside : (ns ss cs : List ℕ) (head count len inside row : ℕ) (b : Bool) → AreRows ns ss cs head count len inside → row < count → b ≡ is_place_inside (take head ns) (take head ss) (take head cs) row → b ≡ false
    → (i : ℕ) → i < len → is_place_inside ns ss cs (row * len + i) ≡ nat_lt i 0
row-outside ns ss cs head count len inside row b rows lt is past i h = row-cells ns ss cs head count len inside row rows lt i h ∙ ap (λ t. t && nat_lt i inside) (sym is ∙ past) ∙ sym (none i)
  where
    none : (a : ℕ) → nat_lt a 0 ≡ false
    none a = grind (arith, nat_tests)

-- a row's head, one dimension after another: what the first dimensions say, and what is left of the row's number
pub record IsLeft (ns ss cs : List ℕ) (row k below rest : ℕ) : Type 0 where
  pub decides : is_place_inside ns ss cs row ≡ is_place_inside (drop k ns) (drop k ss) (drop k cs) rest
  pub below_is : below ≡ cell_count (drop k ns)
  pub less : rest < below

-- what one dimension says
pub record IsStep (ns ss cs : List ℕ) (row k rest below : ℕ) (n s c : ℕ) : Type 0 where
  pub positive : 0 < below
  pub index : rest / below < n
  pub below_is : below ≡ cell_count (drop (suc k) ns)
  pub decides : is_place_inside ns ss cs row ≡ (nat_lt (c * n + rest / below) s && is_place_inside (drop (suc k) ns) (drop (suc k) ss) (drop (suc k) cs) (rest % below))

left-step : (ns ss cs : List ℕ) (row k above rest below n s c : ℕ) → k < length ns → length ss ≡ length ns → length cs ≡ length ns → n ≡ slice_index ns k → s ≡ slice_index ss k → c ≡ slice_index cs k → below ≡ above / n → IsLeft ns ss cs row k above rest
    → IsStep ns ss cs row k rest below n s c
left-step ns ss cs row k above rest below n s c lt e f n_is s_is c_is below_is left =
    let m = cell_count (drop (suc k) ns) in
    let whole : above ≡ n * m = left.below_is ∙ ap cell_count (drop-cons ns k 0 lt) ∙ ap (λ a. a * m) (sym n_is) in
    let pos : 0 < n * m = subst (λ a. 0 < a) whole (omega (arith, left.less)) in
    let n_pos = factor-left n m pos in
    let m_pos = factor-right n m pos in
    let same : below ≡ m = below_is ∙ ap (λ a. a / n) (whole ∙ mul_comm n m) ∙ mul-div_cancel m n_pos in
    let less : rest < n * m = subst (λ a. rest < a) whole left.less in
    let unfolded : is_place_inside (drop k ns) (drop k ss) (drop k cs) rest ≡ (nat_lt (c * n + rest / m) s && is_place_inside (drop (suc k) ns) (drop (suc k) ss) (drop (suc k) cs) (rest % m)) =
    ap (λ l. is_place_inside l (drop k ss) (drop k cs) rest) (drop-cons ns k 0 lt)
    ∙ ap (λ l. is_place_inside (slice_index ns k ∷ drop (suc k) ns) l (drop k cs) rest) (drop-cons ss k 0 (omega arith))
    ∙ ap (λ l. is_place_inside (slice_index ns k ∷ drop (suc k) ns) (slice_index ss k ∷ drop (suc k) ss) l rest) (drop-cons cs k 0 (omega arith))
    ∙ ap (λ a. nat_lt (slice_index cs k * a + rest / m) (slice_index ss k) && is_place_inside (drop (suc k) ns) (drop (suc k) ss) (drop (suc k) cs) (rest % m)) (sym n_is)
    ∙ ap (λ a. nat_lt (slice_index cs k * n + rest / m) a && is_place_inside (drop (suc k) ns) (drop (suc k) ss) (drop (suc k) cs) (rest % m)) (sym s_is)
    ∙ ap (λ a. nat_lt (a * n + rest / m) s && is_place_inside (drop (suc k) ns) (drop (suc k) ss) (drop (suc k) cs) (rest % m)) (sym c_is) in
    record {
      positive = subst (λ a. 0 < a) (sym same) m_pos;
      index = subst (λ a. rest / a < n) (sym same) (div_below rest m n m_pos less);
      below_is = same;
      decides = subst (λ a. is_place_inside ns ss cs row ≡ (nat_lt (c * n + rest / a) s && is_place_inside (drop (suc k) ns) (drop (suc k) ss) (drop (suc k) cs) (rest % a))) (sym same) (left.decides ∙ unfolded);
    }

-- the dimension puts the row past the shape
pub step-outside : (ns ss cs : List ℕ) (row k rest below n s c : ℕ) → IsStep ns ss cs row k rest below n s c → s ≤ c * n + rest / below → false ≡ is_place_inside ns ss cs row
step-outside ns ss cs row k rest below n s c step le =
    let past : nat_lt (c * n + rest / below) s ≡ false = grind (arith, nat_tests, le) in
    sym (step.decides ∙ ap (λ b. b && is_place_inside (drop (suc k) ns) (drop (suc k) ss) (drop (suc k) cs) (rest % below)) past)

-- it leaves the rest to decide
pub step-inside : (ns ss cs : List ℕ) (row k rest below n s c : ℕ) → IsStep ns ss cs row k rest below n s c → c * n + rest / below < s → IsLeft ns ss cs row (k + 1) below (rest % below)
step-inside ns ss cs row k rest below n s c step lt =
    let within : nat_lt (c * n + rest / below) s ≡ true = grind (arith, nat_tests, lt) in
    let left : IsLeft ns ss cs row (suc k) below (rest % below) = record {
      decides = step.decides ∙ ap (λ b. b && is_place_inside (drop (suc k) ns) (drop (suc k) ss) (drop (suc k) cs) (rest % below)) within;
      below_is = step.below_is;
      less = mod_below rest below step.positive;
    } in
    subst (λ j. IsLeft ns ss cs row j below (rest % below)) (sym (add-one k)) left

first-length : (h : ℕ) (xs : List ℕ) → h ≤ length xs → length (take h xs) ≡ h
first-length h xs le = length-take h xs ∙ (let is : min h (length xs) ≡ h = omega arith in is)

pub head-step : (head : ℕ) (ns ss cs : List ℕ) (row k above rest : ℕ) → head ≤ length ns → length ss ≡ length ns → length cs ≡ length ns → k < head → IsLeft (take head ns) (take head ss) (take head cs) row k above rest
    → IsStep (take head ns) (take head ss) (take head cs) row k rest (above / slice_index ns k) (slice_index ns k) (slice_index ss k) (slice_index cs k)
head-step head ns ss cs row k above rest le e f lt left =
    let one = first-length head ns le in
    let two = first-length head ss (omega arith) in
    let three = first-length head cs (omega arith) in
    left-step (take head ns) (take head ss) (take head cs) row k above rest (above / slice_index ns k) (slice_index ns k) (slice_index ss k) (slice_index cs k)
    (omega arith) (omega arith) (omega arith) (sym (get_or-take head ns k 0 lt)) (sym (get_or-take head ss k 0 lt)) (sym (get_or-take head cs k 0 lt)) refl left
