-- Dimensions that come again.
use Rattle.std.proofs.Common.{◌≡◌, ◌≢◌, ◌<◌, ◌≤◌, ℕ, zero, suc, ◌==◌, Bool, true, false, ◌||◌, List, [], ◌∷◌, length, drop, get_or, set, refl, sym, ap, ◌∙◌, arith, drop-cons, get_or-set_same, get_or-set_other, replicate}
use Rattle.std.proofs.lemmas.List.{drop_all, get_or-replicate}
use Rattle.std.proofs.lemmas.Bool.Decides.{nat_tests}
use Rattle.std.specs.List.{list_any}
use Rattle.step_forms.specs.Selection.{has_repeat}

-- which dimensions come from a place on
abbrev pub AreMarks : List Bool → ℕ → List ℕ → Type 0
AreMarks seen rank dims = (dim : ℕ) → dim < rank → get_or seen dim false ≡ list_any (λ other. other == dim) dims

or_true : (b : Bool) → b || true ≡ true
or_true false = refl
or_true true = refl

-- what comes again behind a place comes again in all
pub repeat_behind : (k : ℕ) (dims : List ℕ) → has_repeat (drop k dims) ≡ true → has_repeat dims ≡ true
repeat_behind zero dims again = again
repeat_behind (suc k) [] again = again
repeat_behind (suc k) (dim ∷ dims) again = ap (λ b. list_any (λ other. other == dim) dims || b) (repeat_behind k dims again) ∙ or_true (list_any (λ other. other == dim) dims)

-- the dimension at a place stands before those behind it
front : (dims : List ℕ) (j k : ℕ) → suc j ≡ k → k ≤ length dims → drop j dims ≡ get_or dims j 0 ∷ drop k dims
front dims j k e within = drop-cons dims j 0 (omega arith) ∙ ap (λ n. get_or dims j 0 ∷ drop n dims) e

-- a dimension that is marked comes again
pub repeat_found : (dims : List ℕ) (j k : ℕ) → suc j ≡ k → k ≤ length dims → list_any (λ other. other == get_or dims j 0) (drop k dims) ≡ true → true ≡ has_repeat dims
repeat_found dims j k e within marked =
    sym (repeat_behind j dims (ap has_repeat (front dims j k e within) ∙ ap (λ b. b || has_repeat (drop k dims)) marked))

pub repeat_none : (dims : List ℕ) (j k : ℕ) → suc j ≡ k → k ≤ length dims → list_any (λ other. other == get_or dims j 0) (drop k dims) ≡ false → has_repeat (drop k dims) ≡ false → has_repeat (drop j dims) ≡ false
repeat_none dims j k e within unmarked distinct = ap has_repeat (front dims j k e within) ∙ ap (λ b. b || has_repeat (drop k dims)) unmarked ∙ distinct

mark_more : (seen : List Bool) (rank : ℕ) (rest : List ℕ) (dim other : ℕ) (b : Bool) → (dim == other) ≡ b → length seen ≡ rank → dim < rank → other < rank → AreMarks seen rank rest
    → get_or (set seen dim true) other false ≡ (b || list_any (λ d. d == other) rest)
mark_more seen rank rest dim other true e same less less_too marks =
    let f : other ≡ dim = grind (arith, nat_tests) in
    ap (λ d. get_or (set seen dim true) d false) f ∙ get_or-set_same seen dim true false (omega arith)
mark_more seen rank rest dim other false e same less less_too marks =
    let ne : other ≢ dim = grind (arith, nat_tests) in
    get_or-set_other seen dim other true false ne ∙ marks other less_too

pub marks_more : (seen : List Bool) (rank : ℕ) (dims : List ℕ) (j k : ℕ) → suc j ≡ k → k ≤ length dims → length seen ≡ rank → get_or dims j 0 < rank
    → AreMarks seen rank (drop k dims) → AreMarks (set seen (get_or dims j 0) true) rank (drop j dims)
marks_more seen rank dims j k e within same less marks other less_too =
    mark_more seen rank (drop k dims) (get_or dims j 0) other (get_or dims j 0 == other) refl same less less_too marks
    ∙ sym (ap (λ ds. list_any (λ d. d == other) ds) (front dims j k e within))

pub marks_none : (seen : List Bool) (rank : ℕ) (dims : List ℕ) → seen ≡ replicate rank false → AreMarks seen rank (drop (length dims) dims)
marks_none seen rank dims e dim less = ap (λ s. get_or s dim false) e ∙ get_or-replicate rank dim false false less ∙ sym (ap (λ ds. list_any (λ d. d == dim) ds) (drop_all (length dims) dims (omega arith)))

pub repeat_end : (dims : List ℕ) → has_repeat (drop (length dims) dims) ≡ false
repeat_end dims = ap has_repeat (drop_all (length dims) dims (omega arith))
