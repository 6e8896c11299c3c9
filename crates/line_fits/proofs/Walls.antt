-- The windows of lines from the numbers that they print.
use Rattle.std.proofs.Common.{◌≡◌, ◌≤◌, ◌<◌, ◌+◌, ◌-◌, ◌++◌, ℕ, zero, suc, true, false, cond, nat_lt, List, [], ◌∷◌, length, take, drop, get_or, set, Option, Some, None, refl, sym, ap, ap₂, ◌∙◌, subst, arith, append_assoc, append-nil, add-one, length-append}
use Rattle.std.specs.Prelude.{unwrap_or}
use Rattle.std.specs.List.{last_or}
use Rattle.history.specs.Commit.{Transaction}
use Rattle.transcript_cut.specs.Transcript.{Told}
use Rattle.transcript_cut.specs.ToldNumbers.{opened_in, numbers_in, numbers_of, single}
use Rattle.transcript_cut.specs.Windows.{last_of, before_first, lines_up_to, lines_before, window_of}
use Rattle.transcript_cut.specs.Numbers.{PrintsNumbers, all_numbers}
use Rattle.transcript_cut.specs.declared.numbers.EventNumbers.{EventNumbers}
use Rattle.transcript_cut.specs.declared.said.Said.{Said}
use Rattle.line_fits.specs.Walls.{numbers_said, last_from, last_before, end_of, ArePrintedBy}

last_or-append : (o : Option ℕ) (xs ys : List ℕ) → last_or o (xs ++ ys) ≡ last_or (last_or o xs) ys
last_or-append o [] ys = refl
last_or-append o (x ∷ xs) ys = last_or-append (Some x) xs ys

-- the last of some numbers and more is the last of more, from the last of the first
from_last : (o : Option ℕ) (ys : List ℕ) → unwrap_or (last_or o ys) 0 ≡ last_from (unwrap_or o 0) ys
from_last None [] = refl
from_last (Some n) [] = refl
from_last o (y ∷ ys) = refl

pub last_of-append : (xs ys : List ℕ) → last_of (xs ++ ys) ≡ last_from (last_of xs) ys
last_of-append xs ys = ap (λ o. unwrap_or o 0) (last_or-append None xs ys) ∙ from_last (last_or None xs) ys

pub last_from-append : (seen : ℕ) (xs ys : List ℕ) → last_from seen (xs ++ ys) ≡ last_from (last_from seen xs) ys
last_from-append seen xs ys = ap (λ o. unwrap_or o 0) (last_or-append (Some seen) xs ys) ∙ from_last (last_or (Some seen) xs) ys

pub last_from-none : (seen : ℕ) (xs : List ℕ) → length xs ≡ 0 → last_from seen xs ≡ seen
last_from-none seen [] empty = refl
last_from-none seen (x ∷ xs) empty = absurd (omega arith)

last_at : (seen x : ℕ) (xs : List ℕ) → get_or (x ∷ xs) (length xs) 0 ≡ last_from seen (x ∷ xs)
last_at seen x [] = refl
last_at seen x (y ∷ ys) = last_at x y ys

pub last_from-last : (seen : ℕ) (xs : List ℕ) → 0 < length xs → get_or xs (length xs - 1) 0 ≡ last_from seen xs
last_from-last seen [] some = absurd (omega arith)
last_from-last seen (x ∷ xs) some =
    let same : length xs ≡ suc (length xs) - 1 = omega arith in subst (λ n. get_or (x ∷ xs) n 0 ≡ last_from seen (x ∷ xs)) same (last_at seen x xs)

pub before-append : (total : ℕ) (xs ys : List ℕ) → before_first total (xs ++ ys) ≡ before_first (before_first total ys) xs
before-append total [] ys = refl
before-append total (x ∷ xs) ys = refl

pub before-none : (end : ℕ) (xs : List ℕ) → length xs ≡ 0 → before_first end xs ≡ end
before-none end [] empty = refl
before-none end (x ∷ xs) empty = absurd (omega arith)

pub before-first : (end : ℕ) (xs : List ℕ) → 0 < length xs → get_or xs 0 0 - 1 ≡ before_first end xs
before-first end [] some = absurd (omega arith)
before-first end (x ∷ xs) some = refl

-- ---- the numbers of lines

more_said : (said : List Said) (k : ℕ) (d : Said) → k < length said → numbers_said (take (suc k) said) ≡ numbers_said (take k said) ++ all_numbers (get_or said k d).numbers
more_said [] k d below = absurd (omega arith)
more_said (s ∷ said) zero d below = append-nil (all_numbers s.numbers)
more_said (s ∷ said) (suc k) d below =
    ap (λ ns. all_numbers s.numbers ++ ns) (more_said said k d (omega arith)) ∙ sym (append_assoc (all_numbers s.numbers) (numbers_said (take k said)) (all_numbers (get_or said k d).numbers))

-- one line more
pub last_more : (said : List Said) (k : ℕ) (d : Said) → k < length said → last_before said (k + 1) ≡ last_from (last_before said k) (all_numbers (get_or said k d).numbers)
last_more said k d below =
    ap (last_before said) (add-one k) ∙ ap last_of (more_said said k d below) ∙ last_of-append (numbers_said (take k said)) (all_numbers (get_or said k d).numbers)

first_said : (said : List Said) (k : ℕ) (d : Said) → k < length said → numbers_said (drop k said) ≡ all_numbers (get_or said k d).numbers ++ numbers_said (drop (suc k) said)
first_said [] k d below = absurd (omega arith)
first_said (s ∷ said) zero d below = refl
first_said (s ∷ said) (suc k) d below = first_said said k d (omega arith)

-- where the window of a line ends is told by its own numbers, and by where those behind it begin
pub end_is : (total end : ℕ) (numbers : EventNumbers) (behind : List Said) → end ≡ before_first total (numbers_said behind)
    → before_first end (numbers.done ++ single numbers.failed) ≡ end_of total numbers behind
end_is total end numbers behind is =
    ap (λ e. before_first e (numbers.done ++ single numbers.failed)) is ∙ sym (before-append total (numbers.done ++ single numbers.failed) (numbers_said behind))

-- the numbers from a line on begin with those of the arrays that it opened
pub end_more : (total : ℕ) (said : List Said) (k : ℕ) (d : Said) → k < length said
    → before_first (end_of total (get_or said k d).numbers (drop (k + 1) said)) (get_or said k d).numbers.opened ≡ before_first total (numbers_said (drop k said))
end_more total said k d below =
    let numbers = (get_or said k d).numbers in
    let own = numbers.done ++ single numbers.failed in
    ap (λ j. before_first (end_of total numbers (drop j said)) numbers.opened) (add-one k)
    ∙ sym (before-append total numbers.opened (own ++ numbers_said (drop (suc k) said)))
    ∙ ap (before_first total) (sym (append_assoc numbers.opened own (numbers_said (drop (suc k) said))))
    ∙ ap (before_first total) (sym (first_said said k d below))

-- ---- what is told of the lines

numbers_same : (s : Said) (t : Told) → PrintsNumbers t.answer s.numbers → numbers_in t.answer ≡ all_numbers s.numbers
numbers_same s t prints = ap₂ (λ x y. x ++ y) prints.opened (ap₂ (λ x y. x ++ y) prints.done prints.failed)

taken_same : (said : List Said) (told : List Told) (k : ℕ) → ArePrintedBy said told → numbers_of (take k told) ≡ numbers_said (take k said)
taken_same said told zero are = refl
taken_same [] [] (suc k) are = refl
taken_same [] (t ∷ told) (suc k) are = absurd are
taken_same (s ∷ said) [] (suc k) are = absurd are
taken_same (s ∷ said) (t ∷ told) (suc k) are = ap₂ (λ x y. x ++ y) (numbers_same s t are.0) (taken_same said told k are.1)

all_same : (said : List Said) (told : List Told) → ArePrintedBy said told → numbers_of told ≡ numbers_said said
all_same [] [] are = refl
all_same [] (t ∷ told) are = absurd are
all_same (s ∷ said) [] are = absurd are
all_same (s ∷ said) (t ∷ told) are = ap₂ (λ x y. x ++ y) (numbers_same s t are.0) (all_same said told are.1)

left_same : (said : List Said) (told : List Told) (k : ℕ) → ArePrintedBy said told → numbers_of (drop k told) ≡ numbers_said (drop k said)
left_same said told zero are = all_same said told are
left_same [] [] (suc k) are = refl
left_same [] (t ∷ told) (suc k) are = absurd are
left_same (s ∷ said) [] (suc k) are = absurd are
left_same (s ∷ said) (t ∷ told) (suc k) are = left_same said told k are.1

prints_at : (said : List Said) (told : List Told) (k : ℕ) (s : Said) (t : Told) → k < length said → ArePrintedBy said told → PrintsNumbers (get_or told k t).answer (get_or said k s).numbers
prints_at [] told k s t below are = absurd (omega arith)
prints_at (x ∷ said) [] k s t below are = absurd are
prints_at (x ∷ said) (y ∷ told) zero s t below are = are.0
prints_at (x ∷ said) (y ∷ told) (suc k) s t below are = prints_at said told k s t (omega arith) are.1

-- a window from what is kept of the lines: where its lines before begin behind so many
pub window_is : (total : ℕ) (said : List Said) (told : List Told) (at begun : ℕ) (s : Said) (t : Told) (transaction : Option Transaction) → at < length said → ArePrintedBy said told
    → lines_before transaction (take at told) ≡ take begun told
    → window_of total transaction (take at told) (get_or told at t) (drop (at + 1) told)
    ≡ record { from = last_from (last_before said begun) (get_or said at s).numbers.opened; upto = end_of total (get_or said at s).numbers (drop (at + 1) said) }
window_is total said told at begun s t transaction below are lines =
    let prints = prints_at said told at s t below are in
    let numbers = (get_or said at s).numbers in
    let from = ap (λ ts. last_of (numbers_of ts ++ opened_in (get_or told at t).answer)) lines
    ∙ ap₂ (λ x y. last_of (x ++ y)) (taken_same said told begun are) prints.opened
    ∙ last_of-append (numbers_said (take begun said)) numbers.opened in
    let upto = ap₂ (λ x y. before_first total (x ++ y)) (ap₂ (λ x y. x ++ y) prints.done prints.failed) (left_same said told (at + 1) are) in
    ap₂ (λ x y. record { from = x; upto = y }) from upto

-- ---- the lines up to a `begin`

-- lines of which the first so many have numbers below one, and no other has
pub record AreBelow (below : ℕ) (told : List Told) (many : ℕ) : Type 0 where
  pub before : (i : ℕ) (d : Told) → i < many → i < length told → (get_or told i d).number < below
  pub behind : (i : ℕ) (d : Told) → many ≤ i → i < length told → below ≤ (get_or told i d).number

tail_below : (below : ℕ) (t : Told) (told : List Told) (many : ℕ) → AreBelow below (t ∷ told) (suc many) → AreBelow below told many
tail_below below t told many are = record {
  before = λ i d few in_list. are.before (suc i) d (omega arith) (omega arith);
  behind = λ i d few in_list. are.behind (suc i) d (omega arith) (omega arith);
}

tail_above : (below : ℕ) (t : Told) (told : List Told) → AreBelow below (t ∷ told) 0 → AreBelow below told 0
tail_above below t told are = record {
  before = λ i d few in_list. absurd (omega arith);
  behind = λ i d few in_list. are.behind (suc i) d (omega arith) (omega arith);
}

is_lower : (n m : ℕ) → n < m → nat_lt n m ≡ true
is_lower n m lower = grind arith

is_no_lower : (n m : ℕ) → m ≤ n → nat_lt n m ≡ false
is_no_lower n m above = grind arith

-- the lines up to one whose number follows those of the first so many are these
pub up_to-take : (below : ℕ) (told : List Told) (many at : ℕ) → AreBelow below told many → many ≤ at → lines_up_to below (take at told) ≡ take many told
up_to-take below told zero zero are few = refl
up_to-take below told (suc many) zero are few = absurd (omega arith)
up_to-take below [] zero (suc at) are few = refl
up_to-take below [] (suc many) (suc at) are few = refl
up_to-take below (t ∷ told) zero (suc at) are few =
    ap (λ b. cond b (t ∷ lines_up_to below (take at told)) (lines_up_to below (take at told))) (is_no_lower t.number below (are.behind 0 t (omega arith) (omega arith)))
    ∙ up_to-take below told zero at (tail_above below t told are) (omega arith)
up_to-take below (t ∷ told) (suc many) (suc at) are few =
    ap (λ b. cond b (t ∷ lines_up_to below (take at told)) (lines_up_to below (take at told))) (is_lower t.number below (are.before 0 t (omega arith) (omega arith)))
    ∙ ap (λ l. t ∷ l) (up_to-take below told many at (tail_below below t told many are) (omega arith))

-- ---- one entry more

-- at the end
pub pushed : (f : ℕ → ℕ) (xs : List ℕ) (x : ℕ) → ((j : ℕ) → j < length xs → get_or xs j 0 ≡ f j) → x ≡ f (length xs)
    → (j : ℕ) → j < length xs + 1 → get_or (xs ++ x ∷ []) j 0 ≡ f j
pushed f [] x each is zero below = is
pushed f [] x each is (suc j) below = absurd (omega arith)
pushed f (y ∷ ys) x each is zero below = each 0 (omega arith)
pushed f (y ∷ ys) x each is (suc j) below = pushed (λ i. f (suc i)) ys x (λ i low. each (suc i) (omega arith)) is j (omega arith)

-- before those that are there
pub put_ahead : (f : ℕ → ℕ) (B : ℕ → Type 0) (xs : List ℕ) (k x : ℕ) → k < length xs → x ≡ f k → ((j : ℕ) → suc k ≤ j → B j → get_or xs j 0 ≡ f j)
    → (j : ℕ) → k ≤ j → B j → get_or (set xs k x) j 0 ≡ f j
put_ahead f B [] k x low is each j from in_bound = absurd (omega arith)
put_ahead f B (y ∷ ys) zero x low is each zero from in_bound = is
put_ahead f B (y ∷ ys) zero x low is each (suc j) from in_bound = each (suc j) (omega arith) in_bound
put_ahead f B (y ∷ ys) (suc k) x low is each zero from in_bound = absurd (omega arith)
put_ahead f B (y ∷ ys) (suc k) x low is each (suc j) from in_bound =
    put_ahead (λ i. f (suc i)) (λ i. B (suc i)) ys k x (omega arith) is (λ i above within. each (suc i) (omega arith) within) j (omega arith) in_bound

get_any : {X : Type 0} (xs : List X) (k : ℕ) (d e : X) → k < length xs → get_or xs k d ≡ get_or xs k e
get_any [] k d e low = absurd (omega arith)
get_any (x ∷ xs) zero d e low = refl
get_any (x ∷ xs) (suc k) d e low = get_any xs k d e (omega arith)

-- one line more of the last numbers before lines
pub record AreLastsSoFar (said : List Said) (k seen : ℕ) (lasts : List ℕ) : Type 0 where
  pub long : length lasts ≡ k
  pub seen_is : seen ≡ last_before said k
  pub each : (j : ℕ) → j < k → get_or lasts j 0 ≡ last_before said j

pub lasts_step : (said : List Said) (k seen next : ℕ) (lasts more : List ℕ) (s : Said) → k < length said → s ≡ get_or said k s → AreLastsSoFar said k seen lasts
    → next ≡ last_from seen (all_numbers s.numbers) → more ≡ lasts ++ seen ∷ [] → AreLastsSoFar said (k + 1) next more
lasts_step said k seen next lasts more s low at so_far is put =
    let here : seen ≡ last_before said (length lasts) = so_far.seen_is ∙ ap (last_before said) (sym so_far.long) in
    subst (AreLastsSoFar said (k + 1) next) (sym put) (record {
      long = omega (arith, length-append lasts (seen ∷ []), so_far.long);
      seen_is = is ∙ ap₂ (λ x (y : Said). last_from x (all_numbers y.numbers)) so_far.seen_is at ∙ sym (last_more said k s low);
      each = λ j below. pushed (last_before said) lasts seen (λ i lower. so_far.each i (omega (arith, so_far.long, lower))) here j (omega (arith, so_far.long, below));
    })

-- the same of where windows end, from the last line on
pub record AreEndsFrom (total : ℕ) (said : List Said) (k end : ℕ) (ends : List ℕ) : Type 0 where
  pub end_here : end ≡ before_first total (numbers_said (drop k said))
  pub each : (j : ℕ) (d : Said) → k ≤ j → j < length said → get_or ends j 0 ≡ end_of total (get_or said j d).numbers (drop (j + 1) said)

pub ends_step : (total : ℕ) (said : List Said) (k j end own next : ℕ) (ends : List ℕ) (s : Said) → k ≡ j + 1 → j < length said → j < length ends → s ≡ get_or said j s
    → AreEndsFrom total said k end ends → own ≡ before_first end (s.numbers.done ++ single s.numbers.failed) → next ≡ before_first own s.numbers.opened
    → AreEndsFrom total said j next (set ends j own)
ends_step total said k j end own next ends s one low in_ends at so_far own_is next_is = record {
  end_here =
      next_is ∙ ap₂ (λ x (y : Said). before_first x y.numbers.opened) here at ∙ end_more total said j s low;
  each = λ i d from within.
      put_ahead (λ n. end_of total (get_or said n d).numbers (drop (n + 1) said)) (λ n. n < length said) ends j own in_ends
      (here ∙ ap (λ (x : Said). end_of total x.numbers (drop (j + 1) said)) (get_any said j s d low))
      (λ n above below. so_far.each n d (omega (arith, one, above)) below) i from within;
}
  where
    behind : end ≡ before_first total (numbers_said (drop (j + 1) said))
    behind = so_far.end_here ∙ ap (λ n. before_first total (numbers_said (drop n said))) one

    here : own ≡ end_of total (get_or said j s).numbers (drop (j + 1) said)
    here = own_is ∙ end_is total end s.numbers (drop (j + 1) said) behind ∙ ap (λ (x : Said). end_of total x.numbers (drop (j + 1) said)) at

-- behind the last line
pub no_ends : (total : ℕ) (said : List Said) (ends : List ℕ) → AreEndsFrom total said (length said) total ends
no_ends total said ends = record {
  end_here = sym (ap (λ l. before_first total (numbers_said l)) (drop_all said));
  each = λ j d from low. absurd (omega arith);
}
  where
    drop_all : (l : List Said) → drop (length l) l ≡ []
    drop_all [] = refl
    drop_all (x ∷ xs) = drop_all xs
