-- Between which events the lines of a session may have looked.
use Rattle.std.proofs.Common.{◌≡◌, ◌∙◌, ◌≤◌, ◌+◌, ℕ, zero, suc, List, [], ◌∷◌, ◌++◌, Some, take, drop, length, refl, sym, ap, subst, arith, append_assoc, length-append}
use Rattle.std.specs.List.{AllByRecursion, slice_get}
use Rattle.history.specs.History.{History}
use Rattle.history.specs.Own as own
use Rattle.history.specs.Own.{Numbered}
use Rattle.open_fits.specs.Windows.{before_first}
use Rattle.stated_history.specs.Claimed.{AreStated, stated}
use Rattle.stated_history.specs.StatedEvents.{IsEvent}
use Rattle.stated_history.specs.ToldNumbers.{AreRising, opened_in, done_in, failed_in, numbers_in, numbers_of}
use Rattle.stated_history.specs.ToldStandings.{Standing, standing_step}
use Rattle.stated_history.specs.Transcript.{Told}
use Rattle.transcript_fits.proofs.Rising.{rising_back, all_back, ends_rise, end_within, numbers_within}

-- a list is its first items, the one at a place and the others
split_at : (ts : List Told) (at : ℕ) (t : Told) → slice_get ts at ≡ Some t → ts ≡ take at ts ++ t ∷ drop (suc at) ts
split_at [] at t is = absurd (cc)
split_at (u ∷ ts) zero t is = let same : u ≡ t = cc in ap (λ x. x ∷ ts) same
split_at (u ∷ ts) (suc at) t is = ap (λ xs. u ∷ xs) (split_at ts at t is)

numbers_append : (xs ys : List Told) → numbers_of (xs ++ ys) ≡ numbers_of xs ++ numbers_of ys
numbers_append [] ys = refl
numbers_append (x ∷ xs) ys = ap (λ ns. numbers_in x.answer ++ ns) (numbers_append xs ys) ∙ sym (append_assoc (numbers_in x.answer) (numbers_of xs) (numbers_of ys))

-- the numbers that a line prints behind its new arrays, and those of the lines behind it
abbrev pub behind_opened : Told → List Told → List ℕ
behind_opened t more = (done_in t.answer ++ failed_in t.answer) ++ numbers_of more

numbers_split : (ts : List Told) (at : ℕ) (t : Told) → slice_get ts at ≡ Some t → numbers_of ts ≡ numbers_of (take at ts) ++ (opened_in t.answer ++ behind_opened t (drop (suc at) ts))
numbers_split ts at t is =
    ap numbers_of (split_at ts at t is) ∙ numbers_append (take at ts) (t ∷ drop (suc at) ts)
    ∙ ap (λ ns. numbers_of (take at ts) ++ ns) (append_assoc (opened_in t.answer) (done_in t.answer ++ failed_in t.answer) (numbers_of (drop (suc at) ts)))

got_next : (ts : List Told) (at : ℕ) (u : Told) → slice_get ts (suc at) ≡ Some u → slice_get (drop (suc at) ts) 0 ≡ Some u
got_next [] at u is = is
got_next (x ∷ []) at u is = absurd (cc)
got_next (x ∷ y ∷ ts) zero u is = is
got_next (x ∷ y ∷ ts) (suc at) u is = got_next (y ∷ ts) at u is

drop_next : (ts : List Told) (at : ℕ) (u : Told) → slice_get ts (suc at) ≡ Some u → drop (suc at) ts ≡ u ∷ drop (suc (suc at)) ts
drop_next [] at u is = absurd (cc)
drop_next (x ∷ []) at u is = absurd (cc)
drop_next (x ∷ y ∷ ts) zero u is = let same : y ≡ u = cc in ap (λ z. z ∷ ts) same
drop_next (x ∷ y ∷ ts) (suc at) u is = drop_next (y ∷ ts) at u is

module _ (total : ℕ) (ts : List Told) (low : AllByRecursion (λ n. n ≤ total) (numbers_of ts)) (rising : AreRising (numbers_of ts)) (at : ℕ) (t : Told) (there : slice_get ts at ≡ Some t) where
  own_low : AllByRecursion (λ n. n ≤ total) (opened_in t.answer ++ behind_opened t (drop (suc at) ts))
  own_low = all_back (λ n. n ≤ total) (numbers_of (take at ts)) _ (subst (AllByRecursion (λ n. n ≤ total)) (numbers_split ts at t there) low)

  own_rising : AreRising (opened_in t.answer ++ behind_opened t (drop (suc at) ts))
  own_rising = rising_back (numbers_of (take at ts)) _ (subst AreRising (numbers_split ts at t there) rising)

  -- a window ends within the history
  pub window_low : before_first total (behind_opened t (drop (suc at) ts)) ≤ total
  window_low = end_within total (behind_opened t (drop (suc at) ts)) (all_back (λ n. n ≤ total) (opened_in t.answer) _ own_low)

  -- what a line opens lies in its window
  pub opened_low : AllByRecursion (λ n. n ≤ before_first total (behind_opened t (drop (suc at) ts))) (opened_in t.answer)
  opened_low = numbers_within total (opened_in t.answer) (behind_opened t (drop (suc at) ts)) own_low own_rising

  -- and the next line's window ends no earlier
  pub window_later : (u : Told) → slice_get ts (suc at) ≡ Some u → before_first total (behind_opened t (drop (suc at) ts)) ≤ before_first total (behind_opened u (drop (suc (suc at)) ts))
  window_later u next =
      let first = done_in t.answer ++ failed_in t.answer in
      let last = behind_opened u (drop (suc (suc at)) ts) in
      let parts : behind_opened t (drop (suc at) ts) ≡ (first ++ opened_in u.answer) ++ last =
      ap (λ more. first ++ numbers_of more) (drop_next ts at u next)
      ∙ ap (λ ns. first ++ ns) (append_assoc (opened_in u.answer) (done_in u.answer ++ failed_in u.answer) (numbers_of (drop (suc (suc at)) ts))) ∙ sym (append_assoc first (opened_in u.answer) last) in
      let one = subst (AllByRecursion (λ n. n ≤ total)) parts (all_back (λ n. n ≤ total) (opened_in t.answer) _ own_low) in
      let two = subst AreRising parts (rising_back (opened_in t.answer) _ own_rising) in
      subst (λ ns. before_first total ns ≤ before_first total last) (sym parts) (ends_rise total (first ++ opened_in u.answer) last one two)

-- numbers that lines print are those of events
events_low : (h : History) (os : List Numbered) → AllByRecursion (λ (o : Numbered). IsEvent h o.number o.event) os → AllByRecursion (λ n. n ≤ length h) (own.numbers_of os)
events_low h [] all = tt
events_low h (o ∷ os) all =
    let numbered = all.0.numbered in
    let long : length h ≡ length all.0.before + length (o.event ∷ all.0.later) = ap length all.0.parts ∙ length-append all.0.before (o.event ∷ all.0.later) in
    (omega (arith, numbered, long), events_low h os all.1)

all_with : (P : ℕ → Type 0) (xs ys : List ℕ) → AllByRecursion P xs → AllByRecursion P ys → AllByRecursion P (xs ++ ys)
all_with P [] ys one two = two
all_with P (x ∷ xs) ys one two = (one.0, all_with P xs ys one.1 two)

pub stated_low : (h : History) (s : Standing) (ts : List Told) → AreStated h s ts → AllByRecursion (λ n. n ≤ length h) (numbers_of ts)
stated_low h s [] are = tt
stated_low h s (t ∷ ts) are =
    all_with (λ n. n ≤ length h) (numbers_in t.answer) (numbers_of ts) (subst (AllByRecursion (λ n. n ≤ length h)) are.0.numbers (events_low h (stated h s t) are.0.events)) (stated_low h (standing_step h s t) ts are.1)
