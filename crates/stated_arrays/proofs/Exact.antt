-- Each number of an event is printed by one answer.
use Rattle.std.proofs.Common.{◌≡◌, ◌≢◌, ◌<◌, ◌≤◌, ℕ, ◌+◌, ◌-◌, ◌⊎◌, inl, inr, zero, suc, List, [], ◌∷◌, ◌++◌, Bool, true, false, cond, Some, length, length-append, refl, sym, ap, subst, ◌∙◌, arith, eqb-true, eq-eqb}
use Rattle.std.specs.Prelude.{◌==◌, Contains, filter}
use Rattle.std.specs.List.{slice_get}
use Rattle.cells.proofs.Laws.{equal_or_not}
use Rattle.transcript_cut.specs.ToldNumbers.{AreRising, AreNumbered, numbers_of}
use Rattle.transcript_cut.specs.Transcript.{Told}
use Rattle.transcript_cut.specs.Numbers.{all_numbers}
use Rattle.transcript_cut.specs.Numbered.{said_numbers, session_numbers, IsEventTable}
use Rattle.transcript_cut.specs.Said.{AreSaid}
use Rattle.transcript_cut.specs.declared.said.Said.{Said}
use Rattle.transcript_cut.proofs.Rising.{same_numbers, same_of_session}
use Rattle.stated_arrays.specs.Stating.{IsIn, IsExactTable}
use Rattle.stated_arrays.proofs.StepLaws.{in_front, in_back, in_either, in_printed, rising_front, rising_back, got}

-- a number that a list contains is among it
pub among : (ns : List ℕ) (m : ℕ) → Contains ns m → IsIn m ns
among [] m (j, low, is) = let no : ⊥ = omega (arith, low) in absurd no
among (n ∷ ns) m (zero, low, is) = inl is
among (n ∷ ns) m (suc j, low, is) = inr (among ns m (j, omega (arith, low), is))

-- sums
parted_sum : (a b c d : ℕ) → d ≡ b + c → a + d ≡ (a + b) + c
parted_sum a b c d is = omega (arith, is)

left_counts : (a b : ℕ) → a ≡ 1 → 1 ≤ a + b
left_counts a b is = omega (arith, is)

right_counts : (a b : ℕ) → 1 ≤ b → 1 ≤ a + b
right_counts a b is = omega (arith, is)

none_counts : (a b : ℕ) → a ≡ 0 → b ≡ 0 → a + b ≡ 0
none_counts a b is are = omega (arith, is, are)

one_there : (t f c b r : ℕ) → t ≡ f + (c + b) → r ≡ f + b → c ≡ 1 → r ≡ 0 → t ≤ 1
one_there t f c b r all parts one none = omega (arith, all, parts, one, none)

few_there : (t f c b r : ℕ) → t ≡ f + (c + b) → r ≡ f + b → c ≡ 0 → r ≤ 1 → t ≤ 1
few_there t f c b r all parts none few = omega (arith, all, parts, none, few)

twice : (t a b : ℕ) → t ≡ a + b → 1 ≤ a → 1 ≤ b → t ≤ 1 → ⊥
twice t a b both one other few = omega (arith, both, one, other, few)

few_behind : (t a b : ℕ) → t ≡ a + b → t ≤ 1 → b ≤ 1
few_behind t a b both few = omega (arith, both, few)

none_more : (b : ℕ) → b ≡ 0 + b
none_more b = omega arith

-- how often a number stands in a list
abbrev times : ℕ → List ℕ → ℕ
times m [] = 0
times m (n ∷ ns) = cond (n == m) 1 0 + times m ns

times_append : (m : ℕ) (ns ms : List ℕ) → times m (ns ++ ms) ≡ times m ns + times m ms
times_append m [] ms = none_more (times m ms)
times_append m (n ∷ ns) ms = parted_sum (cond (n == m) 1 0) (times m ns) (times m ms) (times m (ns ++ ms)) (times_append m ns ms)

times_in : (m : ℕ) (ns : List ℕ) → IsIn m ns → 1 ≤ times m ns
times_in m [] there = absurd there
times_in m (n ∷ ns) (inl same) = left_counts (cond (n == m) 1 0) (times m ns) (ap (λ b. cond {A = ℕ} b 1 0) (eq-eqb n m same))
times_in m (n ∷ ns) (inr later) = right_counts (cond (n == m) 1 0) (times m ns) (times_in m ns later)

other_test : (n m : ℕ) → n ≢ m → (n == m) ≡ false
other_test n m other = by (n == m) refl
  where
    by : (b : Bool) → (n == m) ≡ b → (n == m) ≡ false
    by true is = absurd (other (eqb-true n m is))
    by false is = is

times_none : (m : ℕ) (ns : List ℕ) → (IsIn m ns → ⊥) → times m ns ≡ 0
times_none m [] none = refl
times_none m (n ∷ ns) none =
    none_counts (cond (n == m) 1 0) (times m ns) (ap (λ b. cond {A = ℕ} b 1 0) (other_test n m (λ same. none (inl same)))) (times_none m ns (λ there. none (inr there)))

-- a list with one of its numbers taken out
record IsParted (m : ℕ) (ns : List ℕ) : Type 0 where
  pub front : List ℕ
  pub back : List ℕ
  pub parts : ns ≡ front ++ m ∷ back

parted : (m : ℕ) (ns : List ℕ) → IsIn m ns → IsParted m ns
parted m [] there = absurd there
parted m (n ∷ ns) (inl same) = record { front = []; back = ns; parts = ap (λ k. k ∷ ns) same }
parted m (n ∷ ns) (inr later) = let p = parted m ns later in record { front = n ∷ p.front; back = p.back; parts = ap (λ ks. n ∷ ks) p.parts }

-- each stands once, from 1 on, where all up to their count do
pub record AreOnce (ns : List ℕ) (count : ℕ) : Type 0 where
  pub once : (m : ℕ) → times m ns ≤ 1
  pub within : (m : ℕ) → IsIn m ns → (1 ≤ m) × (m ≤ count)

pub all_once : (count : ℕ) (ns : List ℕ) → length ns ≡ count → ((n : ℕ) → n < count → IsIn (n + 1) ns) → AreOnce ns count
all_once zero [] size each = record { once = λ m. omega arith; within = λ m there. absurd there }
all_once zero (n ∷ ns) size each = let no : ⊥ = omega (arith, size) in absurd no
all_once (suc count) ns size each =
    let low : count < suc count = omega arith in
    let p = parted (count + 1) ns (each count low) in
    let rest = p.front ++ p.back in
    let whole : length ns ≡ length p.front + suc (length p.back) = ap length p.parts ∙ length-append p.front ((count + 1) ∷ p.back) in
    let both : length rest ≡ length p.front + length p.back = length-append p.front p.back in
    let less : length rest ≡ count = omega (arith, whole, both, size) in
    let old = all_once count rest less (λ n lower. in_rest n lower p (subst (IsIn (n + 1)) p.parts (each n (omega (arith, lower))))) in
    record {
      once = λ m.
          let all : times m ns ≡ times m p.front + (cond {A = ℕ} ((count + 1) == m) 1 0 + times m p.back) = ap (times m) p.parts ∙ times_append m p.front ((count + 1) ∷ p.back) in
          let parts : times m rest ≡ times m p.front + times m p.back = times_append m p.front p.back in
          elim (equal_or_not (count + 1) m) [
            | inl same ↦
                let one : cond {A = ℕ} ((count + 1) == m) 1 0 ≡ 1 = ap (λ b. cond {A = ℕ} b 1 0) (eq-eqb (count + 1) m same) in
                let none : times m rest ≡ 0 = times_none m rest (λ there. let high = (old.within m there).1 in let no : ⊥ = omega (arith, high, same) in no) in
                one_there (times m ns) (times m p.front) (cond ((count + 1) == m) 1 0) (times m p.back) (times m rest) all parts one none
            | inr other ↦
                let nothing : cond {A = ℕ} ((count + 1) == m) 1 0 ≡ 0 = ap (λ b. cond {A = ℕ} b 1 0) (other_test (count + 1) m other) in
                few_there (times m ns) (times m p.front) (cond ((count + 1) == m) 1 0) (times m p.back) (times m rest) all parts nothing (old.once m)
          ];
      within = λ m there. by_part m p old (in_either p.front ((count + 1) ∷ p.back) m (subst (IsIn m) p.parts there));
    }
  where
    in_rest : (n : ℕ) → n < count → (p : IsParted (count + 1) ns) → IsIn (n + 1) (p.front ++ (count + 1) ∷ p.back) → IsIn (n + 1) (p.front ++ p.back)
    in_rest n lower p there = elim (in_either p.front ((count + 1) ∷ p.back) (n + 1) there) [
      | inl early ↦ in_front p.front p.back (n + 1) early
      | inr (inl same) ↦ let no : ⊥ = omega (arith, lower, same) in absurd no
      | inr (inr late) ↦ in_back p.front p.back (n + 1) late
    ]

    more : (m : ℕ) → (1 ≤ m) × (m ≤ count) → (1 ≤ m) × (m ≤ suc count)
    more m is = (is.0, let high = is.1 in omega (arith, high))

    by_part : (m : ℕ) (p : IsParted (count + 1) ns) → AreOnce (p.front ++ p.back) count → IsIn m p.front ⊎ IsIn m ((count + 1) ∷ p.back) → (1 ≤ m) × (m ≤ suc count)
    by_part m p old (inl early) = more m (old.within m (in_front p.front p.back m early))
    by_part m p old (inr (inl same)) = (omega (arith, same), omega (arith, same))
    by_part m p old (inr (inr late)) = more m (old.within m (in_back p.front p.back m late))

-- an answer's numbers are among all
in_all : (said : List Said) (k m : ℕ) (s : Said) → slice_get said k ≡ Some s → IsIn m (all_numbers s.numbers) → IsIn m (said_numbers said)
in_all [] k m s at there = let no : ⊥ = cc in absurd no
in_all (x ∷ said) zero m s at there = let same : x ≡ s = cc in in_front (all_numbers x.numbers) (said_numbers said) m (subst (λ (y : Said). IsIn m (all_numbers y.numbers)) (sym same) there)
in_all (x ∷ said) (suc k) m s at there = in_back (all_numbers x.numbers) (said_numbers said) m (in_all said k m s at there)

-- two answers print a number that stands once: they are one
one_answer : (said : List Said) (k j m : ℕ) (s t : Said) → slice_get said k ≡ Some s → slice_get said j ≡ Some t → IsIn m (all_numbers s.numbers) → IsIn m (all_numbers t.numbers) → times m (said_numbers said) ≤ 1 → k ≡ j
one_answer [] k j m s t at here one other few = let no : ⊥ = cc in absurd no
one_answer (x ∷ said) zero zero m s t at here one other few = refl
one_answer (x ∷ said) zero (suc j) m s t at here one other few =
    let same : x ≡ s = cc in
    let first = times_in m (all_numbers x.numbers) (subst (λ (y : Said). IsIn m (all_numbers y.numbers)) (sym same) one) in
    let second = times_in m (said_numbers said) (in_all said j m t here other) in
    let both : times m (said_numbers (x ∷ said)) ≡ times m (all_numbers x.numbers) + times m (said_numbers said) = times_append m (all_numbers x.numbers) (said_numbers said) in
    absurd (twice (times m (said_numbers (x ∷ said))) (times m (all_numbers x.numbers)) (times m (said_numbers said)) both first second few)
one_answer (x ∷ said) (suc k) zero m s t at here one other few =
    let same : x ≡ t = cc in
    let first = times_in m (all_numbers x.numbers) (subst (λ (y : Said). IsIn m (all_numbers y.numbers)) (sym same) other) in
    let second = times_in m (said_numbers said) (in_all said k m s at one) in
    let both : times m (said_numbers (x ∷ said)) ≡ times m (all_numbers x.numbers) + times m (said_numbers said) = times_append m (all_numbers x.numbers) (said_numbers said) in
    absurd (twice (times m (said_numbers (x ∷ said))) (times m (all_numbers x.numbers)) (times m (said_numbers said)) both first second few)
one_answer (x ∷ said) (suc k) (suc j) m s t at here one other few =
    let both : times m (said_numbers (x ∷ said)) ≡ times m (all_numbers x.numbers) + times m (said_numbers said) = times_append m (all_numbers x.numbers) (said_numbers said) in
    ap suc (one_answer said k j m s t at here one other (few_behind (times m (said_numbers (x ∷ said))) (times m (all_numbers x.numbers)) (times m (said_numbers said)) both few))

-- the numbers of an answer rise where those of its session do
rising_in : (said : List Said) (k : ℕ) (s : Said) → slice_get said k ≡ Some s → AreRising (session_numbers s.line.session said) → AreRising (all_numbers s.numbers)
rising_in [] k s at rising = let no : ⊥ = cc in absurd no
rising_in (x ∷ said) zero s at rising =
    let same : x ≡ s = cc in
    let own : (x.line.session == s.line.session) ≡ true = eq-eqb x.line.session s.line.session (ap (λ (y : Said). y.line.session) same) in
    let front : session_numbers s.line.session (x ∷ said) ≡ all_numbers x.numbers ++ session_numbers s.line.session said =
    ap (λ b. said_numbers (cond b (x ∷ filter (λ (y : Said). y.line.session == s.line.session) said) (filter (λ (y : Said). y.line.session == s.line.session) said))) own in
    subst (λ (y : Said). AreRising (all_numbers y.numbers)) same (rising_front (all_numbers x.numbers) (session_numbers s.line.session said) (subst AreRising front rising))
rising_in (x ∷ said) (suc k) s at rising = rising_in said k s at (by (x.line.session == s.line.session) rising)
  where
    by : (b : Bool) → AreRising (said_numbers (cond b (x ∷ filter (λ (y : Said). y.line.session == s.line.session) said) (filter (λ (y : Said). y.line.session == s.line.session) said))) → AreRising (session_numbers s.line.session said)
    by true is = rising_back (all_numbers x.numbers) (session_numbers s.line.session said) is
    by false is = is

-- the table of a transcript's events is exact
pub exact_table : (scripts : List (List ℕ)) (transcript : List ℕ) (said : List Said) (told : List Told) (spots : List ℕ) → AreSaid scripts transcript said told → AreNumbered told → IsEventTable said spots → IsExactTable said spots
exact_table scripts transcript said told spots are numbered table =
    let same : numbers_of told ≡ said_numbers said = same_numbers scripts transcript said told are in
    let once = all_once (length (said_numbers said)) (said_numbers said) refl
    (λ n low. among (said_numbers said) (n + 1) (subst (λ ns. Contains ns (n + 1)) same (numbered.each n (subst (λ ns. n < length ns) (sym same) low)))) in
    record {
      count = table.count;
      each = table.each;
      only = λ k m s at there.
          let within = once.within m (in_all said k m s at there) in
          let size = table.count in
          let first = within.0 in
          let last = within.1 in
          let back : m ≡ (m - 1) + 1 = omega (arith, first) in
          let low : m - 1 < length spots = omega (arith, first, last, size) in
          let spot = got spots (m - 1) low in
          let prints = table.each (m - 1) spot.0 spot.1 in
          let other : IsIn m (all_numbers prints.line.numbers) = subst (λ j. IsIn j (all_numbers prints.line.numbers)) (sym back) (in_printed (all_numbers prints.line.numbers) ((m - 1) + 1) prints.prints) in
          let one : spot.0 ≡ k = one_answer said spot.0 k m prints.line s prints.there at other there (once.once m) in
          (m - 1, back, spot.1 ∙ ap Some one);
      rising = λ k s at. rising_in said k s at (subst AreRising (same_of_session scripts transcript s.line.session said told are) (numbered.rising s.line.session));
    }
