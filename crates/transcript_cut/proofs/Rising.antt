-- Numbers that rise, session by session.
use Rattle.std.proofs.Common.{◌≡◌, ◌<◌, ◌≤◌, ◌≢◌, ℕ, zero, suc, List, [], ◌∷◌, ◌++◌, Bool, true, false, cond, Option, Some, None, length, set, get_or, get_or-set_same, get_or-set_other, refl, sym, ap, subst, ◌∙◌, arith, append_assoc, eqb-true, eq-eqb}
use Rattle.std.specs.Prelude.{◌↔◌, ◌==◌, filter}
use Rattle.std.specs.List.{AllByRecursion}
use Rattle.transcript_laws.specs.Transcript.{Told}
use Rattle.transcript_laws.specs.Numbers.{AreRising, single, numbers_in, numbers_of, told_of}
use Rattle.transcript_cut.specs.Numbers.{all_numbers}
use Rattle.transcript_cut.specs.Numbered.{said_numbers, session_numbers}
use Rattle.transcript_cut.specs.Risen.{GoOn, Stop, IsRise, IsRiseAt}
use Rattle.transcript_cut.specs.Said.{IsSaid, AreSaid}
use Rattle.transcript_cut.specs.declared.rise.Rise.{Rise}
use Rattle.transcript_cut.specs.declared.rise.Rise.TheVariants.{Up, Down}
use Rattle.transcript_cut.specs.declared.said.Said.{Said}

pub none_goes : (last : Option ℕ) → GoOn last [] last
none_goes last more = (λ is. is, λ is. is)

pub first_goes : (next : ℕ) → GoOn None (next ∷ []) (Some next)
first_goes next more = (λ is. is, λ is. is)

pub greater_goes : (before next : ℕ) → before < next → GoOn (Some before) (next ∷ []) (Some next)
greater_goes before next low more = (λ is. is.1, λ is. (low, is))

pub lesser_stops : (before next : ℕ) → next ≤ before → Stop (Some before) (next ∷ [])
lesser_stops before next low more is = let first : before < next = is.0 in omega (arith, low, first)

pub both_go : (one two three : Option ℕ) (ns ms : List ℕ) → GoOn one ns two → GoOn two ms three → GoOn one (ns ++ ms) three
both_go one two three ns ms is are more =
    let parts : (ns ++ ms) ++ more ≡ ns ++ (ms ++ more) = append_assoc ns ms more in
    let first = is (ms ++ more) in
    let second = are more in
    subst (λ xs. AreRising (single one ++ xs) ↔ AreRising (single three ++ more)) (sym parts) (λ r. second.0 (first.0 r), λ r. first.1 (second.1 r))

pub first_stops : (one : Option ℕ) (ns ms : List ℕ) → Stop one ns → Stop one (ns ++ ms)
first_stops one ns ms is more rises = is (ms ++ more) (subst (λ xs. AreRising (single one ++ xs)) (append_assoc ns ms more) rises)

pub second_stops : (one two : Option ℕ) (ns ms : List ℕ) → GoOn one ns two → Stop two ms → Stop one (ns ++ ms)
second_stops one two ns ms is are more rises = are more ((is (ms ++ more)).0 (subst (λ xs. AreRising (single one ++ xs)) (append_assoc ns ms more) rises))

-- numbers and others behind them
pub rises_both : (one two : Option ℕ) (ns ms : List ℕ) (r : Rise) → GoOn one ns two → IsRise two ms r → IsRise one (ns ++ ms) r
rises_both one two ns ms (Up three) is are = both_go one two three ns ms is are
rises_both one two ns ms Down is are = second_stops one two ns ms is are

-- first numbers were gone over: all go on as the rest does behind the last of them
pub record IsUpTo (first : Option ℕ) (numbers : List ℕ) (last : Option ℕ) (rest : List ℕ) : Type 0 where
  pub same : (more : List ℕ) → AreRising (single first ++ (numbers ++ more)) ↔ AreRising (single last ++ (rest ++ more))

pub up_first : (last : Option ℕ) (numbers : List ℕ) → IsUpTo last numbers last numbers
up_first last numbers = record { same = λ more. (λ is. is, λ is. is) }

pub up_more : (first last next : Option ℕ) (numbers rest left : List ℕ) (x : ℕ) → rest ≡ x ∷ left → IsUpTo first numbers last rest → GoOn last (x ∷ []) next → IsUpTo first numbers next left
up_more first last next numbers rest left x parts is goes = record {
  same = λ more. (
    λ r. (goes (left ++ more)).0 (subst (λ xs. AreRising (single last ++ (xs ++ more))) parts ((is.same more).0 r)),
    λ r. (is.same more).1 (subst (λ xs. AreRising (single last ++ (xs ++ more))) (sym parts) ((goes (left ++ more)).1 r)),
  );
}

pub up_stops : (first last : Option ℕ) (numbers rest left : List ℕ) (x : ℕ) → rest ≡ x ∷ left → IsUpTo first numbers last rest → Stop last (x ∷ []) → Stop first numbers
up_stops first last numbers rest left x parts is stops more rises = stops (left ++ more) (subst (λ xs. AreRising (single last ++ (xs ++ more))) parts ((is.same more).0 rises))

pub up_all : (first last : Option ℕ) (numbers rest : List ℕ) → rest ≡ [] → IsUpTo first numbers last rest → GoOn first numbers last
up_all first last numbers rest none is more = subst (λ xs. AreRising (single first ++ (numbers ++ more)) ↔ AreRising (single last ++ (xs ++ more))) none (is.same more)

pub single_rises : (o : Option ℕ) → AreRising (single o ++ [])
single_rises None = tt
single_rises (Some n) = tt

-- the numbers of a session, with one answer more at the front
own_front : (session : ℕ) (x : Said) (rest : List Said) → (x.line.session == session) ≡ true → session_numbers session (x ∷ rest) ≡ all_numbers x.numbers ++ session_numbers session rest
own_front session x rest own =
    ap (λ b. said_numbers (cond b (x ∷ filter (λ (s : Said). s.line.session == session) rest) (filter (λ (s : Said). s.line.session == session) rest))) own

others_front : (session : ℕ) (x : Said) (rest : List Said) → (x.line.session == session) ≡ false → session_numbers session (x ∷ rest) ≡ session_numbers session rest
others_front session x rest other =
    ap (λ b. said_numbers (cond b (x ∷ filter (λ (s : Said). s.line.session == session) rest) (filter (λ (s : Said). s.line.session == session) rest))) other

other_session : (a b : ℕ) → (a == b) ≡ false → b ≢ a
other_session a b is same = let both : (a == b) ≡ true = eq-eqb a b (sym same) in let no : true ≡ false = sym both ∙ is in cc

-- what is left of the answers rises, behind the last numbers of the sessions, exactly where all do
pub record AreRisingBy (last : List (Option ℕ)) (said rest : List Said) : Type 0 where
  pub each : (session : ℕ) → AreRising (session_numbers session said) ↔ AreRising (single (get_or last session None) ++ session_numbers session rest)

pub rising_first : (last : List (Option ℕ)) (said : List Said) → ((k : ℕ) → get_or last k None ≡ None) → AreRisingBy last said said
rising_first last said none = record { each = λ session. subst (λ o. AreRising (session_numbers session said) ↔ AreRising (single o ++ session_numbers session said)) (sym (none session)) (λ is. is, λ is. is) }

pub rising_last : (last : List (Option ℕ)) (said rest : List Said) → rest ≡ [] → AreRisingBy last said rest → (session : ℕ) → AreRising (session_numbers session said)
rising_last last said rest none is session = (is.each session).1 (subst (λ r. AreRising (single (get_or last session None) ++ session_numbers session r)) (sym none) (single_rises (get_or last session None)))

module _ (last : List (Option ℕ)) (said rest left : List Said) (x : Said) (is : AreRisingBy last said rest) (parts : rest ≡ x ∷ left) where
  abbrev at : ℕ
  at = x.line.session

  numbers_own : session_numbers at rest ≡ all_numbers x.numbers ++ session_numbers at left
  numbers_own = ap (session_numbers at) parts ∙ own_front at x left (eq-eqb at at refl)

  -- where those of one answer go on rising
  pub rising_more : (next : Option ℕ) → at < length last → GoOn (get_or last at None) (all_numbers x.numbers) next → AreRisingBy (set last at next) said left
  rising_more next low goes = record { each = λ session. by session (x.line.session == session) refl }
    where
      by : (session : ℕ) (b : Bool) → (x.line.session == session) ≡ b → AreRising (session_numbers session said) ↔ AreRising (single (get_or (set last at next) session None) ++ session_numbers session left)
      by session true own =
          let same : session ≡ at = sym (eqb-true at session own) in
          let was = is.each session in
          let then_ = goes (session_numbers session left) in
          let front : single (get_or last session None) ++ session_numbers session rest ≡ single (get_or last at None) ++ (all_numbers x.numbers ++ session_numbers session left) =
          ap (λ k. single (get_or last k None) ++ session_numbers session rest) same
          ∙ ap (λ ns. single (get_or last at None) ++ ns) (ap (session_numbers session) parts ∙ own_front session x left own) in
          let now : get_or (set last at next) session None ≡ next = ap (λ k. get_or (set last at next) k None) same ∙ get_or-set_same last at next None low in (
            λ r. subst (λ o. AreRising (single o ++ session_numbers session left)) (sym now) (then_.0 (subst AreRising front (was.0 r))),
            λ r. was.1 (subst AreRising (sym front) (then_.1 (subst (λ o. AreRising (single o ++ session_numbers session left)) now r))),
          )
      by session false other =
          let was = is.each session in
          let apart : session ≢ at = other_session at session other in
          let now : get_or (set last at next) session None ≡ get_or last session None = get_or-set_other last at session next None apart in
          let numbers : session_numbers session rest ≡ session_numbers session left = ap (session_numbers session) parts ∙ others_front session x left other in (
            λ r. subst (λ o. AreRising (single o ++ session_numbers session left)) (sym now) (subst (λ ns. AreRising (single (get_or last session None) ++ ns)) numbers (was.0 r)),
            λ r. was.1 (subst (λ ns. AreRising (single (get_or last session None) ++ ns)) (sym numbers) (subst (λ o. AreRising (single o ++ session_numbers session left)) now r)),
          )

  -- where they don't
  pub rising_stops : Stop (get_or last at None) (all_numbers x.numbers) → (session : ℕ) × (¬ AreRising (session_numbers session said))
  rising_stops stops = (at, λ rises. stops (session_numbers at left) (subst (λ ns. AreRising (single (get_or last at None) ++ ns)) numbers_own ((is.each at).0 rises)))

  -- by what was found of one answer
  pub rising_at : (new : List (Option ℕ)) → at < length last → IsRiseAt last new at (all_numbers x.numbers) true → AreRisingBy new said left
  rising_at new low found = subst (λ l. AreRisingBy l said left) (sym found.2) (rising_more found.0 low found.1)

-- the session of each answer is below their count
pub session_within : (n : ℕ) (said : List Said) (i : ℕ) (x : Said) → AllByRecursion (λ (s : Said). s.line.session < n) said → i < length said → x ≡ get_or said i x → x.line.session < n
session_within n [] i x all low is = absurd (let no : ⊥ = omega (arith, low) in no)
session_within n (s ∷ said) zero x all low is = subst (λ (y : Said). y.line.session < n) (sym is) all.0
session_within n (s ∷ said) (suc i) x all low is = session_within n said i x all.1 (omega (arith, low)) is

-- what is said of the answers is told of them
pub same_numbers : (scripts : List (List ℕ)) (transcript : List ℕ) (said : List Said) (told : List Told) → AreSaid scripts transcript said told → numbers_of told ≡ said_numbers said
same_numbers scripts transcript [] [] are = refl
same_numbers scripts transcript [] (t ∷ told) are = absurd are
same_numbers scripts transcript (s ∷ said) [] are = absurd are
same_numbers scripts transcript (s ∷ said) (t ∷ told) are = ap (λ ns. ns ++ numbers_of told) (one_same s t are.0) ∙ ap (λ ns. all_numbers s.numbers ++ ns) (same_numbers scripts transcript said told are.1)
  where
    one_same : (s : Said) (t : Told) → IsSaid scripts transcript s t → numbers_in t.answer ≡ all_numbers s.numbers
    one_same s t is = let p = is.prints in cc

pub same_of_session : (scripts : List (List ℕ)) (transcript : List ℕ) (session : ℕ) (said : List Said) (told : List Told) → AreSaid scripts transcript said told → numbers_of (told_of session told) ≡ session_numbers session said
same_of_session scripts transcript session [] [] are = refl
same_of_session scripts transcript session [] (t ∷ told) are = absurd are
same_of_session scripts transcript session (s ∷ said) [] are = absurd are
same_of_session scripts transcript session (s ∷ said) (t ∷ told) are =
    by (s.line.session == session) (same_of_session scripts transcript session said told are.1) (one_same s t are.0)
    (ap (λ k. k == session) (are.0).session)
  where
    one_same : (s : Said) (t : Told) → IsSaid scripts transcript s t → numbers_in t.answer ≡ all_numbers s.numbers
    one_same s t is = let p = is.prints in cc

    by : (b : Bool) → numbers_of (told_of session told) ≡ session_numbers session said → numbers_in t.answer ≡ all_numbers s.numbers → (t.session == session) ≡ b
        → numbers_of (cond (t.session == session) (t ∷ told_of session told) (told_of session told)) ≡ said_numbers (cond b (s ∷ filter (λ (x : Said). x.line.session == session) said) (filter (λ (x : Said). x.line.session == session) said))
    by true rest first own =
        ap (λ b. numbers_of (cond b (t ∷ told_of session told) (told_of session told))) own ∙ ap (λ ns. ns ++ numbers_of (told_of session told)) first ∙ ap (λ ns. all_numbers s.numbers ++ ns) rest
    by false rest first other = ap (λ b. numbers_of (cond b (t ∷ told_of session told) (told_of session told))) other ∙ rest
