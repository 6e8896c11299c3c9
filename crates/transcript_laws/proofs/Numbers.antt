-- The numbers that logs print are those of all events, each once.
use Rattle.std.proofs.Common.{◌≡◌, ℕ, zero, suc, ◌+◌, ◌<◌, ◌≤◌, ◌⊎◌, inl, inr, List, [], ◌∷◌, ◌++◌, length, Bool, true, false, cond, Some, None, refl, sym, ap, ap₂, subst, ◌∙◌, arith, append-nil, length-append, eq-eqb, eqb-true}
use Rattle.std.proofs.lemmas.Grind.{flat_map-append}
use Rattle.std.proofs.lemmas.List.Elements.{filter-append}
use Rattle.std.specs.Prelude.{◌==◌, Contains}
use Rattle.std.specs.List.{AllByRecursion}
use Rattle.history.specs.declared.event.Event.{Event}
use Rattle.history.specs.Answers.{Answer}
use Rattle.history.specs.History.{History}
use Rattle.history.specs.Own as own
use Rattle.history.specs.Own.{Numbered, own_events}
use Rattle.line_meanings.specs.Bodies.{answer_of}
use Rattle.answer_data.specs.Answers.{answer_data}
use Rattle.serial_runs.specs.Numbered as serial
use Rattle.serial_runs.specs.Runs.{Script}
use Rattle.transcript_laws.specs.Transcript.{Told}
use Rattle.transcript_laws.specs.Numbers.{numbers_in, numbers_of, told_of, AreRising, AreNumbered}
use Rattle.transcript_laws.specs.Outputs.{told_answer, told_log, told_logs}
use Rattle.transcript_laws.proofs.Apart.{IsApart}
use Rattle.transcript_laws.proofs.Bodies.{IsCounted, body_numbers}
use Rattle.transcript_laws.proofs.Runs.{AreAnswersTo}

swap : (opened done failed : List ℕ) → (done ≡ []) ⊎ (opened ≡ []) → opened ++ (done ++ failed) ≡ done ++ (opened ++ failed)
swap opened [] failed apart = refl
swap [] (d ∷ done) failed apart = refl
swap (o ∷ opened) (d ∷ done) failed (inl none) = absurd (cc)
swap (o ∷ opened) (d ∷ done) failed (inr none) = absurd (cc)

-- what holds of an answer so that its object has the numbers that it prints
pub record IsNumbered (a : Answer) : Type 0 where
  pub counted : IsCounted a.body
  pub apart : IsApart a.body

pub answer_numbers : (a : Answer) → IsNumbered a → numbers_in (answer_data (answer_of a)) ≡ serial.events_in a.body
answer_numbers a is =
    let b = body_numbers a.line a.body is.counted in
    ap₂ (λ x y. x ++ y) b.opened (ap₂ (λ x y. x ++ y) b.done b.failed) ∙ swap (serial.opened_in a.body) (serial.numbers_in a.body) (serial.failed_in a.body) is.apart.apart

-- what is told of a log has the numbers that the log prints
pub log_numbers : (session n : ℕ) (lines : Script) (log : List Answer) → AreAnswersTo n lines log → AllByRecursion IsNumbered log → numbers_of (told_log session n lines log) ≡ serial.told_by log
log_numbers session n [] [] are all = refl
log_numbers session n [] (a ∷ log) are all = absurd are
log_numbers session n (None ∷ lines) log are all = log_numbers session (n + 1) lines log are all
log_numbers session n (Some asked ∷ lines) [] are all = absurd are
log_numbers session n (Some asked ∷ lines) (a ∷ log) are all = ap₂ (λ x y. x ++ y) (answer_numbers a all.0) (log_numbers session (n + 1) lines log are.1 all.1)

-- what is told of a session's lines is told of no other's
same_session : (session n : ℕ) (lines : Script) (log : List Answer) → told_of session (told_log session n lines log) ≡ told_log session n lines log
same_session session n [] log = refl
same_session session n (None ∷ lines) log = same_session session (n + 1) lines log
same_session session n (Some asked ∷ lines) [] = refl
same_session session n (Some asked ∷ lines) (a ∷ log) =
    ap (λ b. cond b (told_answer session n asked a ∷ told_of session (told_log session (n + 1) lines log)) (told_of session (told_log session (n + 1) lines log))) (eq-eqb session session refl)
    ∙ ap (λ ts. told_answer session n asked a ∷ ts) (same_session session (n + 1) lines log)

other_session : (k session n : ℕ) (lines : Script) (log : List Answer) → (session == k) ≡ false → told_of k (told_log session n lines log) ≡ []
other_session k session n [] log other = refl
other_session k session n (None ∷ lines) log other = other_session k session (n + 1) lines log other
other_session k session n (Some asked ∷ lines) [] other = refl
other_session k session n (Some asked ∷ lines) (a ∷ log) other =
    ap (λ b. cond b (told_answer session n asked a ∷ told_of k (told_log session (n + 1) lines log)) (told_of k (told_log session (n + 1) lines log))) other
    ∙ other_session k session (n + 1) lines log other

not_equal : (a b : ℕ) → (c : Bool) → (a == b) ≡ c → (a ≡ b → ⊥) → c ≡ false
not_equal a b true is other = absurd (other (eqb-true a b is))
not_equal a b false is other = refl

apart_of : (a b : ℕ) → (a ≡ b → ⊥) → (a == b) ≡ false
apart_of a b other = not_equal a b (a == b) refl other

told_append : (k : ℕ) (told more : List Told) → told_of k (told ++ more) ≡ told_of k told ++ told_of k more
told_append k told more = filter-append (λ (t : Told). t.session == k) told more

-- nor of an earlier one
none_earlier : (k session : ℕ) (scripts : List Script) (logs : List (List Answer)) → k < session → told_of k (told_logs session scripts logs) ≡ []
none_earlier k session [] logs low = refl
none_earlier k session (script ∷ scripts) [] low = refl
none_earlier k session (script ∷ scripts) (log ∷ logs) low =
    told_append k (told_log session 1 script log) (told_logs (session + 1) scripts logs)
    ∙ ap₂ (λ x y. x ++ y) (other_session k session 1 script log (apart_of session k (λ same. omega (arith, same, low)))) (none_earlier k (session + 1) scripts logs (omega (arith, low)))

-- what holds of what is told of each session's log, the first session being this one
abbrev pub AreAll : (ℕ → List Told → Type 0) → ℕ → List Script → List (List Answer) → Type 0
AreAll P session [] [] = Unit {0}
AreAll P session [] (log ∷ logs) = ⊥
AreAll P session (script ∷ scripts) [] = ⊥
AreAll P session (script ∷ scripts) (log ∷ logs) = P session (told_log session 1 script log) × AreAll P (session + 1) scripts logs

map_all : (P Q : ℕ → List Told → Type 0) → ((k : ℕ) (told : List Told) → P k told → Q k told) → (session : ℕ) (scripts : List Script) (logs : List (List Answer)) → AreAll P session scripts logs → AreAll Q session scripts logs
map_all P Q f session [] [] all = tt
map_all P Q f session [] (log ∷ logs) all = absurd all
map_all P Q f session (script ∷ scripts) [] all = absurd all
map_all P Q f session (script ∷ scripts) (log ∷ logs) all = (f session (told_log session 1 script log) all.0, map_all P Q f (session + 1) scripts logs all.1)

-- so it holds of what is told of a session's lines
pub of_session : (P : ℕ → List Told → Type 0) → ((k : ℕ) → P k []) → (k session : ℕ) (scripts : List Script) (logs : List (List Answer)) → AreAll P session scripts logs → P k (told_of k (told_logs session scripts logs))
of_session P none k session [] [] all = none k
of_session P none k session [] (log ∷ logs) all = absurd all
of_session P none k session (script ∷ scripts) [] all = absurd all
of_session P none k session (script ∷ scripts) (log ∷ logs) all = by_session (session == k) refl (of_session P none k (session + 1) scripts logs all.1)
  where
    by_session : (b : Bool) → (session == k) ≡ b → P k (told_of k (told_logs (session + 1) scripts logs)) → P k (told_of k (told_log session 1 script log ++ told_logs (session + 1) scripts logs))
    by_session true is more =
        let same : session ≡ k = eqb-true session k is in
        let mine : told_of k (told_log session 1 script log) ≡ told_log session 1 script log = subst (λ j. told_of j (told_log session 1 script log) ≡ told_log session 1 script log) same (same_session session 1 script log) in
        let whole : told_of k (told_log session 1 script log ++ told_logs (session + 1) scripts logs) ≡ told_log session 1 script log =
        told_append k (told_log session 1 script log) (told_logs (session + 1) scripts logs)
        ∙ ap₂ (λ x y. x ++ y) mine (none_earlier k (session + 1) scripts logs (omega (arith, same)))
        ∙ append-nil (told_log session 1 script log) in
        subst (P k) (sym whole) (subst (λ j. P j (told_log session 1 script log)) same all.0)
    by_session false is more =
        let rest : told_of k (told_log session 1 script log ++ told_logs (session + 1) scripts logs) ≡ told_of k (told_logs (session + 1) scripts logs) =
        told_append k (told_log session 1 script log) (told_logs (session + 1) scripts logs) ∙ ap (λ x. x ++ told_of k (told_logs (session + 1) scripts logs)) (other_session k session 1 script log is) in
        subst (P k) (sym rest) more

-- a session tells the numbers of its events
abbrev pub IsOwnNumbers : History → ℕ → List Told → Type 0
IsOwnNumbers history k told = numbers_of told ≡ own.numbers_of (own_events k 1 history)

-- so do all sessions, the first being this one
abbrev pub AreOwnNumbers : History → ℕ → List Script → List (List Answer) → Type 0
AreOwnNumbers history = AreAll (IsOwnNumbers history)

abbrev Of : History → ℕ → List Told → Type 0
Of history k told = (numbers_of told ≡ []) ⊎ IsOwnNumbers history k told

session_numbers : (history : History) (k session : ℕ) (scripts : List Script) (logs : List (List Answer)) → AreOwnNumbers history session scripts logs → Of history k (told_of k (told_logs session scripts logs))
session_numbers history k session scripts logs are = of_session (Of history) (λ j. inl refl) k session scripts logs (map_all (IsOwnNumbers history) (Of history) (λ j told is. inr is) session scripts logs are)

-- numbers of a session's events rise
pub above : (low : ℕ) (owner n : ℕ) (h : History) → low < n → AllByRecursion (λ m. low < m) (own.numbers_of (own_events owner n h))
above low owner n [] less = tt
above low owner n (e ∷ h) less = first (e.owner == owner) (above low owner (n + 1) h (omega (arith, less)))
  where
    first : (b : Bool) → AllByRecursion (λ m. low < m) (own.numbers_of (own_events owner (n + 1) h)) → AllByRecursion (λ m. low < m) (own.numbers_of (cond b (record { number = n; event = e } ∷ own_events owner (n + 1) h) (own_events owner (n + 1) h)))
    first true more = (less, more)
    first false more = more

rising_cons : (n : ℕ) (ns : List ℕ) → AllByRecursion (λ m. n < m) ns → AreRising ns → AreRising (n ∷ ns)
rising_cons n [] all rising = tt
rising_cons n (m ∷ ns) all rising = (all.0, rising)

own_rising : (owner n : ℕ) (h : History) → AreRising (own.numbers_of (own_events owner n h))
own_rising owner n [] = tt
own_rising owner n (e ∷ h) = first (e.owner == owner) (own_rising owner (n + 1) h)
  where
    first : (b : Bool) → AreRising (own.numbers_of (own_events owner (n + 1) h)) → AreRising (own.numbers_of (cond b (record { number = n; event = e } ∷ own_events owner (n + 1) h) (own_events owner (n + 1) h)))
    first true more = rising_cons n (own.numbers_of (own_events owner (n + 1) h)) (above n owner (n + 1) h (omega arith)) more
    first false more = more

told_rising : (history : History) (k : ℕ) (told : List Told) → Of history k told → AreRising (numbers_of told)
told_rising history k told (inl none) = subst AreRising (sym none) tt
told_rising history k told (inr own_are) = subst AreRising (sym own_are) (own_rising k 1 history)

-- how many events sessions have
abbrev total : ℕ → ℕ → ℕ → History → ℕ
total session zero n h = 0
total session (suc count) n h = length (own.numbers_of (own_events session n h)) + total (session + 1) count n h

module _ (n : ℕ) (e : Event) (h : History) where
  own_hit : (b : Bool) (session : ℕ) → b ≡ true → length (own.numbers_of (cond b (record { number = n; event = e } ∷ own_events session (n + 1) h) (own_events session (n + 1) h))) ≡ 1 + length (own.numbers_of (own_events session (n + 1) h))
  own_hit true session is = omega arith
  own_hit false session is = absurd (cc)

  own_miss : (b : Bool) (session : ℕ) → b ≡ false → length (own.numbers_of (cond b (record { number = n; event = e } ∷ own_events session (n + 1) h) (own_events session (n + 1) h))) ≡ length (own.numbers_of (own_events session (n + 1) h))
  own_miss true session is = absurd (cc)
  own_miss false session is = refl

  miss : (count session : ℕ) → e.owner < session → total session count n (e ∷ h) ≡ total session count (n + 1) h
  miss zero session low = refl
  miss (suc count) session low =
      ap₂ (λ x y. x + y) (own_miss (e.owner == session) session (apart_of e.owner session (λ same. omega (arith, same, low)))) (miss count (session + 1) (omega (arith, low)))

  hit : (count session : ℕ) → session ≤ e.owner → e.owner < session + count → total session count n (e ∷ h) ≡ 1 + total session count (n + 1) h
  hit zero session low high = absurd (omega (arith, low, high))
  hit (suc count) session low high = by_owner (e.owner == session) refl (hit count (session + 1))
    where
      by_owner : (b : Bool) → (e.owner == session) ≡ b → (session + 1 ≤ e.owner → e.owner < session + 1 + count → total (session + 1) count n (e ∷ h) ≡ 1 + total (session + 1) count (n + 1) h)
          → total session (suc count) n (e ∷ h) ≡ 1 + total session (suc count) (n + 1) h
      by_owner true is more =
          let same : e.owner ≡ session = eqb-true e.owner session is in
          let first = own_hit (e.owner == session) session is in
          let rest = miss count (session + 1) (omega (arith, same)) in
          omega (arith, first, rest)
      by_owner false is more =
          let other : e.owner ≡ session → ⊥ = λ same. (let yes_is = eq-eqb e.owner session same in absurd (cc)) in
          let first = own_miss (e.owner == session) session is in
          let rest = more (omega (arith, low, other)) (omega (arith, high)) in
          omega (arith, first, rest)

total_all : (count n : ℕ) (h : History) → AllByRecursion (λ (e : Event). e.owner < count) h → total 0 count n h ≡ length h
total_all count n [] owned = none count 0
  where
    none : (c session : ℕ) → total session c n [] ≡ 0
    none zero session = refl
    none (suc c) session = let rest = none c (session + 1) in omega (arith, rest)
total_all count n (e ∷ h) owned =
    let first = hit n e h count 0 (omega arith) (omega (arith, owned.0)) in
    let rest = total_all count (n + 1) h owned.1 in
    omega (arith, first, rest)

numbers_total : (history : History) (session : ℕ) (scripts : List Script) (logs : List (List Answer)) → AreOwnNumbers history session scripts logs → length (numbers_of (told_logs session scripts logs)) ≡ total session (length scripts) 1 history
numbers_total history session [] [] are = refl
numbers_total history session [] (log ∷ logs) are = absurd are
numbers_total history session (script ∷ scripts) [] are = absurd are
numbers_total history session (script ∷ scripts) (log ∷ logs) are =
    let parts : length (numbers_of (told_log session 1 script log ++ told_logs (session + 1) scripts logs)) ≡ length (numbers_of (told_log session 1 script log)) + length (numbers_of (told_logs (session + 1) scripts logs)) =
    ap length (flat_map-append (λ (t : Told). numbers_in t.answer) (told_log session 1 script log) (told_logs (session + 1) scripts logs)) ∙ length-append (numbers_of (told_log session 1 script log)) (numbers_of (told_logs (session + 1) scripts logs)) in
    parts ∙ ap₂ (λ x y. x + y) (ap length are.0) (numbers_total history (session + 1) scripts logs are.1)

-- as many numbers are told as there are events
pub numbers_count : (history : History) (scripts : List Script) (logs : List (List Answer)) → AllByRecursion (λ (e : Event). e.owner < length scripts) history → AreOwnNumbers history 0 scripts logs
    → length history ≡ length (numbers_of (told_logs 0 scripts logs))
numbers_count history scripts logs owned are = sym (numbers_total history 0 scripts logs are ∙ total_all (length scripts) 1 history owned)

-- the number is among these
abbrev IsIn : ℕ → List ℕ → Type 0
IsIn m [] = ⊥
IsIn m (n ∷ ns) = (n ≡ m) ⊎ IsIn m ns

contains_of : (ns : List ℕ) (m : ℕ) → IsIn m ns → Contains ns m
contains_of [] m is = absurd is
contains_of (n ∷ ns) m (inl same) = (zero, omega arith, same)
contains_of (n ∷ ns) m (inr is) = let c = contains_of ns m is in (suc c.0, omega (arith, c.1), c.2)

in_front : (ns ms : List ℕ) (m : ℕ) → IsIn m ns → IsIn m (ns ++ ms)
in_front [] ms m is = absurd is
in_front (n ∷ ns) ms m (inl is) = inl is
in_front (n ∷ ns) ms m (inr is) = inr (in_front ns ms m is)

in_back : (ns ms : List ℕ) (m : ℕ) → IsIn m ms → IsIn m (ns ++ ms)
in_back [] ms m is = is
in_back (n ∷ ns) ms m is = inr (in_back ns ms m is)

-- an event's number is among those of its session
record IsOwned (n : ℕ) (h : History) (m : ℕ) (count : ℕ) : Type 0 where
  owner : ℕ
  low : owner < count
  there : IsIn m (own.numbers_of (own_events owner n h))

owned_at : (count n : ℕ) (h : History) (j : ℕ) → AllByRecursion (λ (e : Event). e.owner < count) h → j < length h → IsOwned n h (n + j) count
owned_at count n [] j owned low = absurd (omega (arith, low))
owned_at count n (e ∷ h) zero owned low = record { owner = e.owner; low = owned.0; there = first (e.owner == e.owner) (eq-eqb e.owner e.owner refl) }
  where
    first : (b : Bool) → b ≡ true → IsIn (n + zero) (own.numbers_of (cond b (record { number = n; event = e } ∷ own_events e.owner (n + 1) h) (own_events e.owner (n + 1) h)))
    first true is = inl (omega arith)
    first false is = absurd (cc)
owned_at count n (e ∷ h) (suc j) owned low =
    let rest = owned_at count (n + 1) h j owned.1 (omega (arith, low)) in
    let next : n + 1 + j ≡ n + suc j = omega arith in
    record { owner = rest.owner; low = rest.low; there = behind (e.owner == rest.owner) rest.owner (subst (λ m. IsIn m (own.numbers_of (own_events rest.owner (n + 1) h))) next rest.there) }
  where
    behind : (b : Bool) (owner : ℕ) → IsIn (n + suc j) (own.numbers_of (own_events owner (n + 1) h)) → IsIn (n + suc j) (own.numbers_of (cond b (record { number = n; event = e } ∷ own_events owner (n + 1) h) (own_events owner (n + 1) h)))
    behind true owner is = inr is
    behind false owner is = is

-- what a session's events have is told
told_there : (history : History) (m k session : ℕ) (scripts : List Script) (logs : List (List Answer)) → AreOwnNumbers history session scripts logs → session ≤ k → k < session + length scripts → IsIn m (own.numbers_of (own_events k 1 history))
    → IsIn m (numbers_of (told_logs session scripts logs))
told_there history m k session [] [] are low high there = absurd (omega (arith, low, high))
told_there history m k session [] (log ∷ logs) are low high there = absurd are
told_there history m k session (script ∷ scripts) [] are low high there = absurd are
told_there history m k session (script ∷ scripts) (log ∷ logs) are low high there =
    subst (IsIn m) (sym (flat_map-append (λ (t : Told). numbers_in t.answer) (told_log session 1 script log) (told_logs (session + 1) scripts logs)))
    (by_session (session == k) refl (λ one other. told_there history m k (session + 1) scripts logs are.1 one other there))
  where
    by_session : (b : Bool) → (session == k) ≡ b → (session + 1 ≤ k → k < session + 1 + length scripts → IsIn m (numbers_of (told_logs (session + 1) scripts logs))) → IsIn m (numbers_of (told_log session 1 script log) ++ numbers_of (told_logs (session + 1) scripts logs))
    by_session true is more =
        let same : session ≡ k = eqb-true session k is in
        in_front (numbers_of (told_log session 1 script log)) (numbers_of (told_logs (session + 1) scripts logs)) m
        (subst (IsIn m) (sym (are.0 ∙ ap (λ j. own.numbers_of (own_events j 1 history)) same)) there)
    by_session false is more =
        let other : session ≡ k → ⊥ = λ same. (let yes_is = eq-eqb session k same in absurd (cc)) in
        in_back (numbers_of (told_log session 1 script log)) (numbers_of (told_logs (session + 1) scripts logs)) m (more (omega (arith, low, other)) (omega (arith, high)))

-- part 2, where the numbers that sessions tell are those of their events
pub are_numbered : (history : History) (scripts : List Script) (logs : List (List Answer)) → AllByRecursion (λ (e : Event). e.owner < length scripts) history → AreOwnNumbers history 0 scripts logs → AreNumbered (told_logs 0 scripts logs)
are_numbered history scripts logs owned are = record {
  each = λ n low.
      let there = owned_at (length scripts) 1 history n owned (omega (arith, low, numbers_count history scripts logs owned are)) in
      let next : 1 + n ≡ n + 1 = omega arith in
      contains_of (numbers_of (told_logs 0 scripts logs)) (n + 1)
      (subst (λ m. IsIn m (numbers_of (told_logs 0 scripts logs))) next
      (told_there history (1 + n) there.owner 0 scripts logs are (omega arith) (omega (arith, there.low)) there.there));
  rising = λ k. told_rising history k (told_of k (told_logs 0 scripts logs)) (session_numbers history k 0 scripts logs are);
}
