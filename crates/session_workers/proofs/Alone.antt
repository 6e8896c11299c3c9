-- A run of one script alone: it is the single session, as far as it goes.
use Rattle.std.proofs.Common.{◌≡◌, ◌∙◌, ℕ, zero, suc, ◌+◌, ◌<◌, ◌≤◌, Bool, true, false, List, [], ◌∷◌, ◌++◌, length, drop, cond, Some, None, refl, sym, ap, subst, append_assoc, arith}
use Rattle.std.specs.Prelude.{fold, filter, filter_map, count_by}
use Rattle.std.specs.FinMap as finmap
use Rattle.std.specs.List.{AllByRecursion}
use Rattle.std.proofs.lemmas.List.{length-append}
use Rattle.std.proofs.lemmas.List.Sums.{length-filter, fold-append}
use Rattle.history.specs.declared.event.Event.{Event}
use Rattle.history.specs.declared.event.Kind.{Kind}
use Rattle.history.specs.declared.event.Kind.TheVariants.{Opened, Done, Resized, Fault}
use Rattle.history.specs.History.{History}
use Rattle.history.specs.Alone.{single_store, AreAlone, IsNoFault, IsOn}
use Rattle.history.specs.Answers.{Text, Answer}
use Rattle.history.specs.Bound.{IsWithin}
use Rattle.history.specs.Commit.{Fixed}
use Rattle.history.specs.Legal.{IsLegal}
use Rattle.history.specs.Own.{own_events, numbered}
use Rattle.history.specs.Sessions.{SessionState}
use Rattle.history.specs.Single.{Run, after_line, begun_run, single_session}
use Rattle.history.specs.Steps.{is_memory, IsSessionRun, no_line, blank_line, next_line, last_line}
use Rattle.history.proofs.Alone.{own_all, alone_drop}
use Rattle.history.proofs.AloneEnds.{AreFirst, run_begins_single}
use Rattle.history.proofs.AloneRuns.{run_is_single}
use Rattle.history.proofs.AloneWanting.{run_grows}
use Rattle.session_workers.specs.Alone.{IsBegunBy, IsAloneRun}
use Rattle.serial_runs.specs.Runs.{Script, IsLog}
use Rattle.state_laws.specs.Agreement.{fails, is_fault}

-- what fails is a fault
no_fault : (kind : Kind) → fails kind ≡ false → IsNoFault kind
no_fault (Opened info) is = tt
no_fault (Done line mode ops key) is = tt
no_fault (Resized a shape) is = tt
no_fault (Fault mount) is = absurd (let no_such : ⊥ = cc in no_such)

-- where none of the events is a fault, and each is of session 0, a session is alone
alone_by : (events : History) → length (filter is_fault events) ≡ 0 → AllByRecursion (λ (e : Event). e.owner < 1) events → AreAlone 0 events
alone_by [] none owned = tt
alone_by (e ∷ es) none owned = by (λ rest. alone_by es rest owned.1) (is_fault e) refl
  where
    by : (length (filter is_fault es) ≡ 0 → AreAlone 0 es) → (b : Bool) → is_fault e ≡ b → AreAlone 0 (e ∷ es)
    by later true is = let one : suc (length (filter is_fault es)) ≡ 0 = ap (λ c. length (cond c (e ∷ filter is_fault es) (filter is_fault es))) (sym is) ∙ none in absurd (omega (arith, one))
    by later false is =
        let rest : length (filter is_fault es) ≡ 0 = ap (λ c. length (cond c (e ∷ filter is_fault es) (filter is_fault es))) (sym is) ∙ none in
        let first = owned.0 in
        let zero_is : e.owner ≡ 0 = omega (arith, first) in
        ((zero_is, no_fault e.kind is), later rest)

pub alone_where : (events : History) → count_by is_fault events ≡ 0 → AllByRecursion (λ (e : Event). e.owner < 1) events → AreAlone 0 events
alone_where events none owned = alone_by events (length-filter is_fault events ∙ none) owned

-- a run has seen no more than there is
seen_within : {fixed : Fixed} {owner : ℕ} {events : History} {s last : SessionState} {line : ℕ} {lines : Script} {answers : List Answer} → s.seen ≤ length events → IsSessionRun fixed owner events s line lines answers last → last.seen ≤ length events
seen_within within no_line = within
seen_within within (blank_line rest) = seen_within within rest
seen_within within (next_line step goes_on rest) = seen_within step.within rest
seen_within within (last_line step) = step.within

-- where a session is alone and no event is its own, there is none
none_left : (events : History) (n : ℕ) → AreAlone 0 events → own_events 0 n events ≡ [] → events ≡ []
none_left [] n alone none = refl
none_left (e ∷ es) n alone none = let all : numbered n (e ∷ es) ≡ [] = sym (own_all 0 n (e ∷ es) alone) ∙ none in absurd (let no_such : ⊥ = cc in no_such)

dropped : {A : Type 0} (xs : List A) (n : ℕ) → drop n xs ≡ [] → length xs ≤ n
dropped [] n is = omega arith
dropped (x ∷ xs) zero is = absurd (let no_such : ⊥ = cc in no_such)
dropped (x ∷ xs) (suc n) is = let rest = dropped xs n is in omega (arith, rest)

front_of : {A : Type 0} (P : A → Type 0) (xs ys : List A) → AllByRecursion P (xs ++ ys) → AllByRecursion P xs
front_of P [] ys each = tt
front_of P (x ∷ xs) ys each = (each.0, front_of P xs ys each.1)

-- answers to lines that are no want of memory are as many as there are lines that aren't blank
all_answered : {fixed : Fixed} {owner : ℕ} {events : History} {s last : SessionState} {line : ℕ} {lines : Script} {answers : List Answer} → AllByRecursion (λ (a : Answer). is_memory a.body ≡ false) answers → IsSessionRun fixed owner events s line lines answers last
    → length answers ≡ length (filter_map (λ l. l) lines)
all_answered good no_line = refl
all_answered good (blank_line rest) = all_answered good rest
all_answered good (next_line step goes_on rest) = ap suc (all_answered good.1 rest)
all_answered good (last_line step) = absurd (let never = good.0 in cc)

map_parts : (xs ys : Script) → filter_map (λ l. l) (xs ++ ys) ≡ filter_map (λ l. l) xs ++ filter_map (λ l. l) ys
map_parts [] ys = refl
map_parts (None ∷ xs) ys = map_parts xs ys
map_parts (Some l ∷ xs) ys = ap (λ zs. l ∷ zs) (map_parts xs ys)

-- lines that are blank change nothing but the line's number
blank_lines : (fixed : Fixed) (owner : ℕ) (lines : Script) (r : Run) → length (filter_map (λ l. l) lines) ≡ 0 → (n : ℕ) × (fold (after_line fixed owner) r lines ≡ record r { line = n })
blank_lines fixed owner [] r none = (r.line, refl)
blank_lines fixed owner (None ∷ lines) r none = let rest = blank_lines fixed owner lines (record r { line = r.line + 1 }) none in (rest.0, rest.1)
blank_lines fixed owner (Some l ∷ lines) r none = absurd (omega (arith, none))

module _ (mount : Text) (history : History) (legal : IsLegal finmap.empty history) (alone : AreAlone 0 history) (script : Script) (on : AllByRecursion (IsOn mount) script) (within : AllByRecursion IsWithin script) (log : List Answer)
    (is : IsLog (single_store mount) history 0 script log) where
  on_ran : AllByRecursion (IsOn mount) is.ran
  on_ran = front_of (IsOn mount) is.ran is.left (subst (AllByRecursion (IsOn mount)) is.parts on)

  within_ran : AllByRecursion IsWithin is.ran
  within_ran = front_of IsWithin is.ran is.left (subst (AllByRecursion IsWithin) is.parts within)

  seen_all : is.last.seen ≡ length history
  seen_all =
      let none : drop is.last.seen history ≡ [] = none_left (drop is.last.seen history) (is.last.seen + 1) (alone_drop 0 is.last.seen history alone) is.no_more in
      let most = seen_within (omega arith) is.run in
      let least = dropped history is.last.seen none in
      omega (arith, most, least)

  -- the single session on all lines goes on from that on those which were run
  parts_of : single_session mount 0 script ≡ fold (after_line (single_store mount) 0) (single_session mount 0 is.ran) is.left
  parts_of = ap (single_session mount 0) is.parts ∙ fold-append (after_line (single_store mount) 0) begun_run is.ran is.left

  first_of_more : (front whole rest : List Answer) → whole ≡ front ++ rest → AreFirst log front → IsBegunBy log whole
  first_of_more front whole rest parts first = record {
    front = first.front;
    rest = first.rest ++ rest;
    parts = parts ∙ ap (λ xs. xs ++ rest) first.parts ∙ append_assoc first.front first.rest rest;
    ends = first.ends;
  }

  pub alone_begins : ((more : History) × ((single_session mount 0 script).session.events ≡ history ++ more)) × IsBegunBy log (single_session mount 0 script).answers
  alone_begins =
      let here = run_begins_single mount 0 history is.ran log is.last legal alone within_ran on_ran is.run seen_all in
      let on_from = run_grows (single_store mount) 0 is.left (single_session mount 0 is.ran) in (
        (here.0.0 ++ on_from.more, ap (λ (r : Run). r.session.events) parts_of ∙ on_from.events ∙ ap (λ es. es ++ on_from.more) here.0.1 ∙ append_assoc history here.0.0 on_from.more),
        first_of_more (single_session mount 0 is.ran).answers (single_session mount 0 script).answers on_from.rest (ap (λ (r : Run). r.answers) parts_of ∙ on_from.answers) here.1,
      )

  pub alone_whole : AllByRecursion (λ (a : Answer). is_memory a.body ≡ false) log → length log ≡ length (filter_map (λ l. l) script) → ((single_session mount 0 script).answers ≡ log) × ((single_session mount 0 script).session.events ≡ history)
  alone_whole good whole =
      let here = run_is_single mount 0 history is.ran log is.last legal alone within_ran on_ran good is.run seen_all in
      let counted : length log ≡ length (filter_map (λ l. l) is.ran) = all_answered good is.run in
      let sum : length (filter_map (λ l. l) script) ≡ length (filter_map (λ l. l) is.ran) + length (filter_map (λ l. l) is.left) =
      ap (λ s. length (filter_map (λ l. l) s)) is.parts ∙ ap length (map_parts is.ran is.left) ∙ length-append (filter_map (λ l. l) is.ran) (filter_map (λ l. l) is.left) in
      let none : length (filter_map (λ l. l) is.left) ≡ 0 = omega (arith, whole, counted, sum) in
      let rest = blank_lines (single_store mount) 0 is.left (single_session mount 0 is.ran) none in (
        ap (λ (r : Run). r.answers) (parts_of ∙ rest.1) ∙ here.0,
        ap (λ (r : Run). r.session.events) (parts_of ∙ rest.1) ∙ here.1,
      )

  -- so it is the single session's
  pub alone_run : IsAloneRun mount script history log
  alone_run = let begins = alone_begins in record { more = begins.0.0; events = begins.0.1; begun = begins.1; whole = alone_whole }
