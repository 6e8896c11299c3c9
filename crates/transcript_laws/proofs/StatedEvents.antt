-- Each event of a history is one that some line states.
use Rattle.std.proofs.Common.{◌≡◌, ℕ, ◌+◌, ◌<◌, ◌≤◌, zero, suc, List, [], ◌∷◌, take, take_all, length, Option, Some, None, Ok, Err, inl, inr, sym, subst, arith}
use Rattle.std.specs.Prelude.{filter_map, option_map}
use Rattle.std.specs.List.{AllByRecursion, cons_option}
use Rattle.serde_json.specs.Data.{Data}
use Rattle.history.specs.declared.array.ArrayInfo.{ArrayInfo}
use Rattle.history.specs.declared.event.Event.{Event}
use Rattle.history.specs.declared.event.Kind.{Kind}
use Rattle.history.specs.declared.event.Kind.TheVariants.{Opened, Done, Fault}
use Rattle.history.specs.declared.event.Op.TheVariants.{Write}
use Rattle.history.specs.Acts.{Act, Asked, opens, binds, reads, stages, writes, begins, commits, aborts, resizes, resolves}
use Rattle.history.specs.Answers.{Text}
use Rattle.history.specs.Commit.{Transaction, kept_ops}
use Rattle.history.specs.History.{History}
use Rattle.history.specs.Lines.{SpecLeaf}
use Rattle.history.specs.OpenRows.{next_array}
use Rattle.history.specs.Own as own
use Rattle.history.specs.Own.{Numbered, opened_event}
use Rattle.history.specs.Sessions.{plain_mode}
use Rattle.history.specs.Steps.{write_alone}
use Rattle.history.proofs.Transactions.{all_with}
use Rattle.serial_runs.specs.Numbered.{IsEvent}
use Rattle.transcript_laws.specs.Transcript.{mount, Told}
use Rattle.transcript_laws.specs.Numbers.{opened_in, done_in, failed_in, numbers_in, numbers_of, told_of, AreNumbered}
use Rattle.transcript_laws.specs.Claimed.{opening_of, at_number, stated_by, stated_asked, stated, faults_at, commits_at, AreStated}
use Rattle.transcript_laws.specs.Standings.{Standing, first_standing, act_at, standing_step}
use Rattle.transcript_laws.specs.Takings.{before, Taking, taking, takings, opened_info}
use Rattle.transcript_laws.proofs.OneHistory.{IsIn, is_in, in_either, AreEvents, session_of, grows}
use Rattle.transcript_laws.proofs.Places.{IsUnresized, AreUnresized}

-- so are the kinds of some events
abbrev pub AreKinds : (Kind → Type 0) → List Numbered → Type 0
AreKinds Q os = AllByRecursion (λ (o : Numbered). Q o.event.kind) os

-- what an act commits is so
abbrev pub CommitsSo : (Kind → Type 0) → ℕ → Act → Type 0
CommitsSo Q line (opens name leaves build) = Unit {0}
CommitsSo Q line (binds name view) = Unit {0}
CommitsSo Q line (reads view down) = Unit {0}
CommitsSo Q line (stages t view words) = Unit {0}
CommitsSo Q line (writes view words) = Q (Done line plain_mode (Write view words ∷ []) None)
CommitsSo Q line (begins mode) = Unit {0}
CommitsSo Q line (commits t) = Q (Done t.line t.mode (kept_ops t) None)
CommitsSo Q line aborts = Unit {0}
CommitsSo Q line (resizes array shape) = Unit {0}
CommitsSo Q line (resolves name view array) = Unit {0}

abbrev pub AsksSo : (Kind → Type 0) → ℕ → Asked → Type 0
AsksSo Q line (Ok act) = CommitsSo Q line act
AsksSo Q line (Err refusal) = Unit {0}

-- where openings and failed calls are so, it holds of what a line states whose commits are so
module _ (Q : Kind → Type 0) (opened : (info : ArrayInfo) → Q (Opened info)) (failed : (at : Text) → Q (Fault at)) (history : History) (owner : ℕ) where
  faults_so : (ns : List ℕ) → AreKinds Q (faults_at owner ns)
  faults_so [] = tt
  faults_so (n ∷ ns) = (failed mount, faults_so ns)

  commits_so : (t : Transaction) (ns : List ℕ) → Q (Done t.line t.mode (kept_ops t) None) → AreKinds Q (commits_at owner t ns)
  commits_so t [] is = tt
  commits_so t (n ∷ ns) is = (is, commits_so t ns is)

  info_so : (n : ℕ) (o : Option ArrayInfo) (os : List Numbered) → AreKinds Q os → AreKinds Q (cons_option (option_map (λ (info : ArrayInfo). at_number n (opened_event owner info)) o) os)
  info_so n None os are = are
  info_so n (Some info) os are = (opened info, are)

  leaf_so : (leaf : SpecLeaf) (number : Option ℕ) (os : List Numbered) → AreKinds Q os → AreKinds Q (cons_option (opening_of history owner (taking leaf number)) os)
  leaf_so leaf None os are = are
  leaf_so leaf (Some n) os are = info_so n (opened_info (next_array (before history n)) leaf) os are

  openings_so : (ts : List Taking) → AreKinds Q (filter_map (opening_of history owner) ts)
  openings_so [] = tt
  openings_so (t ∷ ts) = leaf_so t.leaf t.number (filter_map (opening_of history owner) ts) (openings_so ts)

  act_so : (line : ℕ) (act : Act) (answer : Data) → CommitsSo Q line act → AreKinds Q (stated_by history owner line act answer)
  act_so line (opens name leaves build) answer is =
      all_with (λ (o : Numbered). Q o.event.kind) (filter_map (opening_of history owner) (takings history leaves (opened_in answer))) (faults_at owner (failed_in answer)) (openings_so (takings history leaves (opened_in answer))) (faults_so (failed_in answer))
  act_so line (binds name view) answer is = tt
  act_so line (reads view down) answer is = faults_so (failed_in answer)
  act_so line (stages t view words) answer is = tt
  act_so line (writes view words) answer is =
      all_with (λ (o : Numbered). Q o.event.kind) (commits_at owner (write_alone line view words) (done_in answer)) (faults_at owner (failed_in answer)) (commits_so (write_alone line view words) (done_in answer) is) (faults_so (failed_in answer))
  act_so line (begins mode) answer is = tt
  act_so line (commits t) answer is =
      all_with (λ (o : Numbered). Q o.event.kind) (commits_at owner t (done_in answer)) (faults_at owner (failed_in answer)) (commits_so t (done_in answer) is) (faults_so (failed_in answer))
  act_so line aborts answer is = tt
  act_so line (resizes array shape) answer is = tt
  act_so line (resolves name view array) answer is = tt

  pub asked_so : (line : ℕ) (asked : Asked) (answer : Data) → AsksSo Q line asked → AreKinds Q (stated_asked history owner line asked answer)
  asked_so line (Ok act) answer is = act_so line act answer is
  asked_so line (Err refusal) answer is = tt

module _ (Q : Kind → Type 0) (history : History) where
  -- so are the events that lines state, one line after another
  abbrev pub StateSo : Standing → List Told → Type 0
  StateSo s [] = Unit {0}
  StateSo s (t ∷ told) = AreKinds Q (stated history s t) × StateSo (standing_step history s t) told

  -- the event of a number is so
  abbrev HasSo : ℕ → Type 0
  HasSo m = (e : Event) × IsEvent history m e × Q e.kind

  so_among : (os : List Numbered) (m : ℕ) → AreEvents history os → AreKinds Q os → IsIn m (own.numbers_of os) → HasSo m
  so_among [] m are so there = absurd there
  so_among (o ∷ os) m are so (inl at) = (o.event, subst (λ n. IsEvent history n o.event) at are.0, so.0)
  so_among (o ∷ os) m are so (inr later) = so_among os m are.1 so.1 later

  session_so : (told : List Told) (s : Standing) (m : ℕ) → AreStated history s told → StateSo s told → IsIn m (numbers_of told) → HasSo m
  session_so [] s m are so there = absurd there
  session_so (t ∷ told) s m are so there =
      elim (in_either (numbers_in t.answer) (numbers_of told) m there) [
        | inl here ↦ so_among (stated history s t) m are.0.events so.0 (subst (IsIn m) (sym are.0.numbers) here)
        | inr later ↦ session_so told (standing_step history s t) m are.1 so.1 later
      ]

  module _ (told : List Told) (numbered : AreNumbered told) (states : (session : ℕ) → AreStated history first_standing (told_of session told)) (count : length history ≡ length (numbers_of told)) (all : (session : ℕ) → StateSo first_standing (told_of session told)) where
    so_at : (n : ℕ) → n < length (numbers_of told) → HasSo (n + 1)
    so_at n low =
        let found = session_of told (n + 1) (is_in (numbers_of told) (n + 1) (numbered.each n low)) in
        session_so (told_of found.0 told) first_standing (n + 1) (states found.0) (all found.0) found.1

    front_so : (n : ℕ) → n ≤ length (numbers_of told) → AllByRecursion (λ (e : Event). Q e.kind) (take n history)
    front_so zero low = tt
    front_so (suc n) low =
        let next : n + 1 ≡ suc n = omega arith in
        let has = so_at n (omega (arith, low)) in
        subst (λ j. AllByRecursion (λ (e : Event). Q e.kind) (take j history)) next
        (subst (AllByRecursion (λ (e : Event). Q e.kind)) (sym (grows history n has.0 has.1)) (all_with (λ (e : Event). Q e.kind) (take n history) (has.0 ∷ []) (front_so n (omega (arith, low))) (has.2, tt)))

    -- so is each event of the history
    pub events_so : AllByRecursion (λ (e : Event). Q e.kind) history
    events_so = subst (AllByRecursion (λ (e : Event). Q e.kind)) (take_all (length (numbers_of told)) history (omega (arith, count))) (front_so (length (numbers_of told)) (omega arith))

-- no line states that an array gets another shape
act_still : (line : ℕ) (act : Act) → CommitsSo IsUnresized line act
act_still line (writes view words) = tt
act_still line (commits t) = tt
act_still line other = tt

asked_still : (line : ℕ) (asked : Asked) → AsksSo IsUnresized line asked
asked_still line (Ok act) = act_still line act
asked_still line (Err refusal) = tt

lines_still : (history : History) (told : List Told) (s : Standing) → StateSo IsUnresized history s told
lines_still history [] s = tt
lines_still history (t ∷ told) s = (
  asked_so IsUnresized (λ info. tt) (λ at. tt) history t.session t.number (act_at s t) t.answer (asked_still t.number (act_at s t)),
  lines_still history told (standing_step history s t),
)

-- so none does
pub stated_unresized : (told : List Told) (history : History) → AreNumbered told → ((session : ℕ) → AreStated history first_standing (told_of session told)) → length history ≡ length (numbers_of told) → AreUnresized history
stated_unresized told history numbered states count = events_so IsUnresized history told numbered states count (λ session. lines_still history (told_of session told) first_standing)
