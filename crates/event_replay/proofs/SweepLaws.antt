-- One event of a stated history after another.
use Rattle.std.proofs.Common.{◌≡◌, ◌∙◌, ◌<◌, ◌≤◌, inl, inr, ℕ, suc, ◌+◌, List, [], ◌∷◌, ◌++◌, length, take, drop, get_or, Bool, true, cond, Option, None, sym, ap, subst, arith, append_assoc}
use Rattle.std.specs.Prelude.{◌↔◌, count_by, IsTrue}
use Rattle.std.specs.FinMap as finmap
use Rattle.std.specs.List.{AllByRecursion}
use Rattle.std.proofs.lemmas.List.{length-take-le, take_more, take_all}
use Rattle.std.proofs.lemmas.List.Elements.{All-get_or, All-from_recursion}
use Rattle.cells.proofs.Laws.{less_or_not}
use Rattle.history.specs.declared.array.ArrayInfo.{ArrayInfo}
use Rattle.history.specs.declared.event.Event.{Event}
use Rattle.history.specs.declared.event.Kind.TheVariants.{Opened, Done}
use Rattle.history.specs.declared.event.Mode.{Mode}
use Rattle.history.specs.declared.event.Op.{Op}
use Rattle.history.specs.History.{History}
use Rattle.history.specs.Legal.{IsLegal, IsLegalKind, is_opening}
use Rattle.history.proofs.Laws.{legal_step, legal_more, IsLegal-front}
use Rattle.version_store.specs.Opened.{IsOpened}
use Rattle.version_store.specs.Stores.{IsStoreOf}
use Rattle.version_store.specs.declared.store.VersionStore.{VersionStore}
use Rattle.version_store.proofs.Laws.{store_begun, store_done}
use Rattle.version_store.proofs.Stores.{count_more}
use Rattle.event_replay.specs.Replays.{IsBehind}
use Rattle.event_replay.specs.Sweeps.{AreMetAt, AreMetBefore, IsMetIn, IsNext, IsNextDone, IsStated, IsStatedKind, IsSwept, IsWaitingIn}
use Rattle.event_replay.specs.declared.waiting.Waiting.{Waiting}
use Rattle.event_replay.proofs.Fronts.{event_here, front_at, opening_next, stated_next}

-- the event behind the first ones
pub next_at : (events : History) (n opened : ℕ) (e : Event) (s : VersionStore) → IsStated events → n < length events → e ≡ get_or events n e → IsLegal finmap.empty (take n events) → IsStoreOf (take n events) s
    → opened ≡ count_by is_opening (take n events) → IsNext events (take n events) opened (n + 1) e s
next_at events n opened e s stated low is legal kept count = record {
  front = front_at events n opened stated count;
  legal = legal;
  kept = kept;
  next = ap (λ m. m + 1) (sym (length-take-le n events (omega (arith, low))));
  rest = drop (n + 1) events;
  here = event_here events n e low is;
}

pub take_next : (events : History) (n : ℕ) (e : Event) → n < length events → e ≡ get_or events n e → take n events ++ e ∷ [] ≡ take (n + 1) events
take_next events n e low is = ap (λ (f : Event). take n events ++ f ∷ []) is ∙ sym (take_more events n e low)

-- how many arrays are open behind it
pub count_next : (events : History) (n opened more : ℕ) (e : Event) → n < length events → e ≡ get_or events n e → opened ≡ count_by is_opening (take n events) → more ≡ cond (is_opening e) 1 0 → opened + more ≡ count_by is_opening (take (n + 1) events)
count_next events n opened more e low is count one =
    (λ i. count i + one i) ∙ sym (count_more (take n events) e) ∙ ap (count_by is_opening) (take_next events n e low is)

-- where a history may have happened, so may each of its events
pub legal_next : (events before rest : History) (e : Event) → events ≡ before ++ e ∷ rest → IsLegal finmap.empty events → IsLegalKind finmap.empty before e.kind
legal_next events before rest e here legal =
    let split : events ≡ (before ++ e ∷ []) ++ rest = here ∙ sym (append_assoc before (e ∷ []) rest) in
    (legal_step finmap.empty before e (IsLegal-front finmap.empty (before ++ e ∷ []) rest (subst (IsLegal finmap.empty) split legal))).1

module _ (events before : History) (opened number : ℕ) (e : Event) (s : VersionStore) (next : IsNext events before opened number e s) where
  -- an opening
  pub opening_may : (info : ArrayInfo) → e.kind ≡ Opened info → IsLegalKind finmap.empty before e.kind
  opening_may info is = subst (IsLegalKind finmap.empty before) (sym is) (opening_next events before next.rest e info next.front.stated next.here is)

  pub opening_kept : (info : ArrayInfo) (t : VersionStore) → e.kind ≡ Opened info → IsOpened number info s t → IsStoreOf (before ++ e ∷ []) t
  opening_kept info t is opens = opens before e (legal_more finmap.empty before e next.legal (opening_may info is)) is next.next next.kept

  -- a commit
  pub done_next : (line : ℕ) (mode : Mode) (ops : List Op) (key : Option (List ℕ)) → e.kind ≡ Done line mode ops key → IsNextDone events before opened number ops s × (key ≡ None)
  done_next line mode ops key is =
      let stated : IsStatedKind events (Done line mode ops key) = subst (IsStatedKind events) is (stated_next events before next.rest e next.front.stated next.here) in
      (record { front = next.front; each = stated.1; behind = record { legal = next.legal; next = next.next; kept = store_begun before s next.kept } }, stated.0)

  pub done_kept : (line : ℕ) (mode : Mode) (ops : List Op) (key : Option (List ℕ)) (t : VersionStore) → e.kind ≡ Done line mode ops key → IsBehind before number ops t → IsStoreOf (before ++ e ∷ []) t
  done_kept line mode ops key t is behind = store_done before e line mode ops t (is ∙ ap (λ (k : Option (List ℕ)). Done line mode ops k) (done_next line mode ops key is).1) behind.kept

-- the windows that end at one number more
module _ (events : History) (waiting : List Waiting) where
  pub met_next : (n : ℕ) (old new : Bool) → IsTrue old ↔ AreMetBefore events waiting n → IsTrue new ↔ (IsTrue old × AreMetAt events waiting n) → IsTrue new ↔ AreMetBefore events waiting (n + 1)
  met_next n old new was told = (
    λ so. let parts = told.0 so in λ i d low less. elim (less_or_not (get_or waiting i d).upto n) [
      | inl under ↦ was.0 parts.0 i d low under
      | inr up ↦ parts.1 i d low (omega (arith, less, up))
    ],
    λ all. told.1 (was.1 (λ i d low under. all i d low (omega (arith, under))), λ i d low same. all i d low (omega (arith, same))),
  )

  pub none_before : (old : Bool) → old ≡ true → IsTrue old ↔ AreMetBefore events waiting 0
  none_before old is = (λ so i d low less. absurd (omega (arith, less)), λ all. is)

all_from : (events : History) (waiting : List Waiting) → AllByRecursion (IsWaitingIn events) waiting → AreMetBefore events waiting (length events + 1) → AllByRecursion (IsMetIn events) waiting
all_from events [] within met = tt
all_from events (w ∷ waiting) within met = (
  met 0 w (omega arith) (let low = within.0.within in omega (arith, low)),
  all_from events waiting within.1 (λ i d low less. met (suc i) d (omega (arith, low)) less),
)

all_to : (events : History) (waiting : List Waiting) → AllByRecursion (IsMetIn events) waiting → AreMetBefore events waiting (length events + 1)
all_to events waiting met i d low less = All-get_or (IsMetIn events) waiting i d low (All-from_recursion (IsMetIn events) waiting met)

-- behind the last event
pub swept : (events : History) (waiting : List Waiting) (n : ℕ) (met : Bool) → length events ≤ n → IsLegal finmap.empty (take n events) → AllByRecursion (IsWaitingIn events) waiting → IsTrue met ↔ AreMetBefore events waiting (length events + 1) → IsSwept events waiting met
swept events waiting n met past legal within told = record {
  legal = subst (IsLegal finmap.empty) (take_all n events past) legal;
  tells = (λ so. all_from events waiting within (told.0 so), λ all. told.1 (all_to events waiting all));
}

-- each window ends with the history or before
pub all_upto : (events : History) (waiting : List Waiting) → AllByRecursion (IsWaitingIn events) waiting → AllByRecursion (λ (w : Waiting). w.upto ≤ length events) waiting
all_upto events [] within = tt
all_upto events (w ∷ waiting) within = (within.0.within, all_upto events waiting within.1)
