-- Leaves that were opened, as others' events follow and with one leaf more.
use Rattle.std.proofs.Common.{◌≡◌, ℕ, ◌+◌, ◌≤◌, List, [], ◌∷◌, ◌++◌, length, take, sym, subst, arith, length-append}
use Rattle.std.proofs.Math.Seq.{take-append_seam, take-length}
use Rattle.std.proofs.lemmas.List.{take-append-le, map-append}
use Rattle.cells.specs.Dense.{DenseCells}
use Rattle.chunk_forms.specs.declared.form.Form.{Form}
use Rattle.history.specs.declared.event.Event.{Event}
use Rattle.history.specs.Answers.{Text, Body}
use Rattle.history.specs.Arrays.{Known, ref_of}
use Rattle.history.specs.History.{History}
use Rattle.history.specs.Leaves.{Leaf, location_of_leaf}
use Rattle.history.specs.Lines.{SpecLeaf, given, stored}
use Rattle.history.specs.OpenRows.{next_array, given_info, new_ref, IsNew, AreOpened, no_leaf, known_leaf, new_leaf, given_leaf, IsRefusal, IsRefusedLeaf, IsFailedLeaf}
use Rattle.history.specs.Outcomes.{Outcome, IsOutcome, there, new_info}
use Rattle.history.specs.Own.{Numbered, numbers_of, opened_event}
use Rattle.history.specs.Places.{IsFree}
use Rattle.kv_face.specs.Store.{Contents}
use Rattle.stack_driver.specs.References.{Reference}

-- they stay so over a longer history
pub opened_longer : {start : Contents} {owner : ℕ} (events more : History) {seen now : ℕ} {leaves rest : List SpecLeaf} {refs : List Reference} {own : List Numbered} → AreOpened start owner events seen leaves refs own now rest
    → AreOpened start owner (events ++ more) seen leaves refs own now rest
opened_longer events more no_leaf = no_leaf
opened_longer {start} {owner} events more (known_leaf {leaf = leaf} at k low high outcome others) =
    known_leaf at k low (let sum = length-append events more in omega (arith, sum, high)) (subst (λ h. IsOutcome start h leaf (there k)) (sym (take-append-le at events more high)) outcome) (opened_longer events more others)
opened_longer {start} {owner} events more (new_leaf {seen} {now} {node} {leaf} {leaves} {rest} {refs} {own} at meta low high new others) =
    subst (λ h. AreOpened start owner (events ++ more) seen (stored node leaf ∷ leaves) (new_ref h (new_info (next_array h) leaf meta) ∷ refs) (record { number = at + 1; event = opened_event owner (new_info (next_array h) leaf meta) } ∷ own) now rest) (take-append-le at events more high)
    (new_leaf at meta low (let sum = length-append events more in omega (arith, sum, high)) (subst (λ h. IsNew start h leaf meta) (sym (take-append-le at events more high)) new) (opened_longer events more others))
opened_longer {start} {owner} events more (given_leaf {seen} {now} {numbers} {leaves} {rest} {refs} {own} at low high others) =
    subst (λ h. AreOpened start owner (events ++ more) seen (given numbers ∷ leaves) (new_ref h (given_info (next_array h) numbers) ∷ refs) (record { number = at + 1; event = opened_event owner (given_info (next_array h) numbers) } ∷ own) now rest) (take-append-le at events more high)
    (given_leaf at low (let sum = length-append events more in omega (arith, sum, high)) (opened_longer events more others))

-- further leaves behind them
pub opened_then : {start : Contents} {owner : ℕ} {events : History} {seen mid now : ℕ} {leaves between rest : List SpecLeaf} {refs later : List Reference} {own added : List Numbered} → AreOpened start owner events seen leaves refs own mid between
    → AreOpened start owner events mid between later added now rest → AreOpened start owner events seen leaves (refs ++ later) (own ++ added) now rest
opened_then no_leaf more = more
opened_then (known_leaf at k low high outcome others) more = known_leaf at k low high outcome (opened_then others more)
opened_then (new_leaf at meta low high new others) more = new_leaf at meta low high new (opened_then others more)
opened_then (given_leaf at low high others) more = given_leaf at low high (opened_then others more)

-- numbers of two parts
pub numbers-append : (xs ys : List Numbered) → numbers_of (xs ++ ys) ≡ numbers_of xs ++ numbers_of ys
numbers-append xs ys = map-append (λ (o : Numbered). o.number) xs ys

-- the events before one more
front : (events : History) (e : Event) → take (length events) (events ++ e ∷ []) ≡ events
front events e = take-append_seam events (e ∷ [])

-- one leaf alone: an array of the history, a new one, one with numbers of its own
pub known_one : (start : Contents) (owner : ℕ) (events : History) (now : ℕ) (node : Text) (leaf : Leaf) (rest : List SpecLeaf) (k : Known) → now ≤ length events → IsOutcome start events leaf (there k)
    → AreOpened start owner events now (stored node leaf ∷ rest) (ref_of k ∷ []) [] (length events) rest
known_one start owner events now node leaf rest k low outcome =
    known_leaf (length events) k low (omega arith) (subst (λ h. IsOutcome start h leaf (there k)) (sym (take-length events)) outcome) no_leaf

pub new_one : (start : Contents) (owner : ℕ) (events : History) (now : ℕ) (node : Text) (leaf : Leaf) (rest : List SpecLeaf) (meta : Form) → now ≤ length events → IsNew start events leaf meta
    → let e = opened_event owner (new_info (next_array events) leaf meta) in
    AreOpened start owner (events ++ e ∷ []) now (stored node leaf ∷ rest) (new_ref events (new_info (next_array events) leaf meta) ∷ []) (record { number = length events + 1; event = e } ∷ []) (length events + 1) rest
new_one start owner events now node leaf rest meta low new =
    let e = opened_event owner (new_info (next_array events) leaf meta) in
    subst
    (λ h. AreOpened start owner (events ++ e ∷ []) now (stored node leaf ∷ rest) (new_ref h (new_info (next_array h) leaf meta) ∷ []) (record { number = length events + 1; event = opened_event owner (new_info (next_array h) leaf meta) } ∷ []) (length events + 1) rest)
    (front events e)
    (new_leaf (length events) meta low (let sum = length-append events (e ∷ []) in omega (arith, sum)) (subst (λ h. IsNew start h leaf meta) (sym (front events e)) new) no_leaf)

pub given_one : (start : Contents) (owner : ℕ) (events : History) (now : ℕ) (numbers : DenseCells) (rest : List SpecLeaf) → now ≤ length events
    → let e = opened_event owner (given_info (next_array events) numbers) in
    AreOpened start owner (events ++ e ∷ []) now (given numbers ∷ rest) (new_ref events (given_info (next_array events) numbers) ∷ []) (record { number = length events + 1; event = e } ∷ []) (length events + 1) rest
given_one start owner events now numbers rest low =
    let e = opened_event owner (given_info (next_array events) numbers) in
    subst
    (λ h. AreOpened start owner (events ++ e ∷ []) now (given numbers ∷ rest) (new_ref h (given_info (next_array h) numbers) ∷ []) (record { number = length events + 1; event = opened_event owner (given_info (next_array h) numbers) } ∷ []) (length events + 1) rest)
    (front events e)
    (given_leaf (length events) low (let sum = length-append events (e ∷ []) in omega (arith, sum)) no_leaf)

-- a leaf that is refused after all events
pub refused_one : (start : Contents) (events : History) (now : ℕ) (node : Text) (leaf : Leaf) (numbers : List ℕ) (answer : Body) (outcome : Outcome) → now ≤ length events → IsOutcome start events leaf outcome → IsRefusal node leaf (length events) numbers outcome answer
    → IsRefusedLeaf start events now node leaf numbers answer
refused_one start events now node leaf numbers answer outcome low comes answered = record {
  at = length events;
  not_older = low;
  within = omega arith;
  outcome = outcome;
  comes = subst (λ h. IsOutcome start h leaf outcome) (sym (take-length events)) comes;
  answered = answered;
}

-- a store call for a leaf fails behind all events but the last
pub failed_one : (events : History) (e : Event) (now : ℕ) (leaf : Leaf) → now ≤ length events → IsFree events (location_of_leaf leaf) → IsFailedLeaf (events ++ e ∷ []) now leaf (length events)
failed_one events e now leaf low free = record {
  not_older = low;
  within = let sum = length-append events (e ∷ []) in omega (arith, sum);
  free = subst (λ h. IsFree h (location_of_leaf leaf)) (sym (front events e)) free;
}
