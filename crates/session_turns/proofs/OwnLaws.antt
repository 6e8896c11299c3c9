-- The events that a pass adds in its turns, with their numbers.
use Rattle.std.proofs.Common.{◌≡◌, ◌∙◌, ℕ, ◌+◌, ◌≤◌, ◌==◌, Bool, true, false, cond, [], ◌∷◌, ◌++◌, length, drop, refl, sym, ap, arith, append_assoc, append-nil, length-append}
use Rattle.std.proofs.lemmas.List.Elements.{filter-append}
use mathlib.Core.List.{IsPrefix}
use Rattle.history.specs.declared.event.Event.{Event}
use Rattle.history.specs.History.{History}
use Rattle.history.specs.Own.{numbered, own_events}
use Rattle.session_turns.specs.Turns.{IsRested, IsTurn, HasPassed, added_by}
use Rattle.state_resizes.specs.Agreement.{Opening}
use Rattle.transactions.specs.Turns.{owner_of, HasTurned}
use Rattle.turn_book.specs.History.{entries_of}
use Rattle.turn_book.specs.Passes.{BookView, PassView}

-- own events of two parts
pub own-append : (owner n : ℕ) (xs ys : History) → own_events owner n (xs ++ ys) ≡ own_events owner n xs ++ own_events owner (n + length xs) ys
own-append owner n [] ys = ap (λ m. own_events owner m ys) (omega arith)
own-append owner n (e ∷ xs) ys = by (e.owner == owner) (own-append owner (n + 1) xs ys ∙ ap (λ m. own_events owner (n + 1) xs ++ own_events owner m ys) (omega arith))
  where
    by : (test : Bool) → own_events owner (n + 1) (xs ++ ys) ≡ own_events owner (n + 1) xs ++ own_events owner (n + length (e ∷ xs)) ys
        → cond test (record { number = n; event = e } ∷ own_events owner (n + 1) (xs ++ ys)) (own_events owner (n + 1) (xs ++ ys))
        ≡ cond test (record { number = n; event = e } ∷ own_events owner (n + 1) xs) (own_events owner (n + 1) xs) ++ own_events owner (n + length (e ∷ xs)) ys
    by true rest = ap (λ os. record { number = n; event = e } ∷ os) rest
    by false rest = rest

-- where no event is one's own
pub own-none : (owner n : ℕ) (xs : History) → entries_of owner_of owner xs ≡ [] → own_events owner n xs ≡ []
own-none owner n [] none = refl
own-none owner n (e ∷ xs) none = by (e.owner == owner) none (λ is. own-none owner (n + 1) xs is)
  where
    by : (test : Bool) → cond test (e ∷ entries_of owner_of owner xs) (entries_of owner_of owner xs) ≡ [] → (entries_of owner_of owner xs ≡ [] → own_events owner (n + 1) xs ≡ [])
        → cond test (record { number = n; event = e } ∷ own_events owner (n + 1) xs) (own_events owner (n + 1) xs) ≡ []
    by true is rest = absurd (let no_such : ⊥ = cc in no_such)
    by false is rest = rest is

at_most : (owner : ℕ) (xs : History) → length (entries_of owner_of owner xs) ≤ length xs
at_most owner [] = omega arith
at_most owner (e ∷ xs) = by (e.owner == owner) (at_most owner xs)
  where
    by : (test : Bool) → length (entries_of owner_of owner xs) ≤ length xs → length (cond test (e ∷ entries_of owner_of owner xs) (entries_of owner_of owner xs)) ≤ length (e ∷ xs)
    by true less = omega (arith, less)
    by false less = omega (arith, less)

-- where each is
pub own-all : (owner n : ℕ) (xs : History) → entries_of owner_of owner xs ≡ xs → own_events owner n xs ≡ numbered n xs
own-all owner n [] all = refl
own-all owner n (e ∷ xs) all = by (e.owner == owner) all (λ is. own-all owner (n + 1) xs is) (at_most owner xs)
  where
    by : (test : Bool) → cond test (e ∷ entries_of owner_of owner xs) (entries_of owner_of owner xs) ≡ e ∷ xs → (entries_of owner_of owner xs ≡ xs → own_events owner (n + 1) xs ≡ numbered (n + 1) xs)
        → length (entries_of owner_of owner xs) ≤ length xs → cond test (record { number = n; event = e } ∷ own_events owner (n + 1) xs) (own_events owner (n + 1) xs) ≡ numbered n (e ∷ xs)
    by true both rest short = let same : entries_of owner_of owner xs ≡ xs = cc in ap (λ os. record { number = n; event = e } ∷ os) (rest same)
    by false both rest short = absurd (let long = ap length both in omega (arith, long, short))

-- what lies behind the front of a list
pub drop_front : (xs ys : History) → drop (length xs) (xs ++ ys) ≡ ys
drop_front [] ys = refl
drop_front (x ∷ xs) ys = drop_front xs ys

pub same_rest : (xs ys zs : History) → xs ++ ys ≡ xs ++ zs → ys ≡ zs
same_rest xs ys zs e = sym (drop_front xs ys) ∙ ap (drop (length xs)) e ∙ drop_front xs zs

-- of other events none is one's own
no_other : (owner : ℕ) (front rest : History) → entries_of owner_of owner (front ++ rest) ≡ entries_of owner_of owner front → entries_of owner_of owner rest ≡ []
no_other owner front rest e =
    same_rest (entries_of owner_of owner front) (entries_of owner_of owner rest) []
    (sym (filter-append (λ (e : Event). e.owner == owner) front rest) ∙ e ∙ sym (append-nil (entries_of owner_of owner front)))

module _ (book : BookView Opening) where
  -- the events of one turn have the numbers behind those of the others
  pub own_of_turn : (old new : PassView Event Opening) (before added : History) → IsRested book old → IsTurn book old new before added → added_by old new ≡ numbered (length before + 1) added
  own_of_turn old new before added rested turn =
      let rest = turn.grown.0 in
      let split : old.seen ++ rest ≡ before = turn.grown.1 in
      let whole : new.seen ≡ old.seen ++ (rest ++ added) = turn.later ∙ ap (λ h. h ++ added) (sym split) ∙ append_assoc old.seen rest added in
      let none = no_other old.number old.seen rest (ap (entries_of owner_of old.number) split ∙ turn.others ∙ sym rested.own) in
      ap (own_events old.number (length old.seen + 1)) (ap (drop (length old.seen)) whole ∙ drop_front old.seen (rest ++ added))
      ∙ own-append old.number (length old.seen + 1) rest added ∙ ap (λ os. os ++ own_events old.number (length old.seen + 1 + length rest) added) (own-none old.number (length old.seen + 1) rest none)
      ∙ own-all old.number (length old.seen + 1 + length rest) added turn.added_own
      ∙ ap (λ n. numbered n added) (let sum = length-append old.seen rest in let both = ap length split in omega (arith, sum, both))

  -- behind a turn the pass rests
  pub passed_of_turn : (old new : PassView Event Opening) (added : History) → HasTurned book old new added → HasPassed book old new
  passed_of_turn old new added turned = record { rested = record { idle = turned.idle; own = turned.own; past = turned.past }; number = turned.number; before = turned.before }

  -- so it does without one
  pub passed_alone : (old : PassView Event Opening) → IsRested book old → HasPassed book old old
  passed_alone old rested = record { rested = rested; number = refl; before = ([], append-nil old.seen) }

  pub passed_then : (old mid new : PassView Event Opening) → HasPassed book old mid → HasPassed book mid new → HasPassed book old new
  passed_then old mid new one other = record {
    rested = other.rested;
    number = other.number ∙ one.number;
    before = (one.before.0 ++ other.before.0, sym (append_assoc old.seen one.before.0 other.before.0) ∙ ap (λ h. h ++ other.before.0) one.before.1 ∙ other.before.1);
  }

-- without a turn no event is added
pub none_added : (old : PassView Event Opening) → added_by old old ≡ []
none_added old = ap (own_events old.number (length old.seen + 1)) (ap (drop (length old.seen)) (sym (append-nil old.seen)) ∙ drop_front old.seen [])

-- what is added in two parts
pub added_then : (old mid new : PassView Event Opening) → mid.number ≡ old.number → IsPrefix old.seen mid.seen → IsPrefix mid.seen new.seen → added_by old new ≡ added_by old mid ++ added_by mid new
added_then old mid new number one other =
    let first = one.0 in
    let second = other.0 in
    let whole : new.seen ≡ old.seen ++ (first ++ second) = sym other.1 ∙ ap (λ h. h ++ second) (sym one.1) ∙ append_assoc old.seen first second in
    let at : length old.seen + 1 + length first ≡ length mid.seen + 1 = let sum = length-append old.seen first in let both = ap length one.1 in omega (arith, sum, both) in
    ap (own_events old.number (length old.seen + 1)) (ap (drop (length old.seen)) whole ∙ drop_front old.seen (first ++ second))
    ∙ own-append old.number (length old.seen + 1) first second
    ∙ ap (λ os. os ++ own_events old.number (length old.seen + 1 + length first) second)
    (sym (ap (own_events old.number (length old.seen + 1)) (ap (drop (length old.seen)) (sym one.1) ∙ drop_front old.seen first)))
    ∙ ap (λ os. added_by old mid ++ os)
    (ap (λ n. own_events old.number n second) at ∙ ap (λ n. own_events n (length mid.seen + 1) second) (sym number)
    ∙ sym (ap (own_events mid.number (length mid.seen + 1)) (ap (drop (length mid.seen)) (sym other.1) ∙ drop_front mid.seen second)))
