-- What a turn does to a pass.
use Rattle.std.proofs.Common.{◌≡◌, ◌∙◌, inl, inr, ℕ, zero, suc, ◌+◌, ◌<◌, ◌==◌, true, cond, List, [], ◌∷◌, ◌++◌, length, get_or, Result, Ok, Err, refl, sym, ap, subst, arith, append-nil}
use Rattle.std.specs.Prelude.{OnOk}
use Rattle.std.proofs.lemmas.Bool.Decides.{nat_tests}
use Rattle.std.proofs.lemmas.List.Elements.{filter-append}
use mathlib.Core.List.{IsPrefix}
use Rattle.history.specs.History.{History}
use Rattle.history.specs.Own.{fault}
use Rattle.history.specs.declared.event.Event.{Event}
use Rattle.shared_state.specs.Agreement.{Opening, Agrees}
use Rattle.shared_state.specs.Log.{Log}
use Rattle.shared_state.specs.Seen.{StoreSeen}
use Rattle.transaction_cells.specs.declared.view_cells.Piece.{Piece}
use Rattle.chunk_fetches.specs.Looking.{HasFailedAmong}
use Rattle.chunk_fetches.specs.Turns.{owner_of, IsPast, HasTurned}
use Rattle.chunk_fetches.specs.declared.error.LookError.{LookError}
use Rattle.chunk_fetches.specs.declared.error.LookError.TheVariants.{StoreFailed, Memory}
use Rattle.turn_book.specs.History.{entries_of, Continues}
use Rattle.turn_book.specs.Passes.{BookView, PassView, IsIdle, with_turn, without_turn}
use Rattle.turn_book.proofs.Lists.{prefix_longer}

-- what a state that agrees has behind it
pub past_of : (opening : Opening) (store : StoreSeen) (log : Log) → Agrees opening store log → IsPast opening log.events
past_of opening store log agrees = record { outline = agrees.outline; legal = λ start told. (agrees.holds start told).legal }

pub itself_is : (n : ℕ) → (n == n) ≡ true
itself_is n = grind (arith, nat_tests)

-- events of one owner are its own
pub own_one : (owner : ℕ) (mount : List ℕ) → entries_of owner_of owner (fault owner mount ∷ []) ≡ fault owner mount ∷ []
own_one owner mount = ap (λ b. cond b (fault owner mount ∷ []) []) (itself_is owner)

-- a turn in which these events were added
pub has_turned : (book : BookView Opening) (old mid new : PassView Event Opening) (h later added : History) → IsIdle book old → mid ≡ with_turn h old → new ≡ without_turn owner_of later mid → IsPrefix old.seen h
    → entries_of owner_of old.number h ≡ old.mine → later ≡ h ++ added → entries_of owner_of old.number added ≡ added → IsPast book.fixed later → HasTurned book old new added
has_turned book old mid new h later added idle taken given before mine grown own past =
    subst (λ p. HasTurned book old p added) (sym (given ∙ ap (without_turn owner_of later) taken))
    (record {
      idle = (idle.0, refl);
      number = refl;
      before = subst (IsPrefix old.seen) (sym grown) (prefix_longer old.seen h added before);
      mine =
          ap (entries_of owner_of old.number) grown ∙ filter-append (λ (e : Event). e.owner == old.number) h added ∙ ap (λ xs. xs ++ entries_of owner_of old.number added) mine
          ∙ ap (λ xs. old.mine ++ xs) own;
      own = refl;
      past = past;
    })

-- what a failed look adds
pub failed_adds : (owner : ℕ) (pieces : List Piece) (old new : History) (event : ℕ) → HasFailedAmong owner pieces old new event → (mount : List ℕ) × (new ≡ old ++ fault owner mount ∷ []) × (event ≡ length old + 1)
failed_adds owner [] old new event failed = absurd failed
failed_adds owner (p ∷ pieces) old new event (inl here) = (here.mount, here.added, here.number)
failed_adds owner (p ∷ pieces) old new event (inr rest) = failed_adds owner pieces old new event rest

same_continues : (owner : ℕ) (old new : History) → new ≡ old → Continues owner_of owner old new
same_continues owner old new same = ([], same ∙ sym (append-nil old), λ k d lt. absurd (omega (arith, lt)))

fault_continues : (owner : ℕ) (mount : List ℕ) (old new : History) → new ≡ old ++ fault owner mount ∷ [] → Continues owner_of owner old new
fault_continues owner mount old new added = (fault owner mount ∷ [], added, by)
  where
    by : (k : ℕ) (d : Event) → k < 1 → (get_or (fault owner mount ∷ []) k d).owner ≡ owner
    by zero d lt = refl
    by (suc k) d lt = absurd (omega (arith, lt))

-- whatever a look answers, its owner adds to the history alone
pub look_continues : {A : Type 0} (r : Result A LookError) (owner : ℕ) (pieces : List Piece) (old new : History) → OnOk r (new ≡ old) → ((event : ℕ) → r ≡ Err (StoreFailed event) → HasFailedAmong owner pieces old new event)
    → (r ≡ Err Memory → new ≡ old) → Continues owner_of owner old new
look_continues (Ok x) owner pieces old new ok failed memory = same_continues owner old new ok
look_continues (Err (StoreFailed event)) owner pieces old new ok failed memory =
    let adds = failed_adds owner pieces old new event (failed event refl) in
    fault_continues owner adds.0 old new adds.1
look_continues (Err Memory) owner pieces old new ok failed memory = same_continues owner old new (memory refl)

pub on_ok_map : {T E A B : Type 0} (r : Result T E) → OnOk r A → (A → B) → OnOk r B
on_ok_map (Ok x) a f = f a
on_ok_map (Err e) a f = tt
