-- One leaf more that is opened in a turn, and one that isn't.
use Rattle.std.proofs.Common.{◌≡◌, ◌∙◌, ℕ, ◌+◌, List, [], ◌∷◌, ◌++◌, length, ◌⊎◌, inl, inr, Option, Some, None, Result, Ok, Err, refl, sym, ap, subst, append-nil}
use Rattle.std.specs.Prelude.{option_to_list}
use Rattle.std.specs.List.{AllByRecursion}
use Rattle.sessions.specs.declared.Body as printed
use Rattle.sessions.specs.declared.Body.TheVariants as body
use Rattle.cells.specs.Dense.{DenseCells}
use Rattle.history.specs.declared.event.Event.{Event}
use Rattle.history.specs.Acts.{opens}
use Rattle.history.specs.Answers as old
use Rattle.history.specs.Answers.{Body, Text}
use Rattle.history.specs.Leaves.{Leaf}
use Rattle.history.specs.Lines.{SpecLeaf, given, stored, Build}
use Rattle.history.specs.OpenRows.{next_array, given_info}
use Rattle.history.specs.Outcomes.{new_info}
use Rattle.history.specs.Own.{numbers_of, opened_event}
use Rattle.history.specs.Sessions.{Names}
use Rattle.history.specs.Steps.{IsRow}
use Rattle.kv_face.specs.Store.{Contents}
use Rattle.sessions.specs.AnswerBodies.{body_of}
use Rattle.sessions.specs.OpenEvents.{IsArrayOpened, AreTold}
use Rattle.session_openings.specs.Events.{IsRefusalWith, IsUnbound}
use Rattle.session_openings.specs.Openings.{AreAllOpened, OpensOne, IsLeafRefused, RefusesOne}
use Rattle.session_openings.proofs.EventLaws.{added_are, added_nothing, openings_more, failed_told, openings_told}
use Rattle.session_openings.proofs.RefusalLaws.{memory_with, unseen_with, unseen_or}
use Rattle.sessions.specs.Opening.{IsLeafTurn, IsGivenTurn, AreOpenedBy, open_answer, IsUnseen}
use Rattle.sessions.specs.Turns.{IsRested, IsTurn, HasPassed, added_by}
use Rattle.sessions.proofs.Laws.{passed_of_turn, passed_then, opens_stored, opens_given, refused_row, wanting_before, wanting_behind, adds_none}
use Rattle.sessions.specs.Standing.{session_state, transaction_in}
use Rattle.stack_driver.specs.References.{Reference}
use Rattle.sessions.specs.Agreement.{Opening}
use Rattle.sessions.specs.Openings.{IsOpening, IsOpenedBy, HasFailedLeaf}
use Rattle.sessions.specs.declared.Opened.{Opened}
use Rattle.sessions.specs.declared.OpenError.{OpenError}
use Rattle.sessions.specs.declared.OpenError.TheVariants as error
use Rattle.sessions.specs.Answers.{fixed_by}
use Rattle.sessions.specs.Txn.{TxnSeen}
use Rattle.turn_book.specs.Passes.{BookView, PassView}

-- a stored array
module _ (book : BookView Opening) (old_pass new : PassView Event Opening) (node : Text) (leaf : Leaf) (opened : Opened) (arrays : List Reference) (events : List ℕ) (rested : IsRested book old_pass) (turn : IsLeafTurn book old_pass new leaf (Ok opened)) where
  stored_openings : (first : PassView Event Opening) → HasPassed book first old_pass → AllByRecursion IsArrayOpened (added_by first old_pass) → (number : Option ℕ) → IsOpenedBy book.fixed.store.contents turn.before new.seen old_pass.number leaf opened number → AllByRecursion IsArrayOpened (added_by first new)
  stored_openings first passed had None is = subst (AllByRecursion IsArrayOpened) (sym (added_nothing book first old_pass new passed turn.before turn.added turn.turn is.same)) had
  stored_openings first passed had (Some event) is =
      let info = new_info (next_array turn.before) leaf is.meta in
      let e = opened_event old_pass.number info in
      openings_more book first old_pass new passed turn.before turn.added turn.turn (e ∷ []) (added_are book first old_pass new passed turn.before turn.added turn.turn (e ∷ []) is.added) ((info, refl), tt) had

  pub opens_one_stored : OpensOne book old_pass new (stored node leaf) arrays events (arrays ++ opened.array ∷ []) (events ++ option_to_list opened.event)
  opens_one_stored first leaves rest so = record {
    opened = opens_stored book old_pass new node leaf opened arrays events rested turn first leaves rest so.opened;
    openings = stored_openings first so.opened.passed so.openings opened.event turn.answer;
  }

-- one with numbers of its own
pub opens_one_given : (book : BookView Opening) (old_pass new : PassView Event Opening) (numbers : DenseCells) (opened : Opened) (arrays : List Reference) (events : List ℕ) → IsRested book old_pass → IsGivenTurn book old_pass new numbers opened
    → OpensOne book old_pass new (given numbers) arrays events (arrays ++ opened.array ∷ []) (events ++ option_to_list opened.event)
opens_one_given book old_pass new numbers opened arrays events rested turn first leaves rest so =
    let info = given_info (next_array turn.before) numbers in
    let e = opened_event old_pass.number info in
    record {
      opened = opens_given book old_pass new numbers opened arrays events rested turn first leaves rest so.opened;
      openings = openings_more book first old_pass new so.opened.passed turn.before (e ∷ []) turn.turn (e ∷ []) refl ((info, refl), tt) so.openings;
    }

-- an answer that tells the openings before it
refused_with : (book : BookView Opening) (first old_pass new : PassView Event Opening) (wanted : SpecLeaf) (leaves rest : List SpecLeaf) (arrays : List Reference) (events : List ℕ) (answer : printed.Body) → AreAllOpened book first old_pass leaves (wanted ∷ rest) arrays events
    → added_by first new ≡ added_by first old_pass → IsRefusalWith events answer → AreTold (added_by first new) answer
refused_with book first old_pass new wanted leaves rest arrays events answer so same right =
    subst (λ own. AreTold own answer) (sym same) (openings_told (added_by first old_pass) events answer so.openings so.opened.events_are right.told right.none)

-- a stored array that a turn refuses
module _ (book : BookView Opening) (old_pass new : PassView Event Opening) (node : Text) (leaf : Leaf) (arrays : List Reference) (events : List ℕ) (e : OpenError) (answer : printed.Body) (turn : IsLeafTurn book old_pass new leaf (Err e)) where
  abbrev IsAnswered : Type 0
  IsAnswered = ((answer ≡ body.Memory) × IsUnseen e) ⊎ (answer ≡ body_of (open_answer node leaf events e))

  module _ (first : PassView Event Opening) (leaves rest : List SpecLeaf) (so : AreAllOpened book first old_pass leaves (stored node leaf ∷ rest) arrays events) where
    with_none : IsUnseen e → IsRefusalWith events answer → AreTold (added_by first new) answer × IsUnbound answer
    with_none unseen right =
        let same = adds_none book.fixed.store.contents turn.before new.seen old_pass.number leaf e unseen turn.answer in (
          refused_with book first old_pass new (stored node leaf) leaves rest arrays events answer so (added_nothing book first old_pass new so.opened.passed turn.before turn.added turn.turn same) right,
          right.refused,
        )

    with_failed : (event : ℕ) → e ≡ error.StoreFailed event → answer ≡ body_of (open_answer node leaf events e) → AreTold (added_by first new) answer × IsUnbound answer
    with_failed event is told =
        let failed : HasFailedLeaf turn.before new.seen old_pass.number leaf event = subst (λ (x : OpenError). IsOpening book.fixed.store.contents turn.before old_pass.number leaf (Err x) new.seen) is turn.answer in
        let same : answer ≡ body.StoreFailed event [] (Some events) = told ∙ ap (λ x. body_of (open_answer node leaf events x)) is in (
          inr (failed_told book first old_pass new so.opened.passed turn.before turn.added turn.turn leaf.mount event events answer (added_are book first old_pass new so.opened.passed turn.before turn.added turn.turn _ failed.added) so.openings so.opened.events_are failed.number same),
          (old.store_failed event [] (Some events), same, tt),
        )

    by_kind : IsUnseen e ⊎ ((event : ℕ) × (e ≡ error.StoreFailed event)) → answer ≡ body_of (open_answer node leaf events e) → AreTold (added_by first new) answer × IsUnbound answer
    by_kind (inl unseen) told = with_none unseen (subst (IsRefusalWith events) (sym told) (unseen_with events node leaf e unseen))
    by_kind (inr failed) told = with_failed failed.0 failed.1 told

    events_told : IsAnswered → AreTold (added_by first new) answer × IsUnbound answer
    events_told (inl wants) = with_none wants.1 (subst (IsRefusalWith events) (sym wants.0) (memory_with events))
    events_told (inr told) = by_kind (unseen_or e) told

    row_told : IsAnswered → (start : Contents) → book.fixed.store.contents ≡ Some start → (b : Body) × (answer ≡ body_of b)
        × ((names : Names) (t : Option TxnSeen) (line : ℕ) (name : Text) (build : Build) → IsRow (fixed_by book.fixed start) first.number new.seen (session_state names (length first.seen) t) line (opens name leaves build) names (transaction_in t) b (added_by first new))
    row_told (inl wants) start is =
        let same = adds_none book.fixed.store.contents turn.before new.seen old_pass.number leaf e wants.1 turn.answer in (
          old.memory,
          wants.0,
          λ names t line name build.
              wanting_behind book first old_pass (stored node leaf) leaves rest arrays events so.opened start is book.fixed.store.prefixes (session_state names (length first.seen) t) refl line name build new turn.before turn.added turn.turn same,
        )
    row_told (inr told) start is = (
      open_answer node leaf events e,
      told,
      λ names t line name build. refused_row book first old_pass new node leaf leaves rest arrays events so.opened start is book.fixed.store.prefixes (session_state names (length first.seen) t) refl line name build e turn,
    )

  pub refuses_stored : IsAnswered → RefusesOne book old_pass new (stored node leaf) arrays events answer
  refuses_stored how first leaves rest so =
      let told = events_told first leaves rest so how in
      record {
        passed = passed_then book first old_pass new so.opened.passed (passed_of_turn book old_pass new turn.added turn.turn.turned);
        events = told.0;
        refused = told.1;
        told = row_told first leaves rest so how;
      }

-- want of memory before a leaf's turn
pub refuses_before : (book : BookView Opening) (pass : PassView Event Opening) (wanted : SpecLeaf) (arrays : List Reference) (events : List ℕ) → RefusesOne book pass pass wanted arrays events body.Memory
refuses_before book pass wanted arrays events first leaves rest so = record {
  passed = so.opened.passed;
  events = refused_with book first pass pass wanted leaves rest arrays events body.Memory so refl (memory_with events);
  refused = (old.memory, refl, tt);
  told = λ start is. (
    old.memory,
    refl,
    λ names t line name build. wanting_before book first pass wanted leaves rest arrays events so.opened start is book.fixed.store.prefixes (session_state names (length first.seen) t) refl line name build,
  );
}

-- and behind one that added no event
pub refuses_behind : (book : BookView Opening) (old_pass new : PassView Event Opening) (wanted : SpecLeaf) (arrays : List Reference) (events : List ℕ) → IsTurn book old_pass new new.seen [] → RefusesOne book old_pass new wanted arrays events body.Memory
refuses_behind book old_pass new wanted arrays events turn first leaves rest so = record {
  passed = passed_then book first old_pass new so.opened.passed (passed_of_turn book old_pass new [] turn.turned);
  events =
      refused_with book first old_pass new wanted leaves rest arrays events body.Memory so (added_nothing book first old_pass new so.opened.passed new.seen [] turn refl)
      (memory_with events);
  refused = (old.memory, refl, tt);
  told = λ start is. (
    old.memory,
    refl,
    λ names t line name build.
        wanting_behind book first old_pass wanted leaves rest arrays events so.opened start is book.fixed.store.prefixes (session_state names (length first.seen) t) refl line name build new new.seen [] turn refl,
  );
}
