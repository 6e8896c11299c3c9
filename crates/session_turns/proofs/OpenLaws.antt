-- One leaf of a line that is opened in a turn.
use Rattle.std.proofs.Common.{◌≡◌, ◌∙◌, ℕ, ◌+◌, ◌≤◌, List, [], ◌∷◌, ◌++◌, length, Option, Some, None, Ok, sym, ap, subst, arith, append-nil, length-append}
use Rattle.std.specs.FinMap as finmap
use Rattle.std.specs.List.{AllByRecursion}
use Rattle.std.specs.Prelude.{option_to_list}
use Rattle.cells.specs.Dense.{DenseCells}
use Rattle.history.specs.declared.event.Event.{Event}
use Rattle.history.specs.Answers.{Text}
use Rattle.history.specs.Arrays.{ref_of}
use Rattle.history.specs.History.{History}
use Rattle.history.specs.Leaves.{Leaf}
use Rattle.history.specs.Legal.{IsLegal}
use Rattle.history.specs.Lines.{SpecLeaf, given, stored}
use Rattle.history.specs.OpenRows.{next_array, given_info, new_ref, AreOpened}
use Rattle.history.specs.Outcomes.{there, new_info}
use Rattle.history.specs.Own.{numbered, numbers_of, opened_event}
use Rattle.history.specs.Refs.{IsKnownRef}
use Rattle.kv_face.specs.Store.{Contents}
use Rattle.session_turns.specs.Opening.{IsLeafTurn, IsGivenTurn, AreOpenedBy, OpensLeaf}
use Rattle.session_turns.specs.Turns.{IsRested, IsTurn, added_by}
use Rattle.session_turns.proofs.FoundLaws.{outcome_told, new_told, there_known, ref_found, ref_new, later_refs}
use Rattle.session_turns.proofs.OpenedLaws.{opened_longer, opened_then, numbers-append, known_one, new_one, given_one}
use Rattle.session_turns.proofs.OwnLaws.{own_of_turn, passed_of_turn, passed_then, added_then, same_rest}
use Rattle.state_resizes.specs.Agreement.{Opening}
use Rattle.state_resizes.specs.Openings.{IsOpenedBy, IsAdded, IsThere}
use Rattle.state_resizes.specs.Outline.{outline}
use Rattle.state_resizes.specs.declared.Opened.{Opened}
use Rattle.stack_driver.specs.References.{Reference}
use Rattle.turn_book.specs.Passes.{BookView, PassView}

with_last_of : (events : History) (xs : List Reference) (array : Reference) → AllByRecursion (IsKnownRef events) xs → IsKnownRef events array → AllByRecursion (IsKnownRef events) (xs ++ array ∷ [])
with_last_of events [] array all known = (known, tt)
with_last_of events (x ∷ xs) array all known = (all.0, with_last_of events xs array all.1 known)

module _ (book : BookView Opening) (first old new : PassView Event Opening) where
  -- what one leaf more adds to those that were opened
  pub one_leaf_more : (leaf : SpecLeaf) (leaves rest : List SpecLeaf) (arrays : List Reference) (events : List ℕ) (array : Reference) (before added : History) → IsTurn book old new before added
      → AllByRecursion (IsKnownRef new.seen) arrays → IsKnownRef new.seen array
      → ((start : Contents) → book.fixed.store.contents ≡ Some start → (now : ℕ) → now ≤ length old.seen
      → (fin : ℕ) × (fin ≤ length new.seen) × AreOpened start first.number new.seen now (leaf ∷ rest) (array ∷ []) (numbered (length before + 1) added) fin rest)
      → AreOpenedBy book first old leaves (leaf ∷ rest) arrays events
      → AreOpenedBy book first new leaves rest (arrays ++ array ∷ []) (events ++ numbers_of (numbered (length before + 1) added))
  one_leaf_more leaf leaves rest arrays events array before added turn kept known more so =
      let passed = passed_then book first old new so.passed (passed_of_turn book old new added turn.turned) in
      let own : added_by first new ≡ added_by first old ++ numbered (length before + 1) added =
      added_then first old new so.passed.number so.passed.before turn.turned.before ∙ ap (λ os. added_by first old ++ os) (own_of_turn book old new before added so.passed.rested turn) in
      record {
        passed = passed;
        count = let sum = length-append arrays (array ∷ []) in let had = so.count in omega (arith, sum, had);
        known = with_last_of new.seen arrays array kept known;
        events_are = ap numbers_of own ∙ numbers-append (added_by first old) (numbered (length before + 1) added) ∙ ap (λ ns. ns ++ numbers_of (numbered (length before + 1) added)) so.events_are;
        told = λ start is.
            let had = so.told start is in
            let next = more start is had.0 had.1 in
            let grown : old.seen ++ turn.turned.before.0 ≡ new.seen = turn.turned.before.1 in
            let longer = subst (λ h. AreOpened start first.number h (length first.seen) leaves arrays (added_by first old) had.0 (leaf ∷ rest)) grown (opened_longer old.seen turn.turned.before.0 had.2) in
            (next.0, next.1, subst (λ os. AreOpened start first.number new.seen (length first.seen) leaves (arrays ++ array ∷ []) os next.0 rest) (sym own) (opened_then longer next.2));
      }

-- how far a pass has seen before a turn and in it
pub seen_before : (book : BookView Opening) (old new : PassView Event Opening) (before added : History) → IsTurn book old new before added → length old.seen ≤ length before
seen_before book old new before added turn = let sum = length-append old.seen turn.grown.0 in let size = ap length turn.grown.1 in omega (arith, sum, size)

-- an array of a store that was opened in a turn
module _ (book : BookView Opening) (old new : PassView Event Opening) (node : Text) (leaf : Leaf) (opened : Opened) (arrays : List Reference) (events : List ℕ) (rested : IsRested book old) (turn : IsLeafTurn book old new leaf (Ok opened)) where
  abbrev Opens : Option ℕ → Type 0
  Opens number = OpensLeaf book old new (stored node leaf) arrays events (arrays ++ opened.array ∷ []) (events ++ option_to_list number)

  opens_there : IsThere book.fixed.store.contents turn.before new.seen leaf opened → Opens None
  opens_there is first leaves rest so =
      let before = turn.before in
      let none : turn.added ≡ [] = same_rest before turn.added [] (sym turn.turn.later ∙ is.same ∙ sym (append-nil before)) in
      let t = subst (IsTurn book old new before) none turn.turn in
      let legal = subst (λ h. IsLegal finmap.empty (outline h)) is.same turn.turn.turned.past.outline in
      let known = there_known before leaf is.outcome.stored is.array legal is.outcome.same in
      let ref : IsKnownRef new.seen opened.array = subst (λ h. IsKnownRef h opened.array) (append-nil before ∙ sym is.same) (subst (IsKnownRef (before ++ [])) (sym is.named) (ref_found before [] is.array known)) in
      one_leaf_more book first old new (stored node leaf) leaves rest arrays events opened.array before [] t (later_refs old.seen new.seen arrays turn.turn.turned.before so.known) ref
      (λ start told now low.
      let high = seen_before book old new before turn.added turn.turn in
      let one = known_one start first.number before now node leaf rest is.array (omega (arith, low, high)) (outcome_told book.fixed.store.contents start before leaf (there is.array) told is.outcome) in (
        length before,
        (let size = ap length is.same in omega (arith, size)),
        subst (λ r. AreOpened start first.number new.seen now (stored node leaf ∷ rest) (r ∷ []) [] (length before) rest) (sym is.named)
            (subst (λ h. AreOpened start first.number h now (stored node leaf ∷ rest) (ref_of is.array ∷ []) [] (length before) rest) (sym is.same) one),
      ))
      so

  opens_added : (event : ℕ) → IsAdded book.fixed.store.contents turn.before new.seen old.number leaf opened event → Opens (Some event)
  opens_added event is first leaves rest so =
      let before = turn.before in
      let info = new_info (next_array before) leaf is.meta in
      let e = opened_event old.number info in
      let added : turn.added ≡ e ∷ [] = same_rest before turn.added (e ∷ []) (sym turn.turn.later ∙ is.added) in
      let t = subst (IsTurn book old new before) added turn.turn in
      let ref : IsKnownRef new.seen opened.array = subst (λ h. IsKnownRef h opened.array) (sym is.added) (subst (IsKnownRef (before ++ e ∷ [])) (sym is.array) (ref_new before old.number info)) in
      let more =
      one_leaf_more book first old new (stored node leaf) leaves rest arrays events opened.array before (e ∷ []) t (later_refs old.seen new.seen arrays turn.turn.turned.before so.known) ref
      (λ start told now low.
      let high = seen_before book old new before turn.added turn.turn in
      let one = new_one start old.number before now node leaf rest is.meta (omega (arith, low, high)) (new_told book.fixed.store.contents start before leaf is.meta told is.new) in (
        length before + 1,
        (let size = ap length is.added in let sum = length-append before (e ∷ []) in omega (arith, size, sum)),
        subst (λ r. AreOpened start first.number new.seen now (stored node leaf ∷ rest) (r ∷ []) (record { number = length before + 1; event = e } ∷ []) (length before + 1) rest) (sym is.array)
            (subst (λ h. AreOpened start first.number h now (stored node leaf ∷ rest) (new_ref before info ∷ []) (record { number = length before + 1; event = e } ∷ []) (length before + 1) rest) (sym is.added)
            (subst (λ n. AreOpened start n (before ++ e ∷ []) now (stored node leaf ∷ rest) (new_ref before info ∷ []) (record { number = length before + 1; event = e } ∷ []) (length before + 1) rest) so.passed.number one)),
      ))
      so in
      subst (λ n. AreOpenedBy book first new leaves rest (arrays ++ opened.array ∷ []) (events ++ n ∷ [])) (sym is.number) more

  opens_by : (number : Option ℕ) → IsOpenedBy book.fixed.store.contents turn.before new.seen old.number leaf opened number → Opens number
  opens_by None is = opens_there is
  opens_by (Some event) is = opens_added event is

  pub opens_stored : OpensLeaf book old new (stored node leaf) arrays events (arrays ++ opened.array ∷ []) (events ++ option_to_list opened.event)
  opens_stored = opens_by opened.event turn.answer

-- an array with numbers of its own that was
pub opens_given : (book : BookView Opening) (old new : PassView Event Opening) (numbers : DenseCells) (opened : Opened) (arrays : List Reference) (events : List ℕ) → IsRested book old → IsGivenTurn book old new numbers opened
    → OpensLeaf book old new (given numbers) arrays events (arrays ++ opened.array ∷ []) (events ++ option_to_list opened.event)
opens_given book old new numbers opened arrays events rested turn first leaves rest so =
    let before = turn.before in
    let info = given_info (next_array before) numbers in
    let e = opened_event old.number info in
    let ref : IsKnownRef new.seen opened.array = subst (λ h. IsKnownRef h opened.array) (sym turn.turn.later) (subst (IsKnownRef (before ++ e ∷ [])) (sym turn.array) (ref_new before old.number info)) in
    let more =
    one_leaf_more book first old new (given numbers) leaves rest arrays events opened.array before (e ∷ []) turn.turn (later_refs old.seen new.seen arrays turn.turn.turned.before so.known) ref
    (λ start told now low.
    let high = seen_before book old new before (e ∷ []) turn.turn in
    let one = given_one start old.number before now numbers rest (omega (arith, low, high)) in (
      length before + 1,
      (let size = ap length turn.turn.later in let sum = length-append before (e ∷ []) in omega (arith, size, sum)),
      subst (λ r. AreOpened start first.number new.seen now (given numbers ∷ rest) (r ∷ []) (record { number = length before + 1; event = e } ∷ []) (length before + 1) rest) (sym turn.array)
          (subst (λ h. AreOpened start first.number h now (given numbers ∷ rest) (new_ref before info ∷ []) (record { number = length before + 1; event = e } ∷ []) (length before + 1) rest) (sym turn.turn.later)
          (subst (λ n. AreOpened start n (before ++ e ∷ []) now (given numbers ∷ rest) (new_ref before info ∷ []) (record { number = length before + 1; event = e } ∷ []) (length before + 1) rest) so.passed.number one)),
    ))
    so in
    subst (λ o. AreOpenedBy book first new leaves rest (arrays ++ opened.array ∷ []) (events ++ option_to_list o)) (sym turn.number) more
