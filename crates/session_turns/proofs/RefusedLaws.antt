-- A leaf of a line that isn't opened.
use Rattle.std.proofs.Common.{◌≡◌, ◌∙◌, ℕ, ◌+◌, ◌≤◌, List, [], ◌∷◌, ◌++◌, length, Option, Some, Err, refl, sym, ap, subst, arith, append-nil}
use Rattle.std.specs.FinMap as finmap
use Rattle.state_resizes.specs.Opening.{cause_of}
use Rattle.chunk_forms.specs.declared.form.Want.{Want}
use Rattle.chunk_forms.specs.declared.form.Want.TheVariants as want
use Rattle.chunk_forms.specs.Members.{member_name}
use Rattle.history.specs.Acts.{opens}
use Rattle.history.specs.Answers as old
use Rattle.history.specs.Answers.{Body, Text}
use Rattle.history.specs.History.{History}
use Rattle.history.specs.Leaves.{Leaf, location_of_leaf, metadata_key_asked}
use Rattle.history.specs.Lines.{SpecLeaf, stored, Build}
use Rattle.history.specs.OpenRows.{AreOpened, IsRefusal, IsRefusedLeaf, IsFailedLeaf}
use Rattle.history.specs.Outcomes.{Outcome, IsOutcome, exists, mismatch, not_found, bad_want, path_taken, bad_metadata}
use Rattle.history.specs.Own.{Numbered, numbered, numbers_of, fault}
use Rattle.history.specs.Places.{IsFree}
use Rattle.history.specs.Sessions.{SessionState}
use Rattle.history.specs.Steps.{IsRow, open_refused, open_failed, open_wanting}
use Rattle.kv_face.specs.Store.{Contents}
use Rattle.meta_forms.specs.declared.error.MetaError.{MetaError}
use Rattle.session_turns.specs.Opening.{IsLeafTurn, AreOpenedBy, open_answer, IsUnseen}
use Rattle.session_turns.specs.Turns.{IsTurn, added_by}
use Rattle.session_turns.proofs.FoundLaws.{outcome_told}
use Rattle.session_turns.proofs.OpenedLaws.{opened_longer, refused_one, failed_one}
use Rattle.session_turns.proofs.OpenLaws.{seen_before}
use Rattle.session_turns.proofs.OwnLaws.{own_of_turn, added_then, same_rest}
use Rattle.session_turns.proofs.StoredLaws.{stored_there}
use Rattle.state_resizes.specs.Agreement.{Opening}
use Rattle.state_resizes.specs.Openings.{IsOpening}
use Rattle.state_resizes.specs.declared.OpenError.{OpenError}
use Rattle.state_resizes.specs.declared.OpenError.TheVariants as error
use Rattle.stack_driver.specs.References.{Reference}
use Rattle.turn_book.specs.Passes.{BookView, PassView}
use Rattle.history.specs.declared.event.Event.{Event}

-- the answer where stored bytes are no metadata, by the format that was asked
bad_answer : (node : Text) (leaf : Leaf) (numbers key : List ℕ) (asked : Want) (why : MetaError) → open_answer node leaf numbers (error.BadMeta key (cause_of asked why)) ≡ old.bad_metadata key why numbers
bad_answer node leaf numbers key (want.Zarr w) why = refl
bad_answer node leaf numbers key (want.N5 w) why = refl
bad_answer node leaf numbers key (want.Zarr3 w) why = refl

-- what is added where no event is
same_own : (book : BookView Opening) (first old_pass new : PassView Event Opening) (wanted : SpecLeaf) (leaves rest : List SpecLeaf) (arrays : List Reference) (events : List ℕ) → AreOpenedBy book first old_pass leaves (wanted ∷ rest) arrays events
    → (before added : History) → IsTurn book old_pass new before added → new.seen ≡ before → added_by first new ≡ added_by first old_pass
same_own book first old_pass new wanted leaves rest arrays events so before added turn same =
    let none : added ≡ [] = same_rest before added [] (sym turn.later ∙ same ∙ sym (append-nil before)) in
    added_then first old_pass new so.passed.number so.passed.before turn.turned.before ∙ ap (λ os. added_by first old_pass ++ os) (own_of_turn book old_pass new before added so.passed.rested turn)
    ∙ ap (λ es. added_by first old_pass ++ numbered (length before + 1) es) none ∙ append-nil (added_by first old_pass)

-- the leaves before are opened over what is seen behind a turn
longer_by : (book : BookView Opening) (first old_pass new : PassView Event Opening) (wanted : SpecLeaf) (leaves rest : List SpecLeaf) (arrays : List Reference) (events : List ℕ) (so : AreOpenedBy book first old_pass leaves (wanted ∷ rest) arrays events)
    (start : Contents) (told : book.fixed.store.contents ≡ Some start) (n : ℕ) → n ≡ length first.seen → (before added : History) → IsTurn book old_pass new before added
    → AreOpened start first.number new.seen n leaves arrays (added_by first old_pass) (so.told start told).0 (wanted ∷ rest)
longer_by book first old_pass new wanted leaves rest arrays events so start told n seen before added turn =
    subst (λ n. AreOpened start first.number new.seen n leaves arrays (added_by first old_pass) (so.told start told).0 (wanted ∷ rest)) (sym seen)
    (subst (λ h. AreOpened start first.number h (length first.seen) leaves arrays (added_by first old_pass) (so.told start told).0 (wanted ∷ rest)) turn.turned.before.1
    (opened_longer old_pass.seen turn.turned.before.0 (so.told start told).2))

-- memory is wanting before a turn, and behind one that added no event
module _ (book : BookView Opening) (first old_pass : PassView Event Opening) (wanted : SpecLeaf) (leaves rest : List SpecLeaf) (arrays : List Reference) (events : List ℕ) (so : AreOpenedBy book first old_pass leaves (wanted ∷ rest) arrays events)
    (start : Contents) (told : book.fixed.store.contents ≡ Some start) (prefixes : List (List ℕ)) (s : SessionState) (seen : s.seen ≡ length first.seen) (line : ℕ) (name : Text) (build : Build) where
  pub wanting_before : IsRow (record { start = start; prefixes = prefixes }) first.number old_pass.seen s line (opens name leaves build) s.names s.transaction old.memory (added_by first old_pass)
  wanting_before =
      open_wanting (subst (λ n. AreOpened start first.number old_pass.seen n leaves arrays (added_by first old_pass) (so.told start told).0 (wanted ∷ rest)) (sym seen) (so.told start told).2)

  pub wanting_behind : (new : PassView Event Opening) (before added : History) → IsTurn book old_pass new before added → new.seen ≡ before
      → IsRow (record { start = start; prefixes = prefixes }) first.number new.seen s line (opens name leaves build) s.names s.transaction old.memory (added_by first new)
  wanting_behind new before added turn same =
      subst (IsRow (record { start = start; prefixes = prefixes }) first.number new.seen s line (opens name leaves build) s.names s.transaction old.memory) (sym (same_own book first old_pass new wanted leaves rest arrays events so before added turn same))
      (open_wanting (longer_by book first old_pass new wanted leaves rest arrays events so start told s.seen seen before added turn))

module _ (book : BookView Opening) (first old_pass new : PassView Event Opening) (node : Text) (leaf : Leaf) (leaves rest : List SpecLeaf) (arrays : List Reference) (events : List ℕ) (so : AreOpenedBy book first old_pass leaves (stored node leaf ∷ rest) arrays events)
    (start : Contents) (told : book.fixed.store.contents ≡ Some start) (prefixes : List (List ℕ)) (s : SessionState) (seen : s.seen ≡ length first.seen) (line : ℕ) (name : Text) (build : Build) where
  abbrev Row : Body → List Numbered → Type 0
  Row answer own = IsRow (record { start = start; prefixes = prefixes }) first.number new.seen s line (opens name leaves build) s.names s.transaction answer own

  module _ (before added : History) (turn : IsTurn book old_pass new before added) where
    longer : AreOpened start first.number new.seen s.seen leaves arrays (added_by first old_pass) (so.told start told).0 (stored node leaf ∷ rest)
    longer = longer_by book first old_pass new (stored node leaf) leaves rest arrays events so start told s.seen seen before added turn

    own : added_by first new ≡ added_by first old_pass ++ numbered (length before + 1) added
    own = added_then first old_pass new so.passed.number so.passed.before turn.turned.before ∙ ap (λ os. added_by first old_pass ++ os) (own_of_turn book old_pass new before added so.passed.rested turn)

    low : (so.told start told).0 ≤ length before
    low = let had = (so.told start told).1 in let high = seen_before book old_pass new before added turn in omega (arith, had, high)

    refused : (outcome : Outcome) (answer : Body) → new.seen ≡ before → IsOutcome start before leaf outcome → IsRefusal node leaf (length before) events outcome answer → Row answer (added_by first new)
    refused outcome answer same comes answered =
        let now = (so.told start told).0 in
        let one = refused_one start before now node leaf (numbers_of (added_by first old_pass)) answer outcome low comes (subst (λ ns. IsRefusal node leaf (length before) ns outcome answer) (sym so.events_are) answered) in
        subst (Row answer) (sym (same_own book first old_pass new (stored node leaf) leaves rest arrays events so before added turn same)) (open_refused longer (subst (λ h. IsRefusedLeaf start h now node leaf (numbers_of (added_by first old_pass)) answer) (sym same) one))

    failed : new.seen ≡ before ++ fault old_pass.number leaf.mount ∷ [] → IsFree before (location_of_leaf leaf) → Row (old.store_failed (length before + 1) [] (Some events)) (added_by first new)
    failed more free =
        let e = fault old_pass.number leaf.mount in
        let is : added ≡ e ∷ [] = same_rest before added (e ∷ []) (sym turn.later ∙ more) in
        let owned : e ≡ fault first.number leaf.mount = ap (λ n. fault n leaf.mount) so.passed.number in
        let all : added_by first new ≡ added_by first old_pass ++ numbered (length before + 1) (fault first.number leaf.mount ∷ []) =
        own ∙ ap (λ es. added_by first old_pass ++ numbered (length before + 1) es) is ∙ ap (λ f. added_by first old_pass ++ numbered (length before + 1) (f ∷ [])) owned in
        let one = failed_one before e (so.told start told).0 leaf low free in
        subst (λ ns. Row (old.store_failed (length before + 1) [] (Some ns)) (added_by first new)) so.events_are
        (subst (Row (old.store_failed (length before + 1) [] (Some (numbers_of (added_by first old_pass))))) (sym all)
        (open_failed (length before) longer (subst (λ h. IsFailedLeaf h (so.told start told).0 leaf (length before)) (sym more) one)))

    -- each refusal of the state
    by_error : (e : OpenError) → IsOpening book.fixed.store.contents before old_pass.number leaf (Err e) new.seen → Row (open_answer node leaf events e) (added_by first new)
    by_error (error.PathTaken path at) is =
        let there = stored_there leaf.want (finmap.get start (metadata_key_asked leaf)) in
        refused (path_taken path) (old.path_taken at path events) is.same (record { stored = there.0; read = λ none. there.1; same = sym (is.outcome there.0) }) (ap (λ n. old.path_taken n path events) is.at)
    by_error (error.StoreFailed event) is = subst (λ n. Row (old.store_failed n [] (Some events)) (added_by first new)) (sym is.number) (failed is.added is.free)
    by_error (error.BadMeta key cause) is =
        let text = is.0 in
        let bad = is.1 in
        let there = is.2 in
        let answer : open_answer node leaf events (error.BadMeta key cause) ≡ old.bad_metadata (metadata_key_asked leaf) bad.0 events =
        ap (λ c. open_answer node leaf events (error.BadMeta key c)) bad.2 ∙ bad_answer node leaf events key leaf.want bad.0 ∙ ap (λ k. old.bad_metadata k bad.0 events) there.named in
        refused (bad_metadata text) (open_answer node leaf events (error.BadMeta key cause)) there.same (outcome_told book.fixed.store.contents start before leaf (bad_metadata text) told there.outcome) (bad.0, bad.1, answer)
    by_error (error.Exists at) is = refused exists _ is.same (outcome_told book.fixed.store.contents start before leaf exists told is.outcome) (ap (λ n. open_answer node leaf events (error.Exists n)) is.at)
    by_error (error.Mismatch member at) is =
        refused (mismatch member.now) _ is.same (outcome_told book.fixed.store.contents start before leaf (mismatch member.now) told is.outcome) (ap (λ n. open_answer node leaf events (error.Mismatch member n)) is.at)
    by_error (error.NotFound at) is = refused not_found _ is.same (outcome_told book.fixed.store.contents start before leaf not_found told is.outcome) (ap (λ n. open_answer node leaf events (error.NotFound n)) is.at)
    by_error (error.BadWant member) is =
        refused (bad_want (member_name member)) _ is.same (outcome_told book.fixed.store.contents start before leaf (bad_want (member_name member)) told is.outcome) refl
    by_error error.Memory is = wanting_behind book first old_pass (stored node leaf) leaves rest arrays events so start told prefixes s seen line name build new before added turn is

  -- a leaf that a turn refuses
  pub refused_row : (e : OpenError) → IsLeafTurn book old_pass new leaf (Err e) → Row (open_answer node leaf events e) (added_by first new)
  refused_row e turn = by_error turn.before turn.added turn.turn e turn.answer

-- each refusal but a failed call adds no event
pub adds_none : (told : Option Contents) (before later : History) (owner : ℕ) (leaf : Leaf) (e : OpenError) → IsUnseen e → IsOpening told before owner leaf (Err e) later → later ≡ before
adds_none told before later owner leaf (error.PathTaken path at) unseen is = is.same
adds_none told before later owner leaf (error.StoreFailed event) unseen is = absurd unseen
adds_none told before later owner leaf (error.BadMeta key cause) unseen is = is.2.same
adds_none told before later owner leaf (error.Exists at) unseen is = is.same
adds_none told before later owner leaf (error.Mismatch member at) unseen is = is.same
adds_none told before later owner leaf (error.NotFound at) unseen is = is.same
adds_none told before later owner leaf (error.BadWant member) unseen is = is.same
adds_none told before later owner leaf error.Memory unseen is = is
