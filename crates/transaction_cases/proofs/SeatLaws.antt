-- A session behind its calls.
use Rattle.std.proofs.Common.{◌≡◌, ◌∙◌, ◌⊎◌, inl, inr, ℕ, ◌+◌, ◌==◌, List, [], ◌∷◌, ◌++◌, length, Option, Some, None, Result, Ok, Err, refl, sym, ap, subst, arith, append-nil}
use Rattle.std.proofs.lemmas.List.Elements.{filter-append}
use Rattle.std.specs.Prelude.{◌<◌, zero, suc, false, ◌-◌, take, slice_index_or, IfOk, OnOk}
use Rattle.std.specs.FinMap as finmap
use mathlib.Core.List.{IsPrefix}
use Rattle.cells.specs.Shapes.{IsShape}
use Rattle.state_resizes.specs.Conditions.{IsAsked}
use Rattle.transaction_cases.proofs.ViewLaws.{all_at}
use Rattle.std.specs.List.{AllByRecursion}
use Rattle.cells.specs.Dense.{DenseCells}
use Rattle.session_runs.specs.declared.CommitRefused.{CommitRefused}
use Rattle.session_runs.specs.declared.CommitRefused.TheVariants as refused
use Rattle.history.specs.Commit.{Transaction}
use Rattle.history.specs.History.{History}
use Rattle.history.specs.Leaves.{Leaf}
use Rattle.history.specs.Legal.{IsLegal}
use Rattle.history.specs.Lines.{SpecLeaf, given, stored}
use Rattle.history.specs.OpenRows.{AreOpened, no_leaf}
use Rattle.history.specs.Own.{numbers_of}
use Rattle.history.specs.Refs.{HasKnownRefs, IsKnownRef}
use Rattle.history.specs.Staged.{IsStaged}
use Rattle.history.specs.declared.event.Event.{Event}
use Rattle.history.specs.declared.event.Mode.{Mode}
use Rattle.history.specs.declared.event.Op.TheVariants.{Write}
use Rattle.session_runs.specs.Opening.{AreOpenedBy, IsLeafTurn, IsGivenTurn}
use Rattle.session_runs.specs.Turns.{IsRested, IsTurn, HasPassed, added_by}
use Rattle.session_runs.proofs.Laws.{asked_then, none_added, passed_of_turn, passed_alone, later_refs, opens_stored, opens_given, txn_later, recorded_begun, recorded_written, recorded_read, recorded_later}
use Rattle.stack_driver.specs.Conditions.{IsView}
use Rattle.stack_driver.specs.References.{Reference}
use Rattle.stack_driver.specs.declared.view.View.{View}
use Rattle.state_laws.specs.Agreement.{Opening}
use Rattle.state_laws.specs.Outline.{outline}
use Rattle.state_laws.specs.declared.opening.Opened.{Opened}
use Rattle.transaction_cells.proofs.Laws.{none_staged}
use Rattle.session_runs.specs.Committing.{HasCommitted, left_after}
use Rattle.session_runs.specs.Conditions.{IsTxnIn}
use Rattle.session_runs.specs.Reading.{HasRead, IsReadError}
use Rattle.session_runs.specs.Recording.{IsRecorded}
use Rattle.session_runs.specs.TxnTurns as turns
use Rattle.session_runs.specs.Txn.{TxnSeen, transaction_of, marks_of}
use Rattle.session_runs.specs.declared.ReadError.{ReadError}
use Rattle.session_runs.specs.declared.ReadError.TheVariants as read
use Rattle.transaction_cases.specs.Seats.{HasSound, IsSeat, IsSeatThen}
use Rattle.turn_book.specs.Passes.{AreNew, BookView, PassView, HasNumber, new_pass}

-- a transaction that is sound stays so as others' events follow
pub sound_later : (book : BookView Opening) (old new : PassView Event Opening) (t : Option TxnSeen) → HasPassed book old new → HasSound book.fixed old.seen t → HasSound book.fixed new.seen t
sound_later book old new None passed sound = tt
sound_later book old new (Some t) passed sound =
    let more = passed.before.0 in
    let split : old.seen ++ more ≡ new.seen = passed.before.1 in
    let legal : IsLegal finmap.empty (outline (old.seen ++ more)) = subst (λ h. IsLegal finmap.empty (outline h)) (sym split) passed.rested.past.outline in
    subst (λ h. HasSound book.fixed h (Some t)) split (
      txn_later book.fixed old.seen more t legal sound.0,
      recorded_later book.fixed old.seen more (transaction_of t) legal (λ start told. subst (IsLegal start) (sym split) (passed.rested.past.legal start told)) sound.0.known sound.1,
    )

-- one that is begun is
pub sound_begun : (opening : Opening) (events : History) (t : TxnSeen) (line : ℕ) (mode : Mode) → t ≡ record { line = line; mode = mode; ops = []; staged = []; kept = [] } → IsLegal finmap.empty (outline events) → HasSound opening events (Some t)
sound_begun opening events t line mode is legal =
    let begun : TxnSeen = record { line = line; mode = mode; ops = []; staged = []; kept = [] } in
    subst (λ u. HasSound opening events (Some u)) (sym is)
    (record { outline = legal; known = tt; staged = none_staged events; kept = tt }, recorded_begun opening events (transaction_of begun) refl refl)

-- behind turns and with another transaction
pub seat_with : (book : BookView Opening) (old new : PassView Event Opening) (arrays : List Reference) (t : Option TxnSeen) → AllByRecursion (IsKnownRef old.seen) arrays → HasPassed book old new → HasSound book.fixed new.seen t → IsSeatThen book old new arrays t
seat_with book old new arrays t known passed sound = record {
  seat = record { rested = passed.rested; known = later_refs old.seen new.seen arrays passed.before known; sound = sound };
  number = passed.number;
}

-- behind turns
pub seat_later : (book : BookView Opening) (old new : PassView Event Opening) (arrays : List Reference) (t : Option TxnSeen) → IsSeat book old arrays t → HasPassed book old new → IsSeatThen book old new arrays t
seat_later book old new arrays t seat passed = seat_with book old new arrays t seat.known passed (sound_later book old new t passed seat.sound)

-- without a turn
pub seat_same : (book : BookView Opening) (old : PassView Event Opening) (arrays : List Reference) (t : Option TxnSeen) → IsSeat book old arrays t → IsSeatThen book old old arrays t
seat_same book old arrays t seat = record { seat = seat; number = refl }

-- behind one call and then another
pub seat_then : (book : BookView Opening) (old mid new : PassView Event Opening) (arrays : List Reference) (t : Option TxnSeen) → mid.number ≡ old.number → IsSeatThen book mid new arrays t → IsSeatThen book old new arrays t
seat_then book old mid new arrays t same then = record { seat = then.seat; number = then.number ∙ same }

-- turns of a transaction
pub turned_passed : (book : BookView Opening) (old new : PassView Event Opening) (added : List Event) → IsRested book old → turns.HasPassed book old new added → HasPassed book old new
turned_passed book old new added rested (inl same) = subst (HasPassed book old) (sym same) (passed_alone book old rested)
turned_passed book old new added rested (inr turned) = passed_of_turn book old new added turned

pub refused_passed : (book : BookView Opening) (old new : PassView Event Opening) (t : TxnSeen) (v : View) (e : ReadError) → IsRested book old → IsReadError book old new t v e → HasPassed book old new
refused_passed book old new t v (read.View fault) rested why = subst (HasPassed book old) (sym why.1) (passed_alone book old rested)
refused_passed book old new t v (read.StoreFailed event) rested why = passed_of_turn book old new _ why.turned
refused_passed book old new t v (read.Damaged key cause) rested why = passed_of_turn book old new _ why.0
refused_passed book old new t v (read.Shrunk key now) rested why = passed_of_turn book old new _ why.0
refused_passed book old new t v read.Memory rested why = turned_passed book old new _ rested why

-- a transaction behind a read
pub read_sound : (book : BookView Opening) (old new : PassView Event Opening) (t later : TxnSeen) (v : View) (words : List ℕ) → IsView v → HasPassed book old new → HasSound book.fixed old.seen (Some t) → IsTxnIn book.fixed new.seen later
    → HasRead book.fixed (length old.seen) new.seen t later v words → HasSound book.fixed new.seen (Some later)
read_sound book old new t later v words view passed sound txn r =
    let now = sound_later book old new (Some t) passed sound in (
      txn,
      subst (IsRecorded book.fixed new.seen) (sym r.after) (recorded_read book.fixed new.seen (length old.seen) (transaction_of t) v words r.marks now.1 r.marked view r.sound r.shown),
    )

-- and behind a write
pub write_sound : (opening : Opening) (events : History) (t later : TxnSeen) (v : View) (words : List ℕ) → IsView v → IsStaged (Write v words) → HasSound opening events (Some t) → IsTxnIn opening events later
    → (later.ops ≡ t.ops ++ Write v words ∷ []) × (later ≡ record t { ops = later.ops; staged = later.staged }) → HasSound opening events (Some later)
write_sound opening events t later v words view staged sound txn wrote =
    let more : transaction_of later ≡ record (transaction_of t) { ops = t.ops ++ Write v words ∷ [] } =
    ap transaction_of wrote.1 ∙ ap (λ ops. record { line = t.line; mode = t.mode; ops = ops; marks = marks_of t.kept }) wrote.0 in
    (txn, subst (IsRecorded opening events) (sym more) (recorded_written opening events (transaction_of t) v words sound.1 view staged))

-- behind a commit
pub commit_passed : (book : BookView Opening) (old new : PassView Event Opening) (t : Transaction) (result : Result (List ℕ) CommitRefused) → IsRested book old → HasCommitted book old new t result → HasPassed book old new
commit_passed book old new t result rested (inl none) = subst (HasPassed book old) (sym none.0) (passed_alone book old rested)
commit_passed book old new t result rested (inr turn) = passed_of_turn book old new turn.own turn.turned

pub left_sound : (opening : Opening) (events : History) (t : TxnSeen) (why : CommitRefused) → HasSound opening events (Some t) → HasSound opening events (left_after t why)
left_sound opening events t (refused.Conflict key read now) sound = tt
left_sound opening events t (refused.Shrunk key now) sound = tt
left_sound opening events t (refused.NotAtomic keys) sound = tt
left_sound opening events t (refused.Damaged key cause) sound = sound
left_sound opening events t (refused.StoreFailed event []) sound = sound
left_sound opening events t (refused.StoreFailed event (number ∷ done)) sound = tt
left_sound opening events t refused.Memory sound = tt

-- an array more
with_last : (events : History) (xs : List Reference) (array : Reference) → AllByRecursion (IsKnownRef events) xs → IsKnownRef events array → AllByRecursion (IsKnownRef events) (xs ++ array ∷ [])
with_last events [] array all known = (known, tt)
with_last events (x ∷ xs) array all known = (all.0, with_last events xs array all.1 known)

seat_opened : (book : BookView Opening) (old new : PassView Event Opening) (arrays : List Reference) (array : Reference) (t : Option TxnSeen) → IsSeat book old arrays t → HasPassed book old new → IsKnownRef new.seen array
    → IsSeatThen book old new (arrays ++ array ∷ []) t
seat_opened book old new arrays array t seat passed known = record {
  seat = record {
    rested = passed.rested;
    known = with_last new.seen arrays array (later_refs old.seen new.seen arrays passed.before seat.known) known;
    sound = sound_later book old new t passed seat.sound;
  };
  number = passed.number;
}

none_opened : (book : BookView Opening) (old : PassView Event Opening) (leaf : SpecLeaf) → IsRested book old → AreOpenedBy book old old (leaf ∷ []) (leaf ∷ []) [] []
none_opened book old leaf rested = record {
  passed = passed_alone book old rested;
  count = refl;
  known = tt;
  events_are = ap numbers_of (none_added old);
  told = λ start told. (length old.seen, omega arith, subst (λ own. AreOpened start old.number old.seen (length old.seen) (leaf ∷ []) [] own (length old.seen) (leaf ∷ [])) (sym (none_added old)) no_leaf);
}

pub stored_seat : (book : BookView Opening) (old new : PassView Event Opening) (arrays : List Reference) (t : Option TxnSeen) (leaf : Leaf) (opened : Opened) → IsSeat book old arrays t → IsLeafTurn book old new leaf (Ok opened)
    → IsSeatThen book old new (arrays ++ opened.array ∷ []) t
stored_seat book old new arrays t leaf opened seat turn =
    let more = opens_stored book old new [] leaf opened [] [] seat.rested turn old (stored [] leaf ∷ []) [] (none_opened book old (stored [] leaf) seat.rested) in
    seat_opened book old new arrays opened.array t seat (passed_of_turn book old new turn.added turn.turn.turned) more.known.0

pub given_seat : (book : BookView Opening) (old new : PassView Event Opening) (arrays : List Reference) (t : Option TxnSeen) (numbers : DenseCells) (opened : Opened) → IsSeat book old arrays t → IsGivenTurn book old new numbers opened
    → IsSeatThen book old new (arrays ++ opened.array ∷ []) t
given_seat book old new arrays t numbers opened seat turn =
    let more = opens_given book old new numbers opened [] [] seat.rested turn old (given numbers ∷ []) [] (none_opened book old (given numbers) seat.rested) in
    seat_opened book old new arrays opened.array t seat (passed_of_turn book old new _ turn.turn.turned) more.known.0

-- two passes with the numbers of a book of two
pub two_passes : (passes : List (PassView Event Opening)) (a b : PassView Event Opening) → passes ≡ a ∷ b ∷ [] → a.number ≡ 0 → b.number ≡ 1 → (k : ℕ) → k < 2 → HasNumber passes k
two_passes passes a b is p q zero less = subst (λ (ps : List (PassView Event Opening)). HasNumber ps 0) (sym is) (0, omega arith, λ d. p)
two_passes passes a b is p q (suc zero) less = subst (λ (ps : List (PassView Event Opening)). HasNumber ps 1) (sym is) (1, omega arith, λ d. q)
two_passes passes a b is p q (suc (suc k)) less = absurd (omega (arith, less))

-- what follows of an answer
pub on_ok_with : {A E P Q : Type 0} (r : Result A E) → (P → Q) → OnOk r P → OnOk r Q
on_ok_with (Ok a) f p = f p
on_ok_with (Err e) f p = tt

-- an array that was opened may be asked to take a shape of its rank
pub asked_at : (early events : History) (arrays : List Reference) (k : ℕ) (r : Reference) (shape : List ℕ) → AllByRecursion (IsKnownRef early) arrays → k < length arrays → slice_index_or arrays k r ≡ r → IsPrefix early events
    → IsLegal finmap.empty (outline events) → r.local ≡ false → length shape ≡ length r.shape → IsShape shape → IsAsked events r.number shape
asked_at early events arrays k r shape known less at grown legal is rank rules =
    let one = later_refs early events (r ∷ []) grown (subst (IsKnownRef early) at (all_at (IsKnownRef early) arrays k r known less), tt) in
    asked_then events r shape legal one.0 is rank rules

-- a transaction that operations were added to
pub seat_staged : (book : BookView Opening) (pass : PassView Event Opening) (arrays : List Reference) (t : Option TxnSeen) (old later : TxnSeen) → t ≡ Some old → IsSeat book pass arrays t → (HasSound book.fixed pass.seen (Some old) → HasSound book.fixed pass.seen (Some later))
    → IsSeatThen book pass pass arrays (Some later)
seat_staged book pass arrays t old later is seat more =
    record { seat = record { rested = seat.rested; known = seat.known; sound = more (subst (HasSound book.fixed pass.seen) is seat.sound) }; number = refl }

-- a session that has done nothing
pub seat_new : (book : BookView Opening) (pass : PassView Event Opening) (k : ℕ) → pass ≡ new_pass book k → IsSeat book pass [] None
seat_new book pass k is = subst (λ (p : PassView Event Opening). IsSeat book p [] None) (sym is) (record {
  rested = record { idle = ((refl, refl), refl); own = refl; past = record { outline = tt; legal = λ start told. tt } };
  known = tt;
  sound = tt;
})

pub seat_fresh : (book : BookView Opening) (pass from : PassView Event Opening) (arrays : List Reference) (t : Option TxnSeen) (k : ℕ) → pass ≡ from → arrays ≡ [] → t ≡ None → from ≡ new_pass book k → IsSeat book pass arrays t
seat_fresh book pass from arrays t k is none no_txn new =
    subst (λ (xs : List Reference). IsSeat book pass xs t) (sym none) (subst (λ (u : Option TxnSeen). IsSeat book pass [] u) (sym no_txn) (seat_new book pass k (is ∙ new)))

inside : PassView Event Opening → Option (PassView Event Opening) → PassView Event Opening
inside d None = d
inside d (Some p) = p

-- the last of two new passes
pub pass_last : (book : BookView Opening) (passes : List (PassView Event Opening)) (n : ℕ) (r : Option (PassView Event Opening)) (a : PassView Event Opening) → AreNew book passes → book.passes ≡ 2 → n ≡ 2
    → ((d : PassView Event Opening) → 0 < n → r ≡ Some (slice_index_or passes (n - 1) d)) → r ≡ Some a → a ≡ new_pass book 1
unfolding inside
pass_last book passes n r a new two is value some =
    ap (inside a) (sym some ∙ value a (omega (arith, is))) ∙ (ap (λ (k : ℕ). slice_index_or passes (k - 1) a) is ∙ new 1 a (omega (arith, two)))

front_of : (passes : List (PassView Event Opening)) (d : PassView Event Opening) → slice_index_or (take 1 passes) 0 d ≡ slice_index_or passes 0 d
front_of [] d = refl
front_of (x ∷ passes) d = refl

-- and the first
pub pass_first : (book : BookView Opening) (passes rest : List (PassView Event Opening)) (n m : ℕ) (r : Option (PassView Event Opening)) (a : PassView Event Opening) → AreNew book passes → book.passes ≡ 2 → n ≡ 2 → m ≡ 1 → rest ≡ take (n - 1) passes
    → ((d : PassView Event Opening) → 0 < m → r ≡ Some (slice_index_or rest (m - 1) d)) → r ≡ Some a → a ≡ new_pass book 0
unfolding inside
pass_first book passes rest n m r a new two is one front value some =
    ap (inside a) (sym some ∙ value a (omega (arith, one))) ∙ (ap (λ (k : ℕ). slice_index_or rest (k - 1) a) one ∙ (ap (λ (l : List (PassView Event Opening)). slice_index_or l 0 a) (front ∙ ap (λ (k : ℕ). take (k - 1) passes) is)
    ∙ (front_of passes a ∙ new 0 a (omega (arith, two)))))

pub seat_sound : (book : BookView Opening) (pass : PassView Event Opening) (arrays : List Reference) (t later : Option TxnSeen) → IsSeat book pass arrays t → HasSound book.fixed pass.seen later → IsSeatThen book pass pass arrays later
seat_sound book pass arrays t later seat sound = record { seat = record { rested = seat.rested; known = seat.known; sound = sound }; number = refl }
