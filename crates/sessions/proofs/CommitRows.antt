-- A commit as a row of a session's step.
use Rattle.std.proofs.Common.{◌≡◌, ◌∙◌, ◌⊎◌, inl, inr, ℕ, ◌+◌, ◌==◌, false, cond, List, [], ◌∷◌, ◌++◌, length, Option, Some, None, Result, Ok, Err, refl, sym, ap, subst, arith}
use Rattle.std.specs.Prelude.{◌≢◌}
use Rattle.std.proofs.lemmas.Bool.Decides.{nat_tests}
use Rattle.std.proofs.lemmas.List.Elements.{filter-append}
use Rattle.std.specs.FinMap as finmap
use Rattle.session_turns.specs.declared.Body.{Body}
use Rattle.session_turns.specs.declared.Body.TheVariants.{Memory, NoTransaction}
use Rattle.session_turns.specs.CommitAnswers as commit
use Rattle.session_turns.specs.CommitAnswers.{IsCommitRow, Leaves}
use Rattle.session_turns.specs.declared.CommitRefused.{CommitRefused}
use Rattle.session_turns.specs.declared.CommitRefused.TheVariants as refused
use Rattle.history.specs.declared.event.Event.{Event}
use Rattle.history.specs.Acts.{writes, act_of}
use Rattle.history.specs.Answers as old_answers
use Rattle.history.specs.Commit.{Fixed, Transaction}
use Rattle.history.specs.CommitRows.{IsCommit}
use Rattle.history.specs.History.{History}
use Rattle.history.specs.Legal.{IsLegal}
use Rattle.history.specs.Lines.{Line, committing}
use Rattle.history.specs.Own.{Numbered, numbered}
use Rattle.history.specs.Sessions.{Names, SessionState}
use Rattle.history.specs.Steps.{IsAnswered, refused_line, wanting, done_line, commit_done, write_done, write_alone, as_written}
use Rattle.kv_face.specs.Store.{Contents}
use Rattle.session_turns.specs.Bodies.{body_of}
use Rattle.session_turns.specs.Turns.{IsRested, IsTurn, HasPassed, added_by}
use Rattle.session_turns.proofs.Laws.{own_of_turn, none_added, same_rest, passed_of_turn, passed_alone, txn_later, recorded_later}
use Rattle.sessions.specs.Commits.{HasSoundTxn, left_behind, IsCommittedAs, IsCommitTold}
use Rattle.session_turns.specs.Standing.{session_state, transaction_in}
use Rattle.session_turns.specs.Told.{IsTold, IsToldBy}
use Rattle.stack_driver.specs.declared.view.View.{View}
use Rattle.session_turns.specs.Agreement.{Opening}
use Rattle.session_turns.specs.Outline.{outline}
use Rattle.session_turns.specs.Answers.{fixed_by}
use Rattle.session_turns.specs.Committing.{HasCommitted, IsCommitTurn, IsCommittedIn, left_after}
use Rattle.session_turns.specs.TxnTurns.{owner_of}
use Rattle.session_turns.specs.Txn.{TxnSeen, transaction_of}
use Rattle.turn_book.specs.History.{entries_of}
use Rattle.turn_book.specs.Passes.{BookView, PassView}

-- the turns of a commit as one of a line
pub turn_of : (book : BookView Opening) (old new : PassView Event Opening) (t : Transaction) (result : Result (List ℕ) CommitRefused) (turn : IsCommitTurn book old new t result) → IsTurn book old new turn.before turn.own
turn_of book old new t result turn = record {
  grown = turn.grown;
  others = turn.others;
  later = turn.seen;
  added_own =
      same_rest old.mine (entries_of owner_of old.number turn.own) turn.own
      (sym (ap (λ xs. xs ++ entries_of owner_of old.number turn.own) turn.others) ∙ sym (filter-append (λ (e : Event). e.owner == old.number) turn.before turn.own)
      ∙ ap (entries_of owner_of old.number) (sym turn.seen) ∙ ap (λ n. entries_of owner_of n new.seen) (sym turn.turned.number) ∙ turn.turned.own ∙ turn.turned.mine);
  turned = turn.turned;
}

-- behind them the pass rests
pub commit_passed : (book : BookView Opening) (old new : PassView Event Opening) (t : Transaction) (result : Result (List ℕ) CommitRefused) → IsRested book old → HasCommitted book old new t result → HasPassed book old new
commit_passed book old new t result rested (inl none) = subst (HasPassed book old) (sym none.0) (passed_alone book old rested)
commit_passed book old new t result rested (inr turn) = passed_of_turn book old new turn.own turn.turned

-- a transaction that is right and recorded stays so as others' events follow
pub sound_later : (book : BookView Opening) (old new : PassView Event Opening) (t : Option TxnSeen) → HasPassed book old new → HasSoundTxn book.fixed old.seen t → HasSoundTxn book.fixed new.seen t
sound_later book old new None passed sound = tt
sound_later book old new (Some t) passed sound =
    let more = passed.before.0 in
    let split : old.seen ++ more ≡ new.seen = passed.before.1 in
    let legal : IsLegal finmap.empty (outline (old.seen ++ more)) = subst (λ h. IsLegal finmap.empty (outline h)) (sym split) passed.rested.past.outline in
    subst (λ h. HasSoundTxn book.fixed h (Some t)) split (
      txn_later book.fixed old.seen more t legal sound.0,
      recorded_later book.fixed old.seen more (transaction_of t) legal (λ start told. subst (IsLegal start) (sym split) (passed.rested.past.legal start told)) sound.0.known sound.1,
    )

-- what a commit leaves is the transaction or none
sound_left : (opening : Opening) (events : History) (t : TxnSeen) (why : CommitRefused) → HasSoundTxn opening events (Some t) → HasSoundTxn opening events (left_after t why)
sound_left opening events t (refused.Conflict key read now) sound = tt
sound_left opening events t (refused.Shrunk key now) sound = tt
sound_left opening events t (refused.NotAtomic keys) sound = tt
sound_left opening events t (refused.Damaged key cause) sound = sound
sound_left opening events t (refused.StoreFailed event []) sound = sound
sound_left opening events t (refused.StoreFailed event (number ∷ done)) sound = tt
sound_left opening events t refused.Memory sound = tt

pub sound_behind : (opening : Opening) (events : History) (t : TxnSeen) (result : Result (List ℕ) CommitRefused) → HasSoundTxn opening events (Some t) → HasSoundTxn opening events (left_behind t result)
sound_behind opening events t (Ok numbers) sound = tt
sound_behind opening events t (Err why) sound = sound_left opening events t why sound

-- what a row leaves is what the commit leaves, but behind want of memory
row_left : (t : TxnSeen) (result : Result (List ℕ) CommitRefused) (left : Option Transaction) → Leaves (transaction_of t) result left → body_of (commit.body_of result) ≢ Memory → left ≡ transaction_in (left_behind t result)
row_left t (Ok numbers) left stands printed = stands
row_left t (Err (refused.Conflict key read now)) left stands printed = stands
row_left t (Err (refused.Shrunk key now)) left stands printed = stands
row_left t (Err (refused.NotAtomic keys)) left stands printed = stands
row_left t (Err (refused.Damaged key cause)) left stands printed = stands
row_left t (Err (refused.StoreFailed event [])) left stands printed = stands
row_left t (Err (refused.StoreFailed event (number ∷ done))) left stands printed =
    let some : (length (number ∷ done) == 0) ≡ false = grind (arith, nat_tests) in stands ∙ ap (λ b. cond b (Some (transaction_of t)) None) some
row_left t (Err refused.Memory) left stands printed = absurd (printed refl)

-- the row of a commit's turns, where the store told its contents at the start
pub record HasCommitRow (fixed : Fixed) (owner : ℕ) (events : History) (t : Transaction) (result : Result (List ℕ) CommitRefused) (own : List Numbered) : Type 0 where
  pub left : Option Transaction
  pub row : IsCommit fixed owner events t left (commit.body_of result) own ⊎ ((result ≡ Err refused.Memory) × (own ≡ []))
  pub stands : Leaves t result left

-- want of memory leaves no more events than it says
wanting_row : (fixed : Fixed) (owner : ℕ) (events : History) (t : Transaction) (result : Result (List ℕ) CommitRefused) (own : List Numbered) → result ≡ Err refused.Memory → own ≡ [] → HasCommitRow fixed owner events t result own
wanting_row fixed owner events t result own is none = record { left = None; row = inr (is, none); stands = subst (λ r. Leaves t r None) (sym is) tt }

module _ (book : BookView Opening) (old new : PassView Event Opening) (t : Transaction) (result : Result (List ℕ) CommitRefused) (rested : IsRested book old) where
  row_of_turn : (start : Contents) → book.fixed.store.contents ≡ Some start → (turn : IsCommitTurn book old new t result) → IsCommittedIn book.fixed old.number t turn.before turn.own result ⊎ ((result ≡ Err refused.Memory) × (turn.own ≡ []))
      → HasCommitRow (fixed_by book.fixed start) old.number new.seen t result (added_by old new)
  row_of_turn start told turn (inl committed) =
      let row : IsCommitRow (fixed_by book.fixed start) old.number turn.before (turn.before ++ turn.own) t result = committed.row start told in
      let own : row.own ≡ turn.own = same_rest turn.before row.own turn.own (sym row.added) in
      let numbers : numbered (length turn.before + 1) row.own ≡ added_by old new = ap (numbered (length turn.before + 1)) own ∙ sym (own_of_turn book old new turn.before turn.own rested (turn_of book old new t result turn)) in
      subst (λ h. HasCommitRow (fixed_by book.fixed start) old.number h t result (added_by old new)) (sym turn.seen)
      (subst (HasCommitRow (fixed_by book.fixed start) old.number (turn.before ++ turn.own) t result) numbers (record { left = row.left; row = row.row; stands = row.stands }))
  row_of_turn start told turn (inr wants) =
      wanting_row (fixed_by book.fixed start) old.number new.seen t result (added_by old new) wants.0
      (own_of_turn book old new turn.before turn.own rested (turn_of book old new t result turn) ∙ ap (numbered (length turn.before + 1)) wants.1)

  pub row_of_commit : (start : Contents) → book.fixed.store.contents ≡ Some start → HasCommitted book old new t result → HasCommitRow (fixed_by book.fixed start) old.number new.seen t result (added_by old new)
  row_of_commit start told (inl none) = wanting_row (fixed_by book.fixed start) old.number new.seen t result (added_by old new) none.1 (ap (added_by old) none.0 ∙ none_added old)
  row_of_commit start told (inr turn) = row_of_turn start told turn turn.committed

-- a row of the transaction's commit, or want of memory before anything was done
abbrev Row : Fixed → ℕ → History → Transaction → Result (List ℕ) CommitRefused → List Numbered → Option Transaction → Type 0
Row fixed owner events t result own left = IsCommit fixed owner events t left (commit.body_of result) own ⊎ ((result ≡ Err refused.Memory) × (own ≡ []))

-- what stands by it: the transaction itself where nothing was done
abbrev row_leaves : (fixed : Fixed) (owner : ℕ) (events : History) (t : Transaction) (result : Result (List ℕ) CommitRefused) (own : List Numbered) (left : Option Transaction) → Row fixed owner events t result own left → Option Transaction
row_leaves fixed owner events t result own left (inl row) = left
row_leaves fixed owner events t result own left (inr wants) = Some t

leaves_row : (fixed : Fixed) (owner : ℕ) (events : History) (t : TxnSeen) (result : Result (List ℕ) CommitRefused) (own : List Numbered) (left : Option Transaction) (row : Row fixed owner events (transaction_of t) result own left)
    → Leaves (transaction_of t) result left → body_of (commit.body_of result) ≢ Memory → row_leaves fixed owner events (transaction_of t) result own left row ≡ transaction_in (left_behind t result)
leaves_row fixed owner events t result own left (inl row) stands printed = row_left t result left stands printed
leaves_row fixed owner events t result own left (inr wants) stands printed = absurd (printed (ap (λ r. body_of (commit.body_of r)) wants.0))

-- an answer of a commit's row is one to the line
answered : (fixed : Fixed) (owner : ℕ) (events : History) (s : SessionState) (line : ℕ) (t : Transaction) (result : Result (List ℕ) CommitRefused) (own : List Numbered) (left : Option Transaction) (row : Row fixed owner events t result own left)
    → s.transaction ≡ Some t → IsAnswered fixed owner events s line (act_of s.names s.transaction committing) s.names (row_leaves fixed owner events t result own left row) (commit.body_of result) own
answered fixed owner events s line t result own left (inl row) stands =
    subst (λ u. IsAnswered fixed owner events s line (act_of s.names u committing) s.names left (commit.body_of result) own) (sym stands) (done_line (commit_done row))
answered fixed owner events s line t result own left (inr wants) stands =
    subst (λ u. IsAnswered fixed owner events s line (act_of s.names s.transaction committing) s.names u (commit.body_of result) own) stands
    (subst (λ r. IsAnswered fixed owner events s line (act_of s.names s.transaction committing) s.names s.transaction (commit.body_of r) own) (sym wants.0)
    (subst (λ os. IsAnswered fixed owner events s line (act_of s.names s.transaction committing) s.names s.transaction old_answers.memory os) (sym wants.1) wanting))

-- the answer to a commit
pub commit_told : (book : BookView Opening) (old new : PassView Event Opening) (t : TxnSeen) (result : Result (List ℕ) CommitRefused) → IsRested book old → HasCommitted book old new (transaction_of t) result
    → IsCommitTold book old new (Some t) (left_behind t result) (body_of (commit.body_of result))
commit_told book old new t result rested has = by book.fixed.store.contents refl
  where
    by : (contents : Option Contents) → book.fixed.store.contents ≡ contents → IsCommitTold book old new (Some t) (left_behind t result) (body_of (commit.body_of result))
    by None untold = record { left = transaction_in (left_behind t result); told = λ names line start told. absurd (let no_such : ⊥ = cc in no_such); stands = λ printed. refl }
    by (Some start) told =
        let has_row = row_of_commit book old new (transaction_of t) result rested start told has in
        let fixed = fixed_by book.fixed start in
        let own = added_by old new in
        record {
          left = row_leaves fixed old.number new.seen (transaction_of t) result own has_row.left has_row.row;
          told = λ names line other is.
              let same : start ≡ other = cc in
              subst (λ c. IsTold (fixed_by book.fixed c) old.number new.seen (session_state names (length old.seen) (Some t)) line committing names (row_leaves fixed old.number new.seen (transaction_of t) result own has_row.left has_row.row) (body_of (commit.body_of result)) own) same
              (record {
                body = commit.body_of result;
                printed = refl;
                row = answered fixed old.number new.seen (session_state names (length old.seen) (Some t)) line (transaction_of t) result own has_row.left has_row.row refl;
              });
          stands = leaves_row fixed old.number new.seen t result own has_row.left has_row.row has_row.stands;
        }

-- where it is printed as it was given
pub committed_told : (book : BookView Opening) (old new : PassView Event Opening) (t : TxnSeen) (later : Option TxnSeen) (answer : Body) → IsRested book old → IsCommittedAs book old new t later answer → IsCommitTold book old new (Some t) later answer
committed_told book old new t later answer rested is =
    subst (IsCommitTold book old new (Some t) later) (sym is.printed)
    (subst (λ l. IsCommitTold book old new (Some t) l (body_of (commit.body_of is.result))) (sym is.stands) (commit_told book old new t is.result rested is.committed))

pub committed_passed : (book : BookView Opening) (old new : PassView Event Opening) (t : TxnSeen) (later : Option TxnSeen) (answer : Body) → IsRested book old → IsCommittedAs book old new t later answer → HasPassed book old new
committed_passed book old new t later answer rested is = commit_passed book old new (transaction_of t) is.result rested is.committed

pub committed_sound : (book : BookView Opening) (old new : PassView Event Opening) (t : TxnSeen) (later : Option TxnSeen) (answer : Body) → IsRested book old → HasSoundTxn book.fixed old.seen (Some t) → IsCommittedAs book old new t later answer
    → HasSoundTxn book.fixed new.seen later
committed_sound book old new t later answer rested sound is =
    subst (HasSoundTxn book.fixed new.seen) (sym is.stands)
    (sound_behind book.fixed new.seen t is.result (sound_later book old new (Some t) (committed_passed book old new t later answer rested is) sound))

-- a write outside of a transaction, as one of its own that is committed
pub write_told : (book : BookView Opening) (old new : PassView Event Opening) (names : Names) (line : ℕ) (asked : Line) (view : View) (words : List ℕ) (result : Result (List ℕ) CommitRefused) → IsRested book old
    → act_of names None asked ≡ Ok (writes view words) → HasCommitted book old new (write_alone line view words) result
    → IsToldBy book old new (session_state names (length old.seen) None) line asked names None (body_of (as_written (length words) (commit.body_of result)))
write_told book old new names line asked view words result rested act has start told = by has_row.row
  where
    fixed : Fixed
    fixed = fixed_by book.fixed start

    has_row : HasCommitRow (fixed_by book.fixed start) old.number new.seen (write_alone line view words) result (added_by old new)
    has_row = row_of_commit book old new (write_alone line view words) result rested start told has

    by : Row (fixed_by book.fixed start) old.number new.seen (write_alone line view words) result (added_by old new) has_row.left
        → IsTold (fixed_by book.fixed start) old.number new.seen (session_state names (length old.seen) None) line asked names None (body_of (as_written (length words) (commit.body_of result))) (added_by old new)
    by (inl row) = record {
      body = as_written (length words) (commit.body_of result);
      printed = refl;
      row =
          subst (λ a. IsAnswered (fixed_by book.fixed start) old.number new.seen (session_state names (length old.seen) None) line a names None (as_written (length words) (commit.body_of result)) (added_by old new)) (sym act)
          (done_line (write_done row));
    }
    by (inr wants) = record {
      body = old_answers.memory;
      printed = ap (λ r. body_of (as_written (length words) (commit.body_of r))) wants.0;
      row = subst (IsAnswered (fixed_by book.fixed start) old.number new.seen (session_state names (length old.seen) None) line (act_of names None asked) names None old_answers.memory) (sym wants.1) wanting;
    }

-- no commit without a transaction
pub commit_without : (book : BookView Opening) (old : PassView Event Opening) → IsCommitTold book old old None None NoTransaction
commit_without book old = record {
  left = None;
  told = λ names line start told.
      record {
        body = old_answers.no_transaction;
        printed = refl;
        row =
            subst (IsAnswered (fixed_by book.fixed start) old.number old.seen (session_state names (length old.seen) None) line (act_of names None committing) names None old_answers.no_transaction) (sym (none_added old)) refused_line;
      };
  stands = λ printed. refl;
}
