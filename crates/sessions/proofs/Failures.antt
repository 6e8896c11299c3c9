-- What an answer tells of failed calls, whatever the stores tell.
use Rattle.std.proofs.Common.{◌≡◌, ◌∙◌, ◌⊎◌, inl, inr, ℕ, zero, suc, ◌+◌, cond, false, List, [], ◌∷◌, ◌++◌, length, take, Option, Result, Ok, Err, refl, sym, ap, subst, arith, append_assoc, append-nil, length-append}
use Rattle.std.specs.Prelude.{filter}
use Rattle.std.specs.FinMap as finmap
use Rattle.std.specs.List.{AllByRecursion}
use Rattle.chunk_elements.specs.declared.error.ChunkError.TheVariants as chunk
use Rattle.chunk_forms.specs.declared.form.Damage.{Damage}
use Rattle.chunk_forms.specs.declared.form.Damage.TheVariants as damage
use Rattle.history.specs.declared.event.Event.{Event}
use Rattle.history.specs.Acts.{Asked, reads, without}
use Rattle.history.specs.Answers as old
use Rattle.history.specs.Commit.{Transaction}
use Rattle.history.specs.History.{History}
use Rattle.history.specs.Lines.{Downsampling}
use Rattle.history.specs.Own.{Numbered, numbered, numbers_of, fault}
use Rattle.history.specs.Steps.{as_written}
use Rattle.history.specs.Viewing.{cell_fault, values_body}
use Rattle.n5_blocks.specs.declared.chunk.BlockError.TheVariants as block
use Rattle.serial_runs.specs.Attempts.{blames_store}
use Rattle.serial_runs.specs.Numbered.{failed_in}
use Rattle.serial_runs.proofs.Laws.{IsRefusedAsked, cell_refused, without_refused}
use Rattle.session_turns.specs.Agreement.{Opening, is_fault}
use Rattle.session_turns.specs.Bodies.{body_of}
use Rattle.session_turns.specs.Causes.{damage_body}
use Rattle.session_turns.specs.CommitAnswers as commit
use Rattle.session_turns.specs.CommitAnswers.{IsTold, MayAdd}
use Rattle.session_turns.specs.Committing.{HasCommitted, IsCommittedIn}
use Rattle.session_turns.specs.Failures.{TellsFailures, failures_in, failures_of}
use Rattle.session_turns.specs.Log.{Log}
use Rattle.session_turns.specs.Reading.{IsReadError}
use Rattle.session_turns.specs.Told.{IsAnswerTo}
use Rattle.session_turns.specs.Turns.{IsRested, IsResizeTurn, added_by}
use Rattle.session_turns.specs.Txn.{TxnSeen, transaction_of}
use Rattle.session_turns.specs.declared.Body.{Body}
use Rattle.session_turns.specs.declared.Body.TheVariants.{Memory}
use Rattle.session_turns.specs.declared.CommitRefused.{CommitRefused}
use Rattle.session_turns.specs.declared.CommitRefused.TheVariants as refused
use Rattle.session_turns.specs.declared.ReadError.{ReadError}
use Rattle.session_turns.specs.declared.ReadError.TheVariants as read
use Rattle.session_turns.specs.declared.ResizeError.{ResizeError}
use Rattle.session_turns.specs.declared.ResizeError.TheVariants as resize
use Rattle.session_turns.proofs.Laws.{IsCalm, may_calm, none_added, own_of_turn, same_rest}
use Rattle.sessions.specs.Bodies.{resized_answer}
use Rattle.sessions.specs.Commits.{IsCommittedAs}
use Rattle.sessions.specs.Reads.{IsAnsweredRead, IsUnread}
use Rattle.sessions.specs.Writes.{IsWrittenAs}
use Rattle.sessions.proofs.CommitRows.{turn_of}
use Rattle.sessions.proofs.ReadRows.{failed_own, none_read}
use Rattle.sessions.proofs.WriteLaws.{as_refused}
use Rattle.stack_driver.specs.declared.view.View.{View}
use Rattle.turn_book.specs.Passes.{BookView, PassView}

-- bytes that are no chunk are no failed call
damage_tells_none : (key : List ℕ) (cause : Damage) → failures_in (damage_body key cause) ≡ []
damage_tells_none key (damage.Zarr (chunk.WrongLength have want)) = refl
damage_tells_none key (damage.Zarr chunk.Memory) = refl
damage_tells_none key (damage.N5 (block.WrongMode have)) = refl
damage_tells_none key (damage.N5 (block.WrongRank have)) = refl
damage_tells_none key (damage.N5 (block.WrongSize dim have)) = refl
damage_tells_none key (damage.N5 (block.WrongLength have want)) = refl
damage_tells_none key (damage.N5 block.Memory) = refl

-- nor is what refuses a line before anything is done
body_tells_none : (b : old.Body) → failed_in b ≡ [] → blames_store b ≡ false → failures_in (body_of b) ≡ []
body_tells_none (old.store_failed event done events) none sound = absurd (cc)
body_tells_none (old.bad_metadata key why events) none sound = absurd (cc)
body_tells_none (old.damaged key cause) none sound = absurd (cc)
body_tells_none b none sound = refl

pub refusal_tells_none : (asked : Asked) (body : old.Body) → IsRefusedAsked asked → asked ≡ Err body → failures_in (body_of body) ≡ []
refusal_tells_none (Ok act) body fine is = absurd (cc)
refusal_tells_none (Err b) body fine is = let same : b ≡ body = cc in subst (λ d. failures_in (body_of d) ≡ []) same (body_tells_none b fine.no_fault fine.no_blame)

pub answer_tells_none : (asked : Asked) (answer : Body) → IsRefusedAsked asked → IsAnswerTo asked answer → failures_in answer ≡ []
answer_tells_none asked answer fine (inl wants) = ap failures_in wants
answer_tells_none asked answer fine (inr told) = ap failures_in told.2 ∙ refusal_tells_none asked told.0 fine told.1

-- a line that is refused so, without a turn
pub refused_tells : (old_pass : PassView Event Opening) (asked : Asked) (answer : Body) → IsRefusedAsked asked → IsAnswerTo asked answer → TellsFailures (added_by old_pass old_pass) answer
refused_tells old_pass asked answer fine is = ap failures_of (none_added old_pass) ∙ sym (answer_tells_none asked answer fine is)

-- and by a cell of its view
pub fault_tells : (old_pass : PassView Event Opening) (v : View) (next : Asked) (answer : Body) → IsRefusedAsked next → IsAnswerTo (without (cell_fault v) next) answer → TellsFailures (added_by old_pass old_pass) answer
fault_tells old_pass v next answer fine is = refused_tells old_pass (without (cell_fault v) next) answer (without_refused (cell_fault v) next (cell_refused v) fine) is

-- a read
read_tells_by : (book : BookView Opening) (old_pass new : PassView Event Opening) (rested : IsRested book old_pass) (t : TxnSeen) (v : View) (down : Option Downsampling) (answer : Body) (error : ReadError) → IsReadError book old_pass new t v error → IsUnread v error answer → TellsFailures (added_by old_pass new) answer
read_tells_by book old_pass new rested t v down answer (read.View wrong) why told =
    subst (λ p. TellsFailures (added_by old_pass p) answer) (sym why.1) (fault_tells old_pass v (Ok (reads v down)) answer tt (told (Ok (reads v down))))
read_tells_by book old_pass new rested t v down answer (read.StoreFailed event) why told =
    ap failures_of (failed_own book old_pass new rested why.before why.mount why.added why.turned) ∙ sym (ap failures_in told ∙ ap (λ n. n ∷ []) why.number)
read_tells_by book old_pass new rested t v down answer (read.Damaged key cause) why told = ap failures_of (none_read book old_pass new rested (inr why.0)) ∙ sym (ap failures_in told ∙ damage_tells_none key cause)
read_tells_by book old_pass new rested t v down answer (read.Shrunk key now) why told = ap failures_of (none_read book old_pass new rested (inr why.0)) ∙ sym (ap failures_in told)
read_tells_by book old_pass new rested t v down answer read.Memory why told = ap failures_of (none_read book old_pass new rested why) ∙ sym (ap failures_in told)

pub read_tells : (book : BookView Opening) (old_pass new : PassView Event Opening) → IsRested book old_pass → (t later : TxnSeen) (v : View) (down : Option Downsampling) (answer : Body) → IsAnsweredRead book old_pass new t later v down answer → TellsFailures (added_by old_pass new) answer
read_tells book old_pass new rested t later v down answer (inl is) = ap failures_of (none_read book old_pass new rested is.passed) ∙ sym (by is.printed)
  where
    by : (answer ≡ body_of (values_body v down is.words)) ⊎ (answer ≡ Memory) → failures_in answer ≡ []
    by (inl printed) = ap failures_in printed
    by (inr wants) = ap failures_in wants
read_tells book old_pass new rested t later v down answer (inr is) = read_tells_by book old_pass new rested t v down answer is.error is.why is.told

-- events of which none is a failed call
abbrev AreCalm : List Event → Type 0
AreCalm events = AllByRecursion IsCalm events

calm_tells_none : (n : ℕ) (es : List Event) → AreCalm es → failures_of (numbered n es) ≡ []
calm_tells_none n [] calm = refl
calm_tells_none n (e ∷ es) calm =
    ap (λ b. numbers_of (cond b (record { number = n; event = e } ∷ filter (λ (o : Numbered). is_fault o.event) (numbered (n + 1) es)) (filter (λ (o : Numbered). is_fault o.event) (numbered (n + 1) es)))) calm.0
    ∙ calm_tells_none (n + 1) es calm.1

-- and behind them one that is
calm_then_failed : (owner : ℕ) (mount : List ℕ) (n : ℕ) (es : List Event) → AreCalm es → failures_of (numbered n (es ++ fault owner mount ∷ [])) ≡ (n + length es) ∷ []
calm_then_failed owner mount n [] calm = let at : n ≡ n + 0 = omega arith in ap (λ k. k ∷ []) at
calm_then_failed owner mount n (e ∷ es) calm =
    let rest = filter (λ (o : Numbered). is_fault o.event) (numbered (n + 1) (es ++ fault owner mount ∷ [])) in
    let at : n + 1 + length es ≡ n + length (e ∷ es) = omega arith in
    ap (λ b. numbers_of (cond b (record { number = n; event = e } ∷ rest) rest)) calm.0 ∙ calm_then_failed owner mount (n + 1) es calm.1 ∙ ap (λ k. k ∷ []) at

take_calm : (n : ℕ) (es : List Event) → AreCalm es → AreCalm (take n es)
take_calm zero [] calm = tt
take_calm zero (e ∷ es) calm = tt
take_calm (suc n) [] calm = tt
take_calm (suc n) (e ∷ es) calm = (calm.0, take_calm n es calm.1)

module _ (opening : Opening) (owner : ℕ) (t : Transaction) (before own : History) (r : Result (List ℕ) CommitRefused) (c : IsCommittedIn opening owner t before own r) where
  -- a commit's events are no failed calls
  all_calm : (all : List Event) → MayAdd c.store.prefixes c.log owner c.prepared all → AreCalm all
  all_calm all may = may_calm c.store.prefixes c.log owner c.prepared all may

  -- what was added, by what the log has behind it
  own_is : (es : History) → c.later.events ≡ c.log.events ++ es → own ≡ es
  own_is es is = same_rest before own es (sym c.added ∙ is ∙ ap (λ h. h ++ es) c.at)

  own_none : c.later.events ≡ c.log.events → own ≡ []
  own_none is = own_is [] (is ∙ sym (append-nil c.log.events))

  none_told : own ≡ [] → failures_of (numbered (length before + 1) own) ≡ []
  none_told is = ap (λ es. failures_of (numbered (length before + 1) es)) is

  calm_told : (es : History) → own ≡ es → AreCalm es → failures_of (numbered (length before + 1) own) ≡ []
  calm_told es is calm = ap (λ es. failures_of (numbered (length before + 1) es)) is ∙ calm_tells_none (length before + 1) es calm

  turn_tells : (result : Result (List ℕ) CommitRefused) → IsTold owner c.store c.next c.log c.later c.prepared result → failures_of (numbered (length before + 1) own) ≡ failures_in (body_of (commit.body_of result))
  turn_tells (Ok numbers) told = calm_told told.0 (own_is told.0 told.2) (all_calm told.0 told.1)
  turn_tells (Err (refused.Conflict key was now)) told = none_told (own_none (ap (λ (l : Log). l.events) told.1))
  turn_tells (Err (refused.Shrunk key now)) told = none_told (own_none (ap (λ (l : Log). l.events) told.1))
  turn_tells (Err (refused.NotAtomic keys)) told = none_told (own_none (ap (λ (l : Log). l.events) told.1))
  turn_tells (Err (refused.Damaged key cause)) told = none_told (own_none told.1) ∙ sym (damage_tells_none key cause)
  turn_tells (Err (refused.StoreFailed event done)) told =
      let part : History = take told.2 told.0 in
      let failed = told.5 in
      let behind : History = fault owner failed.mount ∷ [] in
      let is : own ≡ part ++ behind = own_is (part ++ behind) (failed.added ∙ append_assoc c.log.events part behind) in
      let size = length-append c.log.events part in
      let same = ap length c.at in
      let number = failed.number in
      let counted : length before + 1 + length part ≡ event = omega (arith, size, same, number) in
      ap (λ es. failures_of (numbered (length before + 1) es)) is
      ∙ calm_then_failed owner failed.mount (length before + 1) part (take_calm told.2 told.0 (all_calm told.0 told.1))
      ∙ ap (λ k. k ∷ []) counted
  turn_tells (Err refused.Memory) (inl same) = none_told (own_none same)
  turn_tells (Err refused.Memory) (inr told) = calm_told (take told.2 told.0) (own_is (take told.2 told.0) told.4) (take_calm told.2 told.0 (all_calm told.0 told.1))

-- a commit
pub commit_tells : (book : BookView Opening) (old_pass new : PassView Event Opening) (t : Transaction) (result : Result (List ℕ) CommitRefused) → IsRested book old_pass → HasCommitted book old_pass new t result → TellsFailures (added_by old_pass new) (body_of (commit.body_of result))
commit_tells book old_pass new t result rested (inl none) = ap failures_of (ap (added_by old_pass) none.0 ∙ none_added old_pass) ∙ sym (ap (λ r. failures_in (body_of (commit.body_of r))) none.1)
commit_tells book old_pass new t result rested (inr turn) = ap failures_of (own_of_turn book old_pass new turn.before turn.own rested (turn_of book old_pass new t result turn)) ∙ by turn.committed
  where
    by : IsCommittedIn book.fixed old_pass.number t turn.before turn.own result ⊎ ((result ≡ Err refused.Memory) × (turn.own ≡ [])) → failures_of (numbered (length turn.before + 1) turn.own) ≡ failures_in (body_of (commit.body_of result))
    by (inl c) = turn_tells book.fixed old_pass.number t turn.before turn.own result c result c.told
    by (inr wants) = ap (λ es. failures_of (numbered (length turn.before + 1) es)) wants.1 ∙ sym (ap (λ r. failures_in (body_of (commit.body_of r))) wants.0)

pub committed_tells : (book : BookView Opening) (old_pass new : PassView Event Opening) (t : TxnSeen) (later : Option TxnSeen) (answer : Body) → IsRested book old_pass → IsCommittedAs book old_pass new t later answer → TellsFailures (added_by old_pass new) answer
committed_tells book old_pass new t later answer rested is = commit_tells book old_pass new (transaction_of t) is.result rested is.committed ∙ sym (ap failures_in is.printed)

-- and a write of its own
written_tells_by : (cells : ℕ) (result : Result (List ℕ) CommitRefused) → failures_in (body_of (as_written cells (commit.body_of result))) ≡ failures_in (body_of (commit.body_of result))
written_tells_by cells (Ok numbers) = refl
written_tells_by cells (Err why) = ap (λ b. failures_in (body_of b)) (as_refused cells why)

pub written_tells : (book : BookView Opening) (old_pass new : PassView Event Opening) (t : Transaction) (cells : ℕ) (answer : Body) → IsRested book old_pass → IsWrittenAs book old_pass new t cells answer → TellsFailures (added_by old_pass new) answer
written_tells book old_pass new t cells answer rested is =
    commit_tells book old_pass new t is.result rested is.committed ∙ sym (ap failures_in is.printed ∙ written_tells_by cells is.result)

-- a resize
module _ (book : BookView Opening) (old_pass new : PassView Event Opening) (array : ℕ) (shape : List ℕ) (rested : IsRested book old_pass) where
  module _ (r : Result ℕ ResizeError) (turn : IsResizeTurn book old_pass new array shape r) where
    added_is : (es : History) → new.seen ≡ turn.before ++ es → failures_of (added_by old_pass new) ≡ failures_of (numbered (length turn.before + 1) es)
    added_is es is = ap failures_of (own_of_turn book old_pass new turn.before turn.added rested turn.turn ∙ ap (numbered (length turn.before + 1)) (same_rest turn.before turn.added es (sym turn.turn.later ∙ is)))

    added_none : new.seen ≡ turn.before → failures_of (added_by old_pass new) ≡ []
    added_none is = added_is [] (is ∙ sym (append-nil turn.before))

  pub resize_tells : (r : Result ℕ ResizeError) (turn : IsResizeTurn book old_pass new array shape r) → TellsFailures (added_by old_pass new) (body_of (resized_answer r))
  resize_tells (Ok n) turn = added_is (Ok n) turn _ (turn.answer finmap.empty).added
  resize_tells (Err (resize.TooManyChunks at)) turn = added_none (Err (resize.TooManyChunks at)) turn (turn.answer finmap.empty).same
  resize_tells (Err (resize.NotAtomic keys)) turn = added_none (Err (resize.NotAtomic keys)) turn (turn.answer finmap.empty).same
  resize_tells (Err (resize.Damaged key cause)) turn = added_none (Err (resize.Damaged key cause)) turn (turn.answer finmap.empty).same ∙ sym (damage_tells_none key cause)
  resize_tells (Err (resize.StoreFailed event)) turn =
      let failed = turn.answer finmap.empty in
      added_is (Err (resize.StoreFailed event)) turn (fault old_pass.number failed.mount ∷ []) failed.added ∙ ap (λ n. n ∷ []) (sym failed.number)
  resize_tells (Err resize.Memory) turn = added_none (Err resize.Memory) turn (turn.answer finmap.empty)
