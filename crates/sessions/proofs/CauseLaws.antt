-- What lines are answered over any store, for their causes.
use Rattle.std.proofs.Common.{◌≡◌, ◌∙◌, ◌⊎◌, inl, inr, ℕ, ◌+◌, ◌==◌, false, cond, List, [], ◌∷◌, ◌++◌, length, Option, Some, None, Result, Ok, Err, refl, sym, ap, subst, arith, append-nil}
use Rattle.std.proofs.lemmas.Bool.Decides.{nat_tests}
use Rattle.std.specs.Prelude.{◌≢◌}
use Rattle.std.specs.FinMap as finmap
use Rattle.chunk_elements.specs.declared.error.ChunkError.TheVariants as chunk
use Rattle.chunk_forms.specs.declared.form.Damage.{Damage}
use Rattle.chunk_forms.specs.declared.form.Damage.TheVariants as damage
use Rattle.history.specs.declared.event.Event.{Event}
use Rattle.history.specs.Acts.{Act, Asked, reads, writes, resizes, act_of, without}
use Rattle.history.specs.Answers as old_answers
use Rattle.history.specs.Answers.{Text}
use Rattle.history.specs.Arrays.{known_after}
use Rattle.history.specs.Commit.{Fixed, Transaction}
use Rattle.history.specs.History.{History}
use Rattle.history.specs.Lines.{Downsampling, Line, committing, resizing}
use Rattle.history.specs.Own.{Numbered, fault, fault_at, numbered, resized_event}
use Rattle.history.specs.ReadRows.{IsFetched, IsShrunkBy, with_read}
use Rattle.history.specs.Refusals.{HasTooManyCut, IsNotAtomicResize, cells_outside}
use Rattle.history.specs.ResizeRows.{MayResize}
use Rattle.history.specs.Sessions.{Names, SessionState, plain_mode, reader}
use Rattle.history.specs.Shown.{AreMarked, after_read}
use Rattle.history.specs.Steps.{IsRow, open_done, open_refused, open_unbuilt, open_failed, open_wanting, view_done, read_done, read_shrunk, read_damaged, read_failed, write_staged, write_done, begin_done, commit_done, abort_done, resize_done, resize_many, resize_split, resize_damaged, resize_failed, resolve_done, resolve_refused, IsAnswered, refused_line, wanting, done_line, write_alone}
use Rattle.history.specs.Viewing.{cell_fault, values_body}
use Rattle.n5_blocks.specs.declared.chunk.BlockError.TheVariants as block
use Rattle.session_turns.specs.declared.Body.{Body}
use Rattle.session_turns.specs.declared.Body.TheVariants.{Conflict, Memory, NoTransaction}
use Rattle.session_turns.specs.declared.CommitRefused.{CommitRefused}
use Rattle.session_turns.specs.declared.CommitRefused.TheVariants as refused
use Rattle.session_turns.specs.declared.ReadError.{ReadError}
use Rattle.session_turns.specs.declared.ReadError.TheVariants as read
use Rattle.session_turns.specs.declared.ResizeError.{ResizeError}
use Rattle.session_turns.specs.declared.ResizeError.TheVariants as resize
use Rattle.session_turns.specs.Agreement.{Opening}
use Rattle.session_turns.specs.Answers.{fixed_by}
use Rattle.session_turns.specs.Bodies.{body_of}
use Rattle.session_turns.specs.CommitAnswers as commit
use Rattle.session_turns.specs.CommitAnswers.{Leaves}
use Rattle.session_turns.specs.CommitCauses.{IsCausedCommit, for_memory_first}
use Rattle.session_turns.specs.Committing.{HasCommitted, IsCommittedIn, IsCommitTurn}
use Rattle.session_turns.specs.Reading.{IsFoundUnless, IsReadError}
use Rattle.session_turns.specs.Standing.{session_state, transaction_in}
use Rattle.session_turns.specs.Told.{IsAnswerTo, IsTold, IsToldAlone}
use Rattle.session_turns.specs.Turns.{IsRested, IsResizeTurn, added_by}
use Rattle.session_turns.specs.Txn.{TxnSeen, transaction_of}
use Rattle.session_turns.proofs.Laws.{commit_caused, found_all, none_added, own_of_turn, same_rest}
use Rattle.sessions.specs.Bodies.{resized_answer}
use Rattle.sessions.specs.Caused.{IsCaused, IsCausedAct, IsCausedBy, abort_made, begin_made, by_act, by_line, by_memory, commit_made, read_cut, read_failing, read_given, read_spoilt, resize_apart, resize_failing, resize_made, resize_much, resize_spoilt, resolve_made, resolve_none, view_made, write_kept, write_made}
use Rattle.sessions.specs.Commits.{IsCommittedAs, left_behind}
use Rattle.sessions.specs.Reads.{IsAnsweredRead, IsReadAs, IsUnread}
use Rattle.sessions.specs.Writes.{IsWrittenAs}
use Rattle.sessions.proofs.CommitRows.{turn_of}
use Rattle.sessions.proofs.PlainLines.{IsPlainAct, IsPlainAsked}
use Rattle.sessions.proofs.ReadRows.{behind, failed_own, none_read, still}
use Rattle.stack_driver.specs.declared.view.View.{View}
use Rattle.stack_driver.specs.References.{Reference}
use Rattle.turn_book.specs.Passes.{BookView, PassView}

-- bytes that are no chunk are no conflict
pub damage_no_conflict : (key : List ℕ) (cause : Damage) (other : List ℕ) (was now : ℕ) → body_of (old_answers.damaged key cause) ≢ Conflict other was now
damage_no_conflict key (damage.Zarr (chunk.WrongLength have want)) other was now = λ is. let no_such : ⊥ = cc in no_such
damage_no_conflict key (damage.Zarr chunk.Memory) other was now = λ is. let no_such : ⊥ = cc in no_such
damage_no_conflict key (damage.N5 (block.WrongMode have)) other was now = λ is. let no_such : ⊥ = cc in no_such
damage_no_conflict key (damage.N5 (block.WrongRank have)) other was now = λ is. let no_such : ⊥ = cc in no_such
damage_no_conflict key (damage.N5 (block.WrongSize dim have)) other was now = λ is. let no_such : ⊥ = cc in no_such
damage_no_conflict key (damage.N5 (block.WrongLength have want)) other was now = λ is. let no_such : ⊥ = cc in no_such
damage_no_conflict key (damage.N5 block.Memory) other was now = λ is. let no_such : ⊥ = cc in no_such

-- an act that looks at no store is answered by its row
module _ (fixed anywhere : Fixed) (owner : ℕ) (events : History) (s : SessionState) (line : ℕ) where
  plain_row : (act : Act) (names : Names) (left : Option Transaction) (answer : old_answers.Body) (own : List Numbered) → IsPlainAct act → IsRow fixed owner events s line act names left answer own → IsCausedAct anywhere owner events s line act names left answer own
  plain_row act names left answer own plain (open_done opened built) = absurd plain
  plain_row act names left answer own plain (open_refused opened refused) = absurd plain
  plain_row act names left answer own plain (open_unbuilt opened built) = absurd plain
  plain_row act names left answer own plain (open_failed before opened failed) = absurd plain
  plain_row act names left answer own plain (open_wanting opened) = absurd plain
  plain_row act names left answer own plain view_done = view_made
  plain_row act names left answer own plain (read_done is) = absurd plain
  plain_row act names left answer own plain (read_shrunk is) = absurd plain
  plain_row act names left answer own plain (read_damaged is) = absurd plain
  plain_row act names left answer own plain (read_failed before is) = absurd plain
  plain_row act names left answer own plain write_staged = write_kept
  plain_row act names left answer own plain (write_done is) = absurd plain
  plain_row act names left answer own plain begin_done = begin_made
  plain_row act names left answer own plain (commit_done is) = absurd plain
  plain_row act names left answer own plain abort_done = abort_made
  plain_row act names left answer own plain (resize_done n may sound) = absurd plain
  plain_row act names left answer own plain (resize_many many) = absurd plain
  plain_row act names left answer own plain (resize_split few split) = absurd plain
  plain_row act names left answer own plain (resize_damaged may is) = absurd plain
  plain_row act names left answer own plain (resize_failed n may on) = absurd plain
  plain_row act names left answer own plain (resolve_done m low high is) = resolve_made m low high is
  plain_row act names left answer own plain (resolve_refused m low high is) = resolve_none m low high is

  plain_answered : (asked : Line) (a : Asked) (names : Names) (left : Option Transaction) (answer : old_answers.Body) (own : List Numbered) → act_of s.names s.transaction asked ≡ a → IsPlainAsked a → IsAnswered fixed owner events s line a names left answer own
      → IsCaused anywhere owner events s line asked names left (body_of answer) own
  plain_answered asked a names left answer own is plain refused_line = by_line is
  plain_answered asked a names left answer own is plain wanting = by_memory
  plain_answered asked a names left answer own is plain (done_line {act = act} row) = by_act is (plain_row act names left answer own plain row)

  -- so is a line with such an act
  pub plain_caused : (asked : Line) (names : Names) (t : Option Transaction) (answer : Body) (own : List Numbered) → IsPlainAsked (act_of s.names s.transaction asked) → IsTold fixed owner events s line asked names t answer own
      → IsCaused anywhere owner events s line asked names t answer own
  plain_caused asked names t answer own plain told =
      subst (λ b. IsCaused anywhere owner events s line asked names t b own) (sym told.printed) (plain_answered asked (act_of s.names s.transaction asked) names t told.body own refl plain told.row)

-- a line that takes no turn
pub alone_caused : (book : BookView Opening) (pass : PassView Event Opening) (s : SessionState) (line : ℕ) (asked : Line) (names : Names) (t : Option Transaction) (answer : Body) → IsPlainAsked (act_of s.names s.transaction asked) → IsToldAlone s line asked names t answer
    → IsCausedBy book pass pass s line asked names t answer
alone_caused book pass s line asked names t answer plain told =
    let anywhere : Fixed = fixed_by book.fixed finmap.empty in
    subst (IsCaused anywhere pass.number pass.seen s line asked names t answer) (sym (none_added pass)) (plain_caused anywhere anywhere pass.number pass.seen s line asked names t answer [] plain (told anywhere pass.number pass.seen))

-- and one that is refused before it takes one
pub refused_caused : (book : BookView Opening) (pass : PassView Event Opening) (s : SessionState) (line : ℕ) (asked : Line) (answer : Body) → IsAnswerTo (act_of s.names s.transaction asked) answer → IsCausedBy book pass pass s line asked s.names s.transaction answer
refused_caused book pass s line asked answer is = subst (IsCaused (fixed_by book.fixed finmap.empty) pass.number pass.seen s line asked s.names s.transaction answer) (sym (none_added pass)) (by is)
  where
    by : IsAnswerTo (act_of s.names s.transaction asked) answer → IsCaused (fixed_by book.fixed finmap.empty) pass.number pass.seen s line asked s.names s.transaction answer []
    by (inl wants) = subst (λ b. IsCaused (fixed_by book.fixed finmap.empty) pass.number pass.seen s line asked s.names s.transaction b []) (sym wants) by_memory
    by (inr told) = subst (λ b. IsCaused (fixed_by book.fixed finmap.empty) pass.number pass.seen s line asked s.names s.transaction b []) (sym told.2) (by_line told.1)

-- a read
module _ (book : BookView Opening) (old new : PassView Event Opening) (rested : IsRested book old) (st : Option TxnSeen) (t later : TxnSeen) (v : View) (down : Option Downsampling) (names : Names) (line : ℕ) (asked : Line)
    (reads_by : reader line (transaction_in st) ≡ transaction_of t) (act : act_of names (transaction_in st) asked ≡ without (cell_fault v) (Ok (reads v down))) where
  abbrev state : SessionState
  state = session_state names (length old.seen) st

  abbrev fixed : Fixed
  fixed = fixed_by book.fixed finmap.empty

  read_by : (left : Option Transaction) (body : old_answers.Body) (own : List Numbered) → cell_fault v ≡ None → added_by old new ≡ own → IsCausedAct fixed old.number new.seen state line (reads v down) names left body own
      → IsCausedBy book old new state line asked names left (body_of body)
  read_by left body own found is row = by_act (act ∙ ap (λ f. without f (Ok (reads v down))) found) (subst (IsCausedAct fixed old.number new.seen state line (reads v down) names left body) (sym is) row)

  read_wants : (left : Option Transaction) → added_by old new ≡ [] → IsCausedBy book old new state line asked names left Memory
  read_wants left none = subst (IsCaused fixed old.number new.seen state line asked names left Memory) (sym none) by_memory

  -- a view that was read
  given_caused : (answer : Body) → IsReadAs book old new t later v down answer → IsCausedBy book old new state line asked names (transaction_in (behind st later)) answer
  given_caused answer is = by is.printed
    where
      left_of : (s : Option TxnSeen) → reader line (transaction_in s) ≡ transaction_of t → with_read (transaction_in s) v is.words is.read.marks ≡ transaction_in (behind s later)
      left_of None same = refl
      left_of (Some u) same = ap Some (ap (λ w. after_read w v is.words is.read.marks) same ∙ sym is.read.after)

      by : (answer ≡ body_of (values_body v down is.words)) ⊎ (answer ≡ Memory) → IsCausedBy book old new state line asked names (transaction_in (behind st later)) answer
      by (inl printed) =
          subst (IsCausedBy book old new state line asked names (transaction_in (behind st later))) (sym printed)
          (subst (λ left. IsCausedBy book old new state line asked names left (body_of (values_body v down is.words))) (left_of st reads_by)
          (read_by (with_read (transaction_in st) v is.words is.read.marks) (values_body v down is.words) [] (found_all v is.read.sound.targets) (none_read book old new rested is.passed)
          (read_given is.words (subst (λ u. AreMarked new.seen (length old.seen) u v is.read.marks) (sym reads_by) is.read.marked)
          (subst (λ u. cells_outside new.seen is.read.marks u v ≡ []) (sym reads_by) is.read.inside) is.read.count)))
      by (inr wants) = subst (IsCausedBy book old new state line asked names (transaction_in (behind st later))) (sym wants) (read_wants (transaction_in (behind st later)) (none_read book old new rested is.passed))

  -- one that wasn't
  unread_caused : (answer : Body) (error : ReadError) → IsReadError book old new t v error → IsFoundUnless v error → IsUnread v error answer → IsCausedBy book old new state line asked names (transaction_in st) answer
  unread_caused answer (read.View wrong) why found told =
      subst (λ p. IsCausedBy book old p state line asked names (transaction_in st) answer) (sym why.1)
      (refused_caused book old state line asked answer (subst (λ a. IsAnswerTo a answer) (sym act) (told (Ok (reads v down)))))
  unread_caused answer (read.StoreFailed event) why found told =
      subst (IsCausedBy book old new state line asked names (transaction_in st)) (sym (told ∙ ap (λ n. body_of (old_answers.store_failed n [] None)) why.number))
      (read_by (transaction_in st) (old_answers.store_failed (length why.before + 1) [] None) (fault_at (length why.before + 1) old.number why.mount) (found_all v found) (failed_own book old new rested why.before why.mount why.added why.turned)
      (read_failing why.before why.added (subst (λ u. IsFetched why.before u v why.mount) (sym reads_by) why.fetched)))
  unread_caused answer (read.Damaged key cause) why found told =
      subst (IsCausedBy book old new state line asked names (transaction_in st)) (sym told) (read_by (transaction_in st) (old_answers.damaged key cause) [] (found_all v found) (none_read book old new rested (inr why.0)) read_spoilt)
  unread_caused answer (read.Shrunk key now) why found told =
      subst (IsCausedBy book old new state line asked names (transaction_in st)) (sym told)
      (read_by (transaction_in st) (old_answers.shrunk key now) [] (found_all v found) (none_read book old new rested (inr why.0)) (read_cut (subst (λ u. IsShrunkBy new.seen (length old.seen) u v key now) (sym reads_by) why.1)))
  unread_caused answer read.Memory why found told = subst (IsCausedBy book old new state line asked names (transaction_in st)) (sym told) (read_wants (transaction_in st) (none_read book old new rested why))

  pub read_caused : (answer : Body) → IsAnsweredRead book old new t later v down answer → IsCausedBy book old new state line asked names (transaction_in (behind st later)) answer
  read_caused answer (inl is) = given_caused answer is
  read_caused answer (inr is) =
      subst (λ left. IsCausedBy book old new state line asked names left answer) (still st line t later reads_by is.same) (unread_caused answer is.error is.why is.found is.told)

-- in a transaction that stands, and in one of its own
pub inside_caused : (book : BookView Opening) (old new : PassView Event Opening) → IsRested book old → (t later : TxnSeen) (v : View) (down : Option Downsampling) (names : Names) (line : ℕ) (asked : Line) (st : Option TxnSeen) → st ≡ Some t
    → act_of names (transaction_in st) asked ≡ without (cell_fault v) (Ok (reads v down)) → (answer : Body) → IsAnsweredRead book old new t later v down answer
    → IsCausedBy book old new (session_state names (length old.seen) st) line asked names (Some (transaction_of later)) answer
inside_caused book old new rested t later v down names line asked st is act answer read =
    subst (λ s. IsCausedBy book old new (session_state names (length old.seen) s) line asked names (Some (transaction_of later)) answer) (sym is)
    (read_caused book old new rested (Some t) t later v down names line asked refl (ap (λ s. act_of names (transaction_in s) asked) (sym is) ∙ act) answer read)

pub outside_caused : (book : BookView Opening) (old new : PassView Event Opening) → IsRested book old → (t later : TxnSeen) (v : View) (down : Option Downsampling) (names : Names) (line : ℕ) (asked : Line)
    → t ≡ record { line = line; mode = plain_mode; ops = []; staged = []; kept = [] } → act_of names None asked ≡ without (cell_fault v) (Ok (reads v down)) → (answer : Body) → IsAnsweredRead book old new t later v down answer
    → IsCausedBy book old new (session_state names (length old.seen) None) line asked names None answer
outside_caused book old new rested t later v down names line asked begun act answer read = read_caused book old new rested None t later v down names line asked (sym (ap transaction_of begun)) act answer read

-- the answer of a commit's turns
module _ (book : BookView Opening) (old new : PassView Event Opening) (t : Transaction) (result : Result (List ℕ) CommitRefused) (rested : IsRested book old) where
  wants_by : (left : Option Transaction) → result ≡ Err refused.Memory → added_by old new ≡ [] → IsCausedCommit (fixed_by book.fixed finmap.empty) old.number new.seen t left (commit.body_of result) (added_by old new)
  wants_by left is none =
      subst (λ r. IsCausedCommit (fixed_by book.fixed finmap.empty) old.number new.seen t left (commit.body_of r) (added_by old new)) (sym is)
      (subst (IsCausedCommit (fixed_by book.fixed finmap.empty) old.number new.seen t left old_answers.memory) (sym none) for_memory_first)

  turn_by : (turn : IsCommitTurn book old new t result) (left : Option Transaction) → Leaves t result left → IsCommittedIn book.fixed old.number t turn.before turn.own result ⊎ ((result ≡ Err refused.Memory) × (turn.own ≡ []))
      → IsCausedCommit (fixed_by book.fixed finmap.empty) old.number new.seen t left (commit.body_of result) (added_by old new)
  turn_by turn left stands (inl committed) =
      let all = commit_caused book.fixed old.number t turn.before turn.own result committed in
      let own : all.own ≡ turn.own = same_rest turn.before all.own turn.own (sym all.added) in
      let numbers : numbered (length turn.before + 1) all.own ≡ added_by old new = ap (numbered (length turn.before + 1)) own ∙ sym (own_of_turn book old new turn.before turn.own rested (turn_of book old new t result turn)) in
      subst (λ h. IsCausedCommit (fixed_by book.fixed finmap.empty) old.number h t left (commit.body_of result) (added_by old new)) (sym turn.seen)
      (subst (IsCausedCommit (fixed_by book.fixed finmap.empty) old.number (turn.before ++ turn.own) t left (commit.body_of result)) numbers (all.row left stands))
  turn_by turn left stands (inr wants) = wants_by left wants.0 (own_of_turn book old new turn.before turn.own rested (turn_of book old new t result turn) ∙ ap (numbered (length turn.before + 1)) wants.1)

  pub commit_by : HasCommitted book old new t result → (left : Option Transaction) → Leaves t result left → IsCausedCommit (fixed_by book.fixed finmap.empty) old.number new.seen t left (commit.body_of result) (added_by old new)
  commit_by (inl none) left stands = wants_by left none.1 (ap (added_by old) none.0 ∙ none_added old)
  commit_by (inr turn) left stands = turn_by turn left stands turn.committed

-- what a commit leaves is what its answer says
leaves_behind : (t : TxnSeen) (result : Result (List ℕ) CommitRefused) → Leaves (transaction_of t) result (transaction_in (left_behind t result))
leaves_behind t (Ok numbers) = refl
leaves_behind t (Err (refused.Conflict key read now)) = refl
leaves_behind t (Err (refused.Shrunk key now)) = refl
leaves_behind t (Err (refused.NotAtomic keys)) = refl
leaves_behind t (Err (refused.Damaged key cause)) = refl
leaves_behind t (Err (refused.StoreFailed event [])) = refl
leaves_behind t (Err (refused.StoreFailed event (number ∷ done))) = let some : (length (number ∷ done) == 0) ≡ false = grind (arith, nat_tests) in sym (ap (λ b. cond b (Some (transaction_of t)) None) some)
leaves_behind t (Err refused.Memory) = tt

-- a commit
pub committed_caused : (book : BookView Opening) (old new : PassView Event Opening) (t : TxnSeen) (later : Option TxnSeen) (answer : Body) → IsRested book old → IsCommittedAs book old new t later answer → (names : Names) (line : ℕ)
    → IsCausedBy book old new (session_state names (length old.seen) (Some t)) line committing names (transaction_in later) answer
committed_caused book old new t later answer rested is names line =
    subst (IsCausedBy book old new (session_state names (length old.seen) (Some t)) line committing names (transaction_in later)) (sym is.printed)
    (subst (λ l. IsCausedBy book old new (session_state names (length old.seen) (Some t)) line committing names (transaction_in l) (body_of (commit.body_of is.result))) (sym is.stands)
    (by_act refl (commit_made (commit_by book old new (transaction_of t) is.result rested is.committed (transaction_in (left_behind t is.result)) (leaves_behind t is.result)))))

-- where no transaction stands there is none to commit
pub uncommitted_caused : (book : BookView Opening) (pass : PassView Event Opening) (names : Names) (line : ℕ) → IsCausedBy book pass pass (session_state names (length pass.seen) None) line committing names None NoTransaction
uncommitted_caused book pass names line = refused_caused book pass (session_state names (length pass.seen) None) line committing NoTransaction (inr (old_answers.no_transaction, refl, refl))

-- a write of its own
pub written_caused : (book : BookView Opening) (old new : PassView Event Opening) (line : ℕ) (v : View) (words : List ℕ) (t : TxnSeen) → transaction_of t ≡ write_alone line v words → (answer : Body) → IsRested book old
    → IsWrittenAs book old new (transaction_of t) (length words) answer → (names : Names) (asked : Line) → cell_fault v ≡ None → act_of names None asked ≡ without (cell_fault v) (Ok (writes v words))
    → IsCausedBy book old new (session_state names (length old.seen) None) line asked names None answer
written_caused book old new line v words t alone answer rested is names asked found act =
    subst (IsCausedBy book old new (session_state names (length old.seen) None) line asked names None) (sym is.printed)
    (by_act (act ∙ ap (λ f. without f (Ok (writes v words))) found)
    (write_made
    (commit_by book old new (write_alone line v words) is.result rested (subst (λ u. HasCommitted book old new u is.result) alone is.committed) (transaction_in (left_behind t is.result))
    (subst (λ u. Leaves u is.result (transaction_in (left_behind t is.result))) alone (leaves_behind t is.result)))))

-- a resize
module _ (book : BookView Opening) (old new : PassView Event Opening) (names : Names) (t : Option TxnSeen) (line : ℕ) (name : Text) (shape : List ℕ) (r : Reference) (rested : IsRested book old)
    (act : act_of names (transaction_in t) (resizing name shape) ≡ Ok (resizes r shape)) where
  abbrev before_resize : SessionState
  before_resize = session_state names (length old.seen) t

  abbrev anywhere : Fixed
  anywhere = fixed_by book.fixed finmap.empty

  module _ (answer : Result ℕ ResizeError) (turn : IsResizeTurn book old new r.number shape answer) where
    resized_own : (es : History) → new.seen ≡ turn.before ++ es → added_by old new ≡ numbered (length turn.before + 1) es
    resized_own es is = own_of_turn book old new turn.before turn.added rested turn.turn ∙ ap (numbered (length turn.before + 1)) (same_rest turn.before turn.added es (sym turn.turn.later ∙ is))

    resized_by : (body : old_answers.Body) (es : History) → new.seen ≡ turn.before ++ es → IsCausedAct anywhere old.number new.seen before_resize line (resizes r shape) names (transaction_in t) body (numbered (length turn.before + 1) es)
        → IsCausedBy book old new before_resize line (resizing name shape) names (transaction_in t) (body_of body)
    resized_by body es is row = by_act act (subst (IsCausedAct anywhere old.number new.seen before_resize line (resizes r shape) names (transaction_in t) body) (sym (resized_own es is)) row)

    none_after : new.seen ≡ turn.before → new.seen ≡ turn.before ++ []
    none_after is = is ∙ sym (append-nil turn.before)

  pub resized_caused : (answer : Result ℕ ResizeError) → IsResizeTurn book old new r.number shape answer → IsCausedBy book old new before_resize line (resizing name shape) names (transaction_in t) (body_of (resized_answer answer))
  resized_caused (Ok n) turn =
      let is = turn.answer finmap.empty in
      subst (λ m. IsCausedBy book old new before_resize line (resizing name shape) names (transaction_in t) (body_of (old_answers.resized m))) (sym is.number)
      (resized_by (Ok n) turn (old_answers.resized (length turn.before + 1)) (resized_event old.number r.number shape ∷ []) is.added (resize_made turn.before is.added is.may))
  resized_caused (Err (resize.TooManyChunks at)) turn =
      let is = turn.answer finmap.empty in
      subst (λ m. IsCausedBy book old new before_resize line (resizing name shape) names (transaction_in t) (body_of (old_answers.too_many_chunks m))) (ap length is.same ∙ sym is.after)
      (resized_by (Err (resize.TooManyChunks at)) turn (old_answers.too_many_chunks (length new.seen)) [] (none_after (Err (resize.TooManyChunks at)) turn is.same)
      (resize_much (subst (λ h. HasTooManyCut (known_after h r.number) shape) (sym is.same) is.many)))
  resized_caused (Err (resize.NotAtomic keys)) turn =
      let is = turn.answer finmap.empty in
      resized_by (Err (resize.NotAtomic keys)) turn (old_answers.not_atomic keys) [] (none_after (Err (resize.NotAtomic keys)) turn is.same)
      (resize_apart (subst (λ h. ¬ HasTooManyCut (known_after h r.number) shape) (sym is.same) is.few) (subst (λ h. IsNotAtomicResize anywhere h r.number shape keys) (sym is.same) is.apart))
  resized_caused (Err (resize.Damaged key cause)) turn =
      let is = turn.answer finmap.empty in
      resized_by (Err (resize.Damaged key cause)) turn (old_answers.damaged key cause) [] (none_after (Err (resize.Damaged key cause)) turn is.same) (resize_spoilt (subst (λ h. MayResize anywhere h r.number shape) (sym is.same) is.may))
  resized_caused (Err (resize.StoreFailed event)) turn =
      let is = turn.answer finmap.empty in
      subst (λ m. IsCausedBy book old new before_resize line (resizing name shape) names (transaction_in t) (body_of (old_answers.store_failed m [] None))) (sym is.number)
      (resized_by (Err (resize.StoreFailed event)) turn (old_answers.store_failed (length turn.before + 1) [] None) (fault old.number is.mount ∷ []) is.added (resize_failing turn.before is.added is.may is.on_mount))
  resized_caused (Err resize.Memory) turn =
      subst (IsCaused anywhere old.number new.seen before_resize line (resizing name shape) names (transaction_in t) Memory)
      (sym (resized_own (Err resize.Memory) turn [] (none_after (Err resize.Memory) turn (turn.answer finmap.empty)))) by_memory
