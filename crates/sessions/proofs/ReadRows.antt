-- A read as a row of a session's step.
use Rattle.std.proofs.Common.{◌≡◌, ◌∙◌, ◌⊎◌, inl, inr, ℕ, ◌+◌, ◌==◌, true, cond, List, [], ◌∷◌, ◌++◌, length, map, Option, Some, None, Ok, refl, sym, ap, subst, arith, append-nil, length-append}
use Rattle.std.specs.Prelude.{◌≢◌, Contains}
use Rattle.std.proofs.lemmas.Bool.Decides.{nat_tests}
use Rattle.std.proofs.lemmas.List.{append_cancel_right}
use Rattle.std.proofs.lemmas.List.Elements.{filter-append}
use mathlib.Core.List.{IsPrefix}
use Rattle.session_turns.specs.declared.Body.{Body}
use Rattle.session_turns.specs.declared.Body.TheVariants.{Memory}
use Rattle.history.specs.declared.event.Event.{Event}
use Rattle.history.specs.Acts.{reads, act_of, without}
use Rattle.history.specs.Answers as old_answers
use Rattle.history.specs.Arrays.{known_after}
use Rattle.history.specs.Chunks.{Chunk, chunk_in, chunk_of}
use Rattle.history.specs.Commit.{Transaction}
use Rattle.history.specs.History.{History}
use Rattle.history.specs.Lines.{Downsampling, Line}
use Rattle.history.specs.Own.{Numbered, fault, fault_at}
use Rattle.history.specs.ReadRows.{IsFetched, IsOnMount, IsShrunkBy, with_read}
use Rattle.history.specs.Reads.{unwritten}
use Rattle.history.specs.Refusals.{IsDamagedRead}
use Rattle.history.specs.Sessions.{Names, SessionState, plain_mode, reader}
use Rattle.history.specs.Shown.{IsRead, after_read}
use Rattle.history.specs.Steps.{IsAnswered, IsRow, done_line, read_done, read_shrunk, read_damaged, read_failed}
use Rattle.history.specs.Viewing.{cell_fault, values_body}
use Rattle.history.proofs.Laws.{known_after-more}
use Rattle.kv_face.specs.Store.{Contents}
use Rattle.session_turns.specs.Bodies.{body_of}
use Rattle.session_turns.specs.Turns.{IsRested, IsTurn, HasPassed, added_by}
use Rattle.session_turns.proofs.Laws.{own_of_turn, none_added, passed_of_turn, passed_alone, found_all, told_without, told_wanting, recorded_read}
use Rattle.sessions.specs.Commits.{HasSoundTxn}
use Rattle.sessions.specs.Reads.{IsAnsweredRead, IsReadAs, IsReadTold, IsUnread}
use Rattle.session_turns.specs.Standing.{session_state, transaction_in}
use Rattle.session_turns.specs.Told.{IsAnswerTo, IsTold, IsToldBy}
use Rattle.sessions.proofs.CommitRows.{sound_later}
use Rattle.stack_driver.specs.Conditions.{IsView}
use Rattle.stack_driver.specs.Targets.{Cell}
use Rattle.stack_driver.specs.declared.view.View.{View}
use Rattle.session_turns.specs.Agreement.{Opening}
use Rattle.session_turns.specs.Answers.{fixed_by}
use Rattle.session_turns.specs.Conditions.{IsTxnIn}
use Rattle.session_turns.specs.Reading.{IsFoundUnless, IsReadError}
use Rattle.session_turns.specs.Recording.{IsRecorded}
use Rattle.session_turns.specs.TxnTurns as turns
use Rattle.session_turns.specs.TxnTurns.{HasTurned, owner_of}
use Rattle.session_turns.specs.Txn.{TxnSeen, transaction_of}
use Rattle.session_turns.specs.declared.ReadError.{ReadError}
use Rattle.session_turns.specs.declared.ReadError.TheVariants as read
use Rattle.turn_book.specs.History.{entries_of}
use Rattle.turn_book.specs.Passes.{BookView, PassView}

-- a failed call changes no array
module _ (before : History) (owner : ℕ) (mount : List ℕ) where
  same_known : (a : ℕ) → known_after (before ++ fault owner mount ∷ []) a ≡ known_after before a
  same_known a = known_after-more before (fault owner mount) a

  same_chunks : chunk_of before ≡ chunk_of (before ++ fault owner mount ∷ [])
  same_chunks = λ i x. ap (λ k. chunk_in k x) (sym (same_known x.array)) i

  -- so a chunk that a read fetched is one that it fetches behind it
  fetched_behind : (t : Transaction) (v : View) (on : List ℕ) → IsFetched before t v on → IsFetched (before ++ fault owner mount ∷ []) t v on
  fetched_behind t v on is = record {
    chunk = is.chunk;
    needed = subst (λ (f : Cell → Chunk). Contains (map f (unwritten t.ops v)) is.chunk) same_chunks is.needed;
    unmarked = is.unmarked;
    on_mount = subst (IsOnMount on) (sym (same_known is.chunk.array)) is.on_mount;
  }

-- what begins a list of one more, and isn't all of it, begins the list
prefix_short : (xs before rest : History) (e : Event) → xs ++ rest ≡ before ++ e ∷ [] → rest ≢ [] → IsPrefix xs before
prefix_short [] before rest e split some = (before, refl)
prefix_short (x ∷ xs) [] rest e split some = absurd (some (none xs (let tails : xs ++ rest ≡ [] = cc in tails)))
  where
    none : (ys : History) → ys ++ rest ≡ [] → rest ≡ []
    none [] is = is
    none (y ∷ ys) is = absurd (let no_such : ⊥ = cc in no_such)
prefix_short (x ∷ xs) (y ∷ before) rest e split some =
    let heads : x ≡ y = cc in
    let tails : xs ++ rest ≡ before ++ e ∷ [] = cc in
    let p = prefix_short xs before rest e tails some in
    (p.0, ap (λ h. x ∷ h) p.1 ∙ ap (λ z. z ∷ before) heads)

itself : (n : ℕ) → (n == n) ≡ true
itself n = grind (arith, nat_tests)

own_fault : (owner : ℕ) (mount : List ℕ) → entries_of owner_of owner (fault owner mount ∷ []) ≡ fault owner mount ∷ []
own_fault owner mount = ap (λ b. cond b (fault owner mount ∷ []) []) (itself owner)

module _ (book : BookView Opening) (old new : PassView Event Opening) (rested : IsRested book old) where
  -- turns that added nothing
  quiet_turn : HasTurned book old new [] → IsTurn book old new new.seen []
  quiet_turn turned = record {
    grown = turned.before;
    others = ap (λ n. entries_of owner_of n new.seen) (sym turned.number) ∙ turned.own ∙ turned.mine ∙ append-nil old.mine;
    later = sym (append-nil new.seen);
    added_own = refl;
    turned = turned;
  }

  pub none_read : turns.HasPassed book old new [] → added_by old new ≡ []
  none_read (inl same) = ap (added_by old) same ∙ none_added old
  none_read (inr turned) = own_of_turn book old new new.seen [] rested (quiet_turn turned)

  pub read_rests : turns.HasPassed book old new [] → HasPassed book old new
  read_rests (inl same) = subst (HasPassed book old) (sym same) (passed_alone book old rested)
  read_rests (inr turned) = passed_of_turn book old new [] turned

  module _ (before : History) (mount : List ℕ) (added : new.seen ≡ before ++ fault old.number mount ∷ []) (turned : HasTurned book old new (fault old.number mount ∷ [])) where
    mine : entries_of owner_of old.number new.seen ≡ old.mine ++ fault old.number mount ∷ []
    mine = ap (λ n. entries_of owner_of n new.seen) (sym turned.number) ∙ turned.own ∙ turned.mine

    more : turned.before.0 ≢ []
    more none =
        let whole : old.seen ≡ new.seen = sym (append-nil old.seen) ∙ ap (λ h. old.seen ++ h) (sym none) ∙ turned.before.1 in
        let same : old.mine ≡ old.mine ++ fault old.number mount ∷ [] = sym rested.own ∙ ap (entries_of owner_of old.number) whole ∙ mine in
        let long = ap length same in
        let sum = length-append old.mine (fault old.number mount ∷ []) in
        absurd (omega (arith, long, sum))

    -- the turn in which the call failed
    failed_turn : IsTurn book old new before (fault old.number mount ∷ [])
    failed_turn = record {
      grown = prefix_short old.seen before turned.before.0 (fault old.number mount) (turned.before.1 ∙ added) more;
      others =
          append_cancel_right (entries_of owner_of old.number before) old.mine (fault old.number mount ∷ [])
          (ap (λ es. entries_of owner_of old.number before ++ es) (sym (own_fault old.number mount)) ∙ sym (filter-append (λ (e : Event). e.owner == old.number) before (fault old.number mount ∷ []))
          ∙ ap (entries_of owner_of old.number) (sym added) ∙ mine);
      later = added;
      added_own = own_fault old.number mount;
      turned = turned;
    }

    pub failed_own : added_by old new ≡ fault_at (length before + 1) old.number mount
    failed_own = own_of_turn book old new before (fault old.number mount ∷ []) rested failed_turn

-- the transaction that stands behind a read, where one stood
abbrev pub behind : Option TxnSeen → TxnSeen → Option TxnSeen
behind None later = None
behind (Some t) later = Some later

pub still : (st : Option TxnSeen) (line : ℕ) (t later : TxnSeen) → reader line (transaction_in st) ≡ transaction_of t → later ≡ t → transaction_in st ≡ transaction_in (behind st later)
still None line t later is same = refl
still (Some u) line t later is same = ap Some (is ∙ ap transaction_of (sym same))

-- a row of a read
module _ (book : BookView Opening) (old new : PassView Event Opening) (rested : IsRested book old) (st : Option TxnSeen) (t later : TxnSeen) (v : View) (down : Option Downsampling) (names : Names) (line : ℕ) (asked : Line)
    (reads_by : reader line (transaction_in st) ≡ transaction_of t) (act : act_of names (transaction_in st) asked ≡ without (cell_fault v) (Ok (reads v down))) where
  abbrev state : SessionState
  state = session_state names (length old.seen) st

  abbrev Row : Contents → Option Transaction → old_answers.Body → List Numbered → Type 0
  Row start left body own = IsRow (fixed_by book.fixed start) old.number new.seen state line (reads v down) names left body own

  row_told : (start : Contents) (left : Option Transaction) (body : old_answers.Body) (own : List Numbered) → cell_fault v ≡ None → added_by old new ≡ own → Row start left body own
      → IsTold (fixed_by book.fixed start) old.number new.seen state line asked names left (body_of body) (added_by old new)
  row_told start left body own found is row = record {
    body = body;
    printed = refl;
    row =
        subst (λ a. IsAnswered (fixed_by book.fixed start) old.number new.seen state line a names left body (added_by old new)) (sym (act ∙ ap (λ f. without f (Ok (reads v down))) found))
        (subst (IsAnswered (fixed_by book.fixed start) old.number new.seen state line (Ok (reads v down)) names left body) (sym is) (done_line row));
  }

  -- want of memory behind turns that added nothing
  wanting_told : (start : Contents) → added_by old new ≡ [] → IsTold (fixed_by book.fixed start) old.number new.seen state line asked names (transaction_in st) Memory (added_by old new)
  wanting_told start none =
      subst (IsTold (fixed_by book.fixed start) old.number new.seen state line asked names (transaction_in st) Memory) (sym none) (told_wanting (fixed_by book.fixed start) old.number new.seen state line asked Memory refl)

  -- a view that was read
  done_told : (answer : Body) → IsReadAs book old new t later v down answer → IsReadTold book old new names st (behind st later) line asked answer
  done_told answer is = by is.printed
    where
      left_of : (s : Option TxnSeen) → reader line (transaction_in s) ≡ transaction_of t → with_read (transaction_in s) v is.words is.read.marks ≡ transaction_in (behind s later)
      left_of None same = refl
      left_of (Some u) same = ap Some (ap (λ w. after_read w v is.words is.read.marks) same ∙ sym is.read.after)

      by : (answer ≡ body_of (values_body v down is.words)) ⊎ (answer ≡ Memory) → IsReadTold book old new names st (behind st later) line asked answer
      by (inl printed) = record {
        left = with_read (transaction_in st) v is.words is.read.marks;
        told = λ start told.
            subst (λ b. IsTold (fixed_by book.fixed start) old.number new.seen state line asked names (with_read (transaction_in st) v is.words is.read.marks) b (added_by old new)) (sym printed)
            (row_told start (with_read (transaction_in st) v is.words is.read.marks) (values_body v down is.words) [] (found_all v is.read.sound.targets) (none_read book old new rested is.passed)
            (read_done (subst (λ u. IsRead (fixed_by book.fixed start) new.seen (length old.seen) u v is.words is.read.marks) (sym reads_by) (record { marked = is.read.marked; shown = is.read.shown start told }))));
        stands = λ some. left_of st reads_by;
      }
      by (inr wants) = record {
        left = transaction_in st;
        told = λ start told.
            subst (λ b. IsTold (fixed_by book.fixed start) old.number new.seen state line asked names (transaction_in st) b (added_by old new)) (sym wants) (wanting_told start (none_read book old new rested is.passed));
        stands = λ some. absurd (some wants);
      }

  -- one that wasn't
  refused_told : (answer : Body) (error : ReadError) → IsReadError book old new t v error → IsFoundUnless v error → IsUnread v error answer → IsToldBy book old new state line asked names (transaction_in st) answer
  refused_told answer (read.View wrong) why found told start is =
      subst (λ p. IsToldBy book old p state line asked names (transaction_in st) answer) (sym why.1)
      (told_without book old state line asked answer (subst (λ a. IsAnswerTo a answer) (sym act) (told (Ok (reads v down))))) start is
  refused_told answer (read.StoreFailed event) why found told start is =
      subst (λ b. IsTold (fixed_by book.fixed start) old.number new.seen state line asked names (transaction_in st) b (added_by old new)) (sym (told ∙ ap (λ n. body_of (old_answers.store_failed n [] None)) why.number))
      (row_told start (transaction_in st) (old_answers.store_failed (length why.before + 1) [] None) (fault_at (length why.before + 1) old.number why.mount) (found_all v found) (failed_own book old new rested why.before why.mount why.added why.turned)
      (read_failed (length why.before) (subst (λ u. IsFetched new.seen u v why.mount) (sym reads_by) (subst (λ h. IsFetched h (transaction_of t) v why.mount) (sym why.added) (fetched_behind why.before old.number why.mount (transaction_of t) v why.mount why.fetched)))))
  refused_told answer (read.Damaged key cause) why found told start is =
      subst (λ b. IsTold (fixed_by book.fixed start) old.number new.seen state line asked names (transaction_in st) b (added_by old new)) (sym told)
      (row_told start (transaction_in st) (old_answers.damaged key cause) [] (found_all v found) (none_read book old new rested (inr why.0))
      (read_damaged (subst (λ u. IsDamagedRead (fixed_by book.fixed start) new.seen u v key cause) (sym reads_by) (why.1 (fixed_by book.fixed start) is))))
  refused_told answer (read.Shrunk key now) why found told start is =
      subst (λ b. IsTold (fixed_by book.fixed start) old.number new.seen state line asked names (transaction_in st) b (added_by old new)) (sym told)
      (row_told start (transaction_in st) (old_answers.shrunk key now) [] (found_all v found) (none_read book old new rested (inr why.0))
      (read_shrunk (subst (λ u. IsShrunkBy new.seen (length old.seen) u v key now) (sym reads_by) why.1)))
  refused_told answer read.Memory why found told start is =
      subst (λ b. IsTold (fixed_by book.fixed start) old.number new.seen state line asked names (transaction_in st) b (added_by old new)) (sym told) (wanting_told start (none_read book old new rested why))

  -- either is told by a row
  pub read_told : (answer : Body) → IsAnsweredRead book old new t later v down answer → IsReadTold book old new names st (behind st later) line asked answer
  read_told answer (inl is) = done_told answer is
  read_told answer (inr is) = record { left = transaction_in st; told = refused_told answer is.error is.why is.found is.told; stands = λ some. still st line t later reads_by is.same }

-- in a transaction that stands, and in one of its own
pub inside_told : (book : BookView Opening) (old new : PassView Event Opening) → IsRested book old → (t later : TxnSeen) (v : View) (down : Option Downsampling) (names : Names) (line : ℕ) (asked : Line) (st : Option TxnSeen) → st ≡ Some t
    → act_of names (transaction_in st) asked ≡ without (cell_fault v) (Ok (reads v down)) → (answer : Body) → IsAnsweredRead book old new t later v down answer → IsReadTold book old new names st (Some later) line asked answer
inside_told book old new rested t later v down names line asked st is act answer read =
    subst (λ s. IsReadTold book old new names s (Some later) line asked answer) (sym is)
    (read_told book old new rested (Some t) t later v down names line asked refl (ap (λ s. act_of names (transaction_in s) asked) (sym is) ∙ act) answer read)

pub outside_told : (book : BookView Opening) (old new : PassView Event Opening) → IsRested book old → (t later : TxnSeen) (v : View) (down : Option Downsampling) (names : Names) (line : ℕ) (asked : Line)
    → t ≡ record { line = line; mode = plain_mode; ops = []; staged = []; kept = [] } → act_of names None asked ≡ without (cell_fault v) (Ok (reads v down)) → (answer : Body) → IsAnsweredRead book old new t later v down answer
    → IsReadTold book old new names None None line asked answer
outside_told book old new rested t later v down names line asked begun act answer read = read_told book old new rested None t later v down names line asked (sym (ap transaction_of begun)) act answer read

-- a line that is refused before the read
pub refused_before : (book : BookView Opening) (old : PassView Event Opening) (names : Names) (t : Option TxnSeen) (line : ℕ) (asked : Line) (answer : Body) → IsAnswerTo (act_of names (transaction_in t) asked) answer → IsReadTold book old old names t t line asked answer
refused_before book old names t line asked answer refused = record {
  left = transaction_in t;
  told = told_without book old (session_state names (length old.seen) t) line asked answer refused;
  stands = λ some. refl;
}

-- behind a read the pass rests
refused_rests : (book : BookView Opening) (old new : PassView Event Opening) (t : TxnSeen) (v : View) (error : ReadError) → IsRested book old → IsReadError book old new t v error → HasPassed book old new
refused_rests book old new t v (read.View wrong) rested why = subst (HasPassed book old) (sym why.1) (passed_alone book old rested)
refused_rests book old new t v (read.StoreFailed event) rested why = passed_of_turn book old new (fault old.number why.mount ∷ []) why.turned
refused_rests book old new t v (read.Damaged key cause) rested why = passed_of_turn book old new [] why.0
refused_rests book old new t v (read.Shrunk key now) rested why = passed_of_turn book old new [] why.0
refused_rests book old new t v read.Memory rested why = read_rests book old new rested why

pub read_passed : (book : BookView Opening) (old new : PassView Event Opening) (t later : TxnSeen) (v : View) (down : Option Downsampling) (answer : Body) → IsRested book old → IsAnsweredRead book old new t later v down answer → HasPassed book old new
read_passed book old new t later v down answer rested (inl is) = read_rests book old new rested is.passed
read_passed book old new t later v down answer rested (inr is) = refused_rests book old new t v is.error rested is.why

-- and its transaction is right and recorded
pub read_sound : (book : BookView Opening) (old new : PassView Event Opening) (t later : TxnSeen) (v : View) (down : Option Downsampling) (answer : Body) → IsRested book old → IsView v → HasSoundTxn book.fixed old.seen (Some t)
    → IsTxnIn book.fixed new.seen later → IsAnsweredRead book old new t later v down answer → HasSoundTxn book.fixed new.seen (Some later)
read_sound book old new t later v down answer rested view sound txn (inl is) =
    let r = is.read in
    let now = sound_later book old new (Some t) (read_rests book old new rested is.passed) sound in (
      txn,
      subst (IsRecorded book.fixed new.seen) (sym r.after) (recorded_read book.fixed new.seen (length old.seen) (transaction_of t) v is.words r.marks now.1 r.marked view r.sound r.shown),
    )
read_sound book old new t later v down answer rested view sound txn (inr is) =
    subst (λ u. HasSoundTxn book.fixed new.seen (Some u)) (sym is.same) (sound_later book old new (Some t) (refused_rests book old new t v is.error rested is.why) sound)
