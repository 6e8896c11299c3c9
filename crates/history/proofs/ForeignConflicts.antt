-- A conflict that a session answers is with another session.
use Rattle.std.proofs.Common.{◌≡◌, ◌≢◌, ℕ, ◌+◌, ◌<◌, ◌≤◌, List, [], ◌∷◌, ◌++◌, length, take, take-take, drop, Bool, true, false, cond, Option, Some, refl, sym, ap, subst, ◌∙◌, append_assoc, length-append, arith, map}
use Rattle.std.specs.Prelude.{IsTrue, Contains}
use Rattle.std.specs.List.{AllByRecursion}
use Rattle.std.proofs.lemmas.List.{take-append-drop, drop-append-le}
use Rattle.std.proofs.Math.Seq.{take-append_seam, take-length}
use Rattle.std.proofs.Math.Decide.{dec_le}
use Rattle.std.proofs.Math.Nat.{lt_of_not-le}
use Rattle.kv_face.specs.Store.{Contents}
use Rattle.stack_driver.specs.declared.view.View.{View}
use Rattle.history.specs.declared.array.ArrayInfo.{ArrayInfo}
use Rattle.history.specs.declared.event.Kind.{Kind}
use Rattle.history.specs.declared.event.Kind.TheVariants.{Opened, Done, Resized, Fault}
use Rattle.history.specs.History.{History}
use Rattle.history.specs.Arrays.{known_after}
use Rattle.history.specs.Chunks.{Chunk, is_chunk, key_of, chunk_of}
use Rattle.history.specs.Touch.{touches_by, generation_of}
use Rattle.history.specs.Acts.{Act, Asked, act_of}
use Rattle.history.specs.Answers as body
use Rattle.history.specs.Answers.{Body, Answer}
use Rattle.history.specs.Commit.{Key, Fixed, Transaction, IsConflict, is_write}
use Rattle.history.specs.CommitRows.{IsCommit, is_done, conflicts, is_failed, is_split, is_shrunk, is_damaged, is_wanting}
use Rattle.history.specs.Generations.{IsTouched, IsChange, IsForeignChange}
use Rattle.history.specs.Legal.{IsLegal}
use Rattle.history.specs.Lines.{Line}
use Rattle.history.specs.Own.{Numbered, own_events}
use Rattle.history.specs.Reads.{Marks, mark_of}
use Rattle.history.specs.Sessions.{Names, SessionState, at_first}
use Rattle.history.specs.Staged.{IsTransaction, HasTransaction}
use Rattle.history.specs.Steps.{IsRow, open_done, open_refused, open_unbuilt, open_failed, open_wanting, view_done, read_done, read_shrunk, read_damaged, read_failed, write_staged, write_done, begin_done, commit_done, abort_done, resize_done, resize_many, resize_split, resize_damaged, resize_failed, resolve_done, resolve_refused, as_written, write_alone, IsAnswered, refused_line, wanting, done_line, SessionStep, IsSessionRun, no_line, blank_line, next_line, last_line}
use Rattle.history.proofs.ActFits.{IsActIn, IsAskedIn, act_of-in}
use Rattle.history.proofs.Conflicts.{conflict_is_real, known_at_mark}
use Rattle.history.proofs.Generations.{generation_of-rises}
use Rattle.history.proofs.Histories.{generation_of-more}
use Rattle.history.proofs.Known.{no_array}
use Rattle.history.proofs.Presence.{IsLegal-front}
use Rattle.history.proofs.Quiet.{IsQuietEvent, IsQuiet, HasQuiet, IsNoChange, seen_quiet, all_parts, step_quiet}
use Rattle.history.proofs.Settled.{IsSettled, IsAskedSettled, act_of-settled, refusal_settled}
use Rattle.history.proofs.StepsKept.{kept_later, step_keeps}
use Rattle.history.proofs.Commits.{nothing_read}

-- a mark at which the chunk's generation was less lies before the event that touched it last
late_mark : (events : History) (c : Chunk) (m : ℕ) (t : IsTouched events c (generation_of events c)) → generation_of (take m events) c < generation_of events c → length t.before < m → ⊥
late_mark events c m t less high =
    let head : History = t.before ++ t.event ∷ [] in
    let parts : head ++ t.later ≡ events = append_assoc t.before (t.event ∷ []) t.later ∙ sym t.parts in
    let size : length head ≡ length t.before + 1 = length-append t.before (t.event ∷ []) in
    let rest : History = drop (length head) (take m events) in
    let front : take (length head) (take m events) ≡ head = take-take (length head) m events (omega (arith, size, high)) ∙ ap (take (length head)) (sym parts) ∙ take-append_seam head t.later in
    let whole : head ++ rest ≡ take m events = ap (λ h. h ++ rest) (sym front) ∙ take-append-drop (length head) (take m events) in
    let here : generation_of head c ≡ length t.before + 1 = generation_of-more t.before t.event c ∙ ap (λ b. cond b (length t.before + 1) (generation_of t.before c)) t.touched in
    let rises : generation_of head c ≤ generation_of (take m events) c = subst (λ h. generation_of head c ≤ generation_of h c) whole (generation_of-rises head c rest) in
    let number = t.number in
    omega (arith, here, rises, less, number)

early_mark : (a b : ℕ) → (b < a → ⊥) → a ≤ b
early_mark a b never = elim (dec_le a b) [ yes low ↦ low | no high ↦ absurd (never (lt_of_not-le high)) ]

mark_low : (begun : ℕ) (marks : Marks) (c : Chunk) → AllByRecursion (λ m. begun ≤ m.1) marks → (mark_of marks c ≡ 0 → ⊥) → begun ≤ mark_of marks c
mark_low begun [] c low some = absurd (some refl)
mark_low begun (m ∷ ms) c low some = mark_step (is_chunk m.0 c) begun m.1 (mark_of ms c) low.0 some (mark_low begun ms c low.1)
  where
    mark_step : (b : Bool) (begun m rest : ℕ) → begun ≤ m → (cond b m rest ≡ 0 → ⊥) → ((rest ≡ 0 → ⊥) → begun ≤ rest) → begun ≤ cond b m rest
    mark_step true begun m rest low some next = low
    mark_step false begun m rest low some next = next some

-- an event that touches a chunk and is no opening is a commit or a resize
change_of : (before : History) (kind : Kind) (c : Chunk) → touches_by before kind c ≡ true → ((info : ArrayInfo) → kind ≢ Opened info) → IsChange kind
change_of before (Opened info) c touched never = absurd (never info refl)
change_of before (Done line mode ops key) c touched never = tt
change_of before (Resized a shape) c touched never = tt
change_of before (Fault mount) c touched never = absurd (cc)

-- a conflict of a transaction during which its session made no change is another session's
pub conflict_is_foreign : (start : Contents) (owner : ℕ) (events : History) (t : Transaction) (key : Key) (read now : ℕ) → IsLegal start events → IsTransaction start events t → IsQuiet owner (length events) events t
    → (is : IsConflict events t key read now) → IsForeignChange owner events is.chunk read now
conflict_is_foreign start owner events t key read now legal tx quiet is =
    let c = is.chunk in
    let m = mark_of t.marks c in
    let real = conflict_is_real start events t key read now legal tx is in
    let touch = real.touch in
    let known = known_at_mark start events t c tx is.conflict.was_read in
    let low : quiet.begun ≤ m = mark_low quiet.begun t.marks c quiet.marked (λ none. no_array c.array known.0 (sym (ap (λ n. known_after (take n events) c.array) none) ∙ known.1)) in
    let at : IsTouched events c (generation_of events c) = subst (IsTouched events c) is.now_at touch in
    let late : m ≤ length at.before = early_mark m (length at.before) (late_mark events c m at is.conflict.touched) in
    let number : length at.before ≡ length touch.before = let a = at.number in let b = touch.number in let n = is.now_at in omega (arith, a, b, n) in
    let change = change_of touch.before touch.event.kind c touch.touched real.no_opening in
    let whole : AllByRecursion (IsQuietEvent owner) (drop quiet.begun events) = subst (λ h. AllByRecursion (IsQuietEvent owner) (drop quiet.begun h)) (take-length events) quiet.quiet in
    let parts : drop quiet.begun events ≡ drop quiet.begun touch.before ++ touch.event ∷ touch.later = ap (drop quiet.begun) touch.parts ∙ drop-append-le quiet.begun touch.before (touch.event ∷ touch.later) (omega (arith, low, late, number)) in
    let each = all_parts (IsQuietEvent owner) (drop quiet.begun touch.before) (touch.event ∷ touch.later) (subst (AllByRecursion (IsQuietEvent owner)) parts whole) in
    record { touch = touch; change = change; later = real.later; foreign = λ same. each.1.0 same change }

record IsCommitConflict (events : History) (left t : Option Transaction) (key : Key) (read now : ℕ) (own : List Numbered) : Type 0 where
  of : Transaction
  was : t ≡ Some of
  conflict : IsConflict events of key read now
  nothing : own ≡ []

as_conflict : (cells : ℕ) (answer : Body) (key : Key) (read now : ℕ) → as_written cells answer ≡ body.conflict key read now → answer ≡ body.conflict key read now
as_conflict cells (body.committed events) key read now is = absurd (cc)
as_conflict cells answer key read now is = is

not_asked : IsTrue false → ⊥
not_asked e = absurd (cc)

written_conflict : (fixed : Fixed) (owner : ℕ) (events : History) (line : ℕ) (view : View) (words : List ℕ) (left : Option Transaction) (inner : Body) (own : List Numbered) (key : Key) (read now : ℕ) → IsCommit fixed owner events (write_alone line view words) left inner own → inner ≡ body.conflict key read now → ⊥
written_conflict fixed owner events line view words left inner own key read now (conflicts conflict) is = not_asked conflict.conflict.asked
written_conflict fixed owner events line view words left inner own key read now (is_shrunk free shrunk) is = absurd (cc)
written_conflict fixed owner events line view words left inner own key read now (is_split free present split) is = absurd (cc)
written_conflict fixed owner events line view words left inner own key read now (is_damaged may damage) is = absurd (cc)
written_conflict fixed owner events line view words left inner own key read now (is_done n may undamaged) is = absurd (cc)
written_conflict fixed owner events line view words left inner own key read now (is_failed n count mount part changed) is = absurd (cc)
written_conflict fixed owner events line view words left inner own key read now (is_wanting n count part) is = absurd (cc)

commit_conflict : (fixed : Fixed) (owner : ℕ) (events : History) (t : Transaction) (s : Option Transaction) (left : Option Transaction) (answer : Body) (own : List Numbered) (key : Key) (read now : ℕ) → s ≡ Some t → answer ≡ body.conflict key read now → IsCommit fixed owner events t left answer own
    → IsCommitConflict events left s key read now own
commit_conflict fixed owner events t s left answer own key read now was is (conflicts {key = k} {read = r} {now = n} conflict) =
    let keys : k ≡ key = cc in
    let reads : r ≡ read = cc in
    let nows : n ≡ now = cc in
    record { of = t; was = was; conflict = subst (λ m. IsConflict events t key read m) nows (subst (λ m. IsConflict events t key m n) reads (subst (λ m. IsConflict events t m r n) keys conflict)); nothing = refl }
commit_conflict fixed owner events t s left answer own key read now was is (is_shrunk free shrunk) = absurd (cc)
commit_conflict fixed owner events t s left answer own key read now was is (is_split free present split) = absurd (cc)
commit_conflict fixed owner events t s left answer own key read now was is (is_damaged may damage) = absurd (cc)
commit_conflict fixed owner events t s left answer own key read now was is (is_done n may undamaged) = absurd (cc)
commit_conflict fixed owner events t s left answer own key read now was is (is_failed n count mount part changed) = absurd (cc)
commit_conflict fixed owner events t s left answer own key read now was is (is_wanting n count part) = absurd (cc)

row_conflict : (fixed : Fixed) (owner : ℕ) (events : History) (s : SessionState) (line : ℕ) (act : Act) (names : Names) (left : Option Transaction) (answer : Body) (own : List Numbered) (key : Key) (read now : ℕ) → IsActIn s.transaction act → answer ≡ body.conflict key read now
    → IsRow fixed owner events s line act names left answer own → IsCommitConflict events left s.transaction key read now own
row_conflict fixed owner events s line act names left answer own key read now fits is (open_done opened built) = absurd (cc)
row_conflict fixed owner events s line act names left answer own key read now fits is (open_refused {own = added} {node = node} {leaf = leaf} opened refused) = absurd (subst IsSettled is (refusal_settled node leaf refused.at _ refused.outcome answer refused.answered))
row_conflict fixed owner events s line act names left answer own key read now fits is (open_unbuilt opened built) = absurd (cc)
row_conflict fixed owner events s line act names left answer own key read now fits is (open_failed before opened failed) = absurd (cc)
row_conflict fixed owner events s line act names left answer own key read now fits is (open_wanting opened) = absurd (cc)
row_conflict fixed owner events s line act names left answer own key read now fits is view_done = absurd (cc)
row_conflict fixed owner events s line act names left answer own key read now fits is (read_done shown) = absurd (cc)
row_conflict fixed owner events s line act names left answer own key read now fits is (read_shrunk shrunk) = absurd (cc)
row_conflict fixed owner events s line act names left answer own key read now fits is (read_damaged damaged) = absurd (cc)
row_conflict fixed owner events s line act names left answer own key read now fits is (read_failed before fetched) = absurd (cc)
row_conflict fixed owner events s line act names left answer own key read now fits is write_staged = absurd (cc)
row_conflict fixed owner events s line act names left answer own key read now fits is (write_done {view = view} {words = words} {left = rest} {answer = inner} commit) = absurd (written_conflict fixed owner events line view words rest inner own key read now commit (as_conflict (length words) inner key read now is))
row_conflict fixed owner events s line act names left answer own key read now fits is begin_done = absurd (cc)
row_conflict fixed owner events s line act names left answer own key read now fits is (commit_done {t = t} commit) = commit_conflict fixed owner events t s.transaction left answer own key read now fits is commit
row_conflict fixed owner events s line act names left answer own key read now fits is abort_done = absurd (cc)
row_conflict fixed owner events s line act names left answer own key read now fits is (resize_done n may undamaged) = absurd (cc)
row_conflict fixed owner events s line act names left answer own key read now fits is (resize_many many) = absurd (cc)
row_conflict fixed owner events s line act names left answer own key read now fits is (resize_split few split) = absurd (cc)
row_conflict fixed owner events s line act names left answer own key read now fits is (resize_damaged may damaged) = absurd (cc)
row_conflict fixed owner events s line act names left answer own key read now fits is (resize_failed n may on_mount) = absurd (cc)
row_conflict fixed owner events s line act names left answer own key read now fits is (resolve_done m low high renewed) = absurd (cc)
row_conflict fixed owner events s line act names left answer own key read now fits is (resolve_refused m low high renewed) = absurd (cc)

answered_conflict : (fixed : Fixed) (owner : ℕ) (events : History) (s : SessionState) (line : ℕ) (asked : Asked) (names : Names) (left : Option Transaction) (answer : Body) (own : List Numbered) (key : Key) (read now : ℕ) → IsAskedIn s.transaction asked → IsAskedSettled asked
    → answer ≡ body.conflict key read now → IsAnswered fixed owner events s line asked names left answer own → IsCommitConflict events left s.transaction key read now own
answered_conflict fixed owner events s line asked names left answer own key read now fits settled is refused_line = absurd (subst IsSettled is settled)
answered_conflict fixed owner events s line asked names left answer own key read now fits settled is wanting = absurd (cc)
answered_conflict fixed owner events s line asked names left answer own key read now fits settled is (done_line {act = act} row) = row_conflict fixed owner events s line act names left answer own key read now fits is row

-- what a session's conflict names: the chunk of the key, as far as the session has seen, and another session's change of it
pub record IsForeignConflict (owner : ℕ) (events : History) (key : Key) (read now : ℕ) : Type 0 where
  pub chunk : Chunk
  pub named : key_of events chunk ≡ Some key
  pub foreign : IsForeignChange owner events chunk read now

-- a conflict that a step answers is with another session
pub step_foreign : (fixed : Fixed) (owner : ℕ) (events : History) (s : SessionState) (line : ℕ) (asked : Line) (next : SessionState) (answer : Body) (key : Key) (read now : ℕ) → IsLegal fixed.start events → SessionStep fixed owner events s line asked next answer
    → HasQuiet owner s.seen events s.transaction → HasTransaction fixed.start (take s.seen events) s.transaction → answer ≡ body.conflict key read now → IsForeignConflict owner (take next.seen events) key read now
step_foreign fixed owner events s line asked next answer key read now legal step quiet tx is =
    let here : History = take next.seen events in
    let rises = step.rises in
    let within = step.within in
    let own : List Numbered = own_events owner (s.seen + 1) (drop s.seen here) in
    let row = answered_conflict fixed owner here s line (act_of s.names s.transaction asked) next.names next.transaction answer own key read now (act_of-in s.names s.transaction asked) (act_of-settled s.names s.transaction asked) is step.row in
    let t : Transaction = row.of in
    let front : IsLegal fixed.start here = IsLegal-front fixed.start here (drop next.seen events) (subst (IsLegal fixed.start) (sym (take-append-drop next.seen events)) legal) in
    let reads : IsTransaction fixed.start here t = subst (HasTransaction fixed.start here) row.was (kept_later fixed.start events s.seen next.seen s.transaction legal rises tx) in
    let mine : IsQuiet owner s.seen events t = subst (HasQuiet owner s.seen events) row.was quiet in
    let calm = seen_quiet owner s.seen events t (omega (arith, rises, within)) mine next.seen rises within (subst (AllByRecursion IsNoChange) (sym row.nothing) tt) in
    record { chunk = row.conflict.chunk; named = row.conflict.named; foreign = conflict_is_foreign fixed.start owner here t key read now front reads calm row.conflict }

-- an answer that is a conflict names another session's change, as far as some step has seen
abbrev pub IsForeignAnswer : ℕ → History → Body → Type 0
IsForeignAnswer owner events answer = (key : Key) (read now : ℕ) → answer ≡ body.conflict key read now → (n : ℕ) × (n ≤ length events) × IsForeignConflict owner (take n events) key read now

-- so it is for every answer of a run
pub run_foreign : {fixed : Fixed} {owner : ℕ} (events : History) {s : SessionState} {line : ℕ} {lines : List (Option Line)} {answers : List Answer} {last : SessionState} → IsLegal fixed.start events → HasQuiet owner s.seen events s.transaction
    → HasTransaction fixed.start (take s.seen events) s.transaction → IsSessionRun fixed owner events s line lines answers last → AllByRecursion (λ (a : Answer). IsForeignAnswer owner events a.body) answers
run_foreign events legal quiet tx no_line = tt
run_foreign events legal quiet tx (blank_line rest) = run_foreign events legal quiet tx rest
run_foreign {fixed = fixed} {owner = owner} events legal quiet tx (next_line {s} {m} {last} {line} {asked} {answer} step goes_on rest) = (
  λ key read now is. (m.seen, step.within, step_foreign fixed owner events s line asked m answer key read now legal step quiet tx is),
  run_foreign events legal (step_quiet fixed owner events s line asked m answer step quiet) (step_keeps fixed owner events s line asked m answer legal step tx) rest,
)
run_foreign events legal quiet tx (last_line step) = ((λ key read now is. absurd (cc)), tt)

-- over a legal history, each conflict that a session answers names another session's commit or resize behind its read
pub session_conflicts : (fixed : Fixed) (owner : ℕ) (events : History) (lines : List (Option Line)) (answers : List Answer) (last : SessionState) → IsLegal fixed.start events → IsSessionRun fixed owner events at_first 1 lines answers last
    → AllByRecursion (λ (a : Answer). IsForeignAnswer owner events a.body) answers
session_conflicts fixed owner events lines answers last legal run = run_foreign events legal tt tt run

-- a transaction that only wrote is never answered by a conflict
pub writes_meet_none : (fixed : Fixed) (owner : ℕ) (events : History) (t : Transaction) (left : Option Transaction) (answer : Body) (own : List Numbered) (key : Key) (read now : ℕ) → AllByRecursion (λ op. is_write op ≡ true) t.ops
    → IsCommit fixed owner events t left answer own → answer ≡ body.conflict key read now → ⊥
writes_meet_none fixed owner events t left answer own key read now writes (conflicts conflict) is =
    nothing_there conflict.chunk (subst (λ xs. Contains (map (chunk_of events) xs) conflict.chunk) (nothing_read [] t.ops writes) conflict.conflict.was_read)
  where
    nothing_there : (c : Chunk) → Contains [] c → ⊥
    nothing_there c (k, low, e) = absurd (omega arith)
writes_meet_none fixed owner events t left answer own key read now writes (is_shrunk free shrunk) is = absurd (cc)
writes_meet_none fixed owner events t left answer own key read now writes (is_split free present split) is = absurd (cc)
writes_meet_none fixed owner events t left answer own key read now writes (is_damaged may damage) is = absurd (cc)
writes_meet_none fixed owner events t left answer own key read now writes (is_done n may undamaged) is = absurd (cc)
writes_meet_none fixed owner events t left answer own key read now writes (is_failed n count mount part changed) is = absurd (cc)
writes_meet_none fixed owner events t left answer own key read now writes (is_wanting n count part) is = absurd (cc)
