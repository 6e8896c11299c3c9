-- Over a legal history, what a session's transaction has read stands by its marks, line after line.
use Rattle.std.proofs.Common.{◌≡◌, ℕ, ◌+◌, ◌≤◌, List, [], ◌∷◌, ◌++◌, take, take-take, drop, Bool, true, false, cond, Option, Some, None, refl, sym, ap, subst, ◌∙◌}
use Rattle.std.specs.Prelude.{◌==◌}
use Rattle.std.proofs.lemmas.List.{take-append-drop}
use Rattle.kv_face.specs.Store.{Contents}
use Rattle.stack_driver.specs.declared.view.View.{View}
use Rattle.history.specs.declared.event.Op.TheVariants.{Read}
use Rattle.history.specs.History.{History}
use Rattle.history.specs.Acts.{Act, Asked, act_of}
use Rattle.history.specs.Answers as body
use Rattle.history.specs.Answers.{Body, Answer}
use Rattle.history.specs.Commit.{Fixed, Transaction}
use Rattle.history.specs.CommitRows.{IsCommit, is_done, conflicts, is_failed, is_split, is_shrunk, is_damaged, is_wanting}
use Rattle.history.specs.Legal.{IsLegal}
use Rattle.history.specs.Lines.{Line}
use Rattle.history.specs.Own.{Numbered, own_events}
use Rattle.history.specs.ReadRows.{with_read}
use Rattle.history.specs.Reads.{Marks}
use Rattle.history.specs.Sessions.{Names, SessionState, reader}
use Rattle.history.specs.Shown.{IsRead}
use Rattle.history.specs.Staged.{IsTransaction, HasTransaction}
use Rattle.history.specs.Steps.{IsRow, open_done, open_refused, open_unbuilt, open_failed, open_wanting, view_done, read_done, read_shrunk, read_damaged, read_failed, write_staged, write_done, begin_done, commit_done, abort_done, resize_done, resize_many, resize_split, resize_damaged, resize_failed, resolve_done, resolve_refused, IsAnswered, refused_line, wanting, done_line, SessionStep, IsSessionRun, no_line, blank_line, next_line, last_line}
use Rattle.history.proofs.ActFits.{IsActIn, IsAskedIn, act_of-in}
use Rattle.history.proofs.Presence.{IsLegal-front}
use Rattle.history.proofs.Transactions.{transaction_begun, transaction_written, transaction_read, transaction_longer}

read_keeps : (fixed : Fixed) (events : History) (seen : ℕ) (t : Transaction) (view : View) (words : List ℕ) (marks : Marks) (b : Bool) → IsTransaction fixed.start events t → IsRead fixed events seen t view words marks
    → IsTransaction fixed.start events (cond b (record t { ops = t.ops ++ Read view words ∷ []; marks = marks }) t)
read_keeps fixed events seen t view words marks true tx read = transaction_read fixed events seen t view words marks tx read
read_keeps fixed events seen t view words marks false tx read = tx

after_keeps : (fixed : Fixed) (events : History) (seen line : ℕ) (t : Option Transaction) (view : View) (words : List ℕ) (marks : Marks) → HasTransaction fixed.start events t → IsRead fixed events seen (reader line t) view words marks → HasTransaction fixed.start events (with_read t view words marks)
after_keeps fixed events seen line None view words marks tx read = tt
after_keeps fixed events seen line (Some t) view words marks tx read = read_keeps fixed events seen t view words marks t.mode.repeatable_read tx read

left_keeps : (start : Contents) (events : History) (b : Bool) (t : Transaction) → IsTransaction start events t → HasTransaction start events (cond b (Some t) None)
left_keeps start events true t tx = tx
left_keeps start events false t tx = tt

commit_keeps : (fixed : Fixed) (owner : ℕ) (events : History) (t : Transaction) (left : Option Transaction) (answer : Body) (own : List Numbered) → IsCommit fixed owner events t left answer own → IsTransaction fixed.start events t → HasTransaction fixed.start events left
commit_keeps fixed owner events t left answer own (conflicts conflict) tx = tt
commit_keeps fixed owner events t left answer own (is_shrunk free shrunk) tx = tt
commit_keeps fixed owner events t left answer own (is_split free present split) tx = tt
commit_keeps fixed owner events t left answer own (is_damaged may damage) tx = tx
commit_keeps fixed owner events t left answer own (is_done n may undamaged) tx = tt
commit_keeps fixed owner events t left answer own (is_failed n count mount part changed) tx = left_keeps fixed.start events (count == 0) t tx
commit_keeps fixed owner events t left answer own (is_wanting n count part) tx = left_keeps fixed.start events (count == 0) t tx

of_act : (start : Contents) (events : History) (t : Option Transaction) (u : Transaction) → t ≡ Some u → HasTransaction start events t → IsTransaction start events u
of_act start events t u is tx = subst (HasTransaction start events) is tx

row_keeps : (fixed : Fixed) (owner : ℕ) (events : History) (s : SessionState) (line : ℕ) (act : Act) (names : Names) (left : Option Transaction) (answer : Body) (own : List Numbered) → IsRow fixed owner events s line act names left answer own → IsActIn s.transaction act
    → HasTransaction fixed.start events s.transaction → HasTransaction fixed.start events left
row_keeps fixed owner events s line act names left answer own (open_done opened built) fits tx = tx
row_keeps fixed owner events s line act names left answer own (open_refused opened refused) fits tx = tx
row_keeps fixed owner events s line act names left answer own (open_unbuilt opened built) fits tx = tx
row_keeps fixed owner events s line act names left answer own (open_failed before opened failed) fits tx = tx
row_keeps fixed owner events s line act names left answer own (open_wanting opened) fits tx = tx
row_keeps fixed owner events s line act names left answer own view_done fits tx = tx
row_keeps fixed owner events s line act names left answer own (read_done {view = view} {words = words} {marks = marks} read) fits tx = after_keeps fixed events s.seen line s.transaction view words marks tx read
row_keeps fixed owner events s line act names left answer own (read_shrunk shrunk) fits tx = tx
row_keeps fixed owner events s line act names left answer own (read_damaged damaged) fits tx = tx
row_keeps fixed owner events s line act names left answer own (read_failed before fetched) fits tx = tx
row_keeps fixed owner events s line act names left answer own (write_staged {t = t} {view = view} {words = words}) fits tx = transaction_written fixed.start events t view words (of_act fixed.start events s.transaction t fits tx)
row_keeps fixed owner events s line act names left answer own (write_done commit) fits tx = tt
row_keeps fixed owner events s line act names left answer own begin_done fits tx = transaction_begun fixed.start events _ refl refl
row_keeps fixed owner events s line act names left answer own (commit_done {t = t} commit) fits tx = commit_keeps fixed owner events t left answer own commit (of_act fixed.start events s.transaction t fits tx)
row_keeps fixed owner events s line act names left answer own abort_done fits tx = tt
row_keeps fixed owner events s line act names left answer own (resize_done n may undamaged) fits tx = tx
row_keeps fixed owner events s line act names left answer own (resize_many many) fits tx = tx
row_keeps fixed owner events s line act names left answer own (resize_split few split) fits tx = tx
row_keeps fixed owner events s line act names left answer own (resize_damaged may damaged) fits tx = tx
row_keeps fixed owner events s line act names left answer own (resize_failed n may on_mount) fits tx = tx
row_keeps fixed owner events s line act names left answer own (resolve_done m low high renewed) fits tx = tx
row_keeps fixed owner events s line act names left answer own (resolve_refused m low high renewed) fits tx = tx

answered_keeps : (fixed : Fixed) (owner : ℕ) (events : History) (s : SessionState) (line : ℕ) (asked : Asked) (names : Names) (left : Option Transaction) (answer : Body) (own : List Numbered) → IsAnswered fixed owner events s line asked names left answer own → IsAskedIn s.transaction asked
    → HasTransaction fixed.start events s.transaction → HasTransaction fixed.start events left
answered_keeps fixed owner events s line asked names left answer own refused_line fits tx = tx
answered_keeps fixed owner events s line asked names left answer own wanting fits tx = tx
answered_keeps fixed owner events s line asked names left answer own (done_line {act = act} row) fits tx = row_keeps fixed owner events s line act names left answer own row fits tx

longer_keeps : (start : Contents) (early late : History) (t : Option Transaction) → IsLegal start (early ++ late) → HasTransaction start early t → HasTransaction start (early ++ late) t
longer_keeps start early late None legal tx = tt
longer_keeps start early late (Some t) legal tx = transaction_longer start early late t legal tx

-- what was on the events seen before stands on those that are seen in the end
pub kept_later : (start : Contents) (events : History) (seen later : ℕ) (t : Option Transaction) → IsLegal start events → seen ≤ later → HasTransaction start (take seen events) t → HasTransaction start (take later events) t
kept_later start events seen later t legal rises tx =
    let now : History = take later events in
    let parts : take seen events ++ drop seen now ≡ now = ap (λ h. h ++ drop seen now) (sym (take-take seen later events rises)) ∙ take-append-drop seen now in
    let here : IsLegal start now = IsLegal-front start now (drop later events) (subst (IsLegal start) (sym (take-append-drop later events)) legal) in
    subst (λ h. HasTransaction start h t) parts (longer_keeps start (take seen events) (drop seen now) t (subst (IsLegal start) (sym parts) here) tx)

-- a step keeps that the transaction stands on what was seen
pub step_keeps : (fixed : Fixed) (owner : ℕ) (events : History) (s : SessionState) (line : ℕ) (asked : Line) (next : SessionState) (answer : Body) → IsLegal fixed.start events → SessionStep fixed owner events s line asked next answer
    → HasTransaction fixed.start (take s.seen events) s.transaction → HasTransaction fixed.start (take next.seen events) next.transaction
step_keeps fixed owner events s line asked next answer legal step tx =
    let now : History = take next.seen events in
    let old = kept_later fixed.start events s.seen next.seen s.transaction legal step.rises tx in
    answered_keeps fixed owner now s line (act_of s.names s.transaction asked) next.names next.transaction answer (own_events owner (s.seen + 1) (drop s.seen now)) step.row (act_of-in s.names s.transaction asked) old

-- so does a run
pub run_keeps : {fixed : Fixed} {owner : ℕ} (events : History) {s : SessionState} {line : ℕ} {lines : List (Option Line)} {answers : List Answer} {last : SessionState} → IsLegal fixed.start events → IsSessionRun fixed owner events s line lines answers last
    → HasTransaction fixed.start (take s.seen events) s.transaction → HasTransaction fixed.start (take last.seen events) last.transaction
run_keeps events legal no_line tx = tx
run_keeps events legal (blank_line rest) tx = run_keeps events legal rest tx
run_keeps {fixed = fixed} {owner = owner} events legal (next_line {s} {m} {last} {line} {asked} {answer} step goes_on rest) tx = run_keeps events legal rest (step_keeps fixed owner events s line asked m answer legal step tx)
run_keeps {fixed = fixed} {owner = owner} events legal (last_line {s} {last} {line} {asked} step) tx = step_keeps fixed owner events s line asked last body.memory legal step tx
