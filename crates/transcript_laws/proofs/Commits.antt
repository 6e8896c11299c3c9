-- The commits of a run are through views of known arrays that keep the rules.
use Rattle.std.proofs.Common.{◌≡◌, ℕ, ◌+◌, ◌-◌, ◌<◌, ◌≤◌, List, [], ◌∷◌, ◌++◌, length, take, drop, Bool, true, false, cond, Option, None, refl, sym, ap, subst, ◌∙◌, arith, append_assoc, append-nil, length-append, eq-eqb}
use Rattle.std.specs.Prelude.{◌==◌, filter}
use Rattle.std.specs.List.{AllByRecursion}
use Rattle.std.specs.FinMap as finmap
use Rattle.stack_driver.specs.Conditions.{IsView}
use Rattle.stack_driver.specs.References.{Reference}
use Rattle.history.specs.declared.event.Event.{Event}
use Rattle.history.specs.declared.event.Op.{Op}
use Rattle.history.specs.Acts.{Act, Asked, act_of}
use Rattle.history.specs.Alone.{single_store, AreOnMount}
use Rattle.history.specs.Answers.{Body, Answer}
use Rattle.history.specs.Bound.{AreCommitsKnown, IsCommitKnown, AreKnownOps, IsWithin}
use Rattle.history.specs.Commit.{Fixed, Transaction, commit_events, kept_ops, is_write, done}
use Rattle.history.specs.CommitRows.{IsCommit, conflicts, is_shrunk, is_split, is_damaged, is_done, is_failed, is_wanting, own_part}
use Rattle.history.specs.History.{History}
use Rattle.history.specs.Legal.{IsLegal, viewed}
use Rattle.history.specs.Lines.{SpecLeaf}
use Rattle.history.specs.OpenRows.{AreOpened, no_leaf, known_leaf, new_leaf, given_leaf}
use Rattle.history.specs.Own.{Numbered, numbered, own_events, fault, fault_at}
use Rattle.history.specs.Refs.{HasKnownRefs}
use Rattle.history.specs.Sessions.{Names, SessionState}
use Rattle.history.specs.Steps.{write_alone, IsRow, open_done, open_refused, open_unbuilt, open_failed, open_wanting, view_done, read_done, read_shrunk, read_damaged, read_failed, write_staged, write_done, begin_done, commit_done, abort_done, resize_done, resize_many, resize_split, resize_damaged, resize_failed, resolve_done, resolve_refused, IsAnswered, refused_line, wanting, done_line, IsSessionRun, no_line, blank_line, next_line, last_line}
use Rattle.history.proofs.ActFits.{IsActIn, IsAskedIn, act_of-in}
use Rattle.history.proofs.AloneCommits.{one_event}
use Rattle.history.proofs.AloneKeys.{commit_together}
use Rattle.history.proofs.AloneMount.{front_on}
use Rattle.history.proofs.Asking.{IsAskedBy}
use Rattle.history.proofs.Histories.{after-more}
use Rattle.history.proofs.Laws.{legal_take, view_later}
use Rattle.history.proofs.StepsKnown.{AreKnown, step_known, IsActKnown, act_of-known}
use Rattle.history.proofs.Transactions.{all_with}
use Rattle.serial_runs.specs.Runs.{Script}
use Rattle.serial_runs.proofs.Numbers.{own_parts}
use Rattle.transcript_laws.specs.Transcript.{mount}
use Rattle.transcript_laws.proofs.Checked.{IsCheckedAct, AreCheckedLines, act_checked}
use Rattle.transcript_laws.proofs.Runs.{HasNoMemory}
use Rattle.transcript_laws.proofs.Valid.{AreViewNames, IsViewOp, AreViewOps, IsViewAct, act_views, step_views}
use Rattle.transcript_laws.proofs.Views.{AreViewLines}

module _ (history : History) where
  -- what a commit writes or reads, it does through views of arrays that are known before it, which keep the rules
  abbrev pub IsKnownEvent : Numbered → Type 0
  IsKnownEvent o = IsCommitKnown (take (o.number - 1) history) o.event.kind

  abbrev pub AreKnownEvents : List Numbered → Type 0
  AreKnownEvents os = AllByRecursion IsKnownEvent os

opened_known : {owner : ℕ} {events : History} {seen : ℕ} {leaves : List SpecLeaf} {refs : List Reference} {os : List Numbered} {now : ℕ} {rest : List SpecLeaf} (history : History) → AreOpened finmap.empty owner events seen leaves refs os now rest → AreKnownEvents history os
opened_known history no_leaf = tt
opened_known history (known_leaf at k older within outcome more) = opened_known history more
opened_known history (new_leaf at meta older within new more) = (tt, opened_known history more)
opened_known history (given_leaf at older within more) = (tt, opened_known history more)

kept_known : (P : Op → Type 0) (ops : List Op) → AllByRecursion P ops → AllByRecursion P (filter is_write ops)
kept_known P [] all = tt
kept_known P (op ∷ ops) all = by (is_write op) (kept_known P ops all.1)
  where
    by : (b : Bool) → AllByRecursion P (filter is_write ops) → AllByRecursion P (cond b (op ∷ filter is_write ops) (filter is_write ops))
    by true rest = (all.0, rest)
    by false rest = rest

ops_known : (P : Op → Type 0) (t : Transaction) → AllByRecursion P t.ops → AllByRecursion P (kept_ops t)
ops_known P t all = by t.mode.repeatable_read
  where
    by : (b : Bool) → AllByRecursion P (cond b t.ops (filter is_write t.ops))
    by true = all
    by false = kept_known P t.ops all

both_known : (history : History) (seen n : ℕ) (ops : List Op) → seen ≤ n → AllByRecursion IsViewOp ops → AllByRecursion (λ op. HasKnownRefs (take seen history) (viewed op)) ops → AllByRecursion (λ op. IsView (viewed op) × HasKnownRefs (take n history) (viewed op)) ops
both_known history seen n [] low valid refs = tt
both_known history seen n (op ∷ ops) low valid refs = ((valid.0, view_later history seen n low (viewed op) refs.0), both_known history seen n ops low valid.1 refs.1)

-- own events lie behind a moment
own_behind : (owner n x : ℕ) (es : History) → x < n → AllByRecursion (λ (o : Numbered). x < o.number) (own_events owner n es)
own_behind owner n x [] low = tt
own_behind owner n x (e ∷ es) low = first (e.owner == owner) (own_behind owner (n + 1) x es (omega (arith, low)))
  where
    first : (b : Bool) → AllByRecursion (λ (o : Numbered). x < o.number) (own_events owner (n + 1) es) → AllByRecursion (λ (o : Numbered). x < o.number) (cond b (record { number = n; event = e } ∷ own_events owner (n + 1) es) (own_events owner (n + 1) es))
    first true rest = (low, rest)
    first false rest = rest

module _ (owner : ℕ) (history : History) (legal : IsLegal finmap.empty history) (on : AreOnMount mount history) (m : ℕ) (seen : ℕ) where
  abbrev fixed : Fixed
  fixed = single_store mount

  abbrev now : History
  now = take m history

  on_then : (n : ℕ) → AreOnMount mount (take n now)
  on_then n = front_on mount finmap.empty now n (legal_take finmap.empty history m legal) (front_on mount finmap.empty history m legal on)

  one : (n : ℕ) (t : Transaction) → commit_events fixed (take n now) owner t ≡ done owner t (kept_ops t) None ∷ []
  one n t = one_event fixed (take n now) owner t (commit_together mount (take n now) t.ops (on_then n))

  -- a commit behind what had been seen
  done_known : (t : Transaction) (n : ℕ) → AllByRecursion IsViewOp t.ops → AllByRecursion (λ op. HasKnownRefs (take seen history) (viewed op)) t.ops → AllByRecursion (λ (o : Numbered). seen < o.number) (numbered (n + 1) (done owner t (kept_ops t) None ∷ []))
      → AreKnownEvents history (numbered (n + 1) (done owner t (kept_ops t) None ∷ []))
  done_known t n valid refs low =
      let same : n + 1 - 1 ≡ n = omega arith in
      let first = low.0 in (
        ops_known (λ op. IsView (viewed op) × HasKnownRefs (take (n + 1 - 1) history) (viewed op)) t (both_known history seen (n + 1 - 1) t.ops (omega (arith, first, same)) valid refs),
        tt,
      )

  committed_known : {t : Transaction} {left : Option Transaction} {answer : Body} {os : List Numbered} → AllByRecursion IsViewOp t.ops → AllByRecursion (λ op. HasKnownRefs (take seen history) (viewed op)) t.ops → AllByRecursion (λ (o : Numbered). seen < o.number) os
      → IsCommit fixed owner now t left answer os → AreKnownEvents history os
  committed_known valid refs low (conflicts conflict) = tt
  committed_known valid refs low (is_shrunk free shrunk) = tt
  committed_known valid refs low (is_split free present split) = tt
  committed_known valid refs low (is_damaged may damage) = tt
  committed_known {t = t} valid refs low (is_done n may undamaged) =
      subst (λ es. AreKnownEvents history (numbered (n + 1) es)) (sym (one n t)) (done_known t n valid refs (subst (λ es. AllByRecursion (λ (o : Numbered). seen < o.number) (numbered (n + 1) es)) (one n t) low))
  committed_known {t = t} valid refs low (is_failed n count other part changed) =
      let none = part.together (commit_together mount (take n now) t.ops (on_then n)) in
      subst (λ k. AreKnownEvents history (own_part fixed owner now n t k ++ record { number = n + k + 1; event = fault owner other } ∷ [])) (sym none) (tt, tt)
  committed_known {t = t} valid refs low (is_wanting n count part) =
      let none = part.together (commit_together mount (take n now) t.ops (on_then n)) in
      subst (λ k. AreKnownEvents history (own_part fixed owner now n t k)) (sym none) tt

  row_known : (s : SessionState) (line : ℕ) (act : Act) (names : Names) (left : Option Transaction) (answer : Body) (os : List Numbered) → AllByRecursion (λ (o : Numbered). seen < o.number) os → IsCheckedAct act → IsActIn s.transaction act → IsActKnown (take seen history) act → IsViewAct act
      → AreViewOps s.transaction → AreKnownOps (take seen history) s.transaction → IsRow fixed owner now s line act names left answer os → AreKnownEvents history os
  row_known s line act names left answer os low checked fits known valid views refs (open_done opened built) = opened_known history opened
  row_known s line act names left answer os low checked fits known valid views refs (open_refused opened refusal) = opened_known history opened
  row_known s line act names left answer os low checked fits known valid views refs (open_unbuilt opened built) = opened_known history opened
  row_known s line act names left answer os low checked fits known valid views refs (open_failed {own = added} {leaf = leaf} before opened failed) =
      all_with (IsKnownEvent history) added (fault_at (before + 1) owner leaf.mount) (opened_known history opened) (tt, tt)
  row_known s line act names left answer os low checked fits known valid views refs (open_wanting opened) = opened_known history opened
  row_known s line act names left answer os low checked fits known valid views refs view_done = tt
  row_known s line act names left answer os low checked fits known valid views refs (read_done read) = tt
  row_known s line act names left answer os low checked fits known valid views refs (read_shrunk shrunk) = tt
  row_known s line act names left answer os low checked fits known valid views refs (read_damaged damaged) = tt
  row_known s line act names left answer os low checked fits known valid views refs (read_failed before fetched) = (tt, tt)
  row_known s line act names left answer os low checked fits known valid views refs write_staged = tt
  row_known s line act names left answer os low checked fits known valid views refs (write_done {view = view} {words = words} commit) = committed_known {t = write_alone line view words} (valid, tt) (known, tt) low commit
  row_known s line act names left answer os low checked fits known valid views refs begin_done = tt
  row_known s line act names left answer os low checked fits known valid views refs (commit_done {t = t} commit) = committed_known (subst AreViewOps fits views) (subst (AreKnownOps (take seen history)) fits refs) low commit
  row_known s line act names left answer os low checked fits known valid views refs abort_done = tt
  row_known s line act names left answer os low checked fits known valid views refs (resize_done n may undamaged) = absurd checked
  row_known s line act names left answer os low checked fits known valid views refs (resize_many many) = absurd checked
  row_known s line act names left answer os low checked fits known valid views refs (resize_split few split) = absurd checked
  row_known s line act names left answer os low checked fits known valid views refs (resize_damaged may damaged) = absurd checked
  row_known s line act names left answer os low checked fits known valid views refs (resize_failed n may on_mount) = absurd checked
  row_known s line act names left answer os low checked fits known valid views refs (resolve_done k first top is) = absurd checked
  row_known s line act names left answer os low checked fits known valid views refs (resolve_refused k first top is) = absurd checked

  answered_known : (s : SessionState) (line : ℕ) (asked : Asked) (names : Names) (left : Option Transaction) (answer : Body) (os : List Numbered) → AllByRecursion (λ (o : Numbered). seen < o.number) os → IsAskedBy IsCheckedAct asked → IsAskedIn s.transaction asked
      → IsAskedBy (IsActKnown (take seen history)) asked → IsAskedBy IsViewAct asked → AreViewOps s.transaction → AreKnownOps (take seen history) s.transaction → IsAnswered fixed owner now s line asked names left answer os → AreKnownEvents history os
  answered_known s line asked names left answer os low checked fits known valid views refs refused_line = tt
  answered_known s line asked names left answer os low checked fits known valid views refs wanting = tt
  answered_known s line asked names left answer os low checked fits known valid views refs (done_line {act = act} row) = row_known s line act names left answer os low checked fits known valid views refs row

module _ (owner : ℕ) (history : History) (legal : IsLegal finmap.empty history) (on : AreOnMount mount history) where
  -- the events of a session
  pub run_known_events : {s last : SessionState} {n : ℕ} {lines : Script} {log : List Answer} → AllByRecursion IsWithin lines → AreCheckedLines lines → AreViewLines lines → AreKnown (take s.seen history) s.names s.transaction → AreViewNames s.names × AreViewOps s.transaction → HasNoMemory log
      → IsSessionRun (single_store mount) owner history s n lines log last → own_events owner (last.seen + 1) (drop last.seen history) ≡ [] → AreKnownEvents history (own_events owner (s.seen + 1) (drop s.seen history))
  run_known_events within checked parts known views none no_line no_more = subst (AreKnownEvents history) (sym no_more) tt
  run_known_events within checked parts known views none (blank_line rest) no_more = run_known_events within.1 checked.1 parts known views none rest no_more
  run_known_events within checked parts known views none (next_line {s} {m} {last} {line} {asked} {answer} step goes_on rest) no_more =
      subst (AreKnownEvents history) (sym (own_parts owner history s.seen m.seen step.rises step.within))
      (all_with (IsKnownEvent history) (own_events owner (s.seen + 1) (drop s.seen (take m.seen history))) (own_events owner (m.seen + 1) (drop m.seen history))
      (answered_known owner history legal on m.seen s.seen s line (act_of s.names s.transaction asked) m.names m.transaction answer (own_events owner (s.seen + 1) (drop s.seen (take m.seen history)))
      (own_behind owner (s.seen + 1) s.seen (drop s.seen (take m.seen history)) (omega arith)) (act_checked s.names s.transaction asked checked.0) (act_of-in s.names s.transaction asked) (act_of-known (take s.seen history) s.names s.transaction asked known.0 within.0)
      (act_views s.names s.transaction asked views.0 checked.0 parts.0) views.1 known.1 step.row)
      (run_known_events within.1 checked.1 parts.1 (step_known (single_store mount) owner history s line asked m answer legal within.0 step known) (step_views (single_store mount) owner history s line asked m answer checked.0 parts.0 views step) none.1 rest no_more))
  run_known_events within checked parts known views none (last_line step) no_more = let wants : true ≡ false = none.0 in absurd (cc)

own_first : (Q : Numbered → Type 0) (b : Bool) (o : Numbered) (rest : List Numbered) → b ≡ true → AllByRecursion Q (cond b (o ∷ rest) rest) → Q o
own_first Q true o rest same all = all.0
own_first Q false o rest same all = absurd (cc)

own_rest : (Q : Numbered → Type 0) (b : Bool) (o : Numbered) (rest : List Numbered) → AllByRecursion Q (cond b (o ∷ rest) rest) → AllByRecursion Q rest
own_rest Q true o rest all = all.1
own_rest Q false o rest all = all

-- what holds of the events of each session holds of all
all_owned : (Q : Numbered → Type 0) (count n : ℕ) (es : History) → AllByRecursion (λ (e : Event). e.owner < count) es → ((k : ℕ) → k < count → AllByRecursion Q (own_events k n es)) → AllByRecursion Q (numbered n es)
all_owned Q count n [] owned each = tt
all_owned Q count n (e ∷ es) owned each = (
  own_first Q (e.owner == e.owner) (record { number = n; event = e }) (own_events e.owner (n + 1) es) (eq-eqb e.owner e.owner refl) (each e.owner owned.0),
  all_owned Q count (n + 1) es owned.1 (λ k low. own_rest Q (e.owner == k) (record { number = n; event = e }) (own_events k (n + 1) es) (each k low)),
)

commits_more : (front : History) (e : Event) → AreCommitsKnown front → IsCommitKnown front e.kind → AreCommitsKnown (front ++ e ∷ [])
commits_more front e known may = subst (λ (P : Type 0). P) (sym (after-more {A = Type 0} (λ g f all. all × IsCommitKnown g f.kind) (Unit {0}) front e)) (known, may)

commits_from : (history front es : History) → history ≡ front ++ es → AreCommitsKnown front → AreKnownEvents history (numbered (length front + 1) es) → AreCommitsKnown history
commits_from history front [] parts known all = subst AreCommitsKnown (sym (parts ∙ append-nil front)) known
commits_from history front (e ∷ es) parts known all =
    let size : length front + 1 - 1 ≡ length front = omega arith in
    let early : take (length front + 1 - 1) history ≡ front = ap (λ k. take k history) size ∙ ap (take (length front)) parts ∙ take_front front (e ∷ es) in
    let next : AreCommitsKnown (front ++ e ∷ []) = commits_more front e known (subst (λ h. IsCommitKnown h e.kind) early all.0) in
    let number : length front + 1 + 1 ≡ length (front ++ e ∷ []) + 1 = omega (arith, length-append front (e ∷ [])) in
    commits_from history (front ++ e ∷ []) es (parts ∙ sym (append_assoc front (e ∷ []) es)) next (subst (λ k. AreKnownEvents history (numbered k es)) number all.1)
  where
    take_front : (xs ys : History) → take (length xs) (xs ++ ys) ≡ xs
    take_front [] ys = refl
    take_front (x ∷ xs) ys = ap (λ l. x ∷ l) (take_front xs ys)

-- all commits of the history are known so
pub commits_known : (history : History) (count : ℕ) → AllByRecursion (λ (e : Event). e.owner < count) history → ((k : ℕ) → k < count → AreKnownEvents history (own_events k 1 history)) → AreCommitsKnown history
commits_known history count owned each = commits_from history [] history refl tt (all_owned (IsKnownEvent history) count 1 history owned each)
