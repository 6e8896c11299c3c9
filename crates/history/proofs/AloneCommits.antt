-- A commit of a session alone is done, behind all that happened.
use Rattle.std.proofs.Common.{◌≡◌, ℕ, zero, suc, ◌+◌, ◌<◌, List, [], ◌∷◌, ◌++◌, length, map, take, Bool, true, false, cond, None, sym, ap, subst, ◌∙◌, arith}
use Rattle.std.specs.Prelude.{Contains, ◌||◌}
use Rattle.std.specs.List.{AllByRecursion}
use Rattle.std.proofs.Math.Seq.{take-length, take-append_seam}
use Rattle.history.specs.declared.event.Event.{Event}
use Rattle.history.specs.History.{History}
use Rattle.history.specs.Answers as body
use Rattle.history.specs.Chunks.{Chunk, is_chunk, chunk_of}
use Rattle.history.specs.Commit.{Key, Fixed, Transaction, commit_events, done, done_each, changed_keys, kept_ops, read_generation, CommitTogether, IsConflict}
use Rattle.history.specs.Legal.{is_present}
use Rattle.history.specs.Own.{Numbered, numbered, numbers_of}
use Rattle.history.specs.Reads.{Marks, mark_of, has_mark, first_reads}
use Rattle.history.specs.Single.{Single, LineDone, unless_outside, first_outside, commit_alone}
use Rattle.history.specs.Staged.{AreInShapes}
use Rattle.history.specs.Touch.{generation_of}
use Rattle.history.specs.Writes.{Put, puts_of}
use Rattle.stack_driver.specs.Targets.{Cell}
use Rattle.history.proofs.Alone.{IsGrown, numbered_same, numbered_first}
use Rattle.history.proofs.AloneReads.{AreMarkedAt, none_outside}
use Rattle.history.proofs.AloneShrunk.{among_put, each_of}

pub one_event : (fixed : Fixed) (events : History) (owner : ℕ) (t : Transaction) → CommitTogether fixed events t.ops → commit_events fixed events owner t ≡ done owner t (kept_ops t) None ∷ []
one_event fixed events owner t together = ap (λ b. cond b (done owner t (kept_ops t) None ∷ []) (done_each owner t (kept_ops t) (changed_keys events t.ops))) together

cells_present : (events : History) (puts : List Put) → ((x : Cell) → Contains (map (λ (p : Put). p.0) puts) x → is_present events x ≡ true) → AllByRecursion (λ x. is_present events x ≡ true) (map (λ (p : Put). p.0) puts)
cells_present events puts inside = each_of (λ x. is_present events x ≡ true) (map (λ (p : Put). p.0) puts) inside

pub judged_at : (owner n : ℕ) (past now : History) (e : Event) (es : List Event) → es ≡ e ∷ [] → IsGrown owner past now (numbered (n + 1) es) → n ≡ length past
judged_at owner n past now e es is grown =
    let same : n + 1 ≡ length past + 1 = numbered_first (n + 1) (length past + 1) e [] grown.new (subst (λ xs. numbered (n + 1) xs ≡ numbered (length past + 1) grown.new) is grown.in_order) in
    omega arith

pub before_is : (owner n : ℕ) (past now : History) (own : List Numbered) → n ≡ length past → IsGrown owner past now own → take n now ≡ past
before_is owner n past now own is grown = ap (take n) grown.parts ∙ ap (λ k. take k (past ++ grown.new)) is ∙ take-append_seam past grown.new

-- the transaction without marks
abbrev pub bare : Transaction → Transaction
bare t = record t { marks = [] }

abbrev pub after_commit : Fixed → ℕ → Single → Transaction → LineDone
after_commit fixed owner x t = record {
  after = record { names = x.names; events = x.events ++ commit_events fixed x.events owner t; transaction = None };
  body = body.committed (numbers_of (numbered (length x.events + 1) (commit_events fixed x.events owner t)));
}

pub commit_is : (fixed : Fixed) (owner : ℕ) (x : Single) (t : Transaction) → first_outside x.events (map (λ (p : Put). p.0) (puts_of t.ops)) ≡ None → commit_alone fixed owner x (bare t) ≡ after_commit fixed owner x t
commit_is fixed owner x t none = ap (λ o. unless_outside x None o (after_commit fixed owner x t)) none

pub none_of_puts : (events : History) (t : Transaction) → AreInShapes events t.ops → first_outside events (map (λ (p : Put). p.0) (puts_of t.ops)) ≡ None
none_of_puts events t inside = none_outside events _ (cells_present events (puts_of t.ops) (λ x there. inside x (among_put (puts_of t.ops) x there)))

-- a commit that was done
pub done_alone : (fixed : Fixed) (owner n : ℕ) (x : Single) (now : History) (t : Transaction) → CommitTogether fixed (take n now) t.ops → AreInShapes (take n now) t.ops → IsGrown owner x.events now (numbered (n + 1) (commit_events fixed (take n now) owner t))
    → commit_alone fixed owner x (bare t) ≡ record { after = record { names = x.names; events = now; transaction = None }; body = body.committed (numbers_of (numbered (n + 1) (commit_events fixed (take n now) owner t))) }
done_alone fixed owner n x now t together inside grown =
    let at : n ≡ length x.events = judged_at owner n x.events now (done owner t (kept_ops t) None) (commit_events fixed (take n now) owner t) (one_event fixed (take n now) owner t together) grown in
    let before : take n now ≡ x.events = before_is owner n x.events now _ at grown in
    let new : commit_events fixed (take n now) owner t ≡ grown.new = numbered_same (n + 1) (length x.events + 1) (commit_events fixed (take n now) owner t) grown.new grown.in_order in
    let here : commit_events fixed x.events owner t ≡ commit_events fixed (take n now) owner t = ap (λ h. commit_events fixed h owner t) (sym before) in
    commit_is fixed owner x t (none_of_puts x.events t (subst (λ h. AreInShapes h t.ops) before inside))
    ∙ (λ i. record {
      after = record { names = x.names; events = (ap (λ es. x.events ++ es) (here ∙ new) ∙ sym grown.parts) i; transaction = None };
      body = body.committed (numbers_of (numbered (sym at i + 1) (here i)));
    })

-- each chunk of the footprint has a mark, and all marks are of the present
pub record IsMarkedNow (events : History) (t : Transaction) : Type 0 where
  pub marked : AreMarkedAt (length events) t.marks
  pub complete : AllByRecursion (λ x. has_mark t.marks (chunk_of events x) ≡ true) (first_reads [] t.ops)

chunk_mark : (n : ℕ) (marks : Marks) (c : Chunk) → AreMarkedAt n marks → has_mark marks c ≡ true → mark_of marks c ≡ n
chunk_mark n [] c at has = absurd (cc)
chunk_mark n (m ∷ ms) c at has = found (is_chunk m.0 c) m.1 (mark_of ms c) at.0 has (chunk_mark n ms c at.1)
  where
    found : (b : Bool) (m rest : ℕ) {r : Bool} → m ≡ n → (b || r) ≡ true → (r ≡ true → rest ≡ n) → cond b m rest ≡ n
    found true m rest here has next = here
    found false m rest here has next = next has

mark_complete : (events : History) (marks : Marks) (xs : List Cell) (c : Chunk) → AllByRecursion (λ x. has_mark marks (chunk_of events x) ≡ true) xs → Contains (map (chunk_of events) xs) c → has_mark marks c ≡ true
mark_complete events marks [] c all (k, low, is) = absurd (omega arith)
mark_complete events marks (x ∷ xs) c all (zero, low, is) = subst (λ d. has_mark marks d ≡ true) is all.0
mark_complete events marks (x ∷ xs) c all (suc k, low, is) = mark_complete events marks xs c all.1 (k, omega arith, is)

pub no_conflict_alone : (events : History) (t : Transaction) (key : Key) (read now : ℕ) → IsMarkedNow events t → IsConflict events t key read now → ⊥
no_conflict_alone events t key read now marked conflict =
    let c = conflict.chunk in
    let less : read_generation events t.marks c < generation_of events c = conflict.conflict.touched in
    let at : mark_of t.marks c ≡ length events = chunk_mark (length events) t.marks c marked.marked (mark_complete events t.marks (first_reads [] t.ops) c marked.complete conflict.conflict.was_read) in
    let same : read_generation events t.marks c ≡ generation_of events c = ap (λ h. generation_of h c) (ap (λ m. take m events) at ∙ take-length events) in
    omega (arith, less, same)

-- nor is any chunk that it has read touched since
pub none_touched : (events : History) (t : Transaction) → IsMarkedNow events t → (x : Cell) → has_mark t.marks (chunk_of events x) ≡ true
    → read_generation events t.marks (chunk_of events x) ≡ generation_of events (chunk_of events x)
none_touched events t marked x has =
    let at : mark_of t.marks (chunk_of events x) ≡ length events = chunk_mark (length events) t.marks (chunk_of events x) marked.marked has in
    ap (λ h. generation_of h (chunk_of events x)) (ap (λ m. take m events) at ∙ take-length events)
