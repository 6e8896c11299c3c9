-- What a commit answers over any store: a row of the history's session, less what that says of bytes.
use Rattle.std.specs.Prelude.{◌≡◌, ◌<◌, ℕ, ◌+◌, List, [], ◌∷◌, ◌++◌, length, take, Option, Some, None, Result, IsTrue}
use Rattle.chunk_forms.specs.declared.form.Damage.{Damage}
use Rattle.history.specs.declared.event.Event.{Event}
use Rattle.history.specs.Answers as body
use Rattle.history.specs.Answers.{Body, Text}
use Rattle.history.specs.Commit.{Key, Fixed, Transaction, CommitTogether, HasNoConflict, IsConflict, commit_events}
use Rattle.history.specs.CommitRows.{IsChangedOn, IsWhole, left_by, own_after, own_part}
use Rattle.history.specs.Generations.{IsRealConflict}
use Rattle.history.specs.History.{History}
use Rattle.history.specs.Own.{Numbered, numbered, numbers_of, fault}
use Rattle.history.specs.Reads.{has_mark}
use Rattle.history.specs.Refusals.{IsNotAtomic, IsShrunkCommit}
use Rattle.commits.specs.declared.refused.CommitRefused.{CommitRefused}
use Rattle.commits.specs.Answers.{Leaves, body_of}

-- a chunk that was read has a later generation: the least key of such a chunk, which has a mark, and the numbers of the events that touched the chunk last, as
-- it was read and now; the later one is no opening
pub record IsMetChange (events : History) (t : Transaction) (key : Key) (read now : ℕ) : Type 0 where
  pub conflict : IsConflict events t key read now
  pub marked : IsTrue (has_mark t.marks conflict.chunk)
  pub real : IsRealConflict events conflict.chunk read now

-- no written cell lies outside its array's shape
abbrev pub IsUncut : History → Transaction → Type 0
IsUncut events t = (key : Key) (now : ℕ) → ¬ IsShrunkCommit events t key now

-- nor has a chunk that was read a later generation, nor is it asked in vain that all is made together
pub record MayBeMade (fixed : Fixed) (events : History) (t : Transaction) : Type 0 where
  pub no_conflict : HasNoConflict events t
  pub uncut : IsUncut events t
  pub whole : IsWhole fixed events t

-- so many of a commit's events: fewer than all, and none where they are one
pub record IsPartMade (fixed : Fixed) (owner : ℕ) (before : History) (t : Transaction) (count : ℕ) : Type 0 where
  pub may : MayBeMade fixed before t
  pub fewer : count < length (commit_events fixed before owner t)
  pub together : CommitTogether fixed before t.ops → count ≡ 0

-- a commit's answer over the events that are seen in the end: which transaction stands then, and the events that are added
pub data IsCausedCommit (fixed : Fixed) (owner : ℕ) (events : History) (t : Transaction) : Option Transaction → Body → List Numbered → Type 0 where
  -- Conflict
  for_read : {key : Key} {read now : ℕ} → IsMetChange events t key read now → IsCausedCommit fixed owner events t None (body.conflict key read now) []
  -- Shrunk
  for_shape : {key : Key} {now : ℕ} → HasNoConflict events t → IsShrunkCommit events t key now → IsCausedCommit fixed owner events t None (body.shrunk key now) []
  -- NotAtomic
  for_stores : {keys : ℕ} → HasNoConflict events t → IsUncut events t → IsNotAtomic fixed events t keys → IsCausedCommit fixed owner events t None (body.not_atomic keys) []
  -- Damaged; which bytes are is not said
  for_bytes : {key : Key} {cause : Damage} → MayBeMade fixed events t → IsCausedCommit fixed owner events t (Some t) (body.damaged key cause) []
  -- Committed, after n events
  all_made : (n : ℕ) → MayBeMade fixed (take n events) t → IsCausedCommit fixed owner events t None (body.committed (numbers_of (own_after fixed owner events n t))) (own_after fixed owner events n t)
  -- StoreFailed, after n events, `count` of its own being done
  for_failure : (n count : ℕ) (mount : Text) → IsPartMade fixed owner (take n events) t count → IsChangedOn (take n events) t mount
      → IsCausedCommit fixed owner events t (left_by count t) (body.store_failed (n + count + 1) (numbers_of (own_part fixed owner events n t count)) None)
      (own_part fixed owner events n t count ++ record { number = n + count + 1; event = fault owner mount } ∷ [])
  -- Memory, after n events, `count` of its own being done; after it nobody goes on
  for_memory : {left : Option Transaction} (n count : ℕ) → IsPartMade fixed owner (take n events) t count → IsCausedCommit fixed owner events t left body.memory (own_part fixed owner events n t count)
  -- or before anything was tried
  for_memory_first : {left : Option Transaction} → IsCausedCommit fixed owner events t left body.memory []

-- the events that a commit adds, and its answer by them, for each transaction that may stand then
pub record IsCommitCaused (fixed : Fixed) (owner : ℕ) (before later : History) (t : Transaction) (result : Result (List ℕ) CommitRefused) : Type 0 where
  pub own : List Event
  pub added : later ≡ before ++ own
  pub row : (left : Option Transaction) → Leaves t result left → IsCausedCommit fixed owner later t left (body_of result) (numbered (length before + 1) own)
