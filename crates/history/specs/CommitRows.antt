-- What a commit answers.
use Rattle.std.specs.Prelude.{◌≡◌, ◌<◌, ℕ, ◌+◌, List, [], ◌∷◌, ◌++◌, length, take, Option, Some, None, IsTrue, Contains, ◌==◌, if◌then◌else◌}
use Rattle.chunk_forms.specs.declared.form.Damage.{Damage}
use Rattle.history.specs.History.{History}
use Rattle.history.specs.Arrays.{known_after}
use Rattle.history.specs.Chunks.{Chunk}
use Rattle.history.specs.Writes.{Put, puts_of}
use Rattle.history.specs.Answers as body
use Rattle.history.specs.Answers.{Body, Text}
use Rattle.history.specs.Commit.{Key, Fixed, Transaction, CommitTogether, commit_events, HasNoConflict, IsConflict}
use Rattle.history.specs.Own.{Numbered, numbered, numbers_of, fault}
use Rattle.history.specs.ReadRows.{IsOnMount}
use Rattle.history.specs.Refusals.{IsShrunkCommit, IsNotAtomic, IsSpoiled, IsDamagedCommit}
use Rattle.history.specs.Staged.{AreInShapes}

-- what is asked to be made together can be
abbrev pub IsWhole : Fixed → History → Transaction → Type 0
IsWhole fixed events t = IsTrue t.mode.atomic → CommitTogether fixed events t.ops

-- none of conflict, shrunk and not_atomic holds
pub record MayCommit (fixed : Fixed) (events : History) (t : Transaction) : Type 0 where
  pub no_conflict : HasNoConflict events t
  pub in_shapes : AreInShapes events t.ops
  pub whole : IsWhole fixed events t

-- no damaged chunk is written in part
abbrev pub HasNoDamage : Fixed → History → Transaction → Type 0
HasNoDamage fixed events t = (c : Chunk) (key : Key) (cause : Damage) → ¬ IsSpoiled fixed events t c key cause

-- a stored chunk that is changed lies on the mount
pub record IsChangedOn (events : History) (t : Transaction) (mount : Text) : Type 0 where
  pub put : Put
  pub among : Contains (puts_of t.ops) put
  pub on_mount : IsOnMount mount (known_after events put.0.array)

-- the first so many of a commit's events: fewer than all, and none where they are one; once the store was changed, no chunk was
-- damaged
pub record IsPart (fixed : Fixed) (owner : ℕ) (before : History) (t : Transaction) (count : ℕ) : Type 0 where
  pub may : MayCommit fixed before t
  pub fewer : count < length (commit_events fixed before owner t)
  pub together : CommitTogether fixed before t.ops → count ≡ 0
  pub undamaged : 0 < count → HasNoDamage fixed before t

-- the transaction stands on where no event was done
abbrev pub left_by : ℕ → Transaction → Option Transaction
left_by count t = if count == 0 then Some t else None

-- the events of a commit behind n events, with their numbers
abbrev pub own_after : Fixed → ℕ → History → ℕ → Transaction → List Numbered
own_after fixed owner events n t = numbered (n + 1) (commit_events fixed (take n events) owner t)

-- the first so many of them
abbrev pub own_part : Fixed → ℕ → History → ℕ → Transaction → ℕ → List Numbered
own_part fixed owner events n t count = take count (own_after fixed owner events n t)

-- a commit of a transaction over the events that are seen in the end: which transaction stands then, the answer, and the
-- events that are added
pub data IsCommit (fixed : Fixed) (owner : ℕ) (events : History) (t : Transaction) : Option Transaction → Body → List Numbered → Type 0 where
  -- Conflict
  conflicts : {key : Key} {read now : ℕ} → IsConflict events t key read now → IsCommit fixed owner events t None (body.conflict key read now) []
  -- Shrunk
  is_shrunk : {key : Key} {now : ℕ} → HasNoConflict events t → IsShrunkCommit events t key now → IsCommit fixed owner events t None (body.shrunk key now) []
  -- NotAtomic
  is_split : {keys : ℕ} → HasNoConflict events t → AreInShapes events t.ops → IsNotAtomic fixed events t keys → IsCommit fixed owner events t None (body.not_atomic keys) []
  -- Damaged
  is_damaged : {key : Key} {cause : Damage} → MayCommit fixed events t → IsDamagedCommit fixed events t key cause → IsCommit fixed owner events t (Some t) (body.damaged key cause) []
  -- Committed, after n events
  is_done : (n : ℕ) → MayCommit fixed (take n events) t → HasNoDamage fixed (take n events) t
      → IsCommit fixed owner events t None (body.committed (numbers_of (own_after fixed owner events n t))) (own_after fixed owner events n t)
  -- StoreFailed, after n events, `count` of its own being done
  is_failed : (n count : ℕ) (mount : Text) → IsPart fixed owner (take n events) t count → IsChangedOn (take n events) t mount
      → IsCommit fixed owner events t (left_by count t) (body.store_failed (n + count + 1) (numbers_of (own_part fixed owner events n t count)) None)
      (own_part fixed owner events n t count ++ record { number = n + count + 1; event = fault owner mount } ∷ [])
  -- Memory, after n events, `count` of its own being done
  is_wanting : (n count : ℕ) → IsPart fixed owner (take n events) t count → IsCommit fixed owner events t (left_by count t) body.memory (own_part fixed owner events n t count)
