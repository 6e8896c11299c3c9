-- Writes one after another.
use Rattle.std.proofs.Common.{◌≡◌, ℕ, List, [], ◌∷◌, ◌++◌, Bool, true, false, cond, not, Option, Some, None, inl, inr, refl, ap, ◌∙◌}
use Rattle.std.specs.Prelude.{IsSome, filter}
use Rattle.history.specs.declared.event.Op.{Op}
use Rattle.history.specs.History.{History}
use Rattle.history.specs.Arrays.{Known, known_after, is_local}
use Rattle.history.specs.Commit.{is_write}
use Rattle.history.specs.Counting.{is_stored}
use Rattle.history.specs.ReadRows.{mount_of}
use Rattle.chunk_plans.specs.declared.write.ChunkWrite.{ChunkWrite}
use Rattle.commits.specs.Planning.{IsMountFor}
use Rattle.commits.specs.Writes.{stored_write_keys}

-- the stored keys of a write, and of those behind it
pub stored_more : (events : History) (w : ChunkWrite) (ws : List ChunkWrite) → stored_write_keys events (w ∷ ws) ≡ stored_write_keys events (w ∷ []) ++ stored_write_keys events ws
stored_more events w ws = by (is_stored (known_after events w.array))
  where
    by : (b : Bool) → cond b (w.key ∷ stored_write_keys events ws) (stored_write_keys events ws) ≡ cond b (w.key ∷ []) [] ++ stored_write_keys events ws
    by true = refl
    by false = refl

-- the writes of an operation, and of those behind it
pub writes_more : (op : Op) (ops : List Op) → filter is_write (op ∷ ops) ≡ filter is_write (op ∷ []) ++ filter is_write ops
writes_more op ops = by (is_write op)
  where
    by : (b : Bool) → cond b (op ∷ filter is_write ops) (filter is_write ops) ≡ cond b (op ∷ []) [] ++ filter is_write ops
    by true = refl
    by false = refl

pub write_kept : (op : Op) (ops : List Op) → is_write op ≡ true → filter is_write ops ≡ ops → filter is_write (op ∷ ops) ≡ op ∷ ops
write_kept op ops is same = ap (λ b. cond b (op ∷ filter is_write ops) (filter is_write ops)) is ∙ ap (λ os. op ∷ os) same

-- the mount of a stored array of a write
pub mount_here : (events : History) (w : ChunkWrite) (ws : List ChunkWrite) (k : Known) (mount : List ℕ) → known_after events w.array ≡ Some k → mount_of k.info.home ≡ Some mount → IsMountFor events (w ∷ ws) mount
mount_here events w ws k mount known is = inl (inl (k, known, is))

pub mount_more : (events : History) (w : ChunkWrite) (ws : List ChunkWrite) (k : Known) (mount : List ℕ) → known_after events w.array ≡ Some k → is_local k.info.home ≡ true → IsMountFor events ws mount → IsMountFor events (w ∷ ws) mount
mount_more events w ws k mount known local (inl among) = inl (inr among)
mount_more events w ws k mount known local (inr none) =
    inr (ap (λ b. cond b (w.key ∷ stored_write_keys events ws) (stored_write_keys events ws)) (ap is_stored known ∙ ap not local) ∙ none)

pub known_some : (o : Option Known) → IsSome o → (k : Known) × (o ≡ Some k)
known_some None some = absurd (cc)
known_some (Some k) some = (k, refl)
