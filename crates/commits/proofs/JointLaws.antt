-- A commit that is one event.
use Rattle.std.proofs.Common.{◌≡◌, ℕ, ◌+◌, List, length, true, Some, None, ◌⊎◌, inl, inr, sym, ap, subst, ◌∙◌}
use Rattle.std.specs.List.{IsDistinct}
use Rattle.std.specs.Str.{bytes_eq}
use Rattle.std.proofs.lemmas.List.{length-map}
use Rattle.kv_face.specs.Store.{Contents, keys_of as keys_changed, are_together as changes_together}
use Rattle.kv_face.specs.declared.change.Change.{Change}
use Rattle.history.specs.declared.event.Kind.TheVariants.{Done}
use Rattle.history.specs.Commit.{are_together}
use Rattle.history.specs.Counting.{is_change}
use Rattle.history.specs.Legal.{IsLegalDone}
use Rattle.chunk_plans.specs.declared.Commit.{Commit}
use Rattle.chunk_plans.specs.Recorded.{done_event}
use Rattle.chunk_plans.specs.Agreement.{Opening, Agrees, IsState}
use Rattle.chunk_plans.specs.Changing.{AreMade}
use Rattle.chunk_plans.specs.Log.{Log}
use Rattle.chunk_plans.specs.Seen.{IsRead, StoreSeen}
use Rattle.chunk_plans.proofs.Laws.{together-keys}
use Rattle.chunk_plans.specs.declared.plan.Planned.{Planned}
use Rattle.commits.specs.Plans.{ArePlans, AreRightBy, changes_of}
use Rattle.chunk_plans.specs.declared.write.ChunkWrite.{ChunkWrite}
use Rattle.commits.specs.Keyed.{plan_arrays}
use Rattle.commits.specs.Planning.{ArePlannedBy, IsAmongOn, IsMountFor}
use Rattle.commits.specs.Prepared.{AreWrites}
use Rattle.commits.specs.Right.{IsRightCommit}
use Rattle.commits.specs.Writes.{stored_write_keys}
use Rattle.commits.proofs.ChangedKeys.{stored_rising}
use Rattle.commits.proofs.KeyOrder.{rising_distinct}
use Rattle.commits.proofs.OneLaws.{changes_taken}
use Rattle.commits.proofs.Plans.{counted_of, planned_arrays, planned_changes, plans_of_writes, rights_of}

module _ (store middle : StoreSeen) (first log : Log) (owner : ℕ) (commit : Commit) (ws : List ChunkWrite) (ps : List Planned) (whole : commit.key ≡ None) (same : log.events ≡ first.events) (read : IsRead store middle) (are : AreWrites first.events commit.ops ws)
    (planned : ArePlannedBy store first (length first.events + 1) 0 ws ps) where
  pub joint_plans : ArePlans log (done_event owner commit) ps
  joint_plans = plans_of_writes store first log owner commit whole same ws ps are planned

  keys : keys_changed (changes_of ps) ≡ stored_write_keys first.events ws
  keys = planned_changes store first commit.ops (length first.events + 1) 0 ws ps are.each planned

  pub joint_made : IsState middle log → are_together store.prefixes (stored_write_keys first.events ws) ≡ true → AreMade middle (changes_of ps)
  joint_made state together = record {
    taken = changes_taken middle log (done_event owner commit) state ps joint_plans.each;
    distinct = subst (IsDistinct bytes_eq) (sym keys) (rising_distinct (stored_write_keys first.events ws) (stored_rising first.events commit.ops ws are.sorted));
    together =
        ap (λ prefixes. changes_together prefixes (changes_of ps) 0) read.frame.prefixes ∙ together-keys store.prefixes (changes_of ps) ∙ ap (are_together store.prefixes) keys ∙ together;
  }

  pub joint_mount : (mount : List ℕ) → IsMountFor first.events ws mount → IsAmongOn log.events (plan_arrays ps) mount ⊎ (length (changes_of ps) ≡ 0)
  joint_mount mount (inl among) =
      inl (subst (λ events. IsAmongOn events (plan_arrays ps) mount) (sym same) (subst (λ arrays. IsAmongOn first.events arrays mount) (sym (planned_arrays store first (length first.events + 1) 0 ws ps planned)) among))
  joint_mount mount (inr none) = inr (sym (length-map (changes_of ps) (λ (c : Change). c.key)) ∙ ap length (keys ∙ none))

-- the plans are right where the commit is
pub joint_right : (opening : Opening) (start : Contents) (store : StoreSeen) (first log : Log) (owner : ℕ) (commit : Commit) (ws : List ChunkWrite) (ps : List Planned) → commit.key ≡ None → log.events ≡ first.events → AreWrites first.events commit.ops ws
    → ArePlannedBy store first (length first.events + 1) 0 ws ps → Agrees opening store first → opening.store.contents ≡ Some start → IsRightCommit start first commit.ops ws → AreRightBy start log owner commit ps
joint_right opening start store first log owner commit ws ps whole same are planned agrees told right = record {
  legal = subst (λ events. IsLegalDone start events commit.ops) (sym same) right.legal;
  each = rights_of opening start store first log owner commit whole same agrees told ws ps are.each right.ready planned;
  counted =
      ap (λ events. is_change start events (Done commit.line commit.mode commit.ops commit.key)) same
      ∙ counted_of start store first commit (length first.events + 1) 0 ws ps whole are planned;
}
