-- A commit by keys, once all is planned.
use Rattle.std.proofs.Common.{◌≡◌, ℕ, suc, ◌+◌, ◌<◌, List, [], ◌∷◌, length, Some, refl, sym, ap, subst, ◌∙◌, arith}
use Rattle.std.specs.Prelude.{filter}
use Rattle.std.specs.List.{AllByRecursion, IsDistinct}
use Rattle.std.specs.Str.{bytes_eq}
use Rattle.kv_face.specs.Store.{Contents}
use Rattle.history.specs.declared.event.Mode.{Mode}
use Rattle.history.specs.declared.event.Op.{Op}
use Rattle.history.specs.Arrays.{Known, known_after}
use Rattle.history.specs.Commit.{Key, is_write}
use Rattle.history.specs.Sessions.{new_transaction}
use Rattle.history.proofs.Laws.{done_each_legal}
use Rattle.chunk_plans.specs.Agreement.{Opening, Agrees}
use Rattle.chunk_plans.specs.Log.{Log}
use Rattle.chunk_plans.specs.Seen.{StoreSeen}
use Rattle.chunk_plans.specs.declared.plan.Planned.{Planned}
use Rattle.commits.specs.Plans.{keys_of}
use Rattle.chunk_plans.specs.declared.write.ChunkWrite.{ChunkWrite}
use Rattle.chunk_plans.specs.Writes.{IsReadyWrite, chunk_of_write}
use Rattle.commits.specs.Keyed.{AreNumbered, AreKeyPlans, AreRightKeys, AreRightPlans, IsKeyPlan, each_event}
use Rattle.commits.specs.Planning.{ArePlannedBy}
use Rattle.commits.specs.Prepared.{AreWrites, IsStagedWrite, write_keys}
use Rattle.commits.specs.Right.{IsRightCommit}
use Rattle.commits.proofs.KeyOrder.{rising_distinct}
use Rattle.commits.proofs.Plans.{planned_keys}

pub each_length : (owner line : ℕ) (mode : Mode) (ops : List Op) (keys : List Key) → length (each_event owner line mode ops keys) ≡ length keys
each_length owner line mode ops [] = refl
each_length owner line mode ops (k ∷ keys) = ap suc (each_length owner line mode (filter is_write ops) keys)

pub keys_length : (ws : List ChunkWrite) → length (write_keys ws) ≡ length ws
keys_length [] = refl
keys_length (w ∷ ws) = ap suc (keys_length ws)

pub each_some : (owner line : ℕ) (mode : Mode) (ops : List Op) (ws : List ChunkWrite) → 0 < length ws → 0 < length (each_event owner line mode ops (write_keys ws))
each_some owner line mode ops ws some = let one = each_length owner line mode ops (write_keys ws) in let two = keys_length ws in omega (arith, some, one, two)

key_plans_by : (store : StoreSeen) (log : Log) (ops : List Op) (number : ℕ) (ws : List ChunkWrite) (ps : List Planned) → AllByRecursion (IsStagedWrite log.events ops) ws → ArePlannedBy store log number 1 ws ps → AllByRecursion (IsKeyPlan log.events) ps
key_plans_by store log ops number [] [] each are = tt
key_plans_by store log ops number [] (p ∷ ps) each are = absurd are
key_plans_by store log ops number (w ∷ ws) [] each are = absurd are
key_plans_by store log ops number (w ∷ ws) (p ∷ ps) each are = (
  record {
    chunk = chunk_of_write w;
    array = each.0.0;
    known = each.0.1.known;
    valid = each.0.1.valid;
    of_array = sym are.0.array;
    of_index = sym are.0.chunk;
    named = each.0.1.named ∙ sym are.0.key;
    left = are.0.left each.0.0 each.0.1.known;
  },
  key_plans_by store log ops (number + 1) ws ps each.1 are.1,
)

numbered_by : (store : StoreSeen) (log : Log) (number : ℕ) (ws : List ChunkWrite) (ps : List Planned) → ArePlannedBy store log number 1 ws ps → AreNumbered number ps
numbered_by store log number ws [] are = tt
numbered_by store log number [] (p ∷ ps) are = absurd are
numbered_by store log number (w ∷ ws) (p ∷ ps) are = (are.0.numbered, numbered_by store log (number + 1) ws ps are.1)

-- the plans of all writes are plans of different keys
pub key_plans_of : (store : StoreSeen) (first log : Log) (ops : List Op) (ws : List ChunkWrite) (ps : List Planned) → log.events ≡ first.events → AreWrites first.events ops ws → ArePlannedBy store first (length first.events + 1) 1 ws ps → AreKeyPlans log.events ps
key_plans_of store first log ops ws ps same are planned =
    subst (λ h. AreKeyPlans h ps) (sym same)
    (record {
      each = key_plans_by store first ops (length first.events + 1) ws ps are.each planned;
      numbered = numbered_by store first (length first.events + 1) ws ps planned;
      distinct = subst (IsDistinct bytes_eq) (sym (planned_keys store first (length first.events + 1) 1 ws ps planned)) (rising_distinct (write_keys ws) are.sorted);
    })

pub planned_some : (store : StoreSeen) (log : Log) (number : ℕ) (ws : List ChunkWrite) (ps : List Planned) → ArePlannedBy store log number 1 ws ps → 0 < length ws → 0 < length ps
planned_some store log number [] ps are some = absurd (omega (arith, some))
planned_some store log number (w ∷ ws) [] are some = absurd are
planned_some store log number (w ∷ ws) (p ∷ ps) are some = omega arith

module _ (opening : Opening) (start : Contents) (store : StoreSeen) (first : Log) (ops : List Op) (agrees : Agrees opening store first) (told : opening.store.contents ≡ Some start) where
  right_plans : (number : ℕ) (ws : List ChunkWrite) (ps : List Planned) → AllByRecursion (IsStagedWrite first.events ops) ws
      → AllByRecursion (λ (w : ChunkWrite). (k : Known) → known_after first.events w.array ≡ Some k → IsReadyWrite start first k w) ws → ArePlannedBy store first number 1 ws ps → AreRightPlans start first.events ops number ws ps
  right_plans number [] [] each ready are = tt
  right_plans number [] (p ∷ ps) each ready are = absurd are
  right_plans number (w ∷ ws) [] each ready are = absurd are
  right_plans number (w ∷ ws) (p ∷ ps) each ready are = (
    (each.0, are.0.key, are.0.plan opening start each.0.0 agrees told each.0.1.known (ready.0 each.0.0 each.0.1.known)),
    right_plans (number + 1) ws ps each.1 ready.1 are.1,
  )

  -- they are right where the commit is
  pub each_right : (log : Log) (owner line : ℕ) (mode : Mode) (ws : List ChunkWrite) (ps : List Planned) → log.events ≡ first.events → AreWrites first.events ops ws → ArePlannedBy store first (length first.events + 1) 1 ws ps → IsRightCommit start first ops ws
      → AreRightKeys start owner line mode log.events ops ps
  each_right log owner line mode ws ps same are planned right =
      subst (λ h. AreRightKeys start owner line mode h ops ps) (sym same)
      (record {
        legal = done_each_legal start owner (new_transaction line mode) (keys_of ps) first.events ops (agrees.holds start told).legal right.legal;
        writes = ws;
        are = right_plans (length first.events + 1) ws ps are.each right.ready planned;
      })
