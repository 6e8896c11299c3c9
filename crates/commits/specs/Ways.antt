-- How a commit may be made, or why it may not.
use Rattle.std.specs.Prelude.{◌≡◌, ℕ, List, length, true, false, Option, Some, None, Result, Ok, Err, IsTrue}
use Rattle.history.specs.Commit.{are_together}
use Rattle.chunk_plans.specs.Log.{Log}
use Rattle.commits.specs.declared.late.Late.{Late}
use Rattle.commits.specs.declared.prepared.Prepared.{Prepared}
use Rattle.commits.specs.declared.refused.CommitRefused.{CommitRefused}
use Rattle.commits.specs.declared.refused.CommitRefused.TheVariants as refused
use Rattle.commits.specs.declared.way.Way.{Way}
use Rattle.commits.specs.declared.way.Way.TheVariants.{Whole, ByKeys}
use Rattle.commits.specs.Late.{IsFirstLate}
use Rattle.commits.specs.Outside.{IsFirstOutside}
use Rattle.commits.specs.Writes.{stored_write_keys}

-- no chunk that was read under repeatable read has a later generation
abbrev pub IsUntouched : Log → Prepared → Type 0
IsUntouched log p = IsTrue p.mode.repeatable_read → IsFirstLate log p.footprint.now None

-- nor does a word that is staged lie outside
pub record IsOpen (log : Log) (p : Prepared) : Type 0 where
  pub untouched : IsUntouched log p
  pub within : IsFirstOutside log.events p.writes.items None

-- the stored keys that are written go together, or they don't
abbrev pub GoTogether : List (List ℕ) → Log → Prepared → Type 0
GoTogether prefixes log p = are_together prefixes (stored_write_keys log.events p.writes.items) ≡ true

abbrev pub GoApart : List (List ℕ) → Log → Prepared → Type 0
GoApart prefixes log p = are_together prefixes (stored_write_keys log.events p.writes.items) ≡ false

-- the first refusal that holds, or how the commit is made
abbrev pub IsWay : List (List ℕ) → Log → Prepared → Result Way CommitRefused → Type 0
IsWay prefixes log p (Ok Whole) = IsOpen log p × GoTogether prefixes log p
IsWay prefixes log p (Ok ByKeys) = IsOpen log p × GoApart prefixes log p × (p.mode.atomic ≡ false)
IsWay prefixes log p (Err (refused.Conflict key read now)) = IsTrue p.mode.repeatable_read × IsFirstLate log p.footprint.now (Some (record { key = key; read = read; now = now }))
IsWay prefixes log p (Err (refused.Shrunk key now)) = IsUntouched log p × IsFirstOutside log.events p.writes.items (Some (record { key = key; now = now }))
IsWay prefixes log p (Err (refused.NotAtomic keys)) =
    IsOpen log p × GoApart prefixes log p × (p.mode.atomic ≡ true) × (keys ≡ length (stored_write_keys log.events p.writes.items))
IsWay prefixes log p (Err (refused.Damaged key cause)) = ⊥
IsWay prefixes log p (Err (refused.StoreFailed event done)) = ⊥
IsWay prefixes log p (Err refused.Memory) = Unit {0}

-- a chunk that was read under repeatable read and has a later generation
abbrev pub IsLateOf : Log → Prepared → Option Late → Type 0
IsLateOf log p None = IsUntouched log p
IsLateOf log p (Some l) = IsTrue p.mode.repeatable_read × IsFirstLate log p.footprint.now (Some l)

-- how many keys there are, where they don't go together
abbrev pub TellsApart : List (List ℕ) → List (List ℕ) → Option ℕ → Type 0
TellsApart prefixes keys None = are_together prefixes keys ≡ true
TellsApart prefixes keys (Some count) = (are_together prefixes keys ≡ false) × (count ≡ length keys)

-- how a commit that isn't refused before is made
abbrev pub IsSplit : List (List ℕ) → Log → Prepared → Result Way CommitRefused → Type 0
IsSplit prefixes log p (Ok Whole) = GoTogether prefixes log p
IsSplit prefixes log p (Ok ByKeys) = GoApart prefixes log p × (p.mode.atomic ≡ false)
IsSplit prefixes log p (Err (refused.Conflict key read now)) = ⊥
IsSplit prefixes log p (Err (refused.Shrunk key now)) = ⊥
IsSplit prefixes log p (Err (refused.NotAtomic keys)) = GoApart prefixes log p × (p.mode.atomic ≡ true) × (keys ≡ length (stored_write_keys log.events p.writes.items))
IsSplit prefixes log p (Err (refused.Damaged key cause)) = ⊥
IsSplit prefixes log p (Err (refused.StoreFailed event done)) = ⊥
IsSplit prefixes log p (Err refused.Memory) = Unit {0}
