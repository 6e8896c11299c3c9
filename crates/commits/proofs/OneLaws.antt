-- The event of one key, by its plan.
use Rattle.std.proofs.Common.{◌≡◌, ℕ, zero, suc, ◌+◌, length, arith, List, [], ◌∷◌, true, false, Some, inl, refl}
use Rattle.std.specs.List.{AllByRecursion, IsDistinct}
use Rattle.std.specs.Str.{bytes_eq}
use Rattle.std.specs.Prelude.{All}
use Rattle.kv_face.specs.Store.{Contents, takes, keys_of as keys_changed, are_together}
use Rattle.kv_face.specs.declared.change.Change.{Change}
use Rattle.history.specs.declared.array.Home.{Home}
use Rattle.history.specs.declared.array.Home.TheVariants.{Zarr, N5, Zarr3, Local}
use Rattle.history.specs.declared.event.Event.{Event}
use Rattle.history.specs.declared.event.Mode.{Mode}
use Rattle.history.specs.declared.event.Op.{Op}
use Rattle.history.specs.Arrays.{is_local}
use Rattle.history.specs.Legal.{IsLegal}
use Rattle.history.specs.ReadRows.{mount_of}
use Rattle.chunk_plans.specs.declared.Commit.{Commit}
use Rattle.chunk_plans.specs.Agreement.{IsState}
use Rattle.chunk_plans.specs.Changing.{AreMade}
use Rattle.chunk_plans.specs.Log.{Log}
use Rattle.chunk_plans.specs.Seen.{StoreSeen}
use Rattle.chunk_plans.proofs.Laws.{takes_chunk}
use Rattle.chunk_plans.specs.declared.plan.Left.{Left}
use Rattle.chunk_plans.specs.declared.plan.Left.TheVariants.{Stored, Held}
use Rattle.chunk_plans.specs.declared.plan.Planned.{Planned}
use Rattle.commits.specs.Plans.{ArePlans, AreRightBy, IsPlanned, change_of, changes_of}
use Rattle.chunk_plans.specs.Leaving.{HasNumber, IsLeftOf}
use Rattle.commits.specs.Keyed.{IsKeyPlan, IsRightKey, key_event}
use Rattle.commits.proofs.EachLaws.{key_counted, one_key_in, touches_key, touches_own}

-- the commit of one key
abbrev pub commit_of : ℕ → Mode → List Op → List ℕ → Commit
commit_of line mode ops key = record { line = line; mode = mode; ops = ops; key = Some key }

all_each : {X : Type 0} (P : X → Type 0) (xs : List X) → AllByRecursion P xs → All P xs
all_each P [] all k d low = absurd (omega (arith, low))
all_each P (x ∷ xs) all zero d low = all.0
all_each P (x ∷ xs) all (suc k) d low = all_each P xs all.1 k d (omega (arith, low))

mounted : (home : Home) → is_local home ≡ false → (mount : List ℕ) × (mount_of home ≡ Some mount)
mounted (Zarr mount path meta) stored = (mount, refl)
mounted (N5 mount path meta) stored = (mount, refl)
mounted (Zarr3 mount path meta) stored = (mount, refl)
mounted (Local start) stored = absurd (cc)

-- a store takes the keys of plans
module _ (store : StoreSeen) (log : Log) (e : Event) (state : IsState store log) where
  key_taken : (p : Planned) (is : IsPlanned log e p) → is_local is.array.info.home ≡ false → takes store.names p.key ≡ true
  key_taken p is stored =
      let on = mounted is.array.info.home stored in
      takes_chunk store.names is.array is.chunk.index on.0 p.key on.1 (state.1.mounts is.chunk.array is.array on.0 is.known on.1) is.named

  taken_by : (p : Planned) (is : IsPlanned log e p) (left : Left) → IsLeftOf is.array is.chunk left → (rest : List Change) → AllByRecursion (λ (c : Change). takes store.names c.key ≡ true) rest
      → AllByRecursion (λ (c : Change). takes store.names c.key ≡ true) (change_of left p.key rest)
  taken_by p is (Stored bytes kept) stored rest all = (key_taken p is stored.0, all)
  taken_by p is (Held a cells) local rest all = all

  taken_each : (ps : List Planned) → AllByRecursion (IsPlanned log e) ps → AllByRecursion (λ (c : Change). takes store.names c.key ≡ true) (changes_of ps)
  taken_each [] all = tt
  taken_each (p ∷ ps) all = taken_by p all.0 p.left all.0.left (changes_of ps) (taken_each ps all.1)

  pub changes_taken : (ps : List Planned) → AllByRecursion (IsPlanned log e) ps → All (λ (c : Change). takes store.names c.key ≡ true) (changes_of ps)
  changes_taken ps all = all_each (λ (c : Change). takes store.names c.key ≡ true) (changes_of ps) (taken_each ps all)

-- the plan of one key
module _ (store : StoreSeen) (log : Log) (owner line : ℕ) (mode : Mode) (ops : List Op) (p : Planned) (state : IsState store log) (is : IsKeyPlan log.events p) (numbered : HasNumber (length log.events + 1) p.left) where
  abbrev planned : IsPlanned log (key_event owner line mode ops p.key) p
  planned = record {
    chunk = is.chunk;
    array = is.array;
    known = is.known;
    valid = is.valid;
    touched = touches_own owner line mode ops log.events is.chunk is.array p.key is.known is.named;
    of_array = is.of_array;
    of_index = is.of_index;
    named = is.named;
    left = is.left;
    numbered = numbered;
  }

  -- the plan is that of the event
  pub one_plan : ArePlans log (key_event owner line mode ops p.key) (p ∷ [])
  unfolding IsDistinct
  one_plan = record {
    each = (planned, tt);
    all = λ c k known valid touched.
        inl (
          planned,
          one_key_in log.events state.1.outline is.chunk c is.array k p.key is.known known is.valid valid is.named (touches_key owner line mode ops log.events c k p.key known touched),
        );
    distinct = (tt, tt);
  }

  distinct_one : (left : Left) → IsDistinct bytes_eq (keys_changed (change_of left p.key []))
  unfolding IsDistinct
  distinct_one (Stored bytes kept) = (tt, tt)
  distinct_one (Held a cells) = tt

  together_one : (left : Left) → are_together store.prefixes (change_of left p.key []) 0 ≡ true
  together_one (Stored bytes kept) = refl
  together_one (Held a cells) = refl

  -- and its change may be made
  pub one_made : AreMade store (changes_of (p ∷ []))
  one_made = record {
    taken = changes_taken store log (key_event owner line mode ops p.key) state (p ∷ []) (planned, tt);
    distinct = distinct_one p.left;
    together = together_one p.left;
  }

-- which is right where it was right by the key
pub one_right : (start : Contents) (log : Log) (owner line : ℕ) (mode : Mode) (ops : List Op) (p : Planned) → IsLegal start log.events → IsKeyPlan log.events p → IsRightKey start log owner line mode ops p → AreRightBy start log owner (commit_of line mode ops p.key) (p ∷ [])
one_right start log owner line mode ops p legal is right = record {
  legal = right.legal;
  each = (
    λ planned.
        right.right
        (record { chunk = planned.chunk; array = planned.array; known = planned.known; valid = planned.valid; of_array = planned.of_array; of_index = planned.of_index; named = planned.named; left = planned.left }),
    tt,
  );
  counted = key_counted start owner line mode log.events ops p legal is;
}
