-- What a store in memory is, and what each of its calls makes of it.
use Rattle.std.specs.Prelude.{ℕ, ◌+◌, ◌-◌, ◌^◌, List, [], ◌∷◌, Bool, false, ◌==◌, nat_lt, Option, Some, None, if◌then◌else◌}
use Rattle.std.specs.List.{list_any}
use Rattle.std.specs.FinMap as finmap
use Rattle.kv_face.specs.Store.{Contents, Standing, StoreSeen, opened, finished, failing, after}
use Rattle.kv_face.specs.declared.change.Change.{Change}

-- the calls of one kind so far, which are counted up to 2^64-1, those that are to fail, and those that failed
pub record Calls : Type 0 where
  pub calls : ℕ
  pub named : List ℕ
  pub faults : ℕ

pub record MemoryStore : Type 0 where
  pub contents : Contents
  pub is_atomic : Bool
  pub standing : Standing
  pub change_calls : ℕ
  pub gets : Calls
  pub applies : Calls
  pub finish_calls : ℕ
  pub finish_faults : ℕ
  pub fails_to_finish : Bool

-- a counter of calls after one more
abbrev pub counted : ℕ → ℕ
counted n = if nat_lt n (2 ^ 64 - 1) then n + 1 else n

-- whether the next call was named
abbrev pub fails : Calls → Bool
fails c = if nat_lt c.calls (2 ^ 64 - 1) then list_any (λ n. n == c.calls + 1) c.named else false

-- after one call more
abbrev pub called : Calls → Calls
called c = record c { calls = counted c.calls; faults = if fails c then c.faults + 1 else c.faults }

-- all calls together, of one prefix where the store is atomic
abbrev pub prefixes_of : MemoryStore → List (List ℕ)
prefixes_of s = if s.is_atomic then [] ∷ [] else []

abbrev pub faults_of : MemoryStore → ℕ
faults_of s = s.gets.faults + s.applies.faults + s.finish_faults

-- told as long as it is below 2^64-1
abbrev pub change_count_of : MemoryStore → Option ℕ
change_count_of s = if nat_lt s.change_calls (2 ^ 64 - 1) then Some s.change_calls else None

-- what it tells of itself: everything
abbrev pub seen_of : MemoryStore → StoreSeen
seen_of s = record {
  contents = Some s.contents;
  faults = faults_of s;
  counts = [];
  prefixes = prefixes_of s;
  names = None;
  standing = s.standing;
  changes = change_count_of s;
}

-- a new store: empty, open, and with no call to fail
abbrev pub new_store : Bool → MemoryStore
new_store is_atomic = record {
  contents = finmap.empty;
  is_atomic = is_atomic;
  standing = opened;
  change_calls = 0;
  gets = record { calls = 0; named = []; faults = 0 };
  applies = record { calls = 0; named = []; faults = 0 };
  finish_calls = 0;
  finish_faults = 0;
  fails_to_finish = false;
}

-- open where there was something to change
abbrev pub standing_after : Standing → List Change → Standing
standing_after s [] = s
standing_after s (c ∷ cs) = opened

abbrev pub change_calls_after : ℕ → List Change → ℕ
change_calls_after n [] = n
change_calls_after n (c ∷ cs) = counted n

-- after an `apply` that failed, and after one that was done
abbrev pub failed_apply : MemoryStore → List Change → MemoryStore
failed_apply s cs = record s { applies = called s.applies; standing = standing_after s.standing cs }

abbrev pub done_apply : MemoryStore → List Change → MemoryStore
done_apply s cs = record s { contents = after s.contents cs; applies = called s.applies; standing = standing_after s.standing cs; change_calls = change_calls_after s.change_calls cs }

-- whether the next `finish` fails, and what it leaves
abbrev pub finish_fails : MemoryStore → Bool
finish_fails s = if s.fails_to_finish then nat_lt s.finish_calls (2 ^ 64 - 1) else false

abbrev pub after_finish : MemoryStore → MemoryStore
after_finish s = if finish_fails s
    then record s { finish_calls = counted s.finish_calls; finish_faults = s.finish_faults + 1; fails_to_finish = false; standing = failing }
    else record s { finish_calls = counted s.finish_calls; standing = finished }
