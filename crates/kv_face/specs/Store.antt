-- What a key-value store means: a map from keys to bytes, and what a list of changes makes of it.
use Rattle.std.specs.Prelude.{◌≡◌, ◌<◌, ◌≤◌, ℕ, ◌+◌, List, [], ◌∷◌, ◌++◌, length, slice_index, drop, map, fold, Bool, true, ◌||◌, nat_le, nat_eq, Option, Some, None}
use Rattle.std.specs.Ordering.{nat_cmp}
use Rattle.std.specs.Cmp.Lexicographic.{slice_cmp}
use Rattle.std.specs.List.{list_any, list_all, starts_with}
use Rattle.std.specs.Coded.{Coded, coded_list, coded_ℕ}
use Rattle.std.specs.FinMap as finmap
use Rattle.kv_face.specs.declared.change.Change.{Change}

-- bytes under keys, which are texts; the keys are in byte order
abbrev pub Contents : Type 0
Contents = finmap.FinMap (slice_cmp nat_cmp) (List ℕ)

-- how a contract tells contents apart
abbrev pub contents_code : Coded Contents
contents_code = finmap.code (coded_list coded_ℕ) (coded_list coded_ℕ)

-- the contents with these bytes at a key, or with nothing there
abbrev pub put_bytes : Contents → List ℕ → Option (List ℕ) → Contents
put_bytes m key None = finmap.remove m key
put_bytes m key (Some bytes) = finmap.insert m key bytes

-- the contents with one change made
abbrev pub changed : Contents → Change → Contents
changed m c = put_bytes m c.key c.bytes

-- the contents after changes, one after another
abbrev pub after : Contents → List Change → Contents
after m cs = fold changed m cs

-- the keys that changes name
abbrev pub keys_of : List Change → List (List ℕ)
keys_of cs = map (λ (c : Change). c.key) cs

-- there is at most one change, or one of the prefixes begins all keys, each without its first `from` bytes
abbrev pub are_together : List (List ℕ) → List Change → ℕ → Bool
are_together prefixes cs from = nat_le (length cs) 1 || list_any (λ p. list_all (λ (c : Change). starts_with nat_eq (drop from c.key) p) cs) prefixes

-- the store takes the key: every one, or those that begin with one of the names and a slash
abbrev pub takes : Option (List (List ℕ)) → List ℕ → Bool
takes None key = true
takes (Some names) key = list_any (λ name. starts_with nat_eq key (name ++ 47 ∷ [])) names

-- open, finished, or failed to finish
pub data Standing : Type 0 where
  opened : Standing
  finished : Standing
  failing : Standing

-- what a store tells of itself
pub record StoreSeen : Type 0 where
  -- the map, where the store tells it
  pub contents : Option Contents
  -- how many faults there were; it never falls
  pub faults : ℕ
  -- the counts of the stores of which it is made, in their order; none where it isn't made of others
  pub counts : List ℕ
  -- the prefixes under which several changes are made together
  pub prefixes : List (List ℕ)
  -- the names of which one begins each key that the store takes; with none it takes every key
  pub names : Option (List (List ℕ))
  -- whether it is open, finished, or has failed to finish
  pub standing : Standing
  -- how many calls that make changes have changed something, where the store tells it
  pub changes : Option ℕ

-- a number of changes, where it is told, after one change more: the next number, or no longer told
abbrev pub OneMore : Option ℕ → Option ℕ → Type 0
OneMore old None = Unit {0}
OneMore None (Some n) = ⊥
OneMore (Some m) (Some n) = n ≡ m + 1

-- no count is lower than the one that stood at its place
pub record NoneFell (before now : List ℕ) : Type 0 where
  pub each : (k : ℕ) → slice_index before k ≤ slice_index now k

-- a count of faults never falls, and rises where the call failed
pub record HasCause (before now : ℕ) (failed : Type 0) : Type 0 where
  pub later : before ≤ now
  pub cause : failed → before < now

-- it rises exactly where the call failed, so that no other answer hides a failure
pub record IsToldExactly (before now : ℕ) (failed : Type 0) : Type 0 where
  pub later : before ≤ now
  pub cause : failed → before < now
  pub told : before < now → failed
