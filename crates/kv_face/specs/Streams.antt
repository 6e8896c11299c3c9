-- What scripts and a sink mean: bytes, where they are told.
use Rattle.std.specs.Prelude.{◌≡◌, ◌≤◌, ◌<◌, ◌⊎◌, ◌^◌, ◌-◌, ℕ, List, [], ◌++◌, length, take, drop, Option, Some, None}
use Rattle.std.specs.FinMap as finmap
use Rattle.kv_face.specs.Store.{Contents}

-- the script of a name, where scripts are told and there is one
abbrev pub script_of : Option Contents → List ℕ → Option (List ℕ)
script_of None name = None
script_of (Some scripts) name = finmap.get scripts name

-- scripts are told, and none has the name
abbrev pub IsMissing : Option Contents → List ℕ → Type 0
IsMissing None name = ⊥
IsMissing (Some scripts) name = finmap.get scripts name ≡ None

-- n bytes of what is left came into the buffer; none came only at the end
pub record TakesBytes (left : List ℕ) (n : ℕ) (buf : List ℕ) (after : Option (List ℕ)) : Type 0 where
  pub within : n ≤ length left
  pub bytes : take n buf ≡ take n left
  pub rest : after ≡ Some (drop n left)
  pub ends : n ≡ 0 → left ≡ []

-- a fact of the bytes, where they are told
abbrev pub WhereTold : {X : Type 0} → Option X → (X → Type 0) → Type 0
WhereTold {X} o P = (x : X) → o ≡ Some x → P x

-- a count of faults rose, or stands at its last value
abbrev pub HasRisen : ℕ → ℕ → Type 0
HasRisen before now = (before < now) ⊎ (now ≡ 2 ^ 64 - 1)

-- a count of faults never falls, and rises where the call failed
pub record Rises (before now : ℕ) (failed : Type 0) : Type 0 where
  pub later : before ≤ now
  pub cause : failed → HasRisen before now

-- what was written stands behind what was there, and is a front part of the text
pub record IsPartOf (now : Option (List ℕ)) (before text : List ℕ) : Type 0 where
  pub front : List ℕ
  pub rest : List ℕ
  pub written : now ≡ Some (before ++ front)
  pub parts : front ++ rest ≡ text
