-- What is known of mounts: their names, and what their stores tell.
use Rattle.std.specs.Prelude.{◌≡◌, ◌≢◌, ◌<◌, ◌≤◌, ℕ, List, [], ◌∷◌, ◌++◌, length, drop, map, codes, Bool, true, ◌&&◌, ◌||◌, ◌==◌, nat_le, nat_eq, Option, None, All}
use Rattle.std.specs.List.{IsDistinct, list_all, starts_with}
use Rattle.std.specs.Str.{bytes_eq}
use Rattle.kv_face.specs.Store.{Contents, Standing, are_together}
use Rattle.kv_face.specs.declared.change.Change.{Change}

-- a mount: its name, and what its store tells
pub record Part : Type 0 where
  pub name : List ℕ
  pub contents : Option Contents
  pub faults : ℕ
  pub prefixes : List (List ℕ)
  pub names : Option (List (List ℕ))
  pub standing : Standing
  pub change_count : Option ℕ

-- the mounts' names, in order
abbrev pub names_of : List Part → List (List ℕ)
names_of parts = map (λ (p : Part). p.name) parts

-- a letter of ASCII, a digit or `_`
abbrev pub is_plain : ℕ → Bool
is_plain b = (nat_le 48 b && nat_le b 57) || ((nat_le 65 b && nat_le b 90) || ((nat_le 97 b && nat_le b 122) || b == 95))

-- 1 to 64 of these, and not `array`
pub record IsMountName (name : List ℕ) : Type 0 where
  pub some : 0 < length name
  pub few : length name ≤ 64
  pub plain : list_all is_plain name ≡ true
  pub free : name ≢ codes "array"

-- 1 to 16 mounts with distinct names, whose stores take every key
pub record AreMounts (parts : List Part) : Type 0 where
  pub some : 0 < length parts
  pub few : length parts ≤ 16
  pub named : All IsMountName (names_of parts)
  pub distinct : IsDistinct bytes_eq (names_of parts)
  pub every : All (λ (p : Part). p.names ≡ None) parts

-- what a store has as `rest`, as the mounts have it: NAME/REST
abbrev pub below : List ℕ → List ℕ → List ℕ
below name rest = name ++ 47 ∷ rest

-- whether the key is the name, a slash, and something behind it
abbrev pub begins : List ℕ → List ℕ → Bool
begins name key = starts_with nat_eq key (name ++ 47 ∷ [])

-- what is behind the name and the slash
abbrev pub behind : List ℕ → List ℕ → List ℕ
behind name key = drop 1 (drop (length name) key)

-- changes as the store under the name has them
abbrev pub shortened : List ℕ → List Change → List Change
shortened name cs = map (λ (c : Change). record { key = behind name c.key; bytes = c.bytes }) cs

-- all keys, each without its first bytes, lie below the name
abbrev pub all_below : List ℕ → List Change → ℕ → Bool
all_below name cs from = list_all (λ (c : Change). begins name (drop from c.key)) cs

-- all changes are below the mount, whose store makes them together
pub record AreOneMounts (p : Part) (cs : List Change) : Type 0 where
  pub below : all_below p.name cs 0 ≡ true
  pub together : are_together p.prefixes (shortened p.name cs) 0 ≡ true
