-- The words that the places of a chunk had, moment by moment.
use Rattle.std.specs.Prelude.{◌≡◌, ◌<◌, ◌≤◌, ◌⊎◌, ℕ, zero, suc, ◌-◌, ◌+◌, nat_lt, List, [], ◌∷◌, ◌++◌, length, get_or, set, replicate, ◌==◌, Option, Some, None, if◌then◌else◌}
use Rattle.chunk_versions.specs.Moments.{IsRising, up_to}
use Rattle.chunk_versions.specs.declared.put.Put.{Put}

-- what is kept of a chunk: the count of its places, the word that each has at first, the numbers of the events that touched it, with its
-- opening first, the words put, in order, and for each place its newest put, counted from 1, or 0
pub record Versions : Type 0 where
  pub size : ℕ
  pub fill : ℕ
  pub touches : List ℕ
  pub last : List ℕ
  pub puts : List Put

-- no word put
abbrev pub no_put : Put
no_put = record { word = 0; touch = 0; before = 0 }

-- the versions from a link back, newest first, among the first `n` puts: each but the last leads to the one before it at its place
abbrev pub versions_from : List Put → ℕ → ℕ → List Put
versions_from puts zero link = []
versions_from puts (suc n) link =
    if link == suc n then get_or puts n no_put ∷ versions_from puts n (get_or puts n no_put).before else versions_from puts n link

-- of versions, newest first, the word of the newest that one of the first `count` touches put, else the word that was there at first
abbrev pub word_behind : ℕ → List Put → ℕ → ℕ
word_behind fill [] count = fill
word_behind fill (p ∷ older) count = if nat_lt p.touch count then p.word else word_behind fill older count

-- the word behind the first `count` touches, where this link leads to the newest put of the place
abbrev pub word_from : ℕ → List Put → ℕ → ℕ → ℕ
word_from fill puts link count = word_behind fill (versions_from puts (length puts) link) count

-- the word of a place behind the first `count` touches
abbrev pub word_in : Versions → ℕ → ℕ → ℕ
word_in v place count = word_from v.fill v.puts (get_or v.last place 0) count

-- the same where the chunk was opened; before its opening there is none
abbrev pub word_if : Versions → ℕ → ℕ → Option ℕ
word_if v place zero = None
word_if v place (suc n) = Some (word_in v place (suc n))

-- the word that a place has at a moment
abbrev pub word_as_of : Versions → ℕ → ℕ → Option ℕ
word_as_of v m place = word_if v place (up_to m v.touches)

-- the put of a link; where there is none, one by which the place has its first word
abbrev pub put_at : ℕ → List Put → ℕ → Put
put_at fill puts zero = record { word = fill; touch = 0; before = 0 }
put_at fill puts (suc n) = get_or puts n no_put

-- each put leads to an earlier one or none, and is by one of so many touches
pub record AreLinked (puts : List Put) (touches : ℕ) : Type 0 where
  pub before : (k : ℕ) → k < length puts → (get_or puts k no_put).before ≤ k
  pub behind : (k : ℕ) → k < length puts → (get_or puts k no_put).touch < touches

-- what is kept is that of a chunk
pub record IsVersions (v : Versions) : Type 0 where
  pub opened : 0 < length v.touches
  pub rising : IsRising v.touches
  pub table : (length v.last ≡ 0) ⊎ (length v.last ≡ v.size)
  pub links : (place : ℕ) → get_or v.last place 0 ≤ length v.puts
  pub linked : AreLinked v.puts (length v.touches)

-- the newest puts of so many places, where there is no list of them yet
abbrev pub table_of : ℕ → List ℕ → List ℕ
table_of size [] = replicate size 0
table_of size (l ∷ last) = l ∷ last

-- the same with room for the newest put of each place
abbrev pub with_table : Versions → Versions
with_table v = record v { last = table_of v.size v.last }

-- the same with a word put at a place by the newest touch
abbrev pub with_put : ℕ → ℕ → Versions → Versions
with_put place word v = record v {
  last = set v.last place (length v.puts + 1);
  puts = v.puts ++ record { word = word; touch = length v.touches - 1; before = get_or v.last place 0 } ∷ [];
}

-- each place has the same words, at each moment
abbrev pub HasSameWords : Versions → Versions → Type 0
HasSameWords old new = (m place : ℕ) → word_as_of new m place ≡ word_as_of old m place
