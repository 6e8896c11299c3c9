-- Locations that lie one below another.
use Rattle.std.specs.Prelude.{◌≡◌, ◌<◌, ℕ, List, [], ◌∷◌, ◌++◌, length, Bool, true, false, Some, None, ◌==◌, ◌&&◌, ◌||◌}
use Rattle.std.specs.Coded.{Coded, coded_list, coded_ℕ}
use Rattle.std.specs.FinMap as finmap
use Rattle.std.specs.FinMap.{FinMap}
use Rattle.std.specs.Ordering.{is_lt, nat_cmp}
use Rattle.std.specs.Cmp.Lexicographic.{slice_cmp}

-- one text is the beginning of another
abbrev pub begins : List ℕ → List ℕ → Bool
begins [] ys = true
begins (x ∷ xs) [] = false
begins (x ∷ xs) (y ∷ ys) = x == y && begins xs ys

-- one location lies below another: it goes on behind a "/"
abbrev pub is_below : List ℕ → List ℕ → Bool
is_below upper lower = begins (upper ++ 47 ∷ []) lower

-- one of two locations lies below the other
abbrev pub clashes : List ℕ → List ℕ → Bool
clashes here there = is_below here there || is_below there here

-- where arrays lie: the number of the array at each location
abbrev pub Located : Type 0
Located = FinMap (slice_cmp nat_cmp) ℕ

abbrev pub located_code : Coded Located
located_code = finmap.code (coded_list coded_ℕ) coded_ℕ

-- of the locations that clash with this one and have an array, none stands before the other in byte order, which is one of them
pub record IsLeastClash (places : Located) (here other : List ℕ) : Type 0 where
  pub clash : clashes here other ≡ true
  pub number : ℕ
  pub there : finmap.get places other ≡ Some number
  pub least : (s : List ℕ) (n : ℕ) → clashes here s ≡ true → finmap.get places s ≡ Some n → is_lt (slice_cmp nat_cmp s other) ≡ false

-- no location that clashes with this one has an array
abbrev pub HasNoClash : Located → List ℕ → Type 0
HasNoClash places here = (s : List ℕ) → clashes here s ≡ true → finmap.get places s ≡ None

-- of the parts of a text that end before a "/" the shortest at which an array lies, and its number
pub record IsFirstAbove (places : Located) (text : List ℕ) (number : ℕ) : Type 0 where
  pub upper : List ℕ
  pub rest : List ℕ
  pub parts : text ≡ upper ++ 47 ∷ rest
  pub there : finmap.get places upper ≡ Some number
  pub shortest : (other more : List ℕ) → text ≡ other ++ 47 ∷ more → length other < length upper → finmap.get places other ≡ None

-- no array lies at a part of a text that ends before a "/"
abbrev pub HasNoneAbove : Located → List ℕ → Type 0
HasNoneAbove places text = (upper rest : List ℕ) → text ≡ upper ++ 47 ∷ rest → finmap.get places upper ≡ None

-- no two locations at which arrays lie clash
abbrev pub AreApart : Located → Type 0
AreApart places = (one other : List ℕ) (n m : ℕ) → finmap.get places one ≡ Some n → finmap.get places other ≡ Some m → clashes one other ≡ false
