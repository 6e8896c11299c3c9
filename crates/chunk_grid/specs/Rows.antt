-- Views whose outputs each go with the first dimensions alone or with the others alone.
use Rattle.std.specs.Prelude.{◌≡◌, ℕ, ◌≤◌, IsTrue, length, ◌==◌, nat_lt, nat_le, ℤ, pos, Bool, true, false, ◌||◌, List, [], ◌∷◌, ◌++◌, map, take, drop, if◌then◌else◌}
use Rattle.std.specs.List.{list_all}
use Rattle.index_intervals.specs.Bounds.{Bounds}
use Rattle.index_transform.specs.Transforms.{DomainAndMaps}
use Rattle.index_transform.specs.declared.map.OutMap.{OutMap}
use Rattle.index_transform.specs.declared.map.OutMap.TheVariants.{Constant, Strided, Indexed}

-- each size is 1
abbrev pub are_ones : List ℕ → Bool
are_ones sizes = list_all (λ size. size == 1) sizes

-- the output goes with the first `k` dimensions alone
abbrev pub is_of_heads : ℕ → OutMap → Bool
is_of_heads k (Constant offset) = true
is_of_heads k (Strided offset stride dim) = nat_lt dim k
is_of_heads k (Indexed offset stride sizes entries) = are_ones (drop k sizes)

-- the output goes with the other dimensions alone
abbrev pub is_of_rows : ℕ → OutMap → Bool
is_of_rows k (Constant offset) = true
is_of_rows k (Strided offset stride dim) = nat_le k dim
is_of_rows k (Indexed offset stride sizes entries) = are_ones (take k sizes)

-- each output is of one of the two kinds
abbrev pub is_split : ℕ → List OutMap → Bool
is_split k maps = list_all (λ m. is_of_heads k m || is_of_rows k m) maps

-- the lower bound alone
abbrev pub point : Bounds → Bounds
point dim = record dim { hi = dim.lo }

-- the first dimensions, with one index along each of the others
abbrev pub heads_of : ℕ → List Bounds → List Bounds
heads_of k dims = take k dims ++ map point (drop k dims)

-- one index along each of the first dimensions, with the others
abbrev pub row_of : ℕ → List Bounds → List Bounds
row_of k dims = map point (take k dims) ++ drop k dims

-- of the outputs with these flags the numbers whose flag is wanted, and 0 for the others
abbrev pub kept : Bool → Bool → ℤ → ℤ
kept true flag x = if flag then x else pos 0
kept false flag x = if flag then pos 0 else x

abbrev pub all_kept : Bool → List Bool → List ℤ → List ℤ
all_kept want [] xs = []
all_kept want (flag ∷ flags) [] = []
all_kept want (flag ∷ flags) (x ∷ xs) = kept want flag x ∷ all_kept want flags xs

-- the view can be parted behind its first `k` dimensions, and these are the flags of the outputs that go with the others
pub record IsSplitView (k : ℕ) (t : DomainAndMaps) (flags : List Bool) : Type 0 where
  pub within : k ≤ length t.domain.dims
  pub split : IsTrue (is_split k t.maps)
  pub known : flags ≡ map (is_of_rows k) t.maps
