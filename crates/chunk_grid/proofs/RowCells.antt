-- The cells of dimensions as products of those of the first and of the others.
use Rattle.std.proofs.Common.{◌≡◌, ◌∙◌, ℕ, zero, suc, ◌+◌, ◌*◌, ◌<◌, ◌≤◌, ◌==◌, Bool, true, false, cond, ◌||◌, List, [], ◌∷◌, ◌++◌, length, map, take, drop, get_or, refl, sym, ap, arith, ℤ, pos, ◌+ℤ◌, ◌*ℤ◌, ◌-ℤ◌, ◌-◌, unsigned_abs}
use Rattle.std.specs.Prelude.{nat_lt, nat_le}
use Rattle.std.specs.List.{flat_map, AllByRecursion}
use Rattle.std.proofs.lemmas.Int.{ints}
use Rattle.std.proofs.lemmas.Bool.Decides.{nat_tests}
use Rattle.std.proofs.lemmas.Grind.{flat_map-append}
use Rattle.std.proofs.lemmas.List.{map-append, length-map, length-take-le, append-nil, take-append-drop, get_or-append_right}
use Rattle.std.proofs.lemmas.List.Concat.{flat_map_single}
use Rattle.std.proofs.lemmas.List.Folds.{flat_map-map}
use Rattle.std.proofs.Math.ListN.{get_or-append}
use Rattle.cells.specs.Places.{cell_count}
use Rattle.cells.proofs.Laws.{both}
use Rattle.index_intervals.specs.Bounds.{Bounds}
use Rattle.index_intervals.specs.Members.{size_of}
use Rattle.index_transform.specs.declared.map.OutMap.{OutMap}
use Rattle.index_transform.specs.declared.map.OutMap.TheVariants.{Constant, Strided, Indexed}
use Rattle.index_transform.specs.Cells.{counting, members_of, cells_of}
use Rattle.index_transform.specs.Transforms.{DomainAndMaps}
use Rattle.index_transform.specs.Values.{entry_index, entry_place, map_value, value_at}
use Rattle.index_transform.specs.Walks.{lows}
use Rattle.chunk_grid.specs.declared.slots.Located.{Located}
use Rattle.chunk_grid.specs.Grid.{numbers}
use Rattle.chunk_grid.specs.Rows.{are_ones, is_of_heads, is_of_rows, is_split, point, heads_of, row_of, kept, all_kept}
use Rattle.chunk_grid.specs.Slots.{located, located_kept, together, products}
use Rattle.chunk_grid.proofs.BoxLists.{all-append}
use Rattle.chunk_grid.proofs.RowParts.{parts-together}

-- a map over a flat map, and cells behind others
map-flat_map : {A B C : Type 0} (f : B → C) (g : A → List B) (xs : List A) → map f (flat_map g xs) ≡ flat_map (λ x. map f (g x)) xs
map-flat_map f g [] = refl
map-flat_map f g (x ∷ xs) = map-append f (g x) (flat_map g xs) ∙ ap (λ ys. map f (g x) ++ ys) (map-flat_map f g xs)

pub map-map : {A B C : Type 0} (f : B → C) (g : A → B) (xs : List A) → map f (map g xs) ≡ map (λ x. f (g x)) xs
map-map f g [] = refl
map-map f g (x ∷ xs) = ap (λ ys. f (g x) ∷ ys) (map-map f g xs)

flat_map-flat_map : {A B C : Type 0} (f : B → List C) (g : A → List B) (xs : List A) → flat_map f (flat_map g xs) ≡ flat_map (λ x. flat_map f (g x)) xs
flat_map-flat_map f g [] = refl
flat_map-flat_map f g (x ∷ xs) = flat_map-append f (g x) (flat_map g xs) ∙ ap (λ ys. flat_map f (g x) ++ ys) (flat_map-flat_map f g xs)

same_map : {A : Type 0} (xs : List A) → map (λ x. x) xs ≡ xs
same_map [] = refl
same_map (x ∷ xs) = ap (λ ys. x ∷ ys) (same_map xs)

-- the cells of dimensions one behind the other
abbrev behind : List (List ℤ) → List ℤ → List (List ℤ)
behind cells x = map (λ y. x ++ y) cells

cells_of-append : (a b : List Bounds) → cells_of (a ++ b) ≡ flat_map (behind (cells_of b)) (cells_of a)
cells_of-append [] b = sym (append-nil (map (λ y. y) (cells_of b)) ∙ same_map (cells_of b))
cells_of-append (d ∷ a) b =
    (λ i. flat_map (λ x. map (λ c. x ∷ c) (cells_of-append a b i)) (members_of d))
    ∙ (λ i. flat_map (λ x. further x i) (members_of d))
    ∙ sym (flat_map-flat_map (behind (cells_of b)) (λ x. map (λ c. x ∷ c) (cells_of a)) (members_of d)
    ∙ (λ i. flat_map (λ x. flat_map-map (behind (cells_of b)) (λ c. x ∷ c) (cells_of a) i) (members_of d)))
  where
    further : (x : ℤ) → map (λ c. x ∷ c) (flat_map (behind (cells_of b)) (cells_of a)) ≡ flat_map (λ p. behind (cells_of b) (x ∷ p)) (cells_of a)
    further x = map-flat_map (λ c. x ∷ c) (behind (cells_of b)) (cells_of a) ∙ (λ i. flat_map (λ p. map-map (λ c. x ∷ c) (λ y. p ++ y) (cells_of b) i) (cells_of a))

-- one index along each dimension
cells_of-points : (b : List Bounds) → cells_of (map point b) ≡ lows b ∷ []
cells_of-points [] = refl
cells_of-points (d ∷ b) =
    let one : size_of (point d) ≡ 1 = omega (arith, ints) in
    λ i. flat_map (λ x. map (λ c. x ∷ c) (cells_of-points b i)) (counting d.lo (one i))

cells_of-heads : (a b : List Bounds) → cells_of (a ++ map point b) ≡ map (λ x. x ++ lows b) (cells_of a)
cells_of-heads a b =
    cells_of-append a (map point b) ∙ (λ i. flat_map (behind (cells_of-points b i)) (cells_of a)) ∙ flat_map_single (λ x. x ++ lows b) (cells_of a)

cells_of-row : (a b : List Bounds) → cells_of (map point a ++ b) ≡ map (λ y. lows a ++ y) (cells_of b)
cells_of-row a b =
    cells_of-append (map point a) b ∙ (λ i. flat_map (behind (cells_of b)) (cells_of-points a i)) ∙ append-nil (map (λ y. lows a ++ y) (cells_of b))

-- an array with sizes of 1 is read at the same place
no_step : (d : Bounds) (s : ℕ) (x : ℤ) → (s == 1) ≡ true → entry_index d s x ≡ 0
no_step d s x e = ap (λ b. cond b 0 (unsigned_abs (x -ℤ d.lo))) e

ones-place : (dims : List Bounds) (sizes : List ℕ) (l y : List ℤ) → length l ≡ length y → are_ones sizes ≡ true → entry_place dims sizes l ≡ entry_place dims sizes y
ones-place [] sizes l y same e = refl
ones-place (d ∷ dims) [] l y same e = refl
ones-place (d ∷ dims) (s ∷ sizes) [] [] same e = refl
ones-place (d ∷ dims) (s ∷ sizes) [] (b ∷ y) same e = absurd (omega (arith, same))
ones-place (d ∷ dims) (s ∷ sizes) (a ∷ l) [] same e = absurd (omega (arith, same))
ones-place (d ∷ dims) (s ∷ sizes) (a ∷ l) (b ∷ y) same e =
    let p = both (s == 1) (are_ones sizes) e in
    λ i. (no_step d s a p.0 ∙ sym (no_step d s b p.0)) i * cell_count sizes + ones-place dims sizes l y (omega (arith, same)) p.1 i

heads-place : (k : ℕ) (dims : List Bounds) (sizes : List ℕ) (x l y : List ℤ) → length x ≡ k → length l ≡ length y → are_ones (drop k sizes) ≡ true
    → entry_place dims sizes (x ++ l) ≡ entry_place dims sizes (x ++ y)
heads-place zero dims sizes [] l y long same e = ones-place dims sizes l y same e
heads-place zero dims sizes (a ∷ x) l y long same e = absurd (omega (arith, long))
heads-place (suc k) dims sizes [] l y long same e = absurd (omega (arith, long))
heads-place (suc k) [] sizes (a ∷ x) l y long same e = refl
heads-place (suc k) (d ∷ dims) [] (a ∷ x) l y long same e = refl
heads-place (suc k) (d ∷ dims) (s ∷ sizes) (a ∷ x) l y long same e =
    ap (λ n. entry_index d s a * cell_count sizes + n) (heads-place k dims sizes x l y (omega (arith, long)) same e)

row-place : (k : ℕ) (dims : List Bounds) (sizes : List ℕ) (x a y : List ℤ) → length x ≡ k → length a ≡ k → are_ones (take k sizes) ≡ true
    → entry_place dims sizes (x ++ y) ≡ entry_place dims sizes (a ++ y)
row-place zero dims sizes [] [] y p q e = refl
row-place zero dims sizes [] (b ∷ a) y p q e = absurd (omega (arith, q))
row-place zero dims sizes (b ∷ x) a y p q e = absurd (omega (arith, p))
row-place (suc k) dims sizes [] a y p q e = absurd (omega (arith, p))
row-place (suc k) dims sizes (b ∷ x) [] y p q e = absurd (omega (arith, q))
row-place (suc k) [] sizes (b ∷ x) (c ∷ a) y p q e = refl
row-place (suc k) (d ∷ dims) [] (b ∷ x) (c ∷ a) y p q e = refl
row-place (suc k) (d ∷ dims) (s ∷ sizes) (b ∷ x) (c ∷ a) y p q e =
    let t = both (s == 1) (are_ones (take k sizes)) e in
    λ i. (no_step d s b t.0 ∙ sym (no_step d s c t.0)) i * cell_count sizes + row-place k dims sizes x a y (omega (arith, p)) (omega (arith, q)) t.1 i

-- an output of the heads doesn't see the others, and the other way round
at_head : (x l : List ℤ) (k d : ℕ) → length x ≡ k → nat_lt d k ≡ true → get_or (x ++ l) d (pos 0) ≡ get_or x d (pos 0)
at_head x l k d long e = let lt : d < k = grind (arith, nat_tests, e) in get_or-append x l (pos 0) d (omega (arith, long, lt))

at_row : (x y : List ℤ) (k d : ℕ) → length x ≡ k → nat_le k d ≡ true → get_or (x ++ y) d (pos 0) ≡ get_or y (d - k) (pos 0)
at_row x y k d long e = let le : k ≤ d = grind (arith, nat_tests, e) in get_or-append_right x y k d (pos 0) long le

pub head-value : (k : ℕ) (dims : List Bounds) (m : OutMap) (x l y : List ℤ) → length x ≡ k → length l ≡ length y → is_of_heads k m ≡ true → map_value dims (x ++ l) m ≡ map_value dims (x ++ y) m
head-value k dims (Constant o) x l y long same e = refl
head-value k dims (Strided o s d) x l y long same e = ap (λ v. o +ℤ s *ℤ v) (at_head x l k d long e ∙ sym (at_head x y k d long e))
head-value k dims (Indexed o s sizes entries) x l y long same e = ap (λ n. o +ℤ s *ℤ get_or entries n (pos 0)) (heads-place k dims sizes x l y long same e)

pub row-value : (k : ℕ) (dims : List Bounds) (m : OutMap) (x a y : List ℤ) → length x ≡ k → length a ≡ k → is_of_rows k m ≡ true → map_value dims (x ++ y) m ≡ map_value dims (a ++ y) m
row-value k dims (Constant o) x a y p q e = refl
row-value k dims (Strided o s d) x a y p q e = ap (λ v. o +ℤ s *ℤ v) (at_row x y k d p e ∙ sym (at_row a y k d q e))
row-value k dims (Indexed o s sizes entries) x a y p q e = ap (λ n. o +ℤ s *ℤ get_or entries n (pos 0)) (row-place k dims sizes x a y p q e)

-- so the numbers that are kept are the same
other_kind : (a b : Bool) → (a || b) ≡ true → b ≡ false → a ≡ true
other_kind true b e f = refl
other_kind false b e f = absurd (let no_such : ⊥ = cc in no_such)

heads-kept : (k : ℕ) (dims : List Bounds) (maps : List OutMap) (x l y : List ℤ) → length x ≡ k → length l ≡ length y → is_split k maps ≡ true
    → all_kept false (map (is_of_rows k) maps) (map (map_value dims (x ++ l)) maps) ≡ all_kept false (map (is_of_rows k) maps) (map (map_value dims (x ++ y)) maps)
heads-kept k dims [] x l y long same e = refl
heads-kept k dims (m ∷ maps) x l y long same e =
    let p = both (is_of_heads k m || is_of_rows k m) (is_split k maps) e in
    λ i. told (is_of_rows k m) refl p.0 i ∷ heads-kept k dims maps x l y long same p.1 i
  where
    told : (b : Bool) → is_of_rows k m ≡ b → (is_of_heads k m || is_of_rows k m) ≡ true → kept false b (map_value dims (x ++ l) m) ≡ kept false b (map_value dims (x ++ y) m)
    told true f h = refl
    told false f h = head-value k dims m x l y long same (other_kind (is_of_heads k m) (is_of_rows k m) h f)

row-kept : (k : ℕ) (dims : List Bounds) (maps : List OutMap) (x a y : List ℤ) → length x ≡ k → length a ≡ k
    → all_kept true (map (is_of_rows k) maps) (map (map_value dims (x ++ y)) maps) ≡ all_kept true (map (is_of_rows k) maps) (map (map_value dims (a ++ y)) maps)
row-kept k dims [] x a y p q = refl
row-kept k dims (m ∷ maps) x a y p q = λ i. told (is_of_rows k m) refl i ∷ row-kept k dims maps x a y p q i
  where
    told : (b : Bool) → is_of_rows k m ≡ b → kept true b (map_value dims (x ++ y) m) ≡ kept true b (map_value dims (a ++ y) m)
    told true f = row-value k dims m x a y p q f
    told false f = refl

-- each cell has an index per dimension
cells-long : (dims : List Bounds) → AllByRecursion (λ c. length c ≡ length dims) (cells_of dims)
cells-long [] = (refl, tt)
cells-long (d ∷ dims) = each (cells-long dims) (members_of d)
  where
    mapped : (x : ℤ) (cs : List (List ℤ)) → AllByRecursion (λ c. length c ≡ length dims) cs → AllByRecursion (λ c. length c ≡ suc (length dims)) (map (λ c. x ∷ c) cs)
    mapped x [] h = tt
    mapped x (c ∷ cs) h = (ap suc h.0, mapped x cs h.1)

    each : AllByRecursion (λ c. length c ≡ length dims) (cells_of dims) → (xs : List ℤ) → AllByRecursion (λ c. length c ≡ suc (length dims)) (flat_map (λ x. map (λ c. x ∷ c) (cells_of dims)) xs)
    each h [] = tt
    each h (x ∷ xs) = all-append (λ c. length c ≡ suc (length dims)) (map (λ c. x ∷ c) (cells_of dims)) (flat_map (λ x. map (λ c. x ∷ c) (cells_of dims)) xs) (mapped x (cells_of dims) h) (each h xs)

-- lists that are the same at each of some elements
map-same : {A B : Type 0} (f g : A → B) (xs : List A) → AllByRecursion (λ x. f x ≡ g x) xs → map f xs ≡ map g xs
map-same f g [] h = refl
map-same f g (x ∷ xs) h = λ i. h.0 i ∷ map-same f g xs h.1 i

flat_map-same : {A B : Type 0} (f g : A → List B) (xs : List A) → AllByRecursion (λ x. f x ≡ g x) xs → flat_map f xs ≡ flat_map g xs
flat_map-same f g [] h = refl
flat_map-same f g (x ∷ xs) h = λ i. h.0 i ++ flat_map-same f g xs h.1 i

-- where the cells of a view lie
module _ (t : DomainAndMaps) (counts chunk : List ℕ) (k : ℕ) (same : length counts ≡ length t.maps) (long : length chunk ≡ length t.maps) (split : is_split k t.maps ≡ true) where
  abbrev flags : List Bool
  flags = map (is_of_rows k) t.maps

  abbrev at : List ℤ → Located
  at cell = located counts chunk (numbers (value_at t cell))

  pub cell-together : (x l a y : List ℤ) → length x ≡ k → length a ≡ k → length l ≡ length y
      → together (located_kept false t counts chunk (map (is_of_rows k) t.maps) (x ++ l)) (located_kept true t counts chunk (map (is_of_rows k) t.maps) (a ++ y)) ≡ located counts chunk (numbers (value_at t (x ++ y)))
  cell-together x l a y p q r =
      (λ i. together (located counts chunk (numbers (heads-kept k t.domain.dims t.maps x l y p r split i))) (located counts chunk (numbers (row-kept k t.domain.dims t.maps a x y q p i))))
      ∙ parts-together counts chunk flags (value_at t (x ++ y)) (same ∙ sym flags_long) (long ∙ sym flags_long) (length-map t.maps (map_value t.domain.dims (x ++ y)) ∙ sym flags_long)
    where
      flags_long : length (map (is_of_rows k) t.maps) ≡ length t.maps
      flags_long = length-map t.maps (is_of_rows k)

  products-of : (a b : List Bounds) → length a ≡ k
      → products (map (located_kept false t counts chunk (map (is_of_rows k) t.maps)) (cells_of (a ++ map point b))) (map (located_kept true t counts chunk (map (is_of_rows k) t.maps)) (cells_of (map point a ++ b)))
      ≡ map (λ cell. located counts chunk (numbers (value_at t cell))) (cells_of (a ++ b))
  products-of a b is =
      (λ i. products (map heads_at (cells_of-heads a b i)) (map row_at (cells_of-row a b i)))
      ∙ (λ i. products (map-map heads_at (λ x. x ++ lows b) (cells_of a) i) (map-map row_at (λ y. lows a ++ y) (cells_of b) i))
      ∙ flat_map-map (λ h. map (together h) (map (λ y. row_at (lows a ++ y)) (cells_of b))) (λ x. heads_at (x ++ lows b)) (cells_of a)
      ∙ flat_map-same _ (λ x. map (λ y. at (x ++ y)) (cells_of b)) (cells_of a) (heads (cells_of a) (cells-long a))
      ∙ sym (ap (map at) (cells_of-append a b) ∙ map-flat_map at (behind (cells_of b)) (cells_of a) ∙ (λ i. flat_map (λ x. map-map at (λ y. x ++ y) (cells_of b) i) (cells_of a)))
    where
      heads_at : List ℤ → Located
      heads_at = located_kept false t counts chunk (map (is_of_rows k) t.maps)

      row_at : List ℤ → Located
      row_at = located_kept true t counts chunk (map (is_of_rows k) t.maps)

      lows_long : (ds : List Bounds) → length (lows ds) ≡ length ds
      lows_long ds = length-map ds (λ d. d.lo)

      row : (x : List ℤ) (ys : List (List ℤ)) → length x ≡ k → AllByRecursion (λ c. length c ≡ length b) ys
          → AllByRecursion (λ y. together (located_kept false t counts chunk (map (is_of_rows k) t.maps) (x ++ lows b)) (located_kept true t counts chunk (map (is_of_rows k) t.maps) (lows a ++ y)) ≡ located counts chunk (numbers (value_at t (x ++ y)))) ys
      row x [] p h = tt
      row x (y ∷ ys) p h = (cell-together x (lows b) (lows a) y p (lows_long a ∙ is) (lows_long b ∙ sym h.0), row x ys p h.1)

      heads : (xs : List (List ℤ)) → AllByRecursion (λ c. length c ≡ length a) xs
          → AllByRecursion (λ x. map (together (located_kept false t counts chunk (map (is_of_rows k) t.maps) (x ++ lows b))) (map (λ y. located_kept true t counts chunk (map (is_of_rows k) t.maps) (lows a ++ y)) (cells_of b)) ≡ map (λ y. located counts chunk (numbers (value_at t (x ++ y)))) (cells_of b)) xs
      heads [] h = tt
      heads (x ∷ xs) h = (
        map-map (together (located_kept false t counts chunk (map (is_of_rows k) t.maps) (x ++ lows b))) (λ y. located_kept true t counts chunk (map (is_of_rows k) t.maps) (lows a ++ y)) (cells_of b)
            ∙ map-same _ (λ y. located counts chunk (numbers (value_at t (x ++ y)))) (cells_of b) (row x (cells_of b) (h.0 ∙ is) (cells-long b)),
        heads xs h.1,
      )

  pub products-located : k ≤ length t.domain.dims
      → products (map (located_kept false t counts chunk (map (is_of_rows k) t.maps)) (cells_of (heads_of k t.domain.dims))) (map (located_kept true t counts chunk (map (is_of_rows k) t.maps)) (cells_of (row_of k t.domain.dims)))
      ≡ map (λ cell. located counts chunk (numbers (value_at t cell))) (cells_of t.domain.dims)
  products-located le =
      products-of (take k t.domain.dims) (drop k t.domain.dims) (length-take-le k t.domain.dims le)
      ∙ ap (λ ds. map (λ cell. located counts chunk (numbers (value_at t cell))) (cells_of ds)) (take-append-drop k t.domain.dims)
