-- A box split by one output.
use Rattle.std.proofs.Common.{◌≡◌, ◌∙◌, ℕ, zero, suc, ◌/◌, ◌<◌, ◌==◌, Bool, true, ℤ, pos, ◌+ℤ◌, ◌*ℤ◌, ◌≤ℤ◌, unsigned_abs, List, [], ◌∷◌, ◌++◌, length, map, get_or, refl, sym, ap, subst, arith}
use Rattle.std.specs.Prelude.{filter}
use Rattle.std.specs.List.{Contains}
use Rattle.std.proofs.lemmas.Bool.{eq-eqb, ltb-true}
use Rattle.index_intervals.specs.Bounds.{Bounds}
use Rattle.index_transform.specs.declared.map.OutMap.{OutMap}
use Rattle.index_transform.specs.declared.map.OutMap.TheVariants.{Constant, Strided}
use Rattle.index_transform.specs.Cells.{members_of, cells_of}
use Rattle.index_transform.specs.Maps.{is_map}
use Rattle.index_transform.specs.Values.{map_value}
use Rattle.index_transform.specs.Walks.{IsCell, IsNonEmpty, lows}
use Rattle.chunk_grid.specs.declared.boxes.Boxed.{Boxed}
use Rattle.chunk_grid.specs.declared.boxes.Segment.{Segment}
use Rattle.chunk_grid.specs.Boxes.{chunk_along}
use Rattle.chunk_grid.specs.BoxSteps.{IsBefore, IsNarrowed, IsPartOf, IsSplit, IsCut, IsPlaceAlong, CanSplit, strided_number, narrowed_box}
use Rattle.chunk_grid.proofs.BoxLists.{all-map, rising-map, before-same}
use Rattle.chunk_grid.proofs.BoxCells.{lows-cell, cells-narrowed, cell-contained, cell-at, some-cell, narrowed-set, narrowed-itself}

pub same-at : {X : Type 0} (xs : List X) (k : ℕ) (a b : X) → k < length xs → get_or xs k a ≡ get_or xs k b
same-at [] k a b lt = absurd (omega arith)
same-at (x ∷ xs) zero a b lt = refl
same-at (x ∷ xs) (suc k) a b lt = same-at xs k a b (omega arith)

numbers-chunks : (box : Boxed) (d n : ℕ) (segments : List Segment) (k : ℕ) → k < length (map (λ (s : Segment). s.number) segments) → get_or (map (λ (s : Segment). s.number) segments) k n ≡ n
    → Contains (map (λ (b : Boxed). b.chunk) (map (narrowed_box box d) segments)) (box.chunk ++ n ∷ [])
numbers-chunks box d n [] k lt is = absurd (omega arith)
numbers-chunks box d n (s ∷ segments) zero lt is = (0, omega arith, ap (λ (m : ℕ). box.chunk ++ m ∷ []) is)
numbers-chunks box d n (s ∷ segments) (suc k) lt is =
    let rest = numbers-chunks box d n segments k (omega arith) is in
    let l = rest.1 in
    (suc rest.0, omega (arith, l), rest.2)

-- by the segments of a dimension
pub split-strided : (box : Boxed) (o s : ℤ) (d size : ℕ) (dim : Bounds) (segments : List Segment) → IsNonEmpty box.dims → d < length box.dims → dim ≡ get_or box.dims d dim
    → IsCut (strided_number o s size) dim segments → IsSplit (chunk_along (Strided o s d) size) box (map (narrowed_box box d) segments)
split-strided box o s d size dim segments filled lt is cut = record {
  rising = rising-map (λ (a b : Segment). a.number < b.number) IsBefore (narrowed_box box d) (λ a b l. before-same box.chunk a.number b.number l) segments cut.rising;
  each = all-map (IsPartOf (chunk_along (Strided o s d) size) box) (λ (g : Segment). (members_of g.dim ≡ filter (λ x. strided_number o s size x == g.number) (members_of dim)) × IsNarrowed dim g.dim) (narrowed_box box d)
      (λ g h.
      let here : dim ≡ get_or box.dims d g.dim = is ∙ same-at box.dims d dim g.dim lt in (
        g.number,
        refl,
        cells-narrowed (λ x. strided_number o s size x == g.number) d box.dims g.dim lt (h.0 ∙ ap (λ (b : Bounds). filter (λ x. strided_number o s size x == g.number) (members_of b)) here),
        narrowed-set box.dims d g.dim filled lt (subst (λ (b : Bounds). IsNarrowed b g.dim) here h.1),
      ))
      segments cut.each;
  all = λ cell has.
      let at = cell-at box.dims cell d dim (cell-contained box.dims cell filled has) lt in
      let low = subst (λ (b : Bounds). b.lo ≤ℤ get_or cell d (pos 0)) (sym is) at.0 in
      let high = subst (λ (b : Bounds). get_or cell d (pos 0) ≤ℤ b.hi) (sym is) at.1 in
      let number = cut.all (get_or cell d (pos 0)) low high in
      numbers-chunks box d (strided_number o s size (get_or cell d (pos 0))) segments number.0 number.1 number.2;
}

-- by nothing
pub filter-same : {X : Type 0} (p : X → Bool) → ((x : X) → p x ≡ true) → (xs : List X) → xs ≡ filter p xs
filter-same p h [] = refl
filter-same p h (x ∷ xs) = rw (h x) (ap (λ ys. x ∷ ys) (filter-same p h xs))

pub split-whole : (box : Boxed) (o : ℤ) (size : ℕ) (parts : List Boxed) → IsNonEmpty box.dims → parts ≡ (let b : Boxed = record { chunk = box.chunk ++ (unsigned_abs o / size) ∷ []; dims = box.dims } in b) ∷ []
    → IsSplit (chunk_along (Constant o) size) box parts
split-whole box o size parts filled e =
    let n = unsigned_abs o / size in
    let part : Boxed = record { chunk = box.chunk ++ n ∷ []; dims = box.dims } in
    subst (IsSplit (chunk_along (Constant o) size) box) (sym e) (record {
      rising = (tt, tt);
      each = ((n, refl, filter-same (λ cell. n == n) (λ cell. eq-eqb n n refl) (cells_of box.dims), narrowed-itself box.dims filled), tt);
      all = λ cell has. (0, omega arith, refl);
    })

-- the values along a dimension
pub strided-values : (dims : List Bounds) (o s : ℤ) (d : ℕ) (dim : Bounds) → IsNonEmpty dims → d < length dims → dim ≡ get_or dims d dim
    → ((cell : List ℤ) → IsCell dims cell → IsPlaceAlong (map_value [] cell (Strided o s d))) → (x : ℤ) → dim.lo ≤ℤ x → x ≤ℤ dim.hi → IsPlaceAlong (o +ℤ s *ℤ x)
strided-values dims o s d dim filled lt is values x low high =
    let cell = some-cell dims d dim x filled lt (subst (λ (b : Bounds). b.lo ≤ℤ x) is low) (subst (λ (b : Bounds). x ≤ℤ b.hi) is high) in
    subst (λ (y : ℤ). IsPlaceAlong (o +ℤ s *ℤ y)) cell.at (values cell.cell cell.is)

-- each dimension has an index
pub filled-at : (dims : List Bounds) (d : ℕ) (dim : Bounds) → IsNonEmpty dims → d < length dims → dim ≡ get_or dims d dim → dim.lo ≤ℤ dim.hi
filled-at dims d dim filled lt is = subst (λ (b : Bounds). b.lo ≤ℤ b.hi) (sym is) (at dims d filled lt) where
  at : (ds : List Bounds) (k : ℕ) → IsNonEmpty ds → k < length ds → (get_or ds k dim).lo ≤ℤ (get_or ds k dim).hi
  at [] k some l = absurd (omega arith)
  at (e ∷ ds) zero some l = some.0
  at (e ∷ ds) (suc k) some l = at ds k some.1 (omega arith)

-- what is known of a box that can be split, where the map is strided or constant
pub record IsStridedSplit (box : Boxed) (o s : ℤ) (d : ℕ) : Type 0 where
  pub lt : d < length box.dims
  pub values : (cell : List ℤ) → IsCell box.dims cell → IsPlaceAlong (map_value [] cell (Strided o s d))

pub strided-split : (box : Boxed) (m : OutMap) (o s : ℤ) (d : ℕ) → CanSplit m box → m ≡ Strided o s d → IsStridedSplit box o s d
strided-split box m o s d h is = record {
  lt = let w = h.within in ltb-true d (length box.dims) (sym (ap (is_map box.dims) is) ∙ w);
  values = subst (λ (n : OutMap). (cell : List ℤ) → IsCell box.dims cell → IsPlaceAlong (map_value [] cell n)) is h.values;
}

pub constant-value : (box : Boxed) (m : OutMap) (o : ℤ) → CanSplit m box → m ≡ Constant o → IsPlaceAlong o
constant-value box m o h is =
    subst (λ (n : OutMap). IsPlaceAlong (map_value [] (lows box.dims) n)) is (h.values (lows box.dims) (lows-cell box.dims h.filled))
