-- The boxes of all outputs.
use Rattle.std.proofs.Common.{◌≡◌, ◌≢◌, ◌∙◌, ℕ, zero, suc, ◌+◌, ◌-◌, ◌^◌, ◌<◌, ◌≤◌, Bool, true, ℤ, pos, List, [], ◌∷◌, ◌++◌, length, map, get_or, take, refl, sym, ap, subst, arith}
use Rattle.std.specs.Prelude.{IsTrue, filter, nat_lt, ◌≤ℤ◌, ◌<ℤ◌}
use Rattle.std.specs.Str.{bytes_eq}
use Rattle.std.specs.List.{All, AllByRecursion, AllZip, Contains, list_all}
use Rattle.std.specs.Ordering.{is_lt, nat_cmp}
use Rattle.std.specs.Cmp.Lexicographic.{slice_cmp}
use Rattle.std.proofs.lemmas.Int.{ints}
use Rattle.std.proofs.lemmas.Bool.{and_parts, false≢true}
use Rattle.std.proofs.lemmas.List.{take_more, length-map}
use Rattle.std.proofs.lemmas.List.Elements.{All-from_recursion, All-contains, All-head, All-tail}
use Rattle.index_intervals.specs.Bounds.{Bounds}
use Rattle.index_transform.specs.declared.map.OutMap.{OutMap}
use Rattle.index_transform.specs.declared.map.OutMap.TheVariants.{Constant, Strided, Indexed}
use Rattle.index_transform.specs.Cells.{is_finite, cells_of}
use Rattle.index_transform.specs.Maps.{is_map}
use Rattle.index_transform.specs.Values.{map_value}
use Rattle.index_transform.specs.Walks.{IsCell, IsNonEmpty}
use Rattle.chunk_grid.specs.declared.boxes.Boxed.{Boxed}
use Rattle.chunk_grid.specs.Boxes.{AreBoxes, key_along, chunk_along, is_regular}
use Rattle.chunk_grid.specs.BoxSteps.{IsBefore, IsNarrowed, IsParted, IsPartOf, AreSplit, IsPlaceAlong, CanSplit}
use Rattle.chunk_grid.specs.Grid.{IsInShape}
use Rattle.chunk_grid.proofs.GridLaws.{length-in_shape}
use Rattle.chunk_grid.proofs.BoxLists.{all-append, all-weaker, rising-map, rising-at}
use Rattle.chunk_grid.proofs.BoxParts.{long-more, parted-more}
use Rattle.chunk_grid.proofs.BoxCells.{contains-cell, filled-some, narrowed-itself, narrowed-filled, narrowed-more, narrowed-length, narrowed-finite, narrowed-cell}
use Rattle.chunk_grid.proofs.BoxSplits.{filter-same}
use Rattle.cells.proofs.Laws.{both_true}

-- the boxes lie within the dimensions
abbrev pub AreWithin : List Bounds → List Boxed → Type 0
AreWithin dims boxes = AllByRecursion (λ b. AllZip IsNarrowed dims b.dims) boxes

within-more : (dims : List Bounds) (number : List ℤ → ℕ) (boxes out : List Boxed) → AreWithin dims boxes → AreSplit number boxes out → AreWithin dims out
within-more dims number [] out w h = subst (AreWithin dims) (sym h) tt
within-more dims number (b ∷ boxes) out w h =
    subst (AreWithin dims) (sym h.2)
    (all-append (λ (p : Boxed). AllZip IsNarrowed dims p.dims) h.0 h.1
    (all-weaker (IsPartOf number b) (λ p. AllZip IsNarrowed dims p.dims) (λ p q. narrowed-more dims b.dims p.dims w.0 q.3) h.0 h.3.each)
    (within-more dims number boxes h.1 w.1 h.4))

-- the numbers along one output more
key-append : (ms : List OutMap) (ns : List ℕ) (m : OutMap) (n : ℕ) (cell : List ℤ) → length ns ≡ length ms → key_along (ms ++ m ∷ []) (ns ++ n ∷ []) cell ≡ key_along ms ns cell ++ chunk_along m n cell ∷ []
key-append [] [] m n cell e = refl
key-append [] (k ∷ ns) m n cell e = absurd (omega arith)
key-append (l ∷ ms) [] m n cell e = absurd (omega arith)
key-append (l ∷ ms) (k ∷ ns) m n cell e = ap (λ ks. chunk_along l k cell ∷ ks) (key-append ms ns m n cell (omega arith))

key-length : (ms : List OutMap) (ns : List ℕ) (cell : List ℤ) → length ns ≡ length ms → length (key_along ms ns cell) ≡ length ms
key-length [] ns cell e = refl
key-length (m ∷ ms) [] cell e = absurd (omega arith)
key-length (m ∷ ms) (n ∷ ns) cell e = ap suc (key-length ms ns cell (omega arith))

taken : {X : Type 0} (xs : List X) (j : ℕ) → j ≤ length xs → length (take j xs) ≡ j
taken xs zero le = refl
taken [] (suc j) le = absurd (omega arith)
taken (x ∷ xs) (suc j) le = ap suc (taken xs j (omega arith))

-- what is known of the boxes by the first outputs
pub record AreBoxesTo (dims : List Bounds) (maps : List OutMap) (chunk : List ℕ) (j : ℕ) (boxes : List Boxed) : Type 0 where
  pub parted : IsParted (key_along (take j maps) (take j chunk)) (cells_of dims) boxes
  pub long : AllByRecursion (λ b. length b.chunk ≡ j) boxes
  pub within : AllByRecursion (λ b. AllZip IsNarrowed dims b.dims) boxes

pub boxes-begun : (dims : List Bounds) (maps : List OutMap) (chunk : List ℕ) (box : Boxed) → IsNonEmpty dims → box ≡ record { chunk = []; dims = dims } → AreBoxesTo dims maps chunk 0 (box ∷ [])
boxes-begun dims maps chunk box filled e =
    let first : Boxed = record { chunk = []; dims = dims } in
    subst (λ (b : Boxed). AreBoxesTo dims maps chunk 0 (b ∷ [])) (sym e) (record {
      parted = record {
        rising = (tt, tt);
        each = (filter-same (λ cell. true) (λ cell. refl) (cells_of dims), tt);
        all = λ cell has. (0, omega arith, refl);
      };
      long = (refl, tt);
      within = (narrowed-itself dims filled, tt);
    })

pub boxes-more : (dims : List Bounds) (maps : List OutMap) (chunk : List ℕ) (j : ℕ) (boxes out : List Boxed) (m : OutMap) (n : ℕ) → length chunk ≡ length maps → j < length maps
    → m ≡ get_or maps j m → n ≡ get_or chunk j n → AreBoxesTo dims maps chunk j boxes → AreSplit (chunk_along m n) boxes out → AreBoxesTo dims maps chunk (j + 1) out
boxes-more dims maps chunk j boxes out m n same lt is_map is_size h split =
    let ms = take_more maps j m lt ∙ ap (λ (x : OutMap). take j maps ++ x ∷ []) (sym is_map) in
    let ns = take_more chunk j n (omega arith) ∙ ap (λ (x : ℕ). take j chunk ++ x ∷ []) (sym is_size) in
    let long_maps = taken maps j (omega arith) in
    let long_chunk = taken chunk j (omega arith) in
    let key : (cell : List ℤ) → key_along (take j maps) (take j chunk) cell ++ chunk_along m n cell ∷ [] ≡ key_along (take (j + 1) maps) (take (j + 1) chunk) cell =
    λ cell. sym ((λ i. key_along (ms i) (ns i) cell) ∙ key-append (take j maps) (take j chunk) m n cell (long_chunk ∙ sym long_maps)) in
    record {
      parted = subst (λ (k : List ℤ → List ℕ). IsParted k (cells_of dims) out) (λ i cell. key cell i)
          (parted-more (chunk_along m n) (key_along (take j maps) (take j chunk)) (cells_of dims) j
          (λ cell. key-length (take j maps) (take j chunk) cell (long_chunk ∙ sym long_maps) ∙ long_maps) boxes out h.long h.parted split);
      long = long-more j (chunk_along m n) boxes out h.long split;
      within = within-more dims (chunk_along m n) boxes out h.within split;
    }

-- which boxes can be split
from-narrowed : (dims parts : List Bounds) (m : OutMap) → length parts ≡ length dims → is_regular m ≡ true → is_map dims m ≡ true → is_map parts m ≡ true
from-narrowed dims parts (Constant o) e r h = refl
from-narrowed dims parts (Strided o s d) e r h = ap (λ n. nat_lt d n) e ∙ h
from-narrowed dims parts (Indexed o s sizes entries) e r h = absurd (false≢true r)

pub can-split : (dims : List Bounds) (m : OutMap) (boxes : List Boxed) → list_all is_finite dims ≡ true → is_regular m ≡ true → is_map dims m ≡ true
    → ((cell : List ℤ) → IsCell dims cell → IsPlaceAlong (map_value [] cell m)) → AllByRecursion (λ (b : Boxed). AllZip IsNarrowed dims b.dims) boxes → AllByRecursion (CanSplit m) boxes
can-split dims m boxes finite regular from values within =
    all-weaker (λ (b : Boxed). AllZip IsNarrowed dims b.dims) (CanSplit m)
    (λ b n. record {
      finite = narrowed-finite dims b.dims finite n;
      filled = narrowed-filled dims b.dims n;
      within = from-narrowed dims b.dims m (narrowed-length dims b.dims n) regular from;
      values = λ cell is. values cell (narrowed-cell dims b.dims cell n is);
    }) boxes within

-- what holds of all, of one
pub all-at : {X : Type 0} (p : X → Bool) (xs : List X) (k : ℕ) (x : X) → list_all p xs ≡ true → k < length xs → x ≡ get_or xs k x → p x ≡ true
all-at p [] k x e lt is = absurd (omega arith)
all-at p (y ∷ ys) zero x e lt is = ap p is ∙ (let parts = and_parts (p y) (list_all p ys) e in parts.0)
all-at p (y ∷ ys) (suc k) x e lt is = let parts = and_parts (p y) (list_all p ys) e in all-at p ys k x parts.1 (omega arith) is

pub holds-at : {X : Type 0} (P : X → Type 0) (xs : List X) (k : ℕ) (x : X) → AllByRecursion P xs → k < length xs → x ≡ get_or xs k x → P x
holds-at P xs k x h lt is = subst P (sym is) (All-from_recursion P xs h k x lt)

-- the boxes as they are told
map-at : {X Y : Type 0} (f : X → Y) (xs : List X) (i : ℕ) (x : X) (y : Y) → i < length (map f xs) → f (get_or xs i x) ≡ get_or (map f xs) i y
map-at f [] i x y lt = absurd (omega arith)
map-at f (z ∷ xs) zero x y lt = refl
map-at f (z ∷ xs) (suc i) x y lt = map-at f xs i x y (omega arith)

pub boxes-parted : (key : List ℤ → List ℕ) (dims : List Bounds) (boxes : List Boxed) → IsParted key (cells_of dims) boxes → AllByRecursion (λ b. AllZip IsNarrowed dims b.dims) boxes → AreBoxes key dims boxes
boxes-parted key dims boxes p within = record {
  rising = λ i j lt h. rising-at (λ (a b : List ℕ). IsTrue (is_lt (slice_cmp nat_cmp a b))) (map (λ (b : Boxed). b.chunk) boxes) i j []
      (rising-map IsBefore (λ (a b : List ℕ). IsTrue (is_lt (slice_cmp nat_cmp a b))) (λ (b : Boxed). b.chunk) (λ a b l. l) boxes p.rising) lt h;
  cells = λ i box lt is. holds-at (λ (b : Boxed). cells_of b.dims ≡ filter (λ cell. bytes_eq (key cell) b.chunk) (cells_of dims)) boxes i box p.each lt (sym is);
  some = λ i box lt is. filled-some box.dims (narrowed-filled dims box.dims (holds-at (λ (b : Boxed). AllZip IsNarrowed dims b.dims) boxes i box within lt (sym is)));
  all = λ k cell lt is.
      let at = p.all cell (k, lt, is) in
      let long = length-map boxes (λ (b : Boxed). b.chunk) in
      let low = at.1 in
      (at.0, omega (arith, long, low), (λ box. map-at (λ (b : Boxed). b.chunk) boxes at.0 box (key cell) at.1 ∙ at.2));
}

-- the outputs are places at each cell
value-regular : (dims : List Bounds) (cell : List ℤ) (m : OutMap) → is_regular m ≡ true → map_value dims cell m ≡ map_value [] cell m
value-regular dims cell (Constant o) e = refl
value-regular dims cell (Strided o s d) e = refl
value-regular dims cell (Indexed o s sizes entries) e = absurd (false≢true e)

place-in : (n : ℕ) (x y : ℤ) → n ≤ 2 ^ 62 - 2 → x ≡ y → pos 0 ≤ℤ x → x <ℤ pos n → IsPlaceAlong y
place-in n x y small e low high = record { from_zero = omega (arith, ints, e, low); below = omega (arith, ints, e, high, small) }

places-in : (dims : List Bounds) (cell : List ℤ) (shape : List ℕ) (maps : List OutMap) → All (λ size. size ≤ 2 ^ 62 - 2) shape → list_all is_regular maps ≡ true
    → IsInShape shape (map (map_value dims cell) maps) → AllByRecursion (λ m. IsPlaceAlong (map_value [] cell m)) maps
places-in dims cell [] [] small r h = tt
places-in dims cell [] (m ∷ maps) small r h = absurd h
places-in dims cell (n ∷ shape) [] small r h = absurd h
places-in dims cell (n ∷ shape) (m ∷ maps) small r h =
    let parts = and_parts (is_regular m) (list_all is_regular maps) r in (
      place-in n (map_value dims cell m) (map_value [] cell m) (All-head (λ size. size ≤ 2 ^ 62 - 2) n shape small) (value-regular dims cell m parts.0) h.0 h.1,
      places-in dims cell shape maps (All-tail (λ size. size ≤ 2 ^ 62 - 2) n shape small) parts.1 h.2,
    )

pub places-along : (dims : List Bounds) (shape : List ℕ) (maps : List OutMap) → All (λ size. size ≤ 2 ^ 62 - 2) shape → list_all is_regular maps ≡ true
    → All (λ cell. IsInShape shape (map (map_value dims cell) maps)) (cells_of dims) → (cell : List ℤ) → IsCell dims cell → AllByRecursion (λ m. IsPlaceAlong (map_value [] cell m)) maps
places-along dims shape maps small r inside cell is =
    places-in dims cell shape maps small r (All-contains (λ c. IsInShape shape (map (map_value dims c) maps)) (cells_of dims) cell inside (contains-cell dims cell is))

pub all-push : {X : Type 0} (p : X → Bool) (xs : List X) (x : X) → list_all p xs ≡ true → p x ≡ true → list_all p (xs ++ x ∷ []) ≡ true
all-push p [] x e h = both_true (p x) true h refl
all-push p (y ∷ ys) x e h = let parts = and_parts (p y) (list_all p ys) e in both_true (p y) (list_all p (ys ++ x ∷ [])) parts.0 (all-push p ys x parts.1 h)

-- a list that isn't empty has an element
pub some-in : {X : Type 0} (xs : List X) → xs ≢ [] → (x : X) × Contains xs x
some-in [] some = absurd (some refl)
some-in (x ∷ xs) some = (x, (0, omega arith, refl))

-- as many outputs as sizes
pub maps-in_shape : (dims : List Bounds) (shape : List ℕ) (maps : List OutMap) → cells_of dims ≢ [] → All (λ cell. IsInShape shape (map (map_value dims cell) maps)) (cells_of dims) → length maps ≡ length shape
maps-in_shape dims shape maps some inside =
    let cell = some-in (cells_of dims) some in
    sym (length-map maps (map_value dims cell.0))
    ∙ length-in_shape shape (map (map_value dims cell.0) maps) (All-contains (λ c. IsInShape shape (map (map_value dims c) maps)) (cells_of dims) cell.0 inside cell.1)

-- one element more of a list
pub taken-more : {X : Type 0} (xs : List X) (k : ℕ) (x : X) → k < length xs → x ≡ get_or xs k x → take (k + 1) xs ≡ take k xs ++ x ∷ []
taken-more {X} xs k x lt is = take_more xs k x lt ∙ ap (λ (z : X). take k xs ++ z ∷ []) (sym is)

pub copied-more : {X : Type 0} (xs copy more : List X) (k : ℕ) (x y : X) → k < length xs → x ≡ get_or xs k x → copy ≡ take k xs → y ≡ x → more ≡ copy ++ y ∷ [] → more ≡ take (k + 1) xs
copied-more xs copy more k x y lt is so_far same e = e ∙ (λ i. so_far i ++ same i ∷ []) ∙ sym (taken-more xs k x lt is)
