-- Rising chunk indices that occur are those that are touched.
use Rattle.std.proofs.Common.{◌≡◌, ◌≢◌, ◌∙◌, ℕ, suc, ◌<◌, ℤ, List, [], ◌∷◌, length, map, get_or, Bool, true, false, cond, refl, sym, arith}
use Rattle.std.specs.List.{fold}
use Rattle.std.specs.Prelude.{filter}
use Rattle.std.specs.Str.{bytes_eq}
use Rattle.std.proofs.lemmas.List.{length-map, get_or-map, get_or_default}
use Rattle.std.proofs.lemmas.Slice.Eq.{bytes_eq-Decides}
use Rattle.index_intervals.specs.Bounds.{Bounds}
use Rattle.index_transform.specs.Cells.{cells_of}
use Rattle.chunk_grid.specs.declared.boxes.Boxed.{Boxed}
use Rattle.chunk_grid.specs.Pieces.{among}
use Rattle.chunk_grid.specs.Boxes.{AreRising, AreBoxes}
use Rattle.chunk_grid.proofs.RisingLaws.{IsAmong, among_at, place_among, rises_from, fold_rises, fold_has, fold_only, rising-same}

-- each of some chunk indices stands among others
abbrev pub EachIsIn : List (List ℕ) → List (List ℕ) → Type 0
EachIsIn cs ds = (k : ℕ) (x : List ℕ) → k < length cs → get_or cs k x ≡ x → (i : ℕ) × (i < length ds) × ((c : List ℕ) → get_or ds i c ≡ x)

carried : (cs ds : List (List ℕ)) → EachIsIn cs ds → (x : List ℕ) → IsAmong x cs → IsAmong x ds
carried cs ds each x h =
    let at = place_among x cs h in
    let there = each at.0 x at.1 (at.2 x) in
    among_at x ds there.0 there.1 (there.2 [])

pub rising-touched : (keys chunks : List (List ℕ)) → AreRising chunks → EachIsIn keys chunks → EachIsIn chunks keys → fold among [] keys ≡ chunks
rising-touched keys chunks rising here occurs =
    rising-same (fold among [] keys) chunks (fold_rises keys [] tt) (rises_from chunks rising)
    (λ x h. carried keys chunks here x (fold_only x keys h))
    (λ x h. fold_has x keys [] (carried chunks keys occurs x h))

-- the keys of cells, at a place
key_at : (key : List ℤ → List ℕ) (cells : List (List ℤ)) (chunks : List (List ℕ))
    → ((k : ℕ) (cell : List ℤ) → k < length cells → get_or cells k cell ≡ cell → (i : ℕ) × (i < length chunks) × ((c : List ℕ) → get_or chunks i c ≡ key cell))
    → EachIsIn (map key cells) chunks
key_at key cells chunks all k x below e =
    let less : k < length cells = omega (arith, length-map cells key, below) in
    let cell : List ℤ = get_or cells k [] in
    let there = all k cell less (get_or_default cells k cell [] less) in
    (there.0, there.1, λ c. there.2 c ∙ sym (get_or-map key cells k [] x less) ∙ e)

-- what a filter keeps stands at a place
some_passes : {X : Type 0} (p : X → Bool) (xs : List X) → filter p xs ≢ [] → (i : ℕ) × (i < length xs) × ((d : X) → p (get_or xs i d) ≡ true)
some_passes p [] h = absurd (h refl)
some_passes {X} p (x ∷ xs) h = told (p x) refl h (some_passes p xs)
  where
    told : (b : Bool) → p x ≡ b → cond b (x ∷ filter p xs) (filter p xs) ≢ [] → (filter p xs ≢ [] → (i : ℕ) × (i < length xs) × ((d : X) → p (get_or xs i d) ≡ true))
        → (i : ℕ) × (i < length (x ∷ xs)) × ((d : X) → p (get_or (x ∷ xs) i d) ≡ true)
    told true t h rest = (0, omega arith, λ d. t)
    told false t h rest = let at = rest h in (suc at.0, omega (arith, at.1), at.2)

-- a box has a cell of its chunk, and each cell a box
module _ (key : List ℤ → List ℕ) (dims : List Bounds) (boxes : List Boxed) (h : AreBoxes key dims boxes) where
  abbrev none : Boxed
  none = record { chunk = []; dims = [] }

  keys_in : EachIsIn (map key (cells_of dims)) (map (λ box. box.chunk) boxes)
  keys_in = key_at key (cells_of dims) (map (λ box. box.chunk) boxes) (λ k cell below e.
      let there = h.all k cell below e in (
        there.0,
        omega (arith, length-map boxes (λ box. box.chunk), there.1),
        λ c. get_or-map (λ box. box.chunk) boxes there.0 none c there.1 ∙ there.2 none,
      ))

  chunks_in : EachIsIn (map (λ box. box.chunk) boxes) (map key (cells_of dims))
  chunks_in k x below e =
      let less : k < length boxes = omega (arith, length-map boxes (λ box. box.chunk), below) in
      let box : Boxed = get_or boxes k none in
      let at = get_or_default boxes k box none less in
      let is_of_box : List ℤ → Bool = λ cell. bytes_eq (key cell) box.chunk in
      let there = some_passes is_of_box (cells_of dims) (λ empty. h.some k box less at (h.cells k box less at ∙ empty)) in
      let same : key (get_or (cells_of dims) there.0 []) ≡ box.chunk = (bytes_eq-Decides (key (get_or (cells_of dims) there.0 [])) box.chunk).0 (there.2 []) in (
        there.0,
        omega (arith, length-map (cells_of dims) key, there.1),
        λ c. get_or-map key (cells_of dims) there.0 [] c there.1 ∙ same ∙ sym (get_or-map (λ box. box.chunk) boxes k none x less) ∙ e,
      )

-- the chunks of boxes are those that their cells touch
pub boxes-touched : (key : List ℤ → List ℕ) (dims : List Bounds) (boxes : List Boxed) → AreBoxes key dims boxes
    → fold among [] (map key (cells_of dims)) ≡ map (λ box. box.chunk) boxes
boxes-touched key dims boxes h =
    rising-touched (map key (cells_of dims)) (map (λ box. box.chunk) boxes) h.rising (keys_in key dims boxes h) (chunks_in key dims boxes h)
