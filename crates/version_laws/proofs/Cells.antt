-- The cells of a chunk, and their places in it.
use Rattle.std.proofs.Common.{◌≡◌, ◌<◌, ℕ, ◌%◌, List, [], ◌∷◌, ◌++◌, length, map, max, true, cond, Option, Some, None, refl, sym, ap, ◌∙◌, arith, eqb-true, eq-eqb}
use Rattle.std.specs.Prelude.{◌==◌}
use Rattle.std.specs.FinMap as finmap
use Rattle.std.proofs.Math.Nat.{mod-eq_of_lt}
use Rattle.cells.specs.Places.{IsInside, c_index, c_place}
use Rattle.cells.proofs.Laws.{IsInside-length, c_index-c_place, same_test}
use Rattle.history.specs.declared.event.Event.{Event}
use Rattle.history.specs.Arrays.{Known, known_after, chunk_shape}
use Rattle.history.specs.Chunks.{Chunk, chunk_in, chunk_index, within_chunk, in_array}
use Rattle.history.specs.Content.{content_after, world_after, world_in}
use Rattle.history.specs.History.{History}
use Rattle.history.specs.Legal.{IsLegal, is_present_in}
use Rattle.history.specs.Targets.{Cell, is_cell}
use Rattle.cells.specs.Shapes.{is_inside}
use Rattle.history.proofs.Laws.{ArePositive, known_good, good_rank, good_positive, in_array-split, inside_within, inside-from, chunk_array, same_cell, same_cells}
use Rattle.version_laws.specs.Kept.{place_in, IsCellOf}

-- what a cell of a chunk of a known array is, in that array
pub array_of : (h : History) (c : Chunk) (x : Cell) → IsCellOf h c x → x.array ≡ c.array
array_of h c x is = sym (chunk_array (known_after h x.array) x) ∙ ap (λ (d : Chunk). d.array) is.chunk

pub array_known : (h : History) (k : Known) (c : Chunk) (x : Cell) → IsCellOf h c x → known_after h c.array ≡ Some k → known_after h x.array ≡ Some k
array_known h k c x is known = ap (known_after h) (array_of h c x is) ∙ known

pub cell_inside : (h : History) (k : Known) (c : Chunk) (x : Cell) → IsCellOf h c x → known_after h c.array ≡ Some k → is_inside k.shape x.index ≡ true
cell_inside h k c x is known = sym (ap (λ (o : Option Known). is_present_in o x) (array_known h k c x is known)) ∙ is.present

cell_chunk : (h : History) (k : Known) (c : Chunk) (x : Cell) → IsCellOf h c x → known_after h c.array ≡ Some k → chunk_index (chunk_shape k.info) x.index ≡ c.index
cell_chunk h k c x is known = sym (ap (λ (o : Option Known). (chunk_in o x).index) (array_known h k c x is known)) ∙ ap (λ (d : Chunk). d.index) is.chunk

cell_rank : (h : History) (k : Known) (c : Chunk) (x : Cell) → IsCellOf h c x → known_after h c.array ≡ Some k → IsLegal finmap.empty h → length x.index ≡ length (chunk_shape k.info)
cell_rank h k c x is known legal = IsInside-length k.shape x.index (inside-from k.shape x.index (cell_inside h k c x is known)) ∙ sym (good_rank c.array k (known_good finmap.empty c.array h legal k known))

-- a cell of a chunk was one of it before an event that leaves the array
pub cell_before : (h : History) (e : Event) (k : Known) (c : Chunk) → known_after h c.array ≡ Some k → known_after (h ++ e ∷ []) c.array ≡ Some k → (x : Cell) → IsCellOf (h ++ e ∷ []) c x → IsCellOf h c x
cell_before h e k c known later x is =
    let array = array_of (h ++ e ∷ []) c x is in
    let same : known_after h x.array ≡ known_after (h ++ e ∷ []) x.array = ap (known_after h) array ∙ known ∙ sym later ∙ sym (ap (known_after (h ++ e ∷ [])) array) in
    record { chunk = ap (λ (o : Option Known). chunk_in o x) same ∙ is.chunk; present = ap (λ (o : Option Known). is_present_in o x) same ∙ is.present }

-- two index vectors of one chunk that have one place in it are one
one_place : (ns xs ys : List ℕ) → length xs ≡ length ns → length ys ≡ length ns → ArePositive ns → chunk_index ns xs ≡ chunk_index ns ys → c_place ns (within_chunk ns xs) ≡ c_place ns (within_chunk ns ys) → xs ≡ ys
one_place ns xs ys rank other positive chunk place =
    let within : within_chunk ns xs ≡ within_chunk ns ys =
    sym (c_index-c_place ns (within_chunk ns xs) (inside_within ns xs rank positive)) ∙ ap (c_index ns) place ∙ c_index-c_place ns (within_chunk ns ys) (inside_within ns ys other positive) in
    sym (in_array-split ns xs rank) ∙ ap (λ index. in_array ns index (within_chunk ns xs)) chunk ∙ ap (in_array ns (chunk_index ns ys)) within ∙ in_array-split ns ys other

-- two cells of one chunk that have one place in it are one cell
one_cell : (h : History) (k : Known) (c : Chunk) → IsLegal finmap.empty h → known_after h c.array ≡ Some k → (x y : Cell) → IsCellOf h c x → IsCellOf h c y → place_in k x ≡ place_in k y → x ≡ y
one_cell h k c legal known x y is other place =
    let array : x.array ≡ y.array = array_of h c x is ∙ sym (array_of h c y other) in
    let index : x.index ≡ y.index =
    one_place (chunk_shape k.info) x.index y.index (cell_rank h k c x is known legal) (cell_rank h k c y other known legal) (good_positive c.array k (known_good finmap.empty c.array h legal k known))
    (cell_chunk h k c x is known ∙ sym (cell_chunk h k c y other known)) place in
    λ i. record { array = array i; index = index i }

-- the test of their places is that of the cells
pub same_places : (h : History) (k : Known) (c : Chunk) → IsLegal finmap.empty h → known_after h c.array ≡ Some k → (x y : Cell) → IsCellOf h c x → IsCellOf h c y → (place_in k x == place_in k y) ≡ is_cell y x
same_places h k c legal known x y is other =
    same_test (place_in k x == place_in k y) (is_cell y x)
    (λ place. ap (λ z. is_cell y z) (one_cell h k c legal known x y is other (eqb-true (place_in k x) (place_in k y) place)) ∙ same_cell y)
    (λ cell. eq-eqb (place_in k x) (place_in k y) (ap (place_in k) (sym (same_cells y x cell))))

-- the word of a cell that is there
pub world_there : (g : History) (k : Known) (x : Cell) → known_after g x.array ≡ Some k → is_inside k.shape x.index ≡ true → world_after finmap.empty g x ≡ content_after finmap.empty g x
world_there g k x known inside =
    ap (λ (o : Option Known). world_in o x (content_after finmap.empty g x)) known ∙ ap (λ b. cond b (content_after finmap.empty g x) None) inside

-- a cell of an array that is one chunk has its place in the array
same_sizes : (shape index : List ℕ) → IsInside shape index → map (max 1) shape ≡ shape
same_sizes [] index inside = refl
same_sizes (n ∷ shape) [] inside = absurd inside
same_sizes (n ∷ shape) (i ∷ index) inside = let low : i < n = inside.0 in let one : max 1 n ≡ n = omega (arith, low) in λ t. one t ∷ same_sizes shape index inside.1 t

same_within : (shape index : List ℕ) → IsInside shape index → within_chunk shape index ≡ index
same_within [] [] inside = refl
same_within [] (i ∷ index) inside = absurd inside
same_within (n ∷ shape) [] inside = absurd inside
same_within (n ∷ shape) (i ∷ index) inside = let small : i % n ≡ i = mod-eq_of_lt inside.0 in λ t. small t ∷ same_within shape index inside.1 t

pub whole_place : (shape index : List ℕ) → IsInside shape index → c_place (map (max 1) shape) (within_chunk (map (max 1) shape) index) ≡ c_place shape index
whole_place shape index inside = ap (λ ns. c_place ns (within_chunk ns index)) (same_sizes shape index inside) ∙ ap (c_place shape) (same_within shape index inside)
