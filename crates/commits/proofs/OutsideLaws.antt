-- The cells of a write that lie outside their array's shape.
use Rattle.std.proofs.Common.{◌≡◌, ℕ, ◌<◌, ◌⊎◌, inl, inr, List, [], ◌∷◌, length, Bool, true, false, cond, Option, Some, None, refl, sym, ap, subst, ◌∙◌}
use Rattle.std.specs.Prelude.{◌&&◌, ◌||◌, not, IsSome, fold}
use Rattle.std.specs.Option.{is_some}
use Rattle.cells.specs.Places.{IsInside, c_place, c_index, cell_count}
use Rattle.cells.specs.Shapes.{is_inside}
use Rattle.cells.proofs.Laws.{IsInside-c_index, c_index-c_place, c_place-c_index, c_place-lt, true_or_false}
use Rattle.stack_driver.specs.Targets.{Cell, is_cell}
use Rattle.rebase_writes.specs.Staged.{staged_at}
use Rattle.history.specs.declared.event.Op.{Op}
use Rattle.history.specs.History.{History}
use Rattle.history.specs.Arrays.{Known, known_after, chunk_shape}
use Rattle.history.specs.Chunks.{Chunk, cell_at, chunk_in, chunk_of, in_array, within_chunk, chunk_index}
use Rattle.history.specs.Legal.{is_present, is_present_in}
use Rattle.history.specs.Reads.{is_put}
use Rattle.history.specs.Writes.{Put, Content, puts_of, put}
use Rattle.history.proofs.Laws.{in_array-split, inside_within, good_positive, puts_elsewhere, IsGood, chunk_array}
use Rattle.chunk_plans.specs.Laid.{IsStagedWithin}
use Rattle.chunk_plans.specs.declared.write.ChunkWrite.{ChunkWrite}
use Rattle.chunk_plans.specs.Writes.{chunk_of_write}
use Rattle.commits.specs.Prepared.{IsStagedFor, word_put}
use Rattle.commits.proofs.Search.{HasPlace, find_place}

-- a cell that is put has a word behind the puts
pub put_some : (ps : List Put) (f : Content) (x : Cell) → is_put ps x ≡ true → IsSome (fold put f ps x)
put_some [] f x is = absurd (cc)
put_some (p ∷ ps) f x is = by (λ more. put_some ps (put f p) x more) (true_or_false (is_put ps x))
  where
    by : (is_put ps x ≡ true → IsSome (fold put (put f p) ps x)) → (is_put ps x ≡ true) ⊎ (is_put ps x ≡ false) → IsSome (fold put (put f p) ps x)
    by rest (inl more) = rest more
    by rest (inr none) =
        let here : is_cell p.0 x ≡ true = sym (ap (λ b. is_cell p.0 x || b) none ∙ or_none (is_cell p.0 x)) ∙ is in
        subst IsSome (sym (puts_elsewhere ps (put f p) x none ∙ ap (λ b. cond b (Some p.1) (f x)) here)) refl
      where
        or_none : (b : Bool) → (b || false) ≡ b
        or_none true = refl
        or_none false = refl

-- a cell with a word behind the puts, and none before, is put
pub some_put : (ps : List Put) (x : Cell) → IsSome (fold put (λ y. None) ps x) → is_put ps x ≡ true
some_put ps x some = by (true_or_false (is_put ps x))
  where
    by : (is_put ps x ≡ true) ⊎ (is_put ps x ≡ false) → is_put ps x ≡ true
    by (inl is) = is
    by (inr none) = let clash = subst IsSome (puts_elsewhere ps (λ y. None) x none) some in absurd (cc)

-- a cell of a write that is put and lies outside the shape
pub record HasOutside (events : History) (ops : List Op) (w : ChunkWrite) : Type 0 where
  pub cell : Cell
  pub of_array : cell.array ≡ w.array
  pub put : is_put (puts_of ops) cell ≡ true
  pub absent : is_present events cell ≡ false

module _ (events : History) (ops : List Op) (w : ChunkWrite) (k : Known) (is : IsStagedFor events ops w k) where
  abbrev ns : List ℕ
  ns = chunk_shape k.info

  abbrev cell_of : List ℕ → Cell
  cell_of index = cell_at k (chunk_of_write w) index

  -- the word at a place is staged, and its cell lies outside
  abbrev is_beyond : ℕ → Bool
  is_beyond p = not (is_inside k.shape (cell_of (c_index ns p)).index) && is_some (staged_at w.staged.now p)

  there : HasPlace is_beyond (cell_count ns) → HasOutside events ops w
  there found = record {
    cell = cell_of (c_index ns found.place);
    of_array = refl;
    put = some_put (puts_of ops) (cell_of (c_index ns found.place)) (subst IsSome (ap (staged_at w.staged.now) (sym same) ∙ is.cells (c_index ns found.place) inside) staged);
    absent = ap (λ o. is_present_in o (cell_of (c_index ns found.place))) is.known ∙ outside (is_inside k.shape (cell_of (c_index ns found.place)).index) (is_some (staged_at w.staged.now found.place)) found.passes;
  }
    where
      inside : IsInside ns (c_index ns found.place)
      inside = IsInside-c_index ns found.place found.below

      same : c_place ns (c_index ns found.place) ≡ found.place
      same = c_place-c_index ns found.place found.below

      outside : (a b : Bool) → (not a && b) ≡ true → a ≡ false
      outside true b h = absurd (cc)
      outside false b h = refl

      second : (a b : Bool) → (not a && b) ≡ true → b ≡ true
      second true b h = absurd (cc)
      second false b h = h

      staged : IsSome (staged_at w.staged.now found.place)
      staged = some_by (staged_at w.staged.now found.place) (second (is_inside k.shape (cell_of (c_index ns found.place)).index) (is_some (staged_at w.staged.now found.place)) found.passes)
        where
          some_by : (o : Option ℕ) → is_some o ≡ true → IsSome o
          some_by None h = absurd (cc)
          some_by (Some x) h = refl

  within : ((p : ℕ) → p < cell_count ns → is_beyond p ≡ false) → IsStagedWithin k.shape ns w.chunk.now w.staged.now
  within none index inside outside = by (staged_at w.staged.now (c_place ns index)) refl
    where
      back : c_index ns (c_place ns index) ≡ index
      back = c_index-c_place ns index inside

      by : (o : Option ℕ) → staged_at w.staged.now (c_place ns index) ≡ o → staged_at w.staged.now (c_place ns index) ≡ None
      by None e = e
      by (Some x) e =
          let no : is_beyond (c_place ns index) ≡ false = none (c_place ns index) (c_place-lt ns index inside) in
          let yes : is_beyond (c_place ns index) ≡ true = ap (λ i. not (is_inside k.shape (cell_of i).index) && is_some (staged_at w.staged.now (c_place ns index))) back ∙ ap (λ b. not b && is_some (staged_at w.staged.now (c_place ns index))) outside ∙ ap is_some e in
          absurd (cc)

  -- each staged word is of a cell in the shape, or there is one outside
  pub within_or_outside : IsStagedWithin k.shape ns w.chunk.now w.staged.now ⊎ HasOutside events ops w
  within_or_outside = elim (find_place is_beyond (cell_count ns)) [
    | inl none ↦ inl (within none)
    | inr found ↦ inr (there found)
  ]

  -- the staged word of a cell that lies in the write's chunk
  pub staged_of_cell : (x : Cell) → IsGood w.array k → length x.index ≡ length ns → chunk_of events x ≡ chunk_of_write w
      → (IsInside ns (within_chunk ns x.index)) × (cell_of (within_chunk ns x.index) ≡ x) × (staged_at w.staged.now (c_place ns (within_chunk ns x.index)) ≡ word_put ops x)
  staged_of_cell x good rank here = (inside, same, is.cells (within_chunk ns x.index) inside ∙ ap (word_put ops) same)
    where
      array : x.array ≡ w.array
      array = sym (chunk_array (known_after events x.array) x) ∙ ap (λ (c : Chunk). c.array) here

      index : chunk_index ns x.index ≡ w.chunk.now
      index = sym (ap (λ o. (chunk_in o x).index) (ap (known_after events) array ∙ is.known)) ∙ ap (λ (c : Chunk). c.index) here

      inside : IsInside ns (within_chunk ns x.index)
      inside = inside_within ns x.index rank (good_positive w.array k good)

      split : in_array ns w.chunk.now (within_chunk ns x.index) ≡ x.index
      split = ap (λ i. in_array ns i (within_chunk ns x.index)) (sym index) ∙ in_array-split ns x.index rank

      same : cell_of (within_chunk ns x.index) ≡ x
      same i = record { array = sym array i; index = split i }

  -- where each staged word is of a cell in the shape, so is each cell of the chunk that is put
  pub put_within : (x : Cell) → IsGood w.array k → length x.index ≡ length ns → chunk_of events x ≡ chunk_of_write w → IsStagedWithin k.shape ns w.chunk.now w.staged.now → is_put (puts_of ops) x ≡ true → is_inside k.shape x.index ≡ true
  put_within x good rank here all put = by (true_or_false (is_inside k.shape x.index))
    where
      by : (is_inside k.shape x.index ≡ true) ⊎ (is_inside k.shape x.index ≡ false) → is_inside k.shape x.index ≡ true
      by (inl is) = is
      by (inr isnt) =
          let at = staged_of_cell x good rank here in
          let none : staged_at w.staged.now (c_place ns (within_chunk ns x.index)) ≡ None = all (within_chunk ns x.index) at.0 (ap (λ (y : Cell). is_inside k.shape y.index) at.1 ∙ isnt) in
          let clash = subst IsSome (sym at.2 ∙ none) (put_some (puts_of ops) (λ y. None) x put) in
          absurd (cc)
