-- Bytes that spell a block have no fault, and spell no other words.
use Rattle.std.proofs.Common.{◌≡◌, ℕ, zero, suc, ◌+◌, ◌*◌, ◌<◌, ◌≤◌, ◌^◌, ◌⊎◌, inl, inr, ⊎_elim, List, [], ◌∷◌, ◌++◌, length, get_or, take, drop, true, None, refl, sym, ap, subst, ◌∙◌, arith, zero-add, length-append, eq-eqb}
use Rattle.std.specs.Prelude.{nat_lt, ◌==◌}
use Rattle.std.specs.List.{flat_map}
use Rattle.std.specs.Option.{option_or}
use Rattle.std.proofs.lemmas.Bool.{cases_lt, le-ltb}
use Rattle.std.proofs.lemmas.List.{drop_at, ext_get_or}
use Rattle.std.proofs.lemmas.List.FromFn.{get_or-map-range_with_len}
use Rattle.chunk_elements.specs.Bytes.{byte_count, word_bytes, word_of_bytes}
use Rattle.chunk_elements.specs.Places.{cell_count, IsInside, f_place}
use Rattle.chunk_elements.specs.declared.Dtype.{Dtype}
use Rattle.chunk_elements.specs.declared.Dtype.TheVariants.{U16, U32}
use Rattle.chunk_elements.proofs.Laws.{length-word_bytes, word_of_bytes-word_bytes, then_from, else_from}
use Rattle.n5_blocks.specs.Metadata.{Metadata, IsMetadata}
use Rattle.n5_blocks.specs.Block.{element_bytes, header, AreElements, AreWithin, StoresCells, SpellsBlock}
use Rattle.n5_blocks.specs.Faults.{mode_in, rank_in, header_len, size_in, sizes_in, size_fault, length_fault, block_fault}
use Rattle.n5_blocks.proofs.SizeLaws.{IsWord-U16, IsWord-U32}
use Rattle.chunk_elements.proofs.Laws.{Fit, fit_from_within, length-rows}
use Rattle.n5_blocks.proofs.FaultLaws.{length-sizes_in}

length-size_bytes : (sizes : List ℕ) → length (flat_map (word_bytes U32 true) sizes) ≡ length sizes * 4
length-size_bytes sizes = length-rows 4 (word_bytes U32 true) (λ size. length-word_bytes U32 true size) sizes

-- a header has the length that its rank wants
length-header : (sizes : List ℕ) → length (header sizes) ≡ header_len (length sizes)
length-header sizes =
    length-append (word_bytes U16 true 0 ++ word_bytes U16 true (length sizes)) (flat_map (word_bytes U32 true) sizes)
    ∙ rw (length-size_bytes sizes) (omega arith)

-- the mode in a header is 0
mode_in-header : (sizes rest : List ℕ) → mode_in (header sizes ++ rest) ≡ 0
mode_in-header sizes rest = word_of_bytes-word_bytes U16 true 0 (IsWord-U16 0 (omega arith))

-- the rank in a header is that of its sizes
rank_in-header : (sizes rest : List ℕ) → length sizes ≤ 32 → rank_in (header sizes ++ rest) ≡ length sizes
rank_in-header sizes rest few = word_of_bytes-word_bytes U16 true (length sizes) (IsWord-U16 (length sizes) (omega arith))

part_of_sizes : (sizes rest : List ℕ) (dim : ℕ) → dim < length sizes → take 4 (drop (dim * 4) (flat_map (word_bytes U32 true) sizes ++ rest)) ≡ word_bytes U32 true (get_or sizes dim 0)
part_of_sizes [] rest dim less = absurd (omega arith)
part_of_sizes (size ∷ sizes) rest zero less = refl
part_of_sizes (size ∷ sizes) rest (suc dim) less =
    let past : suc dim * 4 ≡ suc (suc (suc (suc (dim * 4)))) = omega arith in
    ap (λ n. take 4 (drop n (flat_map (word_bytes U32 true) (size ∷ sizes) ++ rest))) past ∙ part_of_sizes sizes rest dim (omega arith)

size_in-header : (sizes rest : List ℕ) (dim : ℕ) → dim < length sizes → get_or sizes dim 0 < 2 ^ 32 → size_in (header sizes ++ rest) dim ≡ get_or sizes dim 0
size_in-header sizes rest dim less small =
    let along : header_len dim ≡ suc (suc (suc (suc (dim * 4)))) = omega arith in
    ap (word_of_bytes U32 true)
    (ap (λ n. take 4 (drop n (header sizes ++ rest))) along ∙ part_of_sizes sizes rest dim less)
    ∙ word_of_bytes-word_bytes U32 true (get_or sizes dim 0) (IsWord-U32 (get_or sizes dim 0) small)

-- the sizes in a header are its own
sizes_in-header : (sizes rest : List ℕ) → ((k : ℕ) → k < length sizes → get_or sizes k 0 < 2 ^ 32) → sizes_in (length sizes) (header sizes ++ rest) ≡ sizes
sizes_in-header sizes rest small =
    let bytes = header sizes ++ rest in
    ext_get_or 0 (sizes_in (length sizes) bytes) sizes (length-sizes_in (length sizes) bytes)
    (λ k less. let inside : k < length sizes = subst (λ n. k < n) (length-sizes_in (length sizes) bytes) less in
    get_or-map-range_with_len (size_in bytes) 0 (length sizes) k k 0 inside (zero-add k) ∙ size_in-header sizes rest k inside (small k inside))

-- where sizes fit, none is too great
no_fault_from_fit : (dim : ℕ) (block sizes : List ℕ) → Fit block sizes → size_fault dim block sizes ≡ None
no_fault_from_fit dim [] sizes fit = refl
no_fault_from_fit dim (b ∷ bs) [] fit = refl
no_fault_from_fit dim (b ∷ bs) (s ∷ ss) fit = else_from (nat_lt b s) _ _ (le-ltb b s fit.0) ∙ no_fault_from_fit (dim + 1) bs ss fit.1

-- what a block's bytes say of themselves: the stored sizes and the elements
pub record Parsed (m : Metadata) (bytes sizes elements : List ℕ) : Type 0 where
  pub mode : mode_in bytes ≡ 0
  pub rank : rank_in bytes ≡ length m.block
  pub sizes_are : sizes_in (length m.block) bytes ≡ sizes
  pub rest : drop (header_len (length m.block)) bytes ≡ elements
  pub long : length bytes ≡ header_len (length m.block) + length elements

pub parsed : (m : Metadata) (bytes sizes elements : List ℕ) → IsMetadata m → AreWithin m.block sizes → bytes ≡ header sizes ++ elements → Parsed m bytes sizes elements
parsed m bytes sizes elements rules within is =
    let few : length sizes ≤ 32 = omega (arith, within.ranks, rules.ranks, rules.dimensions.rank) in
    let small : (k : ℕ) → k < length sizes → get_or sizes k 0 < 2 ^ 32 = λ k less.
    let inside : k < length m.block = omega (arith, within.ranks) in omega (arith, within.fit k inside, rules.block.greatest k inside) in
    let len = length-header sizes ∙ ap header_len within.ranks in
    record {
      mode = ap mode_in is ∙ mode_in-header sizes elements;
      rank = ap rank_in is ∙ rank_in-header sizes elements few ∙ within.ranks;
      sizes_are = ap (sizes_in (length m.block)) is ∙ ap (λ n. sizes_in n (header sizes ++ elements)) (sym within.ranks) ∙ sizes_in-header sizes elements small;
      rest = ap (drop (header_len (length m.block))) is ∙ drop_at (header sizes) elements (header_len (length m.block)) len;
      long = ap length is ∙ length-append (header sizes) elements ∙ ap (λ n. n + length elements) len;
    }

-- bytes that store cells have no fault
pub no_fault-StoresCells : (m : Metadata) (sizes bytes : List ℕ) (word : List ℕ → ℕ) → IsMetadata m → StoresCells m sizes bytes word → block_fault m bytes ≡ None
no_fault-StoresCells m sizes bytes word rules stores =
    let elements = stores.parts.0 in
    let it = parsed m bytes sizes elements rules stores.within stores.parts.1 in
    let whole : length bytes ≡ header_len (length sizes) + cell_count sizes * byte_count m.dtype =
    it.long ∙ ap (λ n. header_len (length m.block) + n) stores.parts.2.count ∙ ap (λ n. header_len n + cell_count sizes * byte_count m.dtype) (sym stores.within.ranks) in
    let no_size : size_fault 0 m.block (sizes_in (length m.block) bytes) ≡ None =
    ap (size_fault 0 m.block) it.sizes_are ∙ no_fault_from_fit 0 m.block sizes (fit_from_within m.block sizes stores.within) in
    let no_length : length_fault m.dtype (sizes_in (length m.block) bytes) (length bytes) ≡ None =
    ap (λ s. length_fault m.dtype s (length bytes)) it.sizes_are ∙ then_from _ _ _ (eq-eqb (length bytes) (header_len (length sizes) + cell_count sizes * byte_count m.dtype) whole) in
    else_from (nat_lt (length bytes) 4) _ _ (le-ltb (length bytes) 4 (omega (arith, it.long)))
    ∙ then_from (mode_in bytes == 0) _ _ (eq-eqb (mode_in bytes) 0 it.mode)
    ∙ then_from (rank_in bytes == length m.block) _ _ (eq-eqb (rank_in bytes) (length m.block) it.rank)
    ∙ else_from (nat_lt (length bytes) (header_len (length m.block))) _ _ (le-ltb (length bytes) (header_len (length m.block)) (omega (arith, it.long)))
    ∙ ap (λ o. option_or o (length_fault m.dtype (sizes_in (length m.block) bytes) (length bytes))) no_size
    ∙ no_length

-- bytes that spell a block have no fault
pub no_fault-SpellsBlock : (m : Metadata) (bytes : List ℕ) (word : List ℕ → ℕ) → IsMetadata m → SpellsBlock m bytes word → block_fault m bytes ≡ None
no_fault-SpellsBlock m bytes word rules spells = no_fault-StoresCells m spells.stored.0 bytes word rules spells.stored.1

-- an index vector lies inside sizes or doesn't
inside_or_not : (sizes index : List ℕ) → IsInside sizes index ⊎ ¬ IsInside sizes index
inside_or_not [] [] = inl tt
inside_or_not [] (i ∷ index) = inr (λ inside. inside)
inside_or_not (s ∷ ss) [] = inr (λ inside. inside)
inside_or_not (s ∷ ss) (i ∷ index) =
    ⊎_elim
    (λ less. ⊎_elim (λ inside. inl (less, inside)) (λ outside. inr (λ both. outside both.1)) (inside_or_not ss index))
    (λ past. inr (λ both. let less : i < s = both.0 in absurd (omega arith)))
    (cases_lt i s)

-- the word of a stored cell is that of its element
word_of_element : (dtype : Dtype) (sizes elements index : List ℕ) (word : List ℕ → ℕ) → AreElements dtype sizes elements word → IsInside sizes index
    → word index ≡ word_of_bytes dtype true (element_bytes (byte_count dtype) elements (f_place sizes index))
word_of_element dtype sizes elements index word are inside =
    sym (ap (word_of_bytes dtype true) (are.elements index inside) ∙ word_of_bytes-word_bytes dtype true (word index) (are.are_words index inside))

-- a block's bytes spell no other words
pub SpellsBlock-unique : (m : Metadata) (bytes : List ℕ) (one other : List ℕ → ℕ) → IsMetadata m → SpellsBlock m bytes one → SpellsBlock m bytes other → (index : List ℕ) → IsInside m.block index → one index ≡ other index
SpellsBlock-unique m bytes one other rules here there index within =
    let a = here.stored.1 in
    let b = there.stored.1 in
    let p = parsed m bytes here.stored.0 a.parts.0 rules a.within a.parts.1 in
    let q = parsed m bytes there.stored.0 b.parts.0 rules b.within b.parts.1 in
    let same_sizes : there.stored.0 ≡ here.stored.0 = sym q.sizes_are ∙ p.sizes_are in
    let same_elements : b.parts.0 ≡ a.parts.0 = sym q.rest ∙ p.rest in
    let elements : AreElements m.dtype here.stored.0 a.parts.0 other =
    subst (λ l. AreElements m.dtype here.stored.0 l other) same_elements (subst (λ s. AreElements m.dtype s b.parts.0 other) same_sizes b.parts.2) in
    ⊎_elim
    (λ inside. word_of_element m.dtype here.stored.0 a.parts.0 index one a.parts.2 inside ∙ sym (word_of_element m.dtype here.stored.0 a.parts.0 index other elements inside))
    (λ outside. a.lacking index within outside ∙ sym (b.lacking index within (subst (λ s. ¬ IsInside s index) (sym same_sizes) outside)))
    (inside_or_not here.stored.0 index)
