-- Laws of items: what they spell, and one item put.
use Rattle.std.proofs.Common.{◌≡◌, ◌≢◌, ◌⊎◌, inl, inr, ℕ, zero, suc, ◌+◌, ◌*◌, ◌-◌, ◌/◌, ◌<◌, ◌≤◌, ◌^◌, Bool, true, false, List, [], ◌∷◌, ◌++◌, length, get_or, set, take, drop, map, replicate, All, refl, sym, ◌∙◌, ap, subst, arith, zero-add, get_or-set_other, get_or-set_same, below_more}
use Rattle.std.specs.List.{range_with_len}
use Rattle.std.proofs.lemmas.List.{length-drop, length-take-le, get_or-drop, drop-take, drop-replicate, take-replicate, ext_get_or, get_or-replicate, length-replicate}
use Rattle.std.proofs.lemmas.List.Elements.{All-from_get_or}
use Rattle.std.proofs.lemmas.List.FromFn.{length-map-range_with_len, get_or-map-range_with_len}
use Rattle.std.proofs.lemmas.Slice.{take-put_mid_below, between-put_mid, drop-put_mid}
use Rattle.std.proofs.Math.ListN.{length-set}
use Rattle.std.proofs.Math.Seq.{take-append_seam}
use borrow.Rule.Slice.PartMut.{put_mid}
use Rattle.cells.specs.Bytes.{byte_count, word_bytes, word_of_bytes}
use Rattle.cells.specs.Dense.{DenseCells, IsDense}
use Rattle.cells.specs.Elements.{element_bytes}
use Rattle.cells.specs.Numbers.{IsWord}
use Rattle.cells.specs.Places.{cell_count}
use Rattle.cells.specs.declared.dtype.Dtype.{Dtype}
use Rattle.cells.specs.declared.dtype.Dtype.TheVariants.{I8, U8, I16, U16, I32, U32, I64, U64}
use Rattle.cells.proofs.ByteLaws.{length-word_bytes, IsWord-word_of_bytes, word_bytes-word_of_bytes, word_of_bytes-word_bytes}
use Rattle.cells.specs.Items.{item_at, words_in, words_where, SpellsItems, AreItems}
use Rattle.std.specs.Prelude.{if◌then◌else◌}

-- an item of a place among so many lies within their bytes
pub item_fits : (dtype : Dtype) (p n : ℕ) → p < n → p * byte_count dtype + byte_count dtype ≤ n * byte_count dtype
item_fits I8 p n less = omega arith
item_fits U8 p n less = omega arith
item_fits I16 p n less = omega arith
item_fits U16 p n less = omega arith
item_fits I32 p n less = omega arith
item_fits U32 p n less = omega arith
item_fits I64 p n less = omega arith
item_fits U64 p n less = omega arith

-- and back
pub item_within : (dtype : Dtype) (p n : ℕ) → p * byte_count dtype + byte_count dtype ≤ n * byte_count dtype → p < n
item_within I8 p n fits = omega arith
item_within U8 p n fits = omega arith
item_within I16 p n fits = omega arith
item_within U16 p n fits = omega arith
item_within I32 p n fits = omega arith
item_within U32 p n fits = omega arith
item_within I64 p n fits = omega arith
item_within U64 p n fits = omega arith

-- there is a word for each item
pub length-words_in : (dtype : Dtype) (n : ℕ) (bytes : List ℕ) → length (words_in dtype n bytes) ≡ n
unfolding words_in
length-words_in dtype n bytes = length-map-range_with_len (item_at dtype bytes) 0 n

-- the word at a place is its item's
pub get_or-words_in : (dtype : Dtype) (n : ℕ) (bytes : List ℕ) (p : ℕ) → p < n → get_or (words_in dtype n bytes) p 0 ≡ item_at dtype bytes p
unfolding words_in
get_or-words_in dtype n bytes p less = get_or-map-range_with_len (item_at dtype bytes) 0 n p p 0 less (zero-add p)

-- each is a word of the dtype
pub All-words_in : (dtype : Dtype) (n : ℕ) (bytes : List ℕ) → All (IsWord dtype) (words_in dtype n bytes)
All-words_in dtype n bytes =
    All-from_get_or (IsWord dtype) (words_in dtype n bytes) 0
    (λ p less. let within : p < n = omega (arith, length-words_in dtype n bytes) in
    subst (IsWord dtype) (sym (get_or-words_in dtype n bytes p within)) (IsWord-word_of_bytes dtype false (element_bytes (byte_count dtype) bytes p)))

-- the words of a shape's items are a dense block
pub IsDense-items : (dtype : Dtype) (shape bytes : List ℕ) → AreItems dtype shape bytes
    → IsDense (record { dtype = dtype; shape = shape; words = words_in dtype (cell_count shape) bytes })
IsDense-items dtype shape bytes are = record {
  rank = are.rank;
  small = are.small;
  full = length-words_in dtype (cell_count shape) bytes;
  of_dtype = All-words_in dtype (cell_count shape) bytes;
}

small-drop : (k : ℕ) (bytes : List ℕ) → ((i : ℕ) → get_or bytes i 0 < 256) → (i : ℕ) → get_or (drop k bytes) i 0 < 256
small-drop k bytes small i = rw get_or-drop (small (k + i))

small-take : (k : ℕ) (bytes : List ℕ) → ((i : ℕ) → get_or bytes i 0 < 256) → (i : ℕ) → get_or (take k bytes) i 0 < 256
small-take zero bytes small i = omega arith
small-take (suc k) [] small i = omega arith
small-take (suc k) (b ∷ bytes) small zero = small zero
small-take (suc k) (b ∷ bytes) small (suc i) = small-take k bytes (λ j. small (suc j)) i

-- bytes are the items of the words that they spell
pub SpellsItems-words_in : (dtype : Dtype) (n : ℕ) (bytes : List ℕ) → ((i : ℕ) → get_or bytes i 0 < 256) → length bytes ≡ n * byte_count dtype
    → SpellsItems dtype bytes (words_in dtype n bytes)
SpellsItems-words_in dtype n bytes small full = record {
  count = full ∙ ap (λ k. k * byte_count dtype) (sym (length-words_in dtype n bytes));
  items = λ p less.
      let within : p < n = omega (arith, length-words_in dtype n bytes) in
      let fits : byte_count dtype ≤ length (drop (p * byte_count dtype) bytes) = rw length-drop (omega (arith, item_fits dtype p n within, full)) in
      sym (ap (word_bytes dtype false) (get_or-words_in dtype n bytes p within)
      ∙ word_bytes-word_of_bytes dtype false (element_bytes (byte_count dtype) bytes p)
      (length-take-le (byte_count dtype) (drop (p * byte_count dtype) bytes) fits)
      (small-take (byte_count dtype) (drop (p * byte_count dtype) bytes) (small-drop (p * byte_count dtype) bytes small)));
}

-- an item before another is no part of it
before : (dtype : Dtype) (q p : ℕ) → q < p → q * byte_count dtype + byte_count dtype ≤ p * byte_count dtype
before dtype q p less = item_fits dtype q p less

-- the item that was put
item_same : (dtype : Dtype) (p from len : ℕ) (bytes put : List ℕ) → from ≡ p * byte_count dtype → length put ≡ byte_count dtype → from ≤ length bytes
    → element_bytes (byte_count dtype) (put_mid from len bytes put) p ≡ put
item_same dtype p from len bytes put at size within =
    let end : length put ≡ from + byte_count dtype - from = omega (arith, size) in
    let long : from + byte_count dtype - from ≡ byte_count dtype = omega arith in
    ap (λ k. take (byte_count dtype) (drop k (put_mid from len bytes put))) (sym at)
    ∙ ap (λ k. take k (drop from (put_mid from len bytes put))) (sym long)
    ∙ between-put_mid from len bytes put (from + byte_count dtype) within end

-- and another, before it or behind
item_before : (dtype : Dtype) (p q from len : ℕ) (bytes put : List ℕ) → from ≡ p * byte_count dtype → from ≤ length bytes → q < p
    → element_bytes (byte_count dtype) (put_mid from len bytes put) q ≡ element_bytes (byte_count dtype) bytes q
item_before dtype p q from len bytes put at within less =
    let start = q * byte_count dtype in
    let size = byte_count dtype in
    let below : start + size ≤ from = omega (arith, before dtype q p less, at) in
    sym (drop-take start size (put_mid from len bytes put))
    ∙ ap (drop start) (take-put_mid_below from len bytes put (start + size) below within)
    ∙ drop-take start size bytes

item_behind : (dtype : Dtype) (p q from len : ℕ) (bytes put : List ℕ) → from ≡ p * byte_count dtype → len ≡ byte_count dtype → length put ≡ len → from ≤ length bytes → p < q
    → element_bytes (byte_count dtype) (put_mid from len bytes put) q ≡ element_bytes (byte_count dtype) bytes q
item_behind dtype p q from len bytes put at size same within less =
    let start = q * byte_count dtype in
    let above : from + len ≤ start = omega (arith, before dtype p q less, at, size) in
    ap (take (byte_count dtype)) (drop-put_mid from len bytes put start above within same)

either_way : (k p : ℕ) → (k < p) ⊎ ((k ≡ p) ⊎ (p < k))
either_way zero zero = inr (inl refl)
either_way zero (suc p) = inl (omega arith)
either_way (suc k) zero = inr (inr (omega arith))
either_way (suc k) (suc p) = elim (either_way k p) [
  | inl less ↦ inl (omega (arith, less))
  | inr rest ↦ elim rest [
    | inl same ↦ inr (inl (ap suc same))
    | inr more ↦ inr (inr (omega (arith, more)))
  ]
]

-- to put the bytes of a word as an item is to put the word
pub words_in-put : (dtype : Dtype) (n p word from len : ℕ) (bytes put : List ℕ) → from ≡ p * byte_count dtype → len ≡ byte_count dtype
    → length bytes ≡ n * byte_count dtype → p < n → IsWord dtype word → put ≡ word_bytes dtype false word
    → words_in dtype n (put_mid from len bytes put) ≡ set (words_in dtype n bytes) p word
words_in-put dtype n p word from len bytes put at long full less is spelled =
    let after = put_mid from len bytes put in
    let old = words_in dtype n bytes in
    let size : length put ≡ byte_count dtype = ap length spelled ∙ length-word_bytes dtype false word in
    let within : from ≤ length bytes = omega (arith, item_fits dtype p n less, full, at) in
    let counts = length-words_in dtype n bytes in
    let all : length (words_in dtype n after) ≡ length (set old p word) = omega (arith, length-words_in dtype n after, counts, length-set {A = ℕ} old p word) in
    let back : word_of_bytes dtype false put ≡ word = ap (word_of_bytes dtype false) spelled ∙ word_of_bytes-word_bytes dtype false word is in
    let other = λ (k : ℕ) (inside : k < n) (apart : k ≢ p) (e : element_bytes (byte_count dtype) after k ≡ element_bytes (byte_count dtype) bytes k).
    get_or-words_in dtype n after k inside ∙ ap (word_of_bytes dtype false) e ∙ sym (get_or-words_in dtype n bytes k inside)
    ∙ sym (get_or-set_other old p k word 0 apart) in
    ext_get_or 0 (words_in dtype n after) (set old p word) all
    (λ k bound. let inside : k < n = omega (arith, bound, length-words_in dtype n after) in
    elim (either_way k p) [
      | inl before ↦ other k inside (omega arith) (item_before dtype p k from len bytes put at within before)
      | inr rest ↦ elim rest [
        | inl same ↦ at_it after old back within size k inside same
        | inr behind ↦ other k inside (omega arith) (item_behind dtype p k from len bytes put at long (omega (arith, size, long)) within behind)
      ]
    ])
  where
    at_it : (after old : List ℕ) → word_of_bytes dtype false put ≡ word → from ≤ length bytes → length put ≡ byte_count dtype → (k : ℕ) → k < n → k ≡ p
        → get_or (words_in dtype n (put_mid from len bytes put)) k 0 ≡ get_or (set (words_in dtype n bytes) p word) k 0
    at_it after old back within size k inside same =
        let room : p < length (words_in dtype n bytes) = omega (arith, less, length-words_in dtype n bytes) in
        get_or-words_in dtype n (put_mid from len bytes put) k inside
        ∙ ap (λ q. word_of_bytes dtype false (element_bytes (byte_count dtype) (put_mid from len bytes put) q)) same
        ∙ ap (word_of_bytes dtype false) (item_same dtype p from len bytes put at size within) ∙ back
        ∙ sym (get_or-set_same (words_in dtype n bytes) p word 0 room)
        ∙ ap (λ q. get_or (set (words_in dtype n bytes) p word) q 0) (sym same)

-- what is read of a place is its item
pub item_taken : (dtype : Dtype) (p size word : ℕ) (bytes : List ℕ) → size ≡ byte_count dtype → word ≡ word_of_bytes dtype false (take (p * size + size - p * size) (drop (p * size) bytes))
    → word ≡ item_at dtype bytes p
item_taken dtype p size word bytes same is =
    let long : p * size + size - p * size ≡ byte_count dtype = omega (arith, same) in
    is ∙ ap (λ k. word_of_bytes dtype false (take k (drop (p * size) bytes))) long
    ∙ ap (λ k. word_of_bytes dtype false (take (byte_count dtype) (drop (p * k) bytes))) same

-- to put the bytes of a word at a place is to put the word
pub item_put : (dtype : Dtype) (n p size word : ℕ) (bytes put : List ℕ) → size ≡ byte_count dtype → length bytes ≡ n * byte_count dtype → p < n → IsWord dtype word
    → put ≡ word_bytes dtype false word → words_in dtype n (put_mid (p * size) (p * size + size - p * size) bytes put) ≡ set (words_in dtype n bytes) p word
item_put dtype n p size word bytes put same full less is spelled =
    words_in-put dtype n p word (p * size) (p * size + size - p * size) bytes put (ap (λ k. p * k) same) (omega (arith, same)) full less is spelled

-- one place more has the word
pub filled_more : (cells after : List ℕ) (p word n : ℕ) → after ≡ set cells p word → length cells ≡ n → p < n → ((k : ℕ) → k < p → get_or cells k 0 ≡ word)
    → (k : ℕ) → k < p + 1 → get_or after k 0 ≡ word
filled_more cells after p word n is full less sofar =
    below_more _ _
    (λ k below. let apart : k ≢ p = omega (arith, below) in ap (λ l. get_or l k 0) is ∙ get_or-set_other cells p k word 0 apart ∙ sofar k below)
    (ap (λ l. get_or l p 0) is ∙ get_or-set_same cells p word 0 (omega arith))

-- so that each has it
pub filled_all : (cells : List ℕ) (p word n : ℕ) → length cells ≡ n → n ≤ p → ((k : ℕ) → k < p → get_or cells k 0 ≡ word) → cells ≡ replicate n word
filled_all cells p word n full all sofar =
    ext_get_or 0 cells (replicate n word) (omega (arith, length-replicate n word, full))
    (λ k inside. sofar k (omega arith) ∙ sym (get_or-replicate n k word 0 (omega arith)))

-- how many items bytes have
pub count_of : (dtype : Dtype) (n len size : ℕ) → len ≡ n * byte_count dtype → size ≡ byte_count dtype → len / size ≡ n
count_of I8 n len size full same = rw same (omega (arith, full))
count_of U8 n len size full same = rw same (omega (arith, full))
count_of I16 n len size full same = rw same (omega (arith, full))
count_of U16 n len size full same = rw same (omega (arith, full))
count_of I32 n len size full same = rw same (omega (arith, full))
count_of U32 n len size full same = rw same (omega (arith, full))
count_of I64 n len size full same = rw same (omega (arith, full))
count_of U64 n len size full same = rw same (omega (arith, full))

-- a dense block, as it is kept
abbrev pub kept : Dtype → List ℕ → List ℕ → DenseCells
kept dtype shape bytes = record { dtype = dtype; shape = shape; words = words_in dtype (cell_count shape) bytes }

-- has a word for each cell
pub sized : (dtype : Dtype) (shape bytes : List ℕ) (cells : DenseCells) → kept dtype shape bytes ≡ cells → length cells.words ≡ cell_count shape
sized dtype shape bytes cells is = sym (ap (λ (d : DenseCells). length d.words) is) ∙ length-words_in dtype (cell_count shape) bytes

-- an item of a place lies within the bytes
pub place_fits : (dtype : Dtype) (shape bytes : List ℕ) (cells : DenseCells) (place : ℕ) → kept dtype shape bytes ≡ cells → AreItems dtype shape bytes → place < length cells.words
    → place * byte_count dtype + byte_count dtype ≤ length bytes
place_fits dtype shape bytes cells place is are less =
    omega (arith, are.full, item_fits dtype place (cell_count shape) (omega (arith, less, sized dtype shape bytes cells is)))

-- the word of a place
pub word_there : (dtype : Dtype) (shape bytes : List ℕ) (cells : DenseCells) (place : ℕ) → kept dtype shape bytes ≡ cells → place < length cells.words → item_at dtype bytes place ≡ get_or cells.words place 0
word_there dtype shape bytes cells place is less =
    sym (get_or-words_in dtype (cell_count shape) bytes place (omega (arith, less, sized dtype shape bytes cells is)))
    ∙ ap (λ (d : DenseCells). get_or d.words place 0) is

-- it is a word of the dtype
pub IsWord-item : (dtype : Dtype) (bytes : List ℕ) (place : ℕ) → IsWord dtype (item_at dtype bytes place)
IsWord-item dtype bytes place = IsWord-word_of_bytes dtype false (element_bytes (byte_count dtype) bytes place)

-- what was written over whole contents
pub whole_over : {A : Type 0} (n : ℕ) (new rest : List A) → length new ≡ n → take n (new ++ rest) ≡ new
whole_over n new rest is = ap (λ k. take k (new ++ rest)) (sym is) ∙ take-append_seam new rest

-- a part of bytes is of bytes
pub small-part : (from n : ℕ) (bytes : List ℕ) → ((i : ℕ) → get_or bytes i 0 < 256) → (i : ℕ) → get_or (take n (drop from bytes)) i 0 < 256
small-part from n bytes small = small-take n (drop from bytes) (small-drop from bytes small)

-- the words of a list, one more
pub each_more : (cells after words : List ℕ) (p n : ℕ) → after ≡ set cells p (get_or words p 0) → length cells ≡ n → p < n → ((k : ℕ) → k < p → get_or cells k 0 ≡ get_or words k 0)
    → (k : ℕ) → k < p + 1 → get_or after k 0 ≡ get_or words k 0
each_more cells after words p n is full less sofar =
    below_more _ _
    (λ k below. let apart : k ≢ p = omega (arith, below) in ap (λ l. get_or l k 0) is ∙ get_or-set_other cells p k (get_or words p 0) 0 apart ∙ sofar k below)
    (ap (λ l. get_or l p 0) is ∙ get_or-set_same cells p (get_or words p 0) 0 (omega arith))

-- and all
pub each_all : (cells words : List ℕ) (p n : ℕ) → length cells ≡ n → length words ≡ n → n ≤ p → ((k : ℕ) → k < p → get_or cells k 0 ≡ get_or words k 0) → cells ≡ words
each_all cells words p n full same all sofar = ext_get_or 0 cells words (omega arith) (λ k inside. sofar k (omega arith))

pub length-words_where : (mask : List Bool) (over words : List ℕ) → length mask ≡ length words → length over ≡ length words → length (words_where mask over words) ≡ length words
length-words_where [] over words same other = refl
length-words_where (covered ∷ mask) [] words same other = refl
length-words_where (covered ∷ mask) (o ∷ over) [] same other = refl
length-words_where (covered ∷ mask) (o ∷ over) (w ∷ words) same other = ap suc (length-words_where mask over words (omega (arith, same)) (omega (arith, other)))

-- the word at a place: another where the mask is set
pub get_or-words_where : (mask : List Bool) (over words : List ℕ) (p : ℕ) → length mask ≡ length words → length over ≡ length words → p < length words
    → get_or (words_where mask over words) p 0 ≡ (if get_or mask p false then get_or over p 0 else get_or words p 0)
get_or-words_where [] over words p same other less = absurd (omega (arith, same, less))
get_or-words_where (covered ∷ mask) [] words p same other less = absurd (omega (arith, other, less))
get_or-words_where (covered ∷ mask) (o ∷ over) [] p same other less = absurd (omega (arith, less))
get_or-words_where (covered ∷ mask) (o ∷ over) (w ∷ words) zero same other less = refl
get_or-words_where (covered ∷ mask) (o ∷ over) (w ∷ words) (suc p) same other less = get_or-words_where mask over words p (omega (arith, same)) (omega (arith, other)) (omega (arith, less))

-- before a place the words are put where the mask is set, from it on they are as they were
pub record IsWhereUpTo (mask : List Bool) (over words laid : List ℕ) (place : ℕ) : Type 0 where
  pub front : (k : ℕ) → k < place → get_or laid k 0 ≡ (if get_or mask k false then get_or over k 0 else get_or words k 0)
  pub rest : (k : ℕ) → place ≤ k → get_or laid k 0 ≡ get_or words k 0

pub IsWhereUpTo-put : (mask : List Bool) (over words laid : List ℕ) (place : ℕ) → place < length laid → get_or mask place false ≡ true → IsWhereUpTo mask over words laid place
    → IsWhereUpTo mask over words (set laid place (get_or over place 0)) (place + 1)
IsWhereUpTo-put mask over words laid place inside mark is = record {
  front = below_more _ _
      (λ k below. let apart : k ≢ place = omega (arith, below) in get_or-set_other laid place k (get_or over place 0) 0 apart ∙ is.front k below)
      (get_or-set_same laid place (get_or over place 0) 0 inside ∙ sym (ap (λ (b : Bool). if b then get_or over place 0 else get_or words place 0) mark));
  rest = λ k above. let apart : k ≢ place = omega (arith, above) in
      get_or-set_other laid place k (get_or over place 0) 0 apart ∙ is.rest k (omega (arith, above));
}

pub IsWhereUpTo-kept : (mask : List Bool) (over words laid : List ℕ) (place : ℕ) → get_or mask place false ≡ false → IsWhereUpTo mask over words laid place
    → IsWhereUpTo mask over words laid (place + 1)
IsWhereUpTo-kept mask over words laid place mark is = record {
  front = below_more _ _ is.front (is.rest place (omega arith) ∙ sym (ap (λ (b : Bool). if b then get_or over place 0 else get_or words place 0) mark));
  rest = λ k above. is.rest k (omega (arith, above));
}

pub IsWhereUpTo-all : (mask : List Bool) (over words laid : List ℕ) (place n : ℕ) → length mask ≡ n → length over ≡ n → length words ≡ n → length laid ≡ n → n ≤ place
    → IsWhereUpTo mask over words laid place → laid ≡ words_where mask over words
IsWhereUpTo-all mask over words laid place n one two three four all is =
    let size = length-words_where mask over words (one ∙ sym three) (two ∙ sym three) in
    ext_get_or 0 laid (words_where mask over words) (omega (arith, size, three, four))
    (λ k inside. is.front k (omega (arith, inside, four, all)) ∙ sym (get_or-words_where mask over words k (one ∙ sym three) (two ∙ sym three) (omega (arith, inside, three, four))))

-- bytes of 0 spell 0
zeros_spell : (dtype : Dtype) → word_of_bytes dtype false (replicate (byte_count dtype) 0) ≡ 0
zeros_spell I8 = refl
zeros_spell U8 = refl
zeros_spell I16 = refl
zeros_spell U16 = refl
zeros_spell I32 = refl
zeros_spell U32 = refl
zeros_spell I64 = refl
zeros_spell U64 = refl

-- so they are items of the word 0
pub words_in-zeros : (dtype : Dtype) (n : ℕ) → words_in dtype n (replicate (n * byte_count dtype) 0) ≡ replicate n 0
words_in-zeros dtype n =
    let size = byte_count dtype in
    let zeros = replicate (n * size) 0 in
    let count = length-words_in dtype n zeros in
    ext_get_or 0 (words_in dtype n zeros) (replicate n 0) (omega (arith, count, length-replicate {A = ℕ} n 0))
    (λ k inside.
    let less : k < n = omega (arith, inside, count) in
    let behind : drop (k * size) zeros ≡ replicate (n * size - k * size) 0 = drop-replicate (k * size) (n * size) 0 in
    let item : take size (replicate (n * size - k * size) 0) ≡ replicate size 0 = take-replicate size (n * size - k * size) 0 (omega (arith, item_fits dtype k n less)) in
    get_or-words_in dtype n zeros k less
    ∙ ap (λ bytes. word_of_bytes dtype false (take size bytes)) behind
    ∙ ap (word_of_bytes dtype false) item
    ∙ zeros_spell dtype
    ∙ sym (get_or-replicate n k 0 0 less))
