-- The metadata of a new array keeps the rules, and is what is asked.
use Rattle.std.proofs.Common.{◌≡◌, inl, inr, ℕ, zero, suc, ◌*◌, ◌<◌, ◌≤◌, ◌^◌, ◌==◌, Bool, true, false, not, cond, ◌&&◌, List, [], ◌∷◌, length, get_or, map, Option, Some, None, Result, Ok, Err, refl, sym, ap, subst, ◌∙◌, arith, eq-eqb}
use Rattle.std.specs.Prelude.{max, nat_le, nat_eq, codes, unwrap_or}
use Rattle.std.specs.Option.{ForSome, option_map}
use Rattle.std.proofs.lemmas.Bool.Decides.{nat_tests}
use Rattle.std.specs.Str.{bytes_eq}
use Rattle.std.proofs.Math.Nat.{mul-le-mul, le-mul_of_pos_right}
use Rattle.std.proofs.Math.ListN.{length-map}
use Rattle.std.proofs.lemmas.Bool.{leb-true}
use Rattle.std.proofs.lemmas.Slice.Eq.{bytes_eq-Decides}
use Rattle.zarr_chunks.specs.Bytes.{byte_count}
use Rattle.zarr_chunks.specs.DtypeNames.{dtype_name}
use Rattle.zarr_chunks.specs.Numbers.{IsWord}
use Rattle.zarr_chunks.specs.Places.{cell_count}
use Rattle.zarr_chunks.specs.Shapes.{IsShape, IsChunkShape}
use Rattle.zarr_chunks.specs.declared.Dtype.{Dtype}
use Rattle.zarr_chunks.specs.declared.Order.{Order}
use Rattle.zarr_chunks.specs.declared.Order.TheVariants.{C, F}
use Rattle.zarr_chunks.proofs.Laws.{cell_count-pos, else_from, ok_from_then}
use Rattle.zarr_chunks.proofs.Laws.{IsWord-zero}
use Rattle.zarr_chunks.specs.Metadata as zarr
use Rattle.zarr_chunks.specs.Want as zarr_want
use Rattle.zarr_chunks.specs.Written.{order_text}
use Rattle.n5_blocks.specs.Metadata as n5
use Rattle.n5_blocks.specs.Want as n5_want
use Rattle.zarr3_chunks.specs.Metadata as zarr3
use Rattle.zarr3_chunks.specs.Want as zarr3_want
use Rattle.chunk_forms.specs.Made.{default_chunks, chunks_made}
use Rattle.chunk_forms.specs.Wants.{asks_other, asks_other_order, same_dtype, same_order, same_flag, zarr_mismatch, n5_mismatch, zarr3_mismatch}

-- no size is more than all cells, where there is one
size_le : (sizes : List ℕ) (k : ℕ) → ((j : ℕ) → j < length sizes → 1 ≤ get_or sizes j 0) → k < length sizes → get_or sizes k 0 ≤ cell_count sizes
size_le [] k each less = absurd (omega arith)
size_le (n ∷ ns) zero each less =
    let rest : 0 < cell_count ns = cell_count-pos ns (λ j within. each (suc j) (omega arith)) in
    le-mul_of_pos_right {m = cell_count ns} n rest
size_le (n ∷ ns) (suc k) each less =
    let rec = size_le ns k (λ j within. each (suc j) (omega arith)) (omega arith) in
    let first : 1 ≤ n = each 0 (omega arith) in
    let more : 1 * cell_count ns ≤ n * cell_count ns = mul-le-mul first (omega arith) in
    omega (arith, rec, more)

least_default : (shape : List ℕ) (k : ℕ) → k < length (default_chunks shape) → 1 ≤ get_or (default_chunks shape) k 0
least_default [] k less = absurd (omega arith)
least_default (n ∷ ns) zero less = omega arith
least_default (n ∷ ns) (suc k) less = least_default ns k (omega arith)

-- the whole shape is a chunk's where it has few cells
default_rules : (shape : List ℕ) → cell_count (default_chunks shape) ≤ 2 ^ 24 → IsChunkShape (default_chunks shape)
default_rules shape few = record {
  least = least_default shape;
  greatest = λ k less. omega (arith, size_le (default_chunks shape) k (least_default shape) less, few);
  volume = few;
}

-- the chunks of a new array keep the rules
pub chunks_rules : (member : List ℕ) (asked : Option (List ℕ)) (shape chunks : List ℕ) → ((c : List ℕ) → asked ≡ Some c → IsChunkShape c × (length c ≡ length shape))
    → chunks_made member asked shape ≡ Ok chunks → IsChunkShape chunks × (length chunks ≡ length shape)
chunks_rules member (Some c) shape chunks rules is = let same : c ≡ chunks = cc in subst (λ l. IsChunkShape l × (length l ≡ length shape)) same (rules c refl)
chunks_rules member None shape chunks rules is =
    let parts = ok_from_then (nat_le (cell_count (default_chunks shape)) 16777216) (Ok (default_chunks shape)) chunks member is in
    let same : default_chunks shape ≡ chunks = (let e = parts.1 in cc) in
    subst (λ l. IsChunkShape l × (length l ≡ length shape)) same
    (default_rules shape (leb-true (cell_count (default_chunks shape)) 16777216 parts.0), length-map shape (max 1))

-- the chunks that are asked are those made
chunks_same : (member : List ℕ) (asked : Option (List ℕ)) (shape chunks : List ℕ) → chunks_made member asked shape ≡ Ok chunks → asks_other bytes_eq asked chunks ≡ false
chunks_same member (Some c) shape chunks is = let same : c ≡ chunks = cc in ap not ((bytes_eq-Decides c chunks).1 same)
chunks_same member None shape chunks is = refl

flag_same : (asked : Option Bool) → asks_other same_flag asked (unwrap_or asked false) ≡ false
flag_same None = refl
flag_same (Some true) = refl
flag_same (Some false) = refl

order_same : (asked : Option Order) → asks_other same_order asked (unwrap_or asked C) ≡ false
order_same None = refl
order_same (Some C) = refl
order_same (Some F) = refl

byte_order_same : (dtype : Dtype) (asked : Option Bool) → asks_other_order dtype asked (unwrap_or asked false) ≡ false
byte_order_same dtype asked = by_test (not (byte_count dtype == 1)) (asks_other same_flag asked (unwrap_or asked false)) (flag_same asked)
  where
    by_test : (a b : Bool) → b ≡ false → (a && b) ≡ false
    by_test true b is = is
    by_test false b is = refl

big_false : (asked : Option Bool) (P : Type 0) → (P → ¬ (asked ≡ Some true)) → P → unwrap_or asked false ≡ false
big_false None P no_big p = refl
big_false (Some true) P no_big p = absurd (no_big p refl)
big_false (Some false) P no_big p = refl

sizes_same : (asked : Option (List ℕ)) (sizes : List ℕ) → asked ≡ Some sizes → asks_other bytes_eq asked sizes ≡ false
sizes_same asked sizes is = ap (λ o. asks_other bytes_eq o sizes) is ∙ ap not ((bytes_eq-Decides sizes sizes).1 refl)

dtype_same : (asked : Option Dtype) (dtype : Dtype) → asked ≡ Some dtype → asks_other same_dtype asked dtype ≡ false
dtype_same asked dtype is = ap (λ o. asks_other same_dtype o dtype) is ∙ ap not ((bytes_eq-Decides (dtype_name dtype) (dtype_name dtype)).1 refl)

word_same : (asked : Option ℕ) → asks_other nat_eq asked (unwrap_or asked 0) ≡ false
word_same None = refl
word_same (Some word) = let same : nat_eq word word ≡ true = grind (arith, nat_tests) in ap not same

fill_same : (asked : Option (Option ℕ)) → asks_other nat_eq (option_map (λ f. unwrap_or f 0) asked) (unwrap_or (unwrap_or asked None) 0) ≡ false
fill_same None = refl
fill_same (Some None) = refl
fill_same (Some (Some word)) = let same : nat_eq word word ≡ true = grind (arith, nat_tests) in ap not same

-- a new array of Zarr 2 keeps the rules
pub zarr_rules : (w : zarr_want.Want) (member shape chunks : List ℕ) (dtype : Dtype) → zarr_want.IsWant w → w.shape ≡ Some shape → w.dtype ≡ Some dtype → chunks_made member w.chunks shape ≡ Ok chunks
    → zarr.IsMetadata (record { shape = shape; chunks = chunks; dtype = dtype; big = unwrap_or w.big false; fill = unwrap_or w.fill None; order = unwrap_or w.order C; slash = unwrap_or w.slash false })
zarr_rules w member shape chunks dtype rules s d c =
    let made = chunks_rules member w.chunks shape chunks (λ a is. ((rules.chunks a is).0, rules.ranks shape a s is)) c in
    record {
      shape = rules.shape shape s;
      ranks = made.1;
      chunks = made.0;
      fill = λ word is. by_fill w.fill word refl is;
      one_byte = λ one. big_false w.big (byte_count dtype ≡ 1) (λ o. rules.one_byte dtype d o) one;
    }
  where
    by_fill : (asked : Option (Option ℕ)) (word : ℕ) → w.fill ≡ asked → unwrap_or asked None ≡ Some word → IsWord dtype word
    by_fill None word e is = absurd (let none : ⊥ = cc in none)
    by_fill (Some fill) word e is = rules.fill dtype word d (e ∙ ap Some is)

-- and is what is asked
pub zarr_asked : (w : zarr_want.Want) (member shape chunks : List ℕ) (dtype : Dtype) → w.shape ≡ Some shape → w.dtype ≡ Some dtype → chunks_made member w.chunks shape ≡ Ok chunks
    → zarr_mismatch w (record { shape = shape; chunks = chunks; dtype = dtype; big = unwrap_or w.big false; fill = unwrap_or w.fill None; order = unwrap_or w.order C; slash = unwrap_or w.slash false }) shape ≡ None
zarr_asked w member shape chunks dtype s d c =
    else_from _ _ _ (dtype_same w.dtype dtype d) ∙ else_from _ _ _ (byte_order_same dtype w.big) ∙ else_from _ _ _ (sizes_same w.shape shape s) ∙ else_from _ _ _ (chunks_same member w.chunks shape chunks c)
    ∙ else_from _ _ _ (order_same w.order) ∙ else_from _ _ _ (fill_same w.fill) ∙ else_from _ _ _ (flag_same w.slash)

pub n5_rules : (w : n5_want.Want) (member sizes block : List ℕ) (dtype : Dtype) → n5_want.IsWant w → w.dimensions ≡ Some sizes → w.dtype ≡ Some dtype → chunks_made member w.block sizes ≡ Ok block
    → n5.IsMetadata (record { dimensions = sizes; block = block; dtype = dtype })
n5_rules w member sizes block dtype rules s d c =
    let made = chunks_rules member w.block sizes block (λ a is. ((rules.block a is).0, rules.ranks sizes a s is)) c in
    record { dimensions = (rules.dimensions sizes s).0; some = (rules.dimensions sizes s).1; ranks = made.1; block = made.0 }

pub n5_asked : (w : n5_want.Want) (member sizes block : List ℕ) (dtype : Dtype) → w.dimensions ≡ Some sizes → w.dtype ≡ Some dtype → chunks_made member w.block sizes ≡ Ok block
    → n5_mismatch w (record { dimensions = sizes; block = block; dtype = dtype }) sizes ≡ None
n5_asked w member sizes block dtype s d c =
    else_from _ _ _ (dtype_same w.dtype dtype d) ∙ else_from _ _ _ (sizes_same w.dimensions sizes s) ∙ else_from _ _ _ (chunks_same member w.block sizes block c)

pub zarr3_rules : (w : zarr3_want.Want) (member shape chunks : List ℕ) (dtype : Dtype) → zarr3_want.IsWant w → w.shape ≡ Some shape → w.dtype ≡ Some dtype → chunks_made member w.chunks shape ≡ Ok chunks
    → zarr3.IsMetadata (record { shape = shape; chunks = chunks; dtype = dtype; big = unwrap_or w.big false; fill = unwrap_or w.fill 0; dot = unwrap_or w.dot false })
zarr3_rules w member shape chunks dtype rules s d c =
    let made = chunks_rules member w.chunks shape chunks (λ a is. ((rules.chunks a is).0, rules.ranks shape a s is)) c in
    record {
      shape = rules.shape shape s;
      ranks = made.1;
      chunks = made.0;
      fill = by_fill w.fill refl;
      one_byte = λ one. big_false w.big (byte_count dtype ≡ 1) (λ o. rules.one_byte dtype d o) one;
    }
  where
    by_fill : (asked : Option ℕ) → w.fill ≡ asked → IsWord dtype (unwrap_or asked 0)
    by_fill None e = IsWord-zero dtype
    by_fill (Some word) e = rules.fill dtype word d e

pub zarr3_asked : (w : zarr3_want.Want) (member shape chunks : List ℕ) (dtype : Dtype) → w.shape ≡ Some shape → w.dtype ≡ Some dtype → chunks_made member w.chunks shape ≡ Ok chunks
    → zarr3_mismatch w (record { shape = shape; chunks = chunks; dtype = dtype; big = unwrap_or w.big false; fill = unwrap_or w.fill 0; dot = unwrap_or w.dot false }) shape ≡ None
zarr3_asked w member shape chunks dtype s d c =
    else_from _ _ _ (dtype_same w.dtype dtype d) ∙ else_from _ _ _ (sizes_same w.shape shape s) ∙ else_from _ _ _ (chunks_same member w.chunks shape chunks c)
    ∙ else_from _ _ _ (word_same w.fill) ∙ else_from _ _ _ (byte_order_same dtype w.big) ∙ else_from _ _ _ (flag_same w.dot)
