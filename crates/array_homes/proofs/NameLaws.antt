-- The names of chunks, read back.
use Rattle.std.proofs.Common.{◌≡◌, ◌≢◌, inl, inr, ℕ, suc, ◌+◌, ◌-◌, ◌*◌, ◌<◌, ◌≤◌, ◌^◌, List, [], ◌∷◌, ◌++◌, length, get_or, take, drop, take_all, Bool, true, false, cond, not, Some, None, refl, sym, ap, subst, ◌∙◌, arith, codes, eqb-true, eq-eqb, take-append-drop}
use Rattle.std.specs.Prelude.{◌==◌, ◌⊎◌, ◌&&◌, decimal, map, max, nat_lt, unwrap_or, position, slice_index}
use Rattle.std.specs.List.{AllByRecursion, flat_map, position_or_len}
use Rattle.std.specs.Str.{all_ascii_digits}
use Rattle.std.specs.Char.{is_ascii_digit}
use Rattle.std.proofs.Math.Nat.{mul-le-mul_left}
use Rattle.std.proofs.lemmas.Bool.Decides.{nat_tests}
use Rattle.std.proofs.lemmas.List.Sums.{prefix_len-le-length}
use Rattle.std.proofs.lemmas.Fmt.{digits_decimal}
use Rattle.std.proofs.lemmas.Str.Parse.{tells_all_ascii_digits, numerals_by_value}
use Rattle.zarr_chunks.specs.Key as zarr
use Rattle.zarr3_chunks.specs.Key as zarr3
use Rattle.cells.specs.Shapes.{IsChunkShape}
use Rattle.history.specs.Metadata.{IsMetadata}
use Rattle.history.specs.Names.{chunk_name}
use Rattle.history.specs.declared.array.ArrayInfo.{ArrayInfo}
use Rattle.history.specs.declared.array.Home.{Home}
use Rattle.history.specs.declared.array.Home.TheVariants.{Zarr, N5, Zarr3, Local}
use Rattle.history.specs.Arrays.{form_of, chunk_shape_in}
use Rattle.history.specs.Chunks.{AreStarts, IsWholeIfLocal}
use Rattle.array_homes.specs.Names.{IsChunkName, IsStart, AreBehind, ArePositive, joined, IsJoined, IsNameIn}

true_or_false : (b : Bool) → (b ≡ true) ⊎ (b ≡ false)
true_or_false true = inl refl
true_or_false false = inr refl

both_left : (a b : Bool) → (a && b) ≡ true → a ≡ true
both_left true b e = refl
both_left false b e = absurd (cc)

-- a text begins with the separator, or is empty
abbrev BeginsSo : ℕ → List ℕ → Type 0
BeginsSo s [] = Unit {0}
BeginsSo s (b ∷ text) = b ≡ s

abbrev HasNone : ℕ → List ℕ → Type 0
HasNone s text = AllByRecursion (λ b. b ≢ s) text

abbrev end_in : ℕ → List ℕ → ℕ
end_in s text = position_or_len (λ b. b == s) text

abbrev behind_of : ℕ → List ℕ → List ℕ
behind_of s index = flat_map (λ i. s ∷ decimal i) index

not_equal : (b s : ℕ) → b ≢ s → (b == s) ≡ false
not_equal b s ne = elim (true_or_false (b == s)) [ inl t ↦ absurd (ne (eqb-true b s t)) | inr f ↦ f ]

-- what stands before the first separator, and from there on
parted : (s : ℕ) (us vs : List ℕ) → HasNone s us → BeginsSo s vs → (take (end_in s (us ++ vs)) (us ++ vs) ≡ us) × (drop (end_in s (us ++ vs)) (us ++ vs) ≡ vs)
parted s [] [] none begins = (refl, refl)
parted s [] (v ∷ vs) none begins =
    let zero_is : end_in s (v ∷ vs) ≡ 0 = ap (λ b. cond (not b) (1 + position_or_len (λ b. b == s) vs) 0) (eq-eqb v s begins) in
    (ap (λ n. take n (v ∷ vs)) zero_is, ap (λ n. drop n (v ∷ vs)) zero_is)
parted s (u ∷ us) vs none begins =
    let rest = parted s us vs none.1 begins in
    let more : end_in s (u ∷ us ++ vs) ≡ suc (end_in s (us ++ vs)) = ap (λ b. cond (not b) (1 + end_in s (us ++ vs)) 0) (not_equal u s none.0) ∙ one_more (end_in s (us ++ vs)) in
    (ap (λ n. take n (u ∷ us ++ vs)) more ∙ ap (λ t. u ∷ t) rest.0, ap (λ n. drop n (u ∷ us ++ vs)) more ∙ rest.1)
  where
    one_more : (n : ℕ) → 1 + n ≡ suc n
    one_more n = omega arith

not_digit : (d s : ℕ) → s < 48 → is_ascii_digit d ≡ true → d ≢ s
not_digit d s low digit e = grind (arith, nat_tests, digit, e)

and_right : (a b : Bool) → (a && b) ≡ true → b ≡ true
and_right true b e = e
and_right false b e = absurd (cc)

no_separator : (s : ℕ) → s < 48 → (ds : List ℕ) → all_ascii_digits ds ≡ true → HasNone s ds
no_separator s low [] all = tt
no_separator s low (d ∷ ds) all =
    let first = both_left (is_ascii_digit d) (all_ascii_digits ds) all in
    (λ e. not_digit d s low first e, no_separator s low ds (and_right (is_ascii_digit d) (all_ascii_digits ds) all))

decimal_none : (s n : ℕ) → s < 48 → n < 2 ^ 64 → HasNone s (decimal n)
decimal_none s n low small = no_separator s low (decimal n) (digits_decimal (numerals_by_value (λ ds. all_ascii_digits ds ≡ true) tells_all_ascii_digits) n small)

behind_begins : (s : ℕ) (index : List ℕ) → BeginsSo s (behind_of s index)
behind_begins s [] = tt
behind_begins s (i ∷ index) = refl

-- an index at which a chunk begins at a finite index has 62 bits
pub start_small : (size c : ℕ) → 1 ≤ size → c * size ≤ 2 ^ 62 - 2 → c < 2 ^ 64
start_small size c some low = let grown : c * 1 ≤ c * size = mul-le-mul_left c some in omega (arith, grown, low)

-- the first number and what is behind it
pub joined_step : (s size : ℕ) (others text part behind : List ℕ) → s < 48 → 1 ≤ size → part ≡ take (end_in s text) text → behind ≡ drop (end_in s text) text
    → IsStart size part × AreBehind others s behind → IsJoined (size ∷ others) s text
joined_step s size others text part behind low some front back h =
    let c = h.0.0 in
    let index = h.1.0 in
    (c ∷ index, ap suc h.1.1, (h.0.1, h.1.2), ap (λ us. us ++ behind_of s index) (h.0.2 ∙ front) ∙ ap (λ vs. take (end_in s text) text ++ vs) (h.1.3 ∙ back) ∙ take-append-drop (end_in s text) text)

pub joined_parts : (s size : ℕ) (others text part behind : List ℕ) → s < 48 → 1 ≤ size → part ≡ take (end_in s text) text → behind ≡ drop (end_in s text) text
    → IsJoined (size ∷ others) s text → IsStart size part × AreBehind others s behind
joined_parts s size others text part behind low some front back h = by_index h.0 h.1 h.2 h.3
  where
    by_index : (index : List ℕ) → length index ≡ suc (length others) → AreStarts (size ∷ others) index → joined s index ≡ text → IsStart size part × AreBehind others s behind
    by_index [] ranks starts is = absurd (omega arith)
    by_index (c ∷ index) ranks starts is =
        let ends = parted s (decimal c) (behind_of s index) (decimal_none s c low (start_small size c some starts.0)) (behind_begins s index) in
        ((c, starts.0, sym ends.0 ∙ ap (λ t. take (end_in s t) t) is ∙ sym front), (index, omega arith, starts.1, sym ends.1 ∙ ap (λ t. drop (end_in s t) t) is ∙ sym back))

-- the separator and a number, and what is behind it
pub behind_step : (s size first : ℕ) (others tail : List ℕ) → first ≡ s → IsJoined (size ∷ others) s tail → AreBehind (size ∷ others) s (first ∷ tail)
behind_step s size first others tail same h = by_index h.0 h.1 h.2 h.3
  where
    by_index : (index : List ℕ) → length index ≡ suc (length others) → AreStarts (size ∷ others) index → joined s index ≡ tail → AreBehind (size ∷ others) s (first ∷ tail)
    by_index [] ranks starts is = absurd (omega arith)
    by_index (c ∷ index) ranks starts is = (c ∷ index, ranks, starts, λ i. sym same i ∷ is i)

pub behind_parts : (s size first : ℕ) (others tail : List ℕ) → AreBehind (size ∷ others) s (first ∷ tail) → (first ≡ s) × IsJoined (size ∷ others) s tail
behind_parts s size first others tail h = by_index h.0 h.1 h.2 h.3
  where
    by_index : (index : List ℕ) → length index ≡ suc (length others) → AreStarts (size ∷ others) index → behind_of s index ≡ first ∷ tail → (first ≡ s) × IsJoined (size ∷ others) s tail
    by_index [] ranks starts is = absurd (omega arith)
    by_index (c ∷ index) ranks starts is =
        let head : first ≡ s = cc in
        let rest : decimal c ++ behind_of s index ≡ tail = cc in
        (head, (c ∷ index, ranks, starts, rest))

pub behind_short : (s size : ℕ) (others : List ℕ) → ¬ AreBehind (size ∷ others) s []
behind_short s size others h = by_index h.0 h.1 h.3
  where
    by_index : (index : List ℕ) → length index ≡ suc (length others) → behind_of s index ≡ [] → ⊥
    by_index [] ranks is = absurd (omega arith)
    by_index (c ∷ index) ranks is = cc

pub behind_none : (s : ℕ) → AreBehind [] s []
behind_none s = ([], refl, tt, refl)

pub behind_all : (s : ℕ) (text : List ℕ) → AreBehind [] s text → text ≡ []
behind_all s text h = by_index h.0 h.1 h.3
  where
    by_index : (index : List ℕ) → length index ≡ 0 → behind_of s index ≡ text → text ≡ []
    by_index [] ranks is = sym is
    by_index (c ∷ index) ranks is = absurd (omega arith)

-- without a size, the name is "0"
pub joined_none : (s : ℕ) → IsJoined [] s (codes "0")
joined_none s = ([], refl, tt, refl)

pub joined_all : (s : ℕ) (text : List ℕ) → IsJoined [] s text → codes "0" ≡ text
joined_all s text h = by_index h.0 h.1 h.3
  where
    by_index : (index : List ℕ) → length index ≡ 0 → joined s index ≡ text → codes "0" ≡ text
    by_index [] ranks is = is
    by_index (c ∷ index) ranks is = absurd (omega arith)

-- the same for sizes and texts that are cut behind the first
abbrev pub rest_of : List ℕ → List ℕ
rest_of xs = take (length xs - 1) (drop 1 xs)

rest_of-cons : (x : ℕ) (xs : List ℕ) → rest_of (x ∷ xs) ≡ xs
rest_of-cons x xs = let n : length (x ∷ xs) - 1 ≡ length xs = omega arith in ap (λ m. take m xs) n ∙ take_all (length xs) xs (omega arith)

abbrev pub IsEnd : ℕ → List ℕ → List ℕ → List ℕ → Type 0
IsEnd s text part behind = (part ≡ take (end_in s text) text) × (behind ≡ drop (end_in s text) text)

pub joined_from : (s : ℕ) (sizes text part behind : List ℕ) → s < 48 → ArePositive sizes → 1 ≤ length sizes → IsEnd s text part behind
    → IsStart (get_or sizes 0 0) part → AreBehind (rest_of sizes) s behind → IsJoined sizes s text
joined_from s [] text part behind low each some ends start more = absurd (omega arith)
joined_from s (n ∷ ns) text part behind low each some ends start more =
    joined_step s n ns text part behind low each.0 ends.0 ends.1 (start, subst (λ ms. AreBehind ms s behind) (rest_of-cons n ns) more)

pub joined_into : (s : ℕ) (sizes text part behind : List ℕ) → s < 48 → ArePositive sizes → 1 ≤ length sizes → IsEnd s text part behind
    → IsJoined sizes s text → IsStart (get_or sizes 0 0) part × AreBehind (rest_of sizes) s behind
joined_into s [] text part behind low each some ends h = absurd (omega arith)
joined_into s (n ∷ ns) text part behind low each some ends h =
    let parts = joined_parts s n ns text part behind low each.0 ends.0 ends.1 h in
    (parts.0, subst (λ ms. AreBehind ms s behind) (sym (rest_of-cons n ns)) parts.1)

pub behind_from : (s : ℕ) (sizes text : List ℕ) → 1 ≤ length sizes → 1 ≤ length text → get_or text 0 0 ≡ s → IsJoined sizes s (rest_of text) → AreBehind sizes s text
behind_from s [] text some more same h = absurd (omega arith)
behind_from s (n ∷ ns) [] some more same h = absurd (omega arith)
behind_from s (n ∷ ns) (b ∷ text) some more same h = behind_step s n b ns text same (subst (IsJoined (n ∷ ns) s) (rest_of-cons b text) h)

pub behind_into : (s : ℕ) (sizes text : List ℕ) → 1 ≤ length sizes → 1 ≤ length text → AreBehind sizes s text → IsJoined sizes s (rest_of text)
behind_into s [] text some more h = absurd (omega arith)
behind_into s (n ∷ ns) [] some more h = absurd (omega arith)
behind_into s (n ∷ ns) (b ∷ text) some more h = subst (IsJoined (n ∷ ns) s) (sym (rest_of-cons b text)) (behind_parts s n b ns text h).1

pub positive_rest : (sizes : List ℕ) → ArePositive sizes → ArePositive (rest_of sizes)
positive_rest [] each = each
positive_rest (n ∷ ns) each = subst ArePositive (sym (rest_of-cons n ns)) each.1

pub joined_zero : (s : ℕ) (sizes text : List ℕ) → length sizes < 1 → codes "0" ≡ text → IsJoined sizes s text
joined_zero s [] text none is = subst (IsJoined [] s) is (joined_none s)
joined_zero s (n ∷ ns) text none is = absurd (omega arith)

pub zero_joined : (s : ℕ) (sizes text : List ℕ) → length sizes < 1 → IsJoined sizes s text → codes "0" ≡ text
zero_joined s [] text none h = joined_all s text h
zero_joined s (n ∷ ns) text none h = absurd (omega arith)

-- the text "0"
pub zero_from : (text : List ℕ) → length text ≡ 1 → get_or text 0 0 ≡ 48 → codes "0" ≡ text
zero_from [] one is = absurd (omega arith)
zero_from (b ∷ []) one is = ap (λ d. d ∷ []) (sym is)
zero_from (b ∷ c ∷ text) one is = absurd (omega arith)

-- the first separator, or the end
pub end_or : (s : ℕ) (text : List ℕ) → unwrap_or (position (λ b. b == s) text) (length text) ≡ end_in s text
end_or s text =
    let n = end_in s text in
    let most : n ≤ length text = prefix_len-le-length (λ b. not (b == s)) text in
    elim (true_or_false (nat_lt n (length text))) [
      | inl less ↦ ap (λ b. unwrap_or (cond b (Some n) None) (length text)) less
      | inr more ↦ ap (λ b. unwrap_or (cond b (Some n) None) (length text)) more ∙ at_end n (length text) most more
    ]
  where
    at_end : (n len : ℕ) → n ≤ len → nat_lt n len ≡ false → len ≡ n
    at_end n len most more = grind (arith, nat_tests, most, more)

-- sizes of a chunk are positive
pub positive_from : (sizes : List ℕ) → ((k : ℕ) → k < length sizes → 1 ≤ slice_index sizes k) → ArePositive sizes
positive_from [] each = tt
positive_from (n ∷ ns) each = (each 0 (omega arith), positive_from ns (λ k less. each (suc k) (omega arith)))

pub positive : (sizes : List ℕ) → IsChunkShape sizes → ArePositive sizes
positive sizes chunk = positive_from sizes chunk.least

-- the name of a chunk, by where the array is kept
abbrev IsNamed : Home → List ℕ → List ℕ → Type 0
IsNamed home shape name =
    (index : List ℕ) × (length index ≡ length (chunk_shape_in home shape)) × AreStarts (chunk_shape_in home shape) index × IsWholeIfLocal home index × (chunk_name (form_of home) index ≡ name)

zarr_text : (slash : Bool) (index : List ℕ) → zarr.chunk_key slash index ≡ joined (zarr.separator slash) index
zarr_text slash [] = refl
zarr_text slash (i ∷ index) = refl

abbrev zeros : List ℕ → List ℕ
zeros [] = []
zeros (n ∷ ns) = 0 ∷ zeros ns

zeros_rank : (ns : List ℕ) → length (zeros ns) ≡ length ns
zeros_rank [] = refl
zeros_rank (n ∷ ns) = ap suc (zeros_rank ns)

zeros_starts : (ns : List ℕ) → AreStarts ns (zeros ns)
zeros_starts [] = tt
zeros_starts (n ∷ ns) = (omega arith, zeros_starts ns)

zeros_whole : (ns : List ℕ) → AllByRecursion (λ c. c ≡ 0) (zeros ns)
zeros_whole [] = tt
zeros_whole (n ∷ ns) = (refl, zeros_whole ns)

named_in : (home : Home) (shape name : List ℕ) → IsMetadata (form_of home) → IsNameIn home name → IsNamed home shape name
named_in (Zarr mount path meta) shape name valid h = (h.0, h.1, h.2, tt, zarr_text meta.slash h.0 ∙ h.3)
named_in (N5 mount path meta) shape name valid h = by_index h.0 h.1 h.2 h.3
  where
    by_index : (index : List ℕ) → length index ≡ length meta.block → AreStarts meta.block index → joined 47 index ≡ name → IsNamed (N5 mount path meta) shape name
    by_index [] ranks starts is = let some : 1 ≤ length meta.dimensions = valid.some in let same : length meta.block ≡ length meta.dimensions = valid.ranks in absurd (omega (arith, some, same, ranks))
    by_index (c ∷ index) ranks starts is = (c ∷ index, ranks, starts, tt, is)
named_in (Zarr3 mount path meta) shape name valid h = let b = h.2 in (b.0, b.1, b.2, tt, ap (λ t. 99 ∷ t) b.3 ∙ h.1)
named_in (Local start) shape name valid h = (zeros (map (max 1) shape), zeros_rank (map (max 1) shape), zeros_starts (map (max 1) shape), zeros_whole (map (max 1) shape), h)

in_named : (home : Home) (shape name : List ℕ) → IsMetadata (form_of home) → IsNamed home shape name → IsNameIn home name
in_named (Zarr mount path meta) shape name valid h = (h.0, h.1, h.2, sym (zarr_text meta.slash h.0) ∙ h.4)
in_named (N5 mount path meta) shape name valid h = by_index h.0 h.1 h.2 h.4
  where
    by_index : (index : List ℕ) → length index ≡ length meta.block → AreStarts meta.block index → chunk_name (form_of (N5 mount path meta)) index ≡ name → IsJoined meta.block 47 name
    by_index [] ranks starts is = let some : 1 ≤ length meta.dimensions = valid.some in let same : length meta.block ≡ length meta.dimensions = valid.ranks in absurd (omega (arith, some, same, ranks))
    by_index (c ∷ index) ranks starts is = (c ∷ index, ranks, starts, is)
in_named (Zarr3 mount path meta) shape name valid h = (behind_of (zarr3.separator meta.dot) h.0, h.4, (h.0, h.1, h.2, refl))
in_named (Local start) shape name valid h = h.4

-- a text is the name of a chunk of the array exactly where it is one by the format
pub name_from : (info : ArrayInfo) (name : List ℕ) → IsMetadata (form_of info.home) → IsNameIn info.home name → IsChunkName info name
name_from info name valid h = let n = named_in info.home info.shape name valid h in (n.0, record { rank = n.1; starts = n.2; whole = n.3 }, n.4)

pub name_in : (info : ArrayInfo) (name : List ℕ) → IsMetadata (form_of info.home) → IsChunkName info name → IsNameIn info.home name
name_in info name valid h = in_named info.home info.shape name valid (h.0, h.1.rank, h.1.starts, h.1.whole, h.2)
