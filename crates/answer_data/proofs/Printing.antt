-- When answers read back: what is asked of the values of their members.
use Rattle.std.proofs.Common.{◌≡◌, ◌≤◌, ◌<◌, ◌^◌, ◌+◌, ℕ, ℤ, pos, negsuc, true, List, [], ◌∷◌, length, get_or, map, Ordering, Less, Equal, Greater, nat_cmp, arith}
use Rattle.std.specs.List.{AllByRecursion}
use Rattle.std.specs.Str.{IsUtf8}
use Rattle.std.specs.Cmp.Lexicographic.{slice_cmp}
use Rattle.std.specs.Ordering.{match_ordering}
use Rattle.std.proofs.lemmas.Int.{ints}
use Rattle.json.proofs.Printed.Utf8.{IsUtf8-are_ascii, are_ascii}
use Rattle.serde_json.specs.Data.{Data, Members, no_members, member, put, depth, members_depth}
use Rattle.serde_json.specs.Find.{of_integer}
use Rattle.json_forms.specs.Lists.{list_of}
use Rattle.json_forms.specs.Members.{members_from, object_of}
use Rattle.json_forms.specs.Numbers.{natural}
use Rattle.cells.specs.Places.{cell_count}
use Rattle.cells.specs.Numbers.{Holds, number_of}
use Rattle.cells.specs.declared.dtype.Dtype.{Dtype}
use Rattle.cells.specs.declared.dtype.Dtype.TheVariants.{I8, U8, I16, U16, I32, U32, I64, U64}
use Rattle.answer_text.specs.Nested.{rows}
use Rattle.answer_data.specs.Causes.{Member}
use Rattle.answer_data.specs.Members.{numbers_data, word_data, values_data}
use Rattle.answer_data.specs.Printable.{IsInteger, IsSpelled, HasSpelled}
use Rattle.answer_data.proofs.WordsBack.{AreWords, each_row}

spelled_chosen : (o : Ordering) (a b c : Members) → HasSpelled a → HasSpelled b → HasSpelled c → HasSpelled (match_ordering o a b c)
spelled_chosen Less a b c x y z = x
spelled_chosen Equal a b c x y z = y
spelled_chosen Greater a b c x y z = z

HasSpelled-put : (k : List ℕ) (d : Data) (ms : Members) → IsUtf8 k → IsSpelled d → HasSpelled ms → HasSpelled (put k d ms)
HasSpelled-put k d no_members name value rest = (name, value, tt)
HasSpelled-put k d (member l e ms) name value rest =
    spelled_chosen (slice_cmp nat_cmp k l) _ _ _ (name, value, rest) (rest.0, value, rest.2) (rest.0, rest.1, HasSpelled-put k d ms name value rest.2)

abbrev pub HasAsciiName : Member → Type 0
HasAsciiName m = are_ascii m.0 ≡ true

-- an object whose members have plain names, and values that JSON spells
pub IsSpelled-object_of : (ms : List Member) → AllByRecursion HasAsciiName ms → AllByRecursion (λ (m : Member). IsSpelled m.1) ms → IsSpelled (object_of ms)
IsSpelled-object_of [] names values = tt
IsSpelled-object_of (m ∷ ms) names values =
    HasSpelled-put m.0 m.1 (members_from ms) (IsUtf8-are_ascii m.0 names.0) values.0 (IsSpelled-object_of ms names.1 values.1)

pub IsSpelled-list_of : {A : Type 0} (f : A → Data) (xs : List A) → AllByRecursion (λ x. IsSpelled (f x)) xs → IsSpelled (list_of (map f xs))
IsSpelled-list_of f [] each = tt
IsSpelled-list_of f (x ∷ xs) each = (each.0, IsSpelled-list_of f xs each.1)

-- numbers of 64 bits
pub IsSpelled-numbers_data : (ns : List ℕ) → AllByRecursion (λ n. n < 2 ^ 64) ns → IsSpelled (numbers_data ns)
IsSpelled-numbers_data ns each = IsSpelled-list_of natural ns each

holds_fits : (dtype : Dtype) (z : ℤ) → Holds dtype z → IsInteger (of_integer z)
holds_fits I8 (pos n) h = omega (arith, ints, h.to_greatest)
holds_fits I8 (negsuc n) h = omega (arith, ints, h.from_least)
holds_fits U8 (pos n) h = omega (arith, ints, h.to_greatest)
holds_fits U8 (negsuc n) h = omega (arith, ints, h.from_least)
holds_fits I16 (pos n) h = omega (arith, ints, h.to_greatest)
holds_fits I16 (negsuc n) h = omega (arith, ints, h.from_least)
holds_fits U16 (pos n) h = omega (arith, ints, h.to_greatest)
holds_fits U16 (negsuc n) h = omega (arith, ints, h.from_least)
holds_fits I32 (pos n) h = omega (arith, ints, h.to_greatest)
holds_fits I32 (negsuc n) h = omega (arith, ints, h.from_least)
holds_fits U32 (pos n) h = omega (arith, ints, h.to_greatest)
holds_fits U32 (negsuc n) h = omega (arith, ints, h.from_least)
holds_fits I64 (pos n) h = omega (arith, ints, h.to_greatest)
holds_fits I64 (negsuc n) h = omega (arith, ints, h.from_least)
holds_fits U64 (pos n) h = omega (arith, ints, h.to_greatest)
holds_fits U64 (negsuc n) h = omega (arith, ints, h.from_least)

each_word : (dtype : Dtype) (words : List ℕ) → AreWords dtype words → AllByRecursion (λ w. IsSpelled (word_data dtype w)) words
each_word dtype [] each = tt
each_word dtype (w ∷ words) each = (holds_fits dtype (number_of dtype w) each.0.held, each_word dtype words each.1)

only_spelled : (dtype : Dtype) (words : List ℕ) → length words ≡ 1 → AreWords dtype words → IsSpelled (word_data dtype (get_or words 0 0))
only_spelled dtype [] long each = absurd (omega arith)
only_spelled dtype (w ∷ words) long each = holds_fits dtype (number_of dtype w) each.0.held

-- words of the dtype, one for each cell
pub IsSpelled-values_data : (dtype : Dtype) (shape words : List ℕ) → length words ≡ cell_count shape → AreWords dtype words → IsSpelled (values_data dtype shape words)
IsSpelled-values_data dtype [] words long each = only_spelled dtype words long each
IsSpelled-values_data dtype (size ∷ []) words long each = IsSpelled-list_of (word_data dtype) words (each_word dtype words each)
IsSpelled-values_data dtype (size ∷ s ∷ shape) words long each =
    IsSpelled-list_of (values_data dtype (s ∷ shape)) (rows size (cell_count (s ∷ shape)) words)
    (each_row (λ row. IsSpelled (values_data dtype (s ∷ shape) row)) dtype size (cell_count (s ∷ shape)) words long each (IsSpelled-values_data dtype (s ∷ shape)))

-- ---- how deep data nests

deep_chosen : (o : Ordering) (n : ℕ) (a b c : Members) → members_depth a ≤ n → members_depth b ≤ n → members_depth c ≤ n → members_depth (match_ordering o a b c) ≤ n
deep_chosen Less n a b c x y z = x
deep_chosen Equal n a b c x y z = y
deep_chosen Greater n a b c x y z = z

members_depth-put : (k : List ℕ) (d : Data) (ms : Members) (n : ℕ) → depth d ≤ n → members_depth ms ≤ n → members_depth (put k d ms) ≤ n
members_depth-put k d no_members n value rest = omega arith
members_depth-put k d (member l e ms) n value rest =
    let more : members_depth ms ≤ n = omega arith in
    let later : members_depth (put k d ms) ≤ n = members_depth-put k d ms n value more in
    deep_chosen (slice_cmp nat_cmp k l) n (member k d (member l e ms)) (member l d ms) (member l e (put k d ms)) (omega arith) (omega arith) (omega arith)

-- an object nests one deeper than its values
pub depth-object_of : (ms : List Member) (n : ℕ) → AllByRecursion (λ (m : Member). depth m.1 ≤ n) ms → depth (object_of ms) ≤ n + 1
depth-object_of ms n each = let within : members_depth (members_from ms) ≤ n = go ms each in omega arith
  where
    go : (ps : List Member) → AllByRecursion (λ (m : Member). depth m.1 ≤ n) ps → members_depth (members_from ps) ≤ n
    go [] all = omega arith
    go (p ∷ ps) all = members_depth-put p.0 p.1 (members_from ps) n all.0 (go ps all.1)

-- a list nests one deeper than its items
pub depth-list_of : {A : Type 0} (f : A → Data) (xs : List A) (n : ℕ) → ((x : A) → depth (f x) ≤ n) → depth (list_of (map f xs)) ≤ n + 1
depth-list_of f [] n each = omega arith
depth-list_of f (x ∷ xs) n each = let first = each x in let more = depth-list_of f xs n each in omega arith

pub depth-numbers_data : (ns : List ℕ) → depth (numbers_data ns) ≤ 1
depth-numbers_data ns = depth-list_of natural ns 0 (λ n. omega arith)

-- values nest as deep as the shape has sizes
pub depth-values_data : (dtype : Dtype) (shape words : List ℕ) → depth (values_data dtype shape words) ≤ length shape
depth-values_data dtype [] words = omega arith
depth-values_data dtype (size ∷ []) words = depth-list_of (word_data dtype) words 0 (λ w. omega arith)
depth-values_data dtype (size ∷ s ∷ shape) words =
    let within = depth-list_of (values_data dtype (s ∷ shape)) (rows size (cell_count (s ∷ shape)) words) (length (s ∷ shape)) (depth-values_data dtype (s ∷ shape)) in omega arith
