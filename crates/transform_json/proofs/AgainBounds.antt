-- A domain's bounds and labels that were written are read again.
use Rattle.std.proofs.Common.{◌≡◌, ◌≢◌, ℕ, ℤ, pos, negsuc, ◌+ℤ◌, ◌-ℤ◌, ◌≤ℤ◌, ◌<ℤ◌, Bool, true, false, cond, List, [], ◌∷◌, length, map, replicate, Option, Some, None, option_map, refl, sym, ap, ◌∙◌, arith}
use Rattle.std.proofs.lemmas.Int.{ints}
use Rattle.std.proofs.lemmas.Bool.Decides.{Decides-int_eq}
use Rattle.std.specs.Prelude.{option_and_then, codes, int_le, ◌==◌}
use Rattle.std.specs.List.{AllByRecursion, zip}
use Rattle.std.specs.Ordering.{int_eq}
use Rattle.serde_json.specs.Data.{Data, string}
use Rattle.serde_json.specs.Find.{as_array, as_str}
use Rattle.json_forms.specs.Numbers.{integer}
use Rattle.json_forms.specs.Lists.{all_of}
use Rattle.index_intervals.specs.Bounds.{Bounds, AreBounds, is_index, minus_infinity, plus_infinity}
use Rattle.transform_json.specs.declared.bounds.ReadBound.{ReadBound}
use Rattle.transform_json.specs.declared.uppers.Upper.TheVariants.{Exclusive}
use Rattle.transform_json.specs.Bounds.{plain_bound, bound_of, index_or, ordered, interval_of}
use Rattle.transform_json.specs.Members.{where_so}
use Rattle.transform_json.specs.Uppers.{number_below, with_number_of, dim_to}
use Rattle.transform_json.specs.Written.{flagged, lower_data, upper_data, are_unlabelled}
use Rattle.transform_json.proofs.Told.{eqb-of}
use Rattle.cells.proofs.Laws.{both}

-- a bound that was written, in a list of its own where it is implicit
bound_again : (infinity : List ℕ) (implicit : Bool) (d : Data) (o : Option ℤ) → as_array d ≡ None → plain_bound infinity d ≡ Some o → bound_of infinity (flagged implicit d) ≡ Some (record { number = o; implicit = implicit })
bound_again infinity true d o alone is = rw is refl
bound_again infinity false d o alone is = rw (alone, is) refl

plain-integer : (infinity : List ℕ) (z : ℤ) → plain_bound infinity (integer z) ≡ Some (Some z)
plain-integer infinity (pos n) = refl
plain-integer infinity (negsuc n) = refl

-- the bounds as they are read
abbrev pub read_lower : Bounds → ReadBound
read_lower dim = record { number = cond (int_eq dim.lo minus_infinity) None (Some dim.lo); implicit = dim.lo_implicit }

abbrev read_upper : Bounds → ℤ → ReadBound
read_upper dim number = record { number = cond (int_eq dim.hi plus_infinity) None (Some number); implicit = dim.hi_implicit }

pub lower_again : (dim : Bounds) → bound_of (codes "-inf") (lower_data dim) ≡ Some (read_lower dim)
lower_again dim =
    elim (int_eq dim.lo minus_infinity) as
    (λ b. bound_of (codes "-inf") (flagged dim.lo_implicit (cond b (string (codes "-inf")) (integer dim.lo))) ≡ Some (record { number = cond b None (Some dim.lo); implicit = dim.lo_implicit }))
    [ true ↦ bound_again (codes "-inf") dim.lo_implicit (string (codes "-inf")) None refl refl | false ↦ bound_again (codes "-inf") dim.lo_implicit (integer dim.lo) (Some dim.lo) refl (plain-integer (codes "-inf") dim.lo) ]

upper_again : (dim : Bounds) → bound_of (codes "+inf") (upper_data dim) ≡ Some (read_upper dim (dim.hi +ℤ pos 1))
upper_again dim =
    elim (int_eq dim.hi plus_infinity) as
    (λ b. bound_of (codes "+inf") (flagged dim.hi_implicit (cond b (string (codes "+inf")) (integer (dim.hi +ℤ pos 1)))) ≡ Some (record { number = cond b None (Some (dim.hi +ℤ pos 1)); implicit = dim.hi_implicit })) [
      | true ↦ bound_again (codes "+inf") dim.hi_implicit (string (codes "+inf")) None refl refl
      | false ↦ bound_again (codes "+inf") dim.hi_implicit (integer (dim.hi +ℤ pos 1)) (Some (dim.hi +ℤ pos 1)) refl (plain-integer (codes "+inf") (dim.hi +ℤ pos 1))
    ]

-- an upper bound is finite or the infinity
hi_known : (hi : ℤ) (lo : ℤ) → minus_infinity <ℤ hi → hi ≤ℤ plus_infinity → hi ≢ plus_infinity → is_index hi ≡ true
hi_known hi lo above to other = grind (arith, ints)

lo_known : (lo : ℤ) → minus_infinity ≤ℤ lo → lo <ℤ plus_infinity → lo ≢ minus_infinity → is_index lo ≡ true
lo_known lo from below other = grind (arith, ints)

one_less : (z : ℤ) → z +ℤ pos 1 -ℤ pos 1 ≡ z
one_less z = omega (arith, ints)

below_again : (dim : Bounds) → AreBounds dim → with_number_of number_below (read_upper dim (dim.hi +ℤ pos 1)) ≡ Some (read_upper dim dim.hi)
below_again dim good = by (int_eq dim.hi plus_infinity) refl
  where
    by : (b : Bool) → int_eq dim.hi plus_infinity ≡ b
        → with_number_of number_below (record { number = cond b None (Some (dim.hi +ℤ pos 1)); implicit = dim.hi_implicit }) ≡ Some (record { number = cond b None (Some dim.hi); implicit = dim.hi_implicit })
    by true e = refl
    by false e =
        let other : dim.hi ≢ plus_infinity = λ is. (let t = (Decides-int_eq dim.hi plus_infinity).1 is in absurd cc) in
        let known = hi_known dim.hi dim.lo good.hi_above good.hi_to other in
        rw (one_less dim.hi) (rw known refl)

index_or-lower : (dim : Bounds) → AreBounds dim → index_or (read_lower dim).number minus_infinity ≡ Some dim.lo
index_or-lower dim good = by (int_eq dim.lo minus_infinity) refl
  where
    by : (b : Bool) → int_eq dim.lo minus_infinity ≡ b → index_or (cond b None (Some dim.lo)) minus_infinity ≡ Some dim.lo
    by true e = ap Some (sym ((Decides-int_eq dim.lo minus_infinity).0 e))
    by false e =
        let other : dim.lo ≢ minus_infinity = λ is. (let t = (Decides-int_eq dim.lo minus_infinity).1 is in absurd cc) in
        ap (λ t. where_so t (Some dim.lo)) (lo_known dim.lo good.lo_from good.lo_below other)

index_or-upper : (dim : Bounds) → AreBounds dim → index_or (read_upper dim dim.hi).number plus_infinity ≡ Some dim.hi
index_or-upper dim good = by (int_eq dim.hi plus_infinity) refl
  where
    by : (b : Bool) → int_eq dim.hi plus_infinity ≡ b → index_or (cond b None (Some dim.hi)) plus_infinity ≡ Some dim.hi
    by true e = ap Some (sym ((Decides-int_eq dim.hi plus_infinity).0 e))
    by false e =
        let other : dim.hi ≢ plus_infinity = λ is. (let t = (Decides-int_eq dim.hi plus_infinity).1 is in absurd cc) in
        ap (λ t. where_so t (Some dim.hi)) (hi_known dim.hi dim.lo good.hi_above good.hi_to other)

le-true : (a b : ℤ) → a ≤ℤ b → int_le a b ≡ true
le-true a b h = grind (arith, ints)

interval_again : (dim : Bounds) → AreBounds dim → interval_of (read_lower dim) (read_upper dim dim.hi) ≡ Some dim
interval_again dim good =
    ap (option_and_then (λ lo. option_and_then (λ hi. ordered (read_lower dim) (read_upper dim dim.hi) lo hi) (index_or (read_upper dim dim.hi).number plus_infinity))) (index_or-lower dim good)
    ∙ ap (option_and_then (λ hi. ordered (read_lower dim) (read_upper dim dim.hi) dim.lo hi)) (index_or-upper dim good)
    ∙ ap (λ t. where_so t (Some dim)) (le-true dim.lo (dim.hi +ℤ pos 1) good.ordered)

dim_again : (dim : Bounds) → AreBounds dim → dim_to Exclusive (read_lower dim, upper_data dim) ≡ Some dim
dim_again dim good =
    ap (λ o. option_and_then (interval_of (read_lower dim)) (option_and_then (with_number_of number_below) o)) (upper_again dim)
    ∙ ap (option_and_then (interval_of (read_lower dim))) (below_again dim good) ∙ interval_again dim good

pub all_of-map : {A B C : Type 0} (f : B → Option C) (g : A → B) (h : A → C) → ((x : A) → f (g x) ≡ Some (h x)) → (xs : List A) → all_of f (map g xs) ≡ Some (map h xs)
all_of-map f g h each [] = refl
all_of-map f g h each (x ∷ xs) = rw (each x, all_of-map f g h each xs) refl

pub dims_again : (dims : List Bounds) → AllByRecursion AreBounds dims → all_of (dim_to Exclusive) (zip (map read_lower dims) (map upper_data dims)) ≡ Some dims
dims_again [] good = refl
dims_again (dim ∷ dims) good =
    ap (option_and_then (λ y. option_map (λ ys. y ∷ ys) (all_of (dim_to Exclusive) (zip (map read_lower dims) (map upper_data dims))))) (dim_again dim good.0)
    ∙ ap (option_map (λ ys. dim ∷ ys)) (dims_again dims good.1)

pub labels_again : (labels : List (List ℕ)) → all_of as_str (map string labels) ≡ Some labels
labels_again [] = refl
labels_again (label ∷ labels) = rw (labels_again labels) refl

no_bytes : (label : List ℕ) → (length label == 0) ≡ true → [] ≡ label
no_bytes [] e = refl
no_bytes (x ∷ label) e = let n = eqb-of (length (x ∷ label)) 0 e in absurd (omega (arith, n))

pub unlabelled_again : (labels : List (List ℕ)) → are_unlabelled labels ≡ true → replicate (length labels) [] ≡ labels
unlabelled_again [] e = refl
unlabelled_again (label ∷ labels) e =
    let parts = both (length label == 0) (are_unlabelled labels) e in
    ap (λ l. l ∷ replicate (length labels) []) (no_bytes label parts.0) ∙ ap (λ ls. label ∷ ls) (unlabelled_again labels parts.1)
