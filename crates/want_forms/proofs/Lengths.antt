-- A list of numbers has as many items as numbers.
use Rattle.std.proofs.Common.{◌≡◌, ℕ, suc, List, [], ◌∷◌, length, Option, Some, None, Ok, Err, Bool, true, false, cond, refl, ap, sym, ◌∙◌}
use Rattle.std.specs.Prelude.{option_and_then, option_map}
use Rattle.serde_json.specs.Data.{Data}
use Rattle.json_forms.specs.Lists.{list_items, all_of, u64_list}
use Rattle.serde_json.specs.Find.{as_number, as_u64}
use Rattle.cells.specs.Shapes.{is_shape}
use Rattle.meta_forms.specs.Faults.{named}
use Rattle.meta_forms.specs.Judged.{list_len, judged_shape}
use Rattle.meta_forms.specs.declared.error.Fault.TheVariants.{Bad}

abbrev u64_in : Data → Option ℕ
u64_in d = option_and_then as_u64 (as_number d)

module _ {A B : Type 0} (f : A → Option B) where
  told : (y : Option B) (rest : Option (List B)) (ys : List B) (n : ℕ) → ((zs : List B) → rest ≡ Some zs → length zs ≡ n)
      → option_and_then (λ z. option_map (λ zs. z ∷ zs) rest) y ≡ Some ys → length ys ≡ suc n
  told None rest ys n more e = let no_such : length ys ≡ suc n = cc in no_such
  told (Some z) None ys n more e = let no_such : length ys ≡ suc n = cc in no_such
  told (Some z) (Some zs) ys n more e = let one : ys ≡ z ∷ zs = cc in ap length one ∙ ap suc (more zs refl)

  pub length-all_of : (xs : List A) (ys : List B) → all_of f xs ≡ Some ys → length ys ≡ length xs
  length-all_of [] ys e = let none : ys ≡ [] = cc in ap length none
  length-all_of (x ∷ xs) ys e = told (f x) (all_of f xs) ys (length xs) (λ zs q. length-all_of xs zs q) e

of_list : (o : Option (List Data)) (ys : List ℕ) → option_and_then (all_of u64_in) o ≡ Some ys → option_map length o ≡ Some (length ys)
of_list None ys e = let no_such : option_map (length {A = Data}) None ≡ Some (length ys) = cc in no_such
of_list (Some ds) ys e = ap Some (sym (length-all_of u64_in ds ys e))

-- the numbers of a list of them are as many as its items
pub list_len-numbers : (o : Option Data) (ys : List ℕ) → option_and_then u64_list o ≡ Some ys → option_and_then list_len o ≡ Some (length ys)
list_len-numbers None ys e = let no_such : option_and_then list_len None ≡ Some (length ys) = cc in no_such
list_len-numbers (Some d) ys e = of_list (list_items d) ys e

chosen : (name : List ℕ) (test : Bool) (ys sizes : List ℕ) → named name (cond test (Ok ys) (Err Bad)) ≡ Ok sizes → ys ≡ sizes
chosen name true ys sizes e = cc
chosen name false ys sizes e = let no_such : ys ≡ sizes = cc in no_such

judged : (name : List ℕ) (o : Option (List ℕ)) (sizes : List ℕ) → named name (judged_shape o) ≡ Ok sizes → o ≡ Some sizes
judged name None sizes e = let no_such : None ≡ Some sizes = cc in no_such
judged name (Some ys) sizes e = ap Some (chosen name (is_shape ys) ys sizes e)

-- the sizes of a right shape are as many as the items of its member
pub list_len-shape : (name : List ℕ) (o : Option Data) (read : Option (List ℕ)) (sizes whole : List ℕ) → whole ≡ sizes → read ≡ option_and_then u64_list o
    → named name (judged_shape read) ≡ Ok sizes → option_and_then list_len o ≡ Some (length whole)
list_len-shape name o read sizes whole same is e = list_len-numbers o whole (sym is ∙ judged name read sizes e ∙ ap Some (sym same))
