-- Each dtype has a name of its own.
use Rattle.std.proofs.Common.{◌≡◌, ℕ, List, [], ◌∷◌, Bool, true, false, cond, Option, Some, refl, sym, ap, ◌∙◌}
use Rattle.std.specs.Prelude.{find}
use Rattle.std.specs.Str.{bytes_eq}
use Rattle.std.proofs.lemmas.Slice.Eq.{bytes_eq-Decides}
use Rattle.cells.specs.DtypeNames.{dtype_name, dtypes, dtype_named}
use Rattle.cells.specs.declared.dtype.Dtype.{Dtype}
use Rattle.cells.specs.declared.dtype.Dtype.TheVariants.{I8, U8, I16, U16, I32, U32, I64, U64}

-- the dtype of a dtype's name is that one
pub dtype_named-dtype_name : (dtype : Dtype) → dtype_named (dtype_name dtype) ≡ Some dtype
dtype_named-dtype_name I8 = refl
dtype_named-dtype_name U8 = refl
dtype_named-dtype_name I16 = refl
dtype_named-dtype_name U16 = refl
dtype_named-dtype_name I32 = refl
dtype_named-dtype_name U32 = refl
dtype_named-dtype_name I64 = refl
dtype_named-dtype_name U64 = refl

found-cond : {A : Type 0} (p : A → Bool) (y x : A) (b : Bool) (r : Option A) → p y ≡ b → (r ≡ Some x → p x ≡ true) → cond b (Some y) r ≡ Some x → p x ≡ true
found-cond p y x true r here rest found = ap p (sym (let same : y ≡ x = cc in same)) ∙ here
found-cond p y x false r here rest found = rest found

find-passes : {A : Type 0} (p : A → Bool) (xs : List A) (x : A) → find p xs ≡ Some x → p x ≡ true
find-passes p [] x found = absurd (let no_such : ⊥ = cc in no_such)
find-passes p (y ∷ ys) x found = found-cond p y x (p y) (find p ys) refl (find-passes p ys x) found

-- a text that names a dtype is its name
pub dtype_name-dtype_named : (text : List ℕ) (dtype : Dtype) → dtype_named text ≡ Some dtype → text ≡ dtype_name dtype
dtype_name-dtype_named text dtype is = (bytes_eq-Decides text (dtype_name dtype)).0 (find-passes (λ t. bytes_eq text (dtype_name t)) dtypes dtype is)
