-- Which numbers and indices are of arrays and chunks.
use Rattle.std.proofs.Common.{◌≡◌, ℕ, ◌+◌, ◌*◌, ◌-◌, ◌^◌, ◌<◌, ◌≤◌, inl, inr, List, [], ◌∷◌, length, map, suc, Bool, true, false, cond, Option, Some, None, refl, sym, ap, subst, ◌∙◌, arith, eq-eqb}
use Rattle.std.specs.Prelude.{◌==◌, IsSome, count_by, max, nat_lt}
use Rattle.std.specs.List.{AllByRecursion}
use Rattle.std.specs.FinMap as finmap
use Rattle.std.proofs.lemmas.Bool.Decides.{nat_tests}
use Rattle.cells.proofs.Laws.{less_or_not}
use Rattle.kv_face.specs.Store.{Contents}
use Rattle.history.specs.declared.array.ArrayInfo.{ArrayInfo}
use Rattle.history.specs.declared.array.Home.{Home}
use Rattle.history.specs.declared.array.Home.TheVariants.{Zarr, N5, Zarr3, Local}
use Rattle.history.specs.declared.event.Kind.{Kind}
use Rattle.history.specs.declared.event.Kind.TheVariants.{Opened, Done, Resized, Fault}
use Rattle.history.specs.History.{History}
use Rattle.history.specs.Arrays.{Known, known_after, known_step, known_reshaped, chunk_shape_in}
use Rattle.history.specs.Chunks.{AreStarts, IsIndexOf, IsWholeIfLocal}
use Rattle.history.specs.Legal.{IsLegal, IsLegalKind, is_opening, opens}
use Rattle.history.proofs.Laws.{each_history, legal_step, known_after-more, known_below}
use Rattle.state_laws.specs.Asked.{IsIndexIn}
use Rattle.state_laws.specs.Outline.{outline}
use Rattle.state_laws.proofs.Later.{count_more}
use Rattle.state_laws.proofs.Outline.{known-outline, count-outline}

known_or : (o : Option Known) → IsSome o → (k : Known) × (o ≡ Some k)
known_or None is = absurd (cc)
known_or (Some k) is = (k, refl)

stays_some : (a : ℕ) (h : History) (kind : Kind) (o : Option Known) → IsSome o → IsSome (known_step a h kind o)
stays_some a h (Opened info) o is = by (info.number == a)
  where
    by : (b : Bool) → IsSome (cond b (Some (record { info = info; opened = length h + 1; shape = info.shape })) o)
    by true = refl
    by false = is
stays_some a h (Done line mode ops key) o is = is
stays_some a h (Resized b shape) o is = by (b == a) o is
  where
    by : (t : Bool) (o : Option Known) → IsSome o → IsSome (cond t (known_reshaped shape o) o)
    by true None is = is
    by true (Some k) is = refl
    by false o is = is
stays_some a h (Fault mount) o is = is

-- each number below the count of the arrays is one of them
numbered : (start : Contents) (a : ℕ) (h : History) → IsLegal start h → a < count_by is_opening h → IsSome (known_after h a)
numbered start a =
    each_history (λ h. IsLegal start h → a < count_by is_opening h → IsSome (known_after h a)) (λ legal less. absurd (omega arith))
    (λ h e before legal less.
    let parts = legal_step start h e legal in
    subst IsSome (sym (known_after-more h e a)) (by h e.kind parts.1 (before parts.0) (subst (λ n. a < n) (count_more is_opening h e) less)))
  where
    opened : (h : History) (info : ArrayInfo) (b : Bool) → (info.number == a) ≡ b → info.number ≡ count_by is_opening h → (a < count_by is_opening h → IsSome (known_after h a)) → a < count_by is_opening h + 1
        → IsSome (cond b (Some (record { info = info; opened = length h + 1; shape = info.shape })) (known_after h a))
    opened h info true test number before less = refl
    opened h info false test number before less =
        elim (less_or_not a (count_by is_opening h)) [
          | inl early ↦ before early
          | inr late ↦
              let same : info.number ≡ a = omega (arith, number, late, less) in
              let clash : false ≡ true = sym test ∙ ap (λ n. n == a) same ∙ eq-eqb a a refl in
              absurd (cc)
        ]

    by : (h : History) (kind : Kind) → IsLegalKind start h kind → (a < count_by is_opening h → IsSome (known_after h a)) → a < count_by is_opening h + cond (opens kind) 1 0 → IsSome (known_step a h kind (known_after h a))
    by h (Opened info) legal before less = opened h info (info.number == a) refl legal.number before less
    by h (Done line mode ops key) legal before less = before (omega (arith, less))
    by h (Resized b shape) legal before less = stays_some a h (Resized b shape) (known_after h a) (before (omega (arith, less)))
    by h (Fault mount) legal before less = before (omega (arith, less))

module _ (h : History) (a : ℕ) (legal : IsLegal finmap.empty (outline h)) where
  pub known_if : a < count_by is_opening h → IsSome (known_after h a)
  known_if less = subst IsSome (known-outline a h) (numbered finmap.empty a (outline h) legal (subst (λ n. a < n) (sym (count-outline h)) less))

  pub below_if : IsSome (known_after h a) → a < count_by is_opening h
  below_if is =
      let k = known_or (known_after h a) is in
      subst (λ n. a < n) (count-outline h) (known_below finmap.empty a (outline h) legal k.0 (known-outline a h ∙ k.1))

  pub known_test : nat_lt a (count_by is_opening h) ≡ true → IsSome (known_after h a)
  known_test test = known_if (let less : a < count_by is_opening h = grind (arith, nat_tests) in less)

  pub test_known : IsSome (known_after h a) → nat_lt a (count_by is_opening h) ≡ true
  test_known is = let less = below_if is in let test : nat_lt a (count_by is_opening h) ≡ true = grind (arith, nat_tests) in test

length_ones : (shape : List ℕ) → length (map (max 1) shape) ≡ length shape
length_ones [] = refl
length_ones (n ∷ shape) = ap suc (length_ones shape)

small_start : (n : ℕ) (c : ℕ) → c ≡ 0 → c * n ≤ 2 ^ 62 - 2
small_start n c is = subst (λ c. c * n ≤ 2 ^ 62 - 2) (sym is) (omega arith)

starts_zero : (sizes chunk : List ℕ) → AllByRecursion (λ c. c ≡ 0) chunk → AreStarts sizes chunk
starts_zero [] chunk zeros = tt
starts_zero (n ∷ sizes) [] zeros = tt
starts_zero (n ∷ sizes) (c ∷ chunk) zeros = (small_start n c zeros.0, starts_zero sizes chunk zeros.1)

-- the parts of an index, by the array's home
abbrev Parts : Home → List ℕ → List ℕ → Type 0
Parts home shape index = (length index ≡ length (chunk_shape_in home shape)) × AreStarts (chunk_shape_in home shape) index × IsWholeIfLocal home index

parts_of : (home : Home) (shape index : List ℕ) → IsIndexIn home shape index → Parts home shape index
parts_of (Zarr mount path meta) shape index is = (is.0, is.1, tt)
parts_of (N5 mount path meta) shape index is = (is.0, is.1, tt)
parts_of (Zarr3 mount path meta) shape index is = (is.0, is.1, tt)
parts_of (Local start) shape index is = (is.0 ∙ sym (length_ones shape), starts_zero (map (max 1) shape) index is.1, is.1)

of_parts : (home : Home) (shape index : List ℕ) → Parts home shape index → IsIndexIn home shape index
of_parts (Zarr mount path meta) shape index is = (is.0, is.1)
of_parts (N5 mount path meta) shape index is = (is.0, is.1)
of_parts (Zarr3 mount path meta) shape index is = (is.0, is.1)
of_parts (Local start) shape index is = (is.0 ∙ length_ones shape, is.2)

pub index_from : (info : ArrayInfo) (index : List ℕ) → IsIndexIn info.home info.shape index → IsIndexOf info index
index_from info index is = let parts = parts_of info.home info.shape index is in record { rank = parts.0; starts = parts.1; whole = parts.2 }

pub index_into : (info : ArrayInfo) (index : List ℕ) → IsIndexOf info index → IsIndexIn info.home info.shape index
index_into info index is = of_parts info.home info.shape index (is.rank, is.starts, is.whole)
