-- The numbers that leaves take are those of their arrays, where each printed number is that of an opening.
use Rattle.std.proofs.Common.{◌≡◌, ◌∙◌, ◌≤◌, ℕ, suc, List, [], ◌∷◌, ◌++◌, Bool, true, false, cond, Option, Some, None, length, refl, ap, arith}
use Rattle.std.specs.Prelude.{filter_map, option_map}
use Rattle.std.specs.List.{AllByRecursion, slice_get, cons_option}
use Rattle.history.specs.declared.array.ArrayInfo.{ArrayInfo}
use Rattle.history.specs.declared.event.Event.{Event}
use Rattle.history.specs.History.{History}
use Rattle.history.specs.Lines.{SpecLeaf, given, stored}
use Rattle.history.specs.OpenRows.{next_array, given_info}
use Rattle.history.specs.Own.{Numbered, numbers_of, opened_event}
use Rattle.stated_arrays.specs.Claimed.{at_number, opening_of}
use Rattle.stated_arrays.specs.Outcomes.{IsOpenedAt}
use Rattle.stated_arrays.specs.Outlined.{AreOpenedBy}
use Rattle.stated_arrays.specs.StatedEvents.{IsEvent}
use Rattle.stated_arrays.specs.Takings.{before, Taking, taking, takings, was_opened, opened_info}
use Rattle.stated_arrays.specs.OpenedViews.{IsGivenAt, AreGiven}

item_at : (xs : History) (e : Event) (ys : History) → slice_get (xs ++ e ∷ ys) (length xs) ≡ Some e
item_at [] e ys = refl
item_at (x ∷ xs) e ys = item_at xs e ys

module _ (h : History) (owner : ℕ) where
  abbrev opens : Taking → Option Numbered
  opens = opening_of h owner

  -- an event that is stated for a leaf opens its array
  opened_at : (n : ℕ) (info : ArrayInfo) → IsEvent h n (opened_event owner info) → IsOpenedAt h n info
  opened_at n info is = record {
    at = length is.before;
    event = opened_event owner info;
    place = is.numbered;
    there = ap (λ g. slice_get g (length is.before)) is.parts ∙ item_at is.before (opened_event owner info) is.later;
    kind = refl;
  }

  -- leaves take at most as many numbers as are printed
  few_taken : (leaves : List SpecLeaf) (numbers : List ℕ) → length (filter_map opens (takings h leaves numbers)) ≤ length numbers
  few_taken [] numbers = omega arith
  few_taken (leaf ∷ leaves) [] = few_taken leaves []
  few_taken (given cells ∷ leaves) (n ∷ numbers) = let rest = few_taken leaves numbers in omega (arith, rest)
  few_taken (stored node leaf ∷ leaves) (n ∷ numbers) = by (was_opened h n leaf) (opened_info (next_array (before h n)) (stored node leaf)) (few_taken leaves (n ∷ numbers)) (few_taken leaves numbers)
    where
      one : (o : Option ArrayInfo) → length (filter_map opens (takings h leaves numbers)) ≤ length numbers
          → length (cons_option (option_map (λ info. at_number n (opened_event owner info)) o) (filter_map opens (takings h leaves numbers))) ≤ suc (length numbers)
      one None rest = omega (arith, rest)
      one (Some info) rest = omega (arith, rest)

      by : (b : Bool) (o : Option ArrayInfo) → length (filter_map opens (takings h leaves (n ∷ numbers))) ≤ suc (length numbers) → length (filter_map opens (takings h leaves numbers)) ≤ length numbers
          → length (filter_map opens (cond b (taking (stored node leaf) None ∷ takings h leaves (n ∷ numbers)) (taking (stored node leaf) (Some n) ∷ takings h leaves numbers))) ≤ suc (length numbers)
      by true o passed rest = passed
      by false o passed rest = one (opened_info (next_array (before h n)) (stored node leaf)) rest

  -- so each that is taken is that of an array
  pub taken_given : (leaves : List SpecLeaf) (numbers : List ℕ) → numbers_of (filter_map opens (takings h leaves numbers)) ≡ numbers
      → AllByRecursion (λ (o : Numbered). IsEvent h o.number o.event) (filter_map opens (takings h leaves numbers)) → AreGiven h (takings h leaves numbers)
  taken_given [] numbers same all = tt
  taken_given (leaf ∷ leaves) [] same all = (tt, taken_given leaves [] same all)
  taken_given (given cells ∷ leaves) (n ∷ numbers) same all =
      let rest : numbers_of (filter_map opens (takings h leaves numbers)) ≡ numbers = cc in
      ((given_info (next_array (before h n)) cells, refl, opened_at n (given_info (next_array (before h n)) cells) all.0), taken_given leaves numbers rest all.1)
  taken_given (stored node leaf ∷ leaves) (n ∷ numbers) same all =
      by (was_opened h n leaf) (λ s a. taken_given leaves (n ∷ numbers) s a) (λ s a. taken_given leaves numbers s a) same all
    where
      list : Option ArrayInfo → List Numbered
      list o = cons_option (option_map (λ info. at_number n (opened_event owner info)) o) (filter_map opens (takings h leaves numbers))

      one : (o : Option ArrayInfo) → opened_info (next_array (before h n)) (stored node leaf) ≡ o
          → (numbers_of (filter_map opens (takings h leaves numbers)) ≡ numbers → AllByRecursion (λ (o : Numbered). IsEvent h o.number o.event) (filter_map opens (takings h leaves numbers)) → AreGiven h (takings h leaves numbers))
          → numbers_of (list o) ≡ n ∷ numbers → AllByRecursion (λ (o : Numbered). IsEvent h o.number o.event) (list o)
          → IsGivenAt h (stored node leaf) (Some n) × AreGiven h (takings h leaves numbers)
      one None is rest same all =
          let few = few_taken leaves numbers in
          let sizes : length (numbers_of (filter_map opens (takings h leaves numbers))) ≡ suc (length numbers) = ap length same in
          let mapped = many (filter_map opens (takings h leaves numbers)) in
          let no : ⊥ = omega (arith, few, sizes, mapped) in
          absurd no
        where
          many : (xs : List Numbered) → length (numbers_of xs) ≡ length xs
          many [] = refl
          many (x ∷ xs) = ap suc (many xs)
      one (Some info) is rest same all =
          let tail : numbers_of (filter_map opens (takings h leaves numbers)) ≡ numbers = cc in
          ((info, is, opened_at n info all.0), rest tail all.1)

      by : (b : Bool) → (numbers_of (filter_map opens (takings h leaves (n ∷ numbers))) ≡ n ∷ numbers → AllByRecursion (λ (o : Numbered). IsEvent h o.number o.event) (filter_map opens (takings h leaves (n ∷ numbers))) → AreGiven h (takings h leaves (n ∷ numbers)))
          → (numbers_of (filter_map opens (takings h leaves numbers)) ≡ numbers → AllByRecursion (λ (o : Numbered). IsEvent h o.number o.event) (filter_map opens (takings h leaves numbers)) → AreGiven h (takings h leaves numbers))
          → numbers_of (filter_map opens (cond b (taking (stored node leaf) None ∷ takings h leaves (n ∷ numbers)) (taking (stored node leaf) (Some n) ∷ takings h leaves numbers))) ≡ n ∷ numbers
          → AllByRecursion (λ (o : Numbered). IsEvent h o.number o.event) (filter_map opens (cond b (taking (stored node leaf) None ∷ takings h leaves (n ∷ numbers)) (taking (stored node leaf) (Some n) ∷ takings h leaves numbers)))
          → AreGiven h (cond b (taking (stored node leaf) None ∷ takings h leaves (n ∷ numbers)) (taking (stored node leaf) (Some n) ∷ takings h leaves numbers))
      by true passed taken same all = (tt, passed same all)
      by false passed taken same all = one (opened_info (next_array (before h n)) (stored node leaf)) refl taken same all

-- of an open line whose numbers are those of its arrays
pub outlined_given : (h : History) (owner : ℕ) (leaves : List SpecLeaf) (printed : List ℕ) → AreOpenedBy h owner leaves printed → AreGiven h (takings h leaves printed)
outlined_given h owner leaves printed are = taken_given h owner leaves printed are.numbers are.events
