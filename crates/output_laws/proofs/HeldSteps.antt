-- The steps that data are.
use Rattle.std.proofs.Common.{◌≡◌, ℕ, suc, ◌+◌, ◌*◌, ◌<◌, ◌≤◌, ◌^◌, ℤ, Bool, true, false, cond, not, List, [], ◌∷◌, length, codes, Option, Some, None, option_map, option_and_then, Result, Ok, Err, IsUtf8, refl, ap, arith}
use Rattle.std.specs.List.{AllByRecursion}
use Rattle.std.specs.Option.{ForSome}
use Rattle.std.proofs.lemmas.Int.{ints}
use Rattle.serde_json.specs.Data.{Data}
use Rattle.serde_json.specs.Find.{get, as_str, as_bool}
use Rattle.json_forms.specs.Lists.{list_items, all_of}
use Rattle.json_forms.specs.Numbers.{whole_number}
use Rattle.index_intervals.specs.Bounds.{is_index}
use Rattle.index_intervals.proofs.Laws.{is_index-true}
use Rattle.step_forms.specs.Acts.{numbers_of, per_dim_of, texts_of, slices_of, only_true, two_flags, marks_of, act_at, act_of}
use Rattle.step_forms.specs.Forms.{where_so, index_of, list_by, or_null}
use Rattle.step_forms.specs.Given.{part_for, IsIndexPart}
use Rattle.step_forms.specs.Steps.{is_newaxis, dims_of, step_on, names_step, step_of_json, before, steps_from, steps_of_json}
use Rattle.step_forms.specs.declared.act.Act.{Act}
use Rattle.step_forms.specs.declared.act.Act.TheVariants as act
use Rattle.step_forms.specs.declared.act.Select.{Select}
use Rattle.step_forms.specs.declared.act.Slices.{Slices}
use Rattle.step_forms.specs.declared.act.Step.{Step}
use Rattle.step_forms.specs.declared.error.StepsError.{StepsError}
use Rattle.step_forms.specs.declared.error.StepsError.TheVariants as steps
use Rattle.step_forms.proofs.GivenLaws.{slices-given}
use Rattle.output_laws.specs.Held.{IsHeld}
use Rattle.output_laws.specs.Plain.{IsWhole}
use Rattle.output_laws.specs.Small.{IsSmallAct, IsSmallArray, IsSmallStep}
use Rattle.output_laws.proofs.HeldData.{May, may_then, may_map, may_all, get_held, str_held, AreItems, items_held}

abbrev AreTexts : List (List ℕ) → Type 0
AreTexts labels = AllByRecursion IsUtf8 labels

first_of : {A : Type 0} (P Q : A → Type 0) (o : Option A) → May (λ x. P x × Q x) o → May P o
first_of P Q None may = tt
first_of P Q (Some x) may = may.0

free : {A : Type 0} (g : A → Act) → ((a : A) → IsSmallAct (g a)) → (o : Option A) → May IsSmallAct (option_map g o)
free g each None = tt
free g each (Some a) = each a

module _ (n : ℕ) (fits : n < 2 ^ 64) where
  listed : {A : Type 0} (P : A → Type 0) (f : Data → Option A) (d : Data) → IsHeld n d → ((x : Data) → IsHeld n x → May P (f x)) → May (λ xs. AllByRecursion P xs × (2 * length xs ≤ n)) (list_by f d)
  listed P f d held each =
      may_then (AreItems n) (λ xs. AllByRecursion P xs × (2 * length xs ≤ n)) (all_of f) (list_items d) (items_held n d held)
      (λ items are. shorter items are.few (all_of f items) (may_all (IsHeld n) P f items are.each each))
    where
      shorter : (items : List Data) → 2 * length items ≤ n → (o : Option (List _)) → May (λ xs. AllByRecursion P xs × (length xs ≡ length items)) o → May (λ xs. AllByRecursion P xs × (2 * length xs ≤ n)) o
      shorter items few None may = tt
      shorter items few (Some xs) may = let same = may.1 in (may.0, omega (arith, same, few))

  index_whole : (x : Data) → May IsWhole (index_of x)
  index_whole x = go (whole_number x)
    where
      so : (z : ℤ) (t : Bool) → is_index z ≡ t → May IsWhole (cond t (Some z) None)
      so z true is = let within = is_index-true z is in record { from_least = omega (arith, ints, within.above); to_greatest = omega (arith, ints, within.below) }
      so z false is = tt

      go : (o : Option ℤ) → May IsWhole (option_and_then (λ z. where_so (is_index z) (Some z)) o)
      go None = tt
      go (Some z) = so z (is_index z) refl

  array_held : (x : Data) → IsHeld n x → May IsSmallArray (list_by index_of x)
  array_held x held = go (list_by index_of x) (listed IsWhole index_of x held (λ y is. index_whole y))
    where
      go : (o : Option (List ℤ)) → May (λ xs. AllByRecursion IsWhole xs × (2 * length xs ≤ n)) o → May IsSmallArray o
      go None may = tt
      go (Some xs) may = let few = may.1 in record { short = omega (arith, few, fits); whole = may.0 }

  arrays_held : (x : Data) → IsHeld n x → May (AllByRecursion IsSmallArray) (list_by (list_by index_of) x)
  arrays_held x held = first_of (AllByRecursion IsSmallArray) (λ xs. 2 * length xs ≤ n) (list_by (list_by index_of) x) (listed IsSmallArray (list_by index_of) x held array_held)

  texts_held : (x : Data) → IsHeld n x → May AreTexts (texts_of x)
  texts_held x held = go (as_str x) (str_held n x held)
    where
      go : (o : Option (List ℕ)) → May IsUtf8 o → May AreTexts (elim o [ Some text ↦ Some (text ∷ []) | None ↦ list_by as_str x ])
      go (Some text) may = (may, tt)
      go None may = first_of AreTexts (λ xs. 2 * length xs ≤ n) (list_by as_str x) (listed IsUtf8 as_str x held (λ y is. str_held n y is))

  at_held : (k : List ℕ) (f : Data → Option Act) (other : Option Act) (d : Data) → IsHeld n d → ((v : Data) → IsHeld n v → May IsSmallAct (f v)) → May IsSmallAct other → May IsSmallAct (act_at k f other d)
  at_held k f other d held each rest = go (get k d) (get_held n k d held)
    where
      go : (o : Option Data) → May (IsHeld n) o → May IsSmallAct (elim o [ Some v ↦ f v | None ↦ other ])
      go (Some v) may = each v may
      go None may = rest

  true_held : (a : Act) (d : Data) → IsSmallAct a → May IsSmallAct (only_true a d)
  true_held a d is = go (as_bool d)
    where
      so : (b : Bool) → May IsSmallAct (cond b (Some a) None)
      so true = is
      so false = tt

      go : (o : Option Bool) → May IsSmallAct (option_and_then (λ b. where_so b (Some a)) o)
      go None = tt
      go (Some b) = so b

  two_held : (fs : List (Option Bool)) → May IsSmallAct (two_flags fs)
  two_held [] = tt
  two_held (lower ∷ []) = tt
  two_held (lower ∷ upper ∷ []) = tt
  two_held (lower ∷ upper ∷ more ∷ fs) = tt

  marks_held : (d : Data) → May IsSmallAct (marks_of d)
  marks_held d = go (as_bool d)
    where
      then : (o : Option (List (Option Bool))) → May IsSmallAct (option_and_then two_flags o)
      then None = tt
      then (Some fs) = two_held fs

      go : (o : Option Bool) → May IsSmallAct (elim o [ Some b ↦ Some (act.MarkBoundsImplicit (Some b) (Some b)) | None ↦ option_and_then two_flags (list_by (or_null as_bool) d) ])
      go (Some b) = tt
      go None = then (list_by (or_null as_bool) d)

  slice_held : (v : Data) → May IsSmallAct (option_map act.Slice (slices_of v))
  slice_held v = go (slices_of v) (slices-given v)
    where
      go : (o : Option Slices) → ForSome o (λ by. (spot : ℕ) → IsIndexPart (part_for by spot)) → May IsSmallAct (option_map act.Slice o)
      go None given = tt
      go (Some by) given = given by refl

  act_held : (d : Data) → IsHeld n d → May IsSmallAct (act_of d)
  act_held d held =
      at_held (codes "label") (λ v. option_map act.Label (texts_of v)) _ d held (λ v is. may_map AreTexts IsSmallAct act.Label (texts_of v) (texts_held v is) (λ labels texts. texts))
      (at_held (codes "translate_to") (λ v. option_map act.TranslateTo (per_dim_of v)) _ d held (λ v is. free act.TranslateTo (λ by. tt) (per_dim_of v))
      (at_held (codes "translate_by") (λ v. option_map act.TranslateBy (per_dim_of v)) _ d held (λ v is. free act.TranslateBy (λ by. tt) (per_dim_of v))
      (at_held (codes "translate_backward_by") (λ v. option_map act.TranslateBackwardBy (per_dim_of v)) _ d held (λ v is. free act.TranslateBackwardBy (λ by. tt) (per_dim_of v))
      (at_held (codes "stride") (λ v. option_map act.Stride (per_dim_of v)) _ d held (λ v is. free act.Stride (λ by. tt) (per_dim_of v))
      (at_held (codes "transpose") (λ v. option_map act.Transpose (list_by index_of v)) _ d held (λ v is. free act.Transpose (λ targets. tt) (list_by index_of v))
      (at_held (codes "diagonal") (only_true act.Diagonal) _ d held (λ v is. true_held act.Diagonal v tt)
      (at_held (codes "at") (λ v. option_map act.At (numbers_of v)) _ d held (λ v is. free act.At (λ by. tt) (numbers_of v))
      (at_held (codes "slice") (λ v. option_map act.Slice (slices_of v)) _ d held (λ v is. slice_held v)
      (at_held (codes "oindex") (λ v. option_map act.Oindex (list_by (list_by index_of) v)) _ d held (λ v is. may_map (AllByRecursion IsSmallArray) IsSmallAct act.Oindex (list_by (list_by index_of) v) (arrays_held v is) (λ arrays are. are))
      (at_held (codes "vindex") (λ v. option_map act.Vindex (list_by (list_by index_of) v)) _ d held (λ v is. may_map (AllByRecursion IsSmallArray) IsSmallAct act.Vindex (list_by (list_by index_of) v) (arrays_held v is) (λ arrays are. are))
      (at_held (codes "newaxis") (only_true act.Newaxis) _ d held (λ v is. true_held act.Newaxis v tt)
      (at_held (codes "mark_bounds_implicit") marks_of None d held (λ v is. marks_held v) tt))))))))))))

  step_held : (d : Data) → IsHeld n d → May IsSmallStep (step_of_json d)
  step_held d held = so (names_step d) (option_and_then (λ a. step_on a (get (codes "dims") d)) (act_of d)) (go (act_of d) (act_held d held))
    where
      on : (a : Act) (o : Option Data) → IsSmallAct a → May IsSmallStep (step_on a o)
      on a None is = alone (not (is_newaxis a))
        where
          alone : (t : Bool) → May IsSmallStep (cond t (Some (record { dims = []; all = true; act = a })) None)
          alone true = is
          alone false = tt
      on a (Some x) is = with_dims (dims_of (is_newaxis a) x)
        where
          with_dims : (o : Option (List Select)) → May IsSmallStep (option_map (λ dims. record { dims = dims; all = false; act = a }) o)
          with_dims None = tt
          with_dims (Some dims) = is

      go : (o : Option Act) → May IsSmallAct o → May IsSmallStep (option_and_then (λ a. step_on a (get (codes "dims") d)) o)
      go None may = tt
      go (Some a) may = on a (get (codes "dims") d) may

      so : (t : Bool) (o : Option Step) → May IsSmallStep o → May IsSmallStep (cond t o None)
      so true o may = may
      so false o may = tt

  -- steps of which there are few, or the number of one
  abbrev pub AreSmallSteps : Result (List Step) StepsError → Type 0
  AreSmallSteps (Ok ss) = AllByRecursion IsSmallStep ss × (length ss < 2 ^ 64)
  AreSmallSteps (Err (steps.BadStep number)) = number < 2 ^ 64
  AreSmallSteps (Err steps.Memory) = Unit {0}

  abbrev AreCounted : ℕ → Result (List Step) StepsError → Type 0
  AreCounted count (Ok ss) = AllByRecursion IsSmallStep ss × (length ss ≡ count)
  AreCounted count (Err (steps.BadStep number)) = number < 2 ^ 64
  AreCounted count (Err steps.Memory) = Unit {0}

  one_more : (count : ℕ) (step : Step) (r : Result (List Step) StepsError) → IsSmallStep step → AreCounted count r → AreCounted (suc count) (before step r)
  one_more count step (Ok ss) is are = ((is, are.0), ap suc are.1)
  one_more count step (Err (steps.BadStep number)) is are = are
  one_more count step (Err steps.Memory) is are = are

  from_held : (k : ℕ) (ds : List Data) → k + length ds ≤ n → AllByRecursion (IsHeld n) ds → AreCounted (length ds) (steps_from k ds)
  from_held k [] low all = (tt, refl)
  from_held k (d ∷ ds) low all = go (step_of_json d) (step_held d all.0) (from_held (k + 1) ds (omega (arith, low)) all.1)
    where
      go : (o : Option Step) → May IsSmallStep o → AreCounted (length ds) (steps_from (k + 1) ds) → AreCounted (length (d ∷ ds)) (elim o [ None ↦ Err (steps.BadStep k) | Some step ↦ before step (steps_from (k + 1) ds) ])
      go None may rest = omega (arith, low, fits)
      go (Some step) may rest = one_more (length ds) step (steps_from (k + 1) ds) may rest

  -- the steps that data are, or the number of the first that has no form
  pub steps_held : (d : Data) → IsHeld n d → AreSmallSteps (steps_of_json d)
  steps_held d held = go (list_items d) (items_held n d held)
    where
      counted : (count : ℕ) (r : Result (List Step) StepsError) → count < 2 ^ 64 → AreCounted count r → AreSmallSteps r
      counted count (Ok ss) low are = let same = are.1 in (are.0, omega (arith, same, low))
      counted count (Err (steps.BadStep number)) low are = are
      counted count (Err steps.Memory) low are = tt

      go : (o : Option (List Data)) → May (AreItems n) o → AreSmallSteps (elim o [ None ↦ Err (steps.BadStep 0) | Some items ↦ steps_from 0 items ])
      go None may = omega arith
      go (Some items) may = let few = may.few in counted (length items) (steps_from 0 items) (omega (arith, few, fits)) (from_held 0 items (omega (arith, few)) may.each)
