-- Steps that JSON gives have the numbers and selectors of steps.
use Rattle.std.proofs.Common.{◌≡◌, ◌≢◌, ◌∙◌, zero, suc, ℕ, ◌+◌, ◌<◌, ◌==◌, Bool, true, false, cond, not, ℤ, pos, List, [], ◌∷◌, length, get_or, codes, refl, sym, arith, Option, Some, None, option_map, option_and_then, unwrap_or, is_some, Result, Ok, Err}
use Rattle.std.proofs.lemmas.Int.{ints}
use Rattle.std.specs.Option.{ForSome}
use Rattle.std.specs.Ordering.{int_eq}
use Rattle.serde_json.specs.Data.{Data}
use Rattle.serde_json.specs.Find.{get, as_null, as_str, as_bool, as_object}
use Rattle.json_forms.specs.Lists.{list_items, all_of}
use Rattle.json_forms.specs.Numbers.{whole_number}
use Rattle.index_intervals.specs.Bounds.{IsIndex, is_index}
use Rattle.index_intervals.proofs.Laws.{is_index-true}
use Rattle.step_forms.specs.declared.act.Act.{Act}
use Rattle.step_forms.specs.declared.act.Act.TheVariants as act
use Rattle.step_forms.specs.declared.act.PerDim.TheVariants as per
use Rattle.step_forms.specs.declared.act.Slices.TheVariants as slices
use Rattle.step_forms.specs.declared.act.SlicePart.{SlicePart}
use Rattle.step_forms.specs.declared.act.Select.{Select}
use Rattle.step_forms.specs.declared.act.Select.TheVariants as select
use Rattle.step_forms.specs.declared.act.Step.{Step}
use Rattle.step_forms.specs.declared.error.StepsError.{StepsError}
use Rattle.step_forms.specs.declared.error.StepsError.TheVariants.{BadStep}
use Rattle.step_forms.specs.Forms.{where_so, index_of, or_null, left_out_or, list_by}
use Rattle.step_forms.specs.Acts.{has_only, step_or_one, range_of, label_of, selector_of, per_dim_of, slice_part_of, slices_of, numbers_of, texts_of, only_true, two_flags, marks_of, act_at, taking_act, act_of}
use Rattle.step_forms.specs.Steps.{is_newaxis, dims_of, step_on, names_step, step_of_json, before, steps_from, steps_of_json}
use Rattle.step_forms.specs.Selection.{HasStep, IsPosition}
use Rattle.step_forms.specs.Given.{IsIndexPart, HasIndicesAt, number_for, part_for, no_part, IsGiven}

-- What holds of a value where there is one.

module _ {A B : Type 0} where
  map-given : (g : A → B) (P : A → Type 0) (Q : B → Type 0) → ((a : A) → P a → Q (g a)) → (o : Option A) → ForSome o P → ForSome (option_map g o) Q
  map-given g P Q h None p y e = cc
  map-given g P Q h (Some a) p y e = let same : g a ≡ y = cc in rw (← same) (h a (p a refl))

  then-given : (f : A → Option B) (Q : B → Type 0) → ((a : A) → ForSome (f a) Q) → (o : Option A) → ForSome (option_and_then f o) Q
  then-given f Q h None y e = cc
  then-given f Q h (Some a) y e = h a y e

  all-given : (f : A → Option B) (P : B → Type 0) → ((x : A) → ForSome (f x) P) → (xs : List A) → ForSome (all_of f xs) (λ ys. (k : ℕ) (d : B) → k < length ys → P (get_or ys k d))
  all-given f P h [] ys e = λ k d l. let same : [] ≡ ys = cc in absurd (let n : length ys ≡ 0 = rw (← same) refl in omega (arith, l, n))
  all-given f P h (x ∷ xs) ys e = told (f x) (h x) e (all-given f P h xs)
    where
      joined : (y : B) → P y → (o : Option (List B)) → ForSome o (λ zs. (k : ℕ) (d : B) → k < length zs → P (get_or zs k d)) → option_map (λ zs. y ∷ zs) o ≡ Some ys
          → (k : ℕ) (d : B) → k < length ys → P (get_or ys k d)
      joined y p None r q k d l = cc
      joined y p (Some zs) r q k d l = let same : y ∷ zs ≡ ys = cc in rw (← same) (at k (rw (← same) at l))
        where
          at : (k : ℕ) → k < length (y ∷ zs) → P (get_or (y ∷ zs) k d)
          at zero l = p
          at (suc k) l = r zs refl k d (omega (arith, l))

      told : (o : Option B) → ForSome o P → option_and_then (λ y. option_map (λ zs. y ∷ zs) (all_of f xs)) o ≡ Some ys
          → ForSome (all_of f xs) (λ zs. (k : ℕ) (d : B) → k < length zs → P (get_or zs k d)) → (k : ℕ) (d : B) → k < length ys → P (get_or ys k d)
      told None p q r k d l = cc
      told (Some y) p q r k d l = joined y (p y refl) (all_of f xs) r q k d l

where-given : {A : Type 0} (P : A → Type 0) (test : Bool) (o : Option A) → (test ≡ true → ForSome o P) → ForSome (where_so test o) P
where-given P true o h = h refl
where-given P false o h = λ y e. cc

list-given : {B : Type 0} (f : Data → Option B) (P : B → Type 0) → ((x : Data) → ForSome (f x) P) → (d : Data) → ForSome (list_by f d) (λ ys. (k : ℕ) (e : B) → k < length ys → P (get_or ys k e))
list-given f P h d = then-given (all_of f) (λ ys. (k : ℕ) (e : _) → k < length ys → P (get_or ys k e)) (λ xs. all-given f P h xs) (list_items d)

-- Numbers.

index-given : (d : Data) → ForSome (index_of d) IsIndex
index-given d =
    then-given (λ z. where_so (is_index z) (Some z)) IsIndex
    (λ z. where-given IsIndex (is_index z) (Some z) (λ t y e. let same : z ≡ y = cc in rw (← same) (is_index-true z t))) (whole_number d)

-- an index, where there is one
abbrev IsMaybe : Option ℤ → Type 0
IsMaybe o = ForSome o IsIndex

or_null-given : (d : Data) → ForSome (or_null index_of d) IsMaybe
or_null-given d = told (is_some (as_null d))
  where
    told : (b : Bool) → ForSome (cond b (Some None) (option_map Some (index_of d))) IsMaybe
    told true = λ y e x q. let same : None ≡ y = cc in cc
    told false = map-given Some IsIndex IsMaybe (λ z p x q. let same : z ≡ x = cc in rw (← same) p) (index_of d) (index-given d)

pub per_dim-given : (d : Data) → ForSome (per_dim_of d) (λ by. (spot : ℕ) → ForSome (number_for by spot) IsIndex)
per_dim-given d = told (index_of d) (index-given d)
  where
    each : (ns : List (Option ℤ)) → ((k : ℕ) (e : Option ℤ) → k < length ns → IsMaybe (get_or ns k e)) → (spot : ℕ) → IsMaybe (get_or ns spot None)
    each [] h spot = λ x q. cc
    each (n ∷ ns) h zero = h 0 None (omega arith)
    each (n ∷ ns) h (suc spot) = each ns (λ k e l. h (suc k) e (omega (arith, l))) spot

    told : (o : Option ℤ) → ForSome o IsIndex → ForSome (elim o [ Some z ↦ Some (per.All z) | None ↦ option_map per.Each (list_by (or_null index_of) d) ]) (λ by. (spot : ℕ) → ForSome (number_for by spot) IsIndex)
    told (Some z) p = λ y e spot x q. let same : per.All z ≡ y = cc in (let here : number_for y spot ≡ Some z = rw (← same) refl in let w : z ≡ x = cc in rw (← w) (p z refl))
    told None p = map-given per.Each (λ ns. (k : ℕ) (e : Option ℤ) → k < length ns → IsMaybe (get_or ns k e)) (λ by. (spot : ℕ) → ForSome (number_for by spot) IsIndex)
        (λ ns h spot. each ns h spot) (list_by (or_null index_of) d) (list-given (or_null index_of) IsMaybe or_null-given d)

-- Parts.

part_at-given : (o : Option Data) → ForSome (left_out_or (or_null index_of) o) IsMaybe
part_at-given None = λ y e x q. let same : None ≡ y = cc in cc
part_at-given (Some d) = or_null-given d

part-given : (start stop step : Option ℤ) → IsMaybe start → IsMaybe stop → IsMaybe step → IsIndexPart (record { start = start; stop = stop; step = unwrap_or step (pos 1) })
part-given start stop step p q r = record { start = p; stop = q; step = told step r }
  where
    told : (o : Option ℤ) → IsMaybe o → IsIndex (unwrap_or o (pos 1))
    told None h = record { above = omega (arith, ints); below = omega (arith, ints) }
    told (Some z) h = h z refl

slice_part-given : (d : Data) → ForSome (slice_part_of d) IsIndexPart
slice_part-given d =
    where-given IsIndexPart (has_only (codes "start" ∷ codes "step" ∷ codes "stop" ∷ []) d) _ (λ _.
    maybe (λ start. option_and_then (λ stop. option_and_then (λ step. Some (record { start = start; stop = stop; step = unwrap_or step (pos 1) })) (left_out_or (or_null index_of) (get (codes "step") d))) (left_out_or (or_null index_of) (get (codes "stop") d)))
    (λ start p. maybe (λ stop. option_and_then (λ step. Some (record { start = start; stop = stop; step = unwrap_or step (pos 1) })) (left_out_or (or_null index_of) (get (codes "step") d)))
    (λ stop q. maybe (λ step. Some (record { start = start; stop = stop; step = unwrap_or step (pos 1) })) (λ step r y e. let part : SlicePart = record { start = start; stop = stop; step = unwrap_or step (pos 1) } in let same : part ≡ y = cc in rw (← same) (part-given start stop step p q r))
    (left_out_or (or_null index_of) (get (codes "step") d)) (part_at-given (get (codes "step") d)))
    (left_out_or (or_null index_of) (get (codes "stop") d)) (part_at-given (get (codes "stop") d)))
    (left_out_or (or_null index_of) (get (codes "start") d)) (part_at-given (get (codes "start") d)))
  where
    maybe : (f : Option ℤ → Option SlicePart) → ((o : Option ℤ) → IsMaybe o → ForSome (f o) IsIndexPart) → (o : Option (Option ℤ)) → ForSome o IsMaybe → ForSome (option_and_then f o) IsIndexPart
    maybe f h None p = λ y e. cc
    maybe f h (Some o) p = h o (p o refl)

pub slices-given : (d : Data) → ForSome (slices_of d) (λ by. (spot : ℕ) → IsIndexPart (part_for by spot))
slices-given d = told (as_object d)
  where
    none : IsIndexPart no_part
    none = record { start = λ x q. cc; stop = λ x q. cc; step = record { above = omega (arith, ints); below = omega (arith, ints) } }

    each : (ps : List SlicePart) → ((k : ℕ) (e : SlicePart) → k < length ps → IsIndexPart (get_or ps k e)) → (spot : ℕ) → IsIndexPart (get_or ps spot no_part)
    each [] h spot = none
    each (p ∷ ps) h zero = h 0 no_part (omega arith)
    each (p ∷ ps) h (suc spot) = each ps (λ k e l. h (suc k) e (omega (arith, l))) spot

    told : {M : Type 0} (o : Option M) → ForSome (elim o [ Some ms ↦ option_map slices.All (slice_part_of d) | None ↦ option_map slices.Each (list_by slice_part_of d) ]) (λ by. (spot : ℕ) → IsIndexPart (part_for by spot))
    told (Some ms) = map-given slices.All IsIndexPart (λ by. (spot : ℕ) → IsIndexPart (part_for by spot)) (λ part p spot. p) (slice_part_of d) (slice_part-given d)
    told None = map-given slices.Each (λ ps. (k : ℕ) (e : SlicePart) → k < length ps → IsIndexPart (get_or ps k e)) (λ by. (spot : ℕ) → IsIndexPart (part_for by spot))
        (λ ps h spot. each ps h spot) (list_by slice_part_of d) (list-given slice_part_of IsIndexPart slice_part-given d)

-- What a step does.

abbrev HasIndices : Act → Type 0
HasIndices a = (spot : ℕ) → HasIndicesAt a spot

act_at-given : (k : List ℕ) (f : Data → Option Act) (other : Option Act) (d : Data) → ((v : Data) → ForSome (f v) HasIndices) → ForSome other HasIndices → ForSome (act_at k f other d) HasIndices
act_at-given k f other d h o = told (get k d)
  where
    told : (m : Option Data) → ForSome (elim m [ Some v ↦ f v | None ↦ other ]) HasIndices
    told (Some v) = h v
    told None = o

free : {A : Type 0} (g : A → Act) → ((a : A) → HasIndices (g a)) → (o : Option A) → ForSome (option_map g o) HasIndices
free g h None = λ y e. cc
free g h (Some a) = λ y e. let same : g a ≡ y = cc in rw (← same) (h a)

pub true-given : (a : Act) → HasIndices a → (d : Data) → ForSome (only_true a d) HasIndices
true-given a h d = then-given (λ b. where_so b (Some a)) HasIndices (λ b. where-given HasIndices b (Some a) (λ _ y e. let same : a ≡ y = cc in rw (← same) h)) (as_bool d)

flags-given : (fs : List (Option Bool)) → ForSome (two_flags fs) HasIndices
flags-given [] = λ y e. cc
flags-given (lower ∷ []) = λ y e. cc
flags-given (lower ∷ upper ∷ []) = λ y e. let same : act.MarkBoundsImplicit lower upper ≡ y = cc in rw (← same) (λ spot. tt)
flags-given (lower ∷ upper ∷ more ∷ flags) = λ y e. cc

marks-given : (d : Data) → ForSome (marks_of d) HasIndices
marks-given d = told (as_bool d)
  where
    told : (o : Option Bool) → ForSome (elim o [ Some b ↦ Some (act.MarkBoundsImplicit (Some b) (Some b)) | None ↦ option_and_then two_flags (list_by (or_null as_bool) d) ]) HasIndices
    told (Some b) = λ y e. let same : act.MarkBoundsImplicit (Some b) (Some b) ≡ y = cc in rw (← same) (λ spot. tt)
    told None = then-given two_flags HasIndices flags-given (list_by (or_null as_bool) d)

taking-given : (d : Data) → ForSome (taking_act d) HasIndices
taking-given d =
    act_at-given (codes "at") (λ v. option_map act.At (numbers_of v)) _ d (λ v. free act.At (λ by spot. tt) (numbers_of v))
    (act_at-given (codes "slice") (λ v. option_map act.Slice (slices_of v)) _ d
    (λ v. map-given act.Slice (λ by. (spot : ℕ) → IsIndexPart (part_for by spot)) HasIndices (λ by h spot. h spot) (slices_of v) (slices-given v))
    (act_at-given (codes "oindex") (λ v. option_map act.Oindex (list_by (list_by index_of) v)) _ d (λ v. free act.Oindex (λ by spot. tt) (list_by (list_by index_of) v))
    (act_at-given (codes "vindex") (λ v. option_map act.Vindex (list_by (list_by index_of) v)) _ d (λ v. free act.Vindex (λ by spot. tt) (list_by (list_by index_of) v))
    (act_at-given (codes "newaxis") (only_true act.Newaxis) _ d (true-given act.Newaxis (λ spot. tt))
    (act_at-given (codes "mark_bounds_implicit") marks_of None d marks-given (λ y e. cc))))))

pub act-given : (d : Data) → ForSome (act_of d) HasIndices
act-given d =
    act_at-given (codes "label") (λ v. option_map act.Label (texts_of v)) _ d (λ v. free act.Label (λ by spot. tt) (texts_of v))
    (act_at-given (codes "translate_to") (λ v. option_map act.TranslateTo (per_dim_of v)) _ d
    (λ v. map-given act.TranslateTo (λ by. (spot : ℕ) → ForSome (number_for by spot) IsIndex) HasIndices (λ by h spot. h spot) (per_dim_of v) (per_dim-given v))
    (act_at-given (codes "translate_by") (λ v. option_map act.TranslateBy (per_dim_of v)) _ d
    (λ v. map-given act.TranslateBy (λ by. (spot : ℕ) → ForSome (number_for by spot) IsIndex) HasIndices (λ by h spot. h spot) (per_dim_of v) (per_dim-given v))
    (act_at-given (codes "translate_backward_by") (λ v. option_map act.TranslateBackwardBy (per_dim_of v)) _ d
    (λ v. map-given act.TranslateBackwardBy (λ by. (spot : ℕ) → ForSome (number_for by spot) IsIndex) HasIndices (λ by h spot. h spot) (per_dim_of v) (per_dim-given v))
    (act_at-given (codes "stride") (λ v. option_map act.Stride (per_dim_of v)) _ d
    (λ v. map-given act.Stride (λ by. (spot : ℕ) → ForSome (number_for by spot) IsIndex) HasIndices (λ by h spot. h spot) (per_dim_of v) (per_dim-given v))
    (act_at-given (codes "transpose") (λ v. option_map act.Transpose (list_by index_of v)) _ d (λ v. free act.Transpose (λ by spot. tt) (list_by index_of v))
    (act_at-given (codes "diagonal") (only_true act.Diagonal) (taking_act d) d (true-given act.Diagonal (λ spot. tt)) (taking-given d)))))))

-- Selectors.

abbrev AllOf : (Select → Type 0) → List Select → Type 0
AllOf P ds = (k : ℕ) (e : Select) → k < length ds → P (get_or ds k e)

range-given : (d : Data) → ForSome (range_of d) HasStep
range-given d =
    where-given HasStep (has_only (codes "start" ∷ codes "step" ∷ codes "stop" ∷ []) d) _ (λ _.
    then-given _ HasStep (λ start. then-given _ HasStep (λ stop. then-given _ HasStep (λ given. stepped start stop given)
    (left_out_or (λ v. option_map Some (index_of v)) (get (codes "step") d)))
    (left_out_or (λ v. option_map Some (index_of v)) (get (codes "stop") d)))
    (left_out_or (λ v. option_map Some (index_of v)) (get (codes "start") d)))
  where
    nonzero : (z : ℤ) → not (int_eq z (pos 0)) ≡ true → z ≢ pos 0
    nonzero z e = grind (arith, ints)

    stepped : (start stop given : Option ℤ) → ForSome (option_and_then (λ step. Some (select.Range start stop step)) (step_or_one given)) HasStep
    stepped start stop None = λ y e. let same : select.Range start stop (pos 1) ≡ y = cc in rw (← same) (λ q. omega (arith, ints, q))
    stepped start stop (Some z) = told (not (int_eq z (pos 0))) refl
      where
        told : (b : Bool) → not (int_eq z (pos 0)) ≡ b → ForSome (option_and_then (λ step. Some (select.Range start stop step)) (cond b (Some z) None)) HasStep
        told true f = λ y e. let same : select.Range start stop z ≡ y = cc in rw (← same) (nonzero z f)
        told false f = λ y e. cc

label-given : (text : List ℕ) → ForSome (label_of text) HasStep
label-given text = where-given HasStep (not (length text == 0)) (Some (select.Label text)) (λ _ y e. let same : select.Label text ≡ y = cc in rw (← same) tt)

pub selector-given : (d : Data) → ForSome (selector_of d) HasStep
selector-given d = told (index_of d) (as_str d)
  where
    told : (o : Option ℤ) (s : Option (List ℕ)) → ForSome (elim o [ Some z ↦ Some (select.Position z) | None ↦ elim s [ Some text ↦ label_of text | None ↦ range_of d ] ]) HasStep
    told (Some z) s = λ y e. let same : select.Position z ≡ y = cc in rw (← same) tt
    told None (Some text) = label-given text
    told None None = range-given d

position-given : (d : Data) → ForSome (option_map select.Position (index_of d)) IsPosition
position-given d = told (index_of d)
  where
    told : (o : Option ℤ) → ForSome (option_map select.Position o) IsPosition
    told None = λ y e. cc
    told (Some z) = λ y e. let same : select.Position z ≡ y = cc in rw (← same) tt

pub position-steps : (s : Select) → IsPosition s → HasStep s
position-steps (select.Position number) p = tt
position-steps (select.Label label) p = absurd p
position-steps (select.Range start stop step) p = absurd p

-- Steps.

step_on-given : (a : Act) → HasIndices a → (m : Option Data) → ForSome (step_on a m) IsGiven
step_on-given a h None = where-given IsGiven (not (is_newaxis a)) _ (λ t y e.
    let step : Step = record { dims = []; all = true; act = a } in
    let same : step ≡ y = cc in
    let given : IsGiven step = record {
      selectors = record { ranges = λ k d l. absurd (omega (arith, l)); positions = λ q. never (is_newaxis a) t q };
      numbers = h;
    } in
    rw (← same) given)
  where
    never : (b : Bool) → not b ≡ true → b ≡ true → (true ≡ false) × AllOf IsPosition []
    never true t q = cc
    never false t q = cc
step_on-given a h (Some d) = told (is_newaxis a) refl
  where
    make : List Select → Step
    make dims = record { dims = dims; all = false; act = a }

    told : (b : Bool) → is_newaxis a ≡ b
        → ForSome (option_map (λ dims. let step : Step = record { dims = dims; all = false; act = a } in step) (dims_of b d)) IsGiven
    told true e = map-given (λ dims. let step : Step = record { dims = dims; all = false; act = a } in step) (AllOf IsPosition) IsGiven
        (λ dims p. record {
          selectors = record { ranges = λ k f l. position-steps (get_or dims k f) (p k f l); positions = λ _. (refl, p) };
          numbers = h;
        }) (list_by (λ x. option_map select.Position (index_of x)) d) (list-given (λ x. option_map select.Position (index_of x)) IsPosition position-given d)
    told false e = map-given (λ dims. let step : Step = record { dims = dims; all = false; act = a } in step) (AllOf HasStep) IsGiven
        (λ dims p. record {
          selectors = record { ranges = p; positions = λ q. absurd (let z : true ≡ false = sym q ∙ e in cc) };
          numbers = h;
        }) (list_by selector_of d) (list-given selector_of HasStep selector-given d)

step-given : (d : Data) → ForSome (step_of_json d) IsGiven
step-given d = where-given IsGiven (names_step d) _ (λ _. told (act_of d) (act-given d))
  where
    told : (o : Option Act) → ForSome o HasIndices → ForSome (option_and_then (λ a. step_on a (get (codes "dims") d)) o) IsGiven
    told None h = λ y e. cc
    told (Some a) h = step_on-given a (h a refl) (get (codes "dims") d)

steps-given : (n : ℕ) (ds : List Data) (steps : List Step) → steps_from n ds ≡ Ok steps → (k : ℕ) (e : Step) → k < length steps → IsGiven (get_or steps k e)
steps-given n [] steps q k e l = let same : [] ≡ steps = cc in absurd (let z : length steps ≡ 0 = rw (← same) refl in omega (arith, l, z))
steps-given n (d ∷ ds) steps q k e l = told (step_of_json d) (step-given d) (steps_from (n + 1) ds) (steps-given (n + 1) ds) q
  where
    told : (o : Option Step) → ForSome o IsGiven → (r : Result (List Step) StepsError)
        → ((later : List Step) → r ≡ Ok later → (k : ℕ) (e : Step) → k < length later → IsGiven (get_or later k e))
        → ◌≡◌ {A = Result (List Step) StepsError} (elim o [ None ↦ Err (BadStep n) | Some step ↦ before step r ]) (Ok steps) → IsGiven (get_or steps k e)
    told None h r rest p = cc
    told (Some step) h (Err f) rest p = cc
    told (Some step) h (Ok later) rest p = let same : step ∷ later ≡ steps = cc in rw (← same) (at k (rw (← same) at l))
      where
        at : (k : ℕ) → k < length (step ∷ later) → IsGiven (get_or (step ∷ later) k e)
        at zero l = h step refl
        at (suc k) l = rest later refl k e (omega (arith, l))

-- each of the steps of a value
pub steps_of_json_given : (d : Data) (steps : List Step) → steps_of_json d ≡ Ok steps → (k : ℕ) (e : Step) → k < length steps → IsGiven (get_or steps k e)
steps_of_json_given d steps q = told (list_items d) q
  where
    told : (o : Option (List Data)) → ◌≡◌ {A = Result (List Step) StepsError} (elim o [ None ↦ Err (BadStep 0) | Some items ↦ steps_from 0 items ]) (Ok steps) → (k : ℕ) (e : Step) → k < length steps → IsGiven (get_or steps k e)
    told None p = λ k e l. cc
    told (Some items) p = steps-given 0 items steps p
