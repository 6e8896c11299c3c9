-- What the bytes of a line mean has texts of UTF-8, and makes of small views small ones, where what Specs ask is such.
use Rattle.std.proofs.Common.{◌≡◌, ℕ, ◌+◌, ◌<◌, ◌≤◌, ◌^◌, ◌==◌, Bool, true, false, cond, codes, Ordering, Less, Equal, Greater, nat_cmp, ℤ, List, [], ◌∷◌, ◌++◌, length, Option, Some, None, option_and_then, is_some, Result, Ok, Err, IsUtf8, refl, subst, arith}
use Rattle.std.specs.List.{AllByRecursion}
use Rattle.std.specs.Prelude.{replicate}
use Rattle.std.specs.Ordering.{match_ordering}
use Rattle.std.specs.Cmp.Lexicographic.{slice_cmp}
use Rattle.std.proofs.lemmas.Str.{IsUtf8-append, IsUtf8-nil}
use Rattle.json.proofs.Printed.Utf8.{IsUtf8-are_ascii, are_ascii}
use Rattle.serde_json.specs.Data.{Data}
use Rattle.serde_json.specs.Find.{get, as_str, as_object}
use Rattle.json_forms.specs.Bytes.{data_of}
use Rattle.json_forms.specs.Lists.{list_items}
use Rattle.json_forms.specs.Members.{least_unknown}
use Rattle.json_forms.specs.Numbers.{whole_number}
use Rattle.cells.specs.Numbers.{word_of}
use Rattle.cells.specs.Places.{cell_count}
use Rattle.cells.specs.declared.dtype.Dtype.{Dtype}
use Rattle.script_lines.specs.NestedWords.{Given, is_held, repeated, one_word, followed, from_items, sized, from_list, nested_words, single_or_nested, words_of}
use Rattle.index_transform.specs.Transforms.{DomainAndMaps}
use Rattle.transform_composition.specs.declared.error.ComposeError.{ComposeError}
use Rattle.transform_composition.specs.declared.error.ComposeError.TheVariants as compose
use Rattle.transform_json.specs.Transforms.{transform_of}
use Rattle.transform_json.specs.declared.error.JsonError.{JsonError}
use Rattle.transform_json.specs.declared.error.JsonError.TheVariants as json
use Rattle.step_forms.specs.Steps.{steps_of_json}
use Rattle.step_forms.specs.declared.act.Step.{Step}
use Rattle.step_forms.specs.declared.error.StepsError.{StepsError}
use Rattle.step_forms.specs.declared.error.StepsError.TheVariants as steps
use Rattle.dim_changes.specs.declared.cause.Cause.{Cause}
use Rattle.dim_changes.specs.declared.cause.Cause.TheVariants as cause
use Rattle.dim_expressions.specs.Applying.{applied}
use Rattle.dim_expressions.specs.declared.error.ApplyError.{ApplyError}
use Rattle.dim_expressions.specs.declared.error.ApplyError.TheVariants as apply
use Rattle.stack_driver.specs.Changes.{under, moved}
use Rattle.stack_driver.specs.Views.{own_transform}
use Rattle.stack_driver.specs.declared.view.View.{View}
use Rattle.line_forms.specs.declared.OpenPlan.{OpenPlan}
use Rattle.line_forms.specs.declared.SpecError.{SpecError}
use Rattle.line_forms.specs.Specs.{plan_of_spec}
use Rattle.line_forms.specs.Form.{Form, opening, viewing, joining, reading, writing, beginning, committing, aborting, resizing, resolving}
use Rattle.line_forms.specs.declared.command.JoinForm.{JoinForm}
use Rattle.line_forms.specs.Lines.{command_of_line, command_of_found, command_in, command_count, other_form, small_form}
use Rattle.line_forms.specs.Reads.{read_form, read_fault, read_members, half_fault, read_so, read_as, down_at, write_form, write_fault, written, written_as, written_by}
use Rattle.line_forms.specs.Small.{open_form, open_fault, opened, opened_as, plan_in, plan_read, begin_form, flag_members, flags_fault, flags_unless, flags_given, word_form, not_true, resize_form, resize_fault, resized, resized_as, shape_at, resolve_form, resolved}
use Rattle.line_forms.specs.Views.{view_form, of_form, view_fault, viewed, viewed_as, viewed_of, overlay_members, overlay_fault, axis_members, axis_fault, joined, join_in, join_as, join_by, join_of, overlay_form, concat_form, stack_form}
use Rattle.line_forms.specs.Parts.{◌>>=◌, has, needed, name_at, name_in, steps_read, steps_given, steps_in, earlier, no_name, unless_so, where_sound}
use Rattle.line_forms.specs.Within.{first_fault, within, behind, transform_fault, transform_in, transform_read, transform_given}
use Rattle.line_forms.specs.declared.LineError.{LineError}
use Rattle.line_forms.specs.declared.LineError.TheVariants as line
use Rattle.history.specs.Answers as answer
use Rattle.history.specs.Answers.{StepCause}
use Rattle.history.specs.Lines.{FormError, ChangeError, unknown_dim, repeated_dim, refused_step, refused_view}
use Rattle.transcript_laws.specs.Meanings.{line_of, line_in, line_of_bytes, refused_by}
use Rattle.transcript_laws.specs.Openings.{leaves_of, build_of}
use Rattle.transcript_laws.specs.Transcript.{mount}
use Rattle.output_laws.specs.Held.{IsHeld}
use Rattle.output_laws.specs.Small.{IsSmallStep, IsSmallCause, IsSmallApplied}
use Rattle.output_laws.specs.Parts.{IsSmallStepCause}
use Rattle.output_laws.specs.TextSpecs.{IsSmallRefused}
use Rattle.output_laws.proofs.HeldData.{May, get_held, str_held, AreItems, items_held, lesser_text, unknown_held}
use Rattle.output_laws.proofs.HeldSteps.{AreSmallSteps, steps_held}
use Rattle.output_laws.proofs.HeldTransforms.{IsTextFault, Reads, transform_reads}
use Rattle.output_laws.proofs.JsonData.{data_held}
use Rattle.output_laws.proofs.SmallLines.{IsSmallChangeError, IsSmallChanged, IsSmallBuild, IsSmallGiven, IsSmallLine}
use Rattle.output_laws.proofs.SmallMaps.{IsFurther}
use Rattle.output_laws.proofs.SmallSteps.{applied_small}
use Rattle.output_laws.proofs.SmallViews.{IsSmallView, IsMoved, moved_small, under_small}
use Rattle.output_laws.proofs.TextEvents.{IsTextLeaf}
use Rattle.output_laws.proofs.ViewRanks.{HasViewRank}

-- ---- what is asked of forms

pub record AreFewSteps (steps : List Step) : Type 0 where
  pub each : AllByRecursion IsSmallStep steps
  pub few : length steps < 2 ^ 64

-- a plan asks for arrays at texts of UTF-8, and builds small views
pub record IsSmallPlan (plan : OpenPlan) : Type 0 where
  pub leaves : AllByRecursion IsTextLeaf (leaves_of plan)
  pub built : IsSmallBuild (build_of plan)

-- a line that is none is refused by a text of UTF-8, or by a number of 64 bits
abbrev IsSmallError : LineError → Type 0
IsSmallError e = IsSmallRefused (line_in (Err e))

-- a plan, or why a Spec has none
abbrev pub IsSmallPlanned : Result OpenPlan SpecError → Type 0
IsSmallPlanned (Ok plan) = IsSmallPlan plan
IsSmallPlanned (Err e) = IsSmallRefused (line_in (Err (line.Spec e)))

-- so is each Spec
abbrev pub SpecsAreSmall : Type 0
SpecsAreSmall = (n : ℕ) (spec : Data) → IsHeld n spec → IsSmallPlanned (plan_of_spec (mount ∷ []) spec)

abbrev IsSmallForm : ℕ → Form → Type 0
IsSmallForm n (opening name plan) = IsUtf8 name × IsSmallPlan plan
IsSmallForm n (viewing name of transform steps) = IsUtf8 name × IsUtf8 of × May IsFurther transform × AreFewSteps steps
IsSmallForm n (joining name form layers transform steps) = Unit {0}
IsSmallForm n (reading name steps down) = IsUtf8 name × AreFewSteps steps
IsSmallForm n (writing name steps values) = IsUtf8 name × AreFewSteps steps × IsHeld n values
IsSmallForm n (beginning atomic repeatable_read) = Unit {0}
IsSmallForm n committing = Unit {0}
IsSmallForm n aborting = Unit {0}
IsSmallForm n (resizing name shape) = Unit {0}
IsSmallForm n (resolving name) = Unit {0}

-- ---- results

-- a part of a line, or a small cause why there is none
record Good {A : Type 0} (P : A → Type 0) (r : Result A LineError) : Type 0 where
  each : (a : A) → r ≡ Ok a → P a
  fault : (e : LineError) → r ≡ Err e → IsSmallError e

good : {A : Type 0} (P : A → Type 0) (a : A) → P a → Good P (Ok a)
good P a is = record { each = λ b e. let same : a ≡ b = cc in subst P same is; fault = λ x e. absurd (let no_such : ⊥ = cc in no_such) }

failed : {A : Type 0} (P : A → Type 0) (x : LineError) → IsSmallError x → Good P (Err x)
failed P x is = record { each = λ a e. absurd (let no_such : ⊥ = cc in no_such); fault = λ y e. let same : x ≡ y = cc in subst IsSmallError same is }

closed : (s : List ℕ) → are_ascii s ≡ true → IsUtf8 s
closed s is = IsUtf8-are_ascii s is

member_bad : {A : Type 0} (P : A → Type 0) (k : List ℕ) → IsUtf8 k → Good P (Err (line.Member k))
member_bad P k text = failed P (line.Member k) (IsUtf8-append (codes "member:") k (closed (codes "member:") refl) text)

then : {A B : Type 0} (P : A → Type 0) (Q : B → Type 0) (r : Result A LineError) (f : A → Result B LineError) → Good P r → ((a : A) → P a → Good Q (f a)) → Good Q (r >>= f)
then P Q (Ok a) f is each = each a (is.each a refl)
then P Q (Err e) f is each = failed Q e (is.fault e refl)

-- a text that there may be
record Text (o : Option (List ℕ)) : Type 0 where
  it : May IsUtf8 o

sound : {A : Type 0} (P : A → Type 0) (fault : Option (List ℕ)) (r : Result A LineError) → Text fault → Good P r → Good P (where_sound fault r)
sound P None r text is = is
sound P (Some k) r text is = member_bad P k text.it

-- a part, or a path of UTF-8
record Finds {A : Type 0} (P : A → Type 0) (r : Result A (List ℕ)) : Type 0 where
  each : (a : A) → r ≡ Ok a → P a
  path : (p : List ℕ) → r ≡ Err p → IsUtf8 p

found : {A : Type 0} (P : A → Type 0) (a : A) → P a → Finds P (Ok a)
found P a is = record { each = λ b e. let same : a ≡ b = cc in subst P same is; path = λ x e. absurd (let no_such : ⊥ = cc in no_such) }

lost : {A : Type 0} (P : A → Type 0) (path : List ℕ) → IsUtf8 path → Finds P (Err path)
lost P path is = record { each = λ a e. absurd (let no_such : ⊥ = cc in no_such); path = λ y e. let same : path ≡ y = cc in subst IsUtf8 same is }

first_text : (name : List ℕ) (others : Option (List ℕ)) (path : List ℕ) → Text others → IsUtf8 path → IsUtf8 (first_fault name others path)
first_text name None path text is = is
first_text name (Some k) path text is = go (slice_cmp nat_cmp k name)
  where
    go : (o : Ordering) → IsUtf8 (match_ordering o k path path)
    go Less = text.it
    go Equal = is
    go Greater = is

inside : {A B : Type 0} (P : A → Type 0) (Q : B → Type 0) (name : List ℕ) (others : Option (List ℕ)) (r : Result A (List ℕ)) (f : A → Result B LineError) → Text others → Finds P r → ((a : A) → P a → Good Q (f a)) → Good Q (within name others r f)
inside P Q name others (Ok a) f text is each = sound Q others (f a) text (each a (is.each a refl))
inside P Q name others (Err path) f text is each = member_bad Q (first_fault name others path) (first_text name others path text (is.path path refl))

either : {A : Type 0} (P : A → Type 0) (test : Bool) (x y : Result A LineError) → Good P x → Good P y → Good P (cond test x y)
either P true x y one other = one
either P false x y one other = other

needs : {A : Type 0} (P : A → Type 0) (k : List ℕ) (o : Option A) → IsUtf8 k → May P o → Good P (needed k o)
needs P k None text may = member_bad P k text
needs P k (Some a) text may = good P a may

-- ---- members at fault

unless : (test : Bool) (k : List ℕ) → IsUtf8 k → Text (unless_so test k)
unless true k text = record { it = tt }
unless false k text = record { it = text }

least : (one other : Option (List ℕ)) → Text one → Text other → Text (earlier one other)
least None other text more = more
least (Some k) other text more = record { it = lesser_text k other text.it more.it }

chosen : {A : Type 0} (P : A → Type 0) (f : A → Option (List ℕ)) (o : Option A) → May P o → ((x : A) → P x → Text (f x)) → Text (option_and_then f o)
chosen P f None may each = record { it = tt }
chosen P f (Some x) may each = each x may

kept : (test : Bool) (s : List ℕ) → IsUtf8 s → Text (cond test (Some s) None)
kept true s text = record { it = text }
kept false s text = record { it = tt }

abbrev any : {A : Type 0} → A → Type 0
any a = Unit {0}

may_any : {A : Type 0} (o : Option A) → May any o
may_any None = tt
may_any (Some a) = tt

module _ (n : ℕ) (fits : n < 2 ^ 64) where
  unknown : (known : List (List ℕ)) (d : Data) → IsHeld n d → Text (least_unknown known d)
  unknown known d held = record { it = unknown_held n known d held }

  named : (k : List ℕ) (d : Data) → IsHeld n d → Text (name_at k d)
  named k d held = chosen (IsHeld n) _ (get k d) (get_held n k d held) (λ x h. chosen IsUtf8 _ (as_str x) (str_held n x h) (λ s text. kept _ s text))

  name_good : (k : List ℕ) (d : Data) → IsUtf8 k → IsHeld n d → Good IsUtf8 (name_in k d)
  name_good k d text held = needs IsUtf8 k (name_at k d) text (named k d held).it

  steps_good : (d : Data) → IsHeld n d → Good AreFewSteps (steps_in d)
  unfolding steps_in
  steps_good d held = go (get (codes "steps") d) (get_held n (codes "steps") d held)
    where
      read : (r : Result (List Step) StepsError) → AreSmallSteps n fits r → Good AreFewSteps (steps_read r)
      read (Ok ss) are = good AreFewSteps ss (record { each = are.0; few = are.1 })
      read (Err (steps.BadStep number)) are = failed AreFewSteps _ are
      read (Err steps.Memory) are = failed AreFewSteps _ IsUtf8-nil

      go : (o : Option Data) → May (IsHeld n) o → Good AreFewSteps (steps_given o)
      go None may = good AreFewSteps [] (record { each = tt; few = omega arith })
      go (Some v) may = read (steps_of_json v) (steps_held n fits v may)

  behind_text : (name : List ℕ) (d : Data) (path : List ℕ) → IsUtf8 name → IsUtf8 path → IsUtf8 (behind name d path)
  behind_text name d path one two = go (is_some (as_object d))
    where
      go : (t : Bool) → IsUtf8 (cond t (name ++ 47 ∷ path) name)
      go true = IsUtf8-append name (47 ∷ path) one (IsUtf8-append (47 ∷ []) path (closed (47 ∷ []) refl) two)
      go false = one

  transform_finds : (d : Data) → IsHeld n d → Finds (May IsFurther) (transform_in d)
  unfolding transform_in
  transform_finds d held = go (get (codes "transform") d) (get_held n (codes "transform") d held)
    where
      fault_text : (v : Data) (e : JsonError) → IsTextFault e → IsUtf8 (transform_fault v e)
      fault_text v (json.BadMember path) text = behind_text (codes "transform") v path (closed (codes "transform") refl) text
      fault_text v json.Memory text = closed (codes "transform") refl

      read : (v : Data) (r : Result DomainAndMaps JsonError) → Reads IsFurther r → Finds (May IsFurther) (transform_read v r)
      read v (Ok t) is = found (May IsFurther) (Some t) (is.each t refl)
      read v (Err e) is = lost (May IsFurther) (transform_fault v e) (fault_text v e (is.fault e refl))

      go : (o : Option Data) → May (IsHeld n) o → Finds (May IsFurther) (transform_given o)
      go None may = found (May IsFurther) None tt
      go (Some v) may = read v (transform_of v) (transform_reads n v may)

  -- ---- forms

  module _ (names : List (List ℕ)) (specs : (spec : Data) → IsHeld n spec → IsSmallPlanned (plan_of_spec names spec)) where
    plan_good : (d : Data) → IsHeld n d → Good IsSmallPlan (plan_in names d)
    unfolding plan_in
    plan_good d held =
        then (IsHeld n) IsSmallPlan (needed (codes "spec") (get (codes "spec") d)) (λ spec. plan_read (plan_of_spec names spec)) (needs (IsHeld n) (codes "spec") (get (codes "spec") d) (closed (codes "spec") refl) (get_held n (codes "spec") d held))
        (λ spec h. read (plan_of_spec names spec) (specs spec h))
      where
        read : (r : Result OpenPlan SpecError) → IsSmallPlanned r → Good IsSmallPlan (plan_read r)
        read (Ok plan) is = good IsSmallPlan plan is
        read (Err e) is = failed IsSmallPlan _ is

    open_good : (d : Data) → IsHeld n d → Good (IsSmallForm n) (open_form names d)
    unfolding open_form
    open_good d held =
        sound (IsSmallForm n) (open_fault d) (opened names d)
        (least _ _ (unknown (codes "open" ∷ codes "spec" ∷ []) d held) (least _ _ (unless _ (codes "open") (closed (codes "open") refl)) (unless _ (codes "spec") (closed (codes "spec") refl))))
        (then IsUtf8 (IsSmallForm n) (name_in (codes "open") d) (opened_as names d) (name_good (codes "open") d (closed (codes "open") refl) held)
        (λ name text. then IsSmallPlan (IsSmallForm n) (plan_in names d) (λ plan. Ok (opening name plan)) (plan_good d held) (λ plan is. good (IsSmallForm n) (opening name plan) (text, is))))

  half : (k other : List ℕ) (so : Bool) (d : Data) → IsUtf8 k → Text (half_fault k other so d)
  half k other so d text = unless _ k text

  read_good : (d : Data) → IsHeld n d → Good (IsSmallForm n) (read_form d)
  unfolding read_form
  read_good d held =
      sound (IsSmallForm n) (read_fault d) (read_so (down_at d) d)
      (least _ _ (unknown read_members d held)
      (least _ _ (unless _ (codes "downsample_factors") (closed (codes "downsample_factors") refl))
      (least _ _ (unless _ (codes "downsample_method") (closed (codes "downsample_method") refl)) (unless _ (codes "read") (closed (codes "read") refl)))))
      (then IsUtf8 (IsSmallForm n) (name_in (codes "read") d) (read_as (down_at d) d) (name_good (codes "read") d (closed (codes "read") refl) held)
      (λ name text. then AreFewSteps (IsSmallForm n) (steps_in d) (λ steps. Ok (reading name steps (down_at d))) (steps_good d held) (λ steps are. good (IsSmallForm n) (reading name steps (down_at d)) (text, are))))

  write_good : (d : Data) → IsHeld n d → Good (IsSmallForm n) (write_form d)
  unfolding write_form
  write_good d held =
      sound (IsSmallForm n) (write_fault d) (written d)
      (least _ _ (unknown (codes "steps" ∷ codes "values" ∷ codes "write" ∷ []) d held) (least _ _ (unless _ (codes "values") (closed (codes "values") refl)) (unless _ (codes "write") (closed (codes "write") refl))))
      (then IsUtf8 (IsSmallForm n) (name_in (codes "write") d) (written_as d) (name_good (codes "write") d (closed (codes "write") refl) held)
      (λ name text. then AreFewSteps (IsSmallForm n) (steps_in d) (written_by d name) (steps_good d held)
      (λ steps are. then (IsHeld n) (IsSmallForm n) (needed (codes "values") (get (codes "values") d)) (λ values. Ok (writing name steps values))
      (needs (IsHeld n) (codes "values") (get (codes "values") d) (closed (codes "values") refl) (get_held n (codes "values") d held)) (λ values h. good (IsSmallForm n) (writing name steps values) (text, are, h)))))

  of_good : (d : Data) → IsHeld n d → Good (IsSmallForm n) (of_form d)
  unfolding of_form
  of_good d held =
      inside (May IsFurther) (IsSmallForm n) (codes "transform") (view_fault d) (transform_in d) (viewed d)
      (least _ _ (unknown (codes "of" ∷ codes "steps" ∷ codes "transform" ∷ codes "view" ∷ []) d held) (least _ _ (unless _ (codes "of") (closed (codes "of") refl)) (unless _ (codes "view") (closed (codes "view") refl))))
      (transform_finds d held)
      (λ transform is. then IsUtf8 (IsSmallForm n) (name_in (codes "view") d) (viewed_as transform d) (name_good (codes "view") d (closed (codes "view") refl) held)
      (λ name text. then IsUtf8 (IsSmallForm n) (name_in (codes "of") d) (viewed_of transform d name) (name_good (codes "of") d (closed (codes "of") refl) held)
      (λ of also. then AreFewSteps (IsSmallForm n) (steps_in d) (λ steps. Ok (viewing name of transform steps)) (steps_good d held) (λ steps are. good (IsSmallForm n) (viewing name of transform steps) (text, also, is, are)))))

  joined_good : (k : List ℕ) (fault : Option (List ℕ)) (form : Option JoinForm) (layers : Option (List (List ℕ))) (d : Data) → IsUtf8 k → Text fault → IsHeld n d → Good (IsSmallForm n) (joined k fault form layers d)
  unfolding joined
  joined_good k fault form layers d k_is fault_is held =
      inside (May IsFurther) (IsSmallForm n) (codes "transform") fault (transform_in d) (join_in k form layers d) fault_is (transform_finds d held)
      (λ transform is. then IsUtf8 (IsSmallForm n) (name_in (codes "view") d) (join_as k form layers d transform) (name_good (codes "view") d (closed (codes "view") refl) held)
      (λ name text. then any (IsSmallForm n) (needed (codes "axis") form) (join_by k layers d transform name) (needs any (codes "axis") form (closed (codes "axis") refl) (may_any form))
      (λ kind one. then any (IsSmallForm n) (needed k layers) (join_of d transform name kind) (needs any k layers k_is (may_any layers))
      (λ names two. then AreFewSteps (IsSmallForm n) (steps_in d) (λ steps. Ok (joining name kind names transform steps)) (steps_good d held) (λ steps are. good (IsSmallForm n) (joining name kind names transform steps) tt)))))

  over_text : (t : Bool) (d : Data) → IsHeld n d → Text (overlay_fault t d)
  unfolding overlay_fault
  over_text t d held = least _ _ (unknown overlay_members d held) (least _ _ (unless t (codes "overlay") (closed (codes "overlay") refl)) (unless _ (codes "view") (closed (codes "view") refl)))

  axis_text : (k : List ℕ) (s t : Bool) (d : Data) → IsUtf8 k → IsHeld n d → Text (axis_fault k s t d)
  unfolding axis_fault
  axis_text k s t d text held =
      least _ _ (unknown (axis_members k) d held) (least _ _ (unless s (codes "axis") (closed (codes "axis") refl)) (least _ _ (unless t k text) (unless _ (codes "view") (closed (codes "view") refl))))

  overlay_good : (d : Data) → IsHeld n d → Good (IsSmallForm n) (overlay_form d)
  unfolding overlay_form
  overlay_good d held = joined_good _ _ _ _ d (closed (codes "overlay") refl) (over_text _ d held) held

  concat_good : (d : Data) → IsHeld n d → Good (IsSmallForm n) (concat_form d)
  unfolding concat_form
  concat_good d held = joined_good _ _ _ _ d (closed (codes "concat") refl) (axis_text (codes "concat") _ _ d (closed (codes "concat") refl) held) held

  stack_good : (d : Data) → IsHeld n d → Good (IsSmallForm n) (stack_form d)
  unfolding stack_form
  stack_good d held = joined_good _ _ _ _ d (closed (codes "stack") refl) (axis_text (codes "stack") _ _ d (closed (codes "stack") refl) held) held

  view_good : (d : Data) → IsHeld n d → Good (IsSmallForm n) (view_form d)
  unfolding view_form
  view_good d held =
      either (IsSmallForm n) (has (codes "concat") d) _ _ (concat_good d held)
      (either (IsSmallForm n) (has (codes "of") d) _ _ (of_good d held)
      (either (IsSmallForm n) (has (codes "overlay") d) _ _ (overlay_good d held)
      (either (IsSmallForm n) (has (codes "stack") d) _ _ (stack_good d held) (of_good d held))))

  flags_find : (o : Option Data) → May (IsHeld n) o → Finds any (flags_given o)
  flags_find None may = lost any (codes "begin") (closed (codes "begin") refl)
  flags_find (Some d) may = by (is_some (as_object d))
    where
      fault_text : Text (flags_fault d)
      fault_text = least _ _ (unknown flag_members d may) (least _ _ (unless _ (codes "atomic") (closed (codes "atomic") refl)) (unless _ (codes "repeatable_read") (closed (codes "repeatable_read") refl)))

      so : (o : Option (List ℕ)) → Text o → Finds any (flags_unless o d)
      so None text = found any _ tt
      so (Some k) text = lost any (codes "begin/" ++ k) (IsUtf8-append (codes "begin/") k (closed (codes "begin/") refl) text.it)

      by : (t : Bool) → Finds any (cond t (flags_unless (flags_fault d) d) (Err (codes "begin")))
      by true = so (flags_fault d) fault_text
      by false = lost any (codes "begin") (closed (codes "begin") refl)

  begin_good : (d : Data) → IsHeld n d → Good (IsSmallForm n) (begin_form d)
  unfolding begin_form
  begin_good d held =
      inside any (IsSmallForm n) (codes "begin") (least_unknown (codes "begin" ∷ []) d) (flags_given (get (codes "begin") d)) (λ flags. Ok (beginning flags.0 flags.1)) (unknown (codes "begin" ∷ []) d held)
      (flags_find (get (codes "begin") d) (get_held n (codes "begin") d held)) (λ flags is. good (IsSmallForm n) (beginning flags.0 flags.1) tt)

  word_good : (k : List ℕ) (form : Form) (d : Data) → IsUtf8 k → IsHeld n d → IsSmallForm n form → Good (IsSmallForm n) (word_form k form d)
  unfolding word_form
  word_good k form d text held is = sound (IsSmallForm n) (earlier (least_unknown (k ∷ []) d) (not_true k d)) (Ok form) (least _ _ (unknown (k ∷ []) d held) (unless _ k text)) (good (IsSmallForm n) form is)

  resize_good : (d : Data) → IsHeld n d → Good (IsSmallForm n) (resize_form d)
  unfolding resize_form
  resize_good d held =
      sound (IsSmallForm n) (resize_fault d) (resized (shape_at d) d)
      (least _ _ (unknown (codes "resize" ∷ codes "shape" ∷ []) d held) (least _ _ (unless _ (codes "resize") (closed (codes "resize") refl)) (unless _ (codes "shape") (closed (codes "shape") refl))))
      (then IsUtf8 (IsSmallForm n) (name_in (codes "resize") d) (resized_as (shape_at d)) (name_good (codes "resize") d (closed (codes "resize") refl) held)
      (λ name text. then any (IsSmallForm n) (needed (codes "shape") (shape_at d)) (λ sizes. Ok (resizing name sizes)) (needs any (codes "shape") (shape_at d) (closed (codes "shape") refl) (may_any (shape_at d))) (λ sizes one. good (IsSmallForm n) (resizing name sizes) tt)))

  resolve_good : (d : Data) → IsHeld n d → Good (IsSmallForm n) (resolve_form d)
  unfolding resolve_form
  resolve_good d held =
      sound (IsSmallForm n) (earlier (least_unknown (codes "resolve" ∷ []) d) (no_name (codes "resolve") d)) (resolved d)
      (least _ _ (unknown (codes "resolve" ∷ []) d held) (unless _ (codes "resolve") (closed (codes "resolve") refl)))
      (then IsUtf8 (IsSmallForm n) (name_in (codes "resolve") d) (λ name. Ok (resolving name)) (name_good (codes "resolve") d (closed (codes "resolve") refl) held) (λ name text. good (IsSmallForm n) (resolving name) tt))

  small_good : (d : Data) → IsHeld n d → Good (IsSmallForm n) (small_form d)
  unfolding small_form
  small_good d held =
      either (IsSmallForm n) (has (codes "begin") d) _ _ (begin_good d held)
      (either (IsSmallForm n) (has (codes "commit") d) _ _ (word_good (codes "commit") committing d (closed (codes "commit") refl) held tt)
      (either (IsSmallForm n) (has (codes "abort") d) _ _ (word_good (codes "abort") aborting d (closed (codes "abort") refl) held tt)
      (either (IsSmallForm n) (has (codes "resize") d) _ _ (resize_good d held) (resolve_good d held))))

  other_good : (d : Data) → IsHeld n d → Good (IsSmallForm n) (other_form d)
  unfolding other_form
  other_good d held =
      either (IsSmallForm n) (has (codes "view") d) _ _ (view_good d held)
      (either (IsSmallForm n) (has (codes "read") d) _ _ (read_good d held)
      (either (IsSmallForm n) (has (codes "write") d) _ _ (write_good d held) (small_good d held)))

  in_good : (names : List (List ℕ)) → ((spec : Data) → IsHeld n spec → IsSmallPlanned (plan_of_spec names spec)) → (d : Data) → IsHeld n d → Good (IsSmallForm n) (command_in names d)
  unfolding command_in
  in_good names specs d held = either (IsSmallForm n) (has (codes "open") d) _ _ (open_good names specs d held) (other_good d held)

  found_good : (names : List (List ℕ)) → ((spec : Data) → IsHeld n spec → IsSmallPlanned (plan_of_spec names spec)) → (o : Option Data) → May (IsHeld n) o → Good (IsSmallForm n) (command_of_found names o)
  found_good names specs None may = failed (IsSmallForm n) _ (closed (codes "json") refl)
  found_good names specs (Some d) may = either (IsSmallForm n) (command_count d == 1) (command_in names d) _ (in_good names specs d may) (failed (IsSmallForm n) _ (closed (codes "command") refl))

  -- ---- values

  repeated_small : (dtype : Dtype) (count : ℕ) (number : ℤ) → IsSmallGiven (repeated dtype count number)
  repeated_small dtype count number = go (is_held dtype number)
    where
      go : (t : Bool) → IsSmallGiven (cond t (Ok (replicate count (word_of number))) (Err []))
      go true = tt
      go false = tt

  one_small : (dtype : Dtype) (o : Option ℤ) → IsSmallGiven (one_word dtype o)
  one_small dtype None = tt
  one_small dtype (Some number) = repeated_small dtype 1 number

  followed_small : (k : ℕ) (r rest : Given) → k < 2 ^ 64 → IsSmallGiven r → IsSmallGiven rest → IsSmallGiven (followed k r rest)
  followed_small k (Err path) rest low one more = (low, one)
  followed_small k (Ok words) (Err path) low one more = more
  followed_small k (Ok words) (Ok others) low one more = tt

  items_small : (f : Data → Given) → ((d : Data) → IsHeld n d → IsSmallGiven (f d)) → (k : ℕ) (ds : List Data) → k + length ds ≤ n → AllByRecursion (IsHeld n) ds → IsSmallGiven (from_items f k ds)
  items_small f each k [] low all = tt
  items_small f each k (d ∷ ds) low all = followed_small k (f d) (from_items f (k + 1) ds) (omega (arith, low, fits)) (each d all.0) (items_small f each (k + 1) ds (omega (arith, low)) all.1)

  nested_small : (dtype : Dtype) (shape : List ℕ) (d : Data) → IsHeld n d → IsSmallGiven (nested_words dtype shape d)
  nested_small dtype [] d held = one_small dtype (whole_number d)
  nested_small dtype (size ∷ shape) d held = go (λ x h. nested_small dtype shape x h) (list_items d) (items_held n d held)
    where
      by : ((x : Data) → IsHeld n x → IsSmallGiven (nested_words dtype shape x)) → (ds : List Data) → AreItems n ds → (t : Bool) → IsSmallGiven (from_list (nested_words dtype shape) (cond t (Some ds) None))
      by each ds are true = let few = are.few in items_small (nested_words dtype shape) each 0 ds (omega (arith, few)) are.each
      by each ds are false = tt

      go : ((x : Data) → IsHeld n x → IsSmallGiven (nested_words dtype shape x)) → (o : Option (List Data)) → May (AreItems n) o → IsSmallGiven (from_list (nested_words dtype shape) (sized size o))
      go each None may = tt
      go each (Some ds) may = by each ds may (length ds == size)

  values_small : (dtype : Dtype) (shape : List ℕ) (d : Data) → IsHeld n d → IsSmallGiven (words_of dtype shape d)
  values_small dtype shape d held = go (whole_number d)
    where
      go : (o : Option ℤ) → IsSmallGiven (single_or_nested dtype shape d o)
      go (Some number) = repeated_small dtype (cell_count shape) number
      go None = nested_small dtype shape d held

-- ---- changes

-- the same as lines say
abbrev cause_in : Cause → StepCause
cause_in cause.Count = answer.count
cause_in cause.Rank = answer.rank
cause_in cause.Target = answer.target
cause_in cause.Label = answer.label
cause_in cause.ZeroStep = answer.zero_step
cause_in cause.Unbounded = answer.unbounded_step
cause_in cause.BadOrder = answer.bad_order
cause_in (cause.OutOfRange lo hi) = answer.out_of_bounds lo hi
cause_in cause.IndexDim = answer.index_dim
cause_in cause.Overflow = answer.step_overflow
cause_in cause.TooLarge = answer.too_large

abbrev error_in : ApplyError → ChangeError
error_in (apply.UnknownDim number) = unknown_dim number
error_in (apply.RepeatedDim number) = repeated_dim number
error_in (apply.Refused number cause) = refused_step number (cause_in cause)
error_in apply.Memory = refused_view compose.Memory

abbrev under_in : View → Result DomainAndMaps ApplyError → Result View ChangeError
under_in view (Ok t) = Ok (under t view)
under_in view (Err e) = Err (error_in e)

abbrev view_in : Result View ComposeError → Result View ChangeError
view_in (Ok view) = Ok view
view_in (Err cause) = Err (refused_view cause)

cause_small : (c : Cause) → IsSmallCause c → IsSmallStepCause (cause_in c)
cause_small cause.Count is = tt
cause_small cause.Rank is = tt
cause_small cause.Target is = tt
cause_small cause.Label is = tt
cause_small cause.ZeroStep is = tt
cause_small cause.Unbounded is = tt
cause_small cause.BadOrder is = tt
cause_small (cause.OutOfRange lo hi) is = is
cause_small cause.IndexDim is = tt
cause_small cause.Overflow is = tt
cause_small cause.TooLarge is = tt

error_small : (most : ℕ) (e : ApplyError) → most < 2 ^ 64 → IsSmallApplied most (Err e) → IsSmallChangeError (error_in e)
error_small most (apply.UnknownDim number) few is = omega (arith, few, is)
error_small most (apply.RepeatedDim number) few is = omega (arith, few, is)
error_small most (apply.Refused number cause) few is = let low = is.0 in (omega (arith, few, low), cause_small cause is.1)
error_small most apply.Memory few is = tt

stepped_small : (steps : List Step) → AreFewSteps steps → (v : View) → HasViewRank v → IsSmallView v → IsSmallChanged (under_in v (applied (own_transform v) steps))
stepped_small steps are v has is = go (applied (own_transform v) steps) (applied_small (own_transform v) steps has is.own are.each)
  where
    go : (r : Result DomainAndMaps ApplyError) → IsSmallApplied (length steps) r → IsSmallChanged (under_in v r)
    go (Ok t) small = under_small t v small is
    go (Err e) small = error_small (length steps) e are.few small

turned_small : (t : DomainAndMaps) → IsFurther t → (v : View) → HasViewRank v → IsSmallView v → IsSmallChanged (view_in (moved v t))
turned_small t further v has is = go (moved v t) (moved_small v t is further)
  where
    go : (r : Result View ComposeError) → IsMoved r → IsSmallChanged (view_in r)
    go (Ok w) small = small
    go (Err e) small = small

line_small : (n : ℕ) → n < 2 ^ 64 → (f : Form) → IsSmallForm n f → IsSmallLine (line_of f)
line_small n fits (opening name plan) is = (is.0, is.1.leaves, is.1.built)
line_small n fits (viewing name of None []) is = (is.0, is.1, tt)
line_small n fits (viewing name of None (s ∷ steps)) is = (is.0, is.1, (stepped_small (s ∷ steps) is.3, tt))
line_small n fits (viewing name of (Some t) []) is = (is.0, is.1, (turned_small t is.2, tt))
line_small n fits (viewing name of (Some t) (s ∷ steps)) is = (is.0, is.1, (turned_small t is.2, (stepped_small (s ∷ steps) is.3, tt)))
line_small n fits (joining name kind layers transform steps) is = tt
line_small n fits (reading name [] down) is = (is.0, tt)
line_small n fits (reading name (s ∷ steps) down) is = (is.0, (stepped_small (s ∷ steps) is.1, tt))
line_small n fits (writing name [] values) is = (is.0, tt, λ dtype shape. values_small n fits dtype shape values is.2)
line_small n fits (writing name (s ∷ steps) values) is = (is.0, (stepped_small (s ∷ steps) is.1, tt), λ dtype shape. values_small n fits dtype shape values is.2)
line_small n fits (beginning atomic repeatable_read) is = tt
line_small n fits committing is = tt
line_small n fits aborting is = tt
line_small n fits (resizing name shape) is = tt
line_small n fits (resolving name) is = tt

refused_small : (o : Option FormError) → IsSmallRefused (refused_by o) → IsSmallLine (refused_by o)
refused_small None is = is
refused_small (Some fault) is = is

-- what the bytes of a line mean
pub bytes_small : SpecsAreSmall → (bytes : List ℕ) → length bytes < 2 ^ 64 → IsSmallLine (line_of_bytes (mount ∷ []) bytes)
bytes_small specs bytes fits = by (command_of_line (mount ∷ []) bytes) (found_good (length bytes) fits (mount ∷ []) (λ spec h. specs (length bytes) spec h) (data_of bytes) (of (data_of bytes) (data_held bytes)))
  where
    of : (o : Option Data) → ((d : Data) → o ≡ Some d → IsHeld (length bytes) d) → May (IsHeld (length bytes)) o
    of None each = tt
    of (Some d) each = each d refl

    by : (r : Result Form LineError) → Good (IsSmallForm (length bytes)) r → IsSmallLine (line_in r)
    by (Ok f) is = line_small (length bytes) fits f (is.each f refl)
    by (Err e) is = refused_small _ (is.fault e refl)
