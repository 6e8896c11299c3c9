-- The Spec that a line opens keeps the rules of Specs; so each line that has a form is on the one mount, and brings in no array.
use Rattle.std.proofs.Common.{◌≡◌, ℕ, List, [], ◌∷◌, Option, Some, None, Result, Ok, Err, refl, ap}
use Rattle.std.specs.Prelude.{codes, ◌==◌}
use Rattle.serde_json.specs.Data.{Data}
use Rattle.serde_json.specs.Find.{get}
use Rattle.json_forms.specs.Bytes.{data_of}
use Rattle.json_forms.specs.Members.{least_unknown}
use Rattle.line_forms.specs.declared.SpecError.{SpecError}
use Rattle.line_forms.specs.Specs.{plan_of_spec}
use Rattle.line_forms.specs.declared.OpenPlan.{OpenPlan}
use Rattle.line_forms.proofs.Laws.{plan_sound}
use Rattle.line_forms.specs.Form as forms
use Rattle.line_answers.specs.Alone.{IsLineOn}
use Rattle.line_answers.specs.Bound.{IsLineWithin}
use Rattle.line_forms.specs.Form.{Form, opening, viewing, joining, reading, writing, beginning, committing, aborting, resizing, resolving}
use Rattle.line_forms.specs.declared.command.Command.TheVariants.{Open}
use Rattle.line_forms.specs.declared.command.JoinForm.{JoinForm}
use Rattle.line_forms.specs.Lines.{command_of_line, command_of_found, command_in, command_count, other_form, small_form}
use Rattle.line_forms.specs.Reads.{read_form, read_fault, read_so, read_as, down_at, write_form, write_fault, written, written_as, written_by}
use Rattle.line_forms.specs.Small.{open_form, open_fault, opened, opened_as, plan_in, plan_read, begin_form, flags_given, word_form, not_true, resize_form, resize_fault, resized, resized_as, shape_at, resolve_form, resolved}
use Rattle.line_forms.specs.Views.{view_form, of_form, view_fault, viewed, viewed_as, viewed_of, joined, join_in, join_as, join_by, join_of, overlay_form, concat_form, stack_form}
use Rattle.line_forms.specs.Parts.{◌>>=◌, has, needed, name_in, steps_in, earlier, no_name}
use Rattle.line_forms.specs.Within.{transform_in}
use Rattle.line_forms.specs.declared.LineError.{LineError}
use Rattle.line_answers.specs.Refusals.{form_error}
use Rattle.line_meanings.specs.Meanings.{line_of, line_in, line_of_bytes, refused_by}
use Rattle.line_meanings.proofs.Sound.{line_on, line_within}
use Rattle.line_meanings.proofs.KnownUnder.{changes_within}
use Rattle.line_meanings.proofs.KnownJoined.{join_within}
use Rattle.line_meanings.proofs.Given.{Gives, one, nothing, then, sound, inside, either}

-- a form that opens a Spec opens a sound one
abbrev pub OpensSound : List (List ℕ) → Form → Type 0
OpensSound names (opening name plan) = forms.IsSound names (Open name plan)
OpensSound names (viewing name of transform steps) = Unit {0}
OpensSound names (joining name kind layers transform steps) = Unit {0}
OpensSound names (reading name steps down) = Unit {0}
OpensSound names (writing name steps values) = Unit {0}
OpensSound names (beginning atomic repeatable_read) = Unit {0}
OpensSound names committing = Unit {0}
OpensSound names aborting = Unit {0}
OpensSound names (resizing name shape) = Unit {0}
OpensSound names (resolving name) = Unit {0}

module _ (mount : List ℕ) where
  abbrev Good : Result Form LineError → Type 0
  Good = Gives (OpensSound (mount ∷ []))

  plan_from : (r : Result OpenPlan SpecError) (plan : OpenPlan) → plan_read r ≡ Ok plan → r ≡ Ok plan
  plan_from (Ok p) plan is = let same : p ≡ plan = cc in ap (λ q. Ok q) same
  plan_from (Err e) plan is = absurd (let no_such : ⊥ = cc in no_such)

  planned : (spec : Option Data) (plan : OpenPlan) → (needed (codes "spec") spec >>= (λ s. plan_read (plan_of_spec (mount ∷ []) s))) ≡ Ok plan → (s : Data) × (plan_of_spec (mount ∷ []) s ≡ Ok plan)
  planned None plan is = absurd (let no_such : ⊥ = cc in no_such)
  planned (Some s) plan is = (s, plan_from (plan_of_spec (mount ∷ []) s) plan is)

  opens : (d : Data) (name : List ℕ) (plan : OpenPlan) → plan_in (mount ∷ []) d ≡ Ok plan → OpensSound (mount ∷ []) (opening name plan)
  unfolding plan_in
  opens d name plan is =
      let spec = planned (get (codes "spec") d) plan is in
      plan_sound (mount ∷ []) spec.0 plan spec.1

  open_good : (d : Data) → Good (open_form (mount ∷ []) d)
  unfolding open_form
  open_good d =
      sound (OpensSound (mount ∷ [])) (open_fault d) (opened (mount ∷ []) d)
      (then (OpensSound (mount ∷ [])) (name_in (codes "open") d) (opened_as (mount ∷ []) d)
      (λ name is. then (OpensSound (mount ∷ [])) (plan_in (mount ∷ []) d) (λ plan. Ok (opening name plan)) (λ plan are. one (OpensSound (mount ∷ [])) (opening name plan) (opens d name plan are))))

  read_good : (d : Data) → Good (read_form d)
  unfolding read_form
  read_good d =
      sound (OpensSound (mount ∷ [])) (read_fault d) (read_so (down_at d) d)
      (then (OpensSound (mount ∷ [])) (name_in (codes "read") d) (read_as (down_at d) d)
      (λ name is. then (OpensSound (mount ∷ [])) (steps_in d) (λ steps. Ok (reading name steps (down_at d))) (λ steps are. one (OpensSound (mount ∷ [])) (reading name steps (down_at d)) tt)))

  write_good : (d : Data) → Good (write_form d)
  unfolding write_form
  write_good d =
      sound (OpensSound (mount ∷ [])) (write_fault d) (written d)
      (then (OpensSound (mount ∷ [])) (name_in (codes "write") d) (written_as d)
      (λ name is. then (OpensSound (mount ∷ [])) (steps_in d) (written_by d name)
      (λ steps are. then (OpensSound (mount ∷ [])) (needed (codes "values") (get (codes "values") d)) (λ values. Ok (writing name steps values))
      (λ values so. one (OpensSound (mount ∷ [])) (writing name steps values) tt))))

  of_good : (d : Data) → Good (of_form d)
  unfolding of_form
  of_good d =
      inside (OpensSound (mount ∷ [])) (codes "transform") (view_fault d) (transform_in d) (viewed d)
      (λ transform. then (OpensSound (mount ∷ [])) (name_in (codes "view") d) (viewed_as transform d)
      (λ name is. then (OpensSound (mount ∷ [])) (name_in (codes "of") d) (viewed_of transform d name)
      (λ of are. then (OpensSound (mount ∷ [])) (steps_in d) (λ steps. Ok (viewing name of transform steps))
      (λ steps so. one (OpensSound (mount ∷ [])) (viewing name of transform steps) tt))))

  joined_good : (k : List ℕ) (fault : Option (List ℕ)) (form : Option JoinForm) (layers : Option (List (List ℕ))) (d : Data) → Good (joined k fault form layers d)
  unfolding joined
  joined_good k fault form layers d =
      inside (OpensSound (mount ∷ [])) (codes "transform") fault (transform_in d) (join_in k form layers d)
      (λ transform. then (OpensSound (mount ∷ [])) (name_in (codes "view") d) (join_as k form layers d transform)
      (λ name is. then (OpensSound (mount ∷ [])) (needed (codes "axis") form) (join_by k layers d transform name)
      (λ kind are. then (OpensSound (mount ∷ [])) (needed k layers) (join_of d transform name kind)
      (λ names so. then (OpensSound (mount ∷ [])) (steps_in d) (λ steps. Ok (joining name kind names transform steps))
      (λ steps all. one (OpensSound (mount ∷ [])) (joining name kind names transform steps) tt)))))

  overlay_good : (d : Data) → Good (overlay_form d)
  unfolding overlay_form
  overlay_good d = joined_good _ _ _ _ d

  concat_good : (d : Data) → Good (concat_form d)
  unfolding concat_form
  concat_good d = joined_good _ _ _ _ d

  stack_good : (d : Data) → Good (stack_form d)
  unfolding stack_form
  stack_good d = joined_good _ _ _ _ d

  view_good : (d : Data) → Good (view_form d)
  unfolding view_form
  view_good d =
      either (OpensSound (mount ∷ [])) (has (codes "concat") d) _ _ (concat_good d)
      (either (OpensSound (mount ∷ [])) (has (codes "of") d) _ _ (of_good d)
      (either (OpensSound (mount ∷ [])) (has (codes "overlay") d) _ _ (overlay_good d)
      (either (OpensSound (mount ∷ [])) (has (codes "stack") d) _ _ (stack_good d) (of_good d))))

  begin_good : (d : Data) → Good (begin_form d)
  unfolding begin_form
  begin_good d =
      inside (OpensSound (mount ∷ [])) (codes "begin") (least_unknown (codes "begin" ∷ []) d) (flags_given (get (codes "begin") d)) (λ flags. Ok (beginning flags.0 flags.1))
      (λ flags. one (OpensSound (mount ∷ [])) (beginning flags.0 flags.1) tt)

  word_good : (k : List ℕ) (form : Form) (d : Data) → OpensSound (mount ∷ []) form → Good (word_form k form d)
  unfolding word_form
  word_good k form d keeps = sound (OpensSound (mount ∷ [])) (earlier (least_unknown (k ∷ []) d) (not_true k d)) (Ok form) (one (OpensSound (mount ∷ [])) form keeps)

  resize_good : (d : Data) → Good (resize_form d)
  unfolding resize_form
  resize_good d =
      sound (OpensSound (mount ∷ [])) (resize_fault d) (resized (shape_at d) d)
      (then (OpensSound (mount ∷ [])) (name_in (codes "resize") d) (resized_as (shape_at d))
      (λ name is. then (OpensSound (mount ∷ [])) (needed (codes "shape") (shape_at d)) (λ sizes. Ok (resizing name sizes)) (λ sizes are. one (OpensSound (mount ∷ [])) (resizing name sizes) tt)))

  resolve_good : (d : Data) → Good (resolve_form d)
  unfolding resolve_form
  resolve_good d =
      sound (OpensSound (mount ∷ [])) (earlier (least_unknown (codes "resolve" ∷ []) d) (no_name (codes "resolve") d)) (resolved d)
      (then (OpensSound (mount ∷ [])) (name_in (codes "resolve") d) (λ name. Ok (resolving name)) (λ name is. one (OpensSound (mount ∷ [])) (resolving name) tt))

  small_good : (d : Data) → Good (small_form d)
  unfolding small_form
  small_good d =
      either (OpensSound (mount ∷ [])) (has (codes "begin") d) _ _ (begin_good d)
      (either (OpensSound (mount ∷ [])) (has (codes "commit") d) _ _ (word_good (codes "commit") committing d tt)
      (either (OpensSound (mount ∷ [])) (has (codes "abort") d) _ _ (word_good (codes "abort") aborting d tt)
      (either (OpensSound (mount ∷ [])) (has (codes "resize") d) _ _ (resize_good d) (resolve_good d))))

  other_good : (d : Data) → Good (other_form d)
  unfolding other_form
  other_good d =
      either (OpensSound (mount ∷ [])) (has (codes "view") d) _ _ (view_good d)
      (either (OpensSound (mount ∷ [])) (has (codes "read") d) _ _ (read_good d)
      (either (OpensSound (mount ∷ [])) (has (codes "write") d) _ _ (write_good d) (small_good d)))

  in_good : (d : Data) → Good (command_in (mount ∷ []) d)
  unfolding command_in
  in_good d = either (OpensSound (mount ∷ [])) (has (codes "open") d) _ _ (open_good d) (other_good d)

  found_good : (found : Option Data) → Good (command_of_found (mount ∷ []) found)
  found_good None = nothing (OpensSound (mount ∷ [])) _
  found_good (Some d) = either (OpensSound (mount ∷ [])) (command_count d == 1) (command_in (mount ∷ []) d) _ (in_good d) (nothing (OpensSound (mount ∷ [])) _)

  -- so does each line's form
  pub form_sound : (bytes : List ℕ) (form : Form) → command_of_line (mount ∷ []) bytes ≡ Ok form → OpensSound (mount ∷ []) form
  form_sound bytes form is = (found_good (data_of bytes)).each form is

  -- what a form asks is on the mount, and within what it is given
  form_of_mount : (form : Form) → OpensSound (mount ∷ []) form → IsLineOn mount (line_of form) × IsLineWithin (line_of form)
  form_of_mount (opening name plan) sound = (line_on mount (Open name plan) sound, line_within (mount ∷ []) (Open name plan) sound)
  form_of_mount (viewing name of transform steps) sound = (tt, changes_within transform steps)
  form_of_mount (joining name kind layers transform steps) sound = (tt, (join_within kind, changes_within transform steps))
  form_of_mount (reading name steps down) sound = (tt, changes_within None steps)
  form_of_mount (writing name steps values) sound = (tt, changes_within None steps)
  form_of_mount (beginning atomic repeatable_read) sound = (tt, tt)
  form_of_mount committing sound = (tt, tt)
  form_of_mount aborting sound = (tt, tt)
  form_of_mount (resizing name shape) sound = (tt, tt)
  form_of_mount (resolving name) sound = (tt, tt)

  refused_of_mount : (fault : Option _) → IsLineOn mount (refused_by fault) × IsLineWithin (refused_by fault)
  refused_of_mount None = (tt, tt)
  refused_of_mount (Some f) = (tt, tt)

  -- the bytes of a line
  pub bytes_of_mount : (bytes : List ℕ) → IsLineOn mount (line_of_bytes (mount ∷ []) bytes) × IsLineWithin (line_of_bytes (mount ∷ []) bytes)
  bytes_of_mount bytes = by (command_of_line (mount ∷ []) bytes) refl
    where
      by : (r : Result Form LineError) → command_of_line (mount ∷ []) bytes ≡ r → IsLineOn mount (line_in r) × IsLineWithin (line_in r)
      by (Ok form) is = form_of_mount form (form_sound bytes form is)
      by (Err e) is = refused_of_mount (form_error e)
