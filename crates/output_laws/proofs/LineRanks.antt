-- What lines make of views has at most 32 dimensions, each with a label.
use Rattle.std.proofs.Common.{◌≡◌, ℕ, Bool, true, false, cond, List, [], ◌∷◌, length, Option, Some, None, Result, Ok, Err, refl, ap, subst}
use Rattle.std.specs.Prelude.{codes, nat_le, ◌==◌}
use Rattle.std.specs.List.{AllByRecursion}
use Rattle.serde_json.specs.Data.{Data}
use Rattle.serde_json.specs.Find.{get}
use Rattle.json_forms.specs.Bytes.{data_of}
use Rattle.json_forms.specs.Members.{least_unknown}
use Rattle.index_transform.specs.Transforms.{DomainAndMaps}
use Rattle.transform_json.specs.Transforms.{transform_of}
use Rattle.transform_json.specs.declared.error.JsonError.{JsonError}
use Rattle.step_forms.specs.declared.act.Step.{Step}
use Rattle.dim_expressions.specs.Applying.{applied}
use Rattle.stack_driver.specs.Changes.{under, moved}
use Rattle.stack_driver.specs.References.{Reference}
use Rattle.stack_driver.specs.Views.{own_transform}
use Rattle.stack_driver.specs.declared.view.View.{View}
use Rattle.spec_open.specs.Built.{built}
use Rattle.spec_open.specs.declared.error.BuildError.{BuildError}
use Rattle.line_forms.specs.declared.OpenPlan.{OpenPlan}
use Rattle.line_forms.specs.declared.SpecError.{SpecError}
use Rattle.line_forms.specs.Specs.{plan_of_spec}
use Rattle.line_forms.specs.Form.{Form, opening, viewing, joining, reading, writing, beginning, committing, aborting, resizing, resolving}
use Rattle.line_forms.specs.declared.command.JoinForm.{JoinForm}
use Rattle.line_forms.specs.Lines.{command_of_line, command_of_found, command_in, command_count, other_form, small_form}
use Rattle.line_forms.specs.Reads.{read_form, read_fault, read_so, read_as, down_at, write_form, write_fault, written, written_as, written_by}
use Rattle.line_forms.specs.Small.{open_form, open_fault, opened, opened_as, plan_in, plan_read, begin_form, flags_given, word_form, not_true, resize_form, resize_fault, resized, resized_as, shape_at, resolve_form, resolved}
use Rattle.line_forms.specs.Views.{view_form, of_form, view_fault, viewed, viewed_as, viewed_of, joined, join_in, join_as, join_by, join_of, overlay_form, concat_form, stack_form}
use Rattle.line_forms.specs.Parts.{◌>>=◌, has, needed, name_in, steps_in, earlier, no_name, where_sound}
use Rattle.line_forms.specs.Within.{within, transform_in, transform_read, transform_given}
use Rattle.line_forms.specs.declared.LineError.{LineError}
use Rattle.history.specs.Answers as answers
use Rattle.history.specs.Lines.{FormError, ChangeError, Change, Build, Line}
use Rattle.history.specs.Lines as asked
use Rattle.history.specs.Acts.{changed}
use Rattle.transcript_laws.specs.Meanings.{line_of, line_in, line_of_bytes, refused_by}
use Rattle.transcript_laws.specs.Openings.{by_built, build_of}
use Rattle.transcript_laws.specs.Transcript.{mount}
use Rattle.output_laws.proofs.Ranks.{HasRank}
use Rattle.output_laws.proofs.StepRanks.{applied_rank}
use Rattle.output_laws.proofs.ViewRanks.{HasViewRank, IsRankRef, MayHaveRank, Builds, Gives, moved_rank, under_rank}
use Rattle.output_laws.proofs.PlanRanks.{transform_rank, plan_builds}

-- the transforms of a form have a rank, and so has what its Spec builds
abbrev pub IsRankForm : Form → Type 0
IsRankForm (opening name plan) = Builds plan.tree
IsRankForm (viewing name of transform steps) = MayHaveRank transform
IsRankForm (joining name form layers transform steps) = Unit {0}
IsRankForm (reading name steps down) = Unit {0}
IsRankForm (writing name steps values) = Unit {0}
IsRankForm (beginning atomic repeatable_read) = Unit {0}
IsRankForm committing = Unit {0}
IsRankForm aborting = Unit {0}
IsRankForm (resizing name shape) = Unit {0}
IsRankForm (resolving name) = Unit {0}

-- where there is a form, it is such
record Forms (r : Result Form LineError) : Type 0 where
  each : (form : Form) → r ≡ Ok form → IsRankForm form

one : (form : Form) → IsRankForm form → Forms (Ok form)
one form keeps = record { each = λ made is. let same : form ≡ made = cc in subst IsRankForm same keeps }

nothing : (e : LineError) → Forms (Err e)
nothing e = record { each = λ made is. absurd (let no_such : ⊥ = cc in no_such) }

then : {A : Type 0} (r : Result A LineError) (f : A → Result Form LineError) → ((a : A) → r ≡ Ok a → Forms (f a)) → Forms (r >>= f)
then (Ok a) f keeps = keeps a refl
then (Err e) f keeps = nothing e

sound : (fault : Option (List ℕ)) (r : Result Form LineError) → Forms r → Forms (where_sound fault r)
sound None r keeps = keeps
sound (Some k) r keeps = nothing _

inside : {A : Type 0} (name : List ℕ) (others : Option (List ℕ)) (r : Result A (List ℕ)) (f : A → Result Form LineError) → ((a : A) → r ≡ Ok a → Forms (f a)) → Forms (within name others r f)
inside name others (Ok a) f keeps = sound others (f a) (keeps a refl)
inside name others (Err path) f keeps = nothing _

either : (test : Bool) (x y : Result Form LineError) → Forms x → Forms y → Forms (cond test x y)
either true x y one other = one
either false x y one other = other

plan_from : (r : Result OpenPlan SpecError) (plan : OpenPlan) → plan_read r ≡ Ok plan → r ≡ Ok plan
plan_from (Ok p) plan is = let same : p ≡ plan = cc in ap (λ q. Ok q) same
plan_from (Err e) plan is = absurd (let no_such : ⊥ = cc in no_such)

planned : (names : List (List ℕ)) (spec : Option Data) (plan : OpenPlan) → (needed (codes "spec") spec >>= (λ s. plan_read (plan_of_spec names s))) ≡ Ok plan → Builds plan.tree
planned names None plan is = absurd (let no_such : ⊥ = cc in no_such)
planned names (Some s) plan is = plan_builds names s plan (plan_from (plan_of_spec names s) plan is)

opens : (names : List (List ℕ)) (d : Data) (plan : OpenPlan) → plan_in names d ≡ Ok plan → Builds plan.tree
unfolding plan_in
opens names d plan is = planned names (get (codes "spec") d) plan is

open_good : (names : List (List ℕ)) (d : Data) → Forms (open_form names d)
unfolding open_form
open_good names d =
    sound (open_fault d) (opened names d)
    (then (name_in (codes "open") d) (opened_as names d)
    (λ name is. then (plan_in names d) (λ plan. Ok (opening name plan)) (λ plan are. one (opening name plan) (opens names d plan are))))

read_good : (d : Data) → Forms (read_form d)
unfolding read_form
read_good d =
    sound (read_fault d) (read_so (down_at d) d)
    (then (name_in (codes "read") d) (read_as (down_at d) d)
    (λ name is. then (steps_in d) (λ steps. Ok (reading name steps (down_at d))) (λ steps are. one (reading name steps (down_at d)) tt)))

write_good : (d : Data) → Forms (write_form d)
unfolding write_form
write_good d =
    sound (write_fault d) (written d)
    (then (name_in (codes "write") d) (written_as d)
    (λ name is. then (steps_in d) (written_by d name)
    (λ steps are. then (needed (codes "values") (get (codes "values") d)) (λ values. Ok (writing name steps values))
    (λ values so. one (writing name steps values) tt))))

read_rank : (d : Data) (r : Result DomainAndMaps JsonError) → transform_of d ≡ r → (o : Option DomainAndMaps) → transform_read d r ≡ Ok o → MayHaveRank o
read_rank d (Ok t) is o e = let same : Some t ≡ o = cc in subst MayHaveRank same (transform_rank d t is)
read_rank d (Err x) is o e = absurd (let no_such : ⊥ = cc in no_such)

given_rank : (found : Option Data) (o : Option DomainAndMaps) → transform_given found ≡ Ok o → MayHaveRank o
given_rank None o e = let same : None ≡ o = cc in subst MayHaveRank same tt
given_rank (Some d) o e = read_rank d (transform_of d) refl o e

in_rank : (d : Data) (o : Option DomainAndMaps) → transform_in d ≡ Ok o → MayHaveRank o
unfolding transform_in
in_rank d o e = given_rank (get (codes "transform") d) o e

of_good : (d : Data) → Forms (of_form d)
unfolding of_form
of_good d =
    inside (codes "transform") (view_fault d) (transform_in d) (viewed d)
    (λ transform found. then (name_in (codes "view") d) (viewed_as transform d)
    (λ name is. then (name_in (codes "of") d) (viewed_of transform d name)
    (λ of are. then (steps_in d) (λ steps. Ok (viewing name of transform steps))
    (λ steps so. one (viewing name of transform steps) (in_rank d transform found)))))

joined_good : (k : List ℕ) (fault : Option (List ℕ)) (form : Option JoinForm) (layers : Option (List (List ℕ))) (d : Data) → Forms (joined k fault form layers d)
unfolding joined
joined_good k fault form layers d =
    inside (codes "transform") fault (transform_in d) (join_in k form layers d)
    (λ transform found. then (name_in (codes "view") d) (join_as k form layers d transform)
    (λ name is. then (needed (codes "axis") form) (join_by k layers d transform name)
    (λ kind are. then (needed k layers) (join_of d transform name kind)
    (λ names so. then (steps_in d) (λ steps. Ok (joining name kind names transform steps))
    (λ steps all. one (joining name kind names transform steps) tt)))))

overlay_good : (d : Data) → Forms (overlay_form d)
unfolding overlay_form
overlay_good d = joined_good _ _ _ _ d

concat_good : (d : Data) → Forms (concat_form d)
unfolding concat_form
concat_good d = joined_good _ _ _ _ d

stack_good : (d : Data) → Forms (stack_form d)
unfolding stack_form
stack_good d = joined_good _ _ _ _ d

view_good : (d : Data) → Forms (view_form d)
unfolding view_form
view_good d =
    either (has (codes "concat") d) _ _ (concat_good d)
    (either (has (codes "of") d) _ _ (of_good d)
    (either (has (codes "overlay") d) _ _ (overlay_good d)
    (either (has (codes "stack") d) _ _ (stack_good d) (of_good d))))

begin_good : (d : Data) → Forms (begin_form d)
unfolding begin_form
begin_good d =
    inside (codes "begin") (least_unknown (codes "begin" ∷ []) d) (flags_given (get (codes "begin") d)) (λ flags. Ok (beginning flags.0 flags.1))
    (λ flags found. one (beginning flags.0 flags.1) tt)

word_good : (k : List ℕ) (form : Form) (d : Data) → IsRankForm form → Forms (word_form k form d)
unfolding word_form
word_good k form d keeps = sound (earlier (least_unknown (k ∷ []) d) (not_true k d)) (Ok form) (one form keeps)

resize_good : (d : Data) → Forms (resize_form d)
unfolding resize_form
resize_good d =
    sound (resize_fault d) (resized (shape_at d) d)
    (then (name_in (codes "resize") d) (resized_as (shape_at d))
    (λ name is. then (needed (codes "shape") (shape_at d)) (λ sizes. Ok (resizing name sizes)) (λ sizes are. one (resizing name sizes) tt)))

resolve_good : (d : Data) → Forms (resolve_form d)
unfolding resolve_form
resolve_good d =
    sound (earlier (least_unknown (codes "resolve" ∷ []) d) (no_name (codes "resolve") d)) (resolved d)
    (then (name_in (codes "resolve") d) (λ name. Ok (resolving name)) (λ name is. one (resolving name) tt))

small_good : (d : Data) → Forms (small_form d)
unfolding small_form
small_good d =
    either (has (codes "begin") d) _ _ (begin_good d)
    (either (has (codes "commit") d) _ _ (word_good (codes "commit") committing d tt)
    (either (has (codes "abort") d) _ _ (word_good (codes "abort") aborting d tt)
    (either (has (codes "resize") d) _ _ (resize_good d) (resolve_good d))))

other_good : (d : Data) → Forms (other_form d)
unfolding other_form
other_good d =
    either (has (codes "view") d) _ _ (view_good d)
    (either (has (codes "read") d) _ _ (read_good d)
    (either (has (codes "write") d) _ _ (write_good d) (small_good d)))

in_good : (names : List (List ℕ)) (d : Data) → Forms (command_in names d)
unfolding command_in
in_good names d = either (has (codes "open") d) _ _ (open_good names d) (other_good d)

found_good : (names : List (List ℕ)) (found : Option Data) → Forms (command_of_found names found)
found_good names None = nothing _
found_good names (Some d) = either (command_count d == 1) (command_in names d) _ (in_good names d) (nothing _)

-- so is each line's form
form_rank : (bytes : List ℕ) (form : Form) → command_of_line (mount ∷ []) bytes ≡ Ok form → IsRankForm form
form_rank bytes form is = (found_good (mount ∷ []) (data_of bytes)).each form is

-- ---- what a form asks

-- a change leaves a view a rank
abbrev pub IsKeeping : Change → Type 0
IsKeeping change = (v made : View) → HasViewRank v → change v ≡ Ok made → HasViewRank made

-- what is built over arrays that have a rank has one
abbrev pub IsRankBuild : Build → Type 0
IsRankBuild build = (refs : List Reference) (made : View) → AllByRecursion IsRankRef refs → build refs ≡ Ok made → HasViewRank made

-- what a line makes of views has a rank; joins aren't looked at
abbrev pub IsRankLine : Line → Type 0
IsRankLine (asked.refused error) = Unit {0}
IsRankLine (asked.opening name leaves build) = IsRankBuild build
IsRankLine (asked.viewing name of changes) = AllByRecursion IsKeeping changes
IsRankLine (asked.joining name of join changes) = Unit {0}
IsRankLine (asked.reading name changes down) = AllByRecursion IsKeeping changes
IsRankLine (asked.writing name changes values) = AllByRecursion IsKeeping changes
IsRankLine (asked.beginning mode) = Unit {0}
IsRankLine asked.committing = Unit {0}
IsRankLine asked.aborting = Unit {0}
IsRankLine (asked.resizing name shape) = Unit {0}
IsRankLine (asked.resolving name) = Unit {0}

cases : {A E G : Type 0} (r : Result A E) → ((a : A) → r ≡ Ok a → G) → ((x : E) → r ≡ Err x → G) → G
cases (Ok a) one other = one a refl
cases (Err x) one other = other x refl

build_rank : (plan : OpenPlan) → Builds plan.tree → IsRankBuild (build_of plan)
build_rank plan b arrays made all e = enough (nat_le (length plan.leaves) (length arrays)) e
  where
    by : (r : Result View BuildError) → Gives r → by_built r ≡ Ok made → HasViewRank made
    by (Ok v) g given = let same : v ≡ made = cc in subst HasViewRank same (g.are v refl)
    by (Err cause) g given = absurd (cc)

    enough : (test : Bool) → cond test (by_built (built arrays plan.tree)) (Err ([], answers.layers)) ≡ Ok made → HasViewRank made
    enough true given = by (built arrays plan.tree) (b.over arrays all) given
    enough false given = absurd (cc)

-- steps leave a view a rank, whatever is done with the transform that they give
steps_rank : (v made : View) (steps : List Step) (t : DomainAndMaps) → HasViewRank v → applied (own_transform v) steps ≡ Ok t → under t v ≡ made → HasViewRank made
steps_rank v made steps t has is same = subst HasViewRank same (under_rank t v (applied_rank (own_transform v) t steps has is))

-- the views of a line of steps alone, and of one of a transform alone
stepped : (name of : List ℕ) (s : Step) (steps : List Step) → IsRankLine (line_of (viewing name of None (s ∷ steps)))
stepped name of s steps = (
  λ v made has e. cases (applied (own_transform v) (s ∷ steps))
      (λ t is. let given = rw is at e in let same : under t v ≡ made = cc in steps_rank v made (s ∷ steps) t has is same)
      (λ x is. let given = rw is at e in absurd (cc)),
  tt,
)

turned : (name of : List ℕ) (t : DomainAndMaps) → HasRank t → IsRankLine (line_of (viewing name of (Some t) []))
turned name of t keeps = (
  λ v made has e. cases (moved v t)
      (λ w is. let given = rw is at e in let same : w ≡ made = cc in subst HasViewRank same (moved_rank v w t keeps is))
      (λ x is. let given = rw is at e in absurd (cc)),
  tt,
)

line_rank : (f : Form) → IsRankForm f → IsRankLine (line_of f)
line_rank (opening name plan) keeps = build_rank plan keeps
line_rank (viewing name of None []) keeps = tt
line_rank (viewing name of None (s ∷ steps)) keeps = stepped name of s steps
line_rank (viewing name of (Some t) []) keeps = turned name of t keeps
line_rank (viewing name of (Some t) (s ∷ steps)) keeps = ((turned name of t keeps).0, ((stepped name of s steps).0, tt))
line_rank (joining name kind layers transform steps) keeps = tt
line_rank (reading name [] down) keeps = tt
line_rank (reading name (s ∷ steps) down) keeps = ((stepped name name s steps).0, tt)
line_rank (writing name [] values) keeps = tt
line_rank (writing name (s ∷ steps) values) keeps = ((stepped name name s steps).0, tt)
line_rank (beginning atomic repeatable_read) keeps = tt
line_rank committing keeps = tt
line_rank aborting keeps = tt
line_rank (resizing name shape) keeps = tt
line_rank (resolving name) keeps = tt

refused_rank : (fault : Option FormError) → IsRankLine (refused_by fault)
refused_rank None = tt
refused_rank (Some f) = tt

-- what the bytes of a line mean
pub bytes_rank : (bytes : List ℕ) → IsRankLine (line_of_bytes (mount ∷ []) bytes)
bytes_rank bytes = by (command_of_line (mount ∷ []) bytes) refl
  where
    by : (r : Result Form LineError) → command_of_line (mount ∷ []) bytes ≡ r → IsRankLine (line_in r)
    by (Ok f) is = line_rank f (form_rank bytes f is)
    by (Err e) is = refused_rank _

-- changes one after another
pub changed_rank : (changes : List Change) (r : Result View ChangeError) (made : View) → AllByRecursion IsKeeping changes → ((v : View) → r ≡ Ok v → HasViewRank v) → changed r changes ≡ Ok made → HasViewRank made
changed_rank changes (Err e) made keeps has is = absurd (cc)
changed_rank [] (Ok v) made keeps has is = let same : v ≡ made = cc in subst HasViewRank same (has v refl)
changed_rank (change ∷ changes) (Ok v) made keeps has is = changed_rank changes (change v) made keeps.1 (λ w e. keeps.0 v w (has v refl) e) is
