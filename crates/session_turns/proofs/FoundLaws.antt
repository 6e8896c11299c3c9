-- What a leaf asks for, in the history: an array of it, or a new one.
use Rattle.std.proofs.Common.{◌≡◌, ◌∙◌, ℕ, ◌+◌, Bool, true, false, cond, List, [], ◌∷◌, ◌++◌, length, take, Option, Some, None, Result, Ok, Err, refl, sym, ap, subst, arith, length-append, eq-eqb}
use Rattle.std.proofs.Math.Seq.{take-append_seam, take-length}
use Rattle.std.proofs.lemmas.List.{map-append}
use Rattle.std.specs.FinMap as finmap
use Rattle.std.specs.List.{AllByRecursion}
use mathlib.Core.List.{IsPrefix}
use Rattle.chunk_forms.specs.Made.{form_made}
use Rattle.chunk_forms.specs.Metadata.{shape_of}
use Rattle.chunk_forms.specs.Wants.{mismatch_of}
use Rattle.chunk_forms.specs.declared.form.Form.{Form}
use Rattle.history.specs.declared.array.ArrayInfo.{ArrayInfo}
use Rattle.history.specs.Arrays.{Known, known_after, form_of, ref_of}
use Rattle.history.specs.History.{History}
use Rattle.history.specs.Leaves.{Leaf, Stored, nothing, unreadable, readable, location_of_leaf}
use Rattle.history.specs.Legal.{IsLegal}
use Rattle.history.specs.OpenRows.{new_ref, IsNew, read_there, made_here}
use Rattle.history.specs.Outcomes.{Outcome, IsOutcome, there, found, made, exists, not_found, unless_differs, making_outcome, outcome_in_store, outcome_at, unless_taken, opening_outcome}
use Rattle.history.specs.Own.{opened_event}
use Rattle.history.specs.Places.{array_at, taken}
use Rattle.history.specs.Refs.{IsKnownRef}
use Rattle.history.proofs.Laws.{known_after-more, array_at-known, ref_later, IsLegal-front}
use Rattle.kv_face.specs.Store.{Contents}
use Rattle.stack_driver.specs.References.{Reference}
use Rattle.state_resizes.specs.Openings.{IsOutcomeOf, IsNewOf}
use Rattle.state_resizes.specs.Openings as openings
use Rattle.state_resizes.specs.Outline.{outline, outlined_event}
use Rattle.state_resizes.proofs.Laws.{known-outline, array_at-outline}

-- the outcome of a leaf where the store told its contents at the start
pub outcome_told : (told : Option Contents) (start : Contents) (events : History) (leaf : Leaf) (outcome : Outcome) → told ≡ Some start → IsOutcomeOf told events leaf outcome → IsOutcome start events leaf outcome
outcome_told told start events leaf outcome is o = record { stored = o.stored; read = o.read start is; same = o.same }

pub new_told : (told : Option Contents) (start : Contents) (events : History) (leaf : Leaf) (meta : Form) → told ≡ Some start → IsNewOf told events leaf meta → IsNew start events leaf meta
new_told told start events leaf meta is (openings.read_there o) = read_there (outcome_told told start events leaf (found meta) is o)
new_told told start events leaf meta is (openings.made_here o) = made_here (outcome_told told start events leaf (made meta) is o)

-- an array of the history, which a leaf asks for, has its number there
apart_there : (o : Option (List ℕ)) (outcome : Outcome) (k : Known) → unless_taken o outcome ≡ there k → outcome ≡ there k
apart_there None outcome k e = e
apart_there (Some other) outcome k e = absurd (cc)

differs_there : (o : Option (List ℕ)) (outcome : Outcome) (k : Known) → unless_differs o outcome ≡ there k → outcome ≡ there k
differs_there None outcome k e = e
differs_there (Some member) outcome k e = absurd (cc)

made_there : (r : Result Form (List ℕ)) (k : Known) → making_outcome r ≡ there k → ⊥
made_there (Ok meta) k e = absurd (cc)
made_there (Err member) k e = absurd (cc)

in_store : (leaf : Leaf) (held : Stored) (k : Known) → outcome_in_store leaf held ≡ there k → ⊥
in_store leaf nothing k e = by leaf.may_create e
  where
    by : (test : Bool) → cond test (making_outcome (form_made leaf.want)) not_found ≡ there k → ⊥
    by true h = made_there (form_made leaf.want) k h
    by false h = absurd (cc)
in_store leaf (unreadable bytes) k e = absurd (cc)
in_store leaf (readable meta) k e = by leaf.may_open e
  where
    by : (test : Bool) → cond test (unless_differs (mismatch_of leaf.want meta (shape_of meta)) (found meta)) exists ≡ there k → ⊥
    by true h = let same = differs_there (mismatch_of leaf.want meta (shape_of meta)) (found meta) k h in absurd (cc)
    by false h = absurd (cc)

at_there : (leaf : Leaf) (held : Stored) (o : Option Known) (k : Known) → outcome_at leaf held o ≡ there k → o ≡ Some k
at_there leaf held None k e = absurd (in_store leaf held k e)
at_there leaf held (Some l) k e = by leaf.may_open e
  where
    by : (test : Bool) → cond test (unless_differs (mismatch_of leaf.want (form_of l.info.home) l.shape) (there l)) exists ≡ there k → Some l ≡ Some k
    by true h = let same = differs_there (mismatch_of leaf.want (form_of l.info.home) l.shape) (there l) k h in cc
    by false h = absurd (cc)

pub there_known : (events : History) (leaf : Leaf) (held : Stored) (k : Known) → IsLegal finmap.empty (outline events) → there k ≡ opening_outcome events leaf held → known_after events k.info.number ≡ Some k
there_known events leaf held k legal e =
    let here = location_of_leaf leaf in
    let at = at_there leaf held (array_at events here) k (apart_there (taken events here) (outcome_at leaf held (array_at events here)) k (sym e)) in
    sym (known-outline k.info.number events) ∙ array_at-known finmap.empty here (outline events) legal k (array_at-outline here events ∙ at)

front : (events added : History) → take (length events) (events ++ added) ≡ events
front events added = take-append_seam events added

pub ref_found : (events added : History) (k : Known) → known_after events k.info.number ≡ Some k → IsKnownRef (events ++ added) (ref_of k)
ref_found events added k known = record { seen = length events; array = k; known = ap (λ h. known_after h k.info.number) (front events added) ∙ known; same = refl }

pub ref_new : (events : History) (owner : ℕ) (info : ArrayInfo) → IsKnownRef (events ++ opened_event owner info ∷ []) (new_ref events info)
ref_new events owner info =
    let e = opened_event owner info in
    record {
      seen = length (events ++ e ∷ []);
      array = record { info = info; opened = length events + 1; shape = info.shape };
      known =
          ap (λ h. known_after h info.number) (take-length (events ++ e ∷ [])) ∙ known_after-more events e info.number
          ∙ ap (λ t. cond t (Some (record { info = info; opened = length events + 1; shape = info.shape })) (known_after events info.number)) (eq-eqb info.number info.number refl);
      same = refl;
    }

-- references stay known behind a turn
pub later_refs : (early late : History) (refs : List Reference) → IsPrefix early late → AllByRecursion (IsKnownRef early) refs → AllByRecursion (IsKnownRef late) refs
later_refs early late [] grown all = tt
later_refs early late (r ∷ refs) grown all =
    let sum = length-append early grown.0 in
    let size = ap length grown.1 in (
      subst (λ h. IsKnownRef h r) (take-length late) (ref_later late (length early) (length late) (omega (arith, sum, size)) r (subst (λ h. IsKnownRef h r) (sym (sym (ap (take (length early)) grown.1) ∙ take-append_seam early grown.0)) all.0)),
      later_refs early late refs grown all.1,
    )

-- a legal history begins with one
pub outline_before : (before added : History) → IsLegal finmap.empty (outline (before ++ added)) → IsLegal finmap.empty (outline before)
outline_before before added legal = IsLegal-front finmap.empty (outline before) (outline added) (subst (IsLegal finmap.empty) (map-append outlined_event before added) legal)
