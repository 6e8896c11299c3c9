-- What lines make of views keeps the rules of views.
use Rattle.std.proofs.Common.{◌≡◌, ◌+◌, ◌<◌, ◌≤◌, ℕ, Bool, true, false, cond, List, [], ◌∷◌, length, map, get_or, Option, Some, None, Result, Ok, Err, refl, sym, subst, arith}
use Rattle.std.specs.Prelude.{nat_le}
use Rattle.std.specs.List.{AllByRecursion}
use Rattle.std.proofs.lemmas.List.{length-map}
use Rattle.cells.specs.declared.dtype.Dtype.{Dtype}
use Rattle.serial_runs.specs.Wants.{same_dtype}
use Rattle.index_transform.specs.Identity.{identity_over}
use Rattle.index_transform.specs.Transforms.{DomainAndMaps}
use Rattle.transform_composition.specs.Composing.{composed}
use Rattle.transform_composition.specs.declared.error.ComposeError.{ComposeError}
use Rattle.step_forms.specs.declared.act.Step.{Step}
use Rattle.line_meanings.specs.Applying.{applied}
use Rattle.line_meanings.specs.declared.ApplyError.{ApplyError}
use Rattle.stack_driver.specs.Arrays.{whole_view}
use Rattle.stack_driver.specs.Changes.{under, under_result, moved}
use Rattle.stack_driver.specs.Conditions.{IsView}
use Rattle.stack_driver.specs.References.{Reference}
use Rattle.stack_driver.specs.Stacks.{stacked_domain, first_unlike, unless_unlike, stack_answer}
use Rattle.stack_driver.specs.Views.{look_of, own_transform}
use Rattle.stack_driver.specs.declared.view.View.{View}
use Rattle.stack_driver.specs.declared.view.View.TheVariants as view
use Rattle.stack_driver.proofs.ArrayRules.{whole_rules, length-identity}
use Rattle.stack_driver.proofs.Kept.{cast_view, stack_view, kept, composed-outputs}
use Rattle.stack_driver.proofs.StackRules.{layers_alike}
use Rattle.line_meanings.specs.Built.{composed_at, through, through_if, cast_if, before, all_built, of_dtype, stacked_at, stacked_if, no_array, built}
use Rattle.answer_data.specs.Conditions.{IsNode as IsTreeNode, IsTree}
use Rattle.line_meanings.specs.Form.{Form}
use Rattle.line_meanings.specs.Form as form
use Rattle.line_meanings.specs.Lines.{command_of_line}
use Rattle.line_meanings.specs.declared.BuildCause.TheVariants.{Layers}
use Rattle.line_meanings.specs.declared.BuildError.{BuildError}
use Rattle.line_meanings.specs.declared.BuildError.TheVariants.{Refused}
use Rattle.line_meanings.specs.declared.LineError.{LineError}
use Rattle.line_meanings.specs.declared.OpenPlan.{OpenPlan}
use Rattle.line_meanings.specs.declared.Tree.{Tree, ind-Tree, roll-Tree, map-Tree, every_here-Tree}
use Rattle.line_meanings.specs.declared.Tree.TheOpen.{Tree-F}
use Rattle.line_meanings.specs.declared.Tree.TheVariants as tree
use Rattle.history.specs.Answers as told
use Rattle.history.specs.Acts.{changed}
use Rattle.history.specs.Lines.{FormError, ChangeError, Change, Build, Line, refused, opening, viewing, joining, reading, writing, beginning, committing, aborting, resizing, resolving}
use Rattle.history.specs.Staged.{HasFittingValues}
use Rattle.line_meanings.specs.Changes.{by_view, by_transform, under_steps, by_steps, steps_of, changes_of}
use Rattle.line_meanings.specs.Meanings.{line_of, line_in, line_of_bytes, refused_by}
use Rattle.line_meanings.specs.Openings.{by_built, build_of}
use Rattle.line_meanings.specs.Refusals.{form_error}
use Rattle.line_meanings.proofs.Laws.{OpensSound, applied-outputs, form_sound, fitting_line}
use Rattle.line_meanings.proofs.TreeForms.{built-Leaf, built-Cast, built-Stack, every_base, every_layer}
use Rattle.transcript_laws.specs.Transcript.{mount}

pub moved_view : (v made : View) (t : DomainAndMaps) → IsView v → moved v t ≡ Ok made → IsView made
moved_view v made t valid e = by (composed (own_transform v) t) refl e
  where
    by : (r : Result DomainAndMaps ComposeError) → composed (own_transform v) t ≡ r → under_result v r ≡ Ok made → IsView made
    by (Ok u) is given = let same : under u v ≡ made = cc in subst IsView same (kept u v valid (composed-outputs (own_transform v) t u is))
    by (Err cause) is given = absurd (cc)

-- a change leaves a view one
abbrev pub IsKeeping : Change → Type 0
IsKeeping change = (v made : View) → IsView v → change v ≡ Ok made → IsView made

transform_keeps : (t : DomainAndMaps) → IsKeeping (by_transform t)
transform_keeps t v made valid e = by (moved v t) refl e
  where
    by : (r : Result View ComposeError) → moved v t ≡ r → by_view r ≡ Ok made → IsView made
    by (Ok w) is given = let same : w ≡ made = cc in subst IsView same (moved_view v w t valid is)
    by (Err cause) is given = absurd (cc)

steps_keep : (steps : List Step) → IsKeeping (by_steps steps)
steps_keep steps v made valid e = by (applied (own_transform v) steps) refl e
  where
    by : (r : Result DomainAndMaps ApplyError) → applied (own_transform v) steps ≡ r → under_steps v r ≡ Ok made → IsView made
    by (Ok u) is given = let same : under u v ≡ made = cc in subst IsView same (kept u v valid (applied-outputs (own_transform v) u steps is))
    by (Err cause) is given = absurd (cc)

all_steps_keep : (steps : List Step) → AllByRecursion IsKeeping (steps_of steps)
all_steps_keep [] = tt
all_steps_keep (first ∷ steps) = (steps_keep (first ∷ steps), tt)

changes_keep : (transform : Option DomainAndMaps) (steps : List Step) → AllByRecursion IsKeeping (changes_of transform steps)
changes_keep None steps = all_steps_keep steps
changes_keep (Some t) steps = (transform_keeps t, all_steps_keep steps)

-- so do changes one after another
pub changed_view : (changes : List Change) (r : Result View ChangeError) (made : View) → AllByRecursion IsKeeping changes → ((v : View) → r ≡ Ok v → IsView v) → changed r changes ≡ Ok made → IsView made
changed_view changes (Err e) made keeps valid is = absurd (cc)
changed_view [] (Ok v) made keeps valid is = let same : v ≡ made = cc in subst IsView same (valid v refl)
changed_view (change ∷ changes) (Ok v) made keeps valid is = changed_view changes (change v) made keeps.1 (λ w e. keeps.0 v w (valid v refl) e) is

-- where it is a view, it keeps the rules
record Gives (r : Result View BuildError) : Type 0 where
  are : (made : View) → r ≡ Ok made → IsView made

record GiveAll (count : ℕ) (r : Result (List View) BuildError) : Type 0 where
  are : (made : List View) → r ≡ Ok made → AllByRecursion IsView made
  many : (made : List View) → r ≡ Ok made → length made ≡ count

refusing : (e : BuildError) → Gives (Err e)
refusing e = record { are = λ made is. absurd (cc) }

one : (v : View) → IsView v → Gives (Ok v)
one v valid = record { are = λ made is. let same : v ≡ made = cc in subst IsView same valid }

through_views : (at : List ℕ) (transform : Option DomainAndMaps) (v : View) → IsView v → Gives (through at transform v)
through_views at None v valid = one v valid
through_views at (Some t) v valid = by (moved v t) refl
  where
    by : (r : Result View ComposeError) → moved v t ≡ r → Gives (composed_at at r)
    by (Ok w) is = one w (moved_view v w t valid is)
    by (Err cause) is = refusing _

through_if_views : (at : List ℕ) (transform : Option DomainAndMaps) (r : Result View BuildError) → Gives r → Gives (through_if at transform r)
through_if_views at transform (Ok v) g = through_views at transform v (g.are v refl)
through_if_views at transform (Err e) g = refusing e

cast_if_views : (to : Dtype) (r : Result View BuildError) → Gives r → Gives (cast_if to r)
cast_if_views to (Ok v) g = one (view.Cast to v) (cast_view to v (g.are v refl))
cast_if_views to (Err e) g = refusing e

before_views : (count : ℕ) (v : View) (r : Result (List View) BuildError) → IsView v → GiveAll count r → GiveAll (length (v ∷ []) + count) (before v r)
before_views count v (Ok vs) valid g = record {
  are = λ made is. let same : v ∷ vs ≡ made = cc in subst (AllByRecursion IsView) same (valid, g.are vs refl);
  many = λ made is. let same : v ∷ vs ≡ made = cc in let rest = g.many vs refl in subst (λ l. length l ≡ length (v ∷ []) + count) same (omega (arith, rest));
}
before_views count v (Err e) valid g = record { are = λ made is. absurd (cc); many = λ made is. absurd (cc) }

all_views : (rs : List (Result View BuildError)) → AllByRecursion Gives rs → GiveAll (length rs) (all_built rs)
all_views [] all = record {
  are = λ made is. let same : [] ≡ made = cc in subst (AllByRecursion IsView) same tt;
  many = λ made is. let same : [] ≡ made = cc in subst (λ l. length l ≡ 0) same refl;
}
all_views (Ok v ∷ rest) all =
    let size : length (v ∷ []) + length rest ≡ length (Ok v ∷ rest) = omega arith in
    subst (λ n. GiveAll n (before v (all_built rest))) size (before_views (length rest) v (all_built rest) (all.0.are v refl) (all_views rest all.1))
all_views (Err e ∷ rest) all = record { are = λ made is. absurd (cc); many = λ made is. absurd (cc) }

of_dtype_views : (at : List ℕ) (dtype : Option Dtype) (v : View) → IsView v → Gives (of_dtype at dtype v)
of_dtype_views at None v valid = one v valid
of_dtype_views at (Some dtype) v valid = by (same_dtype dtype (look_of v).dtype)
  where
    by : (test : Bool) → Gives (cond test (Ok v) (Err (Refused at Layers)))
    by true = one v valid
    by false = refusing _

stacked_views : (at : List ℕ) (dtype : Option Dtype) (layers : List View) → 0 < length layers → length layers ≤ 256 → AllByRecursion IsView layers → Gives (stacked_at at dtype (stack_answer layers))
stacked_views at dtype layers some few all = by (first_unlike layers) refl
  where
    by : (o : Option ℕ) → first_unlike layers ≡ o → Gives (stacked_at at dtype (unless_unlike o layers))
    by None alike =
        let t = identity_over (stacked_domain layers) in
        of_dtype_views at dtype (view.Stack layers t) (stack_view layers t all (layers_alike layers (length t.maps) some few alike (length-identity 0 (stacked_domain layers).dims)))
    by (Some layer) alike = refusing _

stacked_if_views : (at : List ℕ) (dtype : Option Dtype) (count : ℕ) (r : Result (List View) BuildError) → 0 < count → count ≤ 256 → GiveAll count r → Gives (stacked_if at dtype r)
stacked_if_views at dtype count (Ok views) some few g = let size = g.many views refl in stacked_views at dtype views (omega (arith, some, size)) (omega (arith, few, size)) (g.are views refl)
stacked_if_views at dtype count (Err e) some few g = refusing e

-- a stack of a tree has 1 to 256 layers
tree_layers : (n : ℕ) (layers : List Tree) (dtype : Option Dtype) (u : Option DomainAndMaps) (at : List ℕ) → IsTree n (tree.Stack layers dtype u at) → (0 < length layers) × (length layers ≤ 256)
tree_layers n layers dtype u at h = subst (IsTreeNode n) (tree.outs-Stack layers dtype u at) (every_here-Tree (IsTreeNode n) (tree.Stack layers dtype u at) h)

module _ (arrays : List Reference) (count : ℕ) where
  Builds : Tree → Type 0
  Builds t = IsTree count t → Gives (built arrays t)

  layers_built : (ys : List ((z : Tree) × Builds z)) → AllByRecursion (IsTree count) (map (λ (y : (z : Tree) × Builds z). y.0) ys) → AllByRecursion Gives (map (built arrays) (map (λ (y : (z : Tree) × Builds z). y.0) ys))
  unfolding Builds
  layers_built [] trees = tt
  layers_built (y ∷ ys) trees = (y.1 trees.0, layers_built ys trees.1)

  builds_step : (x : Tree-F Tree) (y : Tree-F ((z : Tree) × Builds z)) → map-Tree ((z : Tree) × Builds z) Tree (λ e. e.0) y ≡ x → Builds (roll-Tree x)
  unfolding Builds
  builds_step x (Tree-F.Leaf leaf u at) e =
      subst (λ z. Builds (roll-Tree z)) e
      (subst Builds (sym (tree.rolls-Leaf leaf u at))
      (λ is_tree. subst Gives (sym (built-Leaf arrays leaf u at)) (through_views at u (whole_view (get_or arrays leaf no_array)) (whole_rules (get_or arrays leaf no_array)))))
  builds_step x (Tree-F.Cast to p u at) e =
      subst (λ z. Builds (roll-Tree z)) e
      (subst Builds (sym (tree.rolls-Cast to p.0 u at))
      (λ is_tree. subst Gives (sym (built-Cast arrays to p.0 u at)) (through_if_views at u (cast_if to (built arrays p.0)) (cast_if_views to (built arrays p.0) (p.1 (every_base count to p.0 u at is_tree))))))
  builds_step x (Tree-F.Stack ys dtype u at) e =
      let layers = map (λ (y : (z : Tree) × Builds z). y.0) ys in
      subst (λ z. Builds (roll-Tree z)) e
      (subst Builds (sym (tree.rolls-Stack layers dtype u at))
      (λ is_tree.
      let node = tree_layers count layers dtype u at is_tree in
      let size : length (map (built arrays) layers) ≡ length layers = length-map layers (built arrays) in
      subst Gives (sym (built-Stack arrays layers dtype u at))
      (through_if_views at u (stacked_if at dtype (all_built (map (built arrays) layers)))
      (stacked_if_views at dtype (length (map (built arrays) layers)) (all_built (map (built arrays) layers)) (omega (arith, node.0, size)) (omega (arith, node.1, size))
      (all_views (map (built arrays) layers) (layers_built ys (every_layer count layers dtype u at is_tree)))))))

  built_views : (t : Tree) → IsTree count t → Gives (built arrays t)
  unfolding Builds
  built_views t = ind-Tree Builds builds_step t

-- what a Spec builds keeps the rules
abbrev pub IsBuilding : Build → Type 0
IsBuilding build = (refs : List Reference) (made : View) → build refs ≡ Ok made → IsView made

build_views : (plan : OpenPlan) → IsTree (length plan.leaves) plan.tree → IsBuilding (build_of plan)
build_views plan over arrays made e = enough_or (nat_le (length plan.leaves) (length arrays)) e
  where
    by : (r : Result View BuildError) → Gives r → by_built r ≡ Ok made → IsView made
    by (Ok v) g given = let same : v ≡ made = cc in subst IsView same (g.are v refl)
    by (Err cause) g given = absurd (cc)

    enough_or : (test : Bool) → cond test (by_built (built arrays plan.tree)) (Err ([], told.layers)) ≡ Ok made → IsView made
    enough_or true given = by (built arrays plan.tree) (built_views arrays (length plan.leaves) plan.tree over) given
    enough_or false given = absurd (cc)

-- what a line makes of views keeps the rules; joins aren't looked at
abbrev pub IsViewLine : Line → Type 0
IsViewLine (refused error) = Unit {0}
IsViewLine (opening name leaves build) = IsBuilding build
IsViewLine (viewing name of changes) = AllByRecursion IsKeeping changes
IsViewLine (joining name of join changes) = Unit {0}
IsViewLine (reading name changes down) = AllByRecursion IsKeeping changes
IsViewLine (writing name changes values) = AllByRecursion IsKeeping changes
IsViewLine (beginning mode) = Unit {0}
IsViewLine committing = Unit {0}
IsViewLine aborting = Unit {0}
IsViewLine (resizing name shape) = Unit {0}
IsViewLine (resolving name) = Unit {0}

abbrev pub AreViewLines : List (Option Line) → Type 0
AreViewLines [] = Unit {0}
AreViewLines (None ∷ lines) = AreViewLines lines
AreViewLines (Some line ∷ lines) = IsViewLine line × AreViewLines lines

form_views : (f : Form) → OpensSound (mount ∷ []) f → IsViewLine (line_of f)
form_views (form.opening name plan) sound = build_views plan sound.over
form_views (form.viewing name of transform steps) sound = changes_keep transform steps
form_views (form.joining name kind layers transform steps) sound = tt
form_views (form.reading name steps down) sound = changes_keep None steps
form_views (form.writing name steps values) sound = changes_keep None steps
form_views (form.beginning atomic repeatable_read) sound = tt
form_views form.committing sound = tt
form_views form.aborting sound = tt
form_views (form.resizing name shape) sound = tt
form_views (form.resolving name) sound = tt

refused_views : (fault : Option FormError) → IsViewLine (refused_by fault)
refused_views None = tt
refused_views (Some f) = tt

-- so does what the bytes of a line mean
pub bytes_views : (bytes : List ℕ) → IsViewLine (line_of_bytes (mount ∷ []) bytes)
bytes_views bytes = by (command_of_line (mount ∷ []) bytes) refl
  where
    by : (r : Result Form LineError) → command_of_line (mount ∷ []) bytes ≡ r → IsViewLine (line_in r)
    by (Ok f) is = form_views f (form_sound mount bytes f is)
    by (Err e) is = refused_views (form_error e)

refused_fits : (fault : Option FormError) → HasFittingValues (refused_by fault)
refused_fits None = tt
refused_fits (Some f) = tt

-- and its values fit
pub bytes_fit : (bytes : List ℕ) → HasFittingValues (line_of_bytes (mount ∷ []) bytes)
bytes_fit bytes = by (command_of_line (mount ∷ []) bytes)
  where
    by : (r : Result Form LineError) → HasFittingValues (line_in r)
    by (Ok f) = fitting_line f
    by (Err e) = refused_fits (form_error e)
