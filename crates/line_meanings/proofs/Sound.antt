-- What holds of the line of each command that is read.
use Rattle.std.proofs.Common.{◌≡◌, ◌<◌, ◌≤◌, ◌^◌, ◌-◌, ℕ, suc, List, [], ◌∷◌, length, get_or, Option, Some, None, unwrap_or, Result, Ok, Err, refl, subst, arith}
use Rattle.std.specs.List.{AllByRecursion}
use Rattle.std.proofs.lemmas.List.Elements.{recursion_from_All}
use Rattle.serde_json.specs.Data.{Data}
use Rattle.serde_json.specs.View.{view}
use Rattle.cells.specs.Numbers.{IsWord}
use Rattle.cells.specs.declared.dtype.Dtype.{Dtype}
use Rattle.line_answers.specs.Made.{with_chunks, zarr_made, n5_made, zarr3_made, form_made}
use Rattle.line_answers.specs.Metadata.{IsMetadata}
use Rattle.line_answers.specs.declared.Form.{Form}
use Rattle.line_answers.specs.declared.Want.TheVariants as want
use Rattle.line_answers.proofs.Laws.{zarr_rules, n5_rules, zarr3_rules}
use Rattle.zarr_chunks.specs.Want as zarr
use Rattle.n5_blocks.specs.Want as n5
use Rattle.zarr3_chunks.specs.Want as zarr3
use Rattle.line_forms.specs.Leaves.{IsSoundLeaf}
use Rattle.line_forms.specs.declared.SpecLeaf.{SpecLeaf}
use Rattle.line_forms.specs.declared.SpecLeaf.TheVariants.{Zarr, N5, Zarr3, Given}
use Rattle.line_forms.proofs.Laws.{among-keeps}
use Rattle.line_forms.specs.declared.Tree.{Tree}
use Rattle.line_forms.specs.Form.{form_of, IsSound}
use Rattle.line_forms.specs.Form as forms
use Rattle.line_forms.specs.declared.command.Command.{Command}
use Rattle.line_forms.specs.declared.command.Command.TheVariants.{Open, View, Join, Read, Write, Begin, Commit, Abort, Resize, Resolve}
use Rattle.script_lines.proofs.GivenWords.{words_of-are}
use Rattle.line_answers.specs.Alone.{IsLeafOn, IsLineOn, IsLeafSound, IsLineSound}
use Rattle.line_answers.specs.Bound.{IsLineWithin}
use Rattle.line_answers.specs.Staged.{AreFitting, HasFittingValues}
use Rattle.line_meanings.specs.Conditions.{HasRules, HaveRules}
use Rattle.line_meanings.specs.Meanings.{line_of}
use Rattle.line_meanings.specs.Numbers.{values_of}
use Rattle.line_meanings.specs.Openings.{leaf_of, node_of, leaves_from}
use Rattle.line_meanings.proofs.KnownBuilt.{build_within}
use Rattle.line_meanings.proofs.KnownJoined.{join_within}
use Rattle.line_meanings.proofs.KnownUnder.{changes_within}

-- values give a word of the dtype to each cell
pub values_fit : (values : Data) → AreFitting (values_of values)
values_fit values dtype shape words e = let are = words_of-are dtype shape values words e in (are.full, recursion_from_All (IsWord dtype) words are.of_dtype)

-- so they do in every line
pub fitting_line : (form : forms.Form) → HasFittingValues (line_of form)
fitting_line (forms.opening name plan) = tt
fitting_line (forms.viewing name of transform steps) = tt
fitting_line (forms.joining name kind layers transform steps) = tt
fitting_line (forms.reading name steps down) = tt
fitting_line (forms.writing name steps values) = values_fit values
fitting_line (forms.beginning atomic repeatable_read) = tt
fitting_line forms.committing = tt
fitting_line forms.aborting = tt
fitting_line (forms.resizing name shape) = tt
fitting_line (forms.resolving name) = tt

-- no part of a line brings in an array that it wasn't given
pub line_within : (names : List (List ℕ)) (command : Command) → IsSound names command → IsLineWithin (line_of (form_of command))
line_within names (Open name plan) sound = build_within plan sound.over
line_within names (View name of transform steps) sound = changes_within transform steps
line_within names (Join name kind layers transform steps) sound = (join_within kind, changes_within transform steps)
line_within names (Read name steps down) sound = changes_within None steps
line_within names (Write name steps values) sound = changes_within None steps
line_within names (Begin atomic repeatable_read) sound = tt
line_within names Commit sound = tt
line_within names Abort sound = tt
line_within names (Resize name shape) sound = tt
line_within names (Resolve name) sound = tt

-- with one name of a mount, each array that is asked of a store is asked of that mount
leaf_on : (mount node : List ℕ) (leaf : SpecLeaf) → IsSoundLeaf (mount ∷ []) leaf → IsLeafOn mount (leaf_of node leaf)
leaf_on mount node (Zarr name path asked may_open may_create) sound = among-keeps (λ n. n ≡ mount) (mount ∷ []) name (refl, tt) (search (sound.mounted))
leaf_on mount node (N5 name path asked may_open may_create) sound = among-keeps (λ n. n ≡ mount) (mount ∷ []) name (refl, tt) (search (sound.mounted))
leaf_on mount node (Zarr3 name path asked may_open may_create) sound = among-keeps (λ n. n ≡ mount) (mount ∷ []) name (refl, tt) (search (sound.mounted))
leaf_on mount node (Given numbers) sound = tt

leaves_on : (mount : List ℕ) (tree : Tree) (number : ℕ) (leaves : List SpecLeaf) → AllByRecursion (IsSoundLeaf (mount ∷ [])) leaves → AllByRecursion (IsLeafOn mount) (leaves_from tree number leaves)
leaves_on mount tree number [] all = tt
leaves_on mount tree number (leaf ∷ leaves) all = (leaf_on mount (unwrap_or (node_of number tree) []) leaf all.0, leaves_on mount tree (suc number) leaves all.1)

pub line_on : (mount : List ℕ) (command : Command) → IsSound (mount ∷ []) command → IsLineOn mount (line_of (form_of command))
line_on mount (Open name plan) sound = leaves_on mount plan.tree 0 plan.leaves sound.each
line_on mount (View name of transform steps) sound = tt
line_on mount (Join name kind layers transform steps) sound = tt
line_on mount (Read name steps down) sound = tt
line_on mount (Write name steps values) sound = tt
line_on mount (Begin atomic repeatable_read) sound = tt
line_on mount Commit sound = tt
line_on mount Abort sound = tt
line_on mount (Resize name shape) sound = tt
line_on mount (Resolve name) sound = tt

-- metadata that is made of what is asked keeps the rules
made : (chunks : Result (List ℕ) (List ℕ)) (make : List ℕ → Form) (meta : Form) → ((sizes : List ℕ) → chunks ≡ Ok sizes → IsMetadata (make sizes)) → with_chunks make chunks ≡ Ok meta → IsMetadata meta
made (Ok sizes) make meta rules e = let same : make sizes ≡ meta = cc in subst IsMetadata same (rules sizes refl)
made (Err member) make meta rules e = absurd (cc)

zarr_sound : (w : zarr.Want) → zarr.IsWant w → (meta : Form) → form_made (want.Zarr w) ≡ Ok meta → IsMetadata meta
zarr_sound w rules meta e = by w.shape w.dtype refl refl e
  where
    by : (shape : Option (List ℕ)) (dtype : Option Dtype) → w.shape ≡ shape → w.dtype ≡ dtype → zarr_made w shape dtype ≡ Ok meta → IsMetadata meta
    by None dtype s d given = absurd (cc)
    by (Some shape) None s d given = absurd (cc)
    by (Some shape) (Some dtype) s d given = made _ _ meta (λ sizes is. zarr_rules w _ shape sizes dtype rules s d is) given

n5_sound : (w : n5.Want) → n5.IsWant w → (meta : Form) → form_made (want.N5 w) ≡ Ok meta → IsMetadata meta
n5_sound w rules meta e = by w.dimensions w.dtype refl refl e
  where
    by : (shape : Option (List ℕ)) (dtype : Option Dtype) → w.dimensions ≡ shape → w.dtype ≡ dtype → n5_made w shape dtype ≡ Ok meta → IsMetadata meta
    by None dtype s d given = absurd (cc)
    by (Some shape) None s d given = absurd (cc)
    by (Some shape) (Some dtype) s d given = made _ _ meta (λ sizes is. n5_rules w _ shape sizes dtype rules s d is) given

zarr3_sound : (w : zarr3.Want) → zarr3.IsWant w → (meta : Form) → form_made (want.Zarr3 w) ≡ Ok meta → IsMetadata meta
zarr3_sound w rules meta e = by w.shape w.dtype refl refl e
  where
    by : (shape : Option (List ℕ)) (dtype : Option Dtype) → w.shape ≡ shape → w.dtype ≡ dtype → zarr3_made w shape dtype ≡ Ok meta → IsMetadata meta
    by None dtype s d given = absurd (cc)
    by (Some shape) None s d given = absurd (cc)
    by (Some shape) (Some dtype) s d given = made _ _ meta (λ sizes is. zarr3_rules w _ shape sizes dtype rules s d is) given

leaf_sound : (names : List (List ℕ)) (node : List ℕ) (leaf : SpecLeaf) → IsSoundLeaf names leaf → HasRules leaf → IsLeafSound (leaf_of node leaf)
leaf_sound names node (Zarr mount path asked may_open may_create) sound rules = zarr_sound asked rules
leaf_sound names node (N5 mount path asked may_open may_create) sound rules = n5_sound asked rules
leaf_sound names node (Zarr3 mount path asked may_open may_create) sound rules = zarr3_sound asked rules
leaf_sound names node (Given numbers) sound rules = sound.dense

leaves_sound : (names : List (List ℕ)) (tree : Tree) (number : ℕ) (leaves : List SpecLeaf) → AllByRecursion (IsSoundLeaf names) leaves → AllByRecursion HasRules leaves → AllByRecursion IsLeafSound (leaves_from tree number leaves)
leaves_sound names tree number [] all rules = tt
leaves_sound names tree number (leaf ∷ leaves) all rules = (leaf_sound names (unwrap_or (node_of number tree) []) leaf all.0 rules.0, leaves_sound names tree (suc number) leaves all.1 rules.1)

all_sizes : (most : ℕ) (shape : List ℕ) → ((k : ℕ) → k < length shape → get_or shape k 0 ≤ most) → AllByRecursion (λ s. s ≤ most) shape
all_sizes most [] each = tt
all_sizes most (s ∷ shape) each = (each 0 (omega arith), all_sizes most shape (λ k less. each (suc k) (omega (arith, less))))

-- each part of a line is as its form gives it
pub line_sound : (names : List (List ℕ)) (command : Command) → IsSound names command → HaveRules command → IsLineSound (line_of (form_of command))
line_sound names (Open name plan) sound rules = leaves_sound names plan.tree 0 plan.leaves sound.each rules
line_sound names (View name of transform steps) sound rules = tt
line_sound names (Join name kind layers transform steps) sound rules = tt
line_sound names (Read name steps down) sound rules = tt
line_sound names (Write name steps values) sound rules = values_fit (view values)
line_sound names (Begin atomic repeatable_read) sound rules = tt
line_sound names Commit sound rules = tt
line_sound names Abort sound rules = tt
line_sound names (Resize name shape) sound rules = all_sizes (2 ^ 62 - 2) shape sound.sizes
line_sound names (Resolve name) sound rules = tt
