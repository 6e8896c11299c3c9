-- What a Spec builds over small arrays is small, and each node of it has a path of UTF-8.
use Rattle.std.proofs.Common.{◌≡◌, ◌∙◌, ℕ, zero, suc, ◌*◌, ◌<◌, ◌≤◌, ◌^◌, nat_eq, nat_le, max, Bool, true, false, cond, codes, decimal, List, [], ◌∷◌, ◌++◌, length, map, get_or, Option, Some, None, option_and_then, is_some, unwrap_or, Result, Ok, Err, IsUtf8, refl, sym, ap, subst, arith}
use Rattle.std.specs.List.{AllByRecursion}
use Rattle.std.specs.Str.{bytes_eq}
use Rattle.std.proofs.lemmas.Str.{IsUtf8-append, IsUtf8-nil}
use Rattle.json.proofs.Printed.Utf8.{IsUtf8-are_ascii, are_ascii}
use Rattle.serde_json.specs.Data.{Data}
use Rattle.serde_json.specs.Find.{get, as_object, as_str}
use Rattle.json_forms.specs.Lists.{list_items}
use Rattle.json_forms.specs.Members.{least_unknown}
use Rattle.cells.specs.Places.{cell_count}
use Rattle.cells.specs.declared.dtype.Dtype.{Dtype}
use Rattle.index_transform.specs.Identity.{identity_over}
use Rattle.index_transform.specs.Transforms.{DomainAndMaps}
use Rattle.transform_composition.specs.declared.error.ComposeError.{ComposeError}
use Rattle.transform_json.specs.Transforms.{transform_of}
use Rattle.transform_json.specs.declared.error.JsonError.{JsonError}
use Rattle.transform_json.specs.declared.error.JsonError.TheVariants as json
use Rattle.stack_driver.specs.Arrays.{whole_view}
use Rattle.stack_driver.specs.Changes.{moved}
use Rattle.stack_driver.specs.References.{Reference}
use Rattle.stack_driver.specs.Stacks.{stacked_domain, first_unlike, unless_unlike, stack_answer}
use Rattle.stack_driver.specs.declared.view.View.{View}
use Rattle.stack_driver.specs.declared.view.View.TheVariants as view
use Rattle.spec_open.specs.Built.{composed_at, through, through_if, cast_if, before, all_built, of_dtype, stacked_at, stacked_if, no_array, built_step, built}
use Rattle.spec_open.specs.Nodes.{Read, Reader, few_leaves, leaf_node, base_at, cast_in, cast_members, Layers, layers_behind, few_layers, layers_of, layers_at, stack_in, stack_members}
use Rattle.spec_open.specs.declared.error.BuildError.{BuildError}
use Rattle.spec_open.specs.declared.error.BuildError.TheVariants.{Refused}
use Rattle.spec_open.specs.declared.tree.Tree.{Tree, fold-roll-Tree}
use Rattle.spec_open.specs.declared.tree.Tree.TheOpen.{Tree-F}
use Rattle.spec_open.specs.declared.tree.Tree.TheVariants as tree
use Rattle.spec_open.specs.declared.error.BuildCause.TheVariants as build
use Rattle.line_forms.specs.Faults.{◌>>=◌, joined, at_path, none_left, in_turn, judged_in_turn}
use Rattle.line_forms.specs.Leaves.{IsSoundLeaf}
use Rattle.line_forms.specs.Members.{judged_dtype, judged_absent, required, placed, transform_at, tail_at, false_at}
use Rattle.line_forms.specs.Specs.{driver_named, judged_driver, driver_at, node_by, node_of, inner_of, spec_at, plan_of, plan_of_spec}
use Rattle.line_forms.specs.declared.OpenPlan.{OpenPlan}
use Rattle.line_forms.specs.declared.SpecError.{SpecError}
use Rattle.line_forms.specs.declared.SpecError.TheVariants as spec
use Rattle.line_forms.specs.declared.SpecLeaf.{SpecLeaf}
use Rattle.line_forms.specs.declared.SpecLeaf.TheVariants.{Zarr, N5, Zarr3, Given}
use Rattle.line_forms.proofs.Laws.{plan_sound}
use Rattle.transcript_laws.specs.Openings as openings
use Rattle.transcript_laws.specs.Transcript.{mount}
use Rattle.output_laws.specs.Held.{IsHeld}
use Rattle.output_laws.specs.TextSpecs.{IsTextPlace, IsTextPlanned, SpecsAreTexts}
use Rattle.output_laws.proofs.HeldData.{May, get_held, AreItems, items_held}
use Rattle.output_laws.proofs.HeldTransforms.{transform_reads}
use Rattle.output_laws.proofs.OutcomeTexts.{decimal_text}
use Rattle.output_laws.proofs.PlanRanks.{ok-of, only, turn-of, nested-of, either}
use Rattle.output_laws.proofs.SmallForms.{IsSmallPlan, IsSmallPlanned, SpecsAreSmall}
use Rattle.output_laws.proofs.SmallLines.{IsSmallBuilt, IsSmallBuild}
use Rattle.output_laws.proofs.SmallMaps.{all_at, IsFurther}
use Rattle.output_laws.proofs.SmallViews.{IsSmallView, IsMoved, moved_small, IsSmallRef, whole_small, stack_small, cast_small}
use Rattle.output_laws.proofs.TextEvents.{IsTextLeaf}

closed : (s : List ℕ) → are_ascii s ≡ true → IsUtf8 s
closed s is = IsUtf8-are_ascii s is

pub joined_text : (path inner : List ℕ) → IsUtf8 path → IsUtf8 inner → IsUtf8 (joined path inner)
joined_text [] inner one two = two
joined_text (b ∷ path) inner one two = IsUtf8-append (b ∷ path) (47 ∷ inner) one (IsUtf8-append (47 ∷ []) inner (closed (47 ∷ []) refl) two)

-- ---- what is built

abbrev IsSmallRefusal : BuildError → Type 0
IsSmallRefusal e = IsSmallBuilt (openings.by_built (Err e))

record Gives (r : Result View BuildError) : Type 0 where
  are : (made : View) → r ≡ Ok made → IsSmallView made
  why : (e : BuildError) → r ≡ Err e → IsSmallRefusal e

record GiveAll (r : Result (List View) BuildError) : Type 0 where
  are : (made : List View) → r ≡ Ok made → AllByRecursion IsSmallView made
  why : (e : BuildError) → r ≡ Err e → IsSmallRefusal e

one : (v : View) → IsSmallView v → Gives (Ok v)
one v is = record { are = λ made e. let same : v ≡ made = cc in subst IsSmallView same is; why = λ x e. absurd (let no_such : ⊥ = cc in no_such) }

refusing : (e : BuildError) → IsSmallRefusal e → Gives (Err e)
refusing e is = record { are = λ made x. absurd (let no_such : ⊥ = cc in no_such); why = λ x same_as. let same : e ≡ x = cc in subst IsSmallRefusal same is }

some : (vs : List View) → AllByRecursion IsSmallView vs → GiveAll (Ok vs)
some vs are = record { are = λ made e. let same : vs ≡ made = cc in subst (AllByRecursion IsSmallView) same are; why = λ x e. absurd (let no_such : ⊥ = cc in no_such) }

none : (e : BuildError) → IsSmallRefusal e → GiveAll (Err e)
none e is = record { are = λ made x. absurd (let no_such : ⊥ = cc in no_such); why = λ x same_as. let same : e ≡ x = cc in subst IsSmallRefusal same is }

through_small : (at : List ℕ) (u : Option DomainAndMaps) (v : View) → IsUtf8 at → May IsFurther u → IsSmallView v → Gives (through at u v)
through_small at None v text may is = one v is
through_small at (Some t) v text may is = go (moved v t) (moved_small v t is may)
  where
    go : (r : Result View ComposeError) → IsMoved r → Gives (composed_at at r)
    go (Ok w) small = one w small
    go (Err cause) fault = refusing (Refused (joined at (codes "transform")) (build.Transform cause)) (joined_text at (codes "transform") text (closed (codes "transform") refl), fault)

through_if_small : (at : List ℕ) (u : Option DomainAndMaps) (r : Result View BuildError) → IsUtf8 at → May IsFurther u → Gives r → Gives (through_if at u r)
through_if_small at u (Ok v) text may g = through_small at u v text may (g.are v refl)
through_if_small at u (Err e) text may g = refusing e (g.why e refl)

cast_if_small : (to : Dtype) (r : Result View BuildError) → Gives r → Gives (cast_if to r)
cast_if_small to (Ok v) g = one (view.Cast to v) (cast_small to v (g.are v refl))
cast_if_small to (Err e) g = refusing e (g.why e refl)

before_small : (v : View) (r : Result (List View) BuildError) → IsSmallView v → GiveAll r → GiveAll (before v r)
before_small v (Ok vs) is g = some (v ∷ vs) (is, g.are vs refl)
before_small v (Err e) is g = none e (g.why e refl)

all_small : (rs : List (Result View BuildError)) → AllByRecursion Gives rs → GiveAll (all_built rs)
all_small [] all = some [] tt
all_small (Ok v ∷ rest) all = before_small v (all_built rest) (all.0.are v refl) (all_small rest all.1)
all_small (Err e ∷ rest) all = none e (all.0.why e refl)

of_dtype_small : (at : List ℕ) (dtype : Option Dtype) (v : View) → IsUtf8 at → IsSmallView v → Gives (of_dtype at dtype v)
of_dtype_small at None v text is = one v is
of_dtype_small at (Some dtype) v text is = by _
  where
    by : (test : Bool) → Gives (cond test (Ok v) (Err (Refused at build.Layers)))
    by true = one v is
    by false = refusing (Refused at build.Layers) (text, tt)

stacks_small : (at : List ℕ) (dtype : Option Dtype) (layers : List View) → IsUtf8 at → AllByRecursion IsSmallView layers → Gives (stacked_at at dtype (stack_answer layers))
stacks_small at dtype layers text all = by (first_unlike layers)
  where
    by : (o : Option ℕ) → Gives (stacked_at at dtype (unless_unlike o layers))
    by None = of_dtype_small at dtype (view.Stack layers (identity_over (stacked_domain layers))) text (stack_small layers all)
    by (Some layer) = refusing (Refused at build.Layers) (text, tt)

stacked_if_small : (at : List ℕ) (dtype : Option Dtype) (r : Result (List View) BuildError) → IsUtf8 at → GiveAll r → Gives (stacked_if at dtype r)
stacked_if_small at dtype (Ok views) text g = stacks_small at dtype views text (g.are views refl)
stacked_if_small at dtype (Err e) text g = refusing e (g.why e refl)

-- ---- trees

-- what a tree builds over small arrays is small, and the paths of its nodes are UTF-8
record Builds (t : Tree) : Type 0 where
  over : (arrays : List Reference) → AllByRecursion IsSmallRef arrays → Gives (built arrays t)
  nodes : (number : ℕ) → May IsUtf8 (openings.node_of number t)

no_array_small : IsSmallRef no_array
no_array_small = record { few = omega arith; sizes = tt }

leaf_builds : (leaf : ℕ) (u : Option DomainAndMaps) (at : List ℕ) → IsUtf8 at → May IsFurther u → Builds (tree.Leaf leaf u at)
leaf_builds leaf u at text may = record {
  over = λ arrays all.
      subst Gives (sym (ap (built arrays) (sym (tree.rolls-Leaf leaf u at)) ∙ fold-roll-Tree (Result View BuildError) (built_step arrays) (Tree-F.Leaf leaf u at)))
      (through_small at u (whole_view (get_or arrays leaf no_array)) text may (whole_small (get_or arrays leaf no_array) (all_at IsSmallRef no_array arrays leaf no_array_small all)));
  nodes = λ number.
      subst (May IsUtf8) (sym (ap (openings.node_of number) (sym (tree.rolls-Leaf leaf u at)) ∙ fold-roll-Tree (Option (List ℕ)) (openings.node_step number) (Tree-F.Leaf leaf u at))) (here (nat_eq leaf number));
}
  where
    here : (t : Bool) → May IsUtf8 (cond t (Some at) None)
    here true = text
    here false = tt

cast_builds : (to : Dtype) (base : Tree) (u : Option DomainAndMaps) (at : List ℕ) → IsUtf8 at → May IsFurther u → Builds base → Builds (tree.Cast to base u at)
cast_builds to base u at text may b = record {
  over = λ arrays all.
      subst Gives (sym (ap (built arrays) (sym (tree.rolls-Cast to base u at)) ∙ fold-roll-Tree (Result View BuildError) (built_step arrays) (Tree-F.Cast to base u at)))
      (through_if_small at u (cast_if to (built arrays base)) text may (cast_if_small to (built arrays base) (b.over arrays all)));
  nodes = λ number.
      subst (May IsUtf8) (sym (ap (openings.node_of number) (sym (tree.rolls-Cast to base u at)) ∙ fold-roll-Tree (Option (List ℕ)) (openings.node_step number) (Tree-F.Cast to base u at))) (b.nodes number);
}

layers_build : (arrays : List Reference) (layers : List Tree) → AllByRecursion IsSmallRef arrays → AllByRecursion Builds layers → AllByRecursion Gives (map (built arrays) layers)
layers_build arrays [] all each = tt
layers_build arrays (l ∷ layers) all each = (each.0.over arrays all, layers_build arrays layers all each.1)

first_node : (number : ℕ) (layers : List Tree) → AllByRecursion Builds layers → May IsUtf8 (openings.first_path (map (openings.node_of number) layers))
first_node number [] each = tt
first_node number (l ∷ layers) each = go (openings.node_of number l) (each.0.nodes number) (first_node number layers each.1)
  where
    go : (o : Option (List ℕ)) → May IsUtf8 o → May IsUtf8 (openings.first_path (map (openings.node_of number) layers)) → May IsUtf8 (openings.first_path (o ∷ map (openings.node_of number) layers))
    go None may rest = rest
    go (Some path) may rest = may

stack_builds : (layers : List Tree) (dtype : Option Dtype) (u : Option DomainAndMaps) (at : List ℕ) → IsUtf8 at → May IsFurther u → AllByRecursion Builds layers → Builds (tree.Stack layers dtype u at)
stack_builds layers dtype u at text may each = record {
  over = λ arrays all.
      subst Gives (sym (ap (built arrays) (sym (tree.rolls-Stack layers dtype u at)) ∙ fold-roll-Tree (Result View BuildError) (built_step arrays) (Tree-F.Stack layers dtype u at)))
      (through_if_small at u (stacked_if at dtype (all_built (map (built arrays) layers))) text may
      (stacked_if_small at dtype (all_built (map (built arrays) layers)) text (all_small (map (built arrays) layers) (layers_build arrays layers all each))));
  nodes = λ number.
      subst (May IsUtf8) (sym (ap (openings.node_of number) (sym (tree.rolls-Stack layers dtype u at)) ∙ fold-roll-Tree (Option (List ℕ)) (openings.node_step number) (Tree-F.Stack layers dtype u at))) (first_node number layers each);
}

-- ---- what is read

module _ (n : ℕ) where
  given_further : (path : List ℕ) (o : Option Data) (u : Option DomainAndMaps) → May (IsHeld n) o → transform_at path o ≡ Ok u → May IsFurther u
  unfolding transform_at
  given_further path None u may e = let same : None ≡ u = cc in subst (May IsFurther) same tt
  given_further path (Some d) u may e = by (transform_of d) refl e
    where
      by : (r : Result DomainAndMaps JsonError) → transform_of d ≡ r → placed path d r ≡ Ok u → May IsFurther u
      by (Ok t) is given = let same : Some t ≡ u = cc in subst (May IsFurther) same ((transform_reads n d may).each t is)
      by (Err (json.BadMember inner)) is given = absurd (let no_such : ⊥ = cc in no_such)
      by (Err json.Memory) is given = absurd (let no_such : ⊥ = cc in no_such)

  -- the transform of a node
  tail_further : (path : List ℕ) (unknown : Option (List ℕ)) (d : Data) (o : Option DomainAndMaps) → IsHeld n d → tail_at path unknown d ≡ Ok o → May IsFurther o
  unfolding tail_at
  tail_further path unknown d o held e =
      let a = ok-of (judged_in_turn path unknown (codes "rank") (judged_absent (get (codes "rank") d))) _ o e in
      let b = ok-of (judged_in_turn path unknown (codes "schema") (judged_absent (get (codes "schema") d))) _ o a.1.1 in
      let c = ok-of (false_at (codes "store_data_equal_to_fill_value") path unknown d) _ o b.1.1 in
      let t = ok-of (in_turn path unknown (codes "transform") (transform_at (joined path (codes "transform")) (get (codes "transform") d))) _ o c.1.1 in
      let z = ok-of (none_left path unknown) _ o t.1.1 in
      subst (May IsFurther) (only t.0 o z.1.1)
      (given_further (joined path (codes "transform")) (get (codes "transform") d) t.0 (get_held n (codes "transform") d held) (turn-of path unknown (codes "transform") _ t.0 t.1.0))

  -- what is read of a value builds so
  abbrev Good : Reader → Type 0
  Good read = (path : List ℕ) (leaves : List SpecLeaf) (d : Data) (r : Read) → IsUtf8 path → IsHeld n d → read path leaves d ≡ Ok r → Builds r.tree

  leaf_good : (path : List ℕ) (unknown : Option (List ℕ)) (leaves : List SpecLeaf) (d : Data) (given : Result SpecLeaf SpecError) (r : Read) → IsUtf8 path → IsHeld n d → leaf_node path unknown leaves d given ≡ Ok r → Builds r.tree
  unfolding leaf_node
  leaf_good path unknown leaves d given r text held e =
      let one = ok-of (few_leaves path leaves) _ r e in
      let two = ok-of given _ r one.1.1 in
      let three = ok-of (tail_at path unknown d) _ r two.1.1 in
      subst (λ (s : Read). Builds s.tree) (only _ r three.1.1) (leaf_builds (length leaves) three.0 path text (tail_further path unknown d three.0 held three.1.0))

  base_good : (read : Reader) → Good read → (path : List ℕ) (leaves : List SpecLeaf) (o : Option Data) (r : Read) → IsUtf8 path → May (IsHeld n) o → base_at read path leaves o ≡ Ok r → Builds r.tree
  unfolding base_at
  base_good read good path leaves None r text may e = absurd (let no_such : ⊥ = cc in no_such)
  base_good read good path leaves (Some d) r text may e = good path leaves d r text may e

  cast_good : (read : Reader) → Good read → (path : List ℕ) (unknown : Option (List ℕ)) (leaves : List SpecLeaf) (d : Data) (r : Read) → IsUtf8 path → IsHeld n d → cast_in read path unknown leaves d ≡ Ok r → Builds r.tree
  unfolding cast_in
  cast_good read good path unknown leaves d r text held e =
      let one = ok-of (false_at (codes "assume_metadata") path unknown d) _ r e in
      let two = ok-of (in_turn path unknown (codes "base") (base_at read (joined path (codes "base")) leaves (get (codes "base") d))) _ r one.1.1 in
      let three = ok-of (false_at (codes "delete_existing") path unknown d) _ r two.1.1 in
      let four = ok-of (judged_in_turn path unknown (codes "dtype") (required (judged_dtype (get (codes "dtype") d)))) _ r three.1.1 in
      let five = ok-of (tail_at path unknown d) _ r four.1.1 in
      let base =
      base_good read good (joined path (codes "base")) leaves (get (codes "base") d) two.0 (joined_text path (codes "base") text (closed (codes "base") refl)) (get_held n (codes "base") d held) (turn-of path unknown (codes "base") _ two.0 two.1.0) in
      subst (λ (s : Read). Builds s.tree) (only _ r five.1.1) (cast_builds four.0 two.0.tree five.0 path text (tail_further path unknown d five.0 held five.1.0) base)

  one_more : (ts : List Tree) (t : Tree) → AllByRecursion Builds ts → Builds t → AllByRecursion Builds (ts ++ t ∷ [])
  one_more [] t all h = (h, tt)
  one_more (u ∷ us) t all h = (all.0, one_more us t all.1 h)

  layers_good : (read : Reader) → Good read → (path : List ℕ) (trees : List Tree) (leaves : List SpecLeaf) (ds : List Data) (r : Layers) → IsUtf8 path → AllByRecursion (IsHeld n) ds → AllByRecursion Builds trees → layers_behind read path trees leaves ds ≡ Ok r
      → AllByRecursion Builds r.trees
  layers_good read good path trees leaves [] r text held all e = subst (λ (l : Layers). AllByRecursion Builds l.trees) (only _ r e) all
  layers_good read good path trees leaves (d ∷ ds) r text held all e =
      let one = ok-of (read (joined path (decimal (length trees))) leaves d) _ r e in
      let layer = good (joined path (decimal (length trees))) leaves d one.0 (joined_text path (decimal (length trees)) text (decimal_text (length trees))) held.0 one.1.0 in
      layers_good read good path (trees ++ one.0.tree ∷ []) one.0.leaves ds r text held.1 (one_more trees one.0.tree all layer) one.1.1

  few_held : (o : Option (List Data)) → May (AreItems n) o → May (AllByRecursion (IsHeld n)) (option_and_then few_layers o)
  few_held None may = tt
  few_held (Some items) may = go _
    where
      go : (t : Bool) → May (AllByRecursion (IsHeld n)) (cond t (Some items) None)
      go true = may.each
      go false = tt

  layered : (read : Reader) → Good read → (path : List ℕ) (leaves : List SpecLeaf) (o : Option (List Data)) (r : Layers) → IsUtf8 path → May (AllByRecursion (IsHeld n)) o → layers_of read path leaves o ≡ Ok r → AllByRecursion Builds r.trees
  layered read good path leaves None r text may e = absurd (let no_such : ⊥ = cc in no_such)
  layered read good path leaves (Some items) r text may e = layers_good read good path [] leaves items r text may tt e

  items_of : (o : Option Data) → May (IsHeld n) o → May (AreItems n) (option_and_then list_items o)
  items_of None may = tt
  items_of (Some d) may = items_held n d may

  stack_good : (read : Reader) → Good read → (path : List ℕ) (unknown : Option (List ℕ)) (leaves : List SpecLeaf) (d : Data) (r : Read) → IsUtf8 path → IsHeld n d → stack_in read path unknown leaves d ≡ Ok r → Builds r.tree
  unfolding stack_in layers_at
  stack_good read good path unknown leaves d r text held e =
      let one = ok-of (false_at (codes "assume_metadata") path unknown d) _ r e in
      let two = ok-of (false_at (codes "delete_existing") path unknown d) _ r one.1.1 in
      let three = ok-of (judged_in_turn path unknown (codes "dtype") (judged_dtype (get (codes "dtype") d))) _ r two.1.1 in
      let four = ok-of (in_turn path unknown (codes "layers") (layers_at read (joined path (codes "layers")) leaves (get (codes "layers") d))) _ r three.1.1 in
      let five = ok-of (tail_at path unknown d) _ r four.1.1 in
      let all =
      layered read good (joined path (codes "layers")) leaves (option_and_then few_layers (option_and_then list_items (get (codes "layers") d))) four.0 (joined_text path (codes "layers") text (closed (codes "layers") refl))
      (few_held (option_and_then list_items (get (codes "layers") d)) (items_of (get (codes "layers") d) (get_held n (codes "layers") d held))) (turn-of path unknown (codes "layers") _ four.0 four.1.0) in
      subst (λ (s : Read). Builds s.tree) (only _ r five.1.1) (stack_builds four.0.trees three.0 five.0 path text (tail_further path unknown d five.0 held five.1.0) all)

  abbrev Inner : Option Reader → Type 0
  Inner inner = (read : Reader) → inner ≡ Some read → Good read

  module _ (names : List (List ℕ)) (inner : Option Reader) (good : Inner inner) (path : List ℕ) (leaves : List SpecLeaf) (d : Data) (r : Read) (text_is : IsUtf8 path) (held : IsHeld n d) where
    -- the driver's name tells which node is read
    by_named : (at text : List ℕ) → (at_path at (driver_named text) >>= node_by names inner path leaves d) ≡ Ok r → Builds r.tree
    unfolding at_path node_by
    by_named at text =
        let none = driver_named [] in
        let stack = cond (bytes_eq text (codes "stack")) (driver_named (codes "stack")) (driver_named []) in
        let cast = cond (bytes_eq text (codes "cast")) (driver_named (codes "cast")) (cond (bytes_eq text (codes "stack")) (driver_named (codes "stack")) (driver_named [])) in
        let array = cond (bytes_eq text (codes "array")) (driver_named (codes "array")) (cond (bytes_eq text (codes "cast")) (driver_named (codes "cast")) (cond (bytes_eq text (codes "stack")) (driver_named (codes "stack")) (driver_named []))) in
        let zarr3 = cond (bytes_eq text (codes "zarr3")) (driver_named (codes "zarr3")) array in
        let n5 = cond (bytes_eq text (codes "n5")) (driver_named (codes "n5")) zarr3 in
        either (bytes_eq text (codes "zarr")) (driver_named (codes "zarr")) n5 (λ j. (at_path at j >>= node_by names inner path leaves d) ≡ Ok r → Builds r.tree) (λ e. leaf_good path _ leaves d _ r text_is held e)
        (either (bytes_eq text (codes "n5")) (driver_named (codes "n5")) zarr3 (λ j. (at_path at j >>= node_by names inner path leaves d) ≡ Ok r → Builds r.tree) (λ e. leaf_good path _ leaves d _ r text_is held e)
        (either (bytes_eq text (codes "zarr3")) (driver_named (codes "zarr3")) array (λ j. (at_path at j >>= node_by names inner path leaves d) ≡ Ok r → Builds r.tree) (λ e. leaf_good path _ leaves d _ r text_is held e)
        (either (bytes_eq text (codes "array")) (driver_named (codes "array")) cast (λ j. (at_path at j >>= node_by names inner path leaves d) ≡ Ok r → Builds r.tree) (λ e. leaf_good path _ leaves d _ r text_is held e)
        (either (bytes_eq text (codes "cast")) (driver_named (codes "cast")) stack (λ j. (at_path at j >>= node_by names inner path leaves d) ≡ Ok r → Builds r.tree)
        (λ e. let p = nested-of inner path (λ read. cast_in read path (least_unknown cast_members d) leaves d) r e in cast_good p.0 (good p.0 p.1.0) path (least_unknown cast_members d) leaves d r text_is held p.1.1)
        (either (bytes_eq text (codes "stack")) (driver_named (codes "stack")) none (λ j. (at_path at j >>= node_by names inner path leaves d) ≡ Ok r → Builds r.tree)
        (λ e. let p = nested-of inner path (λ read. stack_in read path (least_unknown stack_members d) leaves d) r e in stack_good p.0 (good p.0 p.1.0) path (least_unknown stack_members d) leaves d r text_is held p.1.1)
        (λ e. absurd (let no_such : ⊥ = cc in no_such)))))))

    by_judged : (at : List ℕ) (o : Option (List ℕ)) → (at_path at (judged_driver o) >>= node_by names inner path leaves d) ≡ Ok r → Builds r.tree
    unfolding at_path
    by_judged at None e = absurd (let no_such : ⊥ = cc in no_such)
    by_judged at (Some text) e = by_named at text e

    node_good : node_of names inner path leaves d ≡ Ok r → Builds r.tree
    unfolding node_of driver_at
    node_good e = by (option_and_then as_str (get (codes "driver") d)) (is_some (as_object d)) (is_some (as_str d)) e
      where
        by : (text : Option (List ℕ)) (b c : Bool) → (cond b (at_path (joined path (codes "driver")) (judged_driver text)) (cond c (Err (spec.Unsupported path)) (Err (spec.BadSpec path))) >>= node_by names inner path leaves d) ≡ Ok r → Builds r.tree
        by text true c given = by_judged (joined path (codes "driver")) text given
        by text false true given = absurd (let no_such : ⊥ = cc in no_such)
        by text false false given = absurd (let no_such : ⊥ = cc in no_such)

  spec_good : (names : List (List ℕ)) (room : ℕ) → Good (spec_at names room)
  unfolding inner_of
  spec_good names zero path leaves d r text held = node_good names None (λ read e. absurd (let no_such : ⊥ = cc in no_such)) path leaves d r text held
  spec_good names (suc room) path leaves d r text held =
      node_good names (Some (spec_at names room)) (λ read e. let same : spec_at names room ≡ read = cc in subst Good same (spec_good names room)) path leaves d r text held

  -- what the plan of a Spec builds
  plan_builds : (names : List (List ℕ)) (d : Data) (plan : OpenPlan) → IsHeld n d → plan_of_spec names d ≡ Ok plan → Builds plan.tree
  plan_builds names d plan held e =
      let p = ok-of (spec_at names 16 [] [] d) _ plan e in
      subst (λ (q : OpenPlan). Builds q.tree) (only (plan_of p.0) plan p.1.1) (spec_good names 16 [] [] d p.0 IsUtf8-nil held p.1.0)

-- ---- plans

above_max : (s : ℕ) → (1 ≤ max 1 s) × (s ≤ max 1 s)
above_max s = (omega arith, omega arith)

both_some : (a b : ℕ) → 1 ≤ a → 1 ≤ b → 1 ≤ a * b
both_some zero b one two = absurd (omega (arith, one))
both_some (suc a) b one two = omega (arith, two)

some_cells : (shape : List ℕ) → 1 ≤ cell_count (map (max 1) shape)
some_cells [] = omega arith
some_cells (s ∷ shape) = both_some (max 1 s) (cell_count (map (max 1) shape)) (above_max s).0 (some_cells shape)

first_low : (a b most : ℕ) → 1 ≤ b → a * b ≤ most → a ≤ most
first_low a zero most some low = absurd (omega (arith, some))
first_low a (suc b) most some low = omega (arith, low)

second_low : (a b most : ℕ) → 1 ≤ a → a * b ≤ most → b ≤ most
second_low zero b most some low = absurd (omega (arith, some))
second_low (suc a) b most some low = omega (arith, low)

sizes_low : (shape : List ℕ) → cell_count (map (max 1) shape) ≤ 2 ^ 22 → AllByRecursion (λ size. size < 2 ^ 63) shape
sizes_low [] low = tt
sizes_low (s ∷ shape) low =
    let above = above_max s in
    let one = first_low (max 1 s) (cell_count (map (max 1) shape)) (2 ^ 22) (some_cells shape) low in
    let most = above.1 in
    (omega (arith, one, most), sizes_low shape (second_low (max 1 s) (cell_count (map (max 1) shape)) (2 ^ 22) above.0 low))

leaf_text : (names : List (List ℕ)) (node : List ℕ) (leaf : SpecLeaf) → IsUtf8 node → IsTextPlace leaf → IsSoundLeaf names leaf → IsTextLeaf (openings.leaf_of node leaf)
leaf_text names node (Zarr store path want may_open may_create) text place is = (text, place.0, place.1)
leaf_text names node (N5 store path want may_open may_create) text place is = (text, place.0, place.1)
leaf_text names node (Zarr3 store path want may_open may_create) text place is = (text, place.0, place.1)
leaf_text names node (Given start) text place is = sizes_low start.shape is.small

leaves_text : (names : List (List ℕ)) (t : Tree) (number : ℕ) (leaves : List SpecLeaf) → Builds t → AllByRecursion IsTextPlace leaves → AllByRecursion (IsSoundLeaf names) leaves → AllByRecursion IsTextLeaf (openings.leaves_from t number leaves)
leaves_text names t number [] b places sound = tt
leaves_text names t number (leaf ∷ leaves) b places sound = (leaf_text names (unwrap_or (openings.node_of number t) []) leaf (or_empty (openings.node_of number t) (b.nodes number)) places.0 sound.0, leaves_text names t (suc number) leaves b places.1 sound.1)
  where
    or_empty : (o : Option (List ℕ)) → May IsUtf8 o → IsUtf8 (unwrap_or o [])
    or_empty None may = IsUtf8-nil
    or_empty (Some node) may = may

build_small : (plan : OpenPlan) → Builds plan.tree → IsSmallBuild (openings.build_of plan)
build_small plan b arrays all = enough (nat_le (length plan.leaves) (length arrays))
  where
    by : (r : Result View BuildError) → Gives r → IsSmallBuilt (openings.by_built r)
    by (Ok v) g = g.are v refl
    by (Err e) g = g.why e refl

    enough : (test : Bool) → IsSmallBuilt (cond test (openings.by_built (built arrays plan.tree)) (openings.by_built (Err (Refused [] build.Layers))))
    enough true = by (built arrays plan.tree) (b.over arrays all)
    enough false = (IsUtf8-nil, tt)

-- the plan of a Spec is small, where its stored arrays lie at texts of UTF-8
plan_small : (n : ℕ) (d : Data) (plan : OpenPlan) → IsHeld n d → plan_of_spec (mount ∷ []) d ≡ Ok plan → AllByRecursion IsTextPlace plan.leaves → IsSmallPlan plan
plan_small n d plan held is places =
    let b = plan_builds n (mount ∷ []) d plan held is in
    let sound = plan_sound (mount ∷ []) d plan is in
    record { leaves = leaves_text (mount ∷ []) plan.tree 0 plan.leaves b places sound.each; built = build_small plan b }

-- so Specs are small of which this is known
pub specs_small : SpecsAreTexts → SpecsAreSmall
specs_small texts n d held = by (plan_of_spec (mount ∷ []) d) refl (texts n d held)
  where
    by : (r : Result OpenPlan SpecError) → plan_of_spec (mount ∷ []) d ≡ r → IsTextPlanned r → IsSmallPlanned r
    by (Ok plan) is places = plan_small n d plan held is places
    by (Err e) is text = text
