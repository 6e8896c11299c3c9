-- The plan of a Spec is sound: its leaves one by one, and its tree over them.
use Rattle.std.proofs.Common.{◌≡◌, ◌<◌, ◌≤◌, ◌+◌, ◌∙◌, ℕ, zero, suc, Bool, true, false, cond, inl, inr, List, [], ◌∷◌, ◌++◌, length, Option, Some, None, Result, Ok, Err, refl, sym, ap, subst, arith, length-append, leb}
use Rattle.std.specs.Prelude.{codes, decimal, option_and_then, ◌&&◌, nat_le, nat_lt, map}
use Rattle.std.specs.List.{AllByRecursion}
use Rattle.serde_json.specs.Data.{Data}
use Rattle.serde_json.specs.Find.{get}
use Rattle.json_forms.specs.Lists.{list_items}
use Rattle.json_forms.specs.Members.{least_unknown}
use Rattle.spec_open.specs.declared.driver.Driver.{Driver}
use Rattle.spec_open.specs.declared.driver.Driver.TheVariants.{Stored, Array, Cast, Stack}
use Rattle.spec_forms.specs.declared.error.SpecError.{SpecError}
use Rattle.spec_forms.specs.declared.error.SpecError.TheVariants as spec
use Rattle.spec_forms.specs.declared.leaf.SpecLeaf.{SpecLeaf}
use Rattle.spec_open.specs.declared.plan.OpenPlan.{OpenPlan}
use Rattle.spec_open.specs.declared.tree.Tree.{Tree}
use Rattle.spec_open.specs.Conditions.{IsTree, greatest, nesting, IsSoundPlan}
use Rattle.spec_forms.specs.Faults.{◌>>=◌, joined, in_turn, judged_in_turn}
use Rattle.spec_forms.specs.Members.{judged_dtype, required, tail_at, false_at}
use Rattle.spec_open.specs.Nodes.{Read, Reader, few_leaves, leaf_node, base_at, cast_in, cast_members, Layers, layers_behind, few_layers, layers_of, layers_at, stack_in, stack_members}
use Rattle.spec_forms.specs.Numbers.{given_members, given_at}
use Rattle.spec_open.specs.Specs.{nested, node_by, node_of, inner_of, spec_at, driver_at, plan_of, plan_of_spec}
use Rattle.spec_forms.specs.Stored.{stored_members, stored_at}
use Rattle.spec_forms.specs.Leaves.{IsSoundLeaf}
use Rattle.spec_forms.proofs.Laws.{ok-of, turn-of, stored_sound, given_sound}
use Rattle.spec_open.proofs.Nesting.{nesting-leaf, nesting-cast, nesting-stack, one_nested}
use Rattle.spec_open.proofs.Trees.{leaf_tree, cast_tree, stack_tree}
use Rattle.cells.proofs.Laws.{both}
use Rattle.std.proofs.lemmas.Bool.Decides.{leb_tells, nat_tests}

abbrev ok_as : {A : Type 0} → A → Result A SpecError
ok_as a = Ok a

-- leaves are added, which stay few and sound; the tree has its leaves among them, and nests so deep at most
record Grows (names : List (List ℕ)) (room : ℕ) (before : List SpecLeaf) (r : Read) : Type 0 where
  more : length before < length r.leaves
  few : length before ≤ 256 → length r.leaves ≤ 256
  each : AllByRecursion (IsSoundLeaf names) before → AllByRecursion (IsSoundLeaf names) r.leaves
  tree : (n : ℕ) → length r.leaves ≤ n → IsTree n r.tree
  flat : nesting r.tree ≤ room

abbrev Good : List (List ℕ) → ℕ → Reader → Type 0
Good names room read = (path : List ℕ) (leaves : List SpecLeaf) (d : Data) (r : Read) → read path leaves d ≡ Ok r → Grows names room leaves r

only : {A : Type 0} (a b : A) → ok_as a ≡ Ok b → a ≡ b
only a b e = cc

one_more : {A : Type 0} (P : A → Type 0) (ts : List A) (t : A) → AllByRecursion P ts → P t → AllByRecursion P (ts ++ t ∷ [])
one_more P [] t all h = (h, tt)
one_more P (u ∷ us) t all h = (all.0, one_more P us t all.1 h)

few-below : (path : List ℕ) (leaves : List SpecLeaf) (u : Unit {0}) → few_leaves path leaves ≡ Ok u → length leaves < 256
unfolding few_leaves
few-below path leaves u e = by (nat_lt (length leaves) 256) refl e
  where
    by : (test : Bool) → nat_lt (length leaves) 256 ≡ test → cond test (ok_as tt) (Err (spec.BadSpec path)) ≡ Ok u → length leaves < 256
    by true is same = grind (arith, nat_tests, is)
    by false is same = absurd cc

leaf_good : (names : List (List ℕ)) (room : ℕ) (path : List ℕ) (unknown : Option (List ℕ)) (leaves : List SpecLeaf) (d : Data) (given : Result SpecLeaf SpecError) (r : Read)
    → ((leaf : SpecLeaf) → given ≡ Ok leaf → IsSoundLeaf names leaf) → leaf_node path unknown leaves d given ≡ Ok r → Grows names room leaves r
unfolding leaf_node
leaf_good names room path unknown leaves d given r sound e =
    let one = ok-of (few_leaves path leaves) _ r e in
    let two = ok-of given _ r one.1.1 in
    let three = ok-of (tail_at path unknown d) _ r two.1.1 in
    let count = length-append leaves (two.0 ∷ []) in
    let below = few-below path leaves one.0 one.1.0 in
    let deep = nesting-leaf (length leaves) three.0 path in
    subst (Grows names room leaves) (only _ r three.1.1)
    (record {
      more = omega (arith, count);
      few = λ _. omega (arith, count, below);
      each = λ all. one_more (IsSoundLeaf names) leaves two.0 all (sound two.0 two.1.0);
      tree = λ n few. leaf_tree n (length leaves) three.0 path (omega (arith, count, few));
      flat = omega (arith, deep);
    })

base_good : (names : List (List ℕ)) (room : ℕ) (read : Reader) → Good names room read → (path : List ℕ) (leaves : List SpecLeaf) (o : Option Data) (r : Read)
    → base_at read path leaves o ≡ Ok r → Grows names room leaves r
unfolding base_at
base_good names room read good path leaves None r e = absurd (let no_such : ⊥ = cc in no_such)
base_good names room read good path leaves (Some d) r e = good path leaves d r e

cast_good : (names : List (List ℕ)) (room : ℕ) (read : Reader) → Good names room read → (path : List ℕ) (unknown : Option (List ℕ)) (leaves : List SpecLeaf) (d : Data) (r : Read)
    → cast_in read path unknown leaves d ≡ Ok r → Grows names (suc room) leaves r
unfolding cast_in
cast_good names room read good path unknown leaves d r e =
    let one = ok-of (false_at (codes "assume_metadata") path unknown d) _ r e in
    let two = ok-of (in_turn path unknown (codes "base") (base_at read (joined path (codes "base")) leaves (get (codes "base") d))) _ r one.1.1 in
    let three = ok-of (false_at (codes "delete_existing") path unknown d) _ r two.1.1 in
    let four = ok-of (judged_in_turn path unknown (codes "dtype") (required (judged_dtype (get (codes "dtype") d)))) _ r three.1.1 in
    let five = ok-of (tail_at path unknown d) _ r four.1.1 in
    let base = base_good names room read good (joined path (codes "base")) leaves (get (codes "base") d) two.0 (turn-of path unknown (codes "base") _ two.0 two.1.0) in
    let deep = nesting-cast four.0 two.0.tree five.0 path in
    let under = base.flat in
    subst (Grows names (suc room) leaves) (only _ r five.1.1)
    (record {
      more = base.more;
      few = base.few;
      each = base.each;
      tree = λ n few. cast_tree n four.0 two.0.tree five.0 path (base.tree n few);
      flat = omega (arith, deep, under);
    })

-- further layers, of which there are so many
record Stacked (names : List (List ℕ)) (room : ℕ) (trees : List Tree) (before : List SpecLeaf) (count : ℕ) (r : Layers) : Type 0 where
  more : length before + count ≤ length r.leaves
  few : length before ≤ 256 → length r.leaves ≤ 256
  each : AllByRecursion (IsSoundLeaf names) before → AllByRecursion (IsSoundLeaf names) r.leaves
  layers : (n : ℕ) → length r.leaves ≤ n → AllByRecursion (IsTree n) trees → AllByRecursion (IsTree n) r.trees
  counted : length r.trees ≡ length trees + count
  flat : greatest (map nesting trees) ≤ room → greatest (map nesting r.trees) ≤ room

layers_good : (names : List (List ℕ)) (room : ℕ) (read : Reader) → Good names room read → (path : List ℕ) (trees : List Tree) (leaves : List SpecLeaf) (ds : List Data) (r : Layers)
    → layers_behind read path trees leaves ds ≡ Ok r → Stacked names room trees leaves (length ds) r
layers_good names room read good path trees leaves [] r e =
    subst (Stacked names room trees leaves 0) (only _ r e)
    (record { more = omega arith; few = λ h. h; each = λ h. h; layers = λ n few all. all; counted = omega arith; flat = λ h. h })
layers_good names room read good path trees leaves (d ∷ ds) r e =
    let one = ok-of (read (joined path (decimal (length trees))) leaves d) _ r e in
    let layer = good (joined path (decimal (length trees))) leaves d one.0 one.1.0 in
    let rest = layers_good names room read good path (trees ++ one.0.tree ∷ []) one.0.leaves ds r one.1.1 in
    let first = layer.more in
    let others = rest.more in
    let count = rest.counted in
    let total = length-append trees (one.0.tree ∷ []) in
    record {
      more = omega (arith, first, others);
      few = λ h. rest.few (layer.few h);
      each = λ h. rest.each (layer.each h);
      layers = λ n few all. rest.layers n few (one_more (IsTree n) trees one.0.tree all (layer.tree n (omega (arith, others, few))));
      counted = omega (arith, count, total);
      flat = λ h. rest.flat (one_nested room trees one.0.tree h layer.flat);
    }

chosen : (ds items : List Data) (test : Bool) → (test ≡ true → (1 ≤ length ds) × (length ds ≤ 256)) → cond test (Some ds) None ≡ Some items → (1 ≤ length items) × (length items ≤ 256)
chosen ds items true bounds e = let same : ds ≡ items = cc in subst (λ l. (1 ≤ length l) × (length l ≤ 256)) same (bounds refl)
chosen ds items false bounds e = absurd (let no_such : ⊥ = cc in no_such)

at_most_of : (a b : ℕ) → leb a b ≡ true → a ≤ b
at_most_of a b e = elim (leb_tells a b) [ inl h ↦ h.1 | inr h ↦ absurd (let no_such : ⊥ = cc in no_such) ]

few-of : (p : Option (List Data)) (items : List Data) → option_and_then few_layers p ≡ Some items → (1 ≤ length items) × (length items ≤ 256)
few-of None items e = absurd (let no_such : ⊥ = cc in no_such)
few-of (Some ds) items e =
    chosen ds items (nat_le 1 (length ds) && nat_le (length ds) 256)
    (λ t. let parts = both (nat_le 1 (length ds)) (nat_le (length ds) 256) t in (at_most_of 1 (length ds) parts.0, at_most_of (length ds) 256 parts.1)) e

-- the layers of a stack
record Layered (names : List (List ℕ)) (room : ℕ) (before : List SpecLeaf) (r : Layers) : Type 0 where
  more : length before < length r.leaves
  kept : length before ≤ 256 → length r.leaves ≤ 256
  each : AllByRecursion (IsSoundLeaf names) before → AllByRecursion (IsSoundLeaf names) r.leaves
  layers : (n : ℕ) → length r.leaves ≤ n → AllByRecursion (IsTree n) r.trees
  some : 0 < length r.trees
  few : length r.trees ≤ 256
  flat : greatest (map nesting r.trees) ≤ room

layered : (names : List (List ℕ)) (room : ℕ) (read : Reader) → Good names room read → (path : List ℕ) (leaves : List SpecLeaf) (o : Option (List Data)) (r : Layers)
    → ((items : List Data) → o ≡ Some items → (1 ≤ length items) × (length items ≤ 256)) → layers_of read path leaves o ≡ Ok r → Layered names room leaves r
layered names room read good path leaves None r few e = absurd (let no_such : ⊥ = cc in no_such)
layered names room read good path leaves (Some items) r few e =
    let all = layers_good names room read good path [] leaves items r e in
    let bounds = few items refl in
    let count = all.counted in
    let more = all.more in
    record {
      more = omega (arith, more, bounds.0);
      kept = all.few;
      each = all.each;
      layers = λ n enough. all.layers n enough tt;
      some = omega (arith, count, bounds.0);
      few = omega (arith, count, bounds.1);
      flat = all.flat (omega arith);
    }

stack_good : (names : List (List ℕ)) (room : ℕ) (read : Reader) → Good names room read → (path : List ℕ) (unknown : Option (List ℕ)) (leaves : List SpecLeaf) (d : Data) (r : Read)
    → stack_in read path unknown leaves d ≡ Ok r → Grows names (suc room) leaves r
unfolding stack_in layers_at
stack_good names room read good path unknown leaves d r e =
    let one = ok-of (false_at (codes "assume_metadata") path unknown d) _ r e in
    let two = ok-of (false_at (codes "delete_existing") path unknown d) _ r one.1.1 in
    let three = ok-of (judged_in_turn path unknown (codes "dtype") (judged_dtype (get (codes "dtype") d))) _ r two.1.1 in
    let four = ok-of (in_turn path unknown (codes "layers") (layers_at read (joined path (codes "layers")) leaves (get (codes "layers") d))) _ r three.1.1 in
    let five = ok-of (tail_at path unknown d) _ r four.1.1 in
    let all = layered names room read good (joined path (codes "layers")) leaves (option_and_then few_layers (option_and_then list_items (get (codes "layers") d))) four.0
    (few-of (option_and_then list_items (get (codes "layers") d))) (turn-of path unknown (codes "layers") _ four.0 four.1.0) in
    let deep = nesting-stack four.0.trees three.0 five.0 path in
    let under = all.flat in
    subst (Grows names (suc room) leaves) (only _ r five.1.1)
    (record {
      more = all.more;
      few = all.kept;
      each = all.each;
      tree = λ n enough. stack_tree n four.0.trees three.0 five.0 path (all.layers n enough) all.some all.few;
      flat = omega (arith, deep, under);
    })

nested-of : (inner : Option Reader) (path : List ℕ) (f : Reader → Result Read SpecError) (r : Read) → nested inner path f ≡ Ok r → (read : Reader) × ((inner ≡ Some read) × (f read ≡ Ok r))
nested-of None path f r e = absurd (let no_such : ⊥ = cc in no_such)
nested-of (Some read) path f r e = (read, (refl, e))

-- what reads the Specs in a node, if anything does, nests less deep
abbrev Inner : List (List ℕ) → ℕ → Option Reader → Type 0
Inner names room inner = (read : Reader) → inner ≡ Some read → (less : ℕ) × ((suc less ≡ room) × Good names less read)

by_good : (names : List (List ℕ)) (room : ℕ) (inner : Option Reader) → Inner names room inner → (path : List ℕ) (leaves : List SpecLeaf) (d : Data) (driver : Driver) (r : Read)
    → node_by names inner path leaves d driver ≡ Ok r → Grows names room leaves r
unfolding node_by
by_good names room inner good path leaves d (Stored format) r e =
    leaf_good names room path (least_unknown stored_members d) leaves d (stored_at names format path (least_unknown stored_members d) d) r
    (λ leaf. stored_sound names format path (least_unknown stored_members d) d leaf) e
by_good names room inner good path leaves d Array r e =
    leaf_good names room path (least_unknown given_members d) leaves d (given_at path (least_unknown given_members d) d) r
    (λ leaf. given_sound names path (least_unknown given_members d) d leaf) e
by_good names room inner good path leaves d Cast r e =
    let p = nested-of inner path (λ read. cast_in read path (least_unknown cast_members d) leaves d) r e in
    let less = good p.0 p.1.0 in
    subst (λ n. Grows names n leaves r) less.1.0 (cast_good names less.0 p.0 less.1.1 path (least_unknown cast_members d) leaves d r p.1.1)
by_good names room inner good path leaves d Stack r e =
    let p = nested-of inner path (λ read. stack_in read path (least_unknown stack_members d) leaves d) r e in
    let less = good p.0 p.1.0 in
    subst (λ n. Grows names n leaves r) less.1.0 (stack_good names less.0 p.0 less.1.1 path (least_unknown stack_members d) leaves d r p.1.1)

node_good : (names : List (List ℕ)) (room : ℕ) (inner : Option Reader) → Inner names room inner → Good names room (node_of names inner)
unfolding node_of
node_good names room inner good path leaves d r e =
    let p = ok-of (driver_at path d) (node_by names inner path leaves d) r e in
    by_good names room inner good path leaves d p.0 r p.1.1

spec_good : (names : List (List ℕ)) (room : ℕ) → Good names room (spec_at names room)
unfolding inner_of
spec_good names zero = node_good names zero None (λ read e. absurd (let no_such : ⊥ = cc in no_such))
spec_good names (suc room) =
    node_good names (suc room) (Some (spec_at names room))
    (λ read e. let same : spec_at names room ≡ read = cc in (room, (refl, subst (Good names room) same (spec_good names room))))

-- the plan that a whole Spec gives is sound
pub plan_sound : (names : List (List ℕ)) (d : Data) (plan : OpenPlan) → plan_of_spec names d ≡ Ok plan → IsSoundPlan names plan
plan_sound names d plan e =
    let p = ok-of (spec_at names 16 [] [] d) _ plan e in
    let grows = spec_good names 16 [] [] d p.0 p.1.0 in
    let more = grows.more in
    subst (IsSoundPlan names) (only (plan_of p.0) plan p.1.1)
    (record { some = omega (arith, more); few = grows.few (omega arith); each = grows.each tt; over = grows.tree (length p.0.leaves) (omega arith); flat = grows.flat })

-- the same of what was read before any leaf
pub read_sound : (names : List (List ℕ)) (d : Data) (before leaves : List SpecLeaf) (r : Read) → before ≡ [] → leaves ≡ r.leaves → spec_at names 16 [] before d ≡ Ok r
    → IsSoundPlan names (record { leaves = leaves; tree = r.tree })
read_sound names d before leaves r none same e =
    subst (λ ls. IsSoundPlan names (record { leaves = ls; tree = r.tree })) (sym same)
    (plan_sound names d (plan_of r) (ap (λ read. read >>= λ s. ok_as (plan_of s)) (ap (λ ls. spec_at names 16 [] ls d) (sym none) ∙ e)))
