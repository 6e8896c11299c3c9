-- What a Spec builds has at most 32 dimensions, each with a label, over arrays that have.
use Rattle.std.proofs.Common.{◌≡◌, ℕ, zero, suc, Bool, true, false, cond, List, [], ◌∷◌, ◌++◌, length, map, Option, Some, None, Result, Ok, Err, refl, subst}
use Rattle.std.specs.Prelude.{codes, decimal, option_and_then, is_some}
use Rattle.std.specs.List.{AllByRecursion}
use Rattle.std.specs.Str.{bytes_eq}
use Rattle.serde_json.specs.Data.{Data}
use Rattle.serde_json.specs.Find.{get, as_object, as_str}
use Rattle.json_forms.specs.Lists.{list_items}
use Rattle.json_forms.specs.Members.{least_unknown}
use Rattle.index_transform.specs.Maps.{plain_map}
use Rattle.index_transform.specs.Transforms.{DomainAndMaps}
use Rattle.transform_json.specs.Faults.{unless_faulty, no_fault}
use Rattle.transform_json.specs.Input.{domain_of}
use Rattle.transform_json.specs.Output.{maps_of}
use Rattle.transform_json.specs.Transforms.{transform_members, transform_of}
use Rattle.transform_json.specs.declared.error.JsonError.{JsonError}
use Rattle.transform_json.specs.declared.error.JsonError.TheVariants as json
use Rattle.transform_json.proofs.Accepted.{domain-good}
use Rattle.transform_json.proofs.Told as told
use Rattle.line_forms.specs.Faults.{◌>>=◌, joined, at_path, none_before, none_left, in_turn, judged_in_turn}
use Rattle.line_forms.specs.Members.{judged_dtype, judged_absent, required, placed, transform_at, tail_at, false_at}
use Rattle.line_forms.specs.Specs.{nested, driver_named, judged_driver, driver_at, node_by, node_of, inner_of, spec_at, plan_of, plan_of_spec}
use Rattle.line_forms.specs.declared.OpenPlan.{OpenPlan}
use Rattle.line_forms.specs.declared.SpecError.{SpecError}
use Rattle.line_forms.specs.declared.SpecError.TheVariants as spec
use Rattle.line_forms.specs.declared.SpecLeaf.{SpecLeaf}
use Rattle.spec_open.specs.Nodes.{Read, Reader, few_leaves, leaf_node, base_at, cast_in, cast_members, Layers, layers_behind, few_layers, layers_of, layers_at, stack_in, stack_members}
use Rattle.spec_open.specs.declared.tree.Tree.{Tree}
use Rattle.output_laws.proofs.Ranks.{HasRank}
use Rattle.output_laws.proofs.ViewRanks.{MayHaveRank, Builds, leaf_builds, cast_builds, stack_builds}

-- a transform that a value is
pub transform_rank : (d : Data) (t : DomainAndMaps) → transform_of d ≡ Ok t → HasRank t
transform_rank d t e =
    let a = told.ok-of (unless_faulty [] (is_some (as_object d))) _ t e in
    let b = told.ok-of (no_fault (least_unknown transform_members d)) _ t a.1.1 in
    let c = told.ok-of (domain_of d) _ t b.1.1 in
    let m = told.ok-of (maps_of d c.0.dims) _ t c.1.1 in
    let good = domain-good d c.0 c.1.0 in
    let same : record { domain = c.0; maps = map plain_map m.0 } ≡ t = cc in
    subst HasRank same (record { few = good.rank; labels = good.labels })

abbrev pub ok_as : {A : Type 0} → A → Result A SpecError
ok_as a = Ok a

-- the step before a right result was right
pub ok-of : {A B : Type 0} (r : Result A SpecError) (f : A → Result B SpecError) (b : B) → (r >>= f) ≡ Ok b → (a : A) × ((r ≡ Ok a) × (f a ≡ Ok b))
ok-of (Ok a) f b e = (a, (refl, e))
ok-of (Err x) f b e = absurd (let no_such : ⊥ = cc in no_such)

pub only : {A : Type 0} (a b : A) → ok_as a ≡ Ok b → a ≡ b
only a b e = cc

pub turn-of : {A : Type 0} (path : List ℕ) (unknown : Option (List ℕ)) (name : List ℕ) (given : Result A SpecError) (a : A) → in_turn path unknown name given ≡ Ok a → given ≡ Ok a
unfolding in_turn
turn-of path unknown name given a e = (ok-of (none_before path unknown name) (λ _. given) a e).1.1

given_rank : (path : List ℕ) (found : Option Data) (o : Option DomainAndMaps) → transform_at path found ≡ Ok o → MayHaveRank o
unfolding transform_at
given_rank path None o e = let same : None ≡ o = cc in subst MayHaveRank same tt
given_rank path (Some d) o e = by (transform_of d) refl e
  where
    by : (r : Result DomainAndMaps JsonError) → transform_of d ≡ r → placed path d r ≡ Ok o → MayHaveRank o
    by (Ok t) is given = let same : Some t ≡ o = cc in subst MayHaveRank same (transform_rank d t is)
    by (Err (json.BadMember inner)) is given = absurd (let no_such : ⊥ = cc in no_such)
    by (Err json.Memory) is given = absurd (let no_such : ⊥ = cc in no_such)

-- the transform of a node
tail_rank : (path : List ℕ) (unknown : Option (List ℕ)) (d : Data) (o : Option DomainAndMaps) → tail_at path unknown d ≡ Ok o → MayHaveRank o
unfolding tail_at
tail_rank path unknown d o e =
    let a = ok-of (judged_in_turn path unknown (codes "rank") (judged_absent (get (codes "rank") d))) _ o e in
    let b = ok-of (judged_in_turn path unknown (codes "schema") (judged_absent (get (codes "schema") d))) _ o a.1.1 in
    let c = ok-of (false_at (codes "store_data_equal_to_fill_value") path unknown d) _ o b.1.1 in
    let t = ok-of (in_turn path unknown (codes "transform") (transform_at (joined path (codes "transform")) (get (codes "transform") d))) _ o c.1.1 in
    let z = ok-of (none_left path unknown) _ o t.1.1 in
    subst MayHaveRank (only t.0 o z.1.1)
    (given_rank (joined path (codes "transform")) (get (codes "transform") d) t.0 (turn-of path unknown (codes "transform") _ t.0 t.1.0))

-- what is read of a value builds so
abbrev Good : Reader → Type 0
Good read = (path : List ℕ) (leaves : List SpecLeaf) (d : Data) (r : Read) → read path leaves d ≡ Ok r → Builds r.tree

leaf_good : (path : List ℕ) (unknown : Option (List ℕ)) (leaves : List SpecLeaf) (d : Data) (given : Result SpecLeaf SpecError) (r : Read) → leaf_node path unknown leaves d given ≡ Ok r → Builds r.tree
unfolding leaf_node
leaf_good path unknown leaves d given r e =
    let one = ok-of (few_leaves path leaves) _ r e in
    let two = ok-of given _ r one.1.1 in
    let three = ok-of (tail_at path unknown d) _ r two.1.1 in
    subst (λ (s : Read). Builds s.tree) (only _ r three.1.1) (leaf_builds (length leaves) three.0 path (tail_rank path unknown d three.0 three.1.0))

base_good : (read : Reader) → Good read → (path : List ℕ) (leaves : List SpecLeaf) (o : Option Data) (r : Read) → base_at read path leaves o ≡ Ok r → Builds r.tree
unfolding base_at
base_good read good path leaves None r e = absurd (let no_such : ⊥ = cc in no_such)
base_good read good path leaves (Some d) r e = good path leaves d r e

cast_good : (read : Reader) → Good read → (path : List ℕ) (unknown : Option (List ℕ)) (leaves : List SpecLeaf) (d : Data) (r : Read) → cast_in read path unknown leaves d ≡ Ok r → Builds r.tree
unfolding cast_in
cast_good read good path unknown leaves d r e =
    let one = ok-of (false_at (codes "assume_metadata") path unknown d) _ r e in
    let two = ok-of (in_turn path unknown (codes "base") (base_at read (joined path (codes "base")) leaves (get (codes "base") d))) _ r one.1.1 in
    let three = ok-of (false_at (codes "delete_existing") path unknown d) _ r two.1.1 in
    let four = ok-of (judged_in_turn path unknown (codes "dtype") (required (judged_dtype (get (codes "dtype") d)))) _ r three.1.1 in
    let five = ok-of (tail_at path unknown d) _ r four.1.1 in
    let base = base_good read good (joined path (codes "base")) leaves (get (codes "base") d) two.0 (turn-of path unknown (codes "base") _ two.0 two.1.0) in
    subst (λ (s : Read). Builds s.tree) (only _ r five.1.1) (cast_builds four.0 two.0.tree five.0 path (tail_rank path unknown d five.0 five.1.0) base)

one_more : (ts : List Tree) (t : Tree) → AllByRecursion Builds ts → Builds t → AllByRecursion Builds (ts ++ t ∷ [])
one_more [] t all h = (h, tt)
one_more (u ∷ us) t all h = (all.0, one_more us t all.1 h)

layers_good : (read : Reader) → Good read → (path : List ℕ) (trees : List Tree) (leaves : List SpecLeaf) (ds : List Data) (r : Layers) → AllByRecursion Builds trees → layers_behind read path trees leaves ds ≡ Ok r → AllByRecursion Builds r.trees
layers_good read good path trees leaves [] r all e = subst (λ (l : Layers). AllByRecursion Builds l.trees) (only _ r e) all
layers_good read good path trees leaves (d ∷ ds) r all e =
    let one = ok-of (read (joined path (decimal (length trees))) leaves d) _ r e in
    let layer = good (joined path (decimal (length trees))) leaves d one.0 one.1.0 in
    layers_good read good path (trees ++ one.0.tree ∷ []) one.0.leaves ds r (one_more trees one.0.tree all layer) one.1.1

layered : (read : Reader) → Good read → (path : List ℕ) (leaves : List SpecLeaf) (o : Option (List Data)) (r : Layers) → layers_of read path leaves o ≡ Ok r → AllByRecursion Builds r.trees
layered read good path leaves None r e = absurd (let no_such : ⊥ = cc in no_such)
layered read good path leaves (Some items) r e = layers_good read good path [] leaves items r tt e

stack_good : (read : Reader) → Good read → (path : List ℕ) (unknown : Option (List ℕ)) (leaves : List SpecLeaf) (d : Data) (r : Read) → stack_in read path unknown leaves d ≡ Ok r → Builds r.tree
unfolding stack_in layers_at
stack_good read good path unknown leaves d r e =
    let one = ok-of (false_at (codes "assume_metadata") path unknown d) _ r e in
    let two = ok-of (false_at (codes "delete_existing") path unknown d) _ r one.1.1 in
    let three = ok-of (judged_in_turn path unknown (codes "dtype") (judged_dtype (get (codes "dtype") d))) _ r two.1.1 in
    let four = ok-of (in_turn path unknown (codes "layers") (layers_at read (joined path (codes "layers")) leaves (get (codes "layers") d))) _ r three.1.1 in
    let five = ok-of (tail_at path unknown d) _ r four.1.1 in
    let all = layered read good (joined path (codes "layers")) leaves (option_and_then few_layers (option_and_then list_items (get (codes "layers") d))) four.0 (turn-of path unknown (codes "layers") _ four.0 four.1.0) in
    subst (λ (s : Read). Builds s.tree) (only _ r five.1.1) (stack_builds four.0.trees three.0 five.0 path (tail_rank path unknown d five.0 five.1.0) all)

pub nested-of : (inner : Option Reader) (path : List ℕ) (f : Reader → Result Read SpecError) (r : Read) → nested inner path f ≡ Ok r → (read : Reader) × ((inner ≡ Some read) × (f read ≡ Ok r))
nested-of None path f r e = absurd (let no_such : ⊥ = cc in no_such)
nested-of (Some read) path f r e = (read, (refl, e))

abbrev Inner : Option Reader → Type 0
Inner inner = (read : Reader) → inner ≡ Some read → Good read

pub either : {A : Type 0} (test : Bool) (x y : A) (P : A → Type 0) → P x → P y → P (cond test x y)
either true x y P one other = one
either false x y P one other = other

module _ (names : List (List ℕ)) (inner : Option Reader) (good : Inner inner) (path : List ℕ) (leaves : List SpecLeaf) (d : Data) (r : Read) where
  -- the driver's name tells which node is read
  by_named : (at text : List ℕ) → (at_path at (driver_named text) >>= node_by names inner path leaves d) ≡ Ok r → Builds r.tree
  unfolding at_path node_by
  by_named at text =
      let none = driver_named [] in
      let stack = cond (bytes_eq text (codes "stack")) (driver_named (codes "stack")) (driver_named []) in
      let cast = cond (bytes_eq text (codes "cast")) (driver_named (codes "cast")) (cond (bytes_eq text (codes "stack")) (driver_named (codes "stack")) (driver_named [])) in
      let array = cond (bytes_eq text (codes "array")) (driver_named (codes "array")) (cond (bytes_eq text (codes "cast")) (driver_named (codes "cast")) (cond (bytes_eq text (codes "stack")) (driver_named (codes "stack")) (driver_named []))) in
      let zarr3 = cond (bytes_eq text (codes "zarr3")) (driver_named (codes "zarr3")) array in
      let n5 = cond (bytes_eq text (codes "n5")) (driver_named (codes "n5")) zarr3 in
      either (bytes_eq text (codes "zarr")) (driver_named (codes "zarr")) n5 (λ j. (at_path at j >>= node_by names inner path leaves d) ≡ Ok r → Builds r.tree) (λ e. leaf_good path _ leaves d _ r e)
      (either (bytes_eq text (codes "n5")) (driver_named (codes "n5")) zarr3 (λ j. (at_path at j >>= node_by names inner path leaves d) ≡ Ok r → Builds r.tree) (λ e. leaf_good path _ leaves d _ r e)
      (either (bytes_eq text (codes "zarr3")) (driver_named (codes "zarr3")) array (λ j. (at_path at j >>= node_by names inner path leaves d) ≡ Ok r → Builds r.tree) (λ e. leaf_good path _ leaves d _ r e)
      (either (bytes_eq text (codes "array")) (driver_named (codes "array")) cast (λ j. (at_path at j >>= node_by names inner path leaves d) ≡ Ok r → Builds r.tree) (λ e. leaf_good path _ leaves d _ r e)
      (either (bytes_eq text (codes "cast")) (driver_named (codes "cast")) stack (λ j. (at_path at j >>= node_by names inner path leaves d) ≡ Ok r → Builds r.tree)
      (λ e. let p = nested-of inner path (λ read. cast_in read path (least_unknown cast_members d) leaves d) r e in cast_good p.0 (good p.0 p.1.0) path (least_unknown cast_members d) leaves d r p.1.1)
      (either (bytes_eq text (codes "stack")) (driver_named (codes "stack")) none (λ j. (at_path at j >>= node_by names inner path leaves d) ≡ Ok r → Builds r.tree)
      (λ e. let p = nested-of inner path (λ read. stack_in read path (least_unknown stack_members d) leaves d) r e in stack_good p.0 (good p.0 p.1.0) path (least_unknown stack_members d) leaves d r p.1.1)
      (λ e. absurd (let no_such : ⊥ = cc in no_such)))))))

  by_judged : (at : List ℕ) (o : Option (List ℕ)) → (at_path at (judged_driver o) >>= node_by names inner path leaves d) ≡ Ok r → Builds r.tree
  unfolding at_path
  by_judged at None e = absurd (let no_such : ⊥ = cc in no_such)
  by_judged at (Some text) e = by_named at text e

  node_good : node_of names inner path leaves d ≡ Ok r → Builds r.tree
  unfolding node_of driver_at
  node_good e = by (option_and_then as_str (get (codes "driver") d)) (is_some (as_object d)) (is_some (as_str d)) e
    where
      by : (text : Option (List ℕ)) (b c : Bool) → (cond b (at_path (joined path (codes "driver")) (judged_driver text)) (cond c (Err (spec.Unsupported path)) (Err (spec.BadSpec path))) >>= node_by names inner path leaves d) ≡ Ok r → Builds r.tree
      by text true c given = by_judged (joined path (codes "driver")) text given
      by text false true given = absurd (let no_such : ⊥ = cc in no_such)
      by text false false given = absurd (let no_such : ⊥ = cc in no_such)

spec_good : (names : List (List ℕ)) (room : ℕ) → Good (spec_at names room)
unfolding inner_of
spec_good names zero path leaves d r = node_good names None (λ read e. absurd (let no_such : ⊥ = cc in no_such)) path leaves d r
spec_good names (suc room) path leaves d r =
    node_good names (Some (spec_at names room)) (λ read e. let same : spec_at names room ≡ read = cc in subst Good same (spec_good names room)) path leaves d r

-- what the plan of a Spec builds
pub plan_builds : (names : List (List ℕ)) (d : Data) (plan : OpenPlan) → plan_of_spec names d ≡ Ok plan → Builds plan.tree
plan_builds names d plan e =
    let p = ok-of (spec_at names 16 [] [] d) _ plan e in
    subst (λ (q : OpenPlan). Builds q.tree) (only (plan_of p.0) plan p.1.1) (spec_good names 16 [] [] d p.0 p.1.0)
