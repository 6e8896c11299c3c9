-- The nodes of a Spec: a leaf, a cast of a further Spec, a stack of further Specs.
use Rattle.std.specs.Prelude.{ℕ, nat_lt, nat_le, ◌&&◌, List, [], ◌∷◌, ◌++◌, length, codes, decimal, Option, Some, None, Result, Ok, Err, option_and_then, if◌then◌else◌}
use Rattle.serde_json.specs.Data.{Data}
use Rattle.serde_json.specs.Find.{get}
use Rattle.cells.specs.declared.dtype.Dtype.{Dtype}
use Rattle.json_forms.specs.Lists.{list_items}
use Rattle.json_forms.specs.Members.{least_unknown}
use Rattle.spec_forms.specs.declared.error.SpecError.{SpecError}
use Rattle.spec_forms.specs.declared.error.SpecError.TheVariants as spec
use Rattle.spec_forms.specs.declared.leaf.SpecLeaf.{SpecLeaf}
use Rattle.spec_open.specs.declared.tree.Tree.{Tree}
use Rattle.spec_open.specs.declared.tree.Tree.TheVariants as tree
use Rattle.spec_forms.specs.Faults.{joined, ◌>>=◌, in_turn, judged_in_turn}
use Rattle.spec_forms.specs.Members.{judged_dtype, required, tail_at, false_at}

-- a node, and all leaves up to it, from left to right
pub record Read : Type 0 where
  pub tree : Tree
  pub leaves : List SpecLeaf

-- what is read of a value at a path, behind some leaves
abbrev pub Reader : Type 0
Reader = List ℕ → List SpecLeaf → Data → Result Read SpecError

-- there are fewer than 256 leaves before the one at a path
unfoldable pub few_leaves : List ℕ → List SpecLeaf → Result (Unit {0}) SpecError
few_leaves path leaves = if nat_lt (length leaves) 256 then Ok tt else Err (spec.BadSpec path)

-- one leaf more, seen through the Spec's transform
unfoldable pub leaf_node : List ℕ → Option (List ℕ) → List SpecLeaf → Data → Result SpecLeaf SpecError → Result Read SpecError
leaf_node path unknown leaves d given = do
  _ ← few_leaves path leaves
  leaf ← given
  transform ← tail_at path unknown d
  Ok (record { tree = tree.Leaf (length leaves) transform path; leaves = leaves ++ leaf ∷ [] })

-- the members of a cast
abbrev pub cast_members : List (List ℕ)
cast_members =
    codes "assume_metadata" ∷ codes "base" ∷ codes "context" ∷ codes "data_copy_concurrency" ∷ codes "delete_existing"
    ∷ codes "driver" ∷ codes "dtype" ∷ codes "rank" ∷ codes "schema" ∷ codes "store_data_equal_to_fill_value" ∷ codes "transform" ∷ []

-- the Spec that is cast, which has to be there
unfoldable pub base_at : Reader → List ℕ → List SpecLeaf → Option Data → Result Read SpecError
base_at inner path leaves None = Err (spec.BadSpec path)
base_at inner path leaves (Some d) = inner path leaves d

-- a cast, the first fault in byte order
unfoldable pub cast_in : Reader → List ℕ → Option (List ℕ) → List SpecLeaf → Data → Result Read SpecError
cast_in inner path unknown leaves d = do
  _ ← false_at (codes "assume_metadata") path unknown d
  base ← in_turn path unknown (codes "base") (base_at inner (joined path (codes "base")) leaves (get (codes "base") d))
  _ ← false_at (codes "delete_existing") path unknown d
  to ← judged_in_turn path unknown (codes "dtype") (required (judged_dtype (get (codes "dtype") d)))
  transform ← tail_at path unknown d
  Ok (record { tree = tree.Cast to base.tree transform path; leaves = base.leaves })

-- the members of a stack
abbrev pub stack_members : List (List ℕ)
stack_members =
    codes "assume_metadata" ∷ codes "context" ∷ codes "data_copy_concurrency" ∷ codes "delete_existing" ∷ codes "driver"
    ∷ codes "dtype" ∷ codes "layers" ∷ codes "rank" ∷ codes "schema" ∷ codes "store_data_equal_to_fill_value" ∷ codes "transform" ∷ []

-- some nodes, and all leaves up to them
pub record Layers : Type 0 where
  pub trees : List Tree
  pub leaves : List SpecLeaf

-- further layers of the value at a path, behind those that were read
abbrev pub layers_behind : Reader → List ℕ → List Tree → List SpecLeaf → List Data → Result Layers SpecError
layers_behind inner path trees leaves [] = Ok (record { trees = trees; leaves = leaves })
layers_behind inner path trees leaves (d ∷ ds) =
    inner (joined path (decimal (length trees))) leaves d >>= (λ layer. layers_behind inner path (trees ++ layer.tree ∷ []) layer.leaves ds)

-- 1 to 256 items
abbrev pub few_layers : List Data → Option (List Data)
few_layers items = if nat_le 1 (length items) && nat_le (length items) 256 then Some items else None

abbrev pub layers_of : Reader → List ℕ → List SpecLeaf → Option (List Data) → Result Layers SpecError
layers_of inner path leaves None = Err (spec.BadSpec path)
layers_of inner path leaves (Some items) = layers_behind inner path [] leaves items

-- a list of 1 to 256 Specs
unfoldable pub layers_at : Reader → List ℕ → List SpecLeaf → Option Data → Result Layers SpecError
layers_at inner path leaves d = layers_of inner path leaves (option_and_then few_layers (option_and_then list_items d))

-- a stack, the first fault in byte order
unfoldable pub stack_in : Reader → List ℕ → Option (List ℕ) → List SpecLeaf → Data → Result Read SpecError
stack_in inner path unknown leaves d = do
  _ ← false_at (codes "assume_metadata") path unknown d
  _ ← false_at (codes "delete_existing") path unknown d
  dtype ← judged_in_turn path unknown (codes "dtype") (judged_dtype (get (codes "dtype") d))
  layers ← in_turn path unknown (codes "layers") (layers_at inner (joined path (codes "layers")) leaves (get (codes "layers") d))
  transform ← tail_at path unknown d
  Ok (record { tree = tree.Stack layers.trees dtype transform path; leaves = layers.leaves })
