-- What a JSON Spec asks to be opened, or the first fault at its path.
use Rattle.std.specs.Prelude.{ℕ, zero, suc, List, [], codes, Option, Some, None, Result, Ok, Err, is_some, if◌then◌else◌}
use Rattle.std.specs.Str.{bytes_eq}
use Rattle.serde_json.specs.Data.{Data}
use Rattle.serde_json.specs.Find.{as_object, as_str}
use Rattle.json_forms.specs.Members.{least_unknown}
use Rattle.meta_forms.specs.Judged.{text_in}
use Rattle.meta_forms.specs.declared.error.Fault.{Fault}
use Rattle.meta_forms.specs.declared.error.Fault.TheVariants.{Bad, Unsupported}
use Rattle.spec_forms.specs.declared.Format.TheVariants as format
use Rattle.spec_open.specs.declared.driver.Driver.{Driver}
use Rattle.spec_open.specs.declared.driver.Driver.TheVariants.{Stored, Array, Cast, Stack}
use Rattle.spec_forms.specs.declared.error.SpecError.{SpecError}
use Rattle.spec_forms.specs.declared.error.SpecError.TheVariants as spec
use Rattle.spec_open.specs.declared.plan.OpenPlan.{OpenPlan}
use Rattle.spec_forms.specs.declared.leaf.SpecLeaf.{SpecLeaf}
use Rattle.spec_forms.specs.Faults.{joined, at_path, ◌>>=◌}
use Rattle.spec_open.specs.Nodes.{Read, Reader, leaf_node, cast_members, cast_in, stack_members, stack_in}
use Rattle.spec_forms.specs.Numbers.{given_members, given_at}
use Rattle.spec_forms.specs.Stored.{stored_members, stored_at}

-- the six drivers; another text isn't supported
abbrev pub driver_named : List ℕ → Result Driver Fault
driver_named text =
    if bytes_eq text (codes "zarr") then Ok (Stored format.Zarr)
    else (if bytes_eq text (codes "n5") then Ok (Stored format.N5)
    else (if bytes_eq text (codes "zarr3") then Ok (Stored format.Zarr3)
    else (if bytes_eq text (codes "array") then Ok Array
    else (if bytes_eq text (codes "cast") then Ok Cast
    else (if bytes_eq text (codes "stack") then Ok Stack
    else Err Unsupported)))))

abbrev pub judged_driver : Option (List ℕ) → Result Driver Fault
judged_driver None = Err Bad
judged_driver (Some text) = driver_named text

-- the driver of a value at a path, which is looked at first; a text is a URL, which isn't supported
unfoldable pub driver_at : List ℕ → Data → Result Driver SpecError
driver_at path d =
    if is_some (as_object d) then at_path (joined path (codes "driver")) (judged_driver (text_in (codes "driver") d))
    else (if is_some (as_str d) then Err (spec.Unsupported path) else Err (spec.BadSpec path))

-- a node that has further Specs in it, where there is room for one more
abbrev pub nested : Option Reader → List ℕ → (Reader → Result Read SpecError) → Result Read SpecError
nested None path read = Err (spec.BadSpec path)
nested (Some inner) path read = read inner

-- a node of this driver
unfoldable pub node_by : List (List ℕ) → Option Reader → List ℕ → List SpecLeaf → Data → Driver → Result Read SpecError
node_by names inner path leaves d (Stored format) =
    let unknown = least_unknown stored_members d in leaf_node path unknown leaves d (stored_at names format path unknown d)
node_by names inner path leaves d Array =
    let unknown = least_unknown given_members d in leaf_node path unknown leaves d (given_at path unknown d)
node_by names inner path leaves d Cast = nested inner path (λ read. cast_in read path (least_unknown cast_members d) leaves d)
node_by names inner path leaves d Stack = nested inner path (λ read. stack_in read path (least_unknown stack_members d) leaves d)

-- a node at a path, by what reads the Specs in it
unfoldable pub node_of : List (List ℕ) → Option Reader → Reader
node_of names inner path leaves d = driver_at path d >>= node_by names inner path leaves d

-- what reads the Specs in a cast or a stack, where there is room for so many of them in one another
unfoldable pub inner_of : List (List ℕ) → ℕ → Option Reader
inner_of names zero = None
inner_of names (suc room) = Some (node_of names (inner_of names room))

-- a node at a path, with room for so many casts and stacks in one another
abbrev pub spec_at : List (List ℕ) → ℕ → Reader
spec_at names room = node_of names (inner_of names room)

abbrev pub plan_of : Read → OpenPlan
plan_of r = record { leaves = r.leaves; tree = r.tree }

-- what a whole Spec asks, where these are the names of mounts; casts and stacks nest 16 deep at most
abbrev pub plan_of_spec : List (List ℕ) → Data → Result OpenPlan SpecError
plan_of_spec names d = spec_at names 16 [] [] d >>= (λ r. Ok (plan_of r))
