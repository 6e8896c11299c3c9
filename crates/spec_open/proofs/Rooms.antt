-- A cast or a stack takes room for the Specs in it.
use Rattle.std.proofs.Common.{◌≡◌, ◌≢◌, ◌-◌, ℕ, zero, suc, List, Option, Some, None, Result, Err, refl, sym, ap, ◌∙◌, arith}
use Rattle.serde_json.specs.Data.{Data}
use Rattle.json_forms.specs.Members.{least_unknown}
use Rattle.spec_open.specs.declared.driver.Driver.{Driver}
use Rattle.spec_open.specs.declared.driver.Driver.TheVariants.{Cast, Stack}
use Rattle.spec_forms.specs.declared.error.SpecError.{SpecError}
use Rattle.spec_forms.specs.declared.error.SpecError.TheVariants.{BadSpec}
use Rattle.spec_forms.specs.declared.leaf.SpecLeaf.{SpecLeaf}
use Rattle.spec_open.specs.Nodes.{Read, Reader, cast_members, cast_in, stack_members, stack_in}
use Rattle.spec_open.specs.Specs.{nested, node_by, inner_of, spec_at}

-- where there is room, the Specs in a node have room for one less
more_room : (names : List (List ℕ)) (room : ℕ) → room ≢ 0 → inner_of names room ≡ Some (spec_at names (room - 1))
unfolding inner_of
more_room names zero some = absurd (some refl)
more_room names (suc k) some = let less : k ≡ suc k - 1 = omega arith in ap (λ n. Some (spec_at names n)) less

no_room : (names : List (List ℕ)) (room : ℕ) → room ≡ 0 → inner_of names room ≡ None
unfolding inner_of
no_room names zero none = refl
no_room names (suc k) none = absurd (omega (arith, none))

pub in_cast : (names : List (List ℕ)) (room : ℕ) (path : List ℕ) (leaves : List SpecLeaf) (d : Data) (driver : Driver) (unknown : Option (List ℕ)) → driver ≡ Cast → room ≢ 0
    → unknown ≡ least_unknown cast_members d → node_by names (inner_of names room) path leaves d driver ≡ cast_in (spec_at names (room - 1)) path unknown leaves d
unfolding node_by
in_cast names room path leaves d driver unknown is some least =
    ap (node_by names (inner_of names room) path leaves d) is
    ∙ ap (λ inner. nested inner path (λ read. cast_in read path (least_unknown cast_members d) leaves d)) (more_room names room some)
    ∙ ap (λ u. cast_in (spec_at names (room - 1)) path u leaves d) (sym least)

pub in_stack : (names : List (List ℕ)) (room : ℕ) (path : List ℕ) (leaves : List SpecLeaf) (d : Data) (driver : Driver) (unknown : Option (List ℕ)) → driver ≡ Stack → room ≢ 0
    → unknown ≡ least_unknown stack_members d → node_by names (inner_of names room) path leaves d driver ≡ stack_in (spec_at names (room - 1)) path unknown leaves d
unfolding node_by
in_stack names room path leaves d driver unknown is some least =
    ap (node_by names (inner_of names room) path leaves d) is
    ∙ ap (λ inner. nested inner path (λ read. stack_in read path (least_unknown stack_members d) leaves d)) (more_room names room some)
    ∙ ap (λ u. stack_in (spec_at names (room - 1)) path u leaves d) (sym least)

pub past_cast : (names : List (List ℕ)) (room : ℕ) (path : List ℕ) (leaves : List SpecLeaf) (d : Data) (driver : Driver) → driver ≡ Cast → room ≡ 0
    → node_by names (inner_of names room) path leaves d driver ≡ Err (BadSpec path)
unfolding node_by
past_cast names room path leaves d driver is none =
    ap (node_by names (inner_of names room) path leaves d) is
    ∙ ap (λ inner. nested inner path (λ read. cast_in read path (least_unknown cast_members d) leaves d)) (no_room names room none)

pub past_stack : (names : List (List ℕ)) (room : ℕ) (path : List ℕ) (leaves : List SpecLeaf) (d : Data) (driver : Driver) → driver ≡ Stack → room ≡ 0
    → node_by names (inner_of names room) path leaves d driver ≡ Err (BadSpec path)
unfolding node_by
past_stack names room path leaves d driver is none =
    ap (node_by names (inner_of names room) path leaves d) is
    ∙ ap (λ inner. nested inner path (λ read. stack_in read path (least_unknown stack_members d) leaves d)) (no_room names room none)
