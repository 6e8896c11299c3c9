use Rattle.std.proofs.Common.{◌≡◌, ◌≢◌, ◌∙◌, List, Result, Ok, Err, sym, ap, subst}
use Rattle.std.specs.Prelude.{IfOk, IfErr, option_map}
use Rattle.serde_json.specs.View.{view}
use Rattle.spec_open.specs.Nodes.{Read}
use Rattle.spec_forms.specs.declared.error.SpecError.{SpecError}
use Rattle.spec_forms.specs.declared.error.SpecError.TheVariants.{Memory}
use Rattle.spec_open.proofs.Rooms.{in_cast, in_stack, past_cast, past_stack}
use Rattle.spec_open.proofs.nodes.+reading.Goals as goal

pub node_by-returns-then-room-eq0-clause-causes : goal.node_by-returns-then-room-eq0-clause-causes
node_by-returns-then-room-eq0-clause-causes t c = λ able.
    past_cast c.args.names.now c.args.room c.args.path.now c.args.leaves.now.items (view c.args.value.now) c.args.driver c.in-Cast.is c.if-room-eq0.true ∙ ap Err (sym (c.own_fault.ensures able))

pub node_by-returns-then-room-eq0-2-clause-causes : goal.node_by-returns-then-room-eq0-2-clause-causes
node_by-returns-then-room-eq0-2-clause-causes t c = λ able.
    past_stack c.args.names.now c.args.room c.args.path.now c.args.leaves.now.items (view c.args.value.now) c.args.driver c.in-Stack.is c.if-room-eq0-2.true ∙ ap Err (sym (c.own_fault-then-room-eq0-2.ensures able))

pub node_by-returns-else-room-eq0-clause-value : goal.node_by-returns-else-room-eq0-clause-value
node_by-returns-else-room-eq0-clause-value t c =
    subst (λ (z : Result Read SpecError). IfOk c.cast_in.result (λ node. z ≡ Ok (record { tree = node; leaves = c.cast_in.new.leaves.items })))
    (sym (in_cast c.args.names.now c.args.room c.args.path.now c.args.leaves.now.items (view c.args.value.now) c.args.driver _ c.in-Cast.is c.if-room-eq0.false c.unknown_in_cast-unknown.ensures))
    c.cast_in.ensures.value

pub node_by-returns-else-room-eq0-clause-causes : goal.node_by-returns-else-room-eq0-clause-causes
node_by-returns-else-room-eq0-clause-causes t c =
    subst (λ (z : Result Read SpecError). IfErr c.cast_in.result (λ e. e ≢ Memory → z ≡ Err e))
    (sym (in_cast c.args.names.now c.args.room c.args.path.now c.args.leaves.now.items (view c.args.value.now) c.args.driver _ c.in-Cast.is c.if-room-eq0.false c.unknown_in_cast-unknown.ensures))
    c.cast_in.ensures.causes

pub node_by-returns-else-room-eq0-2-clause-value : goal.node_by-returns-else-room-eq0-2-clause-value
node_by-returns-else-room-eq0-2-clause-value t c =
    subst (λ (z : Result Read SpecError). IfOk c.stack_in.result (λ node. z ≡ Ok (record { tree = node; leaves = c.stack_in.new.leaves.items })))
    (sym (in_stack c.args.names.now c.args.room c.args.path.now c.args.leaves.now.items (view c.args.value.now) c.args.driver _ c.in-Stack.is c.if-room-eq0-2.false c.unknown_in_stack-unknown.ensures))
    c.stack_in.ensures.value

pub node_by-returns-else-room-eq0-2-clause-causes : goal.node_by-returns-else-room-eq0-2-clause-causes
node_by-returns-else-room-eq0-2-clause-causes t c =
    subst (λ (z : Result Read SpecError). IfErr c.stack_in.result (λ e. e ≢ Memory → z ≡ Err e))
    (sym (in_stack c.args.names.now c.args.room c.args.path.now c.args.leaves.now.items (view c.args.value.now) c.args.driver _ c.in-Stack.is c.if-room-eq0-2.false c.unknown_in_stack-unknown.ensures))
    c.stack_in.ensures.causes
