use Rattle.std.proofs.Common.{◌≡◌, ◌≢◌, ◌∙◌, ap, Err}
use Rattle.transform_composition.specs.declared.AtError.{AtError}
use Rattle.transform_composition.specs.declared.AtError.TheVariants.{Memory, OutOfRange, Overflow}
use Rattle.stack_driver.proofs.Members.{length-has_index, overflow-has_index, never_outside}
use Rattle.stack_driver.proofs.targeting.finite_values.Goals as goal

pub at-requires : goal.at-requires
at-requires c = length-has_index c.args.transform.now.domain.dims c.args.index.now c.requires.inside

overflow_known : (e : AtError) (output : _) → e ≡ Overflow output → e ≢ Memory
overflow_known e output is same = absurd (let no_such : ⊥ = cc in no_such)

range_known : (e : AtError) (dim : _) → e ≡ OutOfRange dim → e ≢ Memory
range_known e dim is same = absurd (let no_such : ⊥ = cc in no_such)

pub returns-in-Err-Overflow-clause-none : goal.returns-in-Err-Overflow-clause-none
returns-in-Err-Overflow-clause-none c =
    let e = c.in-Err-Overflow in
    overflow-has_index c.args.transform.now c.args.index.now e.field-0-0 c.requires.inside (e.ensures.err (overflow_known e.field-0 e.field-0-0 e.field-0-is) ∙ ap Err e.field-0-is)

pub returns-in-Err-OutOfRange-clause-none : goal.returns-in-Err-OutOfRange-clause-none
returns-in-Err-OutOfRange-clause-none c =
    let e = c.in-Err-OutOfRange in
    never_outside c.args.transform.now c.args.index.now e.field-0-0 c.requires.inside (e.ensures.err (range_known e.field-0 e.field-0-0 e.field-0-is) ∙ ap Err e.field-0-is)
