use Rattle.commits.proofs.FormLaws.{chunk_by_form, size_by_form, within_by_form}
use Rattle.commits.proofs.outside.is_within.Goals as goal

pub stays_within-requires-clause-chunk : goal.stays_within-requires-clause-chunk
stays_within-requires-clause-chunk g c =
    let k = c.requires.write.0 in
    let is = c.requires.write.1 in
    chunk_by_form k c.form-form.result.now c.shape.result.now c.chunk_shape.result.now (c.requires.stored k is.known) (c.form-form.ensures k is.known) c.shape.ensures c.chunk_shape.ensures.value c.args.write.now c.requires.agrees is

pub stays_within-requires-clause-staged : goal.stays_within-requires-clause-staged
stays_within-requires-clause-staged g c =
    let k = c.requires.write.0 in
    let is = c.requires.write.1 in
    size_by_form k c.form-form.result.now c.shape.result.now c.chunk_shape.result.now (c.requires.stored k is.known) (c.form-form.ensures k is.known) c.shape.ensures c.chunk_shape.ensures.value c.args.write.now is

pub returns : goal.returns
returns g c = λ k known.
    within_by_form k c.form-form.result.now c.shape.result.now c.chunk_shape.result.now (c.requires.stored k known) (c.form-form.ensures k known) c.shape.ensures c.chunk_shape.ensures.value c.args.write.now c.stays_within.result c.stays_within.ensures
