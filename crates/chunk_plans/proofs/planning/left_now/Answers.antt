use Rattle.std.proofs.Common.{refl}
use Rattle.chunk_forms.specs.Metadata.{shape_of, chunk_shape_of}
use Rattle.chunk_plans.proofs.Forms.{may_lay_by}
use Rattle.chunk_plans.proofs.Plans.{chunk_by}
use Rattle.chunk_plans.proofs.planning.left_now.Goals as goal

pub covers-requires-clause-chunk : goal.covers-requires-clause-chunk
covers-requires-clause-chunk g c =
    chunk_by c.shape.result.now c.chunk_shape.result.now c.args.write.now.chunk.now (shape_of c.args.form.now) (chunk_shape_of c.args.form.now) c.args.write.now.chunk.now c.shape.ensures c.chunk_shape.ensures.value refl
    (may_lay_by c.args.write.now c.args.form.now c.requires.agrees c.requires.write c.requires.form).chunk

pub left_over-requires-clause-fill : goal.left_over-requires-clause-fill
left_over-requires-clause-fill g c = (may_lay_by c.args.write.now c.args.form.now c.requires.agrees c.requires.write c.requires.form).fill

pub left_over-requires-clause-chunk : goal.left_over-requires-clause-chunk
left_over-requires-clause-chunk g c =
    chunk_by (shape_of c.args.form.now) (chunk_shape_of c.args.form.now) c.args.write.now.chunk.now (shape_of c.args.form.now) (chunk_shape_of c.args.form.now) c.args.write.now.chunk.now refl refl refl
    (may_lay_by c.args.write.now c.args.form.now c.requires.agrees c.requires.write c.requires.form).chunk

pub left_over-requires-clause-words : goal.left_over-requires-clause-words
left_over-requires-clause-words g c = (may_lay_by c.args.write.now c.args.form.now c.requires.agrees c.requires.write c.requires.form).words

pub returns-then-covers-clause-cells : goal.returns-then-covers-clause-cells
returns-then-covers-clause-cells g c = record { dtype = c.in_ok-left_over.ensures.dtype; shape = c.in_ok-left_over.ensures.shape }
