use Rattle.std.proofs.Common.{sym, subst}
use Rattle.chunk_forms.specs.Metadata.{shape_of}
use Rattle.chunk_plans.specs.Laid.{IsChunkOf}
use Rattle.state_resizes.proofs.Reading.{chunk_there, may_cut}
use Rattle.state_resizes.proofs.cutting.left_of_cut.Goals as goal

pub is_gone-requires : goal.is_gone-requires
is_gone-requires g c =
    subst (λ s. IsChunkOf s c.chunk_shape.result.now c.args.chunk.now) (sym c.shape.ensures)
    (subst (λ n. IsChunkOf (shape_of c.args.new.now.form) n c.args.chunk.now) (sym c.chunk_shape.ensures.value) (may_cut c.args.new.now c.args.chunk.now c.requires.agrees c.requires.begun c.requires.cut).chunk)

pub key-requires : goal.key-requires
key-requires g c = chunk_there c.args.new.now c.args.chunk.now c.requires.agrees c.requires.begun c.requires.cut

pub read_cut-requires-clause-named : goal.read_cut-requires-clause-named
read_cut-requires-clause-named g c = c.in-Ok.ensures
