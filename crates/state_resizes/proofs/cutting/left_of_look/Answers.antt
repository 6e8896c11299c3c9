use Rattle.std.proofs.Common.{[], Some, ap, subst, ◌∙◌}
use Rattle.std.proofs.lemmas.Result.{IfOk-weaker}
use Rattle.cells.specs.Dense.{DenseCells}
use Rattle.chunk_plans.specs.Left.{IsLeft}
use Rattle.state_resizes.proofs.Looks.{look_as, may_of, kept_dtype, kept_shape, kept_left, memory_only, err_weaker}
use Rattle.state_resizes.proofs.cutting.left_of_look.Goals as goal

pub relaid-requires-clause-may : goal.relaid-requires-clause-may
relaid-requires-clause-may c = let r = c.requires in may_of r.0 r.1 c.args.new.now c.args.chunk.now c.args.key c.args.look r.2

pub relaid-requires-clause-reached : goal.relaid-requires-clause-reached
relaid-requires-clause-reached c = c.requires.2.reached

pub relaid-requires-clause-dtype : goal.relaid-requires-clause-dtype
relaid-requires-clause-dtype c =
    let r = c.requires in
    ap (λ (d : DenseCells). d.dtype) c.cells.ensures ∙ kept_dtype r.0 r.1 c.args.new.now c.args.chunk.now c.args.key c.in-Kept.snapshot _ (look_as r.0 r.1 c.args.new.now c.args.chunk.now c.args.key c.args.look _ c.in-Kept.is r.2)

pub relaid-requires-clause-shape : goal.relaid-requires-clause-shape
relaid-requires-clause-shape c =
    let r = c.requires in
    ap (λ (d : DenseCells). d.shape) c.cells.ensures ∙ kept_shape r.0 r.1 c.args.new.now c.args.chunk.now c.args.key c.in-Kept.snapshot _ (look_as r.0 r.1 c.args.new.now c.args.chunk.now c.args.key c.args.look _ c.in-Kept.is r.2)

pub returns-in-Kept-clause-left : goal.returns-in-Kept-clause-left
returns-in-Kept-clause-left c =
    IfOk-weaker c.relaid.result _ _
    (λ left is store log h.
    kept_left store log c.args.new.now c.args.chunk.now c.args.key c.in-Kept.snapshot _ (look_as store log c.args.new.now c.args.chunk.now c.args.key c.args.look _ c.in-Kept.is h) left
    (subst (λ d. IsLeft c.args.new.now.form c.args.chunk.now [] (Some d) left) c.cells.ensures is))
    c.relaid.ensures.left

pub returns-in-Kept-clause-refused : goal.returns-in-Kept-clause-refused
returns-in-Kept-clause-refused c = memory_only _ c.args.new.now c.relaid.result c.relaid.ensures.err

pub left_of_bytes-requires : goal.left_of_bytes-requires
left_of_bytes-requires c = let r = c.requires in (r.0, r.1, _, _, look_as r.0 r.1 c.args.new.now c.args.chunk.now c.args.key c.args.look _ c.in-Bytes.is r.2)

pub returns-in-Bytes-clause-left : goal.returns-in-Bytes-clause-left
returns-in-Bytes-clause-left c =
    IfOk-weaker c.left_of_bytes.result _ _ (λ left is store log h. is store log _ _ (look_as store log c.args.new.now c.args.chunk.now c.args.key c.args.look _ c.in-Bytes.is h)) c.left_of_bytes.ensures.left

pub returns-in-Bytes-clause-refused : goal.returns-in-Bytes-clause-refused
returns-in-Bytes-clause-refused c =
    err_weaker c.left_of_bytes.result (λ e is store log h. is store log _ _ (look_as store log c.args.new.now c.args.chunk.now c.args.key c.args.look _ c.in-Bytes.is h)) c.left_of_bytes.ensures.refused
