use Rattle.std.proofs.Common.{◌<◌, ◌∷◌, ◌++◌, [], None, length, take, take_all, sym, ap, ◌∙◌, arith, append_assoc}
use Rattle.stated_arrays.specs.Served.{untaken}
use Rattle.stated_arrays.proofs.Walking.{untaken_take}
use Rattle.stated_arrays.proofs.openings.takings_in.Goals as goal

pub loop-leaf-preserved : goal.loop-leaf-preserved
loop-leaf-preserved c =
    let rest = c.args.line.now.rest.items in
    let i = c.loop-leaf._leaf-index in
    let low : i < length rest = omega arith in
    c.in_ok-push.ensures.items ∙ ap (λ ts. ts ++ None ∷ []) c.loop-leaf.invariant ∙ append_assoc c.args.line.now.takings.items (untaken (take i rest)) (None ∷ []) ∙ ap (λ ts. c.args.line.now.takings.items ++ ts) (sym (untaken_take rest i low))

pub returns : goal.returns
returns c =
    let rest = c.args.line.now.rest.items in
    c.loop-leaf.invariant ∙ ap (λ ls. c.args.line.now.takings.items ++ untaken ls) (take_all c.loop-leaf._leaf-index rest (omega arith))
