use Rattle.std.proofs.Common.{◌≡◌, ◌++◌, Err, rules, ap, sym, ◌∙◌}
use Rattle.std.specs.Prelude.{codes, decimal}
use Rattle.serde_json.specs.View.{view}
use Rattle.transform_json.specs.Output.{map_of}
use Rattle.transform_json.proofs.MapLists.{read_more, read_fault, read_all}
use Rattle.transform_json.proofs.output.maps_of_items.Goals as goal

pub returns-in_err-map_of-clause-causes : goal.returns-in_err-map_of-clause-causes
returns-in_err-map_of-clause-causes c =
    let passed : c.from_residual-in_err-map_of.result ≡ Err c.in_err-map_of.field-0.0 = search rules in
    rw passed (λ able.
    read_fault c.args.dims.now c.args.items.now c.loop-output.output c.loop-output.maps.items c.index-items-output.result c.in_err-map_of.field-0.0 c.loop-output-test.true
    (ap (λ v. map_of (codes "output/" ++ decimal c.loop-output.output) c.args.dims.now (view v)) (sym c.index-items-output.is) ∙ c.in_err-map_of.ensures.causes able) c.loop-output.invariant)

pub loop-output-preserved : goal.loop-output-preserved
loop-output-preserved c =
    rw c.in_ok-push.ensures.items
    (read_more c.args.dims.now c.args.items.now c.loop-output.output c.loop-output.maps.items c.index-items-output.result c.in_ok-map_of.field-0 c.loop-output-test.true
    (ap (λ v. map_of (codes "output/" ++ decimal c.loop-output.output) c.args.dims.now (view v)) (sym c.index-items-output.is) ∙ c.in_ok-map_of.ensures.value) c.loop-output.invariant)

pub returns-clause-value : goal.returns-clause-value
returns-clause-value c = read_all c.args.dims.now c.args.items.now c.loop-output.output c.loop-output.maps.items c.loop-output-test.false c.loop-output.invariant
