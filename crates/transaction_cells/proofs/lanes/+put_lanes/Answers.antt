use Rattle.std.proofs.Common.{◌≡◌, ◌<◌, ◌∙◌, ◌++◌, List, map, sym, ap, subst, arith}
use Rattle.std.proofs.lemmas.Result.{on_ok_weaker}
use Rattle.std.specs.List.{AllByRecursion}
use denote.Param.Weighed.{most}
use Rattle.stack_driver.specs.Conditions.{IsNode, IsView}
use Rattle.stack_driver.specs.Views.{look_of}
use Rattle.stack_driver.specs.declared.view.View.{size-View}
use Rattle.stack_driver.proofs.Laws.{every_base, every_layer}
use Rattle.stack_targets.specs.Landings.{leaves_of}
use Rattle.transaction_cells.specs.Lanes.{HasGrid, LaneSeen, cast_lane, lane_of}
use Rattle.transaction_cells.proofs.LaneLaws.{base_smaller, grids_cast, grids_more, lanes_cast, lanes_lead, lanes_more, layers_smaller}
use Rattle.transaction_cells.proofs.lanes.+put_lanes.Goals as goal

pub put_lanes-put_lanes-requires : goal.put_lanes-put_lanes-requires
put_lanes-put_lanes-requires t c =
    let base = c.in-Cast.base in
    let small : size-View base < size-View c.args.v.now = subst (λ v. size-View base < size-View v) (sym c.in-Cast.is) (base_smaller c.in-Cast.to base) in
    let less : size-View c.get-base.result.now < size-View c.args.v.now = subst (λ v. size-View v < size-View c.args.v.now) (sym c.get-base.ensures) small in
    ((let d = c.decreases in omega (arith, less, d)), subst IsView (sym c.get-base.ensures) (every_base IsNode c.in-Cast.to base (subst IsView c.in-Cast.is c.requires)))

pub put_lanes-put_cast-requires : goal.put_lanes-put_cast-requires
put_lanes-put_cast-requires t c =
    let base = c.in-Cast.base in
    lanes_lead base c.dtype.result c.put_lanes.new.lanes.items (every_base IsNode c.in-Cast.to base (subst IsView c.in-Cast.is c.requires)) (c.dtype.ensures ∙ ap (λ v. (look_of v).dtype) c.get-base.ensures)
    (c.in_ok-put_lanes-in-Cast.ensures.lanes ∙ ap (λ (ls : List LaneSeen). ls ++ map lane_of (leaves_of c.get-base.result.now)) c.new-below.ensures.items ∙ ap (λ v. map lane_of (leaves_of v)) c.get-base.ensures)

pub put_lanes-put_layers-requires : goal.put_lanes-put_layers-requires
put_lanes-put_layers-requires t c =
    let layers = c.in-Stack.layers in
    let small : most size-View layers < size-View c.args.v.now = subst (λ v. most size-View layers < size-View v) (sym c.in-Stack.is) (layers_smaller layers c.in-Stack.transform) in
    let less : most size-View c.items.result.now < size-View c.args.v.now = subst (λ vs. most size-View vs < size-View c.args.v.now) (sym c.items.ensures) small in
    ((let d = c.decreases in omega (arith, less, d)), subst (AllByRecursion IsView) (sym c.items.ensures) (every_layer IsNode layers c.in-Stack.transform (subst IsView c.in-Stack.is c.requires)))

pub put_lanes-returns-in_ok-put_lanes-in-Cast-clause-lanes : goal.put_lanes-returns-in_ok-put_lanes-in-Cast-clause-lanes
put_lanes-returns-in_ok-put_lanes-in-Cast-clause-lanes t c =
    let base = c.in-Cast.base in
    on_ok_weaker c.put_cast.result
    (lanes_cast c.args.v.now c.in-Cast.to c.dtype.result base c.args.lanes.now.items c.put_lanes.new.lanes.items c.put_cast.new.lanes.items c.in-Cast.is (c.dtype.ensures ∙ ap (λ v. (look_of v).dtype) c.get-base.ensures)
    (c.in_ok-put_lanes-in-Cast.ensures.lanes ∙ ap (λ (ls : List LaneSeen). ls ++ map lane_of (leaves_of c.get-base.result.now)) c.new-below.ensures.items ∙ ap (λ v. map lane_of (leaves_of v)) c.get-base.ensures))
    c.put_cast.ensures

pub put_lanes-returns-in_ok-put_lanes-in-Cast-clause-ranks : goal.put_lanes-returns-in_ok-put_lanes-in-Cast-clause-ranks
put_lanes-returns-in_ok-put_lanes-in-Cast-clause-ranks t c =
    let grids = grids_cast c.args.v.now c.in-Cast.to c.in-Cast.base c.in-Cast.is (subst (λ v. AllByRecursion HasGrid (leaves_of v)) c.get-base.ensures c.in_ok-put_lanes-in-Cast.ensures.ranks) in
    on_ok_weaker c.put_cast.result (λ (_ : c.put_cast.new.lanes.items ≡ c.args.lanes.now.items ++ map (cast_lane (record { from = c.dtype.result; to = c.in-Cast.to })) c.put_lanes.new.lanes.items). grids) c.put_cast.ensures

pub put_layers-loop-layer-preserved : goal.put_layers-loop-layer-preserved
put_layers-loop-layer-preserved t c =
    let inside = c.loop-layer-test.true in
    record {
      lanes = lanes_more c.args.layers.now c.loop-layer.layer-index c.layer-item.result c.args.lanes.now.items c.loop-layer.lanes.items c.put_lanes.new.lanes.items inside c.layer-item.is c.loop-layer.invariant.lanes c.in_ok-put_lanes.ensures.lanes;
      ranks = grids_more c.args.layers.now c.loop-layer.layer-index c.layer-item.result inside c.layer-item.is c.loop-layer.invariant.ranks c.in_ok-put_lanes.ensures.ranks;
    }
