use Rattle.std.proofs.Common.{◌∙◌, ap, take}
use Rattle.std.specs.List.{list_all}
use Rattle.index_intervals.specs.Bounds.{is_ordered}
use Rattle.chunk_grid.proofs.BoxLaws.{all-push, copied-more, taken-more}
use Rattle.chunk_grid.proofs.boxes.copied.Goals as goal

pub loop-dim-preserved : goal.loop-dim-preserved
loop-dim-preserved c =
    let dims = c.args.dims.now in
    let k = c.loop-dim.dim-index in
    let dim = c.dim-item.result in
    record {
      copy = copied-more dims c.loop-dim.copy.items c.push.new.self.items k dim c.copied_interval.result c.loop-dim-test.true c.dim-item.is c.loop-dim.invariant.copy c.copied_interval.ensures.value c.in_ok-push.ensures.items;
      ordered = ap (list_all is_ordered) (taken-more dims k dim c.loop-dim-test.true c.dim-item.is) ∙ all-push is_ordered (take k dims) dim c.loop-dim.invariant.ordered c.copied_interval.ensures.ordered;
    }
