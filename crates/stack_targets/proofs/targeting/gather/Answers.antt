use Rattle.std.proofs.Common.{◌∙◌, ℕ, List, sym, subst}
use Rattle.stack_targets.proofs.Gathered.{IsGathered, gathered_none, gathered_more}
use Rattle.stack_targets.proofs.targeting.gather.Goals as goal

pub loop-index-init : goal.loop-index-init
loop-index-init c = record {
  rank = c.requires.rank;
  room = c.requires.room;
  gathered = gathered_none c.args.v.now c.args.walk.now.cells c.args.buffers.now.leaves.items c.args.buffers.now.numbers.items c.requires.cells c.requires.no_leaves c.requires.no_numbers c.requires.finite c.requires.ordered;
}

pub loop-index-preserved : goal.loop-index-preserved
loop-index-preserved c =
    let put = c.in-Ok.ensures.ok in
    let more = gathered_more c.args.v.now c.advance.new.out c.loop-index.walk.cells c.advance.new.self.cells c.loop-index.buffers.leaves.items c.loop-index.buffers.numbers.items c.land.new.numbers.items put.index c.in-Ok.leaf
    c.loop-index-test.ensures.cell put.landed put.put c.loop-index.invariant.gathered in
    record {
      rank = c.advance.ensures.rank ∙ c.loop-index.invariant.rank;
      room = c.advance.auto.out ∙ c.loop-index.invariant.room;
      gathered = subst (λ (ls : List ℕ). IsGathered c.args.v.now c.advance.new.self.cells ls c.land.new.numbers.items) (sym c.in_ok-push-in-Ok.ensures.items) more;
    }
