use Rattle.std.proofs.Common.{length, arith}
use Rattle.session_openings.proofs.LoopLaws.{under_way, asked_start, asked_next, asked_more, leaf_more, leaf_refused, all_opened}
use Rattle.session_openings.proofs.opening.open_all.Goals as goal

pub loop-leaf-init : goal.loop-leaf-init
loop-leaf-init g c = record {
  so =
      under_way c.args.around.now.book.now c.args.pass.now c.args.tree.now c.args.leaves.items c.into_iter-leaf-iterator.result.rest.items c.none_opened-opened.result.arrays.items c.none_opened-opened.result.events.items c.requires.pass
      c.into_iter-leaf-iterator.ensures.into_iter_gives.0 c.none_opened-opened.ensures.0 c.none_opened-opened.ensures.1;
  rest =
      asked_start c.args.around.now.book.now c.args.pass.now c.args.tree.now c.args.leaves.items c.args.around.now.book.now.fixed.store.names c.into_iter-leaf-iterator.result.rest.items c.none_opened-opened.result.arrays.items c.into_iter-leaf-iterator.ensures.into_iter_gives.0
      c.none_opened-opened.ensures.0 c.requires.leaves;
}

pub open_leaf-requires-clause-pass : goal.open_leaf-requires-clause-pass
open_leaf-requires-clause-pass g c = c.loop-leaf.invariant.so.opened.passed.rested

pub open_leaf-requires-clause-leaf : goal.open_leaf-requires-clause-leaf
open_leaf-requires-clause-leaf g c =
    (asked_next c.args.around.now.book.now c.args.pass.now c.args.tree.now c.args.leaves.items c.loop-leaf.pass c.loop-leaf.pass c.loop-leaf.leaf-iterator.rest.items c.in-Some.leaf c.next.new.self.rest.items c.in-Some.ensures.steps.0 c.loop-leaf.opened.arrays.items
    c.loop-leaf.opened.events.items c.loop-leaf.invariant.so c.args.around.now.book.now.fixed.store.names c.loop-leaf.invariant.rest).0

pub loop-leaf-preserved : goal.loop-leaf-preserved
loop-leaf-preserved g c = record {
  so =
      leaf_more c.args.around.now.book.now c.args.pass.now c.args.tree.now c.args.leaves.items c.loop-leaf.pass c.open_leaf.new.pass c.loop-leaf.leaf-iterator.rest.items c.in-Some.leaf c.next.new.self.rest.items c.in-Some.ensures.steps.0 c.loop-leaf.opened.arrays.items
      c.loop-leaf.opened.events.items c.loop-leaf.invariant.so c.in-Ok.more.arrays.items c.in-Ok.more.events.items c.in-Ok.ensures.ok;
  rest =
      asked_more c.args.around.now.book.now c.args.pass.now c.args.tree.now c.args.leaves.items c.loop-leaf.pass c.open_leaf.new.pass c.loop-leaf.leaf-iterator.rest.items c.in-Some.leaf c.next.new.self.rest.items c.in-Some.ensures.steps.0 c.loop-leaf.opened.arrays.items
      c.loop-leaf.opened.events.items c.loop-leaf.invariant.so c.in-Ok.more.arrays.items c.in-Ok.more.events.items c.in-Ok.ensures.ok c.args.around.now.book.now.fixed.store.names c.loop-leaf.invariant.rest;
}

pub returns-in-Err-clause-err : goal.returns-in-Err-clause-err
returns-in-Err-clause-err g c =
    leaf_refused c.args.around.now.book.now c.args.pass.now c.args.tree.now c.args.leaves.items c.loop-leaf.pass c.open_leaf.new.pass c.loop-leaf.leaf-iterator.rest.items c.in-Some.leaf c.next.new.self.rest.items c.in-Some.ensures.steps.0 c.loop-leaf.opened.arrays.items
    c.loop-leaf.opened.events.items c.loop-leaf.invariant.so c.in-Err.body c.in-Err.ensures.err

pub returns-clause-ok : goal.returns-clause-ok
returns-clause-ok g c =
    all_opened c.args.around.now.book.now c.args.pass.now c.args.tree.now c.args.leaves.items c.loop-leaf.pass c.loop-leaf.leaf-iterator.rest.items c.loop-leaf.opened.arrays.items c.loop-leaf.opened.events.items (omega (arith, c.in-None.ensures.steps.0)) c.loop-leaf.invariant.so
