use Rattle.std.proofs.Common.{length}
use Rattle.std.specs.List.{AllByRecursion}
use Rattle.sessions.specs.MeaningOpenings.{leaves_from}
use Rattle.session_openings.specs.Wanted.{MayBeAsked}
use Rattle.session_openings.proofs.LoopLaws.{IsUnderWay}
use Rattle.session_openings.proofs.opening.open_all.Given as goal

-- the first leaves are opened, and those that are left may be asked
abbrev pub invariant-loop-leaf : goal.invariant-loop-leaf
invariant-loop-leaf g l = record {
  so : IsUnderWay l.around.book.now l.fn.pass l.tree l.fn.leaves.items l.pass l.leaf-iterator.rest.items l.opened.arrays.items l.opened.events.items;
  rest : AllByRecursion (MayBeAsked l.around.book.now.fixed.store.names) (leaves_from l.tree (length l.opened.arrays.items) l.leaf-iterator.rest.items);
}
