use Rattle.std.proofs.Common.{rules}
use Rattle.sessions.proofs.ResizeLaws.{no_leaf, no_store, other_rank}
use Rattle.sessions.proofs.resizing.stored_array.Goals as goal

pub returns-in_default-clause-err : goal.returns-in_default-clause-err
returns-in_default-clause-err c = no_leaf c.args.view.now c.args.shape.now (search rules)

pub returns-then-array-clause-err : goal.returns-then-array-clause-err
returns-then-array-clause-err c = no_store c.args.view.now c.in-Some.array.now c.args.shape.now (search rules) (search rules)

pub returns-then-items-shape-clause-err : goal.returns-then-items-shape-clause-err
returns-then-items-shape-clause-err c = other_rank c.args.view.now c.in-Some.array.now c.args.shape.now (search rules) (search rules) (search rules)
