use Rattle.std.proofs.Common.{inl}
use Rattle.indexmap.specs.IndexMap.{get_by_text}
use Rattle.session_openings.proofs.resolving.renewed.Goals as goal

pub returns-in-Ok : goal.returns-in-Ok
returns-in-Ok c = inl (record { made = c.in-Ok.view; renewal = c.in-Ok.ensures.ok; rules = c.in-Ok.ensures.view c.requires.view; bound = c.bound.ensures })

pub returns-in-Err : goal.returns-in-Err
returns-in-Err c = c.refused.ensures c.args.shape.now c.args.view c.args.name.now (get_by_text c.args.names.now) c.requires.array c.in-Err.ensures.err
