use Rattle.std.proofs.Common.{refl, sym, ◌∙◌}
use Rattle.chunk_plans.proofs.Holding.{held_there, held_size, held_words, held_plan}
use Rattle.chunk_plans.proofs.Same.{answered_some}
use Rattle.chunk_plans.proofs.planning.plan_held.Goals as goal

pub unreachable-requires : goal.unreachable-requires
unreachable-requires g c =
    let k = c.requires.write.0 in
    let known = c.requires.write.1.known in
    held_there c.args.write.array k _ c.requires.agrees known (c.requires.local k known) (sym c.in_default.is ∙ c.in_ok-base.ensures.value k known)

pub held_over-requires-clause-size : goal.held_over-requires-clause-size
held_over-requires-clause-size g c =
    held_size c.args.write c.in-Some.base c.requires.agrees c.requires.write c.requires.local (answered_some c.args.write c.args.write.chunk.now c.in_ok-base.field-0 c.in-Some.base refl c.in-Some.is c.in_ok-base.ensures.answered)

pub held_over-requires-clause-words : goal.held_over-requires-clause-words
held_over-requires-clause-words g c =
    held_words c.args.write c.in-Some.base c.requires.agrees c.requires.write c.requires.local (answered_some c.args.write c.args.write.chunk.now c.in_ok-base.field-0 c.in-Some.base refl c.in-Some.is c.in_ok-base.ensures.answered)

pub returns-clause-numbered : goal.returns-clause-numbered
returns-clause-numbered g c = c.in_ok-cells.ensures.generation

pub returns-clause-plan : goal.returns-clause-plan
returns-clause-plan g c opening start k agrees told known = (
  c.in_ok-cells.ensures.generation,
  held_plan c.args.write c.in-Some.base c.requires.agrees c.requires.write c.requires.local (answered_some c.args.write c.args.write.chunk.now c.in_ok-base.field-0 c.in-Some.base refl c.in-Some.is c.in_ok-base.ensures.answered) opening start k
      c.in_ok-cells.cells.cells agrees told known c.in_ok-cells.ensures.words,
)
