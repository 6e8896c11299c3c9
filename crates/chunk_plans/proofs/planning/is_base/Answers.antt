use Rattle.std.proofs.Common.{sym, ◌∙◌, ap}
use Rattle.std.specs.Prelude.{◌==◌}
use Rattle.shared_state.specs.Fetches.{generation_in}
use Rattle.chunk_plans.specs.Writes.{is_base}
use Rattle.chunk_plans.proofs.Usable.{generation_of_write}
use Rattle.chunk_plans.proofs.planning.is_base.Goals as goal

pub returns-in-Some : goal.returns-in-Some
returns-in-Some g c k known =
    ap (λ n. c.in-Some.generation == n) (generation_of_write c.args.state.now.log c.args.write.now c.requires.write c.items.result.now c.generation.result k c.items.ensures c.generation.ensures.by_table known)
    ∙ ap (is_base (generation_in c.args.state.now.log k c.args.write.now.key)) (sym c.in-Some.is)
