use Rattle.chunk_plans.proofs.Same.{weaken_ok}
use Rattle.chunk_plans.proofs.planning.plan_write.Goals as goal

pub returns-in_ok-plan_held-clause-plan : goal.returns-in_ok-plan_held-clause-plan
returns-in_ok-plan_held-clause-plan g c opening start k agrees told known ready = c.in_ok-plan_held.ensures.plan opening start k agrees told known

pub returns-else-is_local-clause-numbered : goal.returns-else-is_local-clause-numbered
returns-else-is_local-clause-numbered g c = weaken_ok c.plan_stored.result (λ p every. every c.args.number) c.plan_stored.ensures.numbered

pub returns-else-is_local-clause-plan : goal.returns-else-is_local-clause-plan
returns-else-is_local-clause-plan g c = weaken_ok c.plan_stored.result (λ p plan opening start k agrees told known ready. plan opening start k c.args.number agrees told known ready) c.plan_stored.ensures.plan
