use Rattle.std.proofs.Common.{ap, ◌∙◌}
use Rattle.std.proofs.lemmas.Result.{on_ok_weaker}
use Rattle.state_laws.specs.Fetches.{settled}
use Rattle.shared_state.proofs.state.State.settle.Goals as goal

pub returns-clause-after : goal.returns-clause-after
returns-clause-after g c =
    on_ok_weaker c.settle_at.result (λ done k known. done k known ∙ ap (λ key. settled c.args.self.now.log k key c.args.snapshot) (c.in_ok-key.ensures k known)) c.settle_at.ensures.after
