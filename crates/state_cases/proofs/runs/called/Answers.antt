use Rattle.state_cases.proofs.runs.called.Goals as goal

pub with_state-requires : goal.with_state-requires
with_state-requires g c = record { opening = _; agrees = c.in-Ok.ensures.agrees; every = c.requires.every }
