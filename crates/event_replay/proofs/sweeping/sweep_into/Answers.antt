use Rattle.event_replay.proofs.SweepLaws.{all_upto}
use Rattle.event_replay.proofs.sweeping.sweep_into.Goals as goal

pub ends_of-requires-clause-within : goal.ends_of-requires-clause-within
ends_of-requires-clause-within c = all_upto c.args.events.now c.args.waiting.now c.requires.waiting
