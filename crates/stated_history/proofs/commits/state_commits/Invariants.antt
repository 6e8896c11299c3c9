use Rattle.stated_acts.specs.Cuttings.{lines_kept}
use Rattle.stated_acts.specs.Keeping.{AreCommandsOf}
use Rattle.stated_history.proofs.KeptLaws.{AreKeptUpTo}
use Rattle.stated_history.proofs.commits.state_commits.Given as goal

abbrev pub invariant-loop-place : goal.invariant-loop-place
invariant-loop-place l = record {
  kept : AreKeptUpTo l.source l.place l.walk l.commits.items l.acts.items;
  commands : AreCommandsOf (lines_kept l.source.scripts.now l.source.said.now) l.commands;
}
