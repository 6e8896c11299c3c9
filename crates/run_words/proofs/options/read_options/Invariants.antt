use Rattle.std.proofs.Common.{◌-◌, length}
use Rattle.run_words.specs.Options.{texts_of}
use Rattle.run_words.specs.Reading.{AreUnderWay}
use Rattle.run_words.proofs.options.read_options.Given as goal

abbrev pub invariant-loop-choice : goal.invariant-loop-choice
invariant-loop-choice l = AreUnderWay (texts_of l.words) l.options

abbrev pub decreases-loop-choice : goal.decreases-loop-choice
decreases-loop-choice l = length l.words - l.options.first
