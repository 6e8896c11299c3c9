use Rattle.std.proofs.Common.{◌≡◌, ◌++◌}
use Rattle.script_streams.specs.Reading.{texts_in}
use Rattle.transcript_check.proofs.files.lists_of.Given as goal

abbrev pub invariant-loop-text : goal.invariant-loop-text
invariant-loop-text l = l.lists.items ++ texts_in l.text-iterator.rest.items ≡ texts_in l.fn.texts.items
