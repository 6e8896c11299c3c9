use Rattle.json_forms.proofs.Laws.{Collected}
use Rattle.line_parts.specs.Names.{name_of}
use Rattle.line_forms.proofs.joins.names_in.Given as goal

abbrev pub invariant-loop-k : goal.invariant-loop-k
invariant-loop-k l = Collected name_of l.items l.k l.names.items
