use Rattle.std.specs.Prelude.{codes}
use Rattle.json_forms.proofs.Laws.{Collected}
use Rattle.transform_json.specs.Bounds.{bound_of}
use Rattle.transform_json.proofs.bounds.given_lowers.Given as goal

abbrev pub invariant-loop-item : goal.invariant-loop-item
invariant-loop-item l = Collected (bound_of (codes "-inf")) l.items l.item-index l.lowers.items
