use Rattle.json_forms.proofs.Laws.{Collected}
use Rattle.serde_json.specs.Find.{as_bool}
use Rattle.step_forms.specs.Forms.{or_null}
use Rattle.step_forms.proofs.slices.flags_of.Given as goal

abbrev pub invariant-loop-item : goal.invariant-loop-item
invariant-loop-item l = Collected (or_null as_bool) l.items l.item-index l.flags.items
