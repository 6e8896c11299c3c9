use Rattle.serde_json.specs.View.{view}
use Rattle.json_forms.proofs.ItemLists.{list_items-array}
use Rattle.json_forms.proofs.lists.list_items.Goals as goal

pub returns-in-Some : goal.returns-in-Some
returns-in-Some c = rw c.as_slice.ensures.value (list_items-array (view c.args.value.now) c.in-Some.items.now.items c.in-Some.ensures)
