-- The items of a list, as data one after another.
use Rattle.std.proofs.Common.{◌≡◌, List, [], ◌∷◌, map, Some, option_map, refl, sym, ap, ◌∙◌}
use Rattle.serde_json.specs.Data.{Data}
use Rattle.serde_json.specs.Find.{as_array}
use Rattle.serde_json.specs.View.{view, items_of, items_view}
use Rattle.serde_json.specs.declared.value.Value.{Value}
use Rattle.json_forms.specs.Lists.{data_list, list_items}

pub data_list-items_of : (ds : List Data) → data_list (items_of ds) ≡ ds
data_list-items_of [] = refl
data_list-items_of (d ∷ ds) = ap (λ l. d ∷ l) (data_list-items_of ds)

-- the items that a value shows as a list
pub list_items-array : (d : Data) (vs : List Value) → Some (items_view vs) ≡ as_array d → Some (map view vs) ≡ list_items d
list_items-array d vs is = sym (ap (option_map data_list) (sym is) ∙ ap Some (data_list-items_of (map view vs)))
