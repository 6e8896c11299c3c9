-- The laws of JSON data that other crates rest on.
pub use Rattle.json_forms.proofs.Collecting.{Collected}
pub use Rattle.json_forms.proofs.ItemLists.{data_list-items_of}
pub use Rattle.json_forms.proofs.NoFloats.{has_float-integer, has_float-integers, has_float-list_of, has_float-naturals, has_float-object_of, members_have_float-put}
pub use Rattle.json_forms.proofs.OrderedNames.{Text, least_name-filter, names_of-members_view}
