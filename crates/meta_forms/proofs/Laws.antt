-- The laws of members of metadata that other crates rest on.
pub use Rattle.meta_forms.proofs.MemberLaws.{chunks_judged, chunks_pass, empty_found, judged_from_named, len_judged, null_found, object_from_member, ok_only, one_of_two, parts_of, shape_judged, shape_passes, sizes_found, sizes_read, text_found, u64_list-naturals, u64_list-only}
pub use Rattle.meta_forms.proofs.NumberLaws.{format_judged, format_passes, word_judged, word_passes}
-- laws of crates below, given on to those above
pub use Rattle.json_forms.proofs.Laws.{has_float-naturals, has_float-integer, Text, least_name-filter, names_of-members_view}
