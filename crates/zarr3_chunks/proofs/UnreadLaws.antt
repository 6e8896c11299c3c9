-- The first member that would have to be understood is the least.
use Rattle.std.proofs.Common.{◌≡◌, ℕ, List, Bool, ◌&&◌, Some, None, option_map, BTreeMap, string_bytes, string_cmp, refl, sym, ap, ◌∙◌}
use Rattle.std.specs.Prelude.{find, filter, not}
use Rattle.std.specs.BTreeMap.{IsOrdered, keys}
use Rattle.serde_json.specs.Data.{Data, Members, null, boolean, number, string, array, object}
use Rattle.serde_json.specs.Find.{as_object}
use Rattle.serde_json.specs.View.{members_view}
use Rattle.serde_json.specs.declared.value.Value.{Value}
use Rattle.meta_forms.specs.Members.{names_of, is_among, least_name}
use Rattle.meta_forms.proofs.Laws.{Text, least_name-filter, names_of-members_view}
use Rattle.zarr3_chunks.specs.Described.{known_members}
use Rattle.zarr3_chunks.specs.Read.{is_passed, unread_member}

-- a member would have to be understood
abbrev is_unread : Data → List ℕ → Bool
is_unread d name = not (is_among name known_members) && not (is_passed name d)

of_members : (d : Data) (m : BTreeMap Text Value) → IsOrdered string_cmp m
    → least_name (filter (is_unread d) (names_of (members_view m.entries))) ≡ option_map string_bytes (find (λ k. is_unread d (string_bytes k)) (keys m))
of_members d m sorted =
    ap (λ names. least_name (filter (is_unread d) names)) (names_of-members_view m.entries) ∙
    least_name-filter (is_unread d) (λ k. is_unread d (string_bytes k)) (λ k. refl) (keys m) sorted

pub unread_member-object : (d : Data) (m : BTreeMap Text Value) → IsOrdered string_cmp m → Some (members_view m.entries) ≡ as_object d
    → unread_member d ≡ option_map string_bytes (find (λ k. not (is_among (string_bytes k) known_members) && not (is_passed (string_bytes k) d)) (keys m))
unread_member-object null m sorted is = cc
unread_member-object (boolean b) m sorted is = cc
unread_member-object (number n) m sorted is = cc
unread_member-object (string s) m sorted is = cc
unread_member-object (array ds) m sorted is = cc
unread_member-object (object ms) m sorted is =
    let same : members_view m.entries ≡ ms = cc in
    ap (λ (q : Members). least_name (filter (is_unread (object ms)) (names_of q))) (sym same) ∙ of_members (object ms) m sorted

pub unread_member-other : (d : Data) → None ≡ as_object d → unread_member d ≡ None
unread_member-other null is = refl
unread_member-other (boolean b) is = refl
unread_member-other (number n) is = refl
unread_member-other (string s) is = refl
unread_member-other (array ds) is = refl
unread_member-other (object ms) is = cc
