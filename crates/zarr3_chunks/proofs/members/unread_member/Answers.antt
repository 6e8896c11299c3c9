use Rattle.std.proofs.Common.{◌≡◌, Option, Some, None, option_map, string_bytes, Bor, sym, ap, ◌∙◌}
use Rattle.serde_json.specs.View.{view}
use Rattle.meta_forms.proofs.Laws.{Text}
use Rattle.zarr3_chunks.proofs.UnreadLaws.{unread_member-object, unread_member-other}
use Rattle.zarr3_chunks.proofs.members.unread_member.Goals as goal

found_bytes : (o : Option (Bor Text)) (p : Option Text) → option_map (λ name. name.now) o ≡ p → option_map (λ name. string_bytes name.now) o ≡ option_map string_bytes p
found_bytes None p e = ap (option_map string_bytes) e
found_bytes (Some x) p e = ap (option_map string_bytes) e

pub returns-in-Some-first_unread : goal.returns-in-Some-first_unread
returns-in-Some-first_unread c =
    rw c.as_str.ensures.value (found_bytes (Some c.in-Some-first_unread.name) _ c.in-Some-first_unread.ensures.found ∙
    sym (unread_member-object (view c.args.value.now) c.in-Some.members.now c.first_unread.ensures.ordered c.in-Some.ensures))

pub returns-in-None-first_unread : goal.returns-in-None-first_unread
returns-in-None-first_unread c =
    ap (option_map string_bytes) c.in-None-first_unread.ensures.found ∙
    sym (unread_member-object (view c.args.value.now) c.in-Some.members.now c.first_unread.ensures.ordered c.in-Some.ensures)

pub returns-in-None : goal.returns-in-None
returns-in-None c = sym (unread_member-other (view c.args.value.now) c.in-None.ensures)
