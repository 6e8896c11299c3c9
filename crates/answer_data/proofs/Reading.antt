-- The text of data reads back.
use Rattle.std.proofs.Common.{◌≡◌, ◌≤◌, ℕ, suc, pos, negsuc, max, List, [], Some, refl, sym, ap, ap₂, ◌∙◌, subst, arith, append-nil}
use Rattle.std.specs.Prelude.{option_and_then, option_map}
use Rattle.json.specs.Json as json
use Rattle.json.specs.Lex.{tokens}
use Rattle.json.specs.Print.{IsNumber}
use Rattle.json.specs.Tree as tree
use Rattle.json.specs.Tree.{json_tokens, HasNumbers, ItemsHaveNumbers, MembersHaveNumbers}
use Rattle.json.proofs.Printed.Tokens.{tokens-print}
use Rattle.json.proofs.Printed.Decimals.{IsNumber-decimal, IsNumber-signed_decimal}
use Rattle.json.proofs.Printed.Trees.{value-json_tokens, ArePrintable-json_tokens}
use Rattle.serde_json.specs.Data.{Num, unsigned, negative, float, Data, null, boolean, number, string, array, object, Items, no_items, item, Members, no_members, member, put, depth, items_depth, members_depth}
use Rattle.serde_json.specs.Read.{number_of, of_json, of_items, of_members, read, max_depth}
use Rattle.serde_json.specs.Written.{number_text, outline, items_outline, members_outline, compact_text}
use Rattle.serde_json.proofs.Numbers.{number_of-decimal, number_of-negative}
use Rattle.serde_json.proofs.Texts.{print-outline}
use Rattle.answer_data.specs.Printable.{IsInteger, IsSpelled, AreSpelled, HasSpelled}
use Rattle.answer_data.proofs.Members.{IsOrdered, AreOrdered, HasOrdered}
use Rattle.answer_data.proofs.Rising.{joined, joined-assoc, joined-none, put_last}

number_back : (n : Num) → IsInteger n → number_of (number_text n) ≡ Some n
number_back (unsigned n) fits = number_of-decimal n fits
number_back (negative (pos n)) fits = absurd fits
number_back (negative (negsuc n)) fits = number_of-negative n fits
number_back (float x) fits = absurd fits

number_spelled : (n : Num) → IsInteger n → IsNumber (number_text n)
number_spelled (unsigned n) fits = IsNumber-decimal n fits
number_spelled (negative (pos n)) fits = absurd fits
number_spelled (negative (negsuc n)) fits = IsNumber-signed_decimal (negsuc n) fits
number_spelled (float x) fits = absurd fits

mutual
  numbers_spelled : (d : Data) → IsSpelled d → HasNumbers (outline d)
  numbers_spelled null spelled = tt
  numbers_spelled (boolean b) spelled = tt
  numbers_spelled (number n) spelled = number_spelled n spelled
  numbers_spelled (string s) spelled = tt
  numbers_spelled (array ds) spelled = items_spelled ds spelled
  numbers_spelled (object ms) spelled = members_spelled ms spelled

  items_spelled : (ds : Items) → AreSpelled ds → ItemsHaveNumbers (items_outline ds)
  items_spelled no_items spelled = tt
  items_spelled (item d ds) spelled = (numbers_spelled d spelled.0, items_spelled ds spelled.1)

  members_spelled : (ms : Members) → HasSpelled ms → MembersHaveNumbers (members_outline ms)
  members_spelled no_members spelled = tt
  members_spelled (member k d ms) spelled = (numbers_spelled d spelled.1, members_spelled ms spelled.2)

mutual
  depth-outline : (d : Data) → tree.depth (outline d) ≡ depth d
  depth-outline null = refl
  depth-outline (boolean b) = refl
  depth-outline (number n) = refl
  depth-outline (string s) = refl
  depth-outline (array ds) = ap suc (items_depth-outline ds)
  depth-outline (object ms) = ap suc (members_depth-outline ms)

  items_depth-outline : (ds : Items) → tree.items_depth (items_outline ds) ≡ items_depth ds
  items_depth-outline no_items = refl
  items_depth-outline (item d ds) = ap₂ max (depth-outline d) (items_depth-outline ds)

  members_depth-outline : (ms : Members) → tree.members_depth (members_outline ms) ≡ members_depth ms
  members_depth-outline no_members = refl
  members_depth-outline (member k d ms) = ap₂ max (depth-outline d) (members_depth-outline ms)

value_ordered : (found : Members) (k : List ℕ) (d : Data) (more : Members) → HasOrdered (joined found (member k d more)) → IsOrdered d
value_ordered no_members k d more ordered = ordered.1
value_ordered (member l e found) k d more ordered = value_ordered found k d more ordered.2

mutual
  of_json-outline : (d : Data) → IsSpelled d → IsOrdered d → of_json (outline d) ≡ Some d
  of_json-outline null spelled ordered = refl
  of_json-outline (boolean b) spelled ordered = refl
  of_json-outline (number n) spelled ordered = ap (option_map number) (number_back n spelled)
  of_json-outline (string s) spelled ordered = refl
  of_json-outline (array ds) spelled ordered = ap (option_map array) (of_items-outline ds spelled ordered)
  of_json-outline (object ms) spelled ordered = ap (option_map object) (of_members-outline ms no_members spelled ordered)

  of_items-outline : (ds : Items) → AreSpelled ds → AreOrdered ds → of_items (items_outline ds) ≡ Some ds
  of_items-outline no_items spelled ordered = refl
  of_items-outline (item d ds) spelled ordered = rw (of_json-outline d spelled.0 ordered.0) (ap (option_map (item d)) (of_items-outline ds spelled.1 ordered.1))

  of_members-outline : (ms found : Members) → HasSpelled ms → HasOrdered (joined found ms) → of_members (members_outline ms) found ≡ Some (joined found ms)
  of_members-outline no_members found spelled ordered = ap Some (sym (joined-none found))
  of_members-outline (member k d ms) found spelled ordered =
      let more = joined-assoc found (member k d no_members) ms in
      ap (option_and_then (λ e. of_members (members_outline ms) (put k e found))) (of_json-outline d spelled.1 (value_ordered found k d ms ordered))
      ∙ ap (of_members (members_outline ms)) (put_last found k d ms ordered)
      ∙ of_members-outline ms (joined found (member k d no_members)) spelled.2 (subst HasOrdered (sym more) ordered)
      ∙ ap Some more

-- data in order, with texts and numbers that JSON spells
pub read-compact_text : (d : Data) → IsSpelled d → IsOrdered d → depth d ≤ max_depth → read (compact_text d) ≡ Some d
read-compact_text d spelled ordered shallow =
    let ts = json_tokens (outline d) in
    let found : tokens (compact_text d) ≡ ts = ap tokens (sym (print-outline d)) ∙ tokens-print ts (ArePrintable-json_tokens (outline d) (numbers_spelled d spelled)) in
    let least : tree.depth (outline d) ≤ max_depth = omega (arith, depth-outline d, shallow) in
    ap (λ o. option_and_then of_json (option_and_then (λ p. json.if_last p.0 p.1) o))
    (ap (json.value max_depth) (found ∙ sym (append-nil ts)) ∙ value-json_tokens (outline d) max_depth [] least)
    ∙ of_json-outline d spelled ordered
