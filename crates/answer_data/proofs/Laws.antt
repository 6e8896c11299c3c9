-- The laws of answers as data that other crates rest on.
pub use Rattle.answer_data.proofs.Printing.{IsSpelled-object_of, IsSpelled-list_of, IsSpelled-numbers_data, IsSpelled-values_data, depth-object_of, depth-list_of, depth-numbers_data, depth-values_data}
pub use Rattle.answer_data.proofs.WordsBack.{nested_words-values_data}
use Rattle.std.proofs.Common.{◌≡◌, ◌≤◌, ℕ, List, [], ◌∷◌, ◌++◌, map, Some, refl, sym, ap, ap₂, ◌∙◌, subst, append-nil}
use Rattle.std.specs.Prelude.{codes, option_and_then, option_map}
use Rattle.std.proofs.lemmas.Str.{is_utf8-from_IsUtf8}
use Rattle.serde_json.specs.Data.{Data, depth}
use Rattle.serde_json.specs.Find.{as_number, as_u64}
use Rattle.serde_json.specs.Read.{max_depth}
use Rattle.serde_json.specs.Written.{compact_text}
use Rattle.serde_json.proofs.Views.{get_member-put}
use Rattle.json_forms.specs.Bytes.{data_of}
use Rattle.json_forms.specs.Lists.{all_of, u64_list}
use Rattle.json_forms.specs.Members.{members_from}
use Rattle.json_forms.specs.Numbers.{natural, whole_number}
use Rattle.json_forms.proofs.Laws.{data_list-items_of}
use Rattle.answer_text.specs.Text.{answer_text}
use Rattle.answer_text.specs.declared.answer.Answer.{Answer}
use Rattle.answer_data.specs.Answers.{body_members, answer_data}
use Rattle.answer_data.specs.Members.{numbers_data}
use Rattle.answer_data.specs.Lines.{is_compact, outside, IsAnswerText}
use Rattle.answer_data.specs.Printable.{IsSpelled, IsPrintable}
use Rattle.answer_data.proofs.Members.{IsOrdered}
use Rattle.answer_data.proofs.Reading.{read-compact_text}
use Rattle.answer_data.proofs.Parts.{IsPart-compact_text}
use Rattle.answer_data.proofs.Bodies.{answer_text-compact_text}
use Rattle.answer_data.proofs.Orders.{answer_ordered}

-- the text of ordered data whose texts and numbers JSON spells is that data
pub data_of-compact_text : (d : Data) → IsSpelled d → IsOrdered d → depth d ≤ max_depth → data_of (compact_text d) ≡ Some d
unfolding data_of
data_of-compact_text d spelled ordered shallow = rw (is_utf8-from_IsUtf8 (compact_text d) (IsPart-compact_text d spelled).utf8) (read-compact_text d spelled ordered shallow)

-- the text of a printable answer is one line, and reads back as the answer's data
pub reads_back : (a : Answer) → IsPrintable a → IsAnswerText a.line (answer_text a) (answer_data a)
reads_back a printable =
    let d = answer_data a in
    let part = IsPart-compact_text d printable.spelled in
    record {
      bytes = compact_text d;
      line = answer_text-compact_text a;
      one_line = part.one_line;
      object = record {
        json = data_of-compact_text d printable.spelled (answer_ordered a) printable.shallow;
        members = members_from ((codes "line", natural a.line) ∷ body_members a.body);
        object = refl;
        compact = ap (is_compact outside) (sym (append-nil (compact_text d))) ∙ part.compact [];
      };
      numbered = ap (option_and_then whole_number) (get_member-put (codes "line") (natural a.line) (members_from (body_members a.body)));
    }

without_last : (x : ℕ) (bytes other : List ℕ) → bytes ++ x ∷ [] ≡ other ++ x ∷ [] → bytes ≡ other
without_last x [] [] e = refl
without_last x [] (c ∷ []) e = absurd (cc)
without_last x [] (c ∷ d ∷ other) e = absurd (cc)
without_last x (b ∷ []) [] e = absurd (cc)
without_last x (b ∷ c ∷ bytes) [] e = absurd (cc)
without_last x (b ∷ bytes) (c ∷ other) e =
    let same : b ≡ c = cc in
    let rest : bytes ++ x ∷ [] ≡ other ++ x ∷ [] = cc in
    ap₂ (λ y ys. y ∷ ys) same (without_last x bytes other rest)

-- a text is the line of one object at most
pub IsAnswerText-one : (n m : ℕ) (text : List ℕ) (d e : Data) → IsAnswerText n text d → IsAnswerText m text e → d ≡ e
IsAnswerText-one n m text d e one other =
    let same : one.bytes ≡ other.bytes = without_last 10 one.bytes other.bytes (sym one.line ∙ other.line) in
    let read : Some d ≡ Some e = sym one.object.json ∙ ap data_of same ∙ other.object.json in
    cc

-- of a printable answer's text the object is the answer's
pub told_data : (a : Answer) → IsPrintable a → (n : ℕ) (text : List ℕ) (d : Data) → IsAnswerText n text d → text ≡ answer_text a → d ≡ answer_data a
told_data a printable n text d told same =
    IsAnswerText-one n a.line (answer_text a) d (answer_data a) (subst (λ t. IsAnswerText n t d) same told) (reads_back a printable)

-- numbers are read back from their list
pub u64_list-numbers_data : (ns : List ℕ) → u64_list (numbers_data ns) ≡ Some ns
u64_list-numbers_data ns = ap (λ ds. option_and_then (all_of (λ x. option_and_then as_u64 (as_number x))) (Some ds)) (data_list-items_of (map natural ns)) ∙ each ns
  where
    each : (xs : List ℕ) → all_of (λ x. option_and_then as_u64 (as_number x)) (map natural xs) ≡ Some xs
    each [] = refl
    each (x ∷ xs) = ap (λ o. option_map (λ ys. x ∷ ys) o) (each xs)
