-- Answers of few numbers, by which all went well: they read back, and are what is told of them.
use Rattle.std.proofs.Common.{◌≡◌, ◌<◌, ◌≤◌, ◌^◌, ℕ, ℤ, pos, negsuc, List, [], ◌∷◌, ◌++◌, false, true, Option, Some, None, refl, sym, ap, subst, ◌∙◌, arith}
use Rattle.std.specs.Prelude.{◌&&◌, Bool, codes, IsTrue, option_and_then, unwrap_or}
use Rattle.std.specs.Int.{cast_signed, w64}
use Rattle.std.specs.Str.{IsUtf8}
use Rattle.std.proofs.lemmas.Int.{ints}
use Rattle.std.proofs.lemmas.List.{append_cancel_right}
use Rattle.json.proofs.Printed.Utf8.{IsUtf8-are_ascii, are_ascii}
use Rattle.serde_json.specs.Data.{Data, depth}
use Rattle.serde_json.specs.Find.{get, as_bool}
use Rattle.serde_json.specs.Read.{max_depth}
use Rattle.json_forms.specs.Bytes.{data_of}
use Rattle.json_forms.specs.Lists.{list_of}
use Rattle.json_forms.specs.Members.{has_exactly, object_of}
use Rattle.json_forms.specs.Numbers.{natural, integer}
use Rattle.transcript_laws.specs.AnswerLines.{outside, is_compact, IsAnswerText}
use Rattle.transcript_laws.specs.Printable.{IsSpelled, IsPrintable}
use Rattle.transcript_laws.specs.Text.{answer_text}
use Rattle.transcript_laws.specs.Unchecked.{is_memory_answer}
use Rattle.transcript_laws.proofs.Laws.{reads_back}
use Rattle.transcript_cut.specs.Judged.{IsJudged, plain_judged, plain_kept}
use Rattle.transcript_cut.specs.Keeping.{IsKeptOf}
use Rattle.transcript_cut.specs.Numbers.{PrintsNumbers}
use Rattle.transcript_cut.specs.Plain.{plain_answer, plain_data, plain_numbers, HasSmallNumbers, IsPlainLine}
use Rattle.transcript_cut.specs.declared.plain.Plain.{Plain}
use Rattle.transcript_cut.specs.declared.plain.Plain.TheVariants.{Begun, Aborted, Staged, Committed, Written, Cell}

-- a name of a member
named : (name : List ℕ) → are_ascii name ≡ true → IsUtf8 name
named name is = IsUtf8-are_ascii name is

line_named : IsUtf8 (codes "line")
line_named = named (codes "line") refl

-- the answer of one cell, by its number
pub record ReadsCell (number : ℕ) (z : ℤ) : Type 0 where
  pub spelled : IsSpelled (object_of ((codes "line", natural number) ∷ (codes "origin", list_of []) ∷ (codes "values", integer z) ∷ []))
  pub shallow : depth (object_of ((codes "line", natural number) ∷ (codes "origin", list_of []) ∷ (codes "values", integer z) ∷ [])) ≤ max_depth

reads_cell : (number word : ℕ) (z : ℤ) → number < 2 ^ 64 → word < 2 ^ 64 → z ≡ cast_signed w64 word → ReadsCell number z
reads_cell number word (pos n) low small is = record {
  spelled = (line_named, low, (named (codes "origin") refl, tt, (named (codes "values") refl, omega (arith, ints, is), tt)));
  shallow = omega arith;
}
reads_cell number word (negsuc n) low small is = record {
  spelled = (line_named, low, (named (codes "origin") refl, tt, (named (codes "values") refl, omega (arith, ints, is), tt)));
  shallow = omega arith;
}

-- whose numbers take 64 bits read back
pub plain_printable : (plain : Plain) (number : ℕ) → HasSmallNumbers plain → number < 2 ^ 64 → IsPrintable (plain_answer plain number)
plain_printable Begun number small low = record {
  spelled = (named (codes "begin") refl, tt, (line_named, low, tt));
  shallow = omega arith;
}
plain_printable Aborted number small low = record {
  spelled = (named (codes "abort") refl, tt, (line_named, low, tt));
  shallow = omega arith;
}
plain_printable (Staged cells) number small low = record {
  spelled = (line_named, low, (named (codes "write") refl, small, tt));
  shallow = omega arith;
}
plain_printable (Committed event) number small low = record {
  spelled = (named (codes "commit") refl, (small, tt), (line_named, low, tt));
  shallow = omega arith;
}
plain_printable (Written cells event) number small low = record {
  spelled = (named (codes "commit") refl, (small.1, tt), (line_named, low, (named (codes "write") refl, small.0, tt)));
  shallow = omega arith;
}
plain_printable (Cell word) number small low =
    let reads : ReadsCell number (cast_signed w64 word) = reads_cell number word (cast_signed w64 word) low small refl in
    record { spelled = reads.spelled; shallow = reads.shallow }

-- none of them is want of memory
never_both : (b : Bool) → (b && false) ≡ false
never_both true = refl
never_both false = refl

no_memory : (d : Data) → get (codes "memory") d ≡ None → is_memory_answer d ≡ false
no_memory d none =
    ap (λ o. has_exactly (codes "line" ∷ codes "memory" ∷ []) d && unwrap_or (option_and_then as_bool o) false) none
    ∙ never_both (has_exactly (codes "line" ∷ codes "memory" ∷ []) d)

is_plain : (plain : Plain) (number : ℕ) → is_memory_answer (plain_data plain number) ≡ false
is_plain Begun number = no_memory (plain_data Begun number) refl
is_plain Aborted number = no_memory (plain_data Aborted number) refl
is_plain (Staged cells) number = no_memory (plain_data (Staged cells) number) refl
is_plain (Committed event) number = no_memory (plain_data (Committed event) number) refl
is_plain (Written cells event) number = no_memory (plain_data (Written cells event) number) refl
is_plain (Cell word) number = no_memory (plain_data (Cell word) number) refl

-- their numbers of events
prints : (plain : Plain) (number : ℕ) → PrintsNumbers (plain_data plain number) (plain_numbers plain)
prints Begun number = record { opened = refl; done = refl; failed = refl; damaged = refl }
prints Aborted number = record { opened = refl; done = refl; failed = refl; damaged = refl }
prints (Staged cells) number = record { opened = refl; done = refl; failed = refl; damaged = refl }
prints (Committed event) number = record { opened = refl; done = refl; failed = refl; damaged = refl }
prints (Written cells event) number = record { opened = refl; done = refl; failed = refl; damaged = refl }
prints (Cell word) number = record { opened = refl; done = refl; failed = refl; damaged = refl }

-- what is kept of them
keeps : (plain : Plain) (number : ℕ) → IsKeptOf (plain_data plain number) (plain_kept plain number)
keeps Begun number = tt
keeps Aborted number = tt
keeps (Staged cells) number = tt
keeps (Committed event) number = tt
keeps (Written cells event) number = tt
keeps (Cell word) number = refl

module _ (bytes : List ℕ) (number : ℕ) (plain : Plain) (is : IsPlainLine bytes number plain) where
  reads : IsAnswerText number (answer_text (plain_answer plain number)) (plain_data plain number)
  reads = reads_back (plain_answer plain number) is.printable

  same : reads.bytes ≡ bytes
  same = append_cancel_right reads.bytes bytes (10 ∷ []) (sym reads.line ∙ is.line)

  -- a line that its bytes tell is what they tell
  pub plain_is_judged : IsJudged bytes number (plain_judged plain number)
  plain_is_judged = (
    plain_data plain number,
    record {
      json = subst (λ b. data_of b ≡ Some (plain_data plain number)) same reads.object.json;
      is = record {
        members = reads.object.members;
        object = reads.object.object;
        compact = subst (λ b. IsTrue (is_compact outside b)) same reads.object.compact;
        numbered = reads.numbered;
      };
      plain = is_plain plain number;
    },
    prints plain number,
    keeps plain number,
  )
