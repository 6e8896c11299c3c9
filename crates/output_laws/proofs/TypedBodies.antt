-- Answers whose numbers take 64 bits and whose texts are UTF-8 read back, where their values are along few dimensions.
use Rattle.std.proofs.Common.{◌<◌, ◌^◌, ◌+◌, ℕ, ℤ, zero, suc, List, [], ◌∷◌, length, get_or, take, drop, Option, Some, None, refl, arith}
use Rattle.std.specs.Prelude.{codes}
use Rattle.std.specs.Int.{cast_signed, w64}
use Rattle.std.specs.List.{AllByRecursion}
use Rattle.std.specs.Str.{IsUtf8}
use Rattle.std.proofs.lemmas.Int.{ints}
use Rattle.json_forms.specs.Numbers.{natural, integer}
use Rattle.cells.specs.Places.{cell_count}
use Rattle.cells.specs.declared.dtype.Dtype.{Dtype}
use Rattle.cells.specs.declared.dtype.Dtype.TheVariants.{I8, U8, I16, U16, I32, U32, I64, U64}
use Rattle.transcript_laws.specs.Nested.{rows}
use Rattle.transcript_laws.specs.Printable.{IsPrintable}
use Rattle.transcript_laws.specs.declared.Body.{Body}
use Rattle.transcript_laws.specs.declared.Answer.{Answer}
use Rattle.transcript_laws.specs.declared.Body.TheVariants.{BadSpec, StoreFailed, Values, Begun}
use Rattle.transcript_laws.specs.Answers.{body_members, events_members}
use Rattle.transcript_laws.specs.Members.{numbers_data, word_data, values_data}
use Rattle.output_laws.specs.Plain.{IsPlain, AreSmall, IsWhole}
use Rattle.output_laws.specs.Typed.{IsTypedBody}
use Rattle.output_laws.proofs.Plain.{IsOuter, outer, inner, wider, object_outer, list_plain, natural_plain, numbers_plain, indices_plain, text_plain, integer_plain, object_of_outer}

-- what stands behind the end of a log
abbrev pub no_answer : Answer
no_answer = record { line = 0; body = Begun }

members_printable : (line : ℕ) (body : Body) → line < 2 ^ 64 → AllByRecursion IsOuter (body_members body) → IsPrintable (record { line = line; body = body })
members_printable line body small each =
    let plain = object_of_outer ((codes "line", natural line) ∷ body_members body) (outer 0 refl (omega arith) (natural_plain 0 line small), each) in
    record { spelled = plain.spelled; shallow = omega (arith, plain.shallow) }

-- a body whose members nest little
pub body_typed : (body : Body) → AllByRecursion IsOuter (body_members body) → IsTypedBody body
body_typed body each = record { at_line = λ line small. record { printable = λ flat. members_printable line body small each } }

-- numbers of events, where they are told
events_outer : (events : Option (List ℕ)) → AreSmall events → AllByRecursion IsOuter (events_members events)
events_outer None small = tt
events_outer (Some ns) small = (outer 1 refl (omega arith) (numbers_plain ns small), tt)

pub bad_spec_typed : (path : List ℕ) (events : Option (List ℕ)) → IsUtf8 path → AreSmall events → IsTypedBody (BadSpec path events)
bad_spec_typed path events text small = body_typed (BadSpec path events) (outer 0 refl (omega arith) (text_plain 0 path text), events_outer events small)

pub store_failed_typed : (event : ℕ) (done : List ℕ) (events : Option (List ℕ)) → event < 2 ^ 64 → AllByRecursion (λ n. n < 2 ^ 64) done → AreSmall events → IsTypedBody (StoreFailed event done events)
store_failed_typed event done events small all added =
    body_typed (StoreFailed event done events) (
      object_outer ((codes "done", numbers_data done) ∷ (codes "event", natural event) ∷ []) refl
          (inner 1 refl (omega arith) (numbers_plain done all), (inner 0 refl (omega arith) (natural_plain 0 event small), tt)),
      events_outer events added,
    )

-- ---- values

signed_plain : (w : ℕ) → w < 2 ^ 64 → IsPlain 0 (integer (cast_signed w64 w))
signed_plain w small = integer_plain 0 (cast_signed w64 w) (record { from_least = omega (arith, ints); to_greatest = omega (arith, ints) })

word_plain : (dtype : Dtype) (w : ℕ) → w < 2 ^ 64 → IsPlain 0 (word_data dtype w)
word_plain I8 w small = signed_plain w small
word_plain U8 w small = natural_plain 0 w small
word_plain I16 w small = signed_plain w small
word_plain U16 w small = natural_plain 0 w small
word_plain I32 w small = signed_plain w small
word_plain U32 w small = natural_plain 0 w small
word_plain I64 w small = signed_plain w small
word_plain U64 w small = natural_plain 0 w small

take_small : (n : ℕ) (ws : List ℕ) → AllByRecursion (λ w. w < 2 ^ 64) ws → AllByRecursion (λ w. w < 2 ^ 64) (take n ws)
take_small zero ws each = tt
take_small (suc n) [] each = tt
take_small (suc n) (w ∷ ws) each = (each.0, take_small n ws each.1)

drop_small : (n : ℕ) (ws : List ℕ) → AllByRecursion (λ w. w < 2 ^ 64) ws → AllByRecursion (λ w. w < 2 ^ 64) (drop n ws)
drop_small zero ws each = each
drop_small (suc n) [] each = tt
drop_small (suc n) (w ∷ ws) each = drop_small n ws each.1

first_small : (ws : List ℕ) → AllByRecursion (λ w. w < 2 ^ 64) ws → get_or ws 0 0 < 2 ^ 64
first_small [] each = omega arith
first_small (w ∷ ws) each = each.0

each_word : (dtype : Dtype) (ws : List ℕ) → AllByRecursion (λ w. w < 2 ^ 64) ws → AllByRecursion (λ w. IsPlain 0 (word_data dtype w)) ws
each_word dtype [] all = tt
each_word dtype (w ∷ ws) all = (word_plain dtype w all.0, each_word dtype ws all.1)

each_row : (dtype : Dtype) (shape : List ℕ) (room size : ℕ) → ((ws : List ℕ) → AllByRecursion (λ w. w < 2 ^ 64) ws → IsPlain room (values_data dtype shape ws))
    → (count : ℕ) (ws : List ℕ) → AllByRecursion (λ w. w < 2 ^ 64) ws → AllByRecursion (λ row. IsPlain room (values_data dtype shape row)) (rows count size ws)
each_row dtype shape room size call zero ws all = tt
each_row dtype shape room size call (suc count) ws all =
    (call (take size ws) (take_small size ws all), each_row dtype shape room size call count (drop size ws) (drop_small size ws all))

values_plain : (dtype : Dtype) (shape words : List ℕ) → AllByRecursion (λ w. w < 2 ^ 64) words → IsPlain (length shape) (values_data dtype shape words)
values_plain dtype [] words each = word_plain dtype _ (first_small words each)
values_plain dtype (size ∷ []) words each = wider 1 (length (size ∷ [])) _ (omega arith) (list_plain (word_data dtype) words 0 (each_word dtype words each))
values_plain dtype (size ∷ s ∷ shape) words each =
    wider (length (s ∷ shape) + 1) (length (size ∷ s ∷ shape)) _ (omega arith)
    (list_plain (values_data dtype (s ∷ shape)) (rows size (cell_count (s ∷ shape)) words) (length (s ∷ shape))
    (each_row dtype (s ∷ shape) (length (s ∷ shape)) (cell_count (s ∷ shape)) (values_plain dtype (s ∷ shape)) size words each))

-- values of words of 64 bits
pub values_typed : (origin : List ℤ) (shape : List ℕ) (dtype : Dtype) (words : List ℕ) → AllByRecursion IsWhole origin → AllByRecursion (λ w. w < 2 ^ 64) words → IsTypedBody (Values origin shape dtype words)
values_typed origin shape dtype words whole small = record {
  at_line = λ line fits. record {
    printable = λ flat. members_printable line (Values origin shape dtype words) fits (
      outer 1 refl (omega arith) (indices_plain origin whole),
      (outer 32 refl (omega arith) (wider (length shape) 32 _ flat (values_plain dtype shape words small)), tt),
    );
  };
}
