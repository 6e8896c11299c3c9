-- The transcript of three cells whose write names an event by a number past 64 bits: part 4 fails.
use Rattle.std.proofs.Common.{◌≡◌, ◌<◌, ◌+◌, lit≤, ℕ, zero, suc, length, arith, List, [], ◌∷◌, Bool, true, false, cond, Some, None, inl, inr, refl, sym, ap, subst, ◌∙◌, codes}
use Rattle.std.specs.Prelude.{Contains, ◌==◌, ◌⊎◌, unwrap_or, option_map, option_and_then}
use Rattle.std.specs.List.{AllByRecursion, list_any}
use Rattle.std.specs.Str.{is_utf8, chars}
use Rattle.serde_json.specs.Data.{Data}
use Rattle.serde_json.specs.Find.{get, as_number, is_float}
use Rattle.serde_json.proofs.OnLiterals.{serde_json_on_literals}
use Rattle.json_forms.specs.Bytes.{data_of}
use Rattle.json_forms.specs.Lists.{list_items}
use Rattle.json_forms.specs.Members.{has_exactly, least_unknown}
use Rattle.answer_data.specs.Answers.{answer_data}
use Rattle.history.specs.Acts.{Act, opens, binds, reads, stages, writes, begins, commits, aborts, resizes, resolves}
use Rattle.history.specs.Answers as body
use Rattle.history.specs.Answers.{Body}
use Rattle.history.specs.History.{History}
use Rattle.history.specs.Own as own
use Rattle.history.specs.Own.{Numbered}
use Rattle.serial_runs.specs.Numbered.{IsEvent}
use Rattle.transcript_laws.specs.Transcript.{Told, IsToldOf, IsCut}
use Rattle.transcript_laws.specs.Numbers.{numbers_of, AreRising}
use Rattle.transcript_laws.specs.Windows.{Window, window_of}
use Rattle.transcript_laws.specs.Takings.{built_view}
use Rattle.transcript_laws.specs.Claimed.{stated_asked, AreStated, IsStated}
use Rattle.transcript_laws.specs.Standings.{Standing, first_standing, standing_step, standing_asked, names_opened}
use Rattle.transcript_laws.specs.Fitting.{IsActAnswer, open_answer, viewed, read, read_failed, staged, written, write_failed, begun, committed, conflicts, commit_failed, aborted, IsAnswer, printed_at, IsFitting, IsAnswered}
use Rattle.transcript_laws.specs.Unchecked.{is_memory_answer, by_script, by_memory}
use Rattle.transcript_laws.specs.Verdicts.{IsVerdict, is_no, IsChecked, no, part_4}
use Rattle.transcript_laws.specs.ThreeCells.{scripts, bytes_2, bytes_3}
use Rattle.transcript_laws.specs.ThreeCellsTold.{line, told_1, whole, event_1}
use Rattle.transcript_laws.specs.ThreeCellsNumberless.{transcript, text_2, text_3, object_2, object_3, told_2, told_3}
use Rattle.transcript_laws.proofs.Cuts.{uncut}
use Rattle.transcript_laws.proofs.ThreeCells.{named, builds, acts_1, acts_2, acts_read, legal_1}
use Rattle.transcript_laws.proofs.ThreeCellsAsks.{told_of_1}
use Rattle.transcript_laws.proofs.ThreeCellsVerdict.{none_first, memory_1}
use Rattle.transcript_laws.proofs.ThreeCellsWrong.{none_of}

reads_2 : data_of text_2 ≡ Some object_2
unfolding data_of serde_json_on_literals is_utf8 chars
reads_2 = refl

reads_3 : data_of text_3 ≡ Some object_3
unfolding data_of serde_json_on_literals is_utf8 chars
reads_3 = refl

told_of_2 : IsToldOf (line 2 bytes_2) told_2
told_of_2 = record { session = refl; number = refl; asked = refl; answer = record { bytes = text_2; line = refl; one_line = refl; object = record { json = reads_2; members = _; object = refl; compact = refl }; numbered = refl } }

told_of_3 : IsToldOf (line 3 bytes_3) told_3
told_of_3 = record { session = refl; number = refl; asked = refl; answer = record { bytes = text_3; line = refl; one_line = refl; object = record { json = reads_3; members = _; object = refl; compact = refl }; numbered = refl } }

is_cut : IsCut scripts transcript (told_1 ∷ told_2 ∷ told_3 ∷ [])
is_cut = record { each = (told_of_1, (told_of_2, (told_of_3, tt))); whole = refl }

memory_2 : is_memory_answer told_2.answer ≡ false
unfolding has_exactly least_unknown
memory_2 = refl

memory_3 : is_memory_answer told_3.answer ≡ false
unfolding has_exactly least_unknown
memory_3 = refl

is_checked : IsChecked scripts transcript
is_checked line (by_script first) = none_first line first
is_checked line (by_memory all off) = uncut scripts transcript _ is_cut (none_of told_1 told_2 told_3 memory_1 memory_2 memory_3) line off

-- what is told of a session: all or nothing
abbrev by : Bool → List Told
by b = cond b (told_1 ∷ cond b (told_2 ∷ cond b (told_3 ∷ []) []) (cond b (told_3 ∷ []) [])) (cond b (told_2 ∷ cond b (told_3 ∷ []) []) (cond b (told_3 ∷ []) []))

-- the only number is that of the opening
rises : (b : Bool) → AreRising (numbers_of (by b))
rises true = tt
rises false = tt

each_is : (n : ℕ) → n < 1 → Contains {X = ℕ} (1 ∷ []) (n + 1)
each_is zero low = (0, lit≤ tt, refl)
each_is (suc n) low = absurd (omega (arith, low))

-- the history of the opening alone is stated
abbrev history : History
history = event_1 ∷ []

abbrev AreEvents : List Numbered → Type 0
AreEvents os = AllByRecursion (λ (o : Numbered). IsEvent history o.number o.event) os

states_1 : IsStated history first_standing told_1
states_1 = record {
  numbers = ap (λ asked. own.numbers_of (stated_asked history 0 1 asked told_1.answer)) acts_1;
  events = subst (λ asked. AreEvents (stated_asked history 0 1 asked told_1.answer)) (sym acts_1) (record { before = []; later = []; parts = refl; numbered = refl }, tt);
}

states_2 : IsStated history named told_2
states_2 = record {
  numbers = ap (λ asked. own.numbers_of (stated_asked history 0 2 asked told_2.answer)) acts_2;
  events = subst (λ asked. AreEvents (stated_asked history 0 2 asked told_2.answer)) (sym acts_2) tt;
}

states_3 : IsStated history named told_3
states_3 = record {
  numbers = ap (λ asked. own.numbers_of (stated_asked history 0 3 asked told_3.answer)) acts_read;
  events = subst (λ asked. AreEvents (stated_asked history 0 3 asked told_3.answer)) (sym acts_read) tt;
}

stands_1 : standing_step history first_standing told_1 ≡ named
stands_1 =
    ap (λ asked. standing_asked history first_standing 1 asked told_1.answer) acts_1
    ∙ ap (λ r. record first_standing { names = names_opened first_standing.names (codes "a") (get (codes "open") told_1.answer) (built_view r) }) builds

stands_2 : standing_step history named told_2 ≡ named
stands_2 = ap (λ asked. standing_asked history named 2 asked told_2.answer) acts_2

rest_stated : (s : Standing) → named ≡ s → AreStated history s (told_2 ∷ told_3 ∷ [])
rest_stated s is =
    subst (λ (u : Standing). AreStated history u (told_2 ∷ told_3 ∷ [])) is
    (states_2, (subst (λ (u : Standing). IsStated history u told_3) (sym stands_2) states_3, tt))

stated : (b : Bool) → AreStated history first_standing (by b)
stated true = (states_1, rest_stated (standing_step history first_standing told_1) (sym stands_1))
stated false = tt

-- what a write may be answered
abbrev WriteTold : Act → Body → Type 0
WriteTold (opens name leaves build) answer = Unit {0}
WriteTold (binds name view) answer = Unit {0}
WriteTold (reads view down) answer = Unit {0}
WriteTold (stages t view words) answer = Unit {0}
WriteTold (writes view words) answer = ((n : ℕ) × (answer ≡ body.written (length words) (n ∷ []))) ⊎ ((n : ℕ) × (answer ≡ body.store_failed (n + 1) [] None))
WriteTold (begins mode) answer = Unit {0}
WriteTold (commits t) answer = Unit {0}
WriteTold aborts answer = Unit {0}
WriteTold (resizes array shape) answer = Unit {0}
WriteTold (resolves name view array) answer = Unit {0}

write_told : (w : Window) (act : Act) (answer : Body) → IsActAnswer history 0 w None 2 [] act answer → WriteTold act answer
write_told w act answer (open_answer is) = tt
write_told w act answer viewed = tt
write_told w act answer (read seen) = tt
write_told w act answer (read_failed n fetched) = tt
write_told w act answer staged = tt
write_told w act answer (written n) = inl (n, refl)
write_told w act answer (write_failed n changed) = inr (n, refl)
write_told w act answer begun = tt
write_told w act answer (committed n) = tt
write_told w act answer (conflicts is) = tt
write_told w act answer (commit_failed n changed) = tt
write_told w act answer aborted = tt

-- a number of an event in the object is a float
abbrev is_float_item : Data → Bool
is_float_item d = unwrap_or (option_map is_float (as_number d)) false

abbrev has_float : Data → Bool
has_float d = list_any is_float_item (unwrap_or (option_and_then list_items (get (codes "commit") d)) [])

written_none : (n : ℕ) → has_float (answer_data (printed_at 2 (body.written 3 (n ∷ [])))) ≡ false
written_none n = refl

failed_none : (n : ℕ) → has_float (answer_data (printed_at 2 (body.store_failed (n + 1) [] None))) ≡ false
failed_none n = refl

not_written : (answer : Body) → object_2 ≡ answer_data (printed_at 2 answer) → WriteTold (writes whole (1 ∷ 2 ∷ 3 ∷ [])) answer → ⊥
not_written answer object (inl (n, same)) =
    let both : true ≡ false = ap has_float object ∙ ap (λ b. has_float (answer_data (printed_at 2 b))) same ∙ written_none n in
    cc
not_written answer object (inr (n, same)) =
    let both : true ≡ false = ap has_float object ∙ ap (λ b. has_float (answer_data (printed_at 2 b))) same ∙ failed_none n in
    cc

abbrev window : Window
window = window_of 1 None (told_1 ∷ []) told_2 (told_3 ∷ [])

not_second : (s : Standing) → named ≡ s → IsFitting history (window_of 1 s.transaction (told_1 ∷ []) told_2 (told_3 ∷ [])) s told_2 → ⊥
not_second s is fitting =
    let f : IsFitting history window named told_2 = subst (λ (u : Standing). IsFitting history (window_of 1 u.transaction (told_1 ∷ []) told_2 (told_3 ∷ [])) u told_2) (sym is) fitting in
    not_written f.answer f.object (write_told window (writes whole (1 ∷ 2 ∷ 3 ∷ [])) f.answer (subst (λ asked. IsAnswer history 0 window None 2 [] asked f.answer) acts_2 f.may))

not_answered : IsAnswered (told_1 ∷ told_2 ∷ told_3 ∷ []) history → ⊥
not_answered is = not_second (standing_step history first_standing told_1) (sym stands_1) (is 0).1.0

-- {"legal":false,"part":4}
pub numberless_verdict : IsVerdict scripts transcript (no 4)
numberless_verdict = is_no is_checked (part_4 (record {
  told = _;
  history = history;
  stated = record {
    cut = is_cut;
    numbered = record { each = each_is; rising = λ session. rises (0 == session) };
    claimed = record { sessions = λ session. stated (0 == session); count = refl; legal = legal_1 };
  };
  fails = not_answered;
}))
