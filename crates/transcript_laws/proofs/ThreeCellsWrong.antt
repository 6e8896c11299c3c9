-- Two wrong transcripts of three cells: the one fails part 2, the other part 4.
use Rattle.std.proofs.Common.{◌≡◌, ◌<◌, ◌+◌, lit≤, ℕ, zero, suc, arith, pos, map, List, [], ◌∷◌, Bool, true, false, cond, Some, None, Ok, inl, inr, refl, sym, ap, subst, ◌∙◌}
use Rattle.std.specs.Prelude.{Contains, ◌==◌, ◌⊎◌}
use Rattle.std.specs.List.{slice_index}
use Rattle.std.specs.FinMap as finmap
use Rattle.cells.specs.declared.dtype.Dtype.TheVariants.{I32}
use Rattle.std.specs.Fmt.{digits}
use Rattle.std.specs.Str.{is_utf8, chars}
use Rattle.serde_json.proofs.OnLiterals.{serde_json_on_literals}
use Rattle.json_forms.specs.Bytes.{data_of}
use Rattle.json_forms.specs.Members.{has_exactly, least_unknown}
use Rattle.answer_data.specs.Text.{answer_text, store_text}
use Rattle.answer_data.specs.Pieces.{indices_text}
use Rattle.answer_data.specs.Nested.{word_text}
use Rattle.line_meanings.specs.Bodies.{answer_of}
use Rattle.history.specs.Acts.{Act, opens, binds, reads, stages, writes, begins, commits, aborts, resizes, resolves}
use Rattle.history.specs.Answers as body
use Rattle.history.specs.Answers.{Body}
use Rattle.history.specs.Chunks.{Chunk}
use Rattle.history.specs.Own as own
use Rattle.history.specs.Reads.{visible_values}
use Rattle.history.specs.Sessions.{reader}
use Rattle.history.specs.Viewing.{values_body}
use Rattle.transcript_laws.specs.Transcript.{Told, IsToldOf, IsCut}
use Rattle.transcript_laws.specs.Numbers.{numbers_of, AreRising, AreNumbered}
use Rattle.transcript_laws.specs.Windows.{Window, IsWithin, window_of}
use Rattle.transcript_laws.specs.Claimed.{stated_asked, AreStated, IsStated}
use Rattle.transcript_laws.specs.Standings.{Standing, first_standing, standing_step, act_at}
use Rattle.transcript_laws.specs.Fitting.{IsSeen, IsActAnswer, open_answer, viewed, read, read_failed, staged, written, write_failed, begun, committed, conflicts, commit_failed, aborted, IsAnswer, IsFitting, IsAnswered}
use Rattle.transcript_laws.specs.Unchecked.{is_memory_answer, by_script, by_memory}
use Rattle.transcript_laws.specs.Verdicts.{IsVerdict, is_no, IsChecked, no, part_2, part_4}
use Rattle.transcript_laws.specs.ThreeCells.{scripts, bytes_2, bytes_3}
use Rattle.transcript_laws.specs.ThreeCellsWrong.{wrong_2, wrong_3, wrong_commit, wrong_value, wrong_object_2, wrong_object_3, wrong_told_2, wrong_told_3}
use Rattle.transcript_laws.specs.ThreeCellsTold.{line, told_1, told_2, told_3, whole, events}
use Rattle.transcript_laws.proofs.Cuts.{uncut}
use Rattle.transcript_laws.proofs.ThreeCells.{named, targets, acts_read, stands_1, stands_2, states_1, states_2, legal, AreEvents, values_of_whole}
use Rattle.transcript_laws.proofs.ThreeCellsAsks.{told_of_1, told_of_2, told_of_3}
use Rattle.transcript_laws.proofs.ThreeCellsVerdict.{none_first, memory_1, memory_2, memory_3}

wrong_reads_2 : data_of wrong_2 ≡ Some wrong_object_2
unfolding data_of serde_json_on_literals is_utf8 chars
wrong_reads_2 = refl

wrong_reads_3 : data_of wrong_3 ≡ Some wrong_object_3
unfolding data_of serde_json_on_literals is_utf8 chars
wrong_reads_3 = refl

wrong_of_2 : IsToldOf (line 2 bytes_2) wrong_told_2
wrong_of_2 = record { session = refl; number = refl; asked = refl; answer = record { bytes = wrong_2; line = refl; one_line = refl; object = record { json = wrong_reads_2; members = _; object = refl; compact = refl }; numbered = refl } }

wrong_of_3 : IsToldOf (line 3 bytes_3) wrong_told_3
wrong_of_3 = record { session = refl; number = refl; asked = refl; answer = record { bytes = wrong_3; line = refl; one_line = refl; object = record { json = wrong_reads_3; members = _; object = refl; compact = refl }; numbered = refl } }

cut_2 : IsCut scripts wrong_commit (told_1 ∷ wrong_told_2 ∷ told_3 ∷ [])
cut_2 = record { each = (told_of_1, (wrong_of_2, (told_of_3, tt))); whole = refl }

cut_3 : IsCut scripts wrong_value (told_1 ∷ told_2 ∷ wrong_told_3 ∷ [])
cut_3 = record { each = (told_of_1, (told_of_2, (wrong_of_3, tt))); whole = refl }

-- no answer is one of want of memory
wrong_memory_2 : is_memory_answer wrong_told_2.answer ≡ false
unfolding has_exactly least_unknown
wrong_memory_2 = refl

wrong_memory_3 : is_memory_answer wrong_told_3.answer ≡ false
unfolding has_exactly least_unknown
wrong_memory_3 = refl

pub none_of : (s t u : Told) → is_memory_answer s.answer ≡ false → is_memory_answer t.answer ≡ false → is_memory_answer u.answer ≡ false → (v : Told) → Contains (s ∷ t ∷ u ∷ []) v → is_memory_answer v.answer ≡ false
none_of s t u a b c v (zero, low, is) = ap (λ (x : Told). is_memory_answer x.answer) (sym is) ∙ a
none_of s t u a b c v (suc zero, low, is) = ap (λ (x : Told). is_memory_answer x.answer) (sym is) ∙ b
none_of s t u a b c v (suc (suc zero), low, is) = ap (λ (x : Told). is_memory_answer x.answer) (sym is) ∙ c
none_of s t u a b c v (suc (suc (suc k)), low, is) = absurd (omega (arith, low))

checked_2 : IsChecked scripts wrong_commit
checked_2 line (by_script first) = none_first line first
checked_2 line (by_memory all off) = uncut scripts wrong_commit _ cut_2 (none_of told_1 wrong_told_2 told_3 memory_1 wrong_memory_2 memory_3) line off

checked_3 : IsChecked scripts wrong_value
checked_3 line (by_script first) = none_first line first
checked_3 line (by_memory all off) = uncut scripts wrong_value _ cut_3 (none_of told_1 told_2 wrong_told_3 memory_1 memory_2 wrong_memory_3) line off

-- no number is 2
not_numbered : AreNumbered (told_1 ∷ wrong_told_2 ∷ told_3 ∷ []) → ⊥
not_numbered is = no_two (is.each 1 (lit≤ tt))
  where
    no_two : Contains {X = ℕ} (1 ∷ 3 ∷ []) 2 → ⊥
    no_two (zero, low, is) = absurd (omega (arith, is))
    no_two (suc zero, low, is) = absurd (omega (arith, is))
    no_two (suc (suc k), low, is) = absurd (omega (arith, low))

-- {"legal":false,"part":2}
pub commit_verdict : IsVerdict scripts wrong_commit (no 2)
commit_verdict = is_no checked_2 (part_2 (record { told = _; cut = cut_2; fails = not_numbered }))

-- the other states the same history
abbrev by : Bool → List Told
by b = cond b (told_1 ∷ cond b (told_2 ∷ cond b (wrong_told_3 ∷ []) []) (cond b (wrong_told_3 ∷ []) [])) (cond b (told_2 ∷ cond b (wrong_told_3 ∷ []) []) (cond b (wrong_told_3 ∷ []) []))

rises : (b : Bool) → AreRising (numbers_of (by b))
rises true = (lit≤ tt, tt)
rises false = tt

each_is : (n : ℕ) → n < 2 → Contains {X = ℕ} (1 ∷ 2 ∷ []) (n + 1)
each_is zero low = (0, lit≤ tt, refl)
each_is (suc zero) low = (1, lit≤ tt, refl)
each_is (suc (suc n)) low = absurd (omega (arith, low))

acts_3 : act_at named wrong_told_3 ≡ Ok (reads whole None)
acts_3 = acts_read

states_3 : IsStated events named wrong_told_3
states_3 = record {
  numbers = ap (λ asked. own.numbers_of (stated_asked events 0 3 asked wrong_told_3.answer)) acts_3;
  events = subst (λ asked. AreEvents (stated_asked events 0 3 asked wrong_told_3.answer)) (sym acts_3) tt;
}

rest_stated : (s : Standing) → named ≡ s → AreStated events s (told_2 ∷ wrong_told_3 ∷ [])
rest_stated s is =
    subst (λ (u : Standing). AreStated events u (told_2 ∷ wrong_told_3 ∷ [])) is
    (states_2, (subst (λ (u : Standing). IsStated events u wrong_told_3) (sym stands_2) states_3, tt))

stated : (b : Bool) → AreStated events first_standing (by b)
stated true = (states_1, rest_stated (standing_step events first_standing told_1) (sym stands_1))
stated false = tt

-- what a read of the whole array may print behind both events
abbrev window : Window
window = record { from = 2; upto = 2 }

abbrev ReadTold : Act → Body → Type 0
ReadTold (opens name leaves build) answer = Unit {0}
ReadTold (binds name view) answer = Unit {0}
ReadTold (reads view down) answer = ((words : List ℕ) × IsSeen events window (reader 3 None) view words × (answer ≡ values_body view None words)) ⊎ ((n : ℕ) × (answer ≡ body.store_failed (n + 1) [] None))
ReadTold (stages t view words) answer = Unit {0}
ReadTold (writes view words) answer = Unit {0}
ReadTold (begins mode) answer = Unit {0}
ReadTold (commits t) answer = Unit {0}
ReadTold aborts answer = Unit {0}
ReadTold (resizes array shape) answer = Unit {0}
ReadTold (resolves name view array) answer = Unit {0}

read_told : (act : Act) (answer : Body) → IsActAnswer events 0 window None 3 [] act answer → ReadTold act answer
read_told act answer (open_answer is) = tt
read_told act answer viewed = tt
read_told act answer (read {view} {words} seen) = inl (words, seen, refl)
read_told act answer (read_failed n fetched) = inr (n, refl)
read_told act answer staged = tt
read_told act answer (written n) = tt
read_told act answer (write_failed n changed) = tt
read_told act answer begun = tt
read_told act answer (committed n) = tt
read_told act answer (conflicts is) = tt
read_told act answer (commit_failed n changed) = tt
read_told act answer aborted = tt

only_2 : (n : ℕ) → IsWithin window n → n ≡ 2
only_2 n is = omega (arith, is.0, is.1)

sees : (marks : Chunk → ℕ) → marks (record { array = 0; index = 0 ∷ [] }) ≡ 2 → marks (record { array = 0; index = 1 ∷ [] }) ≡ 2 → map Some (1 ∷ 2 ∷ 3 ∷ []) ≡ visible_values finmap.empty events marks [] whole
sees marks first second = simp (targets, first, second)

only_words : (words : List ℕ) → map Some words ≡ map Some (1 ∷ 2 ∷ 3 ∷ []) → words ≡ 1 ∷ 2 ∷ 3 ∷ []
only_words [] is = absurd (cc)
only_words (a ∷ []) is = absurd (cc)
only_words (a ∷ b ∷ []) is = absurd (cc)
only_words (a ∷ b ∷ c ∷ []) is =
    let first : a ≡ 1 = cc in
    let second : b ≡ 2 = cc in
    let third : c ≡ 3 = cc in
    ap (λ x. x ∷ b ∷ c ∷ []) first ∙ ap (λ x. 1 ∷ x ∷ c ∷ []) second ∙ ap (λ x. 1 ∷ 2 ∷ x ∷ []) third
only_words (a ∷ b ∷ c ∷ d ∷ words) is = absurd (cc)

seen_words : (words : List ℕ) → IsSeen events window (reader 3 None) whole words → words ≡ 1 ∷ 2 ∷ 3 ∷ []
seen_words words seen =
    only_words words (seen.shown ∙ sym (sees seen.marks (only_2 _ (seen.within (record { array = 0; index = 0 ∷ [] }))) (only_2 _ (seen.within (record { array = 0; index = 1 ∷ [] })))))

abbrev byte : ℕ → Body → ℕ
byte k answer = slice_index (answer_text (answer_of (record { line = 3; body = answer }))) k

right_byte : byte 37 (body.values (pos 0 ∷ []) (3 ∷ []) I32 (1 ∷ 2 ∷ 3 ∷ [])) ≡ 51
unfolding indices_text word_text digits
right_byte = refl

failed_byte : (n : ℕ) → byte 11 (body.store_failed (n + 1) [] None) ≡ 115
unfolding store_text digits
failed_byte n = refl

not_read : (answer : Body) → wrong_told_3.text ≡ answer_text (answer_of (record { line = 3; body = answer })) → ReadTold (reads whole None) answer → ⊥
not_read answer printed (inl (words, seen, same)) =
    let so : answer ≡ body.values (pos 0 ∷ []) (3 ∷ []) I32 (1 ∷ 2 ∷ 3 ∷ []) = same ∙ ap (λ ws. values_body whole None ws) (seen_words words seen) ∙ values_of_whole in
    let bytes : 52 ≡ 51 = ap (λ t. slice_index t 37) printed ∙ ap (byte 37) so ∙ right_byte in
    absurd (omega (arith, bytes))
not_read answer printed (inr (n, same)) =
    let bytes : 111 ≡ 115 = ap (λ t. slice_index t 11) printed ∙ ap (byte 11) same ∙ failed_byte n in
    absurd (omega (arith, bytes))

not_third : (s : Standing) → named ≡ s → IsFitting events (window_of 2 s.transaction (told_1 ∷ told_2 ∷ []) wrong_told_3 []) s wrong_told_3 → ⊥
not_third s is fitting =
    let f : IsFitting events window named wrong_told_3 = subst (λ (u : Standing). IsFitting events (window_of 2 u.transaction (told_1 ∷ told_2 ∷ []) wrong_told_3 []) u wrong_told_3) (sym is) fitting in
    not_read f.answer f.printed (read_told (reads whole None) f.answer (subst (λ asked. IsAnswer events 0 window None 3 [] asked f.answer) acts_3 f.may))

not_answered : IsAnswered (told_1 ∷ told_2 ∷ wrong_told_3 ∷ []) events → ⊥
not_answered is =
    not_third (standing_step events (standing_step events first_standing told_1) told_2) (sym stands_2 ∙ ap (λ (s : Standing). standing_step events s told_2) (sym stands_1)) (is 0).1.1.0

-- {"legal":false,"part":4}
pub value_verdict : IsVerdict scripts wrong_value (no 4)
value_verdict = is_no checked_3 (part_4 (record {
  told = _;
  history = events;
  stated = record {
    cut = cut_3;
    numbered = record { each = each_is; rising = λ session. rises (0 == session) };
    claimed = record { sessions = λ session. stated (0 == session); count = refl; legal = legal };
  };
  fails = not_answered;
}))
