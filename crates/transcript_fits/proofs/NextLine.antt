-- The next line of a session, as it is told and kept.
use Rattle.std.proofs.Common.{◌≡◌, ◌≢◌, ◌↔◌, ◌∙◌, ◌<◌, ◌≤◌, ◌+◌, ℕ, zero, suc, List, [], ◌∷◌, ◌++◌, get_or, Some, take, drop, length, refl, sym, ap, subst, arith, add-one}
use Rattle.std.specs.List.{AllByRecursion, slice_get}
use Rattle.std.proofs.lemmas.List.{length-take-le, length-drop}
use Rattle.json_forms.specs.Bytes.{data_of}
use Rattle.serde_json.specs.Data.{Data}
use Rattle.history.specs.History.{History}
use Rattle.history.proofs.Laws.{some_inj}
use Rattle.open_fits.specs.AnswerLines.{IsAnswerText}
use Rattle.open_fits.specs.Walls.{AreEnds, ArePrintedBy}
use Rattle.open_fits.specs.Windows.{Window, window_of}
use Rattle.open_fits.specs.declared.EventNumbers.{EventNumbers}
use Rattle.open_fits.specs.declared.Window.{Window as WindowOf}
use Rattle.open_fits.proofs.Laws.{own_later}
use Rattle.stated_history.specs.AnswerNumbers.{PrintsNumbers}
use Rattle.stated_history.specs.Said.{AreSaid}
use Rattle.stated_history.specs.Standings.{standing_of}
use Rattle.stated_history.specs.ToldNumbers.{done_in, failed_in, opened_in, numbers_in, numbers_of, single, told_of}
use Rattle.stated_history.specs.ToldStandings.{Standing, act_at, standing}
use Rattle.stated_history.specs.Transcript.{AreToldOf, ScriptLine, Told, lines_of_scripts}
use Rattle.stated_history.specs.declared.Said.{Said}
use Rattle.stated_history.specs.Walks.{AreToldIn, IsReached, line_said}
use Rattle.stated_history.proofs.Laws.{answer_same, said_is, told_there}
use Rattle.transcript_fits.specs.Changing.{PrintsLine}
use Rattle.transcript_fits.specs.Frames.{IsFrameOf}
use Rattle.transcript_fits.specs.Judges.{IsJudge, history_of}
use Rattle.transcript_fits.specs.LineFits.{IsAnsweredSo, IsLineFit, answer_of_line}
use Rattle.transcript_fits.specs.Sessions.{IsFittingAt}
use Rattle.transcript_fits.specs.Stands.{HasPassed, IsBegunAt, IsLineAt, IsLineKept, IsLineTold, IsStandAt, MayGoOn, ops_in, upto_of}
use Rattle.transcript_fits.specs.declared.frames.Frame.{Frame}
use Rattle.transcript_fits.specs.declared.judge.Judge.{Judge}
use Rattle.transcript_fits.specs.declared.line_fit.LineFit.{LineFit}
use Rattle.transcript_fits.specs.declared.line_fit.LineFit.TheVariants.{Unfit, Fits, IfRefused, IfMet}
use Rattle.transcript_fits.specs.declared.line_fit.ToldLine.{ToldLine}
use Rattle.transcript_fits.specs.declared.stand.Stand.{Stand}
use Rattle.transcript_fits.proofs.Facing.{sound_standing, there_standing}
use Rattle.transcript_fits.proofs.Judged.{judge_legal, judge_still}
use Rattle.transcript_fits.proofs.LineOf.{IsTold, told_fits, told_so}
use Rattle.transcript_fits.proofs.Placed.{among_all, among_own, in_session, low_of, place_low, stands_is, upto_low}
use Rattle.transcript_fits.proofs.Rising.{all_back, all_front}
use Rattle.transcript_fits.proofs.SessionLaws.{session_lines}
use Rattle.transcript_fits.proofs.Sound.{sound_later}
use Rattle.transcript_fits.proofs.StandLaws.{new_begun, new_earlier, new_there}

-- what is told is told of a line of the scripts
told_text : (lines : List ScriptLine) (told : List Told) (k : ℕ) (t : Told) → AreToldOf lines told → slice_get told k ≡ Some t → IsAnswerText t.number t.text t.answer
told_text [] [] k t are there = absurd (cc)
told_text [] (u ∷ told) k t are there = absurd are
told_text (l ∷ lines) [] k t are there = absurd are
told_text (l ∷ lines) (u ∷ told) zero t are there =
    let same : u ≡ t = cc in
    subst (λ (x : Told). IsAnswerText x.number x.text x.answer) same (subst (λ n. IsAnswerText n u.text u.answer) (sym are.0.number) are.0.answer)
told_text (l ∷ lines) (u ∷ told) (suc k) t are there = told_text lines told k t are.1 there

-- what is told of lines prints the numbers that are kept
kept_prints : (scripts : List (List ℕ)) (transcript : List ℕ) (said : List Said) (told : List Told) → AreSaid scripts transcript said told → ArePrintedBy said told
kept_prints scripts transcript [] [] are = tt
kept_prints scripts transcript [] (t ∷ told) are = absurd are
kept_prints scripts transcript (d ∷ said) [] are = absurd are
kept_prints scripts transcript (d ∷ said) (t ∷ told) are = (are.0.prints, kept_prints scripts transcript said told are.1)

drop_prints : (n : ℕ) (said : List Said) (told : List Told) → ArePrintedBy said told → ArePrintedBy (drop n said) (drop n told)
drop_prints zero said told are = are
drop_prints (suc n) [] [] are = tt
drop_prints (suc n) [] (t ∷ told) are = absurd are
drop_prints (suc n) (d ∷ said) [] are = absurd are
drop_prints (suc n) (d ∷ said) (t ∷ told) are = drop_prints n said told are.1

take_prints : (n : ℕ) (said : List Said) (told : List Told) → ArePrintedBy said told → ArePrintedBy (take n said) (take n told)
take_prints zero said told are = tt
take_prints (suc n) [] [] are = tt
take_prints (suc n) [] (t ∷ told) are = absurd are
take_prints (suc n) (d ∷ said) [] are = absurd are
take_prints (suc n) (d ∷ said) (t ∷ told) are = (are.0, take_prints n said told are.1)

got_is : (xs : List Told) (k : ℕ) (x d : Told) → slice_get xs k ≡ Some x → get_or xs k d ≡ x
got_is [] k x d there = absurd (cc)
got_is (y ∷ xs) zero x d there = let same : y ≡ x = cc in same
got_is (y ∷ xs) (suc k) x d there = got_is xs k x d there

-- the numbers of a line are among those of all
own_numbers : (P : ℕ → Type 0) (ts : List Told) (k : ℕ) (t : Told) → AllByRecursion P (numbers_of ts) → slice_get ts k ≡ Some t → AllByRecursion P (numbers_in t.answer)
own_numbers P [] k t all there = absurd (cc)
own_numbers P (u ∷ ts) zero t all there = let same : u ≡ t = cc in subst (λ (x : Told). AllByRecursion P (numbers_in x.answer)) same (all_front P (numbers_in u.answer) (numbers_of ts) all)
own_numbers P (u ∷ ts) (suc k) t all there = own_numbers P ts k t (all_back P (numbers_in u.answer) (numbers_of ts) all) there

-- a line is told of as one that fits in the same cases
fit_alike : (h : History) (A B : Type 0) (fit : LineFit) → A ↔ B → IsLineFit h A fit → IsLineFit h B fit
fit_alike h A B Unfit same is = λ b. is (same.1 b)
fit_alike h A B Fits same is = same.0 is
fit_alike h A B (IfRefused question) same is = (λ b. is.0 (same.1 b), λ r. same.0 (is.1 r))
fit_alike h A B (IfMet waiting) same is = (λ b. is.0 (same.1 b), λ r. same.0 (is.1 r))

abbrev window_like : WindowOf → Window
window_like w = record { from = w.from; upto = w.upto }

-- a session whose line's window ends there
abbrev pub turned : Stand → ℕ → Stand
turned stand upto = record { walk = stand.walk; own = stand.own; begun = stand.begun; upto = upto }

-- the window of the line of this number is this
abbrev pub IsWindowAt : Frame → Stand → ℕ → WindowOf → Type 0
IsWindowAt frame stand at window =
    (total : ℕ) (told : List Told) (t : Told) → AreEnds total frame.said.now frame.ends.items → ArePrintedBy frame.said.now told
    → IsBegunAt told frame.begin (frame.begin + at) stand.begun (standing_of stand.walk.standing).transaction
    → window_of total (standing_of stand.walk.standing).transaction (take at told) (get_or told at t) (drop (at + 1) told)
    ≡ record { from = window.from; upto = window.upto }

module _ (j : Judge) (is : IsJudge j) (session begin many at : ℕ) (frame : Frame) (of : IsFrameOf j session begin many frame) (low : at < many) where
  abbrev h : History
  h = history_of j

  pub frame_long : length frame.said.now ≡ many
  frame_long =
      let within = of.session_at.within in
      let behind = length-drop begin j.source.now.said.now in
      ap length of.said_is ∙ length-take-le many (drop begin j.source.now.said.now) (omega (arith, within, behind))

  pub at_low : at < length frame.said.now
  at_low = let long = frame_long in omega (arith, long, low)

  pub line_low : begin + at < length j.source.now.said.now
  line_low = place_low j is session begin many at of.session_at low

  pub place_in : frame.begin + at < length j.source.now.said.now
  place_in = let same = of.begin_is in let under = line_low in omega (arith, same, under)

  module _ (told : List Told) (of_it : AreToldIn j.source.now told) where
    printed : ArePrintedBy frame.said.now (told_of session told)
    printed =
        let said = j.source.now.said.now in
        let all = kept_prints j.source.now.scripts.now j.source.now.transcript.now said told of_it.said_of in
        let own = take_prints many (drop begin said) (drop begin told) (drop_prints begin said told all) in
        subst (λ ds. ArePrintedBy ds (told_of session told)) (sym of.said_is)
        (subst (ArePrintedBy (take many (drop begin said))) (sym (session_lines j.source.now told of_it session begin many of.session_at)) own)

    -- something is told of the line
    pub own_line : (t : Told) × (slice_get (told_of session told) at ≡ Some t)
    own_line =
        let one = told_there j.source.now told (begin + at) of_it line_low in
        (one.0, among_own j is session begin many at of.session_at low told of_it one.0 one.1)

    among : (t : Told) → slice_get (told_of session told) at ≡ Some t → slice_get told (begin + at) ≡ Some t
    among t there = among_all j is session begin many at of.session_at low told of_it t there

  module _ (old : Stand) (stands : IsStandAt j session begin at old) where
    abbrev s : Standing
    s = standing_of old.walk.standing

    pub begun_there : (told : List Told) × IsBegunAt told frame.begin (frame.begin + at) old.begun s.transaction
    begun_there = (told_of session is.told, subst (λ n. IsBegunAt (told_of session is.told) n (n + at) old.begun s.transaction) (sym of.begin_is) (stands.begun is.told is.told_in))

    module _ (window : WindowOf) (is_window : IsWindowAt frame old at window) where
      window_told : (told : List Told) (t : Told) → AreToldIn j.source.now told → slice_get (told_of session told) at ≡ Some t
          → window_of (length h) s.transaction (take at (told_of session told)) t (drop (suc at) (told_of session told)) ≡ window_like window
      window_told told t of_it there =
          let ts = told_of session told in
          ap (λ u. window_of (length h) s.transaction (take at ts) u (drop (suc at) ts)) (sym (got_is ts at t t there))
          ∙ ap (λ n. window_of (length h) s.transaction (take at ts) (get_or ts at t) (drop n ts)) (sym (add-one at))
          ∙ is_window (length h) ts t of.ends (printed told of_it) (subst (λ n. IsBegunAt ts n (n + at) old.begun s.transaction) (sym of.begin_is) (stands.begun told of_it))

      upto_is : (told : List Told) (t : Told) → AreToldIn j.source.now told → slice_get (told_of session told) at ≡ Some t → upto_of h (told_of session told) at t ≡ window.upto
      upto_is told t of_it there = ap (λ (w : Window). w.upto) (window_told told t of_it there)

      later : old.upto ≤ window.upto
      later =
          let one = own_line is.told is.told_in in
          let before = stands.earlier is.told one.0 is.told_in one.1 in
          let same = upto_is is.told one.0 is.told_in one.1 in
          omega (arith, before, same)

      within_all : window.upto ≤ length h
      within_all =
          let one = own_line is.told is.told_in in
          subst (λ n. n ≤ length h) (upto_is is.told one.0 is.told_in one.1) (upto_low j is session is.told at one.0 is.told_in one.1)

      -- the session stands so where the window ends too
      turned_stands : IsStandAt j session begin at (turned old window.upto)
      turned_stands = record {
        session_is = stands.session_is;
        reached = stands.reached;
        sound = stands.sound;
        within = within_all;
        there = there_standing h window.upto s (sound_later h (judge_legal j is) (judge_still j is) old.upto window.upto later s (sound_standing h old.upto s stands.there));
        own = own_later h (judge_legal j is) old.upto window.upto later (ops_in s.transaction) _ _ stands.own;
        begun = stands.begun;
        earlier = λ told t of_it there. let same = upto_is told t of_it there in omega (arith, same);
      }

      module _ (line : ToldLine) (answer : Data) (d : Said) (got : slice_get j.source.now.said.now (begin + at) ≡ Some d) (kept : IsLineKept j.source.now.transcript.now d window answer line) (reads : data_of (line_said d j.source.now.transcript.now) ≡ Some answer) where
        is_told : (told : List Told) (t : Told) (of_it : AreToldIn j.source.now told) (there : slice_get (told_of session told) at ≡ Some t) → IsTold line (window_of (length h) s.transaction (take at (told_of session told)) t (drop (suc at) (told_of session told))) t
        is_told told t of_it there =
            let said = said_is j.source.now told (begin + at) d t of_it got (among told of_it t there) in
            record {
              owner = kept.owner ∙ sym said.session;
              number = kept.number ∙ sym said.number;
              text = kept.text ∙ sym said.text;
              answer = kept.answer_is ∙ answer_same j.source.now told (begin + at) d t answer is.source of_it got (among told of_it t there) reads;
              window = ap (λ (w : WindowOf). window_like w) kept.window_is ∙ sym (window_told told t of_it there);
            }

        prints_line : PrintsLine h line
        prints_line =
            let one = own_line is.told is.told_in in
            let t = one.0 in
            let there = among is.told is.told_in t one.1 in
            let it = is_told is.told t is.told_in one.1 in
            let said = said_is j.source.now is.told (begin + at) d t is.told_in got there in
            let read = told_text (lines_of_scripts 0 j.source.now.scripts.now) is.told (begin + at) t is.told_in.cut.each there in
            let all = own_numbers (λ n. n ≤ length h) (told_of session is.told) at t (low_of j is session is.told is.told_in) one.1 in
            let failed = all_back (λ n. n ≤ length h) (done_in t.answer) (failed_in t.answer) (all_back (λ n. n ≤ length h) (opened_in t.answer) (done_in t.answer ++ failed_in t.answer) all) in
            record {
              text =
                  subst (λ n. IsAnswerText n line.text.now (answer_of_line line)) (sym it.number)
                  (subst (λ x. IsAnswerText t.number x (answer_of_line line)) (sym it.text) (subst (λ a. IsAnswerText t.number t.text a) (sym it.answer) read));
              numbers = subst (λ a. PrintsNumbers a line.numbers.now) (sym it.answer) (subst (PrintsNumbers t.answer) (sym kept.numbers) said.prints);
              early = λ n prints.
                  let number : failed_in t.answer ≡ single (Some n) = said.prints.failed ∙ ap (λ (ns : EventNumbers). single ns.failed) (sym kept.numbers) ∙ ap single prints in
                  (subst (AllByRecursion (λ m. m ≤ length h)) number failed).0;
            }

        -- so it is judged
        pub line_at : IsLineAt j (turned old window.upto) line (begin + at)
        line_at =
            let after = turned_stands in
            record {
              passing = record {
                low = line_low;
                reached = stands.reached;
                session = in_session j is session begin many at of.session_at low old stands.session_is;
                sound = stands.sound;
                within = within_all;
                there = after.there;
                own = after.own;
                answer = λ e other. subst (λ (x : Said). data_of (line_said x j.source.now.transcript.now) ≡ Some (answer_of_line line)) (some_inj d e (sym got ∙ other)) (reads ∙ ap Some (sym kept.answer_is));
              };
              prints = prints_line;
              upto = ap (λ (w : WindowOf). w.upto) (sym kept.window_is);
              kept = λ e other.
                  subst (λ (x : Said). IsLineKept j.source.now.transcript.now x line.window (answer_of_line line) line) (some_inj d e (sym got ∙ other))
                  (record { owner = kept.owner; number = kept.number; window_is = refl; numbers = kept.numbers; text = kept.text; answer_is = refl });
            }

        module _ (fit : LineFit) (fits : (told : List Told) (t : Told) → IsLineTold j told (begin + at) t → IsLineFit h (IsAnsweredSo h line s.transaction (act_at s t)) fit) where
          stands_so : (told : List Told) → AreToldIn j.source.now told → s ≡ standing h (take at (told_of session told))
          stands_so told of_it = stands_is j is session begin many at of.session_at low told of_it old stands.session_is stands.reached

          -- it is told whether the line fits
          pub line_fits : (told : List Told) → AreToldIn j.source.now told → IsLineFit h (IsFittingAt h (told_of session told) at) fit
          line_fits told of_it =
              let one = own_line told of_it in
              let t = one.0 in
              fit_alike h (IsAnsweredSo h line s.transaction (act_at s t)) (IsFittingAt h (told_of session told) at) fit
              (told_fits h line (told_of session told) at s t one.1 (stands_so told of_it) (is_told told t of_it one.1))
              (fits told t (record { told_in = of_it; there = among told of_it t one.1 }))

          -- and the session stands before the line behind it
          pub next_stands : (new : Stand) → ((told : List Told) (t : Told) → IsLineTold j told (begin + at) t → MayGoOn (answer_of_line line) (act_at s t) fit)
              → HasPassed j (turned old window.upto) new line (begin + at) → fit ≢ Unfit → IsStandAt j session begin (at + 1) new
          next_stands new on passed goes =
              let after = turned_stands in
              let now = turned old window.upto in
              let one = own_line is.told is.told_in in
              let t = one.0 in
              let ts = told_of session is.told in
              let it : IsLineTold j is.told (begin + at) t = record { told_in = is.told_in; there = among is.told is.told_in t one.1 } in
              let w = window_of (length h) s.transaction (take at ts) t (drop (suc at) ts) in
              let line_is = is_told is.told t is.told_in one.1 in
              let same = upto_is is.told t is.told_in one.1 in
              let next : (begin + at) + 1 ≡ begin + (at + 1) = omega arith in
              record {
                session_is = passed.walked.session ∙ stands.session_is;
                reached = subst (λ n. IsReached j.source.now n new.walk) next passed.walked.reached;
                sound = passed.walked.sound;
                within = subst (λ n. n ≤ length h) (sym passed.upto) within_all;
                there = new_there j is session begin many at of.session_at low now new line after passed is.told is.told_in t one.1 w fit (sym same) refl
                    (subst (λ a. MayGoOn a (act_at s t) fit) line_is.answer (on is.told t it)) (told_so h line w s t fit line_is (fits is.told t it)) goes;
                own = passed.own;
                begun = λ told of_it. let own = own_line told of_it in new_begun j is session begin many at of.session_at low now new line after passed told of_it own.0 own.1;
                earlier = λ told u of_it there. let own = own_line told of_it in new_earlier j is session begin many at of.session_at low now new line after passed told of_it own.0 own.1 u there (after.earlier told own.0 of_it own.1);
              }
