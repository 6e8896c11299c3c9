-- A line of a session among its lines and among those of all.
use Rattle.std.proofs.Common.{◌≡◌, ◌∙◌, ◌<◌, ◌≤◌, ◌+◌, ℕ, suc, List, [], ◌∷◌, Some, take, drop, length, refl, sym, ap, subst, arith}
use Rattle.std.specs.List.{AllByRecursion, fold, slice_get}
use Rattle.history.specs.History.{History}
use Rattle.stated_history.specs.Outline.{outline}
use Rattle.stated_history.specs.Standings.{standing_of}
use Rattle.stated_history.specs.ToldNumbers.{AreRising, numbers_of, opened_in, told_of}
use Rattle.stated_history.specs.ToldStandings.{Standing, first_standing, standing, standing_step}
use Rattle.stated_history.specs.Transcript.{Told, lines_of_scripts}
use Rattle.stated_history.specs.Walks.{AreToldIn, IsInSession, IsReached, outlined}
use Rattle.stated_history.proofs.Laws.{IsGoodLine, cut_is_one, each_at, good_lines, kept_outline, step_same}
use Rattle.transcript_fits.specs.Judges.{IsJudge, history_of}
use Rattle.transcript_fits.specs.Sessions.{IsSessionAt}
use Rattle.transcript_fits.specs.Stands.{upto_of}
use Rattle.transcript_fits.specs.declared.judge.Judge.{Judge}
use Rattle.transcript_fits.specs.declared.stand.Stand.{Stand}
use Rattle.transcript_fits.proofs.SessionLaws.{session_lines, session_upto, got_behind, got_front, take_front}
use Rattle.transcript_fits.proofs.Windows.{stated_low, opened_low, window_later, window_low}

-- sessions stand alike by two histories with one outline
standing_alike : (h k : History) → outline h ≡ outline k → (s : Standing) (ts : List Told) → fold (standing_step h) s ts ≡ fold (standing_step k) s ts
standing_alike h k whole s [] = refl
standing_alike h k whole s (t ∷ ts) = ap (λ x. fold (standing_step h) x ts) (step_same h k whole s t) ∙ standing_alike h k whole (standing_step k s t) ts

module _ (j : Judge) (is : IsJudge j) where
  pub alike : (ts : List Told) → standing (outlined j.source.now) ts ≡ standing (history_of j) ts
  alike ts = standing_alike (outlined j.source.now) (history_of j) ((kept_outline j.source.now is.source).flat ∙ sym is.outlined) first_standing ts

  -- what a line asks for, of checked scripts
  pub good_line : (told : List Told) (place : ℕ) (t : Told) → AreToldIn j.source.now told → slice_get told place ≡ Some t → IsGoodLine t.asked
  good_line told place t of_it there =
      each_at (λ (u : Told). IsGoodLine u.asked) told place t (good_lines (lines_of_scripts 0 j.source.now.scripts.now) told of_it.cut.each is.source.checked) there

  module _ (session begin many at : ℕ) (where_it_is : IsSessionAt j.source.now.said.now session begin many) (low : at < many) where
    pub place_low : begin + at < length j.source.now.said.now
    place_low = let within = where_it_is.within in omega (arith, within, low)

    pub in_session : (stand : Stand) → stand.walk.session ≡ session → IsInSession j.source.now (begin + at) stand.walk
    in_session stand same = λ d there. same ∙ sym (where_it_is.own (begin + at) d (omega arith) (omega (arith, low)) there)

    module _ (told : List Told) (of_it : AreToldIn j.source.now told) where
      lines : told_of session told ≡ take many (drop begin told)
      lines = session_lines j.source.now told of_it session begin many where_it_is

      same_there : slice_get (told_of session told) at ≡ slice_get told (begin + at)
      same_there = ap (λ ts. slice_get ts at) lines ∙ got_front (drop begin told) many at low ∙ got_behind told begin at (begin + at) refl

      pub among_all : (t : Told) → slice_get (told_of session told) at ≡ Some t → slice_get told (begin + at) ≡ Some t
      among_all t there = sym same_there ∙ there

      pub among_own : (t : Told) → slice_get told (begin + at) ≡ Some t → slice_get (told_of session told) at ≡ Some t
      among_own t there = same_there ∙ there

      pub own_before : told_of session (take (begin + at) told) ≡ take at (told_of session told)
      own_before =
          session_upto j.source.now told of_it session begin many where_it_is at (begin + at) refl (omega (arith, low))
          ∙ sym (take_front (drop begin told) many at (omega (arith, low))) ∙ ap (take at) (sym lines)

      -- the session stands as what is told of its lines says
      pub stands_is : (stand : Stand) → stand.walk.session ≡ session → IsReached j.source.now (begin + at) stand.walk → standing_of stand.walk.standing ≡ standing (history_of j) (take at (told_of session told))
      stands_is stand same reached =
          (reached told of_it).stands ∙ ap (λ n. standing (outlined j.source.now) (told_of n (take (begin + at) told))) same ∙ ap (standing (outlined j.source.now)) own_before ∙ alike (take at (told_of session told))

  -- one thing is told of a transcript
  pub told_is : (told : List Told) → AreToldIn j.source.now told → told ≡ is.told
  told_is told of_it = cut_is_one j.source.now.scripts.now j.source.now.transcript.now told is.told of_it.cut is.told_in.cut

  pub rising_of : (session : ℕ) (told : List Told) → AreToldIn j.source.now told → AreRising (numbers_of (told_of session told))
  rising_of session told of_it = subst (λ ts. AreRising (numbers_of (told_of session ts))) (sym (told_is told of_it)) (is.numbered.rising session)

  pub low_of : (session : ℕ) (told : List Told) → AreToldIn j.source.now told → AllByRecursion (λ n. n ≤ length (history_of j)) (numbers_of (told_of session told))
  low_of session told of_it =
      subst (λ ts. AllByRecursion (λ n. n ≤ length (history_of j)) (numbers_of (told_of session ts))) (sym (told_is told of_it))
      (stated_low (history_of j) first_standing (told_of session is.told) (is.claimed.sessions session))

  -- windows of a session's lines end within the history, each no earlier than the one before, and behind what its line opens
  pub upto_low : (session : ℕ) (told : List Told) (at : ℕ) (t : Told) → AreToldIn j.source.now told → slice_get (told_of session told) at ≡ Some t → upto_of (history_of j) (told_of session told) at t ≤ length (history_of j)
  upto_low session told at t of_it there = window_low (length (history_of j)) (told_of session told) (low_of session told of_it) (rising_of session told of_it) at t there

  pub upto_later : (session : ℕ) (told : List Told) (at : ℕ) (t u : Told) → AreToldIn j.source.now told → slice_get (told_of session told) at ≡ Some t → slice_get (told_of session told) (suc at) ≡ Some u
      → upto_of (history_of j) (told_of session told) at t ≤ upto_of (history_of j) (told_of session told) (suc at) u
  upto_later session told at t u of_it there next = window_later (length (history_of j)) (told_of session told) (low_of session told of_it) (rising_of session told of_it) at t there u next

  pub opened_upto : (session : ℕ) (told : List Told) (at : ℕ) (t : Told) → AreToldIn j.source.now told → slice_get (told_of session told) at ≡ Some t
      → AllByRecursion (λ n. n ≤ upto_of (history_of j) (told_of session told) at t) (opened_in t.answer)
  opened_upto session told at t of_it there = opened_low (length (history_of j)) (told_of session told) (low_of session told of_it) (rising_of session told of_it) at t there
