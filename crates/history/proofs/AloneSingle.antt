-- The single session's own answers are a run.
use Rattle.std.proofs.Common.{◌≡◌, ℕ, ◌+◌, ◌<◌, ◌≤◌, ◌^◌, List, [], ◌∷◌, ◌++◌, length, take, drop, false, Option, Some, None, Ok, Err, refl, sym, ap, subst, ◌∙◌, append_assoc, append-nil, length-append, arith}
use Rattle.std.specs.FinMap as finmap
use Rattle.std.specs.List.{AllByRecursion}
use Rattle.std.proofs.Math.Seq.{take-length, take-append_seam}
use Rattle.history.specs.declared.event.Event.{Event}
use Rattle.history.specs.History.{History}
use Rattle.history.specs.Acts.{Asked, act_of}
use Rattle.history.specs.Alone.{single_store, AreAlone, AreOnMount, IsNoFault, IsLineOn, IsOn, IsLineSound, IsSoundLine, most_of, most_events}
use Rattle.history.specs.Answers as body
use Rattle.history.specs.Answers.{Body, Text, Answer}
use Rattle.history.specs.Bound.{IsLineWithin, IsWithin}
use Rattle.history.specs.Legal.{IsLegal, IsMount}
use Rattle.history.specs.Lines.{Line}
use Rattle.history.specs.Own.{numbered, own_events}
use Rattle.history.specs.Sessions.{SessionState, at_first}
use Rattle.history.specs.Single.{single_session}
use Rattle.history.specs.Staged.{HasTransaction, AreStaged}
use Rattle.history.specs.Steps.{IsAnswered, refused_line, SessionStep, is_memory, IsSessionRun, no_line, blank_line, next_line}
use Rattle.history.proofs.ActFits.{IsAskedIn, act_of-in}
use Rattle.history.proofs.Alone.{own_all}
use Rattle.history.proofs.AloneLines.{fitting_line, IsSoundWithin, act_of-sound}
use Rattle.history.proofs.AloneMount.{IsActFit, act_of-fit}
use Rattle.history.proofs.AloneSteps.{HasMarks}
use Rattle.history.proofs.Transactions.{all_with}
use Rattle.history.proofs.AloneRuns.{IsAloneAt, step_alone, run_is_single}
use Rattle.history.proofs.AloneTotal.{HasAnswer, IsReady, most_asked, can_act}
use Rattle.history.proofs.Asking.{IsAskedBy}
use Rattle.history.proofs.Known.{no_array}
use Rattle.history.proofs.Settled.{IsSettled, IsAskedSettled, act_of-settled}
use Rattle.history.proofs.StepsKept.{step_keeps}
use Rattle.history.proofs.StepsKnown.{IsActKnown, AreKnown, act_of-known}
use Rattle.history.proofs.StepsLonger.{step_longer}
use Rattle.history.proofs.StepsStaged.{IsActWhole, act_of-whole, step_staged}

plain_answer : (answer : Body) → IsSettled answer → is_memory answer ≡ false
plain_answer body.memory settled = absurd settled
plain_answer answer settled = refl

-- a line that is refused, or what it does
answer_of : (mount : Text) (owner : ℕ) (h : History) (s : SessionState) (line n : ℕ) (asked : Asked) → IsReady mount h s → IsMount mount → IsAskedSettled asked → IsAskedIn s.transaction asked → IsAskedBy (IsActFit mount h) asked → IsAskedBy (IsSoundWithin n) asked → IsAskedBy IsActWhole asked
    → IsAskedBy (IsActKnown h) asked → HasAnswer mount owner h s line asked × (most_asked asked ≤ n)
answer_of mount owner h s line n (Err answer) ready placed settled fits fit sound whole known = (
  record {
    new = [];
    names = s.names;
    transaction = s.transaction;
    answer = answer;
    row = subst (λ e. IsAnswered (single_store mount) owner e s line (Err answer) s.names s.transaction answer []) (sym (append-nil h)) refused_line;
    alone = tt;
    legal = λ small. subst (IsLegal finmap.empty) (sym (append-nil h)) ready.legal;
    good = plain_answer answer settled;
    few = omega arith;
  },
  omega arith,
)
answer_of mount owner h s line n (Ok act) ready placed settled fits fit sound whole known = (can_act mount owner h s line ready act placed fits fit.0 fit.1 sound.0 whole known, sound.1)

-- what holds of the session and its lines before the next one
pub record IsAble (mount : Text) (owner : ℕ) (h : History) (s : SessionState) : Type 0 where
  pub seen : s.seen ≡ length h
  pub legal : IsLegal finmap.empty h
  pub alone : AreAlone owner h
  pub alone_at : IsAloneAt mount h s
  pub stands : HasTransaction finmap.empty h s.transaction
  pub staged : AreStaged s.transaction

-- a step of the line behind these events, with no more of them than the line may add
pub record HasStep (mount : Text) (owner : ℕ) (h : History) (s : SessionState) (line : ℕ) (asked : Line) : Type 0 where
  pub new : List Event
  pub next : SessionState
  pub answer : Body
  pub step : SessionStep (single_store mount) owner (h ++ new) s line asked next answer
  pub seen : next.seen ≡ length (h ++ new)
  pub alone : AreAlone owner new
  pub legal : length (h ++ new) < 2 ^ 64 → IsLegal finmap.empty (h ++ new)
  pub good : is_memory answer ≡ false
  pub few : length new ≤ most_of (Some asked)

seen_all : (h : History) (n : ℕ) → n ≡ length h → take n h ≡ h
seen_all h n is = ap (λ k. take k h) is ∙ take-length h

drop_front : (h : History) (new : List Event) → drop (length h) (h ++ new) ≡ new
drop_front [] new = refl
drop_front (e ∷ es) new = drop_front es new

can_step : (mount : Text) (owner : ℕ) (h : History) (s : SessionState) (line : ℕ) (asked : Line) → IsMount mount → IsAble mount owner h s → IsLineWithin asked → IsLineOn mount asked → IsLineSound asked → HasStep mount owner h s line asked
can_step mount owner h s line asked placed able parts on sound =
    let whole : take s.seen h ≡ h = seen_all h s.seen able.seen in
    let known = subst (λ e. AreKnown e s.names s.transaction) whole able.alone_at.known in
    let ready : IsReady mount h s = record {
      seen = able.seen;
      legal = able.legal;
      on_mount = subst (AreOnMount mount) whole able.alone_at.on_mount;
      marks = subst (λ e. HasMarks e s.transaction) whole able.alone_at.marks;
      stands = able.stands;
      staged = able.staged;
      known = known.1;
    } in
    let act : Asked = act_of s.names s.transaction asked in
    let found =
    answer_of mount owner h s line (most_of (Some asked)) act ready placed (act_of-settled s.names s.transaction asked) (act_of-in s.names s.transaction asked) (act_of-fit mount h s.names s.transaction asked known.0 on) (act_of-sound s.names s.transaction asked sound)
    (act_of-whole s.names s.transaction asked (fitting_line asked sound)) (act_of-known h s.names s.transaction asked known.0 parts) in
    let a = found.0 in
    let all : History = h ++ a.new in
    let next : SessionState = record { names = a.names; seen = length all; transaction = a.transaction } in
    let own : own_events owner (s.seen + 1) (drop s.seen (take (length all) all)) ≡ numbered (length h + 1) a.new =
    ap (λ e. own_events owner (s.seen + 1) (drop s.seen e)) (take-length all) ∙ ap (λ n. own_events owner (n + 1) (drop n all)) able.seen ∙ ap (own_events owner (length h + 1)) (drop_front h a.new) ∙ own_all owner (length h + 1) a.new a.alone in
    let row : IsAnswered (single_store mount) owner (take (length all) all) s line act a.names a.transaction a.answer (own_events owner (s.seen + 1) (drop s.seen (take (length all) all))) =
    subst (IsAnswered (single_store mount) owner (take (length all) all) s line act a.names a.transaction a.answer) (sym own)
    (subst (λ e. IsAnswered (single_store mount) owner e s line act a.names a.transaction a.answer (numbered (length h + 1) a.new)) (sym (take-length all)) a.row) in
    let low : s.seen ≤ length all = let size = length-append h a.new in let same = able.seen in omega (arith, size, same) in
    let few : length a.new ≤ most_of (Some asked) = let few = a.few in let most = found.1 in omega (arith, few, most) in
    record { new = a.new; next = next; answer = a.answer; step = record { rises = low; within = omega arith; row = row }; seen = refl; alone = a.alone; legal = a.legal; good = a.good; few = few }

-- after the step
able_next : (mount : Text) (owner : ℕ) (h : History) (s : SessionState) (line : ℕ) (asked : Line) → IsAble mount owner h s → IsLineWithin asked → IsLineOn mount asked → IsLineSound asked → (st : HasStep mount owner h s line asked) → IsLegal finmap.empty (h ++ st.new) → IsAble mount owner (h ++ st.new) st.next
able_next mount owner h s line asked able parts on sound st legal =
    let all : History = h ++ st.new in
    let front : take s.seen all ≡ take s.seen h = ap (λ n. take n all) able.seen ∙ take-append_seam h st.new ∙ sym (seen_all h s.seen able.seen) in
    let here : IsAloneAt mount all s = record {
      marks = subst (λ e. HasMarks e s.transaction) (sym front) able.alone_at.marks;
      known = subst (λ e. AreKnown e s.names s.transaction) (sym front) able.alone_at.known;
      on_mount = subst (AreOnMount mount) (sym front) able.alone_at.on_mount;
    } in
    let alone : AreAlone owner all = all_with (λ (e : Event). (e.owner ≡ owner) × IsNoFault e.kind) h st.new able.alone st.alone in
    let next_at = (step_alone mount owner all s line asked st.next st.answer legal alone parts on here st.good st.step).1 in
    let stood = subst (λ e. HasTransaction finmap.empty e s.transaction) (sym (front ∙ seen_all h s.seen able.seen)) able.stands in
    record {
      seen = st.seen;
      legal = legal;
      alone = alone;
      alone_at = next_at;
      stands = subst (λ e. HasTransaction finmap.empty e st.next.transaction) (seen_all all st.next.seen st.seen) (step_keeps (single_store mount) owner all s line asked st.next st.answer legal st.step stood);
      staged = step_staged (single_store mount) owner all s line asked st.next st.answer (fitting_line asked sound) st.step able.staged;
    }

-- lines have a run behind these events
record HasRun (mount : Text) (owner : ℕ) (h : History) (s : SessionState) (line : ℕ) (lines : List (Option Line)) : Type 0 where
  new : List Event
  answers : List Answer
  last : SessionState
  run : IsSessionRun (single_store mount) owner (h ++ new) s line lines answers last
  seen : last.seen ≡ length (h ++ new)
  alone : AreAlone owner (h ++ new)
  legal : IsLegal finmap.empty (h ++ new)
  good : AllByRecursion (λ (a : Answer). is_memory a.body ≡ false) answers

can_run : (mount : Text) (owner : ℕ) (lines : List (Option Line)) (h : History) (s : SessionState) (line : ℕ) → IsMount mount → IsAble mount owner h s → length h + most_events lines < 2 ^ 64 → AllByRecursion IsWithin lines → AllByRecursion (IsOn mount) lines → AllByRecursion IsSoundLine lines
    → HasRun mount owner h s line lines
can_run mount owner [] h s line placed able small parts on sound = record {
  new = [];
  answers = [];
  last = s;
  run = no_line;
  seen = able.seen ∙ ap length (sym (append-nil h));
  alone = subst (AreAlone owner) (sym (append-nil h)) able.alone;
  legal = subst (IsLegal finmap.empty) (sym (append-nil h)) able.legal;
  good = tt;
}
can_run mount owner (None ∷ lines) h s line placed able small parts on sound =
    let rest = can_run mount owner lines h s (line + 1) placed able (omega (arith, small)) parts.1 on.1 sound.1 in
    record { new = rest.new; answers = rest.answers; last = rest.last; run = blank_line rest.run; seen = rest.seen; alone = rest.alone; legal = rest.legal; good = rest.good }
can_run mount owner (Some asked ∷ lines) h s line placed able small parts on sound =
    let st = can_step mount owner h s line asked placed able parts.0 on.0 sound.0 in
    let size : length (h ++ st.new) ≡ length h + length st.new = length-append h st.new in
    let few = st.few in
    let under : length (h ++ st.new) + most_events lines < 2 ^ 64 = omega (arith, size, few, small) in
    let legal = st.legal (omega (arith, under)) in
    let rest = can_run mount owner lines (h ++ st.new) st.next (line + 1) placed (able_next mount owner h s line asked able parts.0 on.0 sound.0 st legal) under parts.1 on.1 sound.1 in
    let same : (h ++ st.new) ++ rest.new ≡ h ++ (st.new ++ rest.new) = append_assoc h st.new rest.new in
    let step = step_longer (single_store mount) owner (h ++ st.new) rest.new s line asked st.next st.answer st.step in
    record {
      new = st.new ++ rest.new;
      answers = record { line = line; body = st.answer } ∷ rest.answers;
      last = rest.last;
      run = subst (λ e. IsSessionRun (single_store mount) owner e s line (Some asked ∷ lines) (record { line = line; body = st.answer } ∷ rest.answers) rest.last) same (next_line step st.good rest.run);
      seen = rest.seen ∙ ap length same;
      alone = subst (AreAlone owner) same rest.alone;
      legal = subst (IsLegal finmap.empty) same rest.legal;
      good = (st.good, rest.good);
    }

-- the single session's answers are those of a run over its events, which are legal and its own, and of which it has seen all
pub record IsRunAlone (mount : Text) (owner : ℕ) (lines : List (Option Line)) (answers : List Answer) (events : History) : Type 0 where
  pub last : SessionState
  pub run : IsSessionRun (single_store mount) owner events at_first 1 lines answers last
  pub seen : last.seen ≡ length events
  pub legal : IsLegal finmap.empty events
  pub alone : AreAlone owner events
  pub good : AllByRecursion (λ (a : Answer). is_memory a.body ≡ false) answers

-- they are, where the mount's name is one, each line is as forms give it and asks for arrays of that mount, no part of one brings in an
-- array that it wasn't given, and there are fewer leaves and lines than numbers of events
pub single_is_run : (mount : Text) (owner : ℕ) (lines : List (Option Line)) → IsMount mount → most_events lines < 2 ^ 64 → AllByRecursion IsWithin lines → AllByRecursion (IsOn mount) lines → AllByRecursion IsSoundLine lines
    → IsRunAlone mount owner lines (single_session mount owner lines).answers (single_session mount owner lines).session.events
single_is_run mount owner lines placed small parts on sound =
    let first : IsAble mount owner [] at_first = record {
      seen = refl;
      legal = tt;
      alone = tt;
      alone_at = record { marks = tt; known = ((λ name view is. absurd (cc)), tt); on_mount = λ a k is. absurd (no_array a k is) };
      stands = tt;
      staged = tt;
    } in
    let r = can_run mount owner lines [] at_first 1 placed first (omega (arith, small)) parts on sound in
    let same = run_is_single mount owner r.new lines r.answers r.last r.legal r.alone parts on r.good r.run r.seen in
    subst (λ answers. IsRunAlone mount owner lines answers (single_session mount owner lines).session.events) (sym same.0)
    (subst (IsRunAlone mount owner lines r.answers) (sym same.1) (record { last = r.last; run = r.run; seen = r.seen; legal = r.legal; alone = r.alone; good = r.good }))
