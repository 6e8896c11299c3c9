-- A run over a history of its own events alone is the single session.
use Rattle.std.proofs.Common.{◌≡◌, ℕ, ◌+◌, ◌≤◌, List, [], ◌∷◌, ◌++◌, length, take, take-take, drop, false, Option, refl, sym, ap, subst, ◌∙◌, append_assoc, append-nil, arith}
use Rattle.std.specs.FinMap as finmap
use Rattle.std.specs.Prelude.{fold}
use Rattle.std.specs.List.{AllByRecursion}
use Rattle.std.proofs.lemmas.List.{length-take-le, take-append-drop}
use Rattle.std.proofs.Math.Seq.{take-length}
use Rattle.history.specs.History.{History}
use Rattle.history.specs.Acts.{Asked, act_of}
use Rattle.history.specs.Alone.{single_store, AreAlone, AreOnMount, IsLineOn, IsOn}
use Rattle.history.specs.Answers.{Body, Text, Answer}
use Rattle.history.specs.Bound.{IsLineWithin, IsWithin}
use Rattle.history.specs.Commit.{Transaction}
use Rattle.history.specs.Legal.{IsLegal}
use Rattle.history.specs.Lines.{Line}
use Rattle.history.specs.Own.{Numbered, numbered, own_events}
use Rattle.history.specs.Sessions.{Names, SessionState, at_first}
use Rattle.history.specs.Single.{Run, asked_alone, after_line, answered, single_session}
use Rattle.history.specs.Steps.{IsAnswered, refused_line, wanting, done_line, SessionStep, is_memory, IsSessionRun, no_line, blank_line, next_line, last_line}
use Rattle.history.proofs.ActFits.{IsAskedIn, act_of-in}
use Rattle.history.proofs.Alone.{alone_drop, alone_take, own_all}
use Rattle.history.proofs.AloneMount.{IsActFit, AreOwnOn, grown_on, row_on, act_of-fit}
use Rattle.history.proofs.AloneRows.{IsAloneHere, single_at, IsDoneTo, kept_line, row_line}
use Rattle.history.proofs.AloneSteps.{bare_asked, act_of-bare, HasMarks}
use Rattle.history.proofs.Asking.{IsAskedBy}
use Rattle.history.proofs.Known.{no_array}
use Rattle.history.proofs.StepsKnown.{AreKnown, legal_take, step_known}

answered_done : (mount : Text) (owner : ℕ) (now : History) (s : SessionState) (line : ℕ) (asked : Asked) (names : Names) (left : Option Transaction) (answer : Body) (own : List Numbered) → IsAloneHere mount owner s now own → IsAskedIn s.transaction asked
    → IsAskedBy (IsActFit mount (take s.seen now)) asked → is_memory answer ≡ false → IsAnswered (single_store mount) owner now s line asked names left answer own
    → IsDoneTo (asked_alone (single_store mount) owner (single_at s (take s.seen now)) line (bare_asked asked)) names now left answer
answered_done mount owner now s line asked names left answer own here fits known good refused_line = kept_line mount owner s now _ s.names s.transaction answer here (refl, here.marks)
answered_done mount owner now s line asked names left answer own here fits known good wanting = absurd (cc)
answered_done mount owner now s line asked names left answer own here fits known good (done_line {act = act} row) = row_line mount owner now s line act names left answer own here fits known.1 good row

-- what a line adds lies on the mount
answered_on : (mount : Text) (owner : ℕ) (now past : History) (s : SessionState) (line : ℕ) (asked : Asked) (names : Names) (left : Option Transaction) (answer : Body) (own : List Numbered) → IsAskedBy (IsActFit mount past) asked
    → IsAnswered (single_store mount) owner now s line asked names left answer own → AreOwnOn mount own
answered_on mount owner now past s line asked names left answer own fit refused_line = tt
answered_on mount owner now past s line asked names left answer own fit wanting = tt
answered_on mount owner now past s line asked names left answer own fit (done_line {act = act} row) = row_on mount (single_store mount) owner now s line act names left answer own row fit.0

-- what holds between two lines of a session alone
pub record IsAloneAt (mount : Text) (events : History) (s : SessionState) : Type 0 where
  pub marks : HasMarks (take s.seen events) s.transaction
  pub known : AreKnown (take s.seen events) s.names s.transaction
  pub on_mount : AreOnMount mount (take s.seen events)

-- over a history of its own events, a step finds the session alone
pub alone_here : (mount : Text) (owner : ℕ) (events : History) (s : SessionState) (line : ℕ) (asked : Line) (next : SessionState) (answer : Body) → IsLegal finmap.empty events → AreAlone owner events → IsLineOn mount asked → IsAloneAt mount events s
    → SessionStep (single_store mount) owner events s line asked next answer → IsAloneHere mount owner s (take next.seen events) (own_events owner (s.seen + 1) (drop s.seen (take next.seen events)))
alone_here mount owner events s line asked next answer legal alone on here step =
    let now : History = take next.seen events in
    let rises = step.rises in
    let size : length now ≡ next.seen = length-take-le next.seen events step.within in
    let past : take s.seen now ≡ take s.seen events = take-take s.seen next.seen events rises in
    let alone_new : AreAlone owner (drop s.seen now) = alone_drop owner s.seen now (alone_take owner next.seen events alone) in
    let own : List Numbered = own_events owner (s.seen + 1) (drop s.seen now) in
    let in_order : own ≡ numbered (s.seen + 1) (drop s.seen now) = own_all owner (s.seen + 1) (drop s.seen now) alone_new in
    let fit : IsAskedBy (IsActFit mount (take s.seen now)) (act_of s.names s.transaction asked) = act_of-fit mount (take s.seen now) s.names s.transaction asked (subst (λ h. AreKnown h s.names s.transaction) (sym past) here.known).0 on in
    let own_on : AreOwnOn mount own = answered_on mount owner now (take s.seen now) s line (act_of s.names s.transaction asked) next.names next.transaction answer own fit step.row in
    let on_now : AreOnMount mount now =
    subst (AreOnMount mount) (take-append-drop s.seen now) (grown_on mount (s.seen + 1) (take s.seen now) (drop s.seen now) (subst (AreOnMount mount) (sym past) here.on_mount) (subst (AreOwnOn mount) in_order own_on)) in
    record {
      legal = legal_take finmap.empty events next.seen legal;
      within = omega (arith, size, rises);
      in_order = in_order;
      alone = alone_new;
      marks = subst (λ h. HasMarks h s.transaction) (sym past) here.marks;
      on_mount = on_now;
    }

-- what the single one is asked over these events
pub asked_same : (mount : Text) (owner : ℕ) (events : History) (s : SessionState) (line : ℕ) (asked : Line) (seen : ℕ) → s.seen ≤ seen
    → asked_alone (single_store mount) owner (single_at s (take s.seen events)) line (act_of s.names (single_at s (take s.seen events)).transaction asked) ≡ asked_alone (single_store mount) owner (single_at s (take s.seen (take seen events))) line (bare_asked (act_of s.names s.transaction asked))
asked_same mount owner events s line asked seen rises =
    ap (asked_alone (single_store mount) owner (single_at s (take s.seen events)) line) (act_of-bare s.names s.transaction asked)
    ∙ ap (λ h. asked_alone (single_store mount) owner (single_at s h) line (bare_asked (act_of s.names s.transaction asked))) (sym (take-take s.seen seen events rises))

-- and is what the single session does
pub step_alone : (mount : Text) (owner : ℕ) (events : History) (s : SessionState) (line : ℕ) (asked : Line) (next : SessionState) (answer : Body) → IsLegal finmap.empty events → AreAlone owner events → IsLineWithin asked → IsLineOn mount asked → IsAloneAt mount events s → is_memory answer ≡ false
    → SessionStep (single_store mount) owner events s line asked next answer
    → IsDoneTo (asked_alone (single_store mount) owner (single_at s (take s.seen events)) line (act_of s.names (single_at s (take s.seen events)).transaction asked)) next.names (take next.seen events) next.transaction answer × IsAloneAt mount events next
step_alone mount owner events s line asked next answer legal alone parts on here good step =
    let now : History = take next.seen events in
    let past : take s.seen now ≡ take s.seen events = take-take s.seen next.seen events step.rises in
    let own : List Numbered = own_events owner (s.seen + 1) (drop s.seen now) in
    let fit : IsAskedBy (IsActFit mount (take s.seen now)) (act_of s.names s.transaction asked) = act_of-fit mount (take s.seen now) s.names s.transaction asked (subst (λ h. AreKnown h s.names s.transaction) (sym past) here.known).0 on in
    let at = alone_here mount owner events s line asked next answer legal alone on here step in
    let done = answered_done mount owner now s line (act_of s.names s.transaction asked) next.names next.transaction answer own at (act_of-in s.names s.transaction asked) fit good step.row in (
      (asked_same mount owner events s line asked next.seen step.rises ∙ done.0, done.1),
      record { marks = done.1; known = step_known (single_store mount) owner events s line asked next answer legal parts step here.known; on_mount = at.on_mount },
    )

-- the run of the single session from here on
IsRunFrom : Text → ℕ → History → SessionState → ℕ → List (Option Line) → List Answer → SessionState → Type 0
IsRunFrom mount owner events s line lines answers last =
    (before : List Answer) → (n : ℕ) × (fold (after_line (single_store mount) owner) (record { session = single_at s (take s.seen events); line = line; answers = before }) lines ≡ record { session = single_at last (take last.seen events); line = n; answers = before ++ answers })

run_from : {mount : Text} {owner : ℕ} (events : History) {s : SessionState} {line : ℕ} {lines : List (Option Line)} {answers : List Answer} {last : SessionState} → IsLegal finmap.empty events → AreAlone owner events → AllByRecursion IsWithin lines → AllByRecursion (IsOn mount) lines
    → IsAloneAt mount events s → AllByRecursion (λ (a : Answer). is_memory a.body ≡ false) answers → IsSessionRun (single_store mount) owner events s line lines answers last → IsRunFrom mount owner events s line lines answers last
unfolding IsRunFrom
run_from events {s} {line} legal alone parts on here good no_line before = (line, ap (λ xs. record { session = single_at s (take s.seen events); line = line; answers = xs }) (sym (append-nil before)))
run_from events legal alone parts on here good (blank_line rest) before = run_from events legal alone parts.1 on.1 here good rest before
run_from {mount} {owner} events legal alone parts on here good (next_line {s} {m} {last} {line} {asked} {answer} {lines} {answers} step goes_on rest) before =
    let done = step_alone mount owner events s line asked m answer legal alone parts.0 on.0 here good.0 step in
    let x : Run = record { session = single_at s (take s.seen events); line = line; answers = before } in
    let inner = run_from events legal alone parts.1 on.1 done.1 good.1 rest (before ++ record { line = line; body = answer } ∷ []) in (
      inner.0,
      ap (λ t. fold (after_line (single_store mount) owner) (answered x t) lines) done.0.0 ∙ inner.1 ∙ ap (λ xs. record { session = single_at last (take last.seen events); line = inner.0; answers = xs }) (append_assoc before (record { line = line; body = answer } ∷ []) answers),
    )
run_from events legal alone parts on here good (last_line step) before = absurd (let never = good.0 in cc)

pub none_known : (mount : Text) → AreOnMount mount []
none_known mount a k is = absurd (no_array a k is)

-- a session alone over one mount has the answers and the events of the single session, where it saw all that happened: each event is
-- its own, none a failed store call, memory was never wanting, its lines ask for arrays of that mount, and no part of a line brings in
-- an array that it wasn't given
pub run_is_single : (mount : Text) (owner : ℕ) (events : History) (lines : List (Option Line)) (answers : List Answer) (last : SessionState) → IsLegal finmap.empty events → AreAlone owner events → AllByRecursion IsWithin lines → AllByRecursion (IsOn mount) lines
    → AllByRecursion (λ (a : Answer). is_memory a.body ≡ false) answers → IsSessionRun (single_store mount) owner events at_first 1 lines answers last → last.seen ≡ length events
    → ((single_session mount owner lines).answers ≡ answers) × ((single_session mount owner lines).session.events ≡ events)
unfolding IsRunFrom
run_is_single mount owner events lines answers last legal alone parts on good run all =
    let first : IsAloneAt mount events at_first = record { marks = tt; known = ((λ name view is. absurd (cc)), tt); on_mount = none_known mount } in
    let whole = run_from events legal alone parts on first good run [] in
    (ap (λ (r : Run). r.answers) whole.1, ap (λ (r : Run). r.session.events) whole.1 ∙ ap (λ n. take n events) all ∙ take-length events)
