-- A session alone that ends by want of memory: what it did begins what the single session does.
use Rattle.std.proofs.Common.{◌≡◌, ◌⊎◌, ℕ, ◌+◌, List, [], ◌∷◌, ◌++◌, length, take, drop, map, true, false, Option, Ok, inl, inr, refl, sym, ap, subst, ◌∙◌, append_assoc, append-nil}
use Rattle.std.specs.Prelude.{fold}
use Rattle.std.specs.FinMap as finmap
use Rattle.std.specs.List.{AllByRecursion}
use Rattle.std.proofs.Math.Seq.{take-length}
use Rattle.std.proofs.lemmas.List.{map-append}
use Rattle.history.specs.declared.event.Event.{Event}
use Rattle.history.specs.History.{History}
use Rattle.history.specs.Acts.{Act, Asked, act_of}
use Rattle.history.specs.Alone.{single_store, AreAlone, AreOnMount, IsLineOn, IsOn}
use Rattle.history.specs.Answers as body
use Rattle.history.specs.Answers.{Body, Text, Answer}
use Rattle.history.specs.Bound.{IsWithin}
use Rattle.history.specs.Commit.{Transaction}
use Rattle.history.specs.CommitRows.{IsCommit, conflicts, is_done, is_failed, is_split, is_shrunk, is_damaged, is_wanting, own_after}
use Rattle.history.specs.Leaves.{Leaf}
use Rattle.history.specs.Legal.{IsLegal}
use Rattle.history.specs.Lines.{Line}
use Rattle.history.specs.OpenRows.{IsRefusal}
use Rattle.history.specs.Outcomes.{Outcome, path_taken, bad_metadata, exists, mismatch, there, found, not_found, bad_want, made}
use Rattle.history.specs.Own.{Numbered, numbers_of, own_events}
use Rattle.history.specs.Sessions.{Names, SessionState, at_first}
use Rattle.history.specs.Single.{Run, act_alone, asked_alone, after_line, answered, single_session, LineDone}
use Rattle.history.specs.SingleOpen.{leaves_from}
use Rattle.history.specs.Steps.{IsRow, open_done, open_refused, open_unbuilt, open_failed, open_wanting, view_done, read_done, read_shrunk, read_damaged, read_failed, write_staged, write_done, begin_done, commit_done, abort_done, resize_done, resize_many, resize_split, resize_damaged, resize_failed, resolve_done, resolve_refused, as_written, IsAnswered, refused_line, wanting, done_line, SessionStep, is_memory, IsSessionRun, no_line, blank_line, next_line, last_line}
use Rattle.history.proofs.AloneKeys.{commit_together}
use Rattle.history.proofs.AloneMount.{front_on}
use Rattle.history.proofs.AloneRows.{IsAloneHere, single_at, still, events_are}
use Rattle.history.proofs.AloneRuns.{IsAloneAt, alone_here, asked_same, step_alone, none_known}
use Rattle.history.proofs.AloneSteps.{bare_act, bare_asked}
use Rattle.history.proofs.AloneWanting.{Grows, grows_asked, opened_events, leaves_begin, run_grows}

-- no refusal of a leaf is want of memory
refusal_good : (node : Text) (leaf : Leaf) (at : ℕ) (numbers : List ℕ) (outcome : Outcome) (answer : Body) → IsRefusal node leaf at numbers outcome answer → is_memory answer ≡ false
refusal_good node leaf at numbers (path_taken other) answer is = ap is_memory is
refusal_good node leaf at numbers (bad_metadata bytes) answer is = ap is_memory is.2
refusal_good node leaf at numbers exists answer is = ap is_memory is
refusal_good node leaf at numbers (mismatch member) answer is = ap is_memory is
refusal_good node leaf at numbers (there k) answer is = absurd is
refusal_good node leaf at numbers (found meta) answer is = absurd is
refusal_good node leaf at numbers not_found answer is = ap is_memory is
refusal_good node leaf at numbers (bad_want member) answer is = ap is_memory is
refusal_good node leaf at numbers (made meta) answer is = absurd is

-- a commit that wants memory has done nothing, since its changes go together
none_done : (mount : Text) (owner : ℕ) (now : History) (t : Transaction) (left : Option Transaction) (answer : Body) (own : List Numbered) → IsLegal finmap.empty now → AreOnMount mount now → is_memory answer ≡ true → IsCommit (single_store mount) owner now t left answer own → own ≡ []
none_done mount owner now t left answer own legal on want (conflicts conflict) = refl
none_done mount owner now t left answer own legal on want (is_shrunk free shrunk) = refl
none_done mount owner now t left answer own legal on want (is_split free present split) = refl
none_done mount owner now t left answer own legal on want (is_damaged may damage) = refl
none_done mount owner now t left answer own legal on want (is_done n may undamaged) = absurd (cc)
none_done mount owner now t left answer own legal on want (is_failed n count other part changed) = absurd (cc)
none_done mount owner now t left answer own legal on want (is_wanting n count part) =
    ap (λ c. take c (own_after (single_store mount) owner now n t)) (part.together (commit_together mount (take n now) t.ops (front_on mount finmap.empty now n legal on)))

none_written : (mount : Text) (owner cells : ℕ) (now : History) (t : Transaction) (left : Option Transaction) (answer : Body) (own : List Numbered) → IsLegal finmap.empty now → AreOnMount mount now → is_memory (as_written cells answer) ≡ true → IsCommit (single_store mount) owner now t left answer own → own ≡ []
none_written mount owner cells now t left answer own legal on want (conflicts conflict) = refl
none_written mount owner cells now t left answer own legal on want (is_shrunk free shrunk) = refl
none_written mount owner cells now t left answer own legal on want (is_split free present split) = refl
none_written mount owner cells now t left answer own legal on want (is_damaged may damage) = refl
none_written mount owner cells now t left answer own legal on want (is_done n may undamaged) = absurd (cc)
none_written mount owner cells now t left answer own legal on want (is_failed n count other part changed) = absurd (cc)
none_written mount owner cells now t left answer own legal on want (is_wanting n count part) =
    none_done mount owner now t left body.memory own legal on refl (is_wanting n count part)

-- what the single session does at the line begins with these events
abbrev Begins : LineDone → History → Type 0
Begins done now = (more : List Event) × (done.after.events ≡ now ++ more)

module _ (mount : Text) (owner : ℕ) (now : History) (s : SessionState) (line : ℕ) where
  idle : (asked : Asked) → IsAloneHere mount owner s now [] → Begins (asked_alone (single_store mount) owner (single_at s (take s.seen now)) line asked) now
  idle asked here =
      let grows : Grows (single_at s (take s.seen now)) (asked_alone (single_store mount) owner (single_at s (take s.seen now)) line asked) = grows_asked (single_store mount) owner (single_at s (take s.seen now)) line asked in
      (grows.0, grows.1 ∙ ap (λ h. h ++ grows.0) (sym (still mount owner s now here)))

  row_begins : (act : Act) (names : Names) (left : Option Transaction) (answer : Body) (own : List Numbered) → IsAloneHere mount owner s now own → is_memory answer ≡ true → IsRow (single_store mount) owner now s line act names left answer own
      → Begins (act_alone (single_store mount) owner (single_at s (take s.seen now)) line (bare_act act)) now
  row_begins act names left answer own here want (open_done opened is) = absurd (cc)
  row_begins act names left answer own here want (open_refused {node = node} {leaf = leaf} opened refused) = let clash : true ≡ false = sym want ∙ refusal_good node leaf refused.at (numbers_of own) refused.outcome answer refused.answered in absurd (cc)
  row_begins act names left answer own here want (open_unbuilt opened is) = absurd (cc)
  row_begins act names left answer own here want (open_failed before opened failed) = absurd (cc)
  row_begins act names left answer own here want (open_wanting {name = name} {leaves = leaves} {rest = rest} {build = build} opened) =
      let h : History = take s.seen now in
      let begun = leaves_from owner leaves h in
      let tail : List Numbered = (leaves_from owner rest now).own in
      let after : List Event = map (λ (o : Numbered). o.event) tail in
      let first : begun.own ≡ own ++ tail = leaves_begin refl opened here.within here.in_order in (
        after,
        opened_events (single_at s h) name build begun begun.rest ∙ ap (λ os. h ++ map (λ (o : Numbered). o.event) os) first ∙ ap (λ es. h ++ es) (map-append (λ (o : Numbered). o.event) own tail)
            ∙ sym (append_assoc h (map (λ (o : Numbered). o.event) own) after) ∙ ap (λ es. es ++ after) (events_are mount owner s now own here),
      )
  row_begins act names left answer own here want view_done = absurd (cc)
  row_begins act names left answer own here want (read_done read) = absurd (cc)
  row_begins act names left answer own here want (read_shrunk shrunk) = absurd (cc)
  row_begins act names left answer own here want (read_damaged damaged) = absurd (cc)
  row_begins act names left answer own here want (read_failed before fetched) = absurd (cc)
  row_begins act names left answer own here want write_staged = absurd (cc)
  row_begins act names left answer own here want (write_done {view = view} {words = words} {left = stands} {answer = inner} commit) =
      idle (Ok (bare_act act)) (subst (IsAloneHere mount owner s now) (none_written mount owner (length words) now _ stands inner own here.legal here.on_mount want commit) here)
  row_begins act names left answer own here want begin_done = absurd (cc)
  row_begins act names left answer own here want (commit_done {t = t} commit) = idle (Ok (bare_act act)) (subst (IsAloneHere mount owner s now) (none_done mount owner now t left answer own here.legal here.on_mount want commit) here)
  row_begins act names left answer own here want abort_done = absurd (cc)
  row_begins act names left answer own here want (resize_done n may undamaged) = absurd (cc)
  row_begins act names left answer own here want (resize_many many) = absurd (cc)
  row_begins act names left answer own here want (resize_split few split) = absurd (cc)
  row_begins act names left answer own here want (resize_damaged may damaged) = absurd (cc)
  row_begins act names left answer own here want (resize_failed n may on_mount) = absurd (cc)
  row_begins act names left answer own here want (resolve_done m low high is) = absurd (cc)
  row_begins act names left answer own here want (resolve_refused m low high is) = absurd (cc)

  answer_begins : (asked : Asked) (names : Names) (left : Option Transaction) (answer : Body) (own : List Numbered) → IsAloneHere mount owner s now own → is_memory answer ≡ true → IsAnswered (single_store mount) owner now s line asked names left answer own
      → Begins (asked_alone (single_store mount) owner (single_at s (take s.seen now)) line (bare_asked asked)) now
  answer_begins asked names left answer own here want refused_line = idle (bare_asked asked) here
  answer_begins asked names left answer own here want wanting = idle (bare_asked asked) here
  answer_begins asked names left answer own here want (done_line {act = act} row) = row_begins act names left answer own here want row

last_begins : (mount : Text) (owner : ℕ) (events : History) (s : SessionState) (line : ℕ) (asked : Line) (last : SessionState) → IsLegal finmap.empty events → AreAlone owner events → IsLineOn mount asked → IsAloneAt mount events s
    → SessionStep (single_store mount) owner events s line asked last body.memory
    → Begins (asked_alone (single_store mount) owner (single_at s (take s.seen events)) line (act_of s.names (single_at s (take s.seen events)).transaction asked)) (take last.seen events)
last_begins mount owner events s line asked last legal alone on here step =
    let at = alone_here mount owner events s line asked last body.memory legal alone on here step in
    let begins = answer_begins mount owner (take last.seen events) s line (act_of s.names s.transaction asked) last.names last.transaction body.memory (own_events owner (s.seen + 1) (drop s.seen (take last.seen events))) at refl step.row in
    (begins.0, ap (λ (d : LineDone). d.after.events) (asked_same mount owner events s line asked last.seen step.rises) ∙ begins.1)

-- the answers are the first ones of the whole, or these and want of memory
pub record AreFirst (answers whole : List Answer) : Type 0 where
  pub front : List Answer
  pub rest : List Answer
  pub parts : whole ≡ front ++ rest
  pub ends : (answers ≡ front) ⊎ ((line : ℕ) × (answers ≡ front ++ record { line = line; body = body.memory } ∷ []))

pub record HasBegun (events : History) (before answers : List Answer) (last : SessionState) (whole : Run) : Type 0 where
  pub more : List Event
  pub events_are : whole.session.events ≡ take last.seen events ++ more
  pub all : List Answer
  pub answers_are : whole.answers ≡ before ++ all
  pub first : AreFirst answers all

run_begins : {mount : Text} {owner : ℕ} (events : History) {s : SessionState} {line : ℕ} {lines : List (Option Line)} {answers : List Answer} {last : SessionState} → IsLegal finmap.empty events → AreAlone owner events → AllByRecursion IsWithin lines → AllByRecursion (IsOn mount) lines
    → IsAloneAt mount events s → IsSessionRun (single_store mount) owner events s line lines answers last → (before : List Answer)
    → HasBegun events before answers last (fold (after_line (single_store mount) owner) (record { session = single_at s (take s.seen events); line = line; answers = before }) lines)
run_begins events {s} legal alone parts on here no_line before = record {
  more = [];
  events_are = sym (append-nil (take s.seen events));
  all = [];
  answers_are = sym (append-nil before);
  first = record { front = []; rest = []; parts = refl; ends = inl refl };
}
run_begins events legal alone parts on here (blank_line rest) before = run_begins events legal alone parts.1 on.1 here rest before
run_begins {mount} {owner} events legal alone parts on here (next_line {s} {m} {last} {line} {asked} {answer} {lines} {answers} step goes_on rest) before =
    let done = step_alone mount owner events s line asked m answer legal alone parts.0 on.0 here goes_on step in
    let x : Run = record { session = single_at s (take s.seen events); line = line; answers = before } in
    let one : Answer = record { line = line; body = answer } in
    let inner = run_begins events legal alone parts.1 on.1 done.1 rest (before ++ one ∷ []) in record {
      more = inner.more;
      events_are = ap (λ t. (fold (after_line (single_store mount) owner) (answered x t) lines).session.events) done.0.0 ∙ inner.events_are;
      all = one ∷ inner.all;
      answers_are = ap (λ t. (fold (after_line (single_store mount) owner) (answered x t) lines).answers) done.0.0 ∙ inner.answers_are ∙ append_assoc before (one ∷ []) inner.all;
      first = record {
        front = one ∷ inner.first.front;
        rest = inner.first.rest;
        parts = ap (λ xs. one ∷ xs) inner.first.parts;
        ends = elim inner.first.ends [ inl all ↦ inl (ap (λ xs. one ∷ xs) all) | inr some ↦ inr (some.0, ap (λ xs. one ∷ xs) some.1) ];
      };
    }
run_begins {mount} {owner} events legal alone parts on here (last_line {s} {last} {line} {asked} {lines} step) before =
    let done : LineDone = asked_alone (single_store mount) owner (single_at s (take s.seen events)) line (act_of s.names (single_at s (take s.seen events)).transaction asked) in
    let begins : Begins done (take last.seen events) = last_begins mount owner events s line asked last legal alone on.0 here step in
    let x : Run = record { session = single_at s (take s.seen events); line = line; answers = before } in
    let on_from = run_grows (single_store mount) owner lines (answered x done) in record {
      more = begins.0 ++ on_from.more;
      events_are = on_from.events ∙ ap (λ es. es ++ on_from.more) begins.1 ∙ append_assoc (take last.seen events) begins.0 on_from.more;
      all = record { line = line; body = done.body } ∷ on_from.rest;
      answers_are = on_from.answers ∙ append_assoc before (record { line = line; body = done.body } ∷ []) on_from.rest;
      first = record { front = []; rest = record { line = line; body = done.body } ∷ on_from.rest; parts = refl; ends = inr (line, refl) };
    }

-- in every outcome without a failed store call: the events of a session alone are first ones of the single session's, and its answers are
-- first ones of that one's, with want of memory behind them or not
pub run_begins_single : (mount : Text) (owner : ℕ) (events : History) (lines : List (Option Line)) (answers : List Answer) (last : SessionState) → IsLegal finmap.empty events → AreAlone owner events → AllByRecursion IsWithin lines → AllByRecursion (IsOn mount) lines
    → IsSessionRun (single_store mount) owner events at_first 1 lines answers last → last.seen ≡ length events
    → ((more : List Event) × ((single_session mount owner lines).session.events ≡ events ++ more)) × AreFirst answers (single_session mount owner lines).answers
run_begins_single mount owner events lines answers last legal alone parts on run all =
    let first : IsAloneAt mount events at_first = record { marks = tt; known = ((λ name view is. absurd (cc)), tt); on_mount = none_known mount } in
    let whole = run_begins events legal alone parts on first run [] in
    ((whole.more, whole.events_are ∙ ap (λ h. h ++ whole.more) (ap (λ n. take n events) all ∙ take-length events)), subst (AreFirst answers) (sym whole.answers_are) whole.first)
