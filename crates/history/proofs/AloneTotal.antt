-- Each line of a session alone has a step, over a store that starts empty and never fails.
use Rattle.std.proofs.Common.{inl, inr, ◌≡◌, ℕ, suc, ◌+◌, ◌-◌, ◌<◌, ◌≤◌, ◌^◌, List, [], ◌∷◌, ◌++◌, length, map, take, Bool, true, false, cond, Option, Some, None, Result, Ok, Err, refl, sym, ap, subst, ◌∙◌, append-nil, arith}
use Rattle.std.specs.FinMap as finmap
use Rattle.std.specs.Prelude.{Contains, IsTrue, fold, nat_lt, not, filter, filter_map, option_map, unwrap_or, ◌||◌}
use Rattle.std.specs.List.{AllByRecursion}
use Rattle.std.proofs.lemmas.Bool.{ltb-true, ltb-false}
use Rattle.std.proofs.Math.Seq.{take-length, take-append_seam}
use Rattle.stack_driver.specs.References.{Reference}
use Rattle.stack_driver.specs.Renewed.{array_of, renewed}
use Rattle.stack_driver.specs.Targets.{Cell, is_cell, Target, outwards}
use Rattle.stack_driver.specs.Views.{targets_of}
use Rattle.stack_driver.specs.declared.error.RenewError.{RenewError}
use Rattle.stack_driver.specs.declared.error.RenewError.TheVariants as renew
use Rattle.stack_driver.specs.declared.error.TargetError.{TargetError}
use Rattle.stack_driver.specs.declared.view.View.{View}
use Rattle.history.specs.declared.event.Event.{Event}
use Rattle.history.specs.declared.event.Kind.TheVariants.{Done}
use Rattle.history.specs.declared.event.Op.{Op}
use Rattle.history.specs.declared.event.Op.TheVariants.{Write}
use Rattle.history.specs.History.{History}
use Rattle.history.specs.Acts.{Act, opens, binds, reads, stages, writes, begins, commits, aborts, resizes, resolves, Asked}
use Rattle.history.specs.Alone.{single_store, AreAlone, AreOnMount, IsLeafOn, IsLeafSound}
use Rattle.history.specs.Answers as body
use Rattle.history.specs.Answers.{Body, Text, BuildCause}
use Rattle.history.specs.Arrays.{Known, is_local}
use Rattle.history.specs.Chunks.{chunk_of}
use Rattle.history.specs.Content.{world_after}
use Rattle.history.specs.Commit.{Key, Fixed, Transaction, done_each, commit_events, kept_ops, changed_keys, stored_keys, are_together, is_write, HasNoConflict, read_generation}
use Rattle.history.specs.CommitRows.{MayCommit, HasNoDamage, IsCommit, is_done, is_shrunk, own_after}
use Rattle.history.specs.Legal.{IsLegal, IsLegalResize, IsMount, MayTake, is_present, viewed}
use Rattle.history.specs.Lines.{SpecLeaf, given, stored, Build, Downsampling}
use Rattle.history.specs.OpenRows.{AreOpened}
use Rattle.history.specs.Own.{Numbered, numbered, numbers_of, resized_event}
use Rattle.history.specs.ReadRows.{IsShrunkBy, with_read}
use Rattle.history.specs.Reads.{has_mark, mark_of, is_put, first_reads, cells_named, unwritten, target_cell, marked_world}
use Rattle.history.specs.Refs.{HasKnownRefs}
use Rattle.history.specs.Refusals.{was_outside, cells_outside, last_mark, mark_at, IsShrunkCommit, HasTooManyCut}
use Rattle.history.specs.ResizeRows.{MayResize, shape_after}
use Rattle.history.specs.Resizes.{cut_chunks}
use Rattle.history.specs.Sessions.{Names, bind, SessionState, new_transaction, reader}
use Rattle.history.specs.Shown.{IsRead}
use Rattle.history.specs.Single.{Outside, first_outside}
use Rattle.history.specs.Staged.{IsFound, IsStaged, AreInShapes, IsTransaction, HasTransaction, AreStaged}
use Rattle.history.specs.Bound.{AreKnownOps}
use Rattle.history.specs.Steps.{IsRow, open_done, open_refused, open_unbuilt, view_done, read_done, read_shrunk, write_staged, write_done, begin_done, commit_done, abort_done, resize_done, resize_many, resolve_done, resolve_refused, IsAnswered, done_line, is_memory, as_written, write_alone, with_write}
use Rattle.history.specs.Store.{resized_after}
use Rattle.history.specs.Touch.{generation_of}
use Rattle.history.specs.Viewing.{opened_body, viewed_body, resolved_body, values_body}
use Rattle.history.specs.Writes.{Put, puts_of, Content, put, written, shown_in, read_values}
use Rattle.history.proofs.ActFits.{IsActIn}
use Rattle.history.proofs.AloneCommits.{IsMarkedNow, one_event, none_touched}
use Rattle.history.proofs.AloneKeys.{commit_together, resize_together}
use Rattle.history.proofs.AloneLeaves.{IsStopped, CanOpen, can_open}
use Rattle.history.proofs.AloneOpens.{no_bytes}
use Rattle.history.proofs.AloneMarks.{marks_for, are_marked}
use Rattle.history.proofs.AloneMount.{IsActOn, IsActStored, IsStoredArray, stored_array}
use Rattle.history.proofs.AloneReads.{AreMarkedAt}
use Rattle.history.proofs.AloneShrunk.{nothing_outside, something_outside, put_among, among_put, mark_found, contained, among_kept, kept_among}
use Rattle.history.proofs.AloneSteps.{HasMarks, marks_now}
use Rattle.history.proofs.Known.{some_inj}
use Rattle.history.proofs.KnownViews.{never_renewed}
use Rattle.history.proofs.Openings.{resize_legal}
use Rattle.history.proofs.Shrinks.{WasInside, LiesOf, targets_lie, absent_stored, in_shapes}
use Rattle.history.proofs.Staged.{commit_keeps_legal}
use Rattle.history.proofs.StepsKnown.{IsActKnown}
use Rattle.history.proofs.StepsStaged.{IsWholeView, IsActWhole}
use Rattle.history.proofs.Tests.{true_or_false}
use Rattle.history.proofs.Transactions.{transaction_begun, transaction_written}
use Rattle.history.proofs.Words.{IsSome, word_over_empty}
use Rattle.history.proofs.Written.{puts_elsewhere}

-- how many events an act may add
abbrev pub most_added : Act → ℕ
most_added (opens name leaves build) = length leaves
most_added act = 1

abbrev pub most_asked : Asked → ℕ
most_asked (Ok act) = most_added act
most_asked (Err answer) = 0

-- a line has this answer behind these events, which it may add to
pub record HasAnswer (mount : Text) (owner : ℕ) (h : History) (s : SessionState) (line : ℕ) (asked : Asked) : Type 0 where
  pub new : List Event
  pub names : Names
  pub transaction : Option Transaction
  pub answer : Body
  pub row : IsAnswered (single_store mount) owner (h ++ new) s line asked names transaction answer (numbered (length h + 1) new)
  pub alone : AreAlone owner new
  pub legal : length (h ++ new) < 2 ^ 64 → IsLegal finmap.empty (h ++ new)
  pub good : is_memory answer ≡ false
  pub few : length new ≤ most_asked asked

-- the parts of an act are as the forms of lines give them
abbrev pub IsActSound : Act → Type 0
IsActSound (opens name leaves build) = AllByRecursion IsLeafSound leaves
IsActSound (binds name view) = Unit {0}
IsActSound (reads view down) = Unit {0}
IsActSound (stages t view words) = Unit {0}
IsActSound (writes view words) = Unit {0}
IsActSound (begins mode) = Unit {0}
IsActSound (commits t) = Unit {0}
IsActSound aborts = Unit {0}
IsActSound (resizes array shape) = AllByRecursion (λ s. s ≤ 2 ^ 62 - 2) shape
IsActSound (resolves name view array) = Unit {0}

-- what is known of a session alone before a line
pub record IsReady (mount : Text) (h : History) (s : SessionState) : Type 0 where
  pub seen : s.seen ≡ length h
  pub legal : IsLegal finmap.empty h
  pub on_mount : AreOnMount mount h
  pub marks : HasMarks h s.transaction
  pub stands : HasTransaction finmap.empty h s.transaction
  pub staged : AreStaged s.transaction
  pub known : AreKnownOps h s.transaction

module _ (mount : Text) (owner : ℕ) (h : History) (s : SessionState) (line : ℕ) (legal : IsLegal finmap.empty h) where
  -- an act that adds nothing
  kept : (act : Act) (names : Names) (t : Option Transaction) (answer : Body) → is_memory answer ≡ false → IsRow (single_store mount) owner h s line act names t answer [] → HasAnswer mount owner h s line (Ok act)
  kept act names t answer good row = record {
    new = [];
    names = names;
    transaction = t;
    answer = answer;
    row = done_line (subst (λ e. IsRow (single_store mount) owner e s line act names t answer []) (sym (append-nil h)) row);
    alone = tt;
    legal = λ small. subst (IsLegal finmap.empty) (sym (append-nil h)) legal;
    good = good;
    few = omega arith;
  }

-- the cells that a view of known arrays names lay in the arrays' shapes
named_lie : (events : History) (ts : List (Result Target TargetError)) → AllByRecursion (LiesOf events) ts → AllByRecursion (WasInside events) (filter_map target_cell ts)
named_lie events [] all = tt
named_lie events (Ok t ∷ ts) all = (all.0, named_lie events ts all.1)
named_lie events (Err e ∷ ts) all = named_lie events ts all.1

unwritten_lie : (events : History) (ops : List Op) (view : View) → HasKnownRefs events view → (x : Cell) → Contains (unwritten ops view) x → WasInside events x
unwritten_lie events ops view refs x there =
    let named = kept_among (λ y. not (is_put (puts_of ops) y)) (cells_named view) x there in
    contained (WasInside events) (cells_named view) (named_lie events (targets_of view) (targets_lie events view refs)) x named.0

-- where nothing is found outside, each cell that lay in its array's shape lies in the present one
all_inside : (events : History) (xs : List Cell) → IsLegal finmap.empty events → first_outside events xs ≡ None → ((x : Cell) → Contains xs x → WasInside events x) → (x : Cell) → Contains xs x → is_present events x ≡ true
all_inside events xs legal none lay x there = elim (true_or_false (is_present events x)) [
  | inl present ↦ present
  | inr absent ↦ let key = absent_stored finmap.empty events x legal (lay x there) absent in absurd (nothing_outside events xs none x key.0 there (record { outside = absent; named = key.1 }))
]

put_some : (ps : List Put) (f : Content) (x : Cell) → is_put ps x ≡ true → IsSome (fold put f ps x)
put_some [] f x put_is = absurd (cc)
put_some (p ∷ ps) f x put_is = elim (true_or_false (is_put ps x)) [
  | inl later ↦ put_some ps (put f p) x later
  | inr none ↦ (p.1, puts_elsewhere ps (put f p) x none ∙ ap (λ b. cond b (Some p.1) (f x)) (first (is_cell p.0 x) (is_put ps x) none put_is))
]
  where
    first : (a b : Bool) → b ≡ false → (a || b) ≡ true → a ≡ true
    first true b none is = refl
    first false b none is = let clash : true ≡ false = sym is ∙ none in absurd (cc)

-- a cell that was written has a word, and one that wasn't has the one that it had
some_written : (ops : List Op) (f : Content) (x : Cell) → (is_put (puts_of ops) x ≡ false → IsSome (f x)) → IsSome (written ops f x)
some_written ops f x there = elim (true_or_false (is_put (puts_of ops) x)) [
  | inl put_is ↦ put_some (puts_of ops) f x put_is
  | inr none ↦ let w = there none in (w.0, puts_elsewhere (puts_of ops) f x none ∙ w.1)
]

abbrev AllSome : List (Option ℕ) → Type 0
AllSome os = AllByRecursion IsSome os

map_some : (out : ℕ → ℕ) (o : Option ℕ) → IsSome o → IsSome (option_map out o)
map_some out o some = (out some.0, ap (option_map out) some.1)

all_shown : (ops : List Op) (f : Content) (ts : List (Result Target TargetError)) → AllByRecursion IsFound ts → ((x : Cell) → Contains (filter (λ y. not (is_put (puts_of ops) y)) (filter_map target_cell ts)) x → IsSome (f x)) → AllSome (map (shown_in (written ops f)) ts)
all_shown ops f [] found there = tt
all_shown ops f (Err e ∷ ts) found there = absurd found.0
all_shown ops f (Ok t ∷ ts) found there = (
  map_some (outwards t.casts) (written ops f t.cell) (some_written ops f t.cell (λ none. there t.cell (head (is_put (puts_of ops) t.cell) none))),
  all_shown ops f ts found.1 (λ x more. there x (later (is_put (puts_of ops) t.cell) x more)),
)
  where
    others : List Cell
    others = filter (λ y. not (is_put (puts_of ops) y)) (filter_map target_cell ts)

    head : (b : Bool) → b ≡ false → Contains (cond (not b) (t.cell ∷ others) others) t.cell
    head true none = absurd (cc)
    head false none = (0, omega arith, refl)

    later : (b : Bool) (x : Cell) → Contains others x → Contains (cond (not b) (t.cell ∷ others) others) x
    later true x more = more
    later false x (k, low, is) = (suc k, omega arith, is)

words_of_some : (os : List (Option ℕ)) → AllSome os → map Some (map (λ o. unwrap_or o 0) os) ≡ os
words_of_some [] all = refl
words_of_some (o ∷ os) all = λ i. first o all.0 i ∷ words_of_some os all.1 i
  where
    first : (o : Option ℕ) → IsSome o → Some (unwrap_or o 0) ≡ o
    first o some = ap (λ u. Some (unwrap_or u 0)) some.1 ∙ sym some.1

reader_marks : (h : History) (line : ℕ) (t : Option Transaction) → HasMarks h t → AreMarkedAt (length h) (reader line t).marks
reader_marks h line None marks = tt
reader_marks h line (Some t) marks = marks.marked

module _ (mount : Text) (owner : ℕ) (h : History) (s : SessionState) (line : ℕ) (ready : IsReady mount h s) (view : View) (down : Option Downsampling) (refs : HasKnownRefs h view) (whole : IsWholeView view) where
  at_now : AreMarkedAt (length h) (marks_for h (reader line s.transaction) view)
  at_now = marks_now h s.seen (reader line s.transaction) view (marks_for h (reader line s.transaction) view) ready.seen (reader_marks h line s.transaction ready.marks) (are_marked h s.seen (reader line s.transaction) view ready.seen)

  mark_now : (x : Cell) → Contains (unwritten (reader line s.transaction).ops view) x → mark_at h (marks_for h (reader line s.transaction) view) x ≡ length h
  mark_now x there =
      mark_found (length h) (marks_for h (reader line s.transaction) view) x h at_now
      (contained (λ y. IsTrue (has_mark (marks_for h (reader line s.transaction) view) (chunk_of h y))) (unwritten (reader line s.transaction).ops view) (are_marked h s.seen (reader line s.transaction) view ready.seen).each x there)

  whole_history : (x : Cell) → Contains (unwritten (reader line s.transaction).ops view) x → take (mark_at h (marks_for h (reader line s.transaction) view) x) h ≡ h
  whole_history x there = ap (λ m. take m h) (mark_now x there) ∙ take-length h

  was_is : (x : Cell) → Contains (unwritten (reader line s.transaction).ops view) x → was_outside h (marks_for h (reader line s.transaction) view) x ≡ not (is_present h x)
  was_is x there = ap (λ e. not (is_present e x)) (whole_history x there)

  -- a read with a cell outside is shrunk
  read_outside : (o : Outside) → first_outside h (unwritten (reader line s.transaction).ops view) ≡ Some o → HasAnswer mount owner h s line (Ok (reads view down))
  read_outside o is =
      let t = reader line s.transaction in
      let marks = marks_for h t view in
      let a = something_outside h (unwritten t.ops view) o is in
      let now : ℕ = resized_after (take (last_mark h marks a.cell.array (cells_outside h marks t view)) h) a.cell.array in
      let shrunk : IsShrunkBy h s.seen t view o.key now = record {
        marks = marks;
        marked = are_marked h s.seen t view ready.seen;
        shrunk = record {
          cell = a.cell;
          counts = among_kept (was_outside h marks) (unwritten t.ops view) a.cell a.among (was_is a.cell a.among ∙ ap not a.outside.outside);
          named = a.outside.named;
          number = refl;
          least = λ x there k named.
              let parts = kept_among (was_outside h marks) (unwritten t.ops view) x there in
              a.least x k parts.0 (record { outside = not_true (is_present h x) (sym (was_is x parts.0) ∙ parts.1); named = named });
        };
      } in
      kept mount owner h s line ready.legal (reads view down) s.names s.transaction (body.shrunk o.key now) refl (read_shrunk shrunk)
    where
      not_true : (b : Bool) → not b ≡ true → b ≡ false
      not_true true e = absurd (cc)
      not_true false e = refl

  -- and one without shows what the arrays have
  read_whole : first_outside h (unwritten (reader line s.transaction).ops view) ≡ None → HasAnswer mount owner h s line (Ok (reads view down))
  read_whole none =
      let t = reader line s.transaction in
      let marks = marks_for h t view in
      let f = marked_world finmap.empty h (mark_of marks) in
      let there : (x : Cell) → Contains (unwritten t.ops view) x → IsSome (f x) = λ x among.
      let word = word_over_empty h x ready.legal (all_inside h (unwritten t.ops view) ready.legal none (unwritten_lie h t.ops view refs) x among) in
      (word.0, ap (λ e. world_after finmap.empty e x) (whole_history x among) ∙ word.1) in
      let all = all_shown t.ops f (targets_of view) whole.targets there in
      let words : List ℕ = map (λ o. unwrap_or o 0) (read_values (written t.ops f) view) in
      let read : IsRead (single_store mount) h s.seen t view words marks = record { marked = are_marked h s.seen t view ready.seen; shown = words_of_some (map (shown_in (written t.ops f)) (targets_of view)) all } in
      kept mount owner h s line ready.legal (reads view down) s.names (with_read s.transaction view words marks) (values_body view down words) refl (read_done read)

  can_read : HasAnswer mount owner h s line (Ok (reads view down))
  can_read = by (first_outside h (unwritten (reader line s.transaction).ops view)) refl
    where
      by : (o : Option Outside) → first_outside h (unwritten (reader line s.transaction).ops view) ≡ o → HasAnswer mount owner h s line (Ok (reads view down))
      by None is = read_whole is
      by (Some o) is = read_outside o is

each_alone : (owner : ℕ) (t : Transaction) (ops : List Op) (keys : List Key) → AreAlone owner (done_each owner t ops keys)
each_alone owner t ops [] = tt
each_alone owner t ops (k ∷ ks) = ((refl, tt), each_alone owner t (filter is_write ops) ks)

commit_alone_events : (fixed : Fixed) (owner : ℕ) (h : History) (t : Transaction) → AreAlone owner (commit_events fixed h owner t)
commit_alone_events fixed owner h t = by (are_together fixed.prefixes (stored_keys h t.ops))
  where
    by : (b : Bool) → AreAlone owner (cond b (record { owner = owner; kind = Done t.line t.mode (kept_ops t) None } ∷ []) (done_each owner t (kept_ops t) (changed_keys h t.ops)))
    by true = ((refl, tt), tt)
    by false = each_alone owner t (kept_ops t) (changed_keys h t.ops)

free_now : (h : History) (t : Transaction) → IsMarkedNow h t → HasNoConflict h t
free_now h t marked asked = each (first_reads [] t.ops) marked.complete
  where
    each : (xs : List Cell) → AllByRecursion (λ x. has_mark t.marks (chunk_of h x) ≡ true) xs → AllByRecursion (λ x. generation_of h (chunk_of h x) ≤ read_generation h t.marks (chunk_of h x)) xs
    each [] all = tt
    each (x ∷ xs) all = (let same = none_touched h t marked x all.0 in omega (arith, same), each xs all.1)

-- a commit of a transaction that stands on these events
record CanCommit (mount : Text) (owner : ℕ) (h : History) (t : Transaction) : Type 0 where
  new : List Event
  left : Option Transaction
  answer : Body
  row : IsCommit (single_store mount) owner (h ++ new) t left answer (numbered (length h + 1) new)
  alone : AreAlone owner new
  legal : IsLegal finmap.empty (h ++ new)
  good : is_memory answer ≡ false
  plain : (cells : ℕ) → is_memory (as_written cells answer) ≡ false
  few : length new ≤ 1

module _ (mount : Text) (owner : ℕ) (h : History) (t : Transaction) (legal : IsLegal finmap.empty h) (on_mount : AreOnMount mount h) (marked : IsMarkedNow h t) (stands : IsTransaction finmap.empty h t) (staged : AllByRecursion IsStaged t.ops) (known : AllByRecursion (λ op. HasKnownRefs h (viewed op)) t.ops) where
  commit_outside : (o : Outside) → first_outside h (map (λ (p : Put). p.0) (puts_of t.ops)) ≡ Some o → CanCommit mount owner h t
  commit_outside o is =
      let a = something_outside h (map (λ (p : Put). p.0) (puts_of t.ops)) o is in
      let shrunk : IsShrunkCommit h t o.key (resized_after h a.cell.array) = record {
        cell = a.cell;
        is_outside = record { written = among_put (puts_of t.ops) a.cell a.among; outside = a.outside.outside; named = a.outside.named };
        number = refl;
        least = λ x k out. a.least x k (put_among (puts_of t.ops) x out.written) (record { outside = out.outside; named = out.named });
      } in
      record {
        new = [];
        left = None;
        answer = body.shrunk o.key (resized_after h a.cell.array);
        row = subst (λ e. IsCommit (single_store mount) owner e t None (body.shrunk o.key (resized_after h a.cell.array)) []) (sym (append-nil h)) (is_shrunk (free_now h t marked) shrunk);
        alone = tt;
        legal = subst (IsLegal finmap.empty) (sym (append-nil h)) legal;
        good = refl;
        plain = λ cells. refl;
        few = omega arith;
      }

  commit_whole : first_outside h (map (λ (p : Put). p.0) (puts_of t.ops)) ≡ None → CanCommit mount owner h t
  commit_whole none =
      let fixed = single_store mount in
      let new : List Event = commit_events fixed h owner t in
      let all : History = h ++ new in
      let front : take (length h) all ≡ h = take-append_seam h new in
      let inside : AreInShapes h t.ops = in_shapes finmap.empty h t legal known (λ key now shrunk. nothing_outside h (map (λ (p : Put). p.0) (puts_of t.ops)) none shrunk.cell key (put_among (puts_of t.ops) shrunk.cell shrunk.is_outside.written) (record { outside = shrunk.is_outside.outside; named = shrunk.is_outside.named })) in
      let may : MayCommit fixed h t = record { no_conflict = free_now h t marked; in_shapes = inside; whole = λ asked. commit_together mount h t.ops on_mount } in
      let undamaged : HasNoDamage fixed h t = λ c key cause spoiled. no_bytes key _ spoiled.damaged.held in
      let numbers : List Event → List Numbered = λ es. numbered (length h + 1) es in
      let row : IsCommit fixed owner all t None (body.committed (numbers_of (own_after fixed owner all (length h) t))) (own_after fixed owner all (length h) t) = is_done (length h) (subst (λ e. MayCommit fixed e t) (sym front) may) (subst (λ e. HasNoDamage fixed e t) (sym front) undamaged) in
      record {
        new = new;
        left = None;
        answer = body.committed (numbers_of (numbered (length h + 1) new));
        row = subst (λ e. IsCommit fixed owner all t None (body.committed (numbers_of (numbered (length h + 1) (commit_events fixed e owner t)))) (numbered (length h + 1) (commit_events fixed e owner t))) front row;
        alone = commit_alone_events fixed owner h t;
        legal = commit_keeps_legal fixed h owner t legal stands (free_now h t marked) staged inside;
        good = refl;
        plain = λ cells. refl;
        few = subst (λ es. length es ≤ 1) (sym (one_event fixed h owner t (commit_together mount h t.ops on_mount))) (omega arith);
      }

  can_commit : CanCommit mount owner h t
  can_commit = by (first_outside h (map (λ (p : Put). p.0) (puts_of t.ops))) refl
    where
      by : (o : Option Outside) → first_outside h (map (λ (p : Put). p.0) (puts_of t.ops)) ≡ o → CanCommit mount owner h t
      by None is = commit_whole is
      by (Some o) is = commit_outside o is

module _ (mount : Text) (owner : ℕ) (h : History) (s : SessionState) (line : ℕ) (ready : IsReady mount h s) where
  can_write : (view : View) (words : List ℕ) → s.transaction ≡ None → IsStaged (Write view words) → HasKnownRefs h view → HasAnswer mount owner h s line (Ok (writes view words))
  can_write view words fits staged refs =
      let t : Transaction = write_alone line view words in
      let c = can_commit mount owner h t ready.legal ready.on_mount (record { marked = tt; complete = tt }) (transaction_written finmap.empty h (new_transaction line _) view words (transaction_begun finmap.empty h (new_transaction line _) refl refl)) (staged, tt) (refs, tt) in
      record {
        new = c.new;
        names = s.names;
        transaction = None;
        answer = as_written (length words) c.answer;
        row = done_line (write_done c.row);
        alone = c.alone;
        legal = λ small. c.legal;
        good = c.plain (length words);
        few = c.few;
      }

  can_finish : (t : Transaction) → s.transaction ≡ Some t → HasAnswer mount owner h s line (Ok (commits t))
  can_finish t fits =
      let c =
      can_commit mount owner h t ready.legal ready.on_mount (subst (HasMarks h) fits ready.marks) (subst (HasTransaction finmap.empty h) fits ready.stands) (subst AreStaged fits ready.staged) (subst (AreKnownOps h) fits ready.known) in
      record { new = c.new; names = s.names; transaction = c.left; answer = c.answer; row = done_line (commit_done c.row); alone = c.alone; legal = λ small. c.legal; good = c.good; few = c.few }

  -- a new shape cuts too many chunks, or is taken
  can_resize : (array : Reference) (shape : List ℕ) → IsActStored h (resizes array shape) → AllByRecursion (λ size. size ≤ 2 ^ 62 - 2) shape → HasAnswer mount owner h s line (Ok (resizes array shape))
  can_resize array shape act sizes = by (nat_lt 65536 (length (cut_chunks k shape))) refl
    where
      is_there : IsStoredArray h array
      is_there = stored_array finmap.empty h array ready.legal act.0 act.1

      k : Known
      k = is_there.known

      by : (b : Bool) → nat_lt 65536 (length (cut_chunks k shape)) ≡ b → HasAnswer mount owner h s line (Ok (resizes array shape))
      by true many =
          kept mount owner h s line ready.legal (resizes array shape) s.names s.transaction (body.too_many_chunks (length h)) refl
          (resize_many (subst (λ o. HasTooManyCut o shape) (sym is_there.is_known) (ltb-true 65536 (length (cut_chunks k shape)) many)))
      by false few =
          let e : Event = resized_event owner array.number shape in
          let all : History = h ++ e ∷ [] in
          let front : take (length h) all ≡ h = take-append_seam h (e ∷ []) in
          let new : MayTake k shape = record { stored = is_there.stored; rank = act.2 ∙ sym is_there.rank; sizes = sizes; few = ltb-false 65536 (length (cut_chunks k shape)) few } in
          let may : MayResize (single_store mount) h array.number shape = record {
            legal = subst (λ o. IsLegalResize o shape) (sym is_there.is_known) new;
            whole = λ keys split.
                let same : k ≡ split.known = some_inj k split.known (sym is_there.is_known ∙ split.is_known) in
                resize_together mount h array.number shape keys ready.on_mount split (ap (λ (l : Known). is_local l.info.home) (sym same) ∙ is_there.stored);
          } in
          record {
            new = e ∷ [];
            names = s.names;
            transaction = s.transaction;
            answer = body.resized (length h + 1);
            row = done_line (resize_done (length h) (subst (λ past. MayResize (single_store mount) past array.number shape) (sym front) may) (λ key cause damage. no_bytes key _ damage.damaged.held));
            alone = ((refl, tt), tt);
            legal = λ small. resize_legal finmap.empty h owner array.number shape k ready.legal is_there.is_known new;
            good = refl;
            few = omega arith;
          }

  can_resolve : (name : Text) (view : View) (array : Reference) → array_of view ≡ Some array → HasAnswer mount owner h s line (Ok (resolves name view array))
  can_resolve name view array leaf = by (renewed (shape_after h array.number) view) refl
    where
      now : renewed (shape_after (take (length h) h) array.number) view ≡ renewed (shape_after h array.number) view
      now = ap (λ e. renewed (shape_after e array.number) view) (take-length h)

      low : s.seen ≤ length h
      low = let same = ready.seen in omega (arith, same)

      by : (r : Result View RenewError) → renewed (shape_after h array.number) view ≡ r → HasAnswer mount owner h s line (Ok (resolves name view array))
      by (Ok made) is = kept mount owner h s line ready.legal (resolves name view array) (bind s.names name made) s.transaction (resolved_body name made) refl (resolve_done (length h) low (omega arith) (now ∙ is))
      by (Err (renew.Refused cause)) is = kept mount owner h s line ready.legal (resolves name view array) s.names s.transaction (body.refused_view cause) refl (resolve_refused (length h) low (omega arith) (now ∙ is))
      by (Err renew.NotArray) is = absurd (never_renewed (shape_after h array.number) view array leaf (inl is))
      by (Err renew.Memory) is = absurd (never_renewed (shape_after h array.number) view array leaf (inr is))

  can_open_line : (name : Text) (leaves : List SpecLeaf) (build : Build) → IsMount mount → AllByRecursion (IsLeafOn mount) leaves → AllByRecursion IsLeafSound leaves → HasAnswer mount owner h s line (Ok (opens name leaves build))
  can_open_line name leaves build placed on sound = by c.rest refl (build c.refs) refl
    where
      c : CanOpen owner h leaves
      c = can_open mount owner leaves h placed on sound

      own : List Numbered
      own = numbered (length h + 1) c.new

      opened : (rest : List SpecLeaf) → c.rest ≡ rest → AreOpened finmap.empty owner (h ++ c.new) s.seen leaves c.refs (numbered (length h + 1) c.new) (length (h ++ c.new)) rest
      opened rest is = subst (λ n. AreOpened finmap.empty owner (h ++ c.new) n leaves c.refs (numbered (length h + 1) c.new) (length (h ++ c.new)) rest) (sym ready.seen) (subst (AreOpened finmap.empty owner (h ++ c.new) (length h) leaves c.refs (numbered (length h + 1) c.new) (length (h ++ c.new))) is c.opened)

      answered : (names : Names) (answer : Body) → is_memory answer ≡ false → IsRow (single_store mount) owner (h ++ c.new) s line (opens name leaves build) names s.transaction answer (numbered (length h + 1) c.new) → HasAnswer mount owner h s line (Ok (opens name leaves build))
      answered names answer good row = record { new = c.new; names = names; transaction = s.transaction; answer = answer; row = done_line row; alone = c.alone; legal = λ small. c.legal small ready.legal; good = good; few = c.few }

      by : (rest : List SpecLeaf) → c.rest ≡ rest → (r : Result View (Text × BuildCause)) → build c.refs ≡ r → HasAnswer mount owner h s line (Ok (opens name leaves build))
      by [] is (Ok view) e = answered (bind s.names name view) (opened_body name view (numbers_of (numbered (length h + 1) c.new))) refl (open_done (opened [] is) e)
      by [] is (Err (path, cause)) e = answered s.names (body.refused_spec path cause (numbers_of (numbered (length h + 1) c.new))) refl (open_unbuilt (opened [] is) e)
      by (given numbers ∷ rest) is r e = absurd (subst (IsStopped (h ++ c.new)) is c.stops)
      by (stored node leaf ∷ rest) is r e =
          let stop = subst (IsStopped (h ++ c.new)) is c.stops (numbers_of (numbered (length h + 1) c.new)) in
          answered s.names stop.0 stop.2 (open_refused (opened (stored node leaf ∷ rest) is) stop.1)

  -- each act has an answer
  pub can_act : (act : Act) → IsMount mount → IsActIn s.transaction act → IsActOn mount act → IsActStored h act → IsActSound act → IsActWhole act → IsActKnown h act → HasAnswer mount owner h s line (Ok act)
  can_act (opens name leaves build) placed fits on stored_at sound whole known = can_open_line name leaves build placed on sound
  can_act (binds name view) placed fits on stored_at sound whole known = kept mount owner h s line ready.legal (binds name view) (bind s.names name view) s.transaction (viewed_body name view) refl view_done
  can_act (reads view down) placed fits on stored_at sound whole known = can_read mount owner h s line ready view down known whole
  can_act (stages t view words) placed fits on stored_at sound whole known = kept mount owner h s line ready.legal (stages t view words) s.names (Some (with_write t view words)) (body.staged (length words)) refl write_staged
  can_act (writes view words) placed fits on stored_at sound whole known = can_write view words fits whole known
  can_act (begins mode) placed fits on stored_at sound whole known = kept mount owner h s line ready.legal (begins mode) s.names (Some (new_transaction line mode)) body.begun refl begin_done
  can_act (commits t) placed fits on stored_at sound whole known = can_finish t fits
  can_act aborts placed fits on stored_at sound whole known = kept mount owner h s line ready.legal aborts s.names None body.aborted refl abort_done
  can_act (resizes array shape) placed fits on stored_at sound whole known = can_resize array shape stored_at sound
  can_act (resolves name view array) placed fits on stored_at sound whole known = can_resolve name view array known.1
