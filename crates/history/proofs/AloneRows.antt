-- Each row of a session alone is what the single session does.
use Rattle.std.proofs.Common.{◌≡◌, ◌≢◌, ℕ, ◌+◌, ◌<◌, ◌≤◌, List, [], ◌∷◌, ◌++◌, length, map, take, drop, true, false, cond, Option, Some, None, Result, Ok, Err, refl, sym, ap, subst, ◌∙◌, arith}
use Rattle.std.specs.Prelude.{nat_lt, unwrap_or}
use Rattle.std.specs.FinMap as finmap
use Rattle.std.proofs.lemmas.List.{take-append-drop, length-take-le}
use Rattle.std.proofs.Math.Seq.{take-length}
use Rattle.std.proofs.lemmas.Bool.{le-ltb, lt-ltb}
use Rattle.stack_driver.specs.References.{Reference}
use Rattle.stack_driver.specs.Renewed.{renewed}
use Rattle.stack_driver.specs.declared.error.RenewError.TheVariants as renew
use Rattle.stack_driver.specs.declared.view.View.{View}
use Rattle.history.specs.declared.event.Event.{Event}
use Rattle.history.specs.History.{History}
use Rattle.history.specs.Acts.{Act}
use Rattle.history.specs.Alone.{single_store, AreAlone, AreOnMount}
use Rattle.history.specs.Answers as body
use Rattle.history.specs.Answers.{Body, Text, BuildCause}
use Rattle.history.specs.Arrays.{Known, known_after, is_local}
use Rattle.history.specs.Commit.{Key, Transaction}
use Rattle.history.specs.CommitRows.{IsCommit, conflicts, is_done, is_failed, is_split, is_shrunk, is_damaged, is_wanting, own_part}
use Rattle.history.specs.Leaves.{Leaf}
use Rattle.history.specs.Legal.{IsLegal, IsLegalResize}
use Rattle.history.specs.Lines.{SpecLeaf, stored, Build, Downsampling}
use Rattle.history.specs.OpenRows.{AreOpened, IsRefusedLeaf}
use Rattle.history.specs.Outcomes.{IsOutcome, bad_metadata}
use Rattle.history.specs.Own.{Numbered, numbered, numbers_of, resized_event}
use Rattle.history.specs.ReadRows.{IsShrunkBy, with_read}
use Rattle.history.specs.Refusals.{HasTooManyCut}
use Rattle.history.specs.ResizeRows.{shape_after}
use Rattle.history.specs.Sessions.{Names, bind, SessionState, new_transaction, reader}
use Rattle.history.specs.Shown.{IsRead}
use Rattle.history.specs.Single.{Single, LineDone, stays, built, open_leaves, unless_outside, words_now, read_alone, commit_alone, as_write, cut_by, resize_alone, resolve_alone, act_alone}
use Rattle.history.specs.SingleOpen.{by_outcome, leaves_from, refusal_of, outcome_alone, with_own}
use Rattle.history.specs.Steps.{IsRow, open_done, open_refused, open_unbuilt, open_failed, open_wanting, view_done, read_done, read_shrunk, read_damaged, read_failed, write_staged, write_done, begin_done, commit_done, abort_done, resize_done, resize_many, resize_split, resize_damaged, resize_failed, resolve_done, resolve_refused, is_memory, as_written, write_alone, with_write}
use Rattle.history.specs.Store.{resized_after}
use Rattle.history.specs.Viewing.{opened_body, viewed_body, resolved_body, values_body}
use Rattle.history.proofs.ActFits.{IsActIn}
use Rattle.history.proofs.Alone.{IsGrown, numbered_events, numbered_same, nothing_new, no_fault}
use Rattle.history.proofs.AloneCommits.{bare, IsMarkedNow, judged_at, before_is, after_commit, done_alone, no_conflict_alone}
use Rattle.history.proofs.AloneKeys.{commit_together, resize_together}
use Rattle.history.proofs.AloneMount.{IsActStored, front_on, stored_array}
use Rattle.history.proofs.AloneOpens.{no_bytes, IsStopped, outcome_is, never_bad, refusal_is, refused_stops, leaves_same, last_is}
use Rattle.history.proofs.AloneShrunk.{shrunk_commit, shrunk_read}
use Rattle.history.proofs.AloneSteps.{bare_of, bare_act, HasMarks, marks_now, written_marks, read_row}
use Rattle.history.proofs.Known.{some_inj}
use Rattle.history.proofs.StepsKnown.{legal_take}

-- a step over a history of the session's own events, which it saw up to here
pub record IsAloneHere (mount : Text) (owner : ℕ) (s : SessionState) (now : History) (own : List Numbered) : Type 0 where
  pub legal : IsLegal finmap.empty now
  pub within : s.seen ≤ length now
  pub in_order : own ≡ numbered (s.seen + 1) (drop s.seen now)
  pub alone : AreAlone owner (drop s.seen now)
  pub marks : HasMarks (take s.seen now) s.transaction
  pub on_mount : AreOnMount mount now

abbrev pub single_at : SessionState → History → Single
single_at s past = record { names = s.names; events = past; transaction = bare_of s.transaction }

-- what is done is this answer and this session afterwards
abbrev pub IsDoneTo : LineDone → Names → History → Option Transaction → Body → Type 0
IsDoneTo done names now t answer = (done ≡ record { after = record { names = names; events = now; transaction = bare_of t }; body = answer }) × HasMarks now t

module _ (mount : Text) (owner : ℕ) (s : SessionState) (now : History) where
  past_size : (own : List Numbered) → IsAloneHere mount owner s now own → length (take s.seen now) ≡ s.seen
  past_size own here = length-take-le s.seen now here.within

  grown_of : (own : List Numbered) → IsAloneHere mount owner s now own → IsGrown owner (take s.seen now) now own
  grown_of own here = record {
    new = drop s.seen now;
    parts = sym (take-append-drop s.seen now);
    in_order = here.in_order ∙ ap (λ n. numbered (n + 1) (drop s.seen now)) (sym (past_size own here));
    alone = here.alone;
  }

  pub still : IsAloneHere mount owner s now [] → now ≡ take s.seen now
  still here = nothing_new owner (take s.seen now) now (grown_of [] here)

  seen_is : IsAloneHere mount owner s now [] → s.seen ≡ length now
  seen_is here = sym (past_size [] here) ∙ ap length (sym (still here))

  -- a line that adds nothing
  pub kept_line : (done : LineDone) (names : Names) (t : Option Transaction) (answer : Body) → IsAloneHere mount owner s now [] → IsDoneTo done names (take s.seen now) t answer → IsDoneTo done names now t answer
  kept_line done names t answer here is = subst (λ h. IsDoneTo done names h t answer) (sym (still here)) is

  pub events_are : (own : List Numbered) → IsAloneHere mount owner s now own → with_own (take s.seen now) own ≡ now
  events_are own here = ap (λ es. take s.seen now ++ es) (ap (map (λ (o : Numbered). o.event)) here.in_order ∙ numbered_events (s.seen + 1) (drop s.seen now)) ∙ take-append-drop s.seen now

commit_row : (mount : Text) (owner : ℕ) (x : Single) (now : History) (t : Transaction) (left : Option Transaction) (answer : Body) (own : List Numbered) → IsLegal finmap.empty now → AreOnMount mount now → IsMarkedNow x.events t → IsGrown owner x.events now own → is_memory answer ≡ false
    → IsCommit (single_store mount) owner now t left answer own → IsDoneTo (commit_alone (single_store mount) owner x (bare t)) x.names now None answer × (left ≡ None)
commit_row mount owner x now t left answer own legal on marked grown good (conflicts {key = key} {read = read} {now = later} conflict) = absurd (no_conflict_alone now t key read later (subst (λ h. IsMarkedNow h t) (sym (nothing_new owner x.events now grown)) marked) conflict)
commit_row mount owner x now t left answer own legal on marked grown good (is_shrunk {key = key} {now = number} free shrunk) =
    let fixed = single_store mount in
    let still_is : now ≡ x.events = nothing_new owner x.events now grown in
    let f = shrunk_commit finmap.empty now t key number legal shrunk in
    let y : Single = record { names = x.names; events = now; transaction = x.transaction } in
    let done : commit_alone fixed owner y (bare t) ≡ record { after = record y { transaction = None }; body = body.shrunk f.found.key (resized_after now f.found.array) } = ap (λ o. unless_outside y None o (after_commit fixed owner y t)) f.is_found in (
      (
        ap (λ h. commit_alone fixed owner (record { names = x.names; events = h; transaction = x.transaction }) (bare t)) (sym still_is) ∙ done
            ∙ (λ i. record { after = record y { transaction = None }; body = body.shrunk (f.key_is i) ((ap (resized_after now) f.number ∙ sym shrunk.number) i) }),
        tt,
      ),
      refl,
    )
commit_row mount owner x now t left answer own legal on marked grown good (is_split free present split) = let all = commit_together mount now t.ops on in let none = split.apart in absurd (cc)
commit_row mount owner x now t left answer own legal on marked grown good (is_damaged {key = key} may damage) = absurd (no_bytes key _ damage.spoiled.damaged.held)
commit_row mount owner x now t left answer own legal on marked grown good (is_done n may undamaged) =
    ((done_alone (single_store mount) owner n x now t (commit_together mount (take n now) t.ops (front_on mount finmap.empty now n legal on)) may.in_shapes grown, tt), refl)
commit_row mount owner x now t left answer own legal on marked grown good (is_failed n count other part changed) = absurd (no_fault owner x.events now (own_part (single_store mount) owner now n t count) (n + count + 1) other grown)
commit_row mount owner x now t left answer own legal on marked grown good (is_wanting n count part) = absurd (cc)

no_marks : (now : History) (t : Option Transaction) → t ≡ None → HasMarks now t
no_marks now t none = subst (HasMarks now) (sym none) tt

module _ (mount : Text) (owner : ℕ) (s : SessionState) (now : History) (name : Text) (leaves : List SpecLeaf) (build : Build) (refs : List Reference) (own : List Numbered) (fin : ℕ) where
  opened_line : (r : Result View (Text × BuildCause)) → IsAloneHere mount owner s now own → AreOpened finmap.empty owner now s.seen leaves refs own fin [] → build refs ≡ r
      → open_leaves (single_at s (take s.seen now)) name build (leaves_from owner leaves (take s.seen now)) ≡ built (single_at s (take s.seen now)) name own r
  opened_line r here opened is = ap (open_leaves (single_at s (take s.seen now)) name build) (leaves_same refl opened here.within here.in_order tt) ∙ ap (built (single_at s (take s.seen now)) name own) is

  refused_line : (rest : List SpecLeaf) (node : Text) (leaf : Leaf) (answer : Body) → IsAloneHere mount owner s now own → AreOpened finmap.empty owner now s.seen leaves refs own fin (stored node leaf ∷ rest) → IsRefusedLeaf finmap.empty now fin node leaf (numbers_of own) answer
      → open_leaves (single_at s (take s.seen now)) name build (leaves_from owner leaves (take s.seen now)) ≡ record { after = single_at s now; body = answer }
  refused_line rest node leaf answer here opened refused =
      let x : Single = single_at s (take s.seen now) in
      let last : fin ≡ length now = last_is opened here.within here.in_order in
      let low = refused.not_older in
      let high = refused.within in
      let at : refused.at ≡ length now = omega (arith, last, low, high) in
      let whole : take refused.at now ≡ now = ap (λ n. take n now) at ∙ take-length now in
      let comes : outcome_alone now leaf ≡ refused.outcome = outcome_is finmap.empty now leaf refused.outcome refl (subst (λ h. IsOutcome finmap.empty h leaf refused.outcome) whole refused.comes) in
      let good : (bytes : List ℕ) → refused.outcome ≢ bad_metadata bytes = λ bytes is. never_bad now leaf bytes (comes ∙ is) in
      let answered : refusal_of node leaf (length now) (numbers_of own) (outcome_alone now leaf) ≡ Some answer =
      ap (refusal_of node leaf (length now) (numbers_of own)) comes ∙ ap (λ n. refusal_of node leaf n (numbers_of own) refused.outcome) (sym at) ∙ refusal_is node leaf refused.at (numbers_of own) refused.outcome answer good refused.answered in
      let stops : IsStopped now (stored node leaf ∷ rest) = λ o. ap (by_outcome o now leaf (stored node leaf ∷ rest) (leaves_from o rest)) comes ∙ refused_stops o refused.at now node leaf (stored node leaf ∷ rest) (numbers_of own) answer (leaves_from o rest) refused.outcome refused.answered in
      ap (open_leaves x name build) (leaves_same refl opened here.within here.in_order stops)
      ∙ ap (λ (h : History). record { after = single_at s h; body = unwrap_or (refusal_of node leaf (length h) (numbers_of own) (outcome_alone h leaf)) body.memory }) (events_are mount owner s now own here)
      ∙ ap (λ o. record { after = single_at s now; body = unwrap_or o body.memory }) answered

plain_written : (cells : ℕ) (answer : Body) → is_memory (as_written cells answer) ≡ false → is_memory answer ≡ false
plain_written cells (body.committed events) good = refl
plain_written cells answer good = good

abbrev shown_line : Single → Transaction → View → Option Downsampling → LineDone
shown_line s t view down = record { after = record s { transaction = with_read s.transaction view (words_now s.events t view) [] }; body = values_body view down (words_now s.events t view) }

shrunk_line : (names : Names) (h : History) (seen line : ℕ) (t : Option Transaction) (view : View) (down : Option Downsampling) (key : Key) (now : ℕ) → IsLegal finmap.empty h → seen ≡ length h → HasMarks h t → IsShrunkBy h seen (reader line t) view key now
    → read_alone (record { names = names; events = h; transaction = bare_of t }) (reader line (bare_of t)) view down ≡ record { after = record { names = names; events = h; transaction = bare_of t }; body = body.shrunk key now }
shrunk_line names h seen line None view down key now legal same marks shrunk =
    let x : Single = record { names = names; events = h; transaction = None } in
    let t : Transaction = reader line None in
    let f = shrunk_read finmap.empty h seen t view key now legal shrunk (marks_now h seen t view shrunk.marks same tt shrunk.marked) in
    ap (λ o. unless_outside x None o (shown_line x t view down)) f.0.is_found ∙ (λ i. record { after = x; body = body.shrunk (f.0.key_is i) ((ap (resized_after h) f.0.number ∙ sym f.1) i) })
shrunk_line names h seen line (Some t) view down key now legal same marks shrunk =
    let x : Single = record { names = names; events = h; transaction = Some (bare t) } in
    let f = shrunk_read finmap.empty h seen t view key now legal shrunk (marks_now h seen t view shrunk.marks same marks.marked shrunk.marked) in
    ap (λ o. unless_outside x (Some (bare t)) o (shown_line x (bare t) view down)) f.0.is_found ∙ (λ i. record { after = x; body = body.shrunk (f.0.key_is i) ((ap (resized_after h) f.0.number ∙ sym f.1) i) })

few_cut : (o : Option Known) (shape : List ℕ) → IsLegalResize o shape → length (cut_by o shape) ≤ 65536
few_cut None shape legal = absurd legal
few_cut (Some k) shape legal = legal.few

many_cut : (o : Option Known) (shape : List ℕ) → HasTooManyCut o shape → 65536 < length (cut_by o shape)
many_cut None shape many = absurd many
many_cut (Some k) shape many = many

pub row_line : (mount : Text) (owner : ℕ) (now : History) (s : SessionState) (line : ℕ) (act : Act) (names : Names) (left : Option Transaction) (answer : Body) (own : List Numbered) → IsAloneHere mount owner s now own → IsActIn s.transaction act → IsActStored (take s.seen now) act → is_memory answer ≡ false
    → IsRow (single_store mount) owner now s line act names left answer own → IsDoneTo (act_alone (single_store mount) owner (single_at s (take s.seen now)) line (bare_act act)) names now left answer
row_line mount owner now s line act names left answer own here fits known good (open_done {name = name} {leaves = leaves} {build = build} {refs = refs} {now = fin} {view = view} opened is) =
    (opened_line mount owner s now name leaves build refs own fin (Ok view) here opened is ∙ ap (λ h. record { after = record { names = bind s.names name view; events = h; transaction = bare_of s.transaction }; body = opened_body name view (numbers_of own) }) (events_are mount owner s now own here), no_marks now s.transaction fits)
row_line mount owner now s line act names left answer own here fits known good (open_refused {name = name} {leaves = leaves} {rest = rest} {build = build} {refs = refs} {now = fin} {node = node} {leaf = leaf} opened refused) =
    (refused_line mount owner s now name leaves build refs own fin rest node leaf answer here opened refused, no_marks now s.transaction fits)
row_line mount owner now s line act names left answer own here fits known good (open_unbuilt {name = name} {leaves = leaves} {build = build} {refs = refs} {now = fin} {path = path} {cause = cause} opened is) =
    (opened_line mount owner s now name leaves build refs own fin (Err (path, cause)) here opened is ∙ ap (λ h. record { after = single_at s h; body = body.refused_spec path cause (numbers_of own) }) (events_are mount owner s now own here), no_marks now s.transaction fits)
row_line mount owner now s line act names left answer own here fits known good (open_failed {own = added} {leaf = leaf} before opened failed) = absurd (no_fault owner (take s.seen now) now added (before + 1) leaf.mount (grown_of mount owner s now own here))
row_line mount owner now s line act names left answer own here fits known good (open_wanting opened) = absurd (cc)
row_line mount owner now s line act names left answer own here fits known good (view_done {name = name} {view = view}) = kept_line mount owner s now _ (bind s.names name view) s.transaction (viewed_body name view) here (refl, here.marks)
row_line mount owner now s line act names left answer own here fits known good (read_done {view = view} {down = down} {words = words} {marks = marks} read) =
    kept_line mount owner s now _ s.names (with_read s.transaction view words marks) (values_body view down words) here
    (read_row (single_store mount) s.names (take s.seen now) s.seen line s.transaction view down words marks refl (sym (past_size mount owner s now [] here)) here.marks (subst (λ h. IsRead (single_store mount) h s.seen (reader line s.transaction) view words marks) (still mount owner s now here) read))
row_line mount owner now s line act names left answer own here fits known good (read_shrunk {view = view} {down = down} {key = key} {now = number} shrunk) =
    let still_is : now ≡ take s.seen now = still mount owner s now here in
    let at : HasMarks now s.transaction = subst (λ h. HasMarks h s.transaction) (sym still_is) here.marks in
    (ap (λ h. read_alone (single_at s h) (reader line (bare_of s.transaction)) view down) (sym still_is) ∙ shrunk_line s.names now s.seen line s.transaction view down key number here.legal (seen_is mount owner s now here) at shrunk, at)
row_line mount owner now s line act names left answer own here fits known good (read_damaged {key = key} damaged) = absurd (no_bytes key _ damaged.damaged.held)
row_line mount owner now s line act names left answer own here fits known good (read_failed {mount = other} before fetched) = absurd (no_fault owner (take s.seen now) now [] (before + 1) other (grown_of mount owner s now own here))
row_line mount owner now s line act names left answer own here fits known good (write_staged {t = t} {view = view} {words = words}) =
    kept_line mount owner s now _ s.names (Some (with_write t view words)) (body.staged (length words)) here (refl, written_marks (take s.seen now) t view words (subst (HasMarks (take s.seen now)) fits here.marks))
row_line mount owner now s line act names left answer own here fits known good (write_done {view = view} {words = words} {left = stands} {answer = inner} commit) =
    let x : Single = single_at s (take s.seen now) in
    let row = commit_row mount owner x now (write_alone line view words) stands inner own here.legal here.on_mount (record { marked = tt; complete = tt }) (grown_of mount owner s now own here) (plain_written (length words) inner good) commit in
    (ap (as_write (length words)) row.0.0, tt)
row_line mount owner now s line act names left answer own here fits known good begin_done = kept_line mount owner s now _ s.names (Some (new_transaction line _)) body.begun here (refl, record { marked = tt; complete = tt })
row_line mount owner now s line act names left answer own here fits known good (commit_done {t = t} commit) =
    let x : Single = single_at s (take s.seen now) in
    let row = commit_row mount owner x now t left answer own here.legal here.on_mount (subst (HasMarks (take s.seen now)) fits here.marks) (grown_of mount owner s now own here) good commit in
    subst (λ u. IsDoneTo (commit_alone (single_store mount) owner x (bare t)) s.names now u answer) (sym row.1) row.0
row_line mount owner now s line act names left answer own here fits known good abort_done = kept_line mount owner s now _ s.names None body.aborted here (refl, tt)
row_line mount owner now s line act names left answer own here fits known good (resize_done {array = array} {shape = shape} n may undamaged) =
    let h : History = take s.seen now in
    let x : Single = single_at s h in
    let e : Event = resized_event owner array.number shape in
    let grown = grown_of mount owner s now own here in
    let at : n ≡ length h = judged_at owner n h now e (e ∷ []) refl grown in
    let before : take n now ≡ h = before_is owner n h now own at grown in
    let new : e ∷ [] ≡ grown.new = numbered_same (n + 1) (length h + 1) (e ∷ []) grown.new grown.in_order in
    let few : nat_lt 65536 (length (cut_by (known_after h array.number) shape)) ≡ false =
    le-ltb 65536 (length (cut_by (known_after h array.number) shape)) (few_cut (known_after h array.number) shape (subst (λ k. IsLegalResize (known_after k array.number) shape) before may.legal)) in (
      ap (λ b. cond b (stays x (body.too_many_chunks (length h))) (record { after = record x { events = h ++ e ∷ [] }; body = body.resized (length h + 1) })) few
          ∙ (λ i. record { after = record x { events = (ap (λ es. h ++ es) new ∙ sym grown.parts) i }; body = body.resized (sym at i + 1) }),
      no_marks now s.transaction fits,
    )
row_line mount owner now s line act names left answer own here fits known good (resize_many {array = array} {shape = shape} many) =
    let x : Single = single_at s now in
    let is_many : nat_lt 65536 (length (cut_by (known_after now array.number) shape)) ≡ true = lt-ltb 65536 (length (cut_by (known_after now array.number) shape)) (many_cut (known_after now array.number) shape many) in (
      ap (λ h. resize_alone owner (single_at s h) array.number shape) (sym (still mount owner s now here))
          ∙ ap (λ b. cond b (stays x (body.too_many_chunks (length now))) (record { after = record x { events = now ++ resized_event owner array.number shape ∷ [] }; body = body.resized (length now + 1) })) is_many,
      no_marks now s.transaction fits,
    )
row_line mount owner now s line act names left answer own here fits known good (resize_split {array = array} {shape = shape} {keys = keys} few split) =
    let there = stored_array finmap.empty (take s.seen now) array (legal_take finmap.empty now s.seen here.legal) known.0 known.1 in
    let is : known_after now array.number ≡ Some there.known = ap (λ h. known_after h array.number) (still mount owner s now here) ∙ there.is_known in
    let same : there.known ≡ split.known = some_inj there.known split.known (sym is ∙ split.is_known) in
    absurd (resize_together mount now array.number shape keys here.on_mount split (ap (λ (k : Known). is_local k.info.home) (sym same) ∙ there.stored))
row_line mount owner now s line act names left answer own here fits known good (resize_damaged {key = key} may damaged) = absurd (no_bytes key _ damaged.damaged.held)
row_line mount owner now s line act names left answer own here fits known good (resize_failed {mount = other} n may on_mount) = absurd (no_fault owner (take s.seen now) now [] (n + 1) other (grown_of mount owner s now own here))
row_line mount owner now s line act names left answer own here fits known good (resolve_done {name = name} {view = view} {made = made} {array = array} m low high is) =
    let at : m ≡ length now = let seen = seen_is mount owner s now here in omega (arith, low, high, seen) in
    let here_is : renewed (shape_after (take s.seen now) array.number) view ≡ Ok made = ap (λ h. renewed (shape_after h array.number) view) (sym (still mount owner s now here) ∙ sym (ap (λ n. take n now) at ∙ take-length now)) ∙ is in
    kept_line mount owner s now _ (bind s.names name made) s.transaction (resolved_body name made) here (ap (resolve_alone (single_at s (take s.seen now)) name) here_is, here.marks)
row_line mount owner now s line act names left answer own here fits known good (resolve_refused {name = name} {view = view} {array = array} {cause = cause} m low high is) =
    let at : m ≡ length now = let seen = seen_is mount owner s now here in omega (arith, low, high, seen) in
    let here_is : renewed (shape_after (take s.seen now) array.number) view ≡ Err (renew.Refused cause) = ap (λ h. renewed (shape_after h array.number) view) (sym (still mount owner s now here) ∙ sym (ap (λ n. take n now) at ∙ take-length now)) ∙ is in
    kept_line mount owner s now _ s.names s.transaction (body.refused_view cause) here (ap (resolve_alone (single_at s (take s.seen now)) name) here_is, here.marks)
