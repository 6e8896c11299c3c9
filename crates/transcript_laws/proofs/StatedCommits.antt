-- Each commit that lines of checked scripts state is sound.
use Rattle.std.proofs.Common.{◌≡◌, ℕ, ◌+◌, ◌*◌, ◌≤◌, List, [], ◌∷◌, ◌++◌, Bool, true, false, cond, Option, Some, None, Result, Ok, Err, take, drop, length, refl, sym, ap, subst, ◌∙◌, arith, eqb-true}
use Rattle.std.specs.Prelude.{◌==◌, ◌||◌, nat_le, codes, filter, filter_map}
use Rattle.std.specs.FinMap as finmap
use Rattle.std.specs.List.{AllByRecursion, list_any, take-map}
use Rattle.std.proofs.lemmas.Bool.{leb-true}
use Rattle.std.proofs.lemmas.List.{take-append-drop}
use Rattle.std.proofs.Math.Nat.{mul_assoc}
use Rattle.cells.specs.Places.{cell_count}
use Rattle.serde_json.specs.Data.{Data}
use Rattle.serde_json.specs.Find.{get}
use Rattle.line_meanings.specs.Lines.{command_of_line}
use Rattle.line_meanings.specs.Meanings.{line_of_bytes}
use Rattle.line_meanings.proofs.Laws.{bytes_of_mount}
use Rattle.stack_driver.specs.Cells.{cells_of}
use Rattle.stack_driver.specs.Targets.{Target}
use Rattle.stack_driver.specs.Views.{look_of, targets_of}
use Rattle.stack_driver.specs.declared.error.TargetError.{TargetError}
use Rattle.stack_driver.specs.declared.view.View.{View}
use Rattle.stack_driver.proofs.Laws.{length-cells_of}
use Rattle.history.specs.declared.event.Op.{Op}
use Rattle.history.specs.declared.event.Op.TheVariants.{Write, Read}
use Rattle.history.specs.Acts.{Act, Asked, opens, binds, reads, stages, writes, begins, commits, aborts, resizes, resolves, outside, inside, changed, write_act, read_of, write_of, act_of}
use Rattle.history.specs.Bound.{IsBuildWithin, IsLineWithin}
use Rattle.history.specs.Commit.{Transaction, kept_ops, is_write}
use Rattle.history.specs.History.{History}
use Rattle.history.specs.Legal.{IsLegal, HasTarget, IsLegalOp, viewed, words_of}
use Rattle.history.specs.Lines.{Line, refused, opening, viewing, joining, reading, writing, beginning, committing, aborting, resizing, resolving}
use Rattle.history.specs.ReadRows.{with_read}
use Rattle.history.specs.Refs.{HasKnownRefs}
use Rattle.history.specs.Sessions.{Names}
use Rattle.history.specs.Staged.{IsFound, IsStaged, HasFittingValues}
use Rattle.history.specs.Viewing.{shape_of, first_infinite, first_over, too_many, size_fault, view_fault, cell_fault}
use Rattle.history.proofs.ActFits.{IsActIn, IsAskedIn, act_of-in}
use Rattle.history.proofs.Asking.{IsAskedBy, named_by, changes_by, without_by, values_by, factors_by}
use Rattle.history.proofs.Commits.{all_filter}
use Rattle.history.proofs.StepsKnown.{legal_take, IsActKnown, act_of-known}
use Rattle.history.proofs.StepsStaged.{IsWholeView, IsActWhole, act_of-whole}
use Rattle.history.proofs.Transactions.{all_with}
use Rattle.state_laws.specs.Outline.{outline, outlined_event}
use Rattle.transcript_laws.specs.Transcript.{mount, ScriptLine, lines_of_scripts, Told, AreToldOf}
use Rattle.transcript_laws.specs.Numbers.{opened_in, done_in, failed_in, damaged_in, told_of}
use Rattle.transcript_laws.specs.Claimed.{opening_of, stated_by, stated_asked, faults_at, AreStated}
use Rattle.transcript_laws.specs.StatedCommits.{IsSoundOp, IsSoundKind, StatedCommitsAreSound}
use Rattle.transcript_laws.specs.Standings.{Standing, first_standing, act_at, read_told, left_told, standing_by, standing_asked, standing_step}
use Rattle.transcript_laws.specs.Takings.{takings, opened_view}
use Rattle.transcript_laws.specs.Unchecked.{is_unchecked}
use Rattle.transcript_laws.proofs.Checked.{IsCheckedLine, in_checked}
use Rattle.transcript_laws.proofs.KnownArrays.{IsViewOf, AreViewsOf, takings_known, opened_known, view_present, bound_views, opened_names}
use Rattle.transcript_laws.proofs.OneHistory.{AreEvents, events_front}
use Rattle.transcript_laws.proofs.Places.{AreUnresized, unresized_front}
use Rattle.transcript_laws.proofs.StatedEvents.{CommitsSo, AsksSo, asked_so, StateSo, events_so, stated_unresized}
use Rattle.transcript_laws.proofs.Valid.{IsViewAct, act_views}
use Rattle.transcript_laws.proofs.Views.{IsBuilding, IsViewLine, bytes_views, bytes_fit}

-- a view that a line reads or writes has few cells
zero_cells : (shape : List ℕ) → list_any (λ size. size == 0) shape ≡ true → cell_count shape ≡ 0
zero_cells [] is = absurd (cc)
zero_cells (size ∷ shape) is = by (size == 0) refl (zero_cells shape) is
  where
    by : (b : Bool) → (size == 0) ≡ b → (list_any (λ n. n == 0) shape ≡ true → cell_count shape ≡ 0) → (b || list_any (λ n. n == 0) shape) ≡ true → size * cell_count shape ≡ 0
    by true empty rest any = let none : 0 * cell_count shape ≡ 0 = omega arith in ap (λ n. n * cell_count shape) (eqb-true size 0 empty) ∙ none
    by false empty rest any = let none : size * 0 ≡ 0 = omega arith in ap (λ n. size * n) (rest any) ∙ none

few_from : (count dim : ℕ) (shape : List ℕ) → count ≤ 4194304 → first_over count dim shape ≡ None → count * cell_count shape ≤ 4194304
few_from count dim [] low none = let same : count * 1 ≡ count = omega arith in subst (λ n. n ≤ 4194304) (sym same) low
few_from count dim (size ∷ shape) low none = by (nat_le (count * size) 4194304) refl (few_from (count * size) (dim + 1) shape) none
  where
    by : (b : Bool) → nat_le (count * size) 4194304 ≡ b → (count * size ≤ 4194304 → first_over (count * size) (dim + 1) shape ≡ None → count * size * cell_count shape ≤ 4194304)
        → cond b (first_over (count * size) (dim + 1) shape) (Some dim) ≡ None → count * (size * cell_count shape) ≤ 4194304
    by true below rest fits = subst (λ n. n ≤ 4194304) (mul_assoc count size (cell_count shape)) (rest (leb-true (count * size) 4194304 below) fits)
    by false below rest fits = absurd (cc)

few_of : (shape : List ℕ) → too_many shape ≡ None → cell_count shape ≤ 4194304
few_of shape none = by (list_any (λ size. size == 0) shape) refl none
  where
    by : (b : Bool) → list_any (λ size. size == 0) shape ≡ b → cond b None (first_over 1 0 shape) ≡ None → cell_count shape ≤ 4194304
    by true any fits = let same = zero_cells shape any in omega (arith, same)
    by false any fits = let low = few_from 1 0 shape (omega arith) fits in omega (arith, low)

sizes_few : (a b : Option ℕ) → size_fault a b ≡ None → b ≡ None
sizes_few (Some dim) b none = absurd (cc)
sizes_few None (Some dim) none = absurd (cc)
sizes_few None None none = refl

-- at most 2 ^ 22
abbrev IsFew : View → Type 0
IsFew view = length (cells_of (look_of view).dims) ≤ 4194304

few_cells : (view : View) → view_fault view ≡ None → IsFew view
few_cells view none =
    subst (λ n. n ≤ 4194304) (sym (length-cells_of (look_of view).dims)) (few_of (shape_of view) (sizes_few (first_infinite 0 (look_of view).dims) (too_many (shape_of view)) none))

abbrev IsFewAct : Act → Type 0
IsFewAct (opens name leaves build) = Unit {0}
IsFewAct (binds name view) = Unit {0}
IsFewAct (reads view down) = IsFew view
IsFewAct (stages t view words) = IsFew view
IsFewAct (writes view words) = IsFew view
IsFewAct (begins mode) = Unit {0}
IsFewAct (commits t) = Unit {0}
IsFewAct aborts = Unit {0}
IsFewAct (resizes array shape) = Unit {0}
IsFewAct (resolves name view array) = Unit {0}

write_few : (t : Option Transaction) (view : View) (words : List ℕ) → IsFew view → IsFewAct (write_act t view words)
write_few None view words few = few
write_few (Some t) view words few = few

outside_few : (t : Option Transaction) (asked : Asked) → IsAskedBy IsFewAct asked → IsAskedBy IsFewAct (outside t asked)
outside_few None asked few = few
outside_few (Some t) asked few = tt

inside_few : (t : Option Transaction) (act : Transaction → Act) → ((u : Transaction) → IsFewAct (act u)) → IsAskedBy IsFewAct (inside t act)
inside_few None act few = tt
inside_few (Some t) act few = few t

act_few : (names : Names) (t : Option Transaction) (line : Line) → IsCheckedLine line → IsAskedBy IsFewAct (act_of names t line)
act_few names t (refused error) checked = tt
act_few names t (opening name leaves build) checked = outside_few t (Ok (opens name leaves build)) tt
act_few names t (viewing name of changes) checked = named_by IsFewAct of (names of) _ (λ v there. changes_by IsFewAct (changed (Ok v) changes) _ (λ made of_these. tt))
act_few names t (joining name of join changes) checked = absurd checked
act_few names t (reading name changes down) checked =
    named_by IsFewAct name (names name) _
    (λ v there. changes_by IsFewAct (changed (Ok v) changes) (read_of down)
    (λ w of_these. factors_by IsFewAct down w _ (without_by IsFewAct (view_fault w) _ (λ fits. without_by IsFewAct (cell_fault w) (Ok (reads w down)) (λ found. few_cells w fits)))))
act_few names t (writing name changes values) checked =
    named_by IsFewAct name (names name) _
    (λ v there. changes_by IsFewAct (changed (Ok v) changes) (write_of t values)
    (λ w of_these. without_by IsFewAct (view_fault w) _ (λ fits. values_by IsFewAct (values (look_of w).dtype (shape_of w)) _ (λ words given. without_by IsFewAct (cell_fault w) (Ok (write_act t w words)) (λ found. write_few t w words (few_cells w fits))))))
act_few names t (beginning mode) checked = outside_few t (Ok (begins mode)) tt
act_few names t committing checked = inside_few t commits (λ u. tt)
act_few names t aborting checked = inside_few t (λ u. aborts) (λ u. tt)
act_few names t (resizing name shape) checked = absurd checked
act_few names t (resolving name) checked = absurd checked

-- what lines of checked scripts ask for
pub record IsGoodLine (line : Line) : Type 0 where
  pub checked : IsCheckedLine line
  pub views : IsViewLine line
  pub within : IsLineWithin line
  pub fits : HasFittingValues line

good_bytes : (line : ScriptLine) → is_unchecked line ≡ false → IsGoodLine (line_of_bytes (mount ∷ []) line.bytes)
good_bytes line is = record {
  checked = in_checked (command_of_line (mount ∷ []) line.bytes) is;
  views = bytes_views line.bytes;
  within = (bytes_of_mount mount line.bytes).1;
  fits = bytes_fit line.bytes;
}

abbrev pub AreGoodLines : List Told → Type 0
AreGoodLines told = AllByRecursion (λ (t : Told). IsGoodLine t.asked) told

pub good_lines : (lines : List ScriptLine) (told : List Told) → AreToldOf lines told → AllByRecursion (λ line. is_unchecked line ≡ false) lines → AreGoodLines told
good_lines [] [] are checked = tt
good_lines [] (t ∷ told) are checked = absurd are
good_lines (line ∷ lines) [] are checked = absurd are
good_lines (line ∷ lines) (t ∷ told) are checked = (subst IsGoodLine (sym are.0.asked) (good_bytes line checked.0), good_lines lines told are.1 checked.1)

module _ (history : History) where
  abbrev pub AreSoundOps : Option Transaction → Type 0
  AreSoundOps None = Unit {0}
  AreSoundOps (Some t) = AllByRecursion (IsSoundOp history) t.ops

  -- a session's names are bound to views of arrays of the history, and its transaction's operations are sound
  pub record IsSoundStanding (s : Standing) : Type 0 where
    pub bound : AreViewsOf history s.names
    pub staged : AreSoundOps s.transaction

  -- so are those of an act
  abbrev pub IsSoundAct : Act → Type 0
  IsSoundAct (opens name leaves build) = IsBuilding build × IsBuildWithin build
  IsSoundAct (binds name view) = IsViewOf history view
  IsSoundAct (reads view down) = (words : List ℕ) → IsSoundOp history (Read view words)
  IsSoundAct (stages t view words) = AllByRecursion (IsSoundOp history) t.ops × IsSoundOp history (Write view words)
  IsSoundAct (writes view words) = IsSoundOp history (Write view words)
  IsSoundAct (begins mode) = Unit {0}
  IsSoundAct (commits t) = AllByRecursion (IsSoundOp history) t.ops
  IsSoundAct aborts = Unit {0}
  IsSoundAct (resizes array shape) = Unit {0}
  IsSoundAct (resolves name view array) = Unit {0}

  -- what such an act commits
  kept_sound : (t : Transaction) → AllByRecursion (IsSoundOp history) t.ops → AllByRecursion (IsSoundOp history) (kept_ops t)
  kept_sound t all = by t.mode.repeatable_read
    where
      by : (b : Bool) → AllByRecursion (IsSoundOp history) (cond b t.ops (filter is_write t.ops))
      by true = all
      by false = all_filter (IsSoundOp history) is_write t.ops all

  commits_sound : (line : ℕ) (act : Act) → IsSoundAct act → CommitsSo (IsSoundKind history) line act
  commits_sound line (opens name leaves build) sound = tt
  commits_sound line (binds name view) sound = tt
  commits_sound line (reads view down) sound = tt
  commits_sound line (stages t view words) sound = tt
  commits_sound line (writes view words) sound = (refl, (sound, tt))
  commits_sound line (begins mode) sound = tt
  commits_sound line (commits t) sound = (refl, kept_sound t sound)
  commits_sound line aborts sound = tt
  commits_sound line (resizes array shape) sound = tt
  commits_sound line (resolves name view array) sound = tt

  asks_sound : (line : ℕ) (asked : Asked) → IsAskedBy IsSoundAct asked → AsksSo (IsSoundKind history) line asked
  asks_sound line (Ok act) sound = commits_sound line act sound
  asks_sound line (Err refusal) sound = tt

  -- the transaction behind a read and behind a commit
  pub with_read_sound : (t : Option Transaction) (view : View) (words : List ℕ) → IsSoundOp history (Read view words) → AreSoundOps t → AreSoundOps (with_read t view words [])
  with_read_sound None view words one all = tt
  with_read_sound (Some t) view words one all = by t.mode.repeatable_read
    where
      by : (b : Bool) → AreSoundOps (Some (cond b (record t { ops = t.ops ++ Read view words ∷ []; marks = [] }) t))
      by true = all_with (IsSoundOp history) t.ops (Read view words ∷ []) all (one, tt)
      by false = all

  pub read_sound : (t : Option Transaction) (view : View) (values : Option Data) → ((words : List ℕ) → IsSoundOp history (Read view words)) → AreSoundOps t → AreSoundOps (read_told t view values)
  read_sound t view None one all = all
  read_sound t view (Some values) one all = with_read_sound t view _ (one _) all

  pub left_sound : (t : Transaction) (done failed : List ℕ) (damaged : Bool) → AllByRecursion (IsSoundOp history) t.ops → AreSoundOps (left_told t done failed damaged)
  left_sound t [] [] true all = all
  left_sound t [] [] false all = tt
  left_sound t [] (n ∷ failed) damaged all = all
  left_sound t (m ∷ done) failed damaged all = tt

  module _ (legal : IsLegal finmap.empty (outline history)) where
    -- the session behind an act
    pub act_leaves : (s : Standing) (owner line : ℕ) (act : Act) (answer : Data) → AreEvents history (stated_by history owner line act answer) → IsSoundAct act → IsSoundStanding s → IsSoundStanding (standing_by history s line act answer)
    act_leaves s owner line (opens name leaves build) answer are sound so =
        let ts = takings history leaves (opened_in answer) in
        let known = takings_known history legal owner ts (events_front history (filter_map (opening_of history owner) ts) (faults_at owner (failed_in answer)) are) in
        record {
          bound = opened_names history s.names name (get (codes "open") answer) (opened_view history ts build) so.bound (λ view there. opened_known history legal build sound.0 sound.1 view ts known there);
          staged = so.staged;
        }
    act_leaves s owner line (binds name view) answer are sound so = record { bound = bound_views history s.names name view so.bound sound; staged = so.staged }
    act_leaves s owner line (reads view down) answer are sound so = record { bound = so.bound; staged = read_sound s.transaction view (get (codes "values") answer) sound so.staged }
    act_leaves s owner line (stages t view words) answer are sound so = record { bound = so.bound; staged = all_with (IsSoundOp history) t.ops (Write view words ∷ []) sound.0 (sound.1, tt) }
    act_leaves s owner line (writes view words) answer are sound so = so
    act_leaves s owner line (begins mode) answer are sound so = record { bound = so.bound; staged = tt }
    act_leaves s owner line (commits t) answer are sound so = record { bound = so.bound; staged = left_sound t (done_in answer) (failed_in answer) (damaged_in answer) sound }
    act_leaves s owner line aborts answer are sound so = record { bound = so.bound; staged = tt }
    act_leaves s owner line (resizes array shape) answer are sound so = so
    act_leaves s owner line (resolves name view array) answer are sound so = so

    asked_leaves : (s : Standing) (owner line : ℕ) (asked : Asked) (answer : Data) → AreEvents history (stated_asked history owner line asked answer) → IsAskedBy IsSoundAct asked → IsSoundStanding s → IsSoundStanding (standing_asked history s line asked answer)
    asked_leaves s owner line (Ok act) answer are sound so = act_leaves s owner line act answer are sound so
    asked_leaves s owner line (Err refusal) answer are sound so = so

    module _ (still : AreUnresized history) where
      write_sound : (view : View) (words : List ℕ) → IsViewOf history view → IsFew view → IsStaged (Write view words) → IsSoundOp history (Write view words)
      write_sound view words is few staged = record {
        view = is.0;
        finite = staged.finite;
        few = few;
        refs = is.1;
        targets = view_present history legal still view is.1 staged.targets;
        count = staged.count;
        words = staged.words;
      }

      shown_sound : (view : View) (words : List ℕ) → IsViewOf history view → IsFew view → IsWholeView view → IsSoundOp history (Read view words)
      shown_sound view words is few whole = record { view = is.0; finite = whole.finite; few = few; refs = is.1; targets = view_present history legal still view is.1 whole.targets; count = tt; words = tt }

      -- what a line does for a sound session
      act_sound : (t : Option Transaction) (act : Act) → IsViewAct act → IsActKnown history act → IsActWhole act → IsFewAct act → IsActIn t act → AreSoundOps t → IsSoundAct act
      act_sound t (opens name leaves build) views known whole few stands all = (views, known)
      act_sound t (binds name view) views known whole few stands all = (views, known)
      act_sound t (reads view down) views known whole few stands all = λ words. shown_sound view words (views, known) few whole
      act_sound t (stages u view words) views known whole few stands all = (subst AreSoundOps stands all, write_sound view words (views, known) few whole)
      act_sound t (writes view words) views known whole few stands all = write_sound view words (views, known) few whole
      act_sound t (begins mode) views known whole few stands all = tt
      act_sound t (commits u) views known whole few stands all = subst AreSoundOps stands all
      act_sound t aborts views known whole few stands all = tt
      act_sound t (resizes array shape) views known whole few stands all = tt
      act_sound t (resolves name view array) views known whole few stands all = tt

      asked_sound : (t : Option Transaction) (asked : Asked) → IsAskedBy IsViewAct asked → IsAskedBy (IsActKnown history) asked → IsAskedBy IsActWhole asked → IsAskedBy IsFewAct asked → IsAskedIn t asked → AreSoundOps t → IsAskedBy IsSoundAct asked
      asked_sound t (Ok act) views known whole few stands all = act_sound t act views known whole few stands all
      asked_sound t (Err refusal) views known whole few stands all = tt

      pub line_sound : (s : Standing) (line : Line) → IsGoodLine line → IsSoundStanding s → IsAskedBy IsSoundAct (act_of s.names s.transaction line)
      line_sound s line good so =
          asked_sound s.transaction (act_of s.names s.transaction line) (act_views s.names s.transaction line (λ name view there. (so.bound name view there).0) good.checked good.views)
          (act_of-known history s.names s.transaction line (λ name view there. (so.bound name view there).1) good.within) (act_of-whole s.names s.transaction line good.fits) (act_few s.names s.transaction line good.checked)
          (act_of-in s.names s.transaction line) so.staged

      -- all that a session's lines state
      lines_sound : (told : List Told) (s : Standing) → AreGoodLines told → AreStated history s told → IsSoundStanding s → StateSo (IsSoundKind history) history s told
      lines_sound [] s good are so = tt
      lines_sound (t ∷ told) s good are so =
          let acts = line_sound s t.asked good.0 so in (
            asked_so (IsSoundKind history) (λ info. tt) (λ at. tt) history t.session t.number (act_at s t) t.answer (asks_sound t.number (act_at s t) acts),
            lines_sound told (standing_step history s t) good.1 are.1 (asked_leaves s t.session t.number (act_at s t) t.answer are.0.events acts so),
          )

pub stated_commits_are_sound : StatedCommitsAreSound
stated_commits_are_sound scripts told history are checked numbered states count legal =
    let still = stated_unresized told history numbered states count in
    let good = good_lines (lines_of_scripts 0 scripts) told are checked in
    events_so (IsSoundKind history) history told numbered states count
    (λ session.
    lines_sound history legal still (told_of session told) first_standing (all_filter (λ (t : Told). IsGoodLine t.asked) (λ (t : Told). t.session == session) told good) (states session)
    (record { bound = λ name view there. absurd (cc); staged = tt }))

pub found_of : (history : History) (ts : List (Result Target TargetError)) → AllByRecursion (HasTarget history) ts → AllByRecursion IsFound ts
found_of history [] all = tt
found_of history (Ok t ∷ ts) all = (tt, found_of history ts all.1)
found_of history (Err e ∷ ts) all = absurd all.0

-- a sound operation may follow the first events where its arrays are known behind these, and there is one word for each cell
pub sound_follows : (history : History) (n : ℕ) (op : Op) → IsLegal finmap.empty (outline history) → AreUnresized history → IsSoundOp history op → HasKnownRefs (take n history) (viewed op) → length (words_of op) ≡ length (targets_of (viewed op)) → IsLegalOp (take n history) op
sound_follows history n op legal still sound refs count =
    let front : IsLegal finmap.empty (outline (take n history)) = subst (IsLegal finmap.empty) (take-map outlined_event n history) (legal_take finmap.empty (outline history) n legal) in
    let kept : AreUnresized (take n history) = unresized_front (take n history) (drop n history) (subst AreUnresized (sym (take-append-drop n history)) still) in
    record { finite = sound.finite; targets = view_present (take n history) front kept (viewed op) refs (found_of history (targets_of (viewed op)) sound.targets); count = count; words = sound.words }
