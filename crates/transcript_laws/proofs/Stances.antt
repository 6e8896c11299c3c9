-- Whether a transaction stands before a line, and which flags it has, doesn't depend on the history that is claimed.
use Rattle.std.proofs.Common.{◌≡◌, ℕ, List, [], ◌∷◌, Bool, true, false, Option, Some, None, Ok, Err, length, refl, sym, ap, ◌∙◌}
use Rattle.std.specs.Prelude.{◌==◌}
use Rattle.std.specs.List.{fold}
use Rattle.serde_json.specs.Data.{Data}
use Rattle.stack_driver.specs.References.{Reference}
use Rattle.stack_driver.specs.Renewed.{array_of}
use Rattle.stack_driver.specs.Views.{look_of}
use Rattle.stack_driver.specs.declared.view.View.{View}
use Rattle.history.specs.Acts.{Act, Asked, opens, reads, begins, outside, changed, write_act, on_stored, read_of, write_of, act_of}
use Rattle.history.specs.Commit.{Transaction}
use Rattle.history.specs.History.{History}
use Rattle.history.specs.Lines.{Line, refused, opening, viewing, joining, reading, writing, beginning, committing, aborting, resizing, resolving}
use Rattle.history.specs.ReadRows.{with_read}
use Rattle.history.specs.Shown.{after_read}
use Rattle.history.specs.Viewing.{shape_of, view_fault, cell_fault}
use Rattle.history.proofs.Asking.{IsAskedBy, named_by, all_named_by, join_by, changes_by, without_by, values_by, leaf_by, cond_by, factors_by}
use Rattle.transcript_laws.specs.Transcript.{Told}
use Rattle.transcript_laws.specs.Numbers.{done_in, failed_in, damaged_in}
use Rattle.transcript_laws.specs.Standings.{Standing, first_standing, standing, standing_step, standing_asked, standing_by, read_told, left_told}
use Rattle.transcript_laws.specs.Stances.{stance, stance_by, stance_of, stance_left, stance_begun}

module _ (history : History) (s : Standing) (line : ℕ) (answer : Data) where
  -- the act leaves the transaction's flags as they are
  abbrev Keeps : Act → Type 0
  Keeps act = stance_of (standing_by history s line act answer).transaction ≡ stance_of s.transaction

  read_kept : (t : Transaction) (v : View) (words : List ℕ) → (b : Bool) → t.mode.repeatable_read ≡ b → stance_of (Some (after_read t v words [])) ≡ stance_of (Some t)
  read_kept t v words true is = rw is refl
  read_kept t v words false is = rw is refl

  with_read_kept : (t : Option Transaction) (v : View) (words : List ℕ) → stance_of (with_read t v words []) ≡ stance_of t
  with_read_kept None v words = refl
  with_read_kept (Some t) v words = read_kept t v words t.mode.repeatable_read refl

  told_kept : (t : Option Transaction) (v : View) (values : Option Data) → stance_of (read_told t v values) ≡ stance_of t
  told_kept t v None = refl
  told_kept t v (Some values) = with_read_kept t v _

  write_kept : (t : Option Transaction) (v : View) (words : List ℕ) → t ≡ s.transaction → Keeps (write_act t v words)
  write_kept None v words is = refl
  write_kept (Some u) v words is = ap stance_of is

  stored_kept : (array : Reference) (shape : List ℕ) → IsAskedBy Keeps (on_stored array shape)
  stored_kept array shape = cond_by Keeps array.local _ _ tt (cond_by Keeps (length shape == length array.shape) _ _ refl tt)

  outside_kept : (t : Option Transaction) (asked : Asked) → IsAskedBy Keeps asked → IsAskedBy Keeps (outside t asked)
  outside_kept None asked fits = fits
  outside_kept (Some u) asked fits = tt

  asked_kept : (asked : Asked) → IsAskedBy Keeps asked → stance_of (standing_asked history s line asked answer).transaction ≡ stance_of s.transaction
  asked_kept (Ok act) fits = fits
  asked_kept (Err refusal) fits = refl

  commit_left : (t : Transaction) (done failed : List ℕ) (damaged : Bool) → stance_of (left_told t done failed damaged) ≡ stance_left done failed damaged (Some (record { line = t.line; mode = t.mode }))
  commit_left t [] [] true = refl
  commit_left t [] [] false = refl
  commit_left t [] (n ∷ failed) damaged = refl
  commit_left t (m ∷ done) failed damaged = refl

  begun : (mode : _) (t : Option Transaction) → t ≡ s.transaction → stance_of (standing_asked history s line (outside t (Ok (begins mode))) answer).transaction ≡ stance_begun line mode (stance_of t)
  begun mode None is = refl
  begun mode (Some u) is = ap stance_of (sym is)

  pub step_stance : (asked : Line) → stance_of (standing_asked history s line (act_of s.names s.transaction asked) answer).transaction ≡ stance_by line answer asked (stance_of s.transaction)
  step_stance (refused error) = refl
  step_stance (opening name leaves build) = asked_kept _ (outside_kept s.transaction (Ok (opens name leaves build)) refl)
  step_stance (viewing name of changes) = asked_kept _ (named_by Keeps of (s.names of) _ (λ v there. changes_by Keeps (changed (Ok v) changes) _ (λ made of_these. refl)))
  step_stance (joining name of join changes) =
      asked_kept _ (all_named_by Keeps (λ v. Unit {0}) s.names (λ name v there. tt) of _ (λ views all. join_by Keeps (join views) _ (λ v joined. changes_by Keeps (changed (Ok v) changes) _ (λ made of_these. refl))))
  step_stance (reading name changes down) =
      asked_kept _ (named_by Keeps name (s.names name) _
      (λ v there. changes_by Keeps (changed (Ok v) changes) (read_of down)
      (λ w of_these. factors_by Keeps down w _ (without_by Keeps (view_fault w) _ (λ fits. without_by Keeps (cell_fault w) (Ok (reads w down)) (λ found. told_kept s.transaction w _))))))
  step_stance (writing name changes values) =
      asked_kept _ (named_by Keeps name (s.names name) _
      (λ v there. changes_by Keeps (changed (Ok v) changes) (write_of s.transaction values)
      (λ w of_these. without_by Keeps (view_fault w) _ (λ fits. values_by Keeps (values (look_of w).dtype (shape_of w)) _ (λ words given. without_by Keeps (cell_fault w) (Ok (write_act s.transaction w words)) (λ found. write_kept s.transaction w words refl))))))
  step_stance (beginning mode) = begun mode s.transaction refl
  step_stance committing = committed s.transaction refl
    where
      committed : (t : Option Transaction) → t ≡ s.transaction → stance_of (standing_asked history s line (act_of s.names t committing) answer).transaction ≡ stance_left (done_in answer) (failed_in answer) (damaged_in answer) (stance_of t)
      committed None is = ap stance_of (sym is)
      committed (Some u) is = commit_left u (done_in answer) (failed_in answer) (damaged_in answer)
  step_stance aborting = aborted s.transaction refl
    where
      aborted : (t : Option Transaction) → t ≡ s.transaction → stance_of (standing_asked history s line (act_of s.names t aborting) answer).transaction ≡ None
      aborted None is = ap stance_of (sym is)
      aborted (Some u) is = refl
  step_stance (resizing name shape) =
      asked_kept _ (outside_kept s.transaction _ (named_by Keeps name (s.names name) _ (λ v there. leaf_by Keeps (array_of v) _ (λ array of_it. stored_kept array shape))))
  step_stance (resolving name) =
      asked_kept _ (outside_kept s.transaction _ (named_by Keeps name (s.names name) _ (λ v there. leaf_by Keeps (array_of v) _ (λ array of_it. refl))))

-- what stands behind lines, from a standing on
stance_along : (history : History) (told : List Told) (s : Standing) → stance_of (fold (standing_step history) s told).transaction ≡ fold (λ x (t : Told). stance_by t.number t.answer t.asked x) (stance_of s.transaction) told
stance_along history [] s = refl
stance_along history (t ∷ told) s =
    stance_along history told (standing_step history s t)
    ∙ ap (λ x. fold (λ y (u : Told). stance_by u.number u.answer u.asked y) x told) (step_stance history s t.number t.answer t.asked)

-- before each line the flags of the transaction, if one stands, are those of the lines and answers alone
pub standing_stance : (history : History) (told : List Told) → stance_of (standing history told).transaction ≡ stance told
standing_stance history told = stance_along history told first_standing
