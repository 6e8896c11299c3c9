-- What the forms of lines give is sound in what they do.
use Rattle.std.proofs.Common.{ℕ, ◌≤◌, List, length, Bool, true, false, cond, Option, Some, None, Ok, Err, arith}
use Rattle.std.specs.Prelude.{◌==◌}
use Rattle.stack_driver.specs.declared.ComposeError.TheVariants as compose
use Rattle.stack_driver.specs.References.{Reference}
use Rattle.stack_driver.specs.Renewed.{array_of}
use Rattle.stack_driver.specs.Views.{look_of}
use Rattle.stack_driver.specs.declared.view.View.{View}
use Rattle.history.specs.Acts.{Act, opens, reads, begins, commits, aborts, resizes, resolves, Asked, outside, inside, changed, write_act, on_stored, read_of, write_of, act_of}
use Rattle.history.specs.Alone.{IsLineSound, most_of}
use Rattle.history.specs.Answers as body
use Rattle.history.specs.Answers.{Body}
use Rattle.history.specs.Commit.{Transaction}
use Rattle.history.specs.Lines.{Line, refused, opening, viewing, joining, reading, writing, beginning, committing, aborting, resizing, resolving}
use Rattle.history.specs.Sessions.{Names}
use Rattle.history.specs.Staged.{HasFittingValues}
use Rattle.history.specs.Viewing.{shape_of, view_fault, cell_fault}
use Rattle.history.proofs.AloneTotal.{IsActSound, most_added}
use Rattle.history.proofs.Asking.{IsAskedBy, named_by, all_named_by, join_by, changes_by, without_by, values_by, leaf_by, factors_by}

-- a line's values fit, if it has some
pub fitting_line : (line : Line) → IsLineSound line → HasFittingValues line
fitting_line (refused error) sound = tt
fitting_line (opening name leaves build) sound = tt
fitting_line (viewing name of changes) sound = tt
fitting_line (joining name of join changes) sound = tt
fitting_line (reading name changes down) sound = tt
fitting_line (writing name changes values) sound = sound
fitting_line (beginning mode) sound = tt
fitting_line committing sound = tt
fitting_line aborting sound = tt
fitting_line (resizing name shape) sound = tt
fitting_line (resolving name) sound = tt

-- sound, and no more events than so many
abbrev pub IsSoundWithin : ℕ → Act → Type 0
IsSoundWithin n act = IsActSound act × (most_added act ≤ n)

module _ (n : ℕ) where
  outside_sound : (t : Option Transaction) (asked : Asked) → IsAskedBy (IsSoundWithin n) asked → IsAskedBy (IsSoundWithin n) (outside t asked)
  outside_sound None asked sound = sound
  outside_sound (Some t) asked sound = tt

  inside_sound : (t : Option Transaction) (act : Transaction → Act) → ((u : Transaction) → IsSoundWithin n (act u)) → IsAskedBy (IsSoundWithin n) (inside t act)
  inside_sound None act sound = tt
  inside_sound (Some t) act sound = sound t

write_sound : (t : Option Transaction) (view : View) (words : List ℕ) → IsSoundWithin 1 (write_act t view words)
write_sound None view words = (tt, omega arith)
write_sound (Some t) view words = (tt, omega arith)

stored_sound : (array : Reference) (shape : List ℕ) → IsActSound (resizes array shape) → IsAskedBy (IsSoundWithin 1) (on_stored array shape)
stored_sound array shape sound = told array.local (length shape == length array.shape)
  where
    told : (b c : Bool) → IsAskedBy (IsSoundWithin 1) (cond b (Err body.not_array) (cond c (Ok (resizes array shape)) (Err (body.refused_view compose.Rank))))
    told true c = tt
    told false true = (sound, omega arith)
    told false false = tt

-- what a line does is sound where the line is, and adds no more events than the line may
pub act_of-sound : (names : Names) (t : Option Transaction) (line : Line) → IsLineSound line → IsAskedBy (IsSoundWithin (most_of (Some line))) (act_of names t line)
act_of-sound names t (refused error) sound = tt
act_of-sound names t (opening name leaves build) sound = outside_sound (length leaves) t (Ok (opens name leaves build)) (sound, omega arith)
act_of-sound names t (viewing name of changes) sound = named_by (IsSoundWithin 1) of (names of) _ (λ v there. changes_by (IsSoundWithin 1) (changed (Ok v) changes) _ (λ made is. (tt, omega arith)))
act_of-sound names t (joining name of join changes) sound =
    all_named_by (IsSoundWithin 1) (λ v. Unit {0}) names (λ name v there. tt) of _ (λ views all. join_by (IsSoundWithin 1) (join views) _ (λ v joined. changes_by (IsSoundWithin 1) (changed (Ok v) changes) _ (λ made is. (tt, omega arith))))
act_of-sound names t (reading name changes down) sound =
    named_by (IsSoundWithin 1) name (names name) _
    (λ v there. changes_by (IsSoundWithin 1) (changed (Ok v) changes) (read_of down)
    (λ w is. factors_by (IsSoundWithin 1) down w _ (without_by (IsSoundWithin 1) (view_fault w) _ (λ fits. without_by (IsSoundWithin 1) (cell_fault w) (Ok (reads w down)) (λ found. (tt, omega arith))))))
act_of-sound names t (writing name changes values) sound =
    named_by (IsSoundWithin 1) name (names name) _
    (λ v there. changes_by (IsSoundWithin 1) (changed (Ok v) changes) (write_of t values)
    (λ w is. without_by (IsSoundWithin 1) (view_fault w) _ (λ fits. values_by (IsSoundWithin 1) (values (look_of w).dtype (shape_of w)) _ (λ words given. without_by (IsSoundWithin 1) (cell_fault w) (Ok (write_act t w words)) (λ found. write_sound t w words)))))
act_of-sound names t (beginning mode) sound = outside_sound 1 t (Ok (begins mode)) (tt, omega arith)
act_of-sound names t committing sound = inside_sound 1 t commits (λ u. (tt, omega arith))
act_of-sound names t aborting sound = inside_sound 1 t (λ u. aborts) (λ u. (tt, omega arith))
act_of-sound names t (resizing name shape) sound = outside_sound 1 t _ (named_by (IsSoundWithin 1) name (names name) _ (λ v there. leaf_by (IsSoundWithin 1) (array_of v) _ (λ array leaf. stored_sound array shape sound)))
act_of-sound names t (resolving name) sound = outside_sound 1 t _ (named_by (IsSoundWithin 1) name (names name) _ (λ v there. leaf_by (IsSoundWithin 1) (array_of v) (λ array. Ok (resolves name v array)) (λ array leaf. (tt, omega arith))))
