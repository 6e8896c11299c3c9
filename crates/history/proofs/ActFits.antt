-- Which transaction an act stands in.
use Rattle.std.proofs.Common.{◌≡◌, ℕ, List, length, Option, Some, None, Ok, refl}
use Rattle.std.specs.Prelude.{◌==◌}
use Rattle.stack_driver.specs.References.{Reference}
use Rattle.stack_driver.specs.Renewed.{array_of}
use Rattle.stack_driver.specs.Views.{look_of}
use Rattle.stack_driver.specs.declared.view.View.{View}
use Rattle.history.specs.Acts.{Act, opens, binds, reads, stages, writes, begins, commits, aborts, resizes, resolves, Asked, outside, inside, changed, write_act, on_stored, read_of, write_of, act_of}
use Rattle.history.specs.Commit.{Transaction}
use Rattle.history.specs.Lines.{Line, refused, opening, viewing, joining, reading, writing, beginning, committing, aborting, resizing, resolving}
use Rattle.history.specs.Sessions.{Names}
use Rattle.history.specs.Viewing.{shape_of, view_fault, cell_fault}
use Rattle.history.proofs.Asking.{IsAskedBy, named_by, all_named_by, join_by, changes_by, without_by, values_by, leaf_by, cond_by, factors_by}

-- the act is one of this transaction, or one outside of any
abbrev pub IsActIn : Option Transaction → Act → Type 0
IsActIn t (opens name leaves build) = t ≡ None
IsActIn t (binds name view) = Unit {0}
IsActIn t (reads view down) = Unit {0}
IsActIn t (stages u view words) = t ≡ Some u
IsActIn t (writes view words) = t ≡ None
IsActIn t (begins mode) = t ≡ None
IsActIn t (commits u) = t ≡ Some u
IsActIn t aborts = Unit {0}
IsActIn t (resizes array shape) = t ≡ None
IsActIn t (resolves name view array) = t ≡ None

abbrev pub IsAskedIn : Option Transaction → Asked → Type 0
IsAskedIn t = IsAskedBy (IsActIn t)

outside_in : (t : Option Transaction) (asked : Asked) → IsAskedIn None asked → IsAskedIn t (outside t asked)
outside_in None asked fits = fits
outside_in (Some u) asked fits = tt

inside_in : (t : Option Transaction) (act : Transaction → Act) → ((u : Transaction) → IsActIn (Some u) (act u)) → IsAskedIn t (inside t act)
inside_in None act fits = tt
inside_in (Some u) act fits = fits u

stored_in : (array : Reference) (shape : List ℕ) → IsAskedIn None (on_stored array shape)
stored_in array shape = cond_by (IsActIn None) array.local _ _ tt (cond_by (IsActIn None) (length shape == length array.shape) _ _ refl tt)

write_in : (t : Option Transaction) (v : View) (words : List ℕ) → IsActIn t (write_act t v words)
write_in None v words = refl
write_in (Some u) v words = refl

-- a line's act is one of the session's transaction, or one outside of any
pub act_of-in : (names : Names) (t : Option Transaction) (line : Line) → IsAskedIn t (act_of names t line)
act_of-in names t (refused error) = tt
act_of-in names t (opening name leaves build) = outside_in t (Ok (opens name leaves build)) refl
act_of-in names t (viewing name of changes) = named_by (IsActIn t) of (names of) _ (λ v there. changes_by (IsActIn t) (changed (Ok v) changes) _ (λ made of_these. tt))
act_of-in names t (joining name of join changes) =
    all_named_by (IsActIn t) (λ v. Unit {0}) names (λ name v there. tt) of _ (λ views all. join_by (IsActIn t) (join views) _ (λ v joined. changes_by (IsActIn t) (changed (Ok v) changes) _ (λ made of_these. tt)))
act_of-in names t (reading name changes down) =
    named_by (IsActIn t) name (names name) _
    (λ v there. changes_by (IsActIn t) (changed (Ok v) changes) (read_of down)
    (λ w of_these. factors_by (IsActIn t) down w _ (without_by (IsActIn t) (view_fault w) _ (λ fits. without_by (IsActIn t) (cell_fault w) (Ok (reads w down)) (λ found. tt)))))
act_of-in names t (writing name changes values) =
    named_by (IsActIn t) name (names name) _
    (λ v there. changes_by (IsActIn t) (changed (Ok v) changes) (write_of t values)
    (λ w of_these. without_by (IsActIn t) (view_fault w) _ (λ fits. values_by (IsActIn t) (values (look_of w).dtype (shape_of w)) _ (λ words given. without_by (IsActIn t) (cell_fault w) (Ok (write_act t w words)) (λ found. write_in t w words)))))
act_of-in names t (beginning mode) = outside_in t (Ok (begins mode)) refl
act_of-in names t committing = inside_in t commits (λ u. refl)
act_of-in names t aborting = inside_in t (λ u. aborts) (λ u. tt)
act_of-in names t (resizing name shape) = outside_in t _ (named_by (IsActIn None) name (names name) _ (λ v there. leaf_by (IsActIn None) (array_of v) _ (λ array leaf. stored_in array shape)))
act_of-in names t (resolving name) = outside_in t _ (named_by (IsActIn None) name (names name) _ (λ v there. leaf_by (IsActIn None) (array_of v) (λ array. Ok (resolves name v array)) (λ array leaf. refl)))
