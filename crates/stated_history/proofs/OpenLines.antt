-- Open lines alone open.
use Rattle.std.proofs.Common.{◌≡◌, ◌≢◌, List, ℕ, length, Option, Some, None, Ok, refl, subst}
use Rattle.std.specs.Prelude.{◌==◌}
use Rattle.stack_driver.specs.Renewed.{array_of}
use Rattle.stack_driver.specs.Views.{look_of}
use Rattle.history.specs.Acts.{Act, Asked, opens, binds, reads, stages, writes, begins, commits, aborts, resizes, resolves, act_of, changed, write_act, read_of, write_of, outside, on_stored}
use Rattle.history.specs.Answers.{Text}
use Rattle.history.specs.Commit.{Transaction}
use Rattle.history.specs.Lines.{Line, SpecLeaf, Build, refused, opening, viewing, joining, reading, writing, beginning, committing, aborting, resizing, resolving}
use Rattle.history.specs.Sessions.{Names}
use Rattle.history.specs.Viewing.{shape_of, view_fault, cell_fault}
use Rattle.history.proofs.Asking.{IsAskedBy, named_by, changes_by, without_by, values_by, factors_by, join_by, all_named_by, leaf_by, cond_by}
use Rattle.stated_acts.specs.Outlined.{leaves_at}
use Rattle.stated_acts.specs.Stances.{stance_of}

-- the act opens nothing
abbrev IsNoOpen : Act → Type 0
IsNoOpen (opens name leaves build) = ⊥
IsNoOpen (binds name view) = Unit {0}
IsNoOpen (reads view down) = Unit {0}
IsNoOpen (stages t view words) = Unit {0}
IsNoOpen (writes view words) = Unit {0}
IsNoOpen (begins mode) = Unit {0}
IsNoOpen (commits t) = Unit {0}
IsNoOpen aborts = Unit {0}
IsNoOpen (resizes array shape) = Unit {0}
IsNoOpen (resolves name view array) = Unit {0}

outside_none : (t : Option Transaction) (a : Asked) → IsAskedBy IsNoOpen a → IsAskedBy IsNoOpen (outside t a)
outside_none None a is = is
outside_none (Some t) a is = tt

stored_none : (array : _) (shape : List ℕ) → IsAskedBy IsNoOpen (on_stored array shape)
stored_none array shape = cond_by IsNoOpen array.local _ _ tt (cond_by IsNoOpen (length shape == length array.shape) _ _ tt tt)

write_none : (t : Option Transaction) (v : _) (words : List ℕ) → IsNoOpen (write_act t v words)
write_none None v words = tt
write_none (Some t) v words = tt

-- nor do other lines than open ones
none_opened : (names : Names) (t : Option Transaction) (line : Line) → ((name : Text) (leaves : List SpecLeaf) (build : Build) → line ≢ opening name leaves build) → IsAskedBy IsNoOpen (act_of names t line)
none_opened names t (opening name leaves build) other = absurd (other name leaves build refl)
none_opened names t (refused error) other = tt
none_opened names t (viewing name of changes) other = named_by IsNoOpen of (names of) _ (λ v there. changes_by IsNoOpen (changed (Ok v) changes) _ (λ made of_these. tt))
none_opened names t (joining name of join changes) other =
    all_named_by IsNoOpen (λ v. Unit {0}) names (λ name v there. tt) of _ (λ views all. join_by IsNoOpen (join views) _ (λ v joined. changes_by IsNoOpen (changed (Ok v) changes) _ (λ made of_these. tt)))
none_opened names t (reading name changes down) other =
    named_by IsNoOpen name (names name) _
    (λ v there. changes_by IsNoOpen (changed (Ok v) changes) (read_of down)
    (λ w of_these. factors_by IsNoOpen down w _ (without_by IsNoOpen (view_fault w) _ (λ fits. without_by IsNoOpen (cell_fault w) _ (λ found. tt)))))
none_opened names t (writing name changes values) other =
    named_by IsNoOpen name (names name) _
    (λ v there. changes_by IsNoOpen (changed (Ok v) changes) (write_of t values)
    (λ w of_these. without_by IsNoOpen (view_fault w) _ (λ fits. values_by IsNoOpen (values (look_of w).dtype (shape_of w)) _ (λ words given. without_by IsNoOpen (cell_fault w) _ (λ found. write_none t w words)))))
none_opened names None (beginning mode) other = tt
none_opened names (Some t) (beginning mode) other = tt
none_opened names None committing other = tt
none_opened names (Some t) committing other = tt
none_opened names None aborting other = tt
none_opened names (Some t) aborting other = tt
none_opened names t (resizing name shape) other = outside_none t _ (named_by IsNoOpen name (names name) _ (λ v there. leaf_by IsNoOpen (array_of v) _ (λ array of_it. stored_none array shape)))
none_opened names t (resolving name) other = outside_none t _ (named_by IsNoOpen name (names name) _ (λ v there. leaf_by IsNoOpen (array_of v) _ (λ array of_it. tt)))

-- the leaves of a line that opens
pub leaves_opened : (names : Names) (t : Option Transaction) (line : Line) (name : Text) (leaves : List SpecLeaf) (build : Build) → act_of names t line ≡ Ok (opens name leaves build) → leaves_at (stance_of t) line ≡ leaves
leaves_opened names t (opening own of made) name leaves build is = by t is
  where
    by : (t : Option Transaction) → outside t (Ok (opens own of made)) ≡ Ok (opens name leaves build) → leaves_at (stance_of t) (opening own of made) ≡ leaves
    by None is = cc
    by (Some t) is = absurd (cc)
leaves_opened names t (refused error) name leaves build is = absurd (subst (IsAskedBy IsNoOpen) is (none_opened names t (refused error) (λ a b c same. cc)))
leaves_opened names t (viewing own of changes) name leaves build is = absurd (subst (IsAskedBy IsNoOpen) is (none_opened names t (viewing own of changes) (λ a b c same. cc)))
leaves_opened names t (joining own of join changes) name leaves build is = absurd (subst (IsAskedBy IsNoOpen) is (none_opened names t (joining own of join changes) (λ a b c same. cc)))
leaves_opened names t (reading own changes down) name leaves build is = absurd (subst (IsAskedBy IsNoOpen) is (none_opened names t (reading own changes down) (λ a b c same. cc)))
leaves_opened names t (writing own changes values) name leaves build is = absurd (subst (IsAskedBy IsNoOpen) is (none_opened names t (writing own changes values) (λ a b c same. cc)))
leaves_opened names t (beginning mode) name leaves build is = absurd (subst (IsAskedBy IsNoOpen) is (none_opened names t (beginning mode) (λ a b c same. cc)))
leaves_opened names t committing name leaves build is = absurd (subst (IsAskedBy IsNoOpen) is (none_opened names t committing (λ a b c same. cc)))
leaves_opened names t aborting name leaves build is = absurd (subst (IsAskedBy IsNoOpen) is (none_opened names t aborting (λ a b c same. cc)))
leaves_opened names t (resizing own shape) name leaves build is = absurd (subst (IsAskedBy IsNoOpen) is (none_opened names t (resizing own shape) (λ a b c same. cc)))
leaves_opened names t (resolving own) name leaves build is = absurd (subst (IsAskedBy IsNoOpen) is (none_opened names t (resolving own) (λ a b c same. cc)))
