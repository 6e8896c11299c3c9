-- What holds of whatever a line does.
use Rattle.std.proofs.Common.{◌≡◌, ℕ, List, [], ◌∷◌, length, Bool, true, false, cond, Option, Some, None, Result, Ok, Err, refl}
use Rattle.std.specs.Prelude.{◌==◌}
use Rattle.std.specs.List.{AllByRecursion}
use Rattle.stack_driver.specs.declared.ComposeError.TheVariants as compose
use Rattle.stack_driver.specs.References.{Reference}
use Rattle.stack_driver.specs.Views.{look_of}
use Rattle.stack_driver.specs.declared.view.View.{View}
use Rattle.history.specs.Acts.{Act, Asked, named, all_named, with_changes, with_join, without, with_values, with_factors, on_leaf}
use Rattle.history.specs.Answers.{Body, Text, JoinCause, refused_view}
use Rattle.history.specs.Lines.{ChangeError, Downsampling}
use Rattle.history.specs.Sessions.{Names}

-- of the act, where the line isn't refused
abbrev pub IsAskedBy : (Act → Type 0) → Asked → Type 0
IsAskedBy P (Ok act) = P act
IsAskedBy P (Err answer) = Unit {0}

module _ (P : Act → Type 0) where
  pub named_by : (name : Text) (o : Option View) (next : View → Asked) → ((v : View) → o ≡ Some v → IsAskedBy P (next v)) → IsAskedBy P (named name o next)
  named_by name None next fits = tt
  named_by name (Some v) next fits = fits v refl

  pub all_named_by : (Q : View → Type 0) (names : Names) → ((name : Text) (v : View) → names name ≡ Some v → Q v) → (of : List Text) (next : List View → Asked) → ((views : List View) → AllByRecursion Q views → IsAskedBy P (next views)) → IsAskedBy P (all_named names of next)
  all_named_by Q names each [] next fits = fits [] tt
  all_named_by Q names each (name ∷ more) next fits = named_by name (names name) _ (λ v there. all_named_by Q names each more (λ views. next (v ∷ views)) (λ views all. fits (v ∷ views) (each name v there, all)))

  pub join_by : (r : Result View JoinCause) (next : View → Asked) → ((v : View) → r ≡ Ok v → IsAskedBy P (next v)) → IsAskedBy P (with_join r next)
  join_by (Err cause) next fits = tt
  join_by (Ok v) next fits = fits v refl

  pub changes_by : (r : Result View ChangeError) (next : View → Asked) → ((v : View) → r ≡ Ok v → IsAskedBy P (next v)) → IsAskedBy P (with_changes r next)
  changes_by (Err e) next fits = tt
  changes_by (Ok v) next fits = fits v refl

  pub without_by : (fault : Option Body) (asked : Asked) → (fault ≡ None → IsAskedBy P asked) → IsAskedBy P (without fault asked)
  without_by None asked fits = fits refl
  without_by (Some f) asked fits = tt

  pub values_by : (r : Result (List ℕ) (List ℕ)) (next : List ℕ → Asked) → ((ws : List ℕ) → r ≡ Ok ws → IsAskedBy P (next ws)) → IsAskedBy P (with_values r next)
  values_by (Err path) next fits = tt
  values_by (Ok words) next fits = fits words refl

  pub leaf_by : (o : Option Reference) (next : Reference → Asked) → ((a : Reference) → o ≡ Some a → IsAskedBy P (next a)) → IsAskedBy P (on_leaf o next)
  leaf_by None next fits = tt
  leaf_by (Some a) next fits = fits a refl

  pub cond_by : (b : Bool) (x y : Asked) → IsAskedBy P x → IsAskedBy P y → IsAskedBy P (cond b x y)
  cond_by true x y p q = p
  cond_by false x y p q = q

  pub factors_by : (down : Option Downsampling) (view : View) (asked : Asked) → IsAskedBy P asked → IsAskedBy P (with_factors down view asked)
  factors_by None view asked fits = fits
  factors_by (Some d) view asked fits = cond_by (d.rank == length (look_of view).dims) asked (Err (refused_view compose.Rank)) fits tt
