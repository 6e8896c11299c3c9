-- What refuses a resize.
use Rattle.std.proofs.Common.{◌≡◌, ◌∙◌, ℕ, true, false, cond, List, length, ◌==◌, Option, Some, None, Result, Ok, Err, inr, refl, ap, subst, arith}
use Rattle.std.specs.FinMap as finmap
use Rattle.std.proofs.lemmas.Bool.Decides.{nat_tests}
use Rattle.std.specs.Prelude.{IfOk}
use mathlib.Core.List.{IsPrefix}
use Rattle.session_turns.specs.declared.Body.TheVariants as body
use Rattle.cells.specs.Shapes.{IsShape}
use Rattle.history.specs.Acts.{resizes, named, outside, on_leaf, on_stored, act_of}
use Rattle.history.specs.Answers as old
use Rattle.history.specs.Answers.{Text}
use Rattle.history.specs.Bound.{AreKnownNames}
use Rattle.history.specs.History.{History}
use Rattle.history.specs.Legal.{IsLegal}
use Rattle.history.specs.Lines.{resizing}
use Rattle.history.specs.Sessions.{Names}
use Rattle.history.proofs.Laws.{array_known}
use Rattle.session_turns.proofs.Laws.{asked_then, view_then}
use Rattle.session_turns.specs.Standing.{transaction_in}
use Rattle.session_turns.specs.Told.{IsAnswerTo}
use Rattle.stack_driver.specs.References.{Reference}
use Rattle.stack_driver.specs.Renewed.{array_of}
use Rattle.stack_driver.specs.declared.view.View.{View}
use Rattle.session_turns.specs.Outline.{outline}
use Rattle.session_turns.specs.ResizeConditions.{IsAsked}
use Rattle.session_turns.specs.Txn.{TxnSeen}
use Rattle.transform_composition.specs.declared.error.ComposeError.TheVariants as compose

-- the view is no leaf
pub no_leaf : (view : View) (shape : List ℕ) → array_of view ≡ None → IsAnswerTo (on_leaf (array_of view) (λ r. on_stored r shape)) body.NotArray
no_leaf view shape is = inr (old.not_array, ap (λ o. on_leaf o (λ r. on_stored r shape)) is, refl)

-- the run holds its array
pub no_store : (view : View) (r : Reference) (shape : List ℕ) → array_of view ≡ Some r → r.local ≡ true → IsAnswerTo (on_leaf (array_of view) (λ r. on_stored r shape)) body.NotArray
no_store view r shape is local =
    inr (
      old.not_array,
      ap (λ o. on_leaf o (λ r. on_stored r shape)) is
          ∙ ap (λ b. cond b (Err old.not_array) (cond (length shape == length r.shape) (Ok (resizes r shape)) (Err (old.refused_view compose.Rank)))) local,
      refl,
    )

-- the sizes are more or fewer than its dimensions
pub other_rank : (view : View) (r : Reference) (shape : List ℕ) → array_of view ≡ Some r → r.local ≡ false → (length shape == length r.shape) ≡ false → IsAnswerTo (on_leaf (array_of view) (λ r. on_stored r shape)) (body.RefusedView compose.Rank)
other_rank view r shape is local rank =
    inr (
      old.refused_view compose.Rank,
      ap (λ o. on_leaf o (λ r. on_stored r shape)) is
          ∙ ap (λ b. cond b (Err old.not_array) (cond (length shape == length r.shape) (Ok (resizes r shape)) (Err (old.refused_view compose.Rank)))) local
          ∙ ap (λ b. cond b (Ok (resizes r shape)) (Err (old.refused_view compose.Rank))) rank,
      refl,
    )

-- a stored array that may be asked to take the shape
pub stored_asked : {E : Type 0} (names : Names) (name : Text) (view : View) (shape : List ℕ) (answer : Result ℕ E) → names name ≡ Some view → IsShape shape
    → IfOk answer (λ n. (r : Reference) × (array_of view ≡ Some r) × (r.number ≡ n) × (r.local ≡ false) × (length shape ≡ length r.shape))
    → IfOk answer (λ n. (early events : History) → AreKnownNames early names → IsPrefix early events → IsLegal finmap.empty (outline events) → IsAsked events n shape)
stored_asked names name view shape (Err e) bound rules p = tt
stored_asked names name view shape (Ok n) bound rules p = λ early events known grown legal.
    let refs = view_then early events view grown (known name view bound) in
    subst (λ m. IsAsked events m shape) p.2 (asked_then events p.0 shape legal (array_known events view p.0 refs p.1) p.3 p.4 rules)

-- what the line asks then
pub stored_act : {E : Type 0} (names : Names) (t : Option TxnSeen) (name : Text) (view : View) (shape : List ℕ) (answer : Result ℕ E) → names name ≡ Some view → (transaction_in t ≡ None)
    → IfOk answer (λ n. (r : Reference) × (array_of view ≡ Some r) × (r.number ≡ n) × (r.local ≡ false) × (length shape ≡ length r.shape))
    → IfOk answer (λ n. (r : Reference) × (r.number ≡ n) × (act_of names (transaction_in t) (resizing name shape) ≡ Ok (resizes r shape)))
stored_act names t name view shape (Err e) bound none p = tt
stored_act names t name view shape (Ok n) bound none p =
    let r : Reference = p.0 in (
      r,
      p.2,
      ap (λ o. outside o (named name (names name) (λ view. on_leaf (array_of view) (λ array. on_stored array shape)))) none
          ∙ ap (λ o. named name o (λ view. on_leaf (array_of view) (λ array. on_stored array shape))) bound ∙ ap (λ o. on_leaf o (λ array. on_stored array shape)) p.1
          ∙ ap (λ b. cond b (Err old.not_array) (cond (length shape == length r.shape) (Ok (resizes r shape)) (Err (old.refused_view compose.Rank)))) p.3
          ∙ ap (λ b. cond b (Ok (resizes r shape)) (Err (old.refused_view compose.Rank))) (same_length shape r p.4),
    )
  where
    same_length : (shape : List ℕ) (r : Reference) → length shape ≡ length r.shape → (length shape == length r.shape) ≡ true
    same_length shape r e = grind (arith, nat_tests, e)
