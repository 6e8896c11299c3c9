-- Rows of lines that take a view's bounds anew.
use Rattle.std.proofs.Common.{◌≡◌, ◌∙◌, ℕ, ◌≤◌, List, [], length, take, inl, inr, Option, Some, None, is_some, false, Ok, Err, refl, sym, ap, subst, arith, length-append}
use Rattle.std.proofs.Math.Seq.{take-length}
use Rattle.std.specs.FinMap as finmap
use mathlib.Core.List.{IsPrefix}
use Rattle.sessions.specs.declared.Body.{Body}
use Rattle.sessions.specs.declared.Body.TheVariants as body
use Rattle.history.specs.declared.event.Event.{Event}
use Rattle.history.specs.Acts.{outside, named, on_leaf, resolves, act_of}
use Rattle.history.specs.Answers as old
use Rattle.history.specs.Answers.{Text}
use Rattle.history.specs.Arrays.{Known, known_after}
use Rattle.history.specs.Commit.{Fixed, Transaction}
use Rattle.history.specs.Content.{present_shape}
use Rattle.history.specs.History.{History}
use Rattle.history.specs.Legal.{IsLegal}
use Rattle.history.specs.Lines.{resolving}
use Rattle.history.specs.Refs.{HasKnownRefs}
use Rattle.history.specs.ResizeRows.{shape_after}
use Rattle.history.specs.Sessions.{Names, SessionState}
use Rattle.history.specs.Steps.{IsAnswered, done_line, resolve_done, resolve_refused}
use Rattle.history.specs.Viewing.{resolved_body}
use Rattle.history.proofs.Laws.{array_known}
use Rattle.sessions.specs.AnswerBodies.{body_of}
use Rattle.session_openings.specs.Renewing.{IsBoundAnew, IsRenewed}
use Rattle.sessions.specs.Turns.{IsRested, IsTurn, HasPassed, added_by}
use Rattle.sessions.proofs.Laws.{IsThere, ref_there, new_shape, own_of_turn, passed_of_turn, view_then, told_wanting, kept_bound}
use Rattle.sessions.specs.Standing.{session_state, transaction_in}
use Rattle.sessions.specs.Told.{IsTold, IsAnswerTo, IsBoundAs}
use Rattle.stack_driver.specs.Conditions.{IsView}
use Rattle.stack_driver.specs.References.{Reference, IsReference}
use Rattle.stack_driver.specs.Renewed.{array_of, renewed, IsNewShape}
use Rattle.stack_driver.specs.declared.view.View.{View}
use Rattle.sessions.specs.Agreement.{Opening}
use Rattle.sessions.specs.Fetches.{bounds_in}
use Rattle.sessions.specs.declared.Bounds.{Bounds}
use Rattle.sessions.specs.Outline.{outline}
use Rattle.sessions.specs.Txn.{TxnSeen}
use Rattle.turn_book.specs.Passes.{BookView, PassView}

-- what a turn has seen reaches as far as what was seen before
pub rises : (book : BookView Opening) (pass new : PassView Event Opening) → IsTurn book pass new new.seen [] → length pass.seen ≤ length new.seen
rises book pass new turn = let sum = length-append pass.seen turn.grown.0 in let whole = ap length turn.grown.1 in omega (arith, sum, whole)

module _ (fixed : Fixed) (owner : ℕ) (events : History) (names : Names) (seen : ℕ) (t : Option Transaction) (line : ℕ) (name : Text) (view : View) (r : Reference) (low : seen ≤ length events) where
  abbrev state : SessionState
  state = record { names = names; seen = seen; transaction = t }

  abbrev Told : Names → Body → Type 0
  Told later answer = IsTold fixed owner events state line (resolving name) later t answer []

  shape_is : shape_after (take (length events) events) r.number ≡ shape_after events r.number
  shape_is = ap (λ h. shape_after h r.number) (take-length events)

  module _ (act : act_of names t (resolving name) ≡ Ok (resolves name view r)) where
    bound : (made : View) (later : Names) (answer : Body) → renewed (shape_after events r.number) view ≡ Ok made → IsBoundAs (body_of (resolved_body name made)) names name made later answer → Told later answer
    bound made later answer renewal (inl done) = record {
      body = resolved_body name made;
      printed = done.0;
      row =
          subst (λ a. IsAnswered fixed owner events state line a later t (resolved_body name made) []) (sym act)
          (subst (λ ns. IsAnswered fixed owner events state line (Ok (resolves name view r)) ns t (resolved_body name made) []) (sym done.1)
          (done_line (resolve_done (length events) low (omega arith) (ap (λ s. renewed s view) shape_is ∙ renewal))));
    }
    bound made later answer renewal (inr wants) =
        subst (λ ns. Told ns answer) (sym wants.1) (told_wanting fixed owner events state line (resolving name) answer wants.0)

    -- each answer is that of a row
    pub told_renewed : (later : Names) (answer : Body) → IsRenewed (shape_after events r.number) name view names later answer → Told later answer
    told_renewed later answer (inl anew) = bound anew.made later answer anew.renewal anew.bound
    told_renewed later answer (inr (inl refused)) =
        subst (λ ns. Told ns answer) (sym refused.same)
        (record {
          body = old.refused_view refused.cause;
          printed = refused.told;
          row =
              subst (λ a. IsAnswered fixed owner events state line a names t (old.refused_view refused.cause) []) (sym act)
              (done_line (resolve_refused (length events) low (omega arith) (ap (λ s. renewed s view) shape_is ∙ refused.renewal)));
        })
    told_renewed later answer (inr (inr wants)) =
        subst (λ ns. Told ns answer) (sym wants.1) (told_wanting fixed owner events state line (resolving name) answer wants.0)

-- what every name's view keeps, names keep behind it
pub renewed_keeps : (P : View → Type 0) (shape : List ℕ) (name : Text) (view : View) (names later : Names) (answer : Body) → IsRenewed shape name view names later answer → ((made : View) → renewed shape view ≡ Ok made → IsView made → P made)
    → ((other : Text) (v : View) → names other ≡ Some v → P v) → (other : Text) (v : View) → later other ≡ Some v → P v
renewed_keeps P shape name view names later answer (inl anew) each all other v is = kept_bound P _ answer names later name anew.made anew.bound (each anew.made anew.renewal anew.rules) all other v is
renewed_keeps P shape name view names later answer (inr (inl refused)) each all other v is = all other v (sym (ap (λ f. f other) refused.same) ∙ is)
renewed_keeps P shape name view names later answer (inr (inr wants)) each all other v is = all other v (sym (ap (λ f. f other) wants.1) ∙ is)

-- the array of a view is there in each later history
pub there_later : (early events : History) (view : View) (r : Reference) → HasKnownRefs early view → array_of view ≡ Some r → IsPrefix early events → IsLegal finmap.empty (outline events) → IsThere events r
there_later early events view r refs leaf grown legal = ref_there events r legal (array_known events view r (view_then early events view grown refs) leaf)

-- its present shape is one that the view may take
pub takes_shape : (events : History) (r : Reference) → IsReference r → IsThere events r → IsNewShape r (shape_after events r.number)
takes_shape events r rules there = subst (IsNewShape r) (sym (ap present_shape there.known)) (new_shape events r rules there)

-- what a turn told of the array's bounds is its present shape
pub shape_told : (events : History) (r : Reference) (n : ℕ) (b : Bounds) → IsThere events r → n ≡ r.number → ((k : Known) → known_after events n ≡ Some k → b ≡ bounds_in events n k) → shape_after events r.number ≡ b.shape
shape_told events r n b there same told = ap present_shape there.known ∙ sym (ap (λ (x : Bounds). x.shape) (told there.array (ap (known_after events) same ∙ there.known)))

-- one array is another where a view is of both
pub same_array : (view : View) (r other : Reference) → array_of view ≡ Some r → array_of view ≡ Some other → r ≡ other
same_array view r other is also = let both : Some r ≡ Some other = sym is ∙ also in cc

pub no_transaction : (t : Option TxnSeen) → is_some t ≡ false → transaction_in t ≡ None
no_transaction None e = refl
no_transaction (Some t) e = absurd (let no_such : ⊥ = cc in no_such)

-- a view of an array, outside of a transaction
pub asked_act : (names : Names) (t : Option Transaction) (name : Text) (view : View) (r : Reference) → t ≡ None → names name ≡ Some view → array_of view ≡ Some r → act_of names t (resolving name) ≡ Ok (resolves name view r)
asked_act names t name view r none bound is =
    ap (λ o. outside o (named name (names name) (λ view. on_leaf (array_of view) (λ array. Ok (resolves name view array))))) none
    ∙ ap (λ o. named name o (λ view. on_leaf (array_of view) (λ array. Ok (resolves name view array)))) bound
    ∙ ap (λ o. on_leaf o (λ array. Ok (resolves name view array))) is

-- a view of no array
pub no_array : (names : Names) (t : Option Transaction) (name : Text) (view : View) → t ≡ None → names name ≡ Some view → array_of view ≡ None → IsAnswerTo (act_of names t (resolving name)) body.NotArray
no_array names t name view none bound is =
    inr (
      old.not_array,
      ap (λ o. outside o (named name (names name) (λ view. on_leaf (array_of view) (λ array. Ok (resolves name view array))))) none
          ∙ ap (λ o. named name o (λ view. on_leaf (array_of view) (λ array. Ok (resolves name view array)))) bound
          ∙ ap (λ o. on_leaf o (λ array. Ok (resolves name view array))) is,
      refl,
    )
