-- Refusals, and what holds of names once one of them is bound.
use Rattle.std.proofs.Common.{◌≡◌, Bool, true, false, cond, inl, inr, Option, Some, None, Err, sym, ap, subst, ◌∙◌}
use Rattle.std.specs.Str.{bytes_eq}
use Rattle.history.specs.Acts.{Asked, named}
use Rattle.history.specs.Answers as old
use Rattle.history.specs.Answers.{Text}
use Rattle.history.specs.Sessions.{Names}
use Rattle.line_acts.specs.Bound.{IsBoundAs}
use Rattle.line_acts.specs.Refused.{IsAnswerTo}
use Rattle.line_meanings.specs.Bodies.{body_of}
use Rattle.line_meanings.specs.declared.Body.{Body}
use Rattle.stack_driver.specs.declared.view.View.{View}

-- what every name's view keeps, names keep once one of them is bound to a view that does
pub kept_bound : (P : View → Type 0) (body answer : Body) (names later : Names) (name : Text) (view : View) → IsBoundAs body names name view later answer → P view
    → ((other : Text) (v : View) → names other ≡ Some v → P v) → (other : Text) (v : View) → later other ≡ Some v → P v
kept_bound P body answer names later name view (inl done) holds all other v is = by (bytes_eq name other) (sym (ap (λ f. f other) done.1) ∙ is)
  where
    by : (test : Bool) → cond test (Some view) (names other) ≡ Some v → P v
    by true e = let same : view ≡ v = cc in subst P same holds
    by false e = all other v e
kept_bound P body answer names later name view (inr wants) holds all other v is = all other v (sym (ap (λ f. f other) wants.1) ∙ is)

-- an answer with its equation
pub refusal : (asked : Asked) (answer : Body) (b : old.Body) → asked ≡ Err b → answer ≡ body_of b → IsAnswerTo asked answer
refusal asked answer b is printed = inr (b, is, printed)

-- a name that isn't bound, and one that is
pub named_none : (name : Text) (o : Option View) (next : View → Asked) (answer : Body) → o ≡ None → IsAnswerTo (named name None next) answer → IsAnswerTo (named name o next) answer
named_none name o next answer is told = subst (λ p. IsAnswerTo (named name p next) answer) (sym is) told

pub answer_at : (asked other : Asked) (answer : Body) → other ≡ asked → IsAnswerTo asked answer → IsAnswerTo other answer
answer_at asked other answer is told = subst (λ a. IsAnswerTo a answer) (sym is) told
