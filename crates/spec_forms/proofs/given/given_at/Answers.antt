use Rattle.std.proofs.Common.{◌≡◌, Ok, Some, sym, ap, ◌∙◌, subst}
use Rattle.std.specs.Prelude.{codes, option_and_then}
use Rattle.serde_json.specs.Find.{get}
use Rattle.serde_json.specs.View.{view}
use Rattle.spec_forms.specs.Members.{required}
use Rattle.spec_forms.specs.Numbers.{numbers_in}
use Rattle.spec_forms.proofs.GivenLaws.{given_dense_at}
use Rattle.spec_forms.proofs.given.given_at.Goals as goal

pub given_leaf-requires : goal.given_leaf-requires
given_leaf-requires c =
    given_dense_at c.judged_dtype.result (get (codes "array") (view c.args.value.now)) c.in_ok-dtype.dtype c.in_ok-numbers.numbers
    (ap required (c.judged_dtype.ensures ∙ sym c.judged_dtype-2.ensures) ∙ sym c.required-dtype.ensures ∙ c.in_ok-dtype.ensures.right)
    (ap (λ own. option_and_then (numbers_in own) (get (codes "array") (view c.args.value.now))) (sym c.right_dtype.ensures) ∙ c.in_ok-numbers.ensures.right)
