-- Which answers the text of an open line is told to be.
use Rattle.std.proofs.Common.{◌≡◌, ◌↔◌, ℕ, List, Bool, Ok, Err, refl, sym, ap, subst}
use Rattle.std.specs.Prelude.{IsTrue}
use Rattle.serde_json.specs.Data.{Data}
use Rattle.read_fits.specs.Text.{answer_text}
use Rattle.read_fits.specs.declared.Answer.{Answer}
use Rattle.read_fits.specs.declared.Body as answers
use Rattle.read_fits.specs.Answers.{answer_data}
use Rattle.read_fits.specs.AnswerLines.{IsAnswerText}
use Rattle.history.specs.Answers as body
use Rattle.history.specs.Answers.{Body, Text}
use Rattle.read_fits.specs.Bodies.{body_of}
use Rattle.read_fits.specs.LineCauses.{build_cause}
use Rattle.read_fits.specs.Built.{built}
use Rattle.read_fits.specs.declared.BuildCause.{BuildCause}
use Rattle.read_fits.specs.declared.BuildCause.TheVariants.{Transform, Layers}
use Rattle.read_fits.specs.declared.BuildError.TheVariants.{Refused}
use Rattle.read_fits.specs.declared.Tree.{Tree}
use Rattle.stack_driver.specs.References.{Reference}
use Rattle.stack_driver.specs.declared.view.View.{View}
use Rattle.history.specs.Viewing.{opened_body}
use Rattle.read_fits.specs.Openings.{by_built, build_cause_of}
use Rattle.open_fits.specs.Built.{IsToldSo, built_body, IsBuiltAs}
use Rattle.open_fits.specs.declared.questions.OpenTold.{OpenTold}

-- whether a text is that of an answer
pub told_so : (told : OpenTold) (answer : Answer) (b : Body) (is : Bool) → answer ≡ record { line = told.line; body = body_of b }
    → ((number : ℕ) (d : Data) → IsAnswerText number told.text d → IsTrue is ↔ (told.text ≡ answer_text answer) × (d ≡ answer_data answer)) → IsToldSo told b is
told_so told answer b is same each d reads =
    let so = subst (λ a. IsTrue is ↔ (told.text ≡ answer_text a) × (d ≡ answer_data a)) same (each told.line d reads) in
    ((λ right. record { text = (so.0 right).0; object = (so.0 right).1 }), (λ printed_so. so.1 (printed_so.text, printed_so.object)))

-- a cause is printed as it was told
pub cause_back : (cause : BuildCause) → build_cause (build_cause_of cause) ≡ cause
cause_back (Transform cause) = refl
cause_back Layers = refl

-- by what building gave
pub built_so : (tree : Tree) (arrays : List Reference) (told : OpenTold) (view : View) (is : Bool) → built arrays tree ≡ Ok view → IsToldSo told (opened_body told.name view told.numbers) is → IsBuiltAs tree arrays told is
built_so tree arrays told view is gives so = subst (λ r. IsToldSo told (built_body told.name told.numbers (by_built r)) is) (sym gives) so

pub refused_so : (tree : Tree) (arrays : List Reference) (told : OpenTold) (path : Text) (cause : BuildCause) (is : Bool) → built arrays tree ≡ Err (Refused path cause) → IsToldSo told (body.refused_spec path (build_cause_of cause) told.numbers) is → IsBuiltAs tree arrays told is
refused_so tree arrays told path cause is gives so = subst (λ r. IsToldSo told (built_body told.name told.numbers (by_built r)) is) (sym gives) so

-- by the parts of the answer
pub told_by : (told : OpenTold) (text : List ℕ) (printed : answers.Body) (is : Bool) → text ≡ told.text
    → ((number : ℕ) (d : Data) → IsAnswerText number text d → IsTrue is ↔ (text ≡ answer_text (record { line = told.line; body = printed })) × (d ≡ answer_data (record { line = told.line; body = printed })))
    → (b : Body) → printed ≡ body_of b → IsToldSo told b is
told_by told text printed is same each b body_is =
    told_so told (record { line = told.line; body = printed }) b is (ap (λ x. record { line = told.line; body = x }) body_is)
    (subst (λ (t : List ℕ). (number : ℕ) (d : Data) → IsAnswerText number t d → IsTrue is ↔ (t ≡ answer_text (record { line = told.line; body = printed })) × (d ≡ answer_data (record { line = told.line; body = printed }))) same each)
