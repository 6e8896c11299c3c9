-- An answer that a view was opened refuses no leaf.
use Rattle.std.specs.Prelude.{◌≡◌, Some, codes}
use Rattle.serde_json.specs.Data.{Data}
use Rattle.serde_json.specs.Find.{get}
use Rattle.history.specs.History.{History}
use Rattle.read_fits.specs.AnswerLines.{IsAnswerText}
use Rattle.open_fits.specs.Opens.{IsRefusedAt}
use Rattle.open_fits.specs.declared.questions.OpenQuestion.{OpenQuestion}

-- where the answer has a member `open`, no leaf of the question is refused as it says, over any history
abbrev pub OpenedIsUnrefused : Type 0
OpenedIsUnrefused =
    (q : OpenQuestion) (d name : Data) → IsAnswerText q.told.line q.told.text d → get (codes "open") d ≡ Some name
    → (history : History) → ¬ IsRefusedAt history q
