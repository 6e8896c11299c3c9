-- An answer with a member `open` is none by which a leaf is refused, and none of a failed store call.
use Rattle.std.proofs.Common.{◌≡◌, ℕ, List, [], take, Bool, true, false, Option, Some, None, sym, ap, ◌∙◌}
use Rattle.std.specs.Prelude.{codes, unwrap_or}
use Rattle.std.specs.FinMap as finmap
use Rattle.serde_json.specs.Data.{Data}
use Rattle.serde_json.specs.Find.{get}
use Rattle.history.specs.Answers.{Body, Text}
use Rattle.history.specs.History.{History}
use Rattle.history.specs.Leaves.{Leaf}
use Rattle.history.specs.OpenRows.{IsRefusal}
use Rattle.history.specs.Outcomes.{Outcome, path_taken, bad_metadata, exists, mismatch, there, found, not_found, bad_want, made, IsOutcome}
use Rattle.read_fits.specs.Answers.{answer_data}
use Rattle.read_fits.specs.Fitting.{printed_at}
use Rattle.read_fits.specs.Openings.{node_of}
use Rattle.read_fits.specs.Asked.{leaf_asked}
use Rattle.open_fits.specs.Opened.{OpenedIsUnrefused}
use Rattle.open_fits.specs.Opens.{IsStopAt}
use Rattle.open_fits.proofs.Judging.{never_bad, one_reading}
use Rattle.open_fits.proofs.Outcomes.{of_outcome}

-- the member `open` of an answer
abbrev open_of : ℕ → Body → Option Data
open_of line answer = get (codes "open") (answer_data (printed_at line answer))

stop_unopened : (history : History) (moment : ℕ) (is_failed : Bool) (node : Text) (leaf : Leaf) (line : ℕ) (numbers : List ℕ) (answer : Body) → IsStopAt history moment is_failed node leaf numbers answer → open_of line answer ≡ None
stop_unopened history moment true node leaf line numbers answer stop = ap (open_of line) stop.1
stop_unopened history moment false node leaf line numbers answer stop = by stop.0 stop.1 stop.2
  where
    by : (o : Outcome) → IsOutcome finmap.empty (take moment history) leaf o → IsRefusal node leaf moment numbers o answer → open_of line answer ≡ None
    by (path_taken other) comes is = ap (open_of line) is
    by (bad_metadata bytes) comes is = absurd (never_bad (take moment history) leaf bytes (of_outcome (take moment history) leaf (bad_metadata bytes) comes))
    by exists comes is = ap (open_of line) is
    by (mismatch member) comes is = ap (open_of line) is
    by (there k) comes is = absurd is
    by (found meta) comes is = absurd is
    by not_found comes is = ap (open_of line) is
    by (bad_want member) comes is = ap (open_of line) is
    by (made meta) comes is = absurd is

pub opened_is_unrefused : OpenedIsUnrefused
opened_is_unrefused q d name reads opens history is =
    let so = is.refused.refused in
    let node = unwrap_or (node_of is.place q.plan.tree) [] in
    let object : d ≡ answer_data (printed_at q.told.line so.answer) = one_reading q.told.line q.told.text d (answer_data (printed_at q.told.line so.answer)) reads so.object in
    let none : get (codes "open") d ≡ None = ap (get (codes "open")) object ∙ stop_unopened history q.moment q.is_failed node (leaf_asked is.refused.asked) q.told.line q.told.numbers so.answer so.stops in
    let both : Some name ≡ None = sym opens ∙ none in
    cc
