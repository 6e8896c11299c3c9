-- How the answer to an open line is judged: by the outline of the history, and where it refuses a leaf, by the arrays
-- at one moment.
use Rattle.std.specs.Prelude.{◌≡◌, ◌<◌, ◌≤◌, ◌^◌, ◌↔◌, ℕ, suc, ◌+◌, List, [], ◌∷◌, length, map, max, take, Bool, true, false, Option, Some, unwrap_or}
use Rattle.std.specs.List.{slice_get}
use Rattle.std.specs.FinMap as finmap
use Rattle.cells.specs.Places.{cell_count}
use Rattle.serde_json.specs.Data.{Data}
use Rattle.read_fits.specs.Text.{answer_text}
use Rattle.read_fits.specs.Answers.{answer_data}
use Rattle.read_fits.specs.AnswerLines.{IsAnswerText}
use Rattle.stack_driver.specs.References.{Reference}
use Rattle.history.specs.Answers as body
use Rattle.history.specs.Answers.{Body, Text}
use Rattle.history.specs.History.{History}
use Rattle.history.specs.Leaves.{Leaf, location_of_leaf}
use Rattle.history.specs.Lines.{SpecLeaf, given, stored}
use Rattle.history.specs.OpenRows.{IsRefusal}
use Rattle.history.specs.Outcomes.{Outcome, IsOutcome}
use Rattle.history.specs.Places.{IsFree}
use Rattle.read_fits.specs.Conditions.{IsSoundPlan}
use Rattle.read_fits.specs.declared.OpenPlan.{OpenPlan}
use Rattle.read_fits.specs.declared.Tree.{Tree}
use Rattle.read_fits.specs.Fitting.{printed_at}
use Rattle.read_fits.specs.ToldNumbers.{single, opened_in, failed_in}
use Rattle.read_fits.specs.Opening.{IsSettledLeaf}
use Rattle.read_fits.specs.Openings.{node_of, leaves_of}
use Rattle.read_fits.specs.Takings.{Taking, ref_of_leaf}
use Rattle.read_fits.specs.Windows.{Window}
use Rattle.read_fits.specs.Asked.{leaf_asked}
use Rattle.read_fits.specs.Outcomes.{AreKeptOf}
use Rattle.read_fits.specs.Stating.{numbers_taken}
use Rattle.read_fits.specs.Transcript.{mount}
use Rattle.read_fits.specs.declared.Asked.{Asked}
use Rattle.read_fits.specs.declared.Wanted.{Wanted}
use Rattle.read_fits.specs.declared.Wanted.TheVariants.{Stored, Given}
use Rattle.read_fits.specs.declared.Openings.{Openings}
use Rattle.read_fits.specs.OpenedViews.{AreGiven, paired}
use Rattle.open_fits.specs.Built.{IsEndOf, IsInWindow}
use Rattle.open_fits.specs.declared.moments.Moment.{Moment}
use Rattle.open_fits.specs.declared.opens.OpenFit.{OpenFit}
use Rattle.open_fits.specs.declared.opens.OpenFit.TheVariants.{Unfit, Fits, IfRefused}
use Rattle.open_fits.specs.declared.questions.OpenQuestion.{OpenQuestion}
use Rattle.open_fits.specs.declared.questions.OpenTold.{OpenTold}
use Rattle.open_fits.specs.declared.questions.WantedPlan.{WantedPlan}

-- what a leaf of the node at a path asks for
abbrev pub leaf_at : Text → Wanted → SpecLeaf
leaf_at node (Stored asked) = stored node (leaf_asked asked)
leaf_at node (Given start) = given start

-- leaves from this number on, each of its node
abbrev pub leaves_at : Tree → ℕ → List Wanted → List SpecLeaf
leaves_at tree number [] = []
leaves_at tree number (wanted ∷ more) =
    leaf_at (unwrap_or (node_of number tree) []) wanted ∷ leaves_at tree (suc number) more

-- numbers of an array are few cells, where each size 0 counts as 1
abbrev pub IsSmall : Wanted → Type 0
IsSmall (Stored asked) = Unit {0}
IsSmall (Given start) = (length start.shape ≤ 32) × (cell_count (map (max 1) start.shape) ≤ 2 ^ 22)

-- the numbers of events that an open line may have looked at
abbrev pub window_told : OpenTold → Window
window_told told = record { from = told.from; upto = told.upto }

-- an open line of this plan, whose leaves take these numbers, and whose answer reads as this object
pub record IsOpenLine (plan : OpenPlan) (takings : List (Option ℕ)) (openings : Openings) (told : OpenTold)
    (d : Data) : Type 0 where
  pub sound : IsSoundPlan (mount ∷ []) plan
  pub arrays : AreKeptOf openings.events openings.opened openings.places
  pub taken : numbers_taken openings.events (leaves_of plan) told.numbers ≡ takings
  pub given : AreGiven openings.events (paired (leaves_of plan) takings)
  pub text : IsAnswerText told.line told.text d
  pub opened : opened_in d ≡ told.numbers
  pub failed : failed_in d ≡ single told.failed

-- the first leaves were opened, these are their arrays, and the next one, if there is one, wasn't
abbrev pub IsFront : History → Window → List Taking → List Reference → Type 0
IsFront history w [] [] = Unit {0}
IsFront history w [] (ref ∷ refs) = ⊥
IsFront history w (t ∷ ts) [] = ¬ IsSettledLeaf history w t.leaf t.number
IsFront history w (t ∷ ts) (ref ∷ refs) =
    (IsSettledLeaf history w t.leaf t.number × (ref_of_leaf history t ≡ Some ref)) × IsFront history w ts refs

-- behind so many events a leaf of a node is answered so, where these are the numbers of the line's new arrays: a store
-- call for it failed, or it is refused
abbrev pub IsStopAt : History → ℕ → Bool → Text → Leaf → List ℕ → Body → Type 0
IsStopAt history moment true node leaf numbers answer =
    IsFree (take moment history) (location_of_leaf leaf) × (answer ≡ body.store_failed (moment + 1) [] (Some numbers))
IsStopAt history moment false node leaf numbers answer =
    (outcome : Outcome) × IsOutcome finmap.empty (take moment history) leaf outcome
    × IsRefusal node leaf moment numbers outcome answer

-- the leaf at a place is answered so, and this is the text
pub record IsRefusedFor (history : History) (q : OpenQuestion) (place : ℕ) (asked : Asked) : Type 0 where
  pub answer : Body
  pub printed : q.told.text ≡ answer_text (printed_at q.told.line answer)
  pub object : IsAnswerText q.told.line q.told.text (answer_data (printed_at q.told.line answer))
  pub stops : IsStopAt history q.moment q.is_failed (unwrap_or (node_of place q.plan.tree) []) (leaf_asked asked)
      q.told.numbers answer

-- a stored leaf stands there, and is
pub record IsRefusedFrom (history : History) (q : OpenQuestion) (place : ℕ) : Type 0 where
  pub asked : Asked
  pub leaf : slice_get q.plan.leaves place ≡ Some (Stored asked)
  pub refused : IsRefusedFor history q place asked

-- one of the leaves of the question is
pub record IsRefusedAt (history : History) (q : OpenQuestion) : Type 0 where
  pub place : ℕ
  pub behind : q.first ≤ place
  pub below : place < q.end
  pub refused : IsRefusedFrom history q place

-- a question may be asked over these events
pub record IsQuestion (events : History) (q : OpenQuestion) : Type 0 where
  pub within : q.moment ≤ length events
  pub few : q.is_failed ≡ true → q.moment + 1 < 2 ^ 64
  pub end : q.end ≤ length q.plan.leaves
  pub reads : (d : Data) × IsAnswerText q.told.line q.told.text d

-- whether an answer fits: it doesn't, it does, or it does exactly where a leaf of the question is refused
abbrev pub IsJudged : History → Type 0 → OpenFit → Type 0
IsJudged history fits Unfit = ¬ fits
IsJudged history fits Fits = fits
IsJudged history fits (IfRefused q) = fits ↔ IsRefusedAt history q

-- what is asked may be asked
abbrev pub MayBeAsked : History → OpenFit → Type 0
MayBeAsked events Unfit = Unit {0}
MayBeAsked events Fits = Unit {0}
MayBeAsked events (IfRefused q) = IsQuestion events q

-- what is asked is asked of this answer
abbrev pub AsksOf : OpenTold → OpenFit → Type 0
AsksOf told Unfit = Unit {0}
AsksOf told Fits = Unit {0}
AsksOf told (IfRefused q) = q.told ≡ told

-- what is answered where the answer isn't the one over all arrays, of which so many were found, and speaks of this
-- moment
abbrev pub IsFitAt : WantedPlan → ℕ → ℕ → Moment → OpenTold → ℕ → OpenFit → Type 0
IsFitAt plan first settled moment told count Unfit = ¬ IsInWindow told count moment
IsFitAt plan first settled moment told count Fits = ⊥
IsFitAt plan first settled moment told count (IfRefused q) =
    IsInWindow told count moment × IsEndOf settled (length plan.leaves) q.end
    × (q ≡ record {
      plan = plan;
      first = first;
      end = q.end;
      moment = moment.events;
      is_failed = moment.is_failed;
      told = told;
    })
