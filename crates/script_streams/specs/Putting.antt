-- How a text is given to what takes texts, piece after piece.
use Rattle.std.specs.Prelude.{◌≡◌, ℕ, List, [], ◌∷◌, ◌++◌, Bool, true, false, not, IsTrue, Option, Some, Result, Ok, Err}
use Rattle.kv_face.specs.Streams.{WhereTold, Rises, IsPartOf}
use Rattle.std.specs.List.{flat_map}
use Rattle.script_streams.specs.declared.writing.Unwritten.{Unwritten}
use Rattle.script_streams.specs.declared.writing.Unwritten.TheVariants.{Failed, Memory}

-- what may come of a text that a sink is given, by what it tells and its count of faults before and after
pub record IsTaken (then now : Option (List ℕ)) (before after : ℕ) (text : List ℕ) (whole : Bool) : Type 0 where
  pub all : IsTrue whole → WhereTold then (λ bytes. now ≡ Some (bytes ++ text))
  pub part : WhereTold then (λ bytes. IsPartOf now bytes text)
  pub cause : Rises before after (IsTrue (not whole))

-- what may come of a piece: whether it was taken whole, and what is then
abbrev pub Takes : Type 0 → Type 1
Takes X = X → List ℕ → Bool → X → Type 0

-- the pieces were given one after another, and each was taken whole
abbrev pub AreTaken : {X : Type 0} → Takes X → X → List (List ℕ) → X → Type 0
AreTaken takes from [] to = from ≡ to
AreTaken {X} takes from (piece ∷ pieces) to = (between : X) × takes from piece true between × AreTaken takes between pieces to

-- the text of pieces
abbrev pub text_of_pieces : List (List ℕ) → List ℕ
text_of_pieces pieces = flat_map (λ piece. piece) pieces

-- the pieces of a front part of the text were taken, and the rest of it waits
pub record IsGoing {X : Type 0} (takes : Takes X) (from : X) (text waiting : List ℕ) (to : X) : Type 0 where
  pub pieces : List (List ℕ)
  pub taken : AreTaken takes from pieces to
  pub parts : text_of_pieces pieces ++ waiting ≡ text

-- the pieces of a front part were taken, the next one wasn't, and nothing was given behind it
pub record IsBroken {X : Type 0} (takes : Takes X) (from : X) (text : List ℕ) (to : X) : Type 0 where
  pub pieces : List (List ℕ)
  pub before : X
  pub taken : AreTaken takes from pieces before
  pub piece : List ℕ
  pub refused : takes before piece false to
  pub rest : List ℕ
  pub parts : text_of_pieces pieces ++ (piece ++ rest) ≡ text

-- the pieces of a front part were taken, and nothing was given behind them
abbrev pub IsStopped : {X : Type 0} → Takes X → X → List ℕ → X → Type 0
IsStopped takes from text to = (rest : List ℕ) × IsGoing takes from text rest to

-- the text is given in pieces, each once and none behind the first that wasn't taken, and this is the answer; where it is Ok, this waits
abbrev pub IsPutting : {X : Type 0} → Takes X → X → List ℕ → Result (Unit {0}) Unwritten → List ℕ → X → Type 0
IsPutting takes from text (Ok done) waiting to = IsGoing takes from text waiting to
IsPutting takes from text (Err Failed) waiting to = IsBroken takes from text to
IsPutting takes from text (Err Memory) waiting to = IsStopped takes from text to
