-- What is kept of the answers of a transcript.
use Rattle.std.specs.Prelude.{◌≡◌, ℕ, List, [], ◌∷◌}
use Rattle.transcript_laws.specs.Transcript.{Told, asked_by}
use Rattle.transcript_cut.specs.Numbers.{PrintsNumbers}
use Rattle.transcript_cut.specs.Keeping.{IsKeptOf}
use Rattle.transcript_cut.specs.Spans.{bytes_at, IsSpanOf, line_at, IsPlaced}
use Rattle.transcript_cut.specs.declared.said.Said.{Said}

-- this is kept of what is told of a line
pub record IsSaid (scripts : List (List ℕ)) (transcript : List ℕ) (said : Said) (told : Told) : Type 0 where
  pub placed : IsPlaced scripts said.line
  pub session : told.session ≡ said.line.session
  pub number : told.number ≡ said.line.number
  pub asked : told.asked ≡ asked_by (line_at scripts said.line)
  pub within : IsSpanOf transcript said.text
  pub text : told.text ≡ bytes_at said.text transcript
  pub prints : PrintsNumbers told.answer said.numbers
  pub keeps : IsKeptOf told.answer said.answer

-- so it is of each, one after another
abbrev pub AreSaid : List (List ℕ) → List ℕ → List Said → List Told → Type 0
AreSaid scripts transcript [] [] = Unit {0}
AreSaid scripts transcript [] (told ∷ more) = ⊥
AreSaid scripts transcript (said ∷ more) [] = ⊥
AreSaid scripts transcript (said ∷ more) (told ∷ others) = IsSaid scripts transcript said told × AreSaid scripts transcript more others
