-- The sessions of what is kept of a cut.
use Rattle.std.proofs.Common.{ℕ, ◌<◌, List, [], ◌∷◌, length}
use Rattle.std.specs.List.{AllByRecursion}
use Rattle.transcript_laws.specs.Transcript.{Told}
use Rattle.transcript_cut.specs.Said.{AreSaid}
use Rattle.transcript_cut.specs.declared.said.Said.{Said}

-- each is that of a script
pub sessions_within : (scripts : List (List ℕ)) (transcript : List ℕ) (said : List Said) (told : List Told) → AreSaid scripts transcript said told → AllByRecursion (λ (s : Said). s.line.session < length scripts) said
sessions_within scripts transcript [] told are = tt
sessions_within scripts transcript (s ∷ said) [] are = absurd are
sessions_within scripts transcript (s ∷ said) (t ∷ told) are = (are.0.placed.session, sessions_within scripts transcript said told are.1)
