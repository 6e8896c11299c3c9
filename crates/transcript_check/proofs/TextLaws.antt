-- The line of a verdict.
use Rattle.std.proofs.Common.{◌≡◌, ◌∙◌, ◌++◌, ℕ, List, ap}
use Rattle.std.specs.Prelude.{codes, decimal}
use Rattle.transcript_fits.specs.Verdicts.{not_checked, verdict_text}

-- that of a line because of which a transcript isn't checked, in two parts
pub line_text : (line session : ℕ) (text all : List ℕ) → text ≡ codes "{\"line\":" ++ decimal line ++ codes ",\"not_checked\":" → all ≡ text ++ decimal session ++ codes "}\n" → all ≡ verdict_text (not_checked session line)
line_text line session text all one other = other ∙ ap (λ t. t ++ decimal session ++ codes "}\n") one
