use Rattle.std.proofs.Common.{◌≡◌, ℕ, ◌<◌, ◌≤◌}
use Rattle.history.specs.History.{History}
use Rattle.read_fits.specs.Outline.{outline}
use Rattle.open_fits.specs.Opens.{IsRefusedFrom}
use Rattle.open_fits.proofs.asking.is_refused.Given as goal

abbrev pub invariant-loop-place : goal.invariant-loop-place
invariant-loop-place l = (history : History) → outline history ≡ l.openings.events → (k : ℕ) → l.question.first ≤ k → k < l.place → ¬ IsRefusedFrom history l.question k
