use Rattle.std.proofs.Common.{◌≡◌, ◌≤◌, ◌<◌, ℕ, Some}
use Rattle.std.specs.List.{slice_get}
use Rattle.stated_history.specs.declared.Said.{Said}
use Rattle.transcript_fits.proofs.frames.count_session.Given as goal

-- those up to a place are of the session
abbrev pub invariant-loop-place : goal.invariant-loop-place
invariant-loop-place l = (k : ℕ) (d : Said) → l.begin ≤ k → k < l.place → slice_get l.said k ≡ Some d → d.line.session ≡ l.session
