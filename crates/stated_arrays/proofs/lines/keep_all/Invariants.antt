use Rattle.std.proofs.Common.{◌≡◌, ℕ, List, length, drop}
use Rattle.std.specs.List.{AllByRecursion}
use Rattle.transcript_cut.specs.Transcript.{Told}
use Rattle.transcript_cut.specs.Said.{AreSaid}
use Rattle.stated_arrays.specs.Lines.{IsSoundLine}
use Rattle.stated_arrays.proofs.Kept.{IsKeptUpTo}
use Rattle.stated_arrays.proofs.lines.keep_all.Given as goal

abbrev pub invariant-loop-place : goal.invariant-loop-place
invariant-loop-place l = record {
  kept : (transcript : List ℕ) (told : List Told) → AreSaid l.scripts transcript l.said told → IsKeptUpTo l.scripts transcript told (drop l.place l.said) l.standing l.lines.items;
  sound : AllByRecursion IsSoundLine l.lines.items;
  count : length l.lines.items ≡ l.place;
  sessions : length l.standing ≡ length l.scripts;
}
