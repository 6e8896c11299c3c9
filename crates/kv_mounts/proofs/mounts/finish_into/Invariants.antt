use Rattle.std.proofs.Common.{◌≡◌, take, drop, length}
use Rattle.kv_mounts.specs.Finish.{AreFinished, failed_places}
use Rattle.kv_mounts.proofs.mounts.finish_into.Given as goal

-- the first mounts are finished, the others as they were; the list has the places of those that failed
abbrev pub invariant-loop-place : goal.invariant-loop-place
invariant-loop-place g l = record {
  done : AreFinished (take l.place l.initial.mounts) (take l.place l.mounts);
  left : drop l.place l.mounts ≡ drop l.place l.initial.mounts;
  long : length l.mounts ≡ length l.initial.mounts;
  places : l.list ≡ record l.initial.list { places = failed_places (take l.place l.mounts) };
}
