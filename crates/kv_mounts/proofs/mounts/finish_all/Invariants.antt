use Rattle.std.proofs.Common.{◌≡◌, take, drop, length}
use Rattle.std.specs.List.{list_any}
use Rattle.kv_mounts.specs.Union.{has_failed}
use Rattle.kv_mounts.specs.Finish.{AreFinished}
use Rattle.kv_mounts.proofs.mounts.finish_all.Given as goal

-- the first mounts are finished, the others as they were
abbrev pub invariant-loop-place : goal.invariant-loop-place
invariant-loop-place g l = record {
  done : AreFinished (take l.place l.initial.mounts) (take l.place l.mounts);
  left : drop l.place l.mounts ≡ drop l.place l.initial.mounts;
  long : length l.mounts ≡ length l.initial.mounts;
  failed : l.failed ≡ list_any has_failed (take l.place l.mounts);
}
