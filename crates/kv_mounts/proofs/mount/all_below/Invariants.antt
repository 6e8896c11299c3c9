use Rattle.std.proofs.Common.{◌≡◌, ◌+◌, length, take, true}
use Rattle.std.specs.Prelude.{All}
use Rattle.std.specs.Str.{IsCharBoundary}
use Rattle.kv_face.specs.declared.change.Change.{Change}
use Rattle.kv_mounts.specs.Parts.{all_below}
use Rattle.kv_mounts.proofs.mount.all_below.Given as goal

-- the first changes are below the name
abbrev pub invariant-loop-change : goal.invariant-loop-change
invariant-loop-change l = record {
  below : all_below l.name (take l.change-index l.changes) l.from ≡ true;
  cut : All (λ (c : Change). IsCharBoundary c.key (l.from + (length l.name + 1))) (take l.change-index l.changes);
}
