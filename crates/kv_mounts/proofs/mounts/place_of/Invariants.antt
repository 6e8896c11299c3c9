use Rattle.std.proofs.Common.{◌≡◌, take, false}
use Rattle.std.specs.List.{list_any}
use Rattle.kv_mounts.specs.Parts.{Part, begins}
use Rattle.kv_mounts.proofs.mounts.place_of.Given as goal

-- the key lies below none of the first mounts
abbrev pub invariant-loop-place : goal.invariant-loop-place
invariant-loop-place g l = list_any (λ (p : Part). begins p.name l.key) (take l.place l.list) ≡ false
