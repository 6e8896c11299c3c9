use Rattle.std.proofs.Common.{◌≡◌, take, false}
use Rattle.std.specs.List.{list_any}
use Rattle.std.specs.Str.{bytes_eq}
use Rattle.kv_mounts.specs.Parts.{Part}
use Rattle.kv_mounts.proofs.mounts.knows.Given as goal

-- none of the first mounts has the name
abbrev pub invariant-loop-mount : goal.invariant-loop-mount
invariant-loop-mount g l = list_any (λ (p : Part). bytes_eq l.name p.name) (take l.mount-index l.list) ≡ false
