use Rattle.std.proofs.Common.{◌≡◌, ◌<◌, length, take}
use Rattle.std.specs.Prelude.{IfSome, option_map, slice_get}
use Rattle.std.specs.FinMap as finmap
use Rattle.kv_face.specs.Added.{scripts_of, bytes_of}
use Rattle.kv_face.proofs.scripts.place_of.Given as goal

-- the place of the last script of the name so far
abbrev pub invariant-loop-i : goal.invariant-loop-i
invariant-loop-i l = record {
  bytes : option_map (λ place. bytes_of (slice_get l.scripts place)) l.place ≡ finmap.get (scripts_of (take l.i l.scripts)) l.name;
  within : IfSome l.place (λ place. place < length l.scripts);
}
