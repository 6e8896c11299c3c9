use Rattle.std.proofs.Common.{◌≡◌, ◌≤◌, ◌++◌, ◌-◌, Some, length, List, ℕ}
use Rattle.kv_face.specs.Streams.{script_of}
use Rattle.kv_face.proofs.reading.read_script.Given as goal

abbrev pub invariant-loop-n : goal.invariant-loop-n
invariant-loop-n g l = record {
  told : (bytes : List ℕ) → script_of (g.S.Scripts.contents l.fn.scripts) l.fn.name ≡ Some bytes → (rest : List ℕ) × (g.S.Scripts.left l.scripts ≡ Some rest) × (l.bytes.items ++ rest ≡ bytes);
  size : length l.bytes.items ≤ 67108864;
  contents : g.S.Scripts.contents l.scripts ≡ g.S.Scripts.contents l.fn.scripts;
  later : g.S.Scripts.faults l.fn.scripts ≤ g.S.Scripts.faults l.scripts;
}

abbrev pub decreases-loop-n : goal.decreases-loop-n
decreases-loop-n g l = 67108864 - length l.bytes.items
