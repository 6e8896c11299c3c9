use Rattle.std.proofs.Common.{◌≡◌, ◌≤◌, length, map}
use Rattle.indexmap.specs.IndexMap.{spare}
use Rattle.kv_face.specs.Store.{after}
use Rattle.kv_face.specs.Table.{held_by, change_of}
use Rattle.kv_face.proofs.table.change_all.Given as goal

-- the changes that are left
abbrev pub invariant-loop-change : goal.invariant-loop-change
invariant-loop-change l = record {
  held : after (held_by l.table.map.entries) (map change_of l.change-iterator.rest.items) ≡ after (held_by l.initial.table.map.entries) (map change_of l.fn.changes.items);
  room : length l.change-iterator.rest.items ≤ spare l.table.map;
}
