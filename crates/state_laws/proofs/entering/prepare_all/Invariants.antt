use Rattle.std.proofs.Common.{◌≡◌, take}
use Rattle.std.specs.List.{AllByRecursion}
use Rattle.state_laws.specs.Numbers.{IsPrepared, KeepsPrepared}
use Rattle.state_laws.proofs.entering.prepare_all.Given as goal

-- the keys so far are prepared
abbrev pub invariant-loop-key : goal.invariant-loop-key
invariant-loop-key l = record {
  prepared : AllByRecursion (IsPrepared l.records.prepared) (take l.key-index l.keys);
  kept : KeepsPrepared l.initial.records.prepared l.records.prepared;
  same : l.records ≡ record l.initial.records { prepared = l.records.prepared };
}
