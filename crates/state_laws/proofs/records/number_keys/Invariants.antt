use Rattle.std.proofs.Common.{◌≡◌}
use Rattle.std.specs.List.{AllByRecursion}
use Rattle.state_laws.specs.Numbers.{IsPrepared, KeepsPrepared}
use Rattle.state_laws.specs.Recorded.{with_numbers, without_all}
use Rattle.state_laws.proofs.records.number_keys.Given as goal

-- the keys that are left
abbrev pub invariant-loop-key : goal.invariant-loop-key
invariant-loop-key l = record {
  ready : AllByRecursion (IsPrepared l.generations.prepared) l.key-iterator.rest.items;
  numbers : with_numbers l.fn.number l.generations.numbers l.key-iterator.rest.items ≡ with_numbers l.fn.number l.initial.generations.numbers l.fn.keys.items;
  prepared : KeepsPrepared l.initial.generations.prepared l.generations.prepared;
  cache : record l.cache { entries = without_all l.key-iterator.rest.items l.cache.entries } ≡ record l.initial.cache { entries = without_all l.fn.keys.items l.initial.cache.entries };
}
