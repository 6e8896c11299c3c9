use Rattle.std.proofs.Common.{◌≡◌, drop}
use Rattle.transactions.proofs.StrayLaws.{last_number}
use Rattle.transactions.proofs.straying.last_of.Given as goal

-- the number by those that are left is the number by all
abbrev pub invariant-loop-s : goal.invariant-loop-s
invariant-loop-s l = last_number l.array l.mark l.number (drop l.s-index l.strays) ≡ last_number l.array 0 0 l.strays
