use Rattle.std.proofs.Common.{◌≡◌, drop}
use Rattle.std.specs.List.{position_from}
use Rattle.transform_composition.specs.Composing.{is_too_large}
use Rattle.transform_composition.proofs.composing.first_too_large.Given as goal

abbrev pub invariant-loop-output : goal.invariant-loop-output
invariant-loop-output l = position_from (is_too_large l.dims l.inners) 0 l.outers ≡ position_from (is_too_large l.dims l.inners) l.output (drop l.output l.outers)
