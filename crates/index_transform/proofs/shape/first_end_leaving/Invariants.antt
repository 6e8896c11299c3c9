use Rattle.std.proofs.Common.{◌≡◌, drop}
use Rattle.std.specs.List.{zip, position_from}
use Rattle.index_transform.specs.Shapes.{ends_leave}
use Rattle.index_transform.proofs.shape.first_end_leaving.Given as goal

-- the rest is searched
abbrev pub invariant-loop-j : goal.invariant-loop-j
invariant-loop-j l = position_from (λ p. ends_leave l.dims p.0 p.1) 0 (zip l.shape l.maps) ≡ position_from (λ p. ends_leave l.dims p.0 p.1) l.j (zip (drop l.j l.shape) (drop l.j l.maps))
