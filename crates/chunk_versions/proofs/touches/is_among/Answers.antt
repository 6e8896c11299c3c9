use Rattle.std.proofs.Common.{refl}
use Rattle.chunk_versions.proofs.Counts.{among_at_ok, among_at_err}
use Rattle.chunk_versions.proofs.touches.is_among.Goals as goal

pub returns-in-Ok : goal.returns-in-Ok
returns-in-Ok c = (λ yes. among_at_ok c.args.number c.args.numbers.now c.requires c.binary_search.result c.binary_search.ensures.position _ c.in-Ok.is, λ has. refl)

pub returns-in-Err : goal.returns-in-Err
returns-in-Err c = (λ no. absurd (let no_such : ⊥ = cc in no_such), λ has. absurd (among_at_err c.args.number c.args.numbers.now c.requires c.binary_search.result c.binary_search.ensures.position _ c.in-Err.is has))
