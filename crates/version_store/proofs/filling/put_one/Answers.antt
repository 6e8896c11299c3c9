use Rattle.std.proofs.Common.{◌≤◌, List, ℕ, sym, subst, arith}
use Rattle.chunk_versions.specs.Moments.{newest}
use Rattle.version_store.proofs.Written.{one_over, newest-touched}
use Rattle.version_store.proofs.filling.put_one.Goals as goal

pub returns-clause-over : goal.returns-clause-over
returns-clause-over c =
    λ h k chunk puts p legal now of part.
    one_over h k chunk puts c.args.chunk.now c.put.new.self c.args.number c.args.word p legal c.newest.ensures.valid now of c.in_ok-put.ensures.size c.in_ok-put.ensures.touches c.in_ok-put.ensures.words part

pub returns-clause-newest : goal.returns-clause-newest
returns-clause-newest c =
    let last = newest-touched c.args.number c.args.chunk.now.touches in
    subst (λ (ts : List ℕ). newest ts ≤ c.args.number) (sym c.in_ok-put.ensures.touches) (omega (arith, last))
