use Rattle.std.proofs.Common.{◌++◌, length-append, arith}
use Rattle.transcript_laws.specs.Numbers.{single}
use Rattle.transcript_cut.proofs.spots.with_count.Goals as goal

pub returns : goal.returns
returns c =
    let n = c.args.numbers.now in
    omega (arith, c.in_ok-opened.ensures, c.in_ok-done.ensures, c.in_ok-all.ensures, length-append n.opened (n.done ++ single n.failed), length-append n.done (single n.failed))
