use Rattle.std.proofs.Common.{◌≡◌, ◌∙◌, sym, arith, true, false}
use Rattle.history.specs.Commit.{is_before}
use Rattle.transactions.proofs.LeastLaws.{higher, least_all, lower}
use Rattle.transactions.proofs.reading.least_of.Goals as goal
use Rattle.transactions.proofs.reading.least_of.Goals.{then-lt, else-lt}

pub loop-s-preserved : goal.loop-s-preserved
loop-s-preserved g c = elim c.if-lt.branch [
  | then-lt w ↦
      let before : is_before c.in_ok-key.key c.loop-s.least ≡ true = sym c.lt.ensures ∙ w.if-lt.true in
      rw (w.array-is, w.least-is)
      (lower c.args.state.now.log.events c.args.strays.now c.loop-s.s-index _ c.loop-s-test.true c.loop-s.array c.loop-s.least c.in_ok-key.key c.loop-s.invariant c.in_ok-key.ensures before)
  | else-lt w ↦
      let after : is_before c.in_ok-key.key c.loop-s.least ≡ false = sym c.lt.ensures ∙ w.if-lt.false in
      rw (w.array-is, w.least-is)
      (higher c.args.state.now.log.events c.args.strays.now c.loop-s.s-index _ c.loop-s-test.true c.loop-s.array c.loop-s.least c.in_ok-key.key c.loop-s.invariant c.in_ok-key.ensures after)
]

pub returns : goal.returns
returns g c = least_all c.args.state.now.log.events c.args.strays.now c.loop-s.s-index c.loop-s.array c.loop-s.least (let done = c.loop-s-test.false in omega (arith, done)) c.loop-s.invariant
