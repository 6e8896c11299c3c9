use Rattle.std.proofs.Common.{◌∙◌, sym, subst, arith}
use Rattle.std.proofs.lemmas.List.{at_drop_all}
use Rattle.transactions.specs.Strays.{HasLastNumber}
use Rattle.transactions.proofs.StrayLaws.{last_is, last_number}
use Rattle.transactions.proofs.straying.last_of.Goals as goal

pub returns : goal.returns
returns c =
    let strays = c.args.strays.now in
    let done = c.loop-s-test.false in
    subst (λ n. HasLastNumber strays c.args.array n)
    (sym c.loop-s.invariant ∙ at_drop_all (last_number c.args.array c.loop-s.mark c.loop-s.number) strays c.loop-s.s-index (omega (arith, done)))
    (last_is c.args.array strays c.requires)
