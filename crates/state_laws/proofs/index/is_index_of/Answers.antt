use Rattle.std.proofs.Common.{sym, subst}
use Rattle.state_laws.specs.Asked.{IsIndexIn}
use Rattle.state_laws.proofs.Asked.{index_from, index_into}
use Rattle.state_laws.proofs.index.is_index_of.Goals as goal

pub returns : goal.returns
returns c =
    let info = c.args.info.now in
    let chunk = c.args.chunk.now in (
      λ test. index_from info chunk (subst (λ shape. IsIndexIn info.home shape chunk) c.items.ensures (c.is_index.ensures.0 test)),
      λ is. c.is_index.ensures.1 (subst (λ shape. IsIndexIn info.home shape chunk) (sym c.items.ensures) (index_into info chunk is)),
    )
