use Rattle.std.proofs.Common.{sym, subst}
use Rattle.cells.specs.Elements.{word_at}
use Rattle.chunk_forms.specs.Grammar.{MayWrite}
use Rattle.bench.proofs.writable.may_write.Goals as goal

pub returns-in-N5 : goal.returns-in-N5
returns-in-N5 c = λ yes.
    let may = c.is_whole.ensures yes in
    subst (λ form. MayWrite form c.args.chunk.now (word_at c.args.d.now)) (sym c.in-N5.is) (may.0, may.1 (word_at c.args.d.now))
