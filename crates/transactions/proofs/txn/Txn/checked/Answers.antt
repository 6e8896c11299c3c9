use Rattle.std.proofs.Common.{◌∙◌, sym, ap, subst}
use Rattle.std.specs.List.{AllByRecursion}
use Rattle.transactions.specs.Had.{had_from}
use Rattle.transactions.specs.Reading.{IsStoredIn}
use Rattle.transactions.specs.Strays.{AreFitting, strays_of}
use Rattle.transactions.proofs.ReadLaws.{fit, may_stage, read_by_later, stored_in}
use Rattle.transactions.proofs.txn.Txn.checked.Goals as goal

pub strays-requires-clause-cells : goal.strays-requires-clause-cells
strays-requires-clause-cells g c = may_stage c.args.around.now.book.now.fixed c.args.pass.now.seen c.args.self.now c.args.v.now c.args.cells.now c.requires.read.1.of_view

pub strays-requires-clause-fit : goal.strays-requires-clause-fit
strays-requires-clause-fit g c =
    subst (λ ss. AreFitting c.args.cells.now.pieces (had_from ss c.args.self.now.kept c.args.fetched.now 0)) (sym c.requires.sources)
    (fit c.args.around.now.book.now.fixed c.requires.read.0 c.args.pass.now.seen c.args.self.now c.args.v.now c.args.cells.now c.args.fetched.now c.requires.read.1)

pub unless_stray-requires-clause-stored : goal.unless_stray-requires-clause-stored
unless_stray-requires-clause-stored g c events on legal =
    let t = c.args.self.now in
    let fixed = c.args.around.now.book.now.fixed in
    let seen = c.requires.read.0 in
    let strays = c.deref.ensures.value ∙ c.in-Ok.ensures ∙ ap (λ ss. strays_of t.staged c.args.cells.now.pieces (had_from ss t.kept c.args.fetched.now 0)) c.requires.sources in
    subst (AllByRecursion (IsStoredIn events)) (sym strays)
    (stored_in fixed seen events t c.args.v.now c.args.cells.now c.args.fetched.now (read_by_later fixed seen c.args.pass.now.seen t c.args.v.now c.args.cells.now c.args.fetched.now c.requires.read.1 events on legal))
