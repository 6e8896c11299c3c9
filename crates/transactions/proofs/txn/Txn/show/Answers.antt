use Rattle.std.proofs.Common.{◌∙◌, Some, ap, map, subst, sym}
use Rattle.std.specs.List.{AllByRecursion}
use Rattle.cells.specs.Numbers.{IsWord}
use Rattle.history.specs.Reads.{unwritten}
use Rattle.stack_driver.specs.Views.{look_of}
use Rattle.chunk_fetches.specs.Gathered.{AreTypedChunks, IsTold}
use Rattle.transactions.specs.Had.{IsDenseOrNone, snapshots_of}
use Rattle.transactions.specs.Reading.{had_by}
use Rattle.transactions.proofs.txn.Txn.show.Goals as goal

pub returns-clause-shown : goal.returns-clause-shown
returns-clause-shown c events content leaves has are staged told =
    ap (map Some) c.wrap.ensures
    ∙ c.in_ok-words.ensures.shown events c.args.v.now c.args.self.now.ops content leaves has are staged
    (subst (λ ks. AllByRecursion (IsTold events content c.args.cells.now.pieces (snapshots_of (had_by c.args.self.now c.args.cells.now ks))) (unwritten c.args.self.now.ops c.args.v.now)) (sym c.deref.ensures.value) told)

pub returns-clause-typed : goal.returns-clause-typed
returns-clause-typed c events leaves has are staged typed =
    let t = c.args.self.now in
    let pieces = c.args.cells.now.pieces in
    subst (AllByRecursion (IsWord (look_of c.args.v.now).dtype)) (sym c.wrap.ensures)
    (c.in_ok-words.ensures.typed events c.args.v.now t.ops leaves has are staged
    (subst (λ ks. AllByRecursion IsDenseOrNone (snapshots_of (had_by t c.args.cells.now ks)) → AreTypedChunks events pieces (snapshots_of (had_by t c.args.cells.now ks))) (sym c.deref.ensures.value) typed))
