use Rattle.std.proofs.Common.{◌∷◌, []}
use Rattle.bench.proofs.CommitLaws.{begun, written}
use Rattle.bench.proofs.committing.written.Goals as goal

pub returns-in-Ok : goal.returns-in-Ok
returns-in-Ok c = λ opening events legal refs.
    let ready = begun opening events c.begin-t.result _ _ c.begin-t.ensures legal in
    written opening events c.begin-t.result c.write.new.self c.args.view.now (c.args.word ∷ []) c.requires.view c.in-Ok.ensures.whole ready (c.in-Ok.ensures.txn opening events ready.right refs) c.in-Ok.ensures.ok
