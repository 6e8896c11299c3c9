use Rattle.std.proofs.Common.{◌≡◌, ◌∙◌, List, Option, sym, ap, subst}
use Rattle.std.specs.List.{AllByRecursion}
use Rattle.chunk_cache.specs.Snapshot.{SnapshotCells}
use Rattle.history.specs.Reads.{unwritten}
use Rattle.chunk_fetches.specs.Gathered.{AreTypedChunks, IsTold}
use Rattle.chunk_fetches.specs.Operations.{AreStaged}
use Rattle.transactions.specs.Had.{IsDenseOrNone, had_from, snapshots_of}
use Rattle.transactions.specs.Reading.{had_by}
use Rattle.transactions.specs.Txn.{TxnSeen}
use Rattle.chunk_fetches.proofs.Laws.{if_ok_map}
use Rattle.transactions.proofs.txn.Txn.words.Goals as goal

pub returns-clause-shown : goal.returns-clause-shown
returns-clause-shown c =
    let t = c.args.self.now in
    let fetched = c.args.fetched.now in
    let seen = c.deref.ensures.value ∙ ap (λ (s : TxnSeen). s.kept) c.self.view_is in
    let same : c.deref-2.result.now ≡ snapshots_of (had_by t c.args.cells.now fetched) =
    c.deref-2.ensures.value ∙ c.in_ok-chunks.ensures.value ∙ (λ i. snapshots_of (had_from (c.requires.sources i) (seen i) fetched 0)) in
    if_ok_map c.gather.result c.gather.ensures.history (λ words h events v ops content leaves has are staged told.
    h events v ops content leaves has are (subst (λ (s : TxnSeen). AreStaged events ops s.staged) (sym c.self.view_is) staged)
    (subst (λ (chunks : List (Option SnapshotCells)). AllByRecursion (IsTold events content c.args.cells.now.pieces chunks) (unwritten ops v)) (sym same) told))

pub returns-clause-typed : goal.returns-clause-typed
returns-clause-typed c =
    let t = c.args.self.now in
    let fetched = c.args.fetched.now in
    let seen = c.deref.ensures.value ∙ ap (λ (s : TxnSeen). s.kept) c.self.view_is in
    let same : c.in_ok-chunks.chunks.items ≡ snapshots_of (had_by t c.args.cells.now fetched) = c.in_ok-chunks.ensures.value ∙ (λ i. snapshots_of (had_from (c.requires.sources i) (seen i) fetched 0)) in
    if_ok_map c.gather.result c.gather.ensures.typed (λ words h events v ops leaves has are staged typed.
    h events v ops leaves has are (subst (λ (s : TxnSeen). AreStaged events ops s.staged) (sym c.self.view_is) staged)
    (subst (λ (chunks : List (Option SnapshotCells)). AreTypedChunks events c.args.cells.now.pieces chunks) (sym (c.deref-2.ensures.value ∙ same))
    (typed (subst (λ (chunks : List (Option SnapshotCells)). AllByRecursion IsDenseOrNone chunks) same c.in_ok-chunks.ensures.dense))))
