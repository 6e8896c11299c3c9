use Rattle.std.proofs.Common.{◌≡◌, ◌∙◌, sym, ap, subst, length}
use Rattle.chunk_fetches.specs.Sites.{sites_of}
use Rattle.chunk_fetches.specs.Staging.{CanStage}
use Rattle.chunk_fetches.proofs.Laws.{can_stage, count_of}
use Rattle.transactions.proofs.ViewLaws.{alike_known, leaves_of_known}
use Rattle.transactions.specs.Txn.{TxnSeen}
use Rattle.transactions.proofs.StagedLaws.{on_ok_any, write_staged}
use Rattle.transactions.proofs.TxnLaws.{on_ok_two, txn_written}
use Rattle.transactions.proofs.txn.Txn.write_owned.Goals as goal

pub located-requires-clause-alike : goal.located-requires-clause-alike
located-requires-clause-alike c = alike_known c.requires.txn.events c.args.v.now c.requires.txn.txn.outline c.requires.txn.refs

pub stage-requires-clause-cells : goal.stage-requires-clause-cells
stage-requires-clause-cells c =
    let v = c.args.v.now in
    let txn = c.requires.txn.txn in
    let leaves = leaves_of_known c.requires.txn.events v txn.outline c.requires.txn.refs in
    let cells = c.in_ok-cells.cells in
    let count : length (sites_of v) ≡ length c.args.words =
    count_of (sites_of v) cells.lanes cells.leaves c.in_ok-cells.ensures.cells.casts ∙ sym (c.requires.words (length cells.leaves) c.in_ok-cells.ensures.count) in
    subst (CanStage c.args.self.now.staged cells) count (can_stage c.requires.txn.events v c.args.self.now.ops c.args.self.now.staged cells leaves c.in_ok-cells.ensures.sites c.in_ok-cells.ensures.cells txn.staged)

pub returns-clause-txn : goal.returns-clause-txn
returns-clause-txn c =
    on_ok_two c.stage.result c.stage.ensures.ok c.stage.ensures.staged
    (λ is staged opening events txn refs. txn_written opening events c.args.self.now c.stage.new.self c.args.v.now c.args.words txn refs is.0 (ap (λ (t : TxnSeen). t.kept) is.1) (staged events))

pub returns-clause-whole : goal.returns-clause-whole
returns-clause-whole c =
    let cells = c.in_ok-cells.cells in
    let count : length c.args.words ≡ length cells.leaves = c.requires.words (length cells.leaves) c.in_ok-cells.ensures.count in
    on_ok_any c.stage.result (write_staged c.args.v.now cells c.args.words c.in_ok-cells.ensures.sites c.in_ok-cells.ensures.cells c.in_ok-cells.ensures.count count c.requires.typed)
