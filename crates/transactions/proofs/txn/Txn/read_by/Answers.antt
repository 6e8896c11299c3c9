use Rattle.std.proofs.Common.{List, length, sym, subst}
use Rattle.std.specs.List.{AllByRecursion}
use Rattle.chunk_fetches.specs.declared.Piece.{Piece}
use Rattle.chunk_fetches.specs.Fetching.{IsFetchError}
use Rattle.chunk_fetches.specs.Looking.{AreChunks}
use Rattle.chunk_fetches.specs.Sources.{new_pieces}
use Rattle.chunk_fetches.specs.declared.source.Source.{Source}
use Rattle.chunk_fetches.proofs.Laws.{if_err_map, if_ok_map, IsNamed}
use Rattle.transactions.proofs.ReadLaws.{chunks_later, fetch_refused, new_names, read_by_is, stray_refused, txn_after}
use Rattle.transactions.proofs.txn.Txn.read_by.Goals as goal

pub fetch-requires-clause-chunks : goal.fetch-requires-clause-chunks
fetch-requires-clause-chunks g c events on legal =
    subst (λ (p : List Source × List Piece). AreChunks events (new_pieces p.0 p.1)) (λ i. (sym c.requires.sources i, sym c.items.ensures i))
    (chunks_later c.args.around.now.book.now.fixed c.args.pass.now.seen c.args.self.now c.args.v.now c.args.cells.now c.requires.read events on legal)

pub fetch-requires-clause-named : goal.fetch-requires-clause-named
fetch-requires-clause-named g c =
    subst (λ (p : List Source × List Piece). AllByRecursion (λ (q : Piece). IsNamed q.id) (new_pieces p.0 p.1)) (λ i. (sym c.requires.sources i, sym c.items.ensures i))
    (new_names c.args.around.now.book.now.fixed c.args.pass.now.seen c.args.self.now c.args.v.now c.args.cells.now c.requires.read)

pub read_fetched-requires-clause-read : goal.read_fetched-requires-clause-read
read_fetched-requires-clause-read g c = (
  length c.args.pass.now.seen,
  read_by_is c.args.around.now.book.now c.args.pass.now c.fetch.new.pass c.args.self.now c.args.v.now c.args.cells.now c.args.sources.now c.items.result.now c.in-Ok.fetched.items c.requires.read c.in-Ok.ensures.ok c.requires.sources c.items.ensures c.in-Ok.ensures.fetched,
)

pub returns-in-Ok-clause-read : goal.returns-in-Ok-clause-read
returns-in-Ok-clause-read g c =
    if_ok_map c.read_fetched.result c.read_fetched.ensures.read (λ words f. f (length c.args.pass.now.seen)
    (read_by_is c.args.around.now.book.now c.args.pass.now c.fetch.new.pass c.args.self.now c.args.v.now c.args.cells.now c.args.sources.now c.items.result.now c.in-Ok.fetched.items c.requires.read c.in-Ok.ensures.ok c.requires.sources c.items.ensures c.in-Ok.ensures.fetched))

pub returns-in-Ok-clause-errors : goal.returns-in-Ok-clause-errors
returns-in-Ok-clause-errors g c =
    if_err_map c.read_fetched.result c.read_fetched.ensures.errors (λ e is.
    stray_refused c.args.around.now.book.now c.args.pass.now c.fetch.new.pass c.read_fetched.new.pass c.args.self.now c.args.v.now c.args.cells.now c.in-Ok.fetched.items e
    (read_by_is c.args.around.now.book.now c.args.pass.now c.fetch.new.pass c.args.self.now c.args.v.now c.args.cells.now c.args.sources.now c.items.result.now c.in-Ok.fetched.items c.requires.read c.in-Ok.ensures.ok c.requires.sources c.items.ensures c.in-Ok.ensures.fetched) c.in-Ok.ensures.ok is)

pub returns-in-Err-clause-errors : goal.returns-in-Err-clause-errors
returns-in-Err-clause-errors g c =
    fetch_refused c.args.around.now.book.now c.args.pass.now c.fetch.new.pass c.args.self.now c.args.v.now c.args.cells.now c.in-Err.e c.requires.read
    (subst (λ (p : List Source × List Piece). IsFetchError c.args.around.now.book.now c.args.pass.now c.fetch.new.pass (new_pieces p.0 p.1) c.in-Err.e) (λ i. (c.requires.sources i, c.items.ensures i)) c.in-Err.ensures.refused)

pub returns-in-Err-clause-txn : goal.returns-in-Err-clause-txn
returns-in-Err-clause-txn g c = txn_after c.args.around.now.book.now c.args.pass.now c.fetch.new.pass c.args.self.now c.args.v.now c.args.cells.now c.in-Err.e c.requires.read.txn (returns-in-Err-clause-errors g c)
