use Rattle.std.proofs.Common.{◌∙◌, sym}
use Rattle.chunk_fetches.specs.Sources.{new_pieces}
use Rattle.chunk_fetches.proofs.FetchLaws.{none_fetched, none_new}
use Rattle.chunk_fetches.proofs.fetching.fetch.Goals as goal

pub returns-then-not-has_new-clause-fetched : goal.returns-then-not-has_new-clause-fetched
returns-then-not-has_new-clause-fetched g c =
    none_fetched c.args.around.now.book.now.fixed c.args.pass.now.seen (new_pieces c.args.sources.now c.args.pieces.now) c.new.result.items
    (none_new c.args.sources.now c.args.pieces.now (sym c.has_new.ensures ∙ c.if-not-has_new.true)) c.new.ensures.items
