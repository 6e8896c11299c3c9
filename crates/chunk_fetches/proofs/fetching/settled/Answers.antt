use Rattle.std.proofs.Common.{sym, subst, append-nil}
use Rattle.std.specs.Prelude.{[]}
use Rattle.chunk_fetches.specs.Fetched.{AreFetchedAt}
use Rattle.chunk_fetches.specs.Sources.{new_pieces}
use Rattle.chunk_fetches.proofs.FetchLaws.{fetched_all, if_ok_map}
use Rattle.chunk_fetches.proofs.fetching.settled.Goals as goal

pub returns-then-not-has_decoded-clause-fetched : goal.returns-then-not-has_decoded-clause-fetched
returns-then-not-has_decoded-clause-fetched g c =
    let news = new_pieces c.args.sources.now c.args.pieces.now in
    let fixed = c.args.around.now.book.now.fixed in
    let seen = c.args.pass.now.seen in
    if_ok_map c.kept.result c.kept.ensures.kept (λ fetched same.
    subst (AreFetchedAt fixed seen c.args.mark news) (sym same)
    (fetched_all fixed seen seen [] c.args.mark news c.args.fresh.items (append-nil seen) c.requires.mark c.requires.named c.requires.fresh))

pub returns-in-Ok-clause-fetched : goal.returns-in-Ok-clause-fetched
returns-in-Ok-clause-fetched g c =
    let news = new_pieces c.args.sources.now c.args.pieces.now in
    let fixed = c.args.around.now.book.now.fixed in
    let on = c.settle_in_turn.ensures.before in
    if_ok_map c.kept-in-Ok.result c.kept-in-Ok.ensures.kept (λ fetched same.
    subst (AreFetchedAt fixed c.settle_in_turn.new.pass.seen c.args.mark news) (sym same)
    (fetched_all fixed c.settle_in_turn.new.pass.seen c.args.pass.now.seen on.0 c.args.mark news c.args.fresh.items on.1 c.requires.mark c.requires.named c.requires.fresh))
