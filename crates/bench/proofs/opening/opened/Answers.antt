use Rattle.bench.proofs.CommitLaws.{if_ok_map, opened_known}
use Rattle.bench.proofs.opening.opened.Goals as goal

pub returns-in-Ok-clause-refs : goal.returns-in-Ok-clause-refs
returns-in-Ok-clause-refs g c =
    if_ok_map c.leaf.result c.leaf.ensures.refs
    (λ v refs. refs c.open_in_turn.new.pass.seen (opened_known c.args.book.now c.args.pass.now c.open_in_turn.new.pass _ c.in-Ok.opened c.requires.pass c.in-Ok.ensures))
