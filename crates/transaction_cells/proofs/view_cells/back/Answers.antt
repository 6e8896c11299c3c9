use Rattle.std.proofs.Common.{refl, sym, ◌∙◌}
use Rattle.transaction_cells.proofs.CastLaws.{plain_back}
use Rattle.transaction_cells.proofs.view_cells.back.Goals as goal

pub returns-then-are_plain : goal.returns-then-are_plain
returns-then-are_plain c =
    c.in_ok-from_slice.ensures.items ∙ sym (plain_back c.args.lanes.now c.args.leaves.now c.args.words.now (c.if-are_plain.ensures refl) c.requires.count)
