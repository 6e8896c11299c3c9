use Rattle.std.proofs.Common.{◌∙◌, refl, replicate, sym}
use Rattle.std.proofs.lemmas.List.{length-replicate}
use Rattle.transaction_cells.proofs.CastLaws.{plain_back}
use Rattle.transaction_cells.proofs.view_cells.one_back.Goals as goal

pub returns-then-are_plain : goal.returns-then-are_plain
returns-then-are_plain c =
    c.in_ok-words.ensures.items_if_clones_equal (λ y e. e) ∙ sym (plain_back c.args.lanes.now c.args.leaves.now (replicate c.args.count c.args.word) (c.if-are_plain.ensures refl) (length-replicate c.args.count c.args.word ∙ c.requires.count))
