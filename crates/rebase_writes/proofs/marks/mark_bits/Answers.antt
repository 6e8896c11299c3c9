use Rattle.std.proofs.Common.{◌≡◌, ◌∙◌, inl, inr, ap, get_or, set}
use Rattle.std.specs.Prelude.{bit_or}
use Rattle.rebase_writes.specs.Marks.{is_marked}
use Rattle.rebase_writes.proofs.MarkLaws.{bits_here, bits_others}
use Rattle.rebase_writes.proofs.marks.mark_bits.Goals as goal

pub returns-clause-here : goal.returns-clause-here
returns-clause-here c place from below =
    ap (λ w. is_marked (set c.args.marks.now c.args.at (bit_or (get_or c.args.marks.now c.args.at 0) w)) place) c.bits.ensures
    ∙ bits_here c.args.marks.now c.args.at c.args.first c.args.end place c.requires.inside c.requires.few from below

pub returns-clause-before : goal.returns-clause-before
returns-clause-before c place before =
    ap (λ w. is_marked (set c.args.marks.now c.args.at (bit_or (get_or c.args.marks.now c.args.at 0) w)) place) c.bits.ensures
    ∙ bits_others c.args.marks.now c.args.at c.args.first c.args.end place c.requires.inside c.requires.few (inl before)

pub returns-clause-behind : goal.returns-clause-behind
returns-clause-behind c place behind =
    ap (λ w. is_marked (set c.args.marks.now c.args.at (bit_or (get_or c.args.marks.now c.args.at 0) w)) place) c.bits.ensures
    ∙ bits_others c.args.marks.now c.args.at c.args.first c.args.end place c.requires.inside c.requires.few (inr behind)
