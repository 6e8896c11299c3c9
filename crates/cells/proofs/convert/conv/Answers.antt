-- The low bits decide the conversion, and the word of an outcome stands for it.
use Rattle.std.proofs.Common.{ap, ◌∙◌}
use Rattle.cells.specs.Numbers.{converted, word_of}
use Rattle.std.proofs.Common.{pos}
use Rattle.cells.proofs.NumberLaws.{conv_word-low_bits, IsConverted-conv_word}
use Rattle.cells.proofs.convert.conv.Goals as goal

pub returns-clause-value : goal.returns-clause-value
returns-clause-value c =
    c.extended.ensures ∙ ap (λ low. word_of (converted c.args.to (pos low))) c.low_bits.ensures
    ∙ conv_word-low_bits c.args.from c.args.word c.args.to c.ranges.word.fits

pub returns-clause-congruent : goal.returns-clause-congruent
returns-clause-congruent c = IsConverted-conv_word c.args.from c.args.word c.args.to _ (returns-clause-value c)
