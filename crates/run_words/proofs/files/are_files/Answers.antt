use Rattle.std.proofs.Common.{sym, ◌∙◌, arith}
use Rattle.run_words.proofs.Texts.{length_texts, named_from, named_into}
use Rattle.run_words.proofs.files.are_files.Goals as goal

pub returns : goal.returns
returns c =
    let ws = c.args.words.now in (
      λ t. record {
        some = omega (arith, length_texts ws);
        few = omega (arith, length_texts ws);
        named = named_from ws (sym c.are_named.ensures ∙ t);
      },
      λ h. c.are_named.ensures ∙ named_into ws h.named,
    )
