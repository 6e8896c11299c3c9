use Rattle.std.proofs.Common.{◌∙◌, ap, length, subst, sym}
use Rattle.std.specs.Prelude.{All}
use Rattle.serde_json.specs.View.{view}
use Rattle.cells.specs.Numbers.{IsWord}
use Rattle.script_lines.proofs.GivenWords.{nested_words-are}
use Rattle.script_lines.proofs.words.words_of_values.Goals as goal

pub returns-in-Ok-clause-full : goal.returns-in-Ok-clause-full
returns-in-Ok-clause-full c =
    ap length c.each.ensures ∙ (nested_words-are c.args.dtype c.args.shape.now (view c.args.values.now) c.in-Ok.words.items c.in-Ok.ensures.ok).full

pub returns-in-Ok-clause-of_dtype : goal.returns-in-Ok-clause-of_dtype
returns-in-Ok-clause-of_dtype c =
    subst (All (IsWord c.args.dtype)) (sym c.each.ensures) (nested_words-are c.args.dtype c.args.shape.now (view c.args.values.now) c.in-Ok.words.items c.in-Ok.ensures.ok).of_dtype
