use Rattle.std.proofs.Common.{◌≡◌, true, false, sym, inr, refl, ◌∙◌}
use Rattle.run_words.specs.Options.{texts_of}
use Rattle.run_words.proofs.Texts.{only_plain, plain_from, plain_into}
use Rattle.run_words.proofs.files.files.Goals as goal

pub returns-then-are_plain-clause-some : goal.returns-then-are_plain-clause-some
returns-then-are_plain-clause-some c =
    let ws = c.args.rest.now in
    record {
      files = texts_of ws;
      place = inr (refl, refl, plain_from ws (sym c.are_plain.ensures ∙ c.if-are_plain.true));
      good = c.are_files-in-None.ensures.0 c.if-not-are_files.false;
    }

pub returns-else-are_plain-clause-only : goal.returns-else-are_plain-clause-only
returns-else-are_plain-clause-only c = λ first h.
    let ws = c.args.rest.now in
    let p = only_plain c.args.start first (texts_of ws) (c.marked.ensures.none c.in-None.is) h in
    let clash : true ≡ false = sym (plain_into ws p.1) ∙ sym c.are_plain.ensures ∙ c.if-are_plain.false in
    absurd (cc)
