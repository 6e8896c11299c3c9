use Rattle.std.proofs.Common.{◌≡◌, ◌∙◌, ℕ, List, length, true, false, sym, ap}
use Rattle.serde_json.specs.View.{view as data_in}
use Rattle.read_fits.proofs.FitLaws.{are_told_if, none_told}
use Rattle.read_fits.proofs.reads.words_in.Goals as goal

pub returns-then-not-has_count : goal.returns-then-not-has_count
returns-then-not-has_count c =
    none_told c.args.view.now c.args.line c.args.text.now (data_in c.args.values.now) c.in_ok-words.words c.in_ok-words.ensures
    (λ count.
    let so : c.has_count.result ≡ true = c.has_count.ensures.1 (ap (λ (ws : List ℕ). length ws) c.items.ensures ∙ count) in
    let clash : true ≡ false = sym so ∙ c.if-not-has_count.true in
    absurd (cc))

pub returns : goal.returns
returns c =
    are_told_if c.args.view.now c.args.line c.args.text.now (data_in c.args.values.now) c.in_ok-words.words c.in_ok-words.ensures
    (sym (ap (λ (ws : List ℕ). length ws) c.items.ensures) ∙ c.has_count.ensures.0 c.if-not-has_count.false) c.told_or_not.result c.told_or_not.ensures
