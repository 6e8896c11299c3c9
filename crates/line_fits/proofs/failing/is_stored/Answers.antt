use Rattle.std.proofs.Common.{◌≡◌, ◌∙◌, true, false, sym, arith}
use Rattle.line_fits.proofs.failing.is_stored.Goals as goal

pub returns-then-array-opened : goal.returns-then-array-opened
returns-then-array-opened c = (
  λ so. absurd (let clash : false ≡ true = so in cc),
  λ h.
      let low = h.there in
      let high = c.if-array-opened.true in
      absurd (omega (arith, low, high)),
)

pub returns : goal.returns
returns c = (λ so. record { there = c.if-array-opened.false; is = sym c.flag_at.ensures ∙ so }, λ h. c.flag_at.ensures ∙ h.is)
