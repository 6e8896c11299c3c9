use Rattle.std.proofs.Common.{◌≡◌, ◌∙◌, true, false, sym}
use Rattle.read_fits.proofs.conflicts.Conflict.was_touched.Goals as goal

pub returns-then-not-is_read : goal.returns-then-not-is_read
returns-then-not-is_read c = λ h k x kept chunk. (
  (λ so. absurd (let clash : false ≡ true = so in cc)),
  (λ are.
      let so : c.is_read.result ≡ true = (c.is_read.ensures h k x kept chunk).1 are.read_at in
      let clash : true ≡ false = sym so ∙ c.if-not-is_read.true in
      absurd (cc)),
)

pub returns : goal.returns
returns c = λ h k x kept chunk.
    let test = c.is_touched.ensures h k x kept chunk in (
      (λ so. record { read_at = (c.is_read.ensures h k x kept chunk).0 c.if-not-is_read.false; now_at = test.0 so }),
      (λ are. test.1 are.now_at),
    )
