use Rattle.std.proofs.Common.{inl, inr, refl}
use Rattle.read_fits.proofs.conflicts.is_read.Goals as goal

pub returns-then-number-eq0 : goal.returns-then-number-eq0
returns-then-number-eq0 c = λ h k x kept chunk. ((λ so. inl c.if-number-eq0.true), (λ either. refl))

pub returns-else-number-eq0 : goal.returns-else-number-eq0
returns-else-number-eq0 c = λ h k x kept chunk.
    let test = c.is_touched.ensures h k x kept chunk in (
      (λ so. inr (test.0 so)),
      (λ either. elim either [
        | inl none ↦ absurd (c.if-number-eq0.false none)
        | inr touched ↦ test.1 touched
      ]),
    )
