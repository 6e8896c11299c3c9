-- What is told of lines, by what is the same.
use Rattle.std.proofs.Common.{◌≡◌, ◌↔◌, Bool, true, false, refl, sym, subst, ◌∙◌}
use Rattle.std.specs.Prelude.{IsTrue}
use Rattle.history.specs.History.{History}
use Rattle.transcript_fits.specs.LineFits.{IsLineFit, IsPlainFit}
use Rattle.transcript_fits.specs.declared.line_fit.LineFit.{LineFit}
use Rattle.transcript_fits.specs.declared.line_fit.LineFit.TheVariants.{Unfit, Fits, IfRefused, IfMet}

-- of what is so at the same time
pub fit_same : (h : History) (A B : Type 0) (fit : LineFit) → A ↔ B → IsLineFit h A fit → IsLineFit h B fit
fit_same h A B Unfit same is = λ b. is (same.1 b)
fit_same h A B Fits same is = same.0 is
fit_same h A B (IfRefused question) same is = (λ b. is.0 (same.1 b), λ told. same.0 (is.1 told))
fit_same h A B (IfMet waiting) same is = (λ b. is.0 (same.1 b), λ told. same.0 (is.1 told))

-- by a test
pub fit_by : (h : History) (A : Type 0) (is : Bool) (fit : LineFit) → (is ≡ true → fit ≡ Fits) → (is ≡ false → fit ≡ Unfit) → IsTrue is ↔ A → IsLineFit h A fit
fit_by h A true fit told never test = subst (IsLineFit h A) (sym (told refl)) (test.0 refl)
fit_by h A false fit told never test = subst (IsLineFit h A) (sym (never refl)) (λ a. (let clash : false ≡ true = test.1 a in cc))

-- it fits, or it doesn't
pub fit_yes : (h : History) (A : Type 0) (is : Bool) → is ≡ true → IsTrue is ↔ A → IsLineFit h A Fits
fit_yes h A is told test = test.0 told

-- no test is false of what is so
pub not_so : (is : Bool) → is ≡ false → IsTrue is → ⊥
not_so is told so = let clash : false ≡ true = sym told ∙ so in cc

-- a test waits for nothing
pub plain_by : (is : Bool) (fit : LineFit) → (is ≡ true → fit ≡ Fits) → (is ≡ false → fit ≡ Unfit) → IsPlainFit fit
plain_by true fit told never = subst IsPlainFit (sym (told refl)) tt
plain_by false fit told never = subst IsPlainFit (sym (never refl)) tt
