-- One line more that is waited for.
use Rattle.std.proofs.Common.{◌≡◌, ◌↔◌, List, [], ◌∷◌, ◌++◌, sym, subst}
use Rattle.std.specs.List.{AllByRecursion}
use Rattle.history.specs.History.{History}
use Rattle.open_fits.specs.Sweeps.{IsMetIn}
use Rattle.open_fits.specs.declared.Waiting.{Waiting}
use Rattle.open_fits.specs.Opens.{IsRefusedAt}
use Rattle.open_fits.specs.declared.questions.OpenQuestion.{OpenQuestion}
use Rattle.transcript_fits.specs.Pendings.{Holds, IsSo}
use Rattle.transcript_fits.specs.declared.line_fit.LineFit.{LineFit}
use Rattle.transcript_fits.specs.declared.line_fit.LineFit.TheVariants.{IfRefused, IfMet}
use Rattle.transcript_fits.specs.declared.pending.Pending.{Pending}

all_more : {A : Type 0} (P : A → Type 0) (xs : List A) (x : A) → AllByRecursion P (xs ++ x ∷ []) ↔ (AllByRecursion P xs × P x)
all_more P [] x = (λ all. (tt, all.0), λ all. (all.1, tt))
all_more P (y ∷ xs) x =
    let rest = all_more P xs x in (
      λ all. let r = rest.0 all.1 in ((all.0, r.0), r.1),
      λ all. (all.0.0, rest.1 (all.0.1, all.1)),
    )

pub refused_more : (h : History) (old new : Pending) (q : OpenQuestion) (fit : LineFit) → fit ≡ IfRefused q → new.questions.items ≡ old.questions.items ++ q ∷ [] → new.waiting.items ≡ old.waiting.items → Holds h new ↔ (Holds h old × IsSo h fit)
refused_more h old new q fit is more same = (
  λ holds.
      let all = (all_more (IsRefusedAt h) old.questions.items q).0 (subst (AllByRecursion (IsRefusedAt h)) more holds.refused) in
      (record { refused = all.0; met = subst (AllByRecursion (IsMetIn h)) same holds.met }, subst (IsSo h) (sym is) all.1),
  λ both. record {
    refused = subst (AllByRecursion (IsRefusedAt h)) (sym more) ((all_more (IsRefusedAt h) old.questions.items q).1 (both.0.refused, subst (IsSo h) is both.1));
    met = subst (AllByRecursion (IsMetIn h)) (sym same) both.0.met;
  },
)

pub met_more : (h : History) (old new : Pending) (w : Waiting) (fit : LineFit) → fit ≡ IfMet w → new.waiting.items ≡ old.waiting.items ++ w ∷ [] → new.questions.items ≡ old.questions.items → Holds h new ↔ (Holds h old × IsSo h fit)
met_more h old new w fit is more same = (
  λ holds.
      let all = (all_more (IsMetIn h) old.waiting.items w).0 (subst (AllByRecursion (IsMetIn h)) more holds.met) in
      (record { refused = subst (AllByRecursion (IsRefusedAt h)) same holds.refused; met = all.0 }, subst (IsSo h) (sym is) all.1),
  λ both. record {
    refused = subst (AllByRecursion (IsRefusedAt h)) (sym same) both.0.refused;
    met = subst (AllByRecursion (IsMetIn h)) (sym more) ((all_more (IsMetIn h) old.waiting.items w).1 (both.0.met, subst (IsSo h) is both.1));
  },
)
