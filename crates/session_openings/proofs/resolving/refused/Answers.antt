use Rattle.std.proofs.Common.{◌≡◌, ◌∙◌, Err, inl, inr, refl, sym, ap}
use Rattle.history.proofs.KnownViews.{never_renewed}
use Rattle.session_openings.proofs.resolving.refused.Goals as goal

pub returns-in-Refused : goal.returns-in-Refused
returns-in-Refused c = λ shape view name names leaf is.
    inr (inl (record { cause = c.in-Refused.cause; renewal = is (λ e. let clash = sym c.in-Refused.is ∙ e in cc) ∙ ap Err c.in-Refused.is; told = refl; same = refl }))

pub returns-in-NotArray : goal.returns-in-NotArray
returns-in-NotArray c = λ shape view name names leaf is.
    absurd (never_renewed shape view leaf.0 leaf.1 (inl (is (λ e. let clash = sym c.in-NotArray.is ∙ e in cc) ∙ ap Err c.in-NotArray.is)))

pub returns-in-Memory : goal.returns-in-Memory
returns-in-Memory c = λ shape view name names leaf is. inr (inr (refl, refl))
