use Rattle.std.proofs.Common.{sym, ap, subst, ◌∙◌}
use Rattle.chunk_forms.specs.Metadata.{with_shape}
use Rattle.history.specs.Arrays.{form_of}
use Rattle.stated_arrays.specs.Outcomes.{IsToldAs}
use Rattle.stated_arrays.proofs.OutcomeLaws.{checked_by, closed_by}
use Rattle.stated_arrays.proofs.outcomes.checked.Goals as goal

pub returns-in-Ok : goal.returns-in-Ok
returns-in-Ok c = λ events k known same shape.
    subst (IsToldAs events c.compared.result)
    (sym (checked_by c.args.asked.now c.args.info.now c.in-Ok.form k c.if-not-asked.false (c.in-Ok.ensures ∙ ap (with_shape (form_of c.args.info.now.home)) c.items.ensures) same shape))
    (c.compared.ensures events k known)
