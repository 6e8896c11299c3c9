use Rattle.std.proofs.Common.{sym, subst}
use Rattle.transcript_laws.specs.Form.{form_of}
use Rattle.transcript_laws.specs.declared.Command.{Command}
use Rattle.transcript_cut.specs.Keeping.{IsCheckedForm}
use Rattle.transcript_cut.proofs.unchecked.checked.Goals as goal

pub returns-in-Open : goal.returns-in-Open
returns-in-Open c = subst (λ (k : Command). IsCheckedForm (form_of k) c.checked_open.result) (sym c.in-Open.is) (c.checked_open.ensures _)
