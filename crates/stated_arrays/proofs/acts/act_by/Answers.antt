use Rattle.std.proofs.Common.{sym, subst}
use Rattle.transcript_cut.specs.declared.Command.{Command}
use Rattle.stated_arrays.specs.declared.acts.Act.TheVariants.{Begin, Other}
use Rattle.stated_arrays.proofs.Meanings.{IsActOfCommand, begins_one, views_quietly, joins_quietly, reads_quietly, writes_quietly, resizes_quietly, resolves_quietly}
use Rattle.stated_arrays.proofs.acts.act_by.Goals as goal

pub returns-in-Begin-clause-asked : goal.returns-in-Begin-clause-asked
returns-in-Begin-clause-asked c = subst (λ (k : Command). IsActOfCommand k Begin) (sym c.in-Begin.is) (begins_one _ _)

pub returns-in-View-clause-asked : goal.returns-in-View-clause-asked
returns-in-View-clause-asked c = subst (λ (k : Command). IsActOfCommand k Other) (sym c.in-View.is) (views_quietly _ _ _ _)

pub returns-in-Join-clause-asked : goal.returns-in-Join-clause-asked
returns-in-Join-clause-asked c = subst (λ (k : Command). IsActOfCommand k Other) (sym c.in-Join.is) (joins_quietly _ _ _ _ _)

pub returns-in-Read-clause-asked : goal.returns-in-Read-clause-asked
returns-in-Read-clause-asked c = subst (λ (k : Command). IsActOfCommand k Other) (sym c.in-Read.is) (reads_quietly _ _ _)

pub returns-in-Write-clause-asked : goal.returns-in-Write-clause-asked
returns-in-Write-clause-asked c = subst (λ (k : Command). IsActOfCommand k Other) (sym c.in-Write.is) (writes_quietly _ _ _)

pub returns-in-Resize-clause-asked : goal.returns-in-Resize-clause-asked
returns-in-Resize-clause-asked c = subst (λ (k : Command). IsActOfCommand k Other) (sym c.in-Resize.is) (resizes_quietly _ _)

pub returns-in-Resolve-clause-asked : goal.returns-in-Resolve-clause-asked
returns-in-Resolve-clause-asked c = subst (λ (k : Command). IsActOfCommand k Other) (sym c.in-Resolve.is) (resolves_quietly _)
