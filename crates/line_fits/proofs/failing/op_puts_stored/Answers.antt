use Rattle.std.proofs.Common.{◌≡◌, true, false, sym, subst}
use Rattle.std.specs.Prelude.{◌↔◌, IsTrue}
use Rattle.std.proofs.lemmas.Result.{IfOk-weaker}
use Rattle.history.specs.Legal.{viewed}
use Rattle.history.specs.Writes.{puts_of_op}
use Rattle.history.specs.declared.event.Op.{Op}
use Rattle.event_replay.specs.Sweeps.{IsOpIn, IsViewIn}
use Rattle.line_fits.specs.StoredPuts.{PutsStored}
use Rattle.line_fits.proofs.StoredPuts.{no_puts}
use Rattle.line_fits.proofs.failing.op_puts_stored.Goals as goal

pub puts_stored-requires : goal.puts_stored-requires
puts_stored-requires c = (c.requires.0, c.requires.1, c.requires.2, subst (λ (op : Op). IsViewIn c.requires.0 (viewed op)) c.in-Write.is c.requires.3.view)

pub returns-in-Write : goal.returns-in-Write
returns-in-Write c =
    IfOk-weaker c.puts_stored.result _ _ (λ may tells. λ events before front stored in_history.
    let is = subst (IsOpIn events) c.in-Write.is in_history in
    subst (λ (op : Op). IsTrue may ↔ PutsStored before (puts_of_op op)) (sym c.in-Write.is) (tells events before _ front stored is.view is.writes.0)) c.puts_stored.ensures

pub returns-in-Read : goal.returns-in-Read
returns-in-Read c = λ events before front stored in_history. (
  λ so. absurd (let clash : false ≡ true = so in cc),
  λ puts. absurd (no_puts before (subst (λ (op : Op). PutsStored before (puts_of_op op)) c.in-Read.is puts)),
)
