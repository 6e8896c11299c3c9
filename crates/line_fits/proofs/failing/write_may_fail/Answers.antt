use Rattle.std.proofs.lemmas.Result.{IfOk-weaker}
use Rattle.line_fits.proofs.StoredPuts.{write_changed}
use Rattle.line_fits.proofs.failing.write_may_fail.Goals as goal

pub returns : goal.returns
returns c =
    IfOk-weaker c.puts_stored.result _ _ (λ may tells. λ events before line words front stored is count.
    let told = tells events before words front stored is count in
    let changed = write_changed before line c.args.view.now words in
    (λ so. changed.0 (told.0 so), λ h. told.1 (changed.1 h))) c.puts_stored.ensures
