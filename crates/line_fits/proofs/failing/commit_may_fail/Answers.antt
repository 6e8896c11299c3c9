use Rattle.std.proofs.lemmas.Result.{IfOk-weaker}
use Rattle.line_fits.proofs.StoredPuts.{changed_is}
use Rattle.line_fits.proofs.failing.commit_may_fail.Goals as goal

pub returns : goal.returns
returns c =
    IfOk-weaker c.ops_put_stored.result _ _ (λ may tells. λ events before t front stored each same.
    let told = tells events before front stored each in
    let changed = changed_is before t c.args.ops.now same in
    (λ so. changed.0 (told.0 so), λ h. told.1 (changed.1 h))) c.ops_put_stored.ensures
