use Rattle.std.proofs.Common.{◌≡◌, Err, sym, ◌∙◌, ap}
use Rattle.chunk_plans.proofs.Forms.{may_lay_by}
use Rattle.chunk_plans.proofs.Plans.{left_over_read, base_dtype}
use Rattle.chunk_plans.proofs.Same.{err_and, err_told}
use Rattle.shared_state.specs.declared.FetchError.TheVariants as fetch
use Rattle.chunk_plans.proofs.planning.read_over.Goals as goal

pub left_in-requires-clause-fill : goal.left_in-requires-clause-fill
left_in-requires-clause-fill g c = (may_lay_by c.args.write.now c.args.form.now c.requires.agrees c.requires.write c.requires.form).fill

pub left_in-requires-clause-chunk : goal.left_in-requires-clause-chunk
left_in-requires-clause-chunk g c = (may_lay_by c.args.write.now c.args.form.now c.requires.agrees c.requires.write c.requires.form).chunk

pub left_in-requires-clause-words : goal.left_in-requires-clause-words
left_in-requires-clause-words g c = (may_lay_by c.args.write.now c.args.form.now c.requires.agrees c.requires.write c.requires.form).words

pub left_in-requires-clause-base_dtype : goal.left_in-requires-clause-base_dtype
left_in-requires-clause-base_dtype g c =
    base_dtype c.args.write.now c.args.form.now (record { generation = c.in_ok-base.ensures.answered.0; cells = c.in_ok-base.base }) c.requires.agrees c.requires.write c.requires.form c.in_ok-base.ensures.answered.1

pub returns-clause-plan : goal.returns-clause-plan
returns-clause-plan g c opening start k agrees told known =
    left_over_read opening start _ _ c.args.write.now k c.args.form.now (record { generation = c.in_ok-base.ensures.answered.0; cells = c.in_ok-base.base }) c.in_ok-left_in.field-0.cells c.in_ok-left_in.field-0.bytes
    c.in_ok-base.ensures.answered.1 agrees told known (c.requires.form k known).1 c.in_ok-left_in.ensures

pub returns-clause-cells : goal.returns-clause-cells
returns-clause-cells g c = record { dtype = c.in_ok-left_in.ensures.dtype; shape = c.in_ok-left_in.ensures.shape }

pub returns-in_err-base-clause-failed : goal.returns-in_err-base-clause-failed
returns-in_err-base-clause-failed g c event e =
    let told = err_and _ c.from_residual.result (fetch.StoreFailed event) e c.from_residual.ensures.1 in
    let is : c.cells_at.result ≡ Err (fetch.StoreFailed event) = c.in_err-base.was ∙ ap Err (sym told) in c.cells_at.ensures.failed event is

pub returns-in_err-base-clause-damaged : goal.returns-in_err-base-clause-damaged
returns-in_err-base-clause-damaged g c name cause e =
    let told = err_and _ c.from_residual.result (fetch.Damaged name cause) e c.from_residual.ensures.1 in
    let is : c.cells_at.result ≡ Err (fetch.Damaged name cause) = c.in_err-base.was ∙ ap Err (sym told) in c.cells_at.ensures.damaged name cause is

pub returns-in_err-base-clause-memory : goal.returns-in_err-base-clause-memory
returns-in_err-base-clause-memory g c e =
    let told = err_and _ c.from_residual.result fetch.Memory e c.from_residual.ensures.1 in
    let is : c.cells_at.result ≡ Err fetch.Memory = c.in_err-base.was ∙ ap Err (sym told) in c.cells_at.ensures.memory is

pub returns-in_err-base-clause-told : goal.returns-in_err-base-clause-told
returns-in_err-base-clause-told g c more =
    let why = c.cells_at.ensures.told more in
    (why.0, err_told c.from_residual.result c.cells_at.result _ (fetch.StoreFailed why.0) c.from_residual.ensures.0 c.from_residual.ensures.1 c.in_err-base.was why.1)

pub returns-in_err-left_in-clause-told : goal.returns-in_err-left_in-clause-told
returns-in_err-left_in-clause-told g c more =
    let why = c.cells_at.ensures.told more in
    let no = sym c.in_ok-base.was ∙ why.1 in
    absurd (cc)

pub returns-clause-told : goal.returns-clause-told
returns-clause-told g c more =
    let why = c.cells_at.ensures.told more in
    let no = sym c.in_ok-base.was ∙ why.1 in
    absurd (cc)
