use Rattle.std.proofs.Common.{◌≡◌, ◌∙◌, cond, Some, None, sym, ap}
use Rattle.std.specs.Str.{bytes_eq}
use Rattle.transaction_cells.specs.Found.{found}
use Rattle.transaction_cells.proofs.TableLaws.{found-insert}
use Rattle.transaction_cells.proofs.StagingLaws.{new_prepared, none_of}
use Rattle.transaction_cells.proofs.staging.add.Goals as goal

pub returns-in-Ok-clause-ok : goal.returns-in-Ok-clause-ok
returns-in-Ok-clause-ok c id =
    let old = c.args.table.now.entries in
    let p = c.args.piece.now in
    let named : c.in_ok-id.id.items ≡ p.id = c.in_ok-id.ensures.items ∙ c.items-2.ensures in
    let absent : found old c.items.result.now ≡ None = none_of (found old c.items.result.now) (sym c.contains_key.ensures ∙ c.if-contains_key.false) in
    ap (λ es. found es id) c.in-Ok.ensures.entries
    ∙ found-insert c.in_ok-id.id c.in_ok-staged.staged id old
    ∙ (λ i. cond (bytes_eq (named i) id) (Some (c.in_ok-staged.ensures i)) (found old id))
    ∙ new_prepared p id (found old id) (λ same. ap (λ xs. found old xs) (sym (c.items.ensures ∙ same)) ∙ absent)
