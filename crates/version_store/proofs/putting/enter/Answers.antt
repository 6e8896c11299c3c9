use Rattle.std.proofs.Common.{◌∙◌, ap, cond, Some, List, ℕ}
use Rattle.std.specs.Str.{bytes_eq}
use Rattle.version_store.specs.Ids.{found}
use Rattle.version_store.proofs.Tables.{found-insert}
use Rattle.version_store.proofs.putting.enter.Goals as goal

pub returns-in-Ok-clause-ok : goal.returns-in-Ok-clause-ok
returns-in-Ok-clause-ok c =
    λ other.
    ap (λ es. found es other) c.in-Ok.ensures.entries
    ∙ found-insert c.in_ok-key.key c.args.chunk other c.args.table.now.entries
    ∙ ap (λ (xs : List ℕ). cond (bytes_eq xs other) (Some c.args.chunk) (found c.args.table.now.entries other)) c.in_ok-key.ensures.items
