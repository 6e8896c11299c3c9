use Rattle.std.proofs.Common.{◌≡◌, List, ℕ, None, cond, subst}
use Rattle.std.specs.Str.{bytes_eq}
use Rattle.locations.specs.Tables.{place_at}
use Rattle.locations.proofs.Tables.{took_out, out_named, out_numbers}
use Rattle.locations.proofs.table.unlist.Goals as goal

pub returns-clause-unlisted : goal.returns-clause-unlisted
returns-clause-unlisted c =
    out_numbers c.args.table.now c.remove.new.self c.args.location.now
    (subst (λ l. (other : List ℕ) → place_at c.remove.new.self other ≡ cond (bytes_eq l other) None (place_at c.args.table.now other)) c.as_bytes.ensures.value
    (took_out c.args.table.now c.remove.new.self c.as_bytes.result.now c.remove.ensures.updates.1 c.remove.ensures.entries))

pub returns-clause-named : goal.returns-clause-named
returns-clause-named c = λ named.
    out_named c.args.table.now c.remove.new.self c.args.location.now named
    (subst (λ l. (other : List ℕ) → place_at c.remove.new.self other ≡ cond (bytes_eq l other) None (place_at c.args.table.now other)) c.as_bytes.ensures.value
    (took_out c.args.table.now c.remove.new.self c.as_bytes.result.now c.remove.ensures.updates.1 c.remove.ensures.entries))
