use Rattle.std.proofs.Common.{sym, ◌∙◌, ◌≡◌, drop, rules}
use Rattle.kv_mounts.specs.Parts.{begins}
use Rattle.kv_mounts.proofs.Begins.{cut_from}
use Rattle.kv_mounts.proofs.mount.lies_below.Goals as goal

pub returns-clause-cut : goal.returns-clause-cut
returns-clause-cut c = λ is.
    let same : c.begins.result ≡ begins c.args.name.now (drop c.args.from c.args.key.now) = search rules in
    cut_from c.args.name.now c.args.key.now c.args.from c.utf8.key c.requires (sym same ∙ is)
