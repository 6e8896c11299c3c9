use Rattle.std.proofs.Common.{◌<◌, ◌^◌, subst}
use Rattle.std.specs.List.{AllByRecursion}
use Rattle.output_laws.proofs.Plain.{numbers_plain}
use Rattle.output_laws.proofs.looks.look_at_numbers.Goals as goal

pub returns : goal.returns
returns c =
    let small = subst (AllByRecursion (λ n. n < 2 ^ 64)) c.items.ensures c.look_at_all_numbers.ensures in
    record { small = small; plain = numbers_plain c.args.ns.now small }
