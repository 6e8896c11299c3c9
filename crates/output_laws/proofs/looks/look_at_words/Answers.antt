use Rattle.std.proofs.Common.{◌<◌, ◌^◌, subst}
use Rattle.std.specs.List.{AllByRecursion}
use Rattle.output_laws.proofs.looks.look_at_words.Goals as goal

pub returns : goal.returns
returns c = subst (AllByRecursion (λ n. n < 2 ^ 64)) c.items.ensures c.look_at_all_numbers.ensures
