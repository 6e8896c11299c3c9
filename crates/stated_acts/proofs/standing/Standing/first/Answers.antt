use Rattle.std.proofs.Common.{None, ap}
use Rattle.std.specs.Prelude.{string_bytes}
use Rattle.std.specs.Str.{bytes_eq}
use Rattle.std.specs.Map.{lookup}
use Rattle.stated_acts.proofs.StandingLaws.{sound_first}
use Rattle.stated_acts.proofs.standing.Standing.first.Goals as goal

pub returns-clause-stands : goal.returns-clause-stands
returns-clause-stands c = λ i. record { names = λ name. ap (λ es. lookup (λ k. bytes_eq name (string_bytes k)) es) c.new.ensures.empty i; transaction = None }

pub returns-clause-sound : goal.returns-clause-sound
returns-clause-sound c =
    sound_first (record { names = c.new.result; transaction = None })
    (λ i. record { names = λ name. ap (λ es. lookup (λ k. bytes_eq name (string_bytes k)) es) c.new.ensures.empty i; transaction = None })
