-- A resize may be asked.
use Rattle.std.proofs.Common.{◌≡◌, ℕ, suc, ◌<◌, ◌≤◌, ◌-◌, ◌^◌, List, [], ◌∷◌, length, Bool, false, Option, Some, None, refl, sym, ap, ◌∙◌, arith}
use Rattle.std.specs.Prelude.{IsSome, slice_index}
use Rattle.std.specs.List.{AllByRecursion}
use Rattle.cells.specs.Shapes.{IsShape}
use Rattle.history.specs.Arrays.{Known, known_after, is_local}
use Rattle.state_laws.specs.Fetches.{bounds_in}
use Rattle.state_laws.specs.Log.{Log}
use Rattle.state_laws.specs.Seen.{StoreSeen}
use Rattle.state_laws.specs.declared.reading.Bounds.{Bounds}
use Rattle.state_laws.proofs.Laws.{good_in}
use Rattle.state_resizes.specs.Conditions.{IsAsked}
use Rattle.state_cases.specs.Ready.{IsReady}

known_some : (o : Option Known) → IsSome o → (k : Known) × (o ≡ Some k)
known_some None some = absurd (cc)
known_some (Some k) some = (k, refl)

sizes_each : (shape : List ℕ) → ((k : ℕ) → k < length shape → slice_index shape k ≤ 2 ^ 62 - 2) → AllByRecursion (λ s. s ≤ 2 ^ 62 - 2) shape
sizes_each [] each = tt
sizes_each (s ∷ shape) each = (each 0 (omega arith), sizes_each shape (λ k low. each (suc k) (omega arith)))

pub asked_by : (store : StoreSeen) (log : Log) (a : ℕ) (shape : List ℕ) (local : Bool) (bounds : Bounds) → IsReady store log → IsSome (known_after log.events a) → ((k : Known) → known_after log.events a ≡ Some k → local ≡ is_local k.info.home) → local ≡ false
    → ((k : Known) → known_after log.events a ≡ Some k → bounds ≡ bounds_in log.events a k) → length shape ≡ length bounds.shape → IsShape shape → IsAsked log.events a shape
asked_by store log a shape local bounds ready some is stored told rank valid =
    let known = known_some (known_after log.events a) some in
    let k = known.0 in
    record {
      array = k;
      known = known.1;
      may = record {
        stored = sym (is k known.1) ∙ stored;
        rank = rank ∙ ap (λ (b : Bounds). length b.shape) (told k known.1) ∙ (good_in log.events ready.agrees.outline a k known.1).rank;
        sizes = sizes_each shape valid.sizes;
      };
    }
