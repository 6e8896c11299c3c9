-- A look at a chunk that isn't kept leaves the log as it was.
use Rattle.std.proofs.Common.{◌≡◌, ℕ, List, ◌∷◌, Bool, false, cond, None, ap, ◌∙◌}
use Rattle.std.specs.Option.{option_map_or}
use Rattle.chunk_cache.specs.Cache.{kept, without, after_hit}
use Rattle.history.specs.Arrays.{Known, is_local}
use Rattle.shared_state.specs.Fetches.{looked_at}
use Rattle.shared_state.specs.Log.{Log}

after_miss : (key : List ℕ) (log : Log) → kept key log.cache.entries ≡ None → after_hit key log.cache.entries ≡ log.cache.entries
after_miss key log is = ap (λ found. option_map_or (λ snapshot. (key, snapshot) ∷ without key log.cache.entries) found log.cache.entries) is

pub looked_missed : (log : Log) (k : Known) (key : List ℕ) → is_local k.info.home ≡ false → kept key log.cache.entries ≡ None → looked_at log k key ≡ log
looked_missed log k key stored missed =
    ap (λ (b : Bool). cond b log (record log { cache = record log.cache { entries = after_hit key log.cache.entries } })) stored
    ∙ ap (λ es. record log { cache = record log.cache { entries = es } }) (after_miss key log missed)
