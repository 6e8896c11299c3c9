-- What a resize is asked.
use Rattle.std.specs.Prelude.{◌≡◌, ◌≤◌, ◌-◌, ◌^◌, ℕ, List, length, Some, false}
use Rattle.std.specs.List.{AllByRecursion}
use Rattle.history.specs.History.{History}
use Rattle.history.specs.Arrays.{Known, known_after, is_local}

-- a stored array may be asked to take sizes of its rank, each at most 2^62 - 2
pub record MayBeAsked (k : Known) (shape : List ℕ) : Type 0 where
  pub stored : is_local k.info.home ≡ false
  pub rank : length shape ≡ length k.info.shape
  pub sizes : AllByRecursion (λ s. s ≤ 2 ^ 62 - 2) shape

-- an array of the history may
pub record IsAsked (events : History) (a : ℕ) (shape : List ℕ) : Type 0 where
  pub array : Known
  pub known : known_after events a ≡ Some array
  pub may : MayBeAsked array shape
