-- Keys in order.
use Rattle.std.specs.Prelude.{◌≡◌, List, [], ◌∷◌, true}
use Rattle.std.specs.List.{AllByRecursion}
use Rattle.history.specs.Commit.{Key, is_before}

-- each key stands before all behind it, in byte order
abbrev pub AreRising : List Key → Type 0
AreRising [] = Unit {0}
AreRising (key ∷ keys) = AllByRecursion (λ other. is_before key other ≡ true) keys × AreRising keys
