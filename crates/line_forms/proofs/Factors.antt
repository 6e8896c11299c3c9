-- What a test of factors tells.
use Rattle.std.proofs.Common.{◌≡◌, ℕ, true, nat_le, List, [], ◌∷◌, arith}
use Rattle.std.proofs.lemmas.Bool.Decides.{nat_tests}
use Rattle.std.specs.List.{AllByRecursion, list_all}
use Rattle.cells.proofs.Laws.{both}
use Rattle.downsample_view.specs.Groups.{IsFactor, is_factor}

-- each number that passes is a factor
pub factors-from : (fs : List ℕ) → list_all is_factor fs ≡ true → AllByRecursion IsFactor fs
factors-from [] e = tt
factors-from (f ∷ fs) e =
    let p = both (is_factor f) (list_all is_factor fs) e in
    let q = both (nat_le 1 f) (nat_le f 4194304) p.0 in
    (record { some = grind (arith, nat_tests, q.0); few = grind (arith, nat_tests, q.1) }, factors-from fs p.1)
