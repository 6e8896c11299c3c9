-- Runs to which further pairs are put.
use Rattle.std.specs.Prelude.{ℕ, ◌+◌, ◌≤◌, List, [], ◌∷◌, ◌++◌, Option, Some, None, fold, if◌then◌else◌}
use Rattle.cells.specs.declared.run.Run.{Run}
use Rattle.cells.specs.Runs.{Pair}
use Rattle.strided_runs.specs.Runs.{run_of_one, goes_on, longer}

-- the runs that are done, and the one to which pairs are put
pub record Grown : Type 0 where
  pub done : List Run
  pub run : Run

abbrev pub first_run : Pair → Grown
first_run p = record { done = []; run = run_of_one p }

-- no pair yet, where the first one is to be this
abbrev pub before_first : Pair → Grown
before_first p = record { done = []; run = record (run_of_one p) { len = 0 } }

-- with a pair more
abbrev pub grown : Grown → Pair → Grown
grown g p =
    if goes_on g.run p then record { done = g.done; run = longer g.run p }
    else record { done = g.done ++ g.run ∷ []; run = run_of_one p }

-- all the runs
abbrev pub runs_of_growing : Grown → List Run
runs_of_growing g = g.done ++ g.run ∷ []

-- the runs with a pair more
abbrev pub with_pair : Pair → Option Grown → Grown
with_pair p None = first_run p
with_pair p (Some g) = grown g p

-- the runs of some pairs, where there are any
abbrev pub grown_of : List Pair → Option Grown
grown_of pairs = fold (λ g p. Some (with_pair p g)) None pairs

-- the runs reach no further than this place of the view
abbrev pub IsUpTo : ℕ → Grown → Type 0
IsUpTo view g = (g.run.view + g.run.len) ≤ view
