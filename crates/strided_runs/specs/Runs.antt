-- Pairs cut into runs of equal steps.
use Rattle.std.specs.Prelude.{ℕ, ◌+◌, ◌-◌, ◌*◌, ◌==◌, pos, ◌+ℤ◌, ◌-ℤ◌, ◌*ℤ◌, List, [], ◌∷◌, Bool, ◌&&◌, ◌||◌, if◌then◌else◌}
use Rattle.std.specs.Ordering.{int_eq}
use Rattle.cells.specs.declared.run.Run.{Run}
use Rattle.cells.specs.Runs.{Pair}

-- the run of one pair
abbrev pub run_of_one : Pair → Run
run_of_one p = record { view = p.view; view_step = 0; chunk = p.chunk; chunk_step = pos 0; len = 1 }

-- the pair goes on with the run: it is the next one by the run's steps, which a second pair sets
abbrev pub goes_on : Run → Pair → Bool
goes_on run p =
    run.len == 1
    || (p.view == run.view + run.view_step * run.len && int_eq (pos p.chunk) (pos run.chunk +ℤ run.chunk_step *ℤ pos run.len))

-- the run with this pair more
abbrev pub longer : Run → Pair → Run
longer run p =
    if run.len == 1
    then record {
      view = run.view;
      view_step = p.view - run.view;
      chunk = run.chunk;
      chunk_step = pos p.chunk -ℤ pos run.chunk;
      len = 2;
    }
    else record run { len = run.len + 1 }

-- a run takes as many pairs as go on with it, and the rest is cut in the same way
abbrev pub cut_from : Run → List Pair → List Run
cut_from run [] = run ∷ []
cut_from run (p ∷ pairs) = if goes_on run p then cut_from (longer run p) pairs else run ∷ cut_from (run_of_one p) pairs

-- the pairs cut into runs
abbrev pub runs_of_pairs : List Pair → List Run
runs_of_pairs [] = []
runs_of_pairs (p ∷ pairs) = cut_from (run_of_one p) pairs
