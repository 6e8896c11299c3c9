-- Runs that grow pair by pair are the pairs cut into runs.
use Rattle.std.proofs.Common.{◌≡◌, ◌∙◌, ℕ, ◌+◌, ◌≤◌, Bool, true, false, cond, List, [], ◌∷◌, ◌++◌, Option, Some, None, refl, sym, ap, arith, append_assoc, IfSome, eqb-true}
use Rattle.std.specs.Prelude.{◌==◌}
use Rattle.std.specs.List.{fold}
use Rattle.std.proofs.lemmas.List.Sums.{fold-append}
use Rattle.cells.specs.Runs.{Pair}
use Rattle.strided_runs.specs.Runs.{run_of_one, goes_on, longer, cut_from, runs_of_pairs}
use Rattle.strided_runs.specs.Growing.{Grown, first_run, grown, runs_of_growing}
use Rattle.strided_runs.specs.Growing.{with_pair, grown_of, IsUpTo}

abbrev pub next : Option Grown → Pair → Option Grown
next g p = Some (with_pair p g)

-- the runs with all pairs are those that are done, and the rest cut
pub runs-fold : (pairs : List Pair) (g : Grown) → runs_of_growing (fold grown g pairs) ≡ g.done ++ cut_from g.run pairs
runs-fold [] g = refl
runs-fold (p ∷ pairs) g = runs-fold pairs (grown g p) ∙ told (goes_on g.run p) refl
  where
    told : (b : Bool) → goes_on g.run p ≡ b
        → (grown g p).done ++ cut_from (grown g p).run pairs ≡ g.done ++ cond (goes_on g.run p) (cut_from (longer g.run p) pairs) (g.run ∷ cut_from (run_of_one p) pairs)
    told true e = rw e refl
    told false e = rw e (append_assoc g.done (g.run ∷ []) (cut_from (run_of_one p) pairs))

pub some-fold : (pairs : List Pair) (g : Grown) → fold next (Some g) pairs ≡ Some (fold grown g pairs)
some-fold [] g = refl
some-fold (p ∷ pairs) g = some-fold pairs (grown g p)

-- the runs of some pairs are these cut into runs
pub runs-grown_of : (pairs : List Pair) (g : Grown) → grown_of pairs ≡ Some g → runs_of_growing g ≡ runs_of_pairs pairs
runs-grown_of [] g e = absurd (cc)
runs-grown_of (p ∷ pairs) g e =
    let same : Some (fold grown (first_run p) pairs) ≡ Some g = sym (some-fold pairs (first_run p)) ∙ e in
    let is : fold grown (first_run p) pairs ≡ g = cc in
    ap runs_of_growing (sym is) ∙ runs-fold pairs (first_run p)

-- one pair more
pub grown_of-more : (pairs : List Pair) (p : Pair) → grown_of (pairs ++ p ∷ []) ≡ Some (with_pair p (grown_of pairs))
grown_of-more pairs p = fold-append next None pairs (p ∷ [])

-- a pair behind the others lets the runs reach one place further at most
pub up_to-more : (g : Option Grown) (p : Pair) → IfSome g (IsUpTo p.view) → IsUpTo (p.view + 1) (with_pair p g)
up_to-more None p h = omega arith
up_to-more (Some g) p h = told (goes_on g.run p) refl
  where
    lengthened : (b : Bool) → (g.run.len == 1) ≡ b → ((longer g.run p).view + (longer g.run p).len) ≤ (p.view + 1)
    lengthened true e = let one : g.run.len ≡ 1 = eqb-true g.run.len 1 e in rw e (omega arith)
    lengthened false e = rw e (omega arith)

    told : (b : Bool) → goes_on g.run p ≡ b → IsUpTo (p.view + 1) (grown g p)
    told true e = rw e (lengthened (g.run.len == 1) refl)
    told false e = rw e (omega arith)

pub up_to-later : (g : Option Grown) (n : ℕ) → IfSome g (IsUpTo n) → IfSome g (IsUpTo (n + 1))
up_to-later None n h = tt
up_to-later (Some g) n h = omega arith
