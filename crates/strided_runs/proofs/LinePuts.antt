-- Whole lines put behind the others, one after another.
use Rattle.std.proofs.Common.{◌≡◌, ◌∙◌, eq-eqb, true, ℕ, zero, suc, ◌+◌, ◌*◌, ◌-◌, ◌<◌, ◌≤◌, ℤ, pos, ◌+ℤ◌, ◌*ℤ◌, unsigned_abs, List, [], ◌∷◌, ◌++◌, length, get_or, take, drop, refl, sym, ap, subst, arith}
use Rattle.std.specs.Prelude.{◌&&◌}
use Rattle.std.specs.Ordering.{int_eq}
use Rattle.std.specs.List.{fold, flat_map, range_with_len}
use Rattle.std.proofs.Math.Seq.{take-length}
use Rattle.std.proofs.lemmas.Int.{ints}
use Rattle.std.proofs.lemmas.List.{append-nil}
use Rattle.std.proofs.lemmas.List.Concat.{flat_map-append, flat_map_single}
use Rattle.std.proofs.lemmas.List.Sums.{fold-append}
use Rattle.index_intervals.proofs.Laws.{int_eq-true}
use Rattle.strided_runs.specs.declared.lines.Loop.{Loop}
use Rattle.strided_runs.specs.Loops.{looped}
use Rattle.strided_runs.specs.Growing.{IsUpTo}
use Rattle.strided_runs.specs.Growing.{Grown, grown, first_run, before_first, runs_of_growing}
use Rattle.strided_runs.specs.Loops.{AllRun, ViewsRise, StayPlaces, view_reach, pair_on, pairs_on, all_joined, IsPlace}
use Rattle.cells.specs.Runs.{Pair}
use Rattle.strided_runs.specs.Runs.{goes_on, runs_of_pairs}
use Rattle.strided_runs.proofs.GrowingLaws.{runs-fold}
use Rattle.strided_runs.proofs.GrowingLines.{pos_abs, grown-on}
use Rattle.strided_runs.proofs.LineLaws.{stays, chunk_stays, looped-joined}
use Rattle.strided_runs.proofs.LineJoins.{AreSmall, small-within, small-joined, stay-joined}
use Rattle.strided_runs.proofs.LineSteps.{times-few}
use Rattle.strided_runs.proofs.LineViews.{up_to-turns}
use Rattle.strided_runs.proofs.RangeLaws.{range-split}

-- the outermost loop, and those in it
abbrev pub first : List Loop → Loop
first loops = get_or loops 0 (record { times = 0; view_step = 0; chunk_step = pos 0 })

abbrev pub behind : List Loop → List Loop
behind loops = take (length loops - 1) (drop 1 loops)

pub split : (loops : List Loop) → 1 ≤ length loops → loops ≡ first loops ∷ behind loops
split [] one = absurd (omega arith)
split (loop ∷ loops) one =
    let n : length (loop ∷ loops) - 1 ≡ length loops = omega arith in
    ap (λ (ls : List Loop). loop ∷ ls) (sym (rw n (take-length loops)))

pub behind-shorter : (loops : List Loop) → 1 ≤ length loops → length (behind loops) < length loops
behind-shorter loops one = let e = ap length (split loops one) in omega (arith, e)

-- the first place of nested loops can be one
pub first_place : (loops : List Loop) (c : ℤ) → AllRun loops → StayPlaces loops c → IsPlace c
first_place [] c run stay = stay
first_place (loop ∷ loops) c run stay = subst IsPlace (chunk_stays c loop.chunk_step) (first_place loops (c +ℤ loop.chunk_step *ℤ pos 0) run.1 (stay 0 run.0))

-- what holds of nested loops
pub record AreReady (loops : List Loop) (view chunk : ℕ) : Type 0 where
  pub small : AreSmall loops view
  pub stay : StayPlaces loops (pos chunk)

pub ready : (loops : List Loop) (view chunk : ℕ) → AllRun loops → ViewsRise loops → view + view_reach loops < 4194304 → StayPlaces loops (pos chunk) → AreReady loops view chunk
ready loops view chunk run rise small stay = record { small = record { run = run; rise = rise; small = small }; stay = stay }

pub ready-split : (loops : List Loop) (view chunk : ℕ) → 1 ≤ length loops → AreReady loops view chunk → AreReady (first loops ∷ behind loops) view chunk
ready-split loops view chunk one h = subst (λ (ls : List Loop). AreReady ls view chunk) (split loops one) h

module _ (outer : Loop) (loops : List Loop) (view chunk : ℕ) (h : AreReady (outer ∷ loops) view chunk) where
  abbrev place : ℕ → ℤ
  place k = pos chunk +ℤ outer.chunk_step *ℤ pos k

  abbrev pub turn : ℕ → List Pair
  turn k = looped loops (view + outer.view_step * k) (place k)

  pub turn-place : (k : ℕ) → k < outer.times → IsPlace (place k)
  turn-place k lt = first_place loops (place k) h.small.run.1 (h.stay k lt)

  pub turn-view : (k : ℕ) → k < outer.times → view + outer.view_step * k < 4194304
  turn-view k lt = let s = (small-within outer loops view k h.small lt).small in omega (arith, s)

  pub outer-few : outer.times ≤ 4194304
  outer-few = times-few outer loops view h.small

  pub outer-rises : 0 < outer.view_step
  outer-rises = omega (arith, h.small.rise.0)

  -- a turn is ready
  pub turn-ready : (k next there : ℕ) → k < outer.times → next ≡ view + outer.view_step * k → there ≡ unsigned_abs (place k) → AreReady loops next there
  turn-ready k next there lt e f =
      let at : place k ≡ pos there = sym (pos_abs (place k) (turn-place k lt).0) ∙ ap pos (sym f) in
      record {
        small = subst (AreSmall loops) (sym e) (small-within outer loops view k h.small lt);
        stay = subst (StayPlaces loops) at (h.stay k lt);
      }

  pub turn-before : (k next : ℕ) (g before : Grown) → next ≡ view + outer.view_step * k → IsUpTo view before
      → g ≡ fold grown before (flat_map turn (range_with_len 0 k)) → IsUpTo next g
  turn-before k next g before e up is =
      subst (λ n. IsUpTo n g) (sym e)
      (subst (IsUpTo (view + outer.view_step * k)) (sym is) (up_to-turns outer loops view (pos chunk) k before h.small.run h.small.rise up))

  -- a turn more
  pub turn-more : (k next there : ℕ) (g after before : Grown) → k < outer.times → next ≡ view + outer.view_step * k → there ≡ unsigned_abs (place k)
      → g ≡ fold grown before (flat_map turn (range_with_len 0 k)) → after ≡ fold grown g (looped loops next (pos there))
      → after ≡ fold grown before (flat_map turn (range_with_len 0 (k + 1)))
  turn-more k next there g after before lt e f is more =
      let at : pos there ≡ place k = ap pos f ∙ pos_abs (place k) (turn-place k lt).0 in
      let one : 0 + k ≡ k = omega arith in
      more
      ∙ (λ i. fold grown (is i) (looped loops (e i) (at i)))
      ∙ sym (fold-append grown before (flat_map turn (range_with_len 0 k)) (turn k))
      ∙ ap (λ (ps : List Pair). fold grown before (flat_map turn (range_with_len 0 k) ++ ps)) (sym (append-nil (turn k)))
      ∙ ap (λ n. fold grown before (flat_map turn (range_with_len 0 k) ++ flat_map turn (range_with_len n 1))) (sym one)
      ∙ ap (fold grown before) (sym (flat_map-append turn (range_with_len 0 k) (range_with_len (0 + k) 1)) ∙ ap (flat_map turn) (sym (range-split k 1 0)))

-- an innermost loop is a line
pub line-is : (loop : Loop) (view chunk : ℕ) → looped (loop ∷ []) view (pos chunk) ≡ pairs_on view loop.view_step chunk loop.chunk_step 0 loop.times
line-is loop view chunk = flat_map_single (pair_on view loop.view_step chunk loop.chunk_step) (range_with_len 0 loop.times)

pub behind-none : (loops : List Loop) → 1 ≤ length loops → length (behind loops) ≡ 0 → loops ≡ first loops ∷ []
behind-none loops one none = split loops one ∙ ap (λ (ls : List Loop). first loops ∷ ls) (empty (behind loops) none) where
  empty : (ls : List Loop) → length ls ≡ 0 → ls ≡ []
  empty [] e = refl
  empty (l ∷ ls) e = absurd (omega arith)

pub line-put : (loops : List Loop) (view chunk : ℕ) (g : Grown) → 1 ≤ length loops → length (behind loops) ≡ 0
    → fold grown g (pairs_on view (first loops).view_step chunk (first loops).chunk_step 0 (first loops).times) ≡ fold grown g (looped loops view (pos chunk))
line-put loops view chunk g one none =
    ap (fold grown g) (sym (line-is (first loops) view chunk))
    ∙ ap (λ (ls : List Loop). fold grown g (looped ls view (pos chunk))) (sym (behind-none loops one none))

pub all-put : (loops : List Loop) (view chunk : ℕ) (g : Grown) (k : ℕ) → 1 ≤ length loops → k ≡ (first loops).times
    → fold grown g (flat_map (λ j. looped (behind loops) (view + (first loops).view_step * j) (pos chunk +ℤ (first loops).chunk_step *ℤ pos j)) (range_with_len 0 k))
    ≡ fold grown g (looped loops view (pos chunk))
all-put loops view chunk g k one end =
    ap (λ n. fold grown g (flat_map (λ j. looped (behind loops) (view + (first loops).view_step * j) (pos chunk +ℤ (first loops).chunk_step *ℤ pos j)) (range_with_len 0 n))) end
    ∙ ap (λ (ls : List Loop). fold grown g (looped ls view (pos chunk))) (sym (split loops one))

-- nested loops begin with their first pair
pub looped-first : (loops : List Loop) (v : ℕ) (c : ℤ) → AllRun loops → (rest : List Pair) × (looped loops v c ≡ record { view = v; chunk = unsigned_abs c } ∷ rest)
looped-first [] v c run = ([], refl)
looped-first (loop ∷ loops) v c run = some loop.times run.0 (looped-first loops (v + loop.view_step * 0) (c +ℤ loop.chunk_step *ℤ pos 0) run.1) where
  turn : ℕ → List Pair
  turn k = looped loops (v + loop.view_step * k) (c +ℤ loop.chunk_step *ℤ pos k)

  some : (t : ℕ) → 0 < t → (rest : List Pair) × (looped loops (v + loop.view_step * 0) (c +ℤ loop.chunk_step *ℤ pos 0) ≡ record { view = v + loop.view_step * 0; chunk = unsigned_abs (c +ℤ loop.chunk_step *ℤ pos 0) } ∷ rest)
      → (rest : List Pair) × (flat_map (λ k. looped loops (v + loop.view_step * k) (c +ℤ loop.chunk_step *ℤ pos k)) (range_with_len 0 t) ≡ record { view = v; chunk = unsigned_abs c } ∷ rest)
  some zero more h = absurd (omega arith)
  some (suc n) more (rest, is) =
      let others = flat_map (λ k. looped loops (v + loop.view_step * k) (c +ℤ loop.chunk_step *ℤ pos k)) (range_with_len 1 n) in (
        rest ++ others,
        ap (λ (ps : List Pair). ps ++ others) is
            ∙ (λ i. record { view = stays v loop.view_step i; chunk = unsigned_abs (chunk_stays c loop.chunk_step i) } ∷ (rest ++ others)),
      )

-- the first pair makes the first run
first-grown : (p : Pair) → grown (before_first p) p ≡ first_run p
first-grown p =
    let v : p.view ≡ p.view + 0 * 0 = omega arith in
    let c : pos p.chunk ≡ pos p.chunk +ℤ pos 0 *ℤ pos 0 = omega (arith, ints) in
    let on : goes_on (before_first p).run p ≡ true = ap (λ b. b && int_eq (pos p.chunk) (pos p.chunk +ℤ pos 0 *ℤ pos 0)) (eq-eqb p.view (p.view + 0 * 0) v) ∙ int_eq-true (pos p.chunk) (pos p.chunk +ℤ pos 0 *ℤ pos 0) c in
    grown-on (before_first p) p on

pub looped-all_joined : (loops : List Loop) (v : ℕ) (c : ℤ) → looped (all_joined loops) v c ≡ looped loops v c
looped-all_joined [] v c = refl
looped-all_joined (outer ∷ loops) v c = looped-joined loops outer v c

pub ready-all_joined : (loops : List Loop) (view chunk : ℕ) → AreReady loops view chunk → AreReady (all_joined loops) view chunk
ready-all_joined [] view chunk h = h
ready-all_joined (outer ∷ loops) view chunk h = record { small = small-joined loops outer view h.small; stay = stay-joined loops outer (pos chunk) h.small.run h.stay }

-- all pairs put are those of the loops, cut into runs
pub runs-looped : (loops kept : List Loop) (view chunk : ℕ) (g : Grown) → AllRun loops → kept ≡ all_joined loops
    → g ≡ fold grown (before_first (record { view = view; chunk = chunk })) (looped kept view (pos chunk)) → runs_of_growing g ≡ runs_of_pairs (looped loops view (pos chunk))
runs-looped loops kept view chunk g run is put =
    let p : Pair = record { view = view; chunk = chunk } in
    let begun = looped-first loops view (pos chunk) run in
    ap runs_of_growing
    (put
    ∙ ap (λ (ls : List Loop). fold grown (before_first p) (looped ls view (pos chunk))) is
    ∙ ap (fold grown (before_first p)) (looped-all_joined loops view (pos chunk) ∙ begun.1)
    ∙ ap (λ (b : Grown). fold grown b begun.0) (first-grown p))
    ∙ runs-fold begun.0 (first_run p)
    ∙ ap runs_of_pairs (sym begun.1)
