-- Loops without those that run once.
use Rattle.std.proofs.Common.{◌≡◌, ◌≢◌, ◌∙◌, ℕ, zero, suc, ◌+◌, ◌-◌, ◌*◌, ◌^◌, ◌<◌, ◌==◌, not, Bool, true, false, cond, ℤ, pos, ◌+ℤ◌, ◌*ℤ◌, unsigned_abs, List, [], ◌∷◌, ◌++◌, length, filter, drop, get_or, append_assoc, refl, sym, ap, arith}
use Rattle.std.proofs.Math.IntN.{*ℤ-zero, *ℤ-one, one}
use Rattle.std.proofs.lemmas.Int.{ints}
use Rattle.std.proofs.lemmas.Bool.Decides.{nat_tests}
use Rattle.std.specs.List.{AllByRecursion, flat_map, range_with_len}
use Rattle.index_intervals.specs.Bounds.{Bounds}
use Rattle.index_transform.specs.Maps.{size_of}
use Rattle.strided_runs.specs.Loops.{IsPlace, AllRun, view_reach, ViewsRise, StayPlaces}
use Rattle.chunk_grid.specs.Boxes.{looped, loops_of, runs_more_than_once, IsSmallStep}
use Rattle.strided_runs.specs.declared.lines.Loop.{Loop}

abbrev pub kept : List Loop → List Loop
kept loops = filter runs_more_than_once loops

append-none : {X : Type 0} (xs : List X) → xs ++ [] ≡ xs
append-none [] = refl
append-none (x ∷ xs) = ap (λ ys. x ∷ ys) (append-none xs)

-- a loop that runs once only goes on to the loops in it
once : (loop : Loop) (loops : List Loop) (view : ℕ) (chunk : ℤ) → loop.times ≡ 1 → looped (loop ∷ loops) view chunk ≡ looped loops view chunk
once loop loops view chunk e =
    let a : view + loop.view_step * 0 ≡ view = omega arith in
    let z = *ℤ-zero loop.chunk_step in
    let b : chunk +ℤ loop.chunk_step *ℤ pos 0 ≡ chunk = omega (arith, ints, z) in
    ap (λ n. flat_map (λ k. looped loops (view + loop.view_step * k) (chunk +ℤ loop.chunk_step *ℤ pos k)) (range_with_len 0 n)) e
    ∙ append-none (looped loops (view + loop.view_step * 0) (chunk +ℤ loop.chunk_step *ℤ pos 0))
    ∙ ap (λ v. looped loops v (chunk +ℤ loop.chunk_step *ℤ pos 0)) a ∙ ap (looped loops view) b

flat_map-alike : {X Y : Type 0} (f g : X → List Y) → ((x : X) → f x ≡ g x) → (xs : List X) → flat_map f xs ≡ flat_map g xs
flat_map-alike f g h [] = refl
flat_map-alike f g h (x ∷ xs) = ap (λ y. y ++ flat_map f xs) (h x) ∙ ap (λ ys. g x ++ ys) (flat_map-alike f g h xs)

-- the pairs are the same
pub looped-kept : (loops : List Loop) (view : ℕ) (chunk : ℤ) → looped (kept loops) view chunk ≡ looped loops view chunk
looped-kept [] view chunk = refl
looped-kept (loop ∷ loops) view chunk = told (loop.times == 1) refl (λ v c. looped-kept loops v c)
  where
    told : (b : Bool) → (loop.times == 1) ≡ b → ((v : ℕ) (c : ℤ) → looped (kept loops) v c ≡ looped loops v c)
        → looped (cond (not b) (loop ∷ kept loops) (kept loops)) view chunk ≡ looped (loop ∷ loops) view chunk
    told true e r = r view chunk ∙ sym (once loop loops view chunk (grind (arith, nat_tests)))
    told false e r = flat_map-alike (λ k. looped (kept loops) (view + loop.view_step * k) (chunk +ℤ loop.chunk_step *ℤ pos k)) (λ k. looped loops (view + loop.view_step * k) (chunk +ℤ loop.chunk_step *ℤ pos k))
        (λ k. r (view + loop.view_step * k) (chunk +ℤ loop.chunk_step *ℤ pos k)) (range_with_len 0 loop.times)

pub run-kept : (loops : List Loop) → AllRun loops → AllRun (kept loops)
run-kept [] h = tt
run-kept (loop ∷ loops) h = told (loop.times == 1) (run-kept loops h.1)
  where
    told : (b : Bool) → AllRun (kept loops) → AllRun (cond (not b) (loop ∷ kept loops) (kept loops))
    told true r = r
    told false r = (h.0, r)

pub reach-kept : (loops : List Loop) → view_reach (kept loops) ≡ view_reach loops
reach-kept [] = refl
reach-kept (loop ∷ loops) = told (loop.times == 1) refl (reach-kept loops)
  where
    told : (b : Bool) → (loop.times == 1) ≡ b → view_reach (kept loops) ≡ view_reach loops → view_reach (cond (not b) (loop ∷ kept loops) (kept loops)) ≡ view_reach (loop ∷ loops)
    told true e r =
        let z : loop.times ≡ 1 = grind (arith, nat_tests) in
        let w : loop.view_step * (loop.times - 1) ≡ 0 = ap (λ n. loop.view_step * (n - 1)) z ∙ omega arith in
        omega (arith, r, w)
    told false e r = ap (λ n. loop.view_step * (loop.times - 1) + n) r

pub rise-kept : (loops : List Loop) → ViewsRise loops → ViewsRise (kept loops)
rise-kept [] h = tt
rise-kept (loop ∷ loops) h = told (loop.times == 1) (rise-kept loops h.1)
  where
    told : (b : Bool) → ViewsRise (kept loops) → ViewsRise (cond (not b) (loop ∷ kept loops) (kept loops))
    told true r = r
    told false r = let e = reach-kept loops in let p = h.0 in (omega (arith, e, p), r)

pub stay-kept : (loops : List Loop) (chunk : ℤ) → AllRun loops → StayPlaces loops chunk → StayPlaces (kept loops) chunk
stay-kept [] chunk r h = h
stay-kept (loop ∷ loops) chunk r h = told (loop.times == 1) (λ c s. stay-kept loops c r.1 s)
  where
    told : (b : Bool) → ((c : ℤ) → StayPlaces loops c → StayPlaces (kept loops) c) → StayPlaces (cond (not b) (loop ∷ kept loops) (kept loops)) chunk
    told true f =
        let z = *ℤ-zero loop.chunk_step in
        let e : chunk +ℤ loop.chunk_step *ℤ pos 0 ≡ chunk = omega (arith, ints, z) in
        let first = h 0 r.0 in
        f chunk (rw e at first)
    told false f = λ k l. f (chunk +ℤ loop.chunk_step *ℤ pos k) (h k l)

-- Steps are small where a loop runs more than once.

place-first : (loops : List Loop) (chunk : ℤ) → AllRun loops → StayPlaces loops chunk → IsPlace chunk
place-first [] chunk r h = h
place-first (loop ∷ loops) chunk r h =
    let z = *ℤ-zero loop.chunk_step in
    let e : chunk +ℤ loop.chunk_step *ℤ pos 0 ≡ chunk = omega (arith, ints, z) in
    let first = place-first loops (chunk +ℤ loop.chunk_step *ℤ pos 0) r.1 (h 0 r.0) in
    rw e at first

pub steps-small : (loops : List Loop) (chunk : ℤ) → AllRun loops → StayPlaces loops chunk → AllByRecursion IsSmallStep loops
unfolding one
steps-small [] chunk r h = tt
steps-small (loop ∷ loops) chunk r h = (λ n. one_step n, steps-small loops (chunk +ℤ loop.chunk_step *ℤ pos 0) r.1 (h 0 r.0))
  where
    one_step : loop.times ≢ 1 → unsigned_abs loop.chunk_step < 2 ^ 32
    one_step n =
        let some = r.0 in
        let less : 1 < loop.times = omega (arith, some, n) in
        let a = place-first loops (chunk +ℤ loop.chunk_step *ℤ pos 0) r.1 (h 0 some) in
        let b = place-first loops (chunk +ℤ loop.chunk_step *ℤ pos 1) r.1 (h 1 less) in
        let z = *ℤ-zero loop.chunk_step in
        let o = *ℤ-one loop.chunk_step in
        let a0 = a.0 in
        let a1 = a.1 in
        let b0 = b.0 in
        let b1 = b.1 in
        omega (arith, ints, z, o, a0, a1, b0, b1)

-- One dimension more.

pub step-at : (P : Loop → Type 0) (dims : List Bounds) (views : List ℕ) (chunks : List ℤ) (d : ℕ) (dim : Bounds) → d < length dims → length views ≡ length dims → length chunks ≡ length dims
    → dim ≡ get_or dims d dim → AllByRecursion P (loops_of dims views chunks) → P (record { times = size_of dim; view_step = get_or views d 0; chunk_step = get_or chunks d (pos 0) })
step-at P [] views chunks d dim h lv lc e a = absurd (omega (arith, h))
step-at P (b ∷ dims) [] chunks d dim h lv lc e a = absurd (omega (arith, lv))
step-at P (b ∷ dims) (v ∷ views) [] d dim h lv lc e a = absurd (omega (arith, lc))
step-at P (b ∷ dims) (v ∷ views) (c ∷ chunks) zero dim h lv lc e a = rw e a.0
step-at P (b ∷ dims) (v ∷ views) (c ∷ chunks) (suc d) dim h lv lc e a = step-at P dims views chunks d dim (omega (arith, h)) (omega (arith, lv)) (omega (arith, lc)) e a.1

pub loops-more : (dims : List Bounds) (views : List ℕ) (chunks : List ℤ) (d : ℕ) (dim : Bounds) → d < length dims → length views ≡ length dims → length chunks ≡ length dims → dim ≡ get_or dims d dim
    → loops_of (drop d dims) (drop d views) (drop d chunks)
    ≡ record { times = size_of dim; view_step = get_or views d 0; chunk_step = get_or chunks d (pos 0) } ∷ loops_of (drop (d + 1) dims) (drop (d + 1) views) (drop (d + 1) chunks)
loops-more [] views chunks d dim h lv lc e = absurd (omega (arith, h))
loops-more (b ∷ dims) [] chunks d dim h lv lc e = absurd (omega (arith, lv))
loops-more (b ∷ dims) (v ∷ views) [] d dim h lv lc e = absurd (omega (arith, lc))
loops-more (b ∷ dims) (v ∷ views) (c ∷ chunks) zero dim h lv lc e = ap (λ x. let l : Loop = record { times = size_of x; view_step = v; chunk_step = c } in l ∷ loops_of dims views chunks) (sym e)
loops-more (b ∷ dims) (v ∷ views) (c ∷ chunks) (suc d) dim h lv lc e =
    let one : suc d + 1 ≡ suc (d + 1) = omega arith in
    rw one (loops-more dims views chunks d dim (omega (arith, h)) (omega (arith, lv)) (omega (arith, lc)) e)

pub kept-pushed : (done rest whole : List Loop) (loop : Loop) → loop.times ≢ 1 → done ++ kept (loop ∷ rest) ≡ whole → (done ++ loop ∷ []) ++ kept rest ≡ whole
kept-pushed done rest whole loop n e =
    let f : (loop.times == 1) ≡ false = grind (arith, nat_tests) in
    append_assoc done (loop ∷ []) (kept rest) ∙ sym (ap (λ b. done ++ cond (not b) (loop ∷ kept rest) (kept rest)) f) ∙ e

pub kept-passed : (done rest whole : List Loop) (loop : Loop) → loop.times ≡ 1 → done ++ kept (loop ∷ rest) ≡ whole → done ++ kept rest ≡ whole
kept-passed done rest whole loop n e =
    let f : (loop.times == 1) ≡ true = grind (arith, nat_tests) in
    sym (ap (λ b. done ++ cond (not b) (loop ∷ kept rest) (kept rest)) f) ∙ e
