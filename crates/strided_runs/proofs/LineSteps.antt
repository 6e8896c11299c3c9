-- Joining loops, one after another.
use Rattle.std.proofs.Common.{◌≡◌, ◌∙◌, ℕ, ◌+◌, ◌*◌, ◌-◌, ◌<◌, ◌≤◌, pos, true, false, cond, List, [], ◌∷◌, ◌++◌, inl, inr, sym, ap, subst, arith, append_assoc, length, get_or, drop, add-one}
use Rattle.std.proofs.Math.Nat.{le-mul_of_pos_right}
use Rattle.std.proofs.Math.Seq.{drop-cons}
use Rattle.strided_runs.specs.declared.lines.Loop.{Loop}
use Rattle.strided_runs.specs.Loops.{run_as_one, as_one, joined}
use Rattle.strided_runs.proofs.LineLaws.{AreOne, are_one}
use Rattle.strided_runs.proofs.LineJoins.{AreSmall, small-as_one}

-- a loop runs seldom where its places are few
pub times-few : (loop : Loop) (loops : List Loop) (v : ℕ) → AreSmall (loop ∷ loops) v → loop.times ≤ 4194304
times-few loop loops v h =
    let some : 0 < loop.view_step = omega (arith, h.rise.0) in
    let least : loop.times - 1 ≤ (loop.times - 1) * loop.view_step = le-mul_of_pos_right (loop.times - 1) some in
    omega (arith, least, h.small)

pub product-few : (outer inner : Loop) (loops : List Loop) (v : ℕ) → AreSmall (outer ∷ inner ∷ loops) v → run_as_one outer inner ≡ true → outer.times * inner.times ≤ 4194304
product-few outer inner loops v h e = told (are_one outer inner e) where
  told : AreOne outer inner → outer.times * inner.times ≤ 4194304
  told (inl k) = let few = times-few outer (inner ∷ loops) v h in let same = ap (λ n. outer.times * n) k.0 in omega (arith, few, same)
  told (inr (inl k)) = subst (λ (l : Loop). l.times ≤ 4194304) k.1 (times-few (as_one outer inner) loops v (small-as_one outer inner loops v h (inr (inl k))))
  told (inr (inr k)) = subst (λ (l : Loop). l.times ≤ 4194304) k.1 (times-few (as_one outer inner) loops v (small-as_one outer inner loops v h (inr (inr k))))

pub small-step : (outer inner : Loop) (loops : List Loop) (v : ℕ) → AreSmall (outer ∷ inner ∷ loops) v → run_as_one outer inner ≡ true → AreSmall (as_one outer inner ∷ loops) v
small-step outer inner loops v h e = small-as_one outer inner loops v h (are_one outer inner e)

pub small-behind : (outer inner : Loop) (loops : List Loop) (v : ℕ) → AreSmall (outer ∷ inner ∷ loops) v → AreSmall (inner ∷ loops) v
small-behind outer inner loops v h = record { run = h.run.1; rise = h.rise.1; small = omega (arith, h.small) }

-- what is kept and what is yet to be joined
pub kept-one : (kept rest whole : List Loop) (outer inner : Loop) → run_as_one outer inner ≡ true → kept ++ joined outer (inner ∷ rest) ≡ whole → kept ++ joined (as_one outer inner) rest ≡ whole
kept-one kept rest whole outer inner e h = sym (ap (λ b. kept ++ cond b (joined (as_one outer inner) rest) (outer ∷ joined inner rest)) e) ∙ h

pub kept-apart : (kept rest whole : List Loop) (outer inner : Loop) → run_as_one outer inner ≡ false → kept ++ joined outer (inner ∷ rest) ≡ whole → (kept ++ outer ∷ []) ++ joined inner rest ≡ whole
kept-apart kept rest whole outer inner e h =
    append_assoc kept (outer ∷ []) (joined inner rest)
    ∙ sym (ap (λ b. kept ++ cond b (joined (as_one outer inner) rest) (outer ∷ joined inner rest)) e) ∙ h

-- a turn over the loops
module _ (all : List Loop) (i : ℕ) (lt : i < length all) where
  abbrev pub inner : Loop
  inner = get_or all i (record { times = 0; view_step = 0; chunk_step = pos 0 })

  abbrev pub rest : List Loop
  rest = drop (i + 1) all

  here : drop i all ≡ inner ∷ rest
  here = rw (add-one i) (drop-cons all i (record { times = 0; view_step = 0; chunk_step = pos 0 }) lt)

  small-here : (outer : Loop) → AreSmall (outer ∷ drop i all) 0 → AreSmall (outer ∷ inner ∷ rest) 0
  small-here outer h = subst (λ (ls : List Loop). AreSmall (outer ∷ ls) 0) here h

  same-here : (kept whole : List Loop) (outer : Loop) → kept ++ joined outer (drop i all) ≡ whole → kept ++ joined outer (inner ∷ rest) ≡ whole
  same-here kept whole outer h = sym (ap (λ (ls : List Loop). kept ++ joined outer ls) here) ∙ h

  pub turn-few : (outer : Loop) → AreSmall (outer ∷ drop i all) 0 → inner.times ≤ 4194304
  turn-few outer h = times-few inner rest 0 (small-behind outer inner rest 0 (small-here outer h))

  pub turn-product : (outer : Loop) → AreSmall (outer ∷ drop i all) 0 → run_as_one outer inner ≡ true → outer.times * inner.times ≤ 4194304
  turn-product outer h e = product-few outer inner rest 0 (small-here outer h) e

  pub turn-one : (outer : Loop) → AreSmall (outer ∷ drop i all) 0 → run_as_one outer inner ≡ true → AreSmall (as_one outer inner ∷ rest) 0
  turn-one outer h e = small-step outer inner rest 0 (small-here outer h) e

  pub turn-apart : (outer : Loop) → AreSmall (outer ∷ drop i all) 0 → AreSmall (inner ∷ rest) 0
  turn-apart outer h = small-behind outer inner rest 0 (small-here outer h)

  pub kept-turn-one : (kept whole : List Loop) (outer : Loop) → run_as_one outer inner ≡ true → kept ++ joined outer (drop i all) ≡ whole → kept ++ joined (as_one outer inner) rest ≡ whole
  kept-turn-one kept whole outer e h = kept-one kept rest whole outer inner e (same-here kept whole outer h)

  pub kept-turn-apart : (kept whole : List Loop) (outer : Loop) → run_as_one outer inner ≡ false → kept ++ joined outer (drop i all) ≡ whole → (kept ++ outer ∷ []) ++ joined inner rest ≡ whole
  kept-turn-apart kept whole outer e h = kept-apart kept rest whole outer inner e (same-here kept whole outer h)
