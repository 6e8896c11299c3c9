use Rattle.std.proofs.Common.{◌≡◌, ◌∙◌, ◌≤◌, ◌+◌, ◌-◌, ℕ, zero, suc, List, [], ◌∷◌, Some, get_or, inl, inr, length, sym, ap, subst, arith}
use Rattle.std.specs.List.{slice_get}
use Rattle.cells.proofs.Laws.{less_or_not}
use Rattle.stated_history.specs.declared.Said.{Said}
use Rattle.transcript_fits.proofs.frames.count_session.Goals as goal

-- the answer at a place
item_is : (xs : List Said) (k : ℕ) (x d : Said) → slice_get xs k ≡ Some x → get_or xs k d ≡ x
item_is [] k x d there = absurd (cc)
item_is (y ∷ xs) zero x d there = cc
item_is (y ∷ xs) (suc k) x d there = item_is xs k x d there

none_behind : (xs : List Said) (k : ℕ) (x : Said) → length xs ≤ k → slice_get xs k ≡ Some x → ⊥
none_behind [] k x low there = absurd (cc)
none_behind (y ∷ xs) zero x low there = absurd (omega (arith, low))
none_behind (y ∷ xs) (suc k) x low there = none_behind xs k x (omega (arith, low)) there

-- so far behind the begin stands the place
over : (begin place : ℕ) → begin ≤ place → begin + (place - begin) ≡ place
over begin place low = omega (arith, low)

pub returns-then-said-place-clause-own : goal.returns-then-said-place-clause-own
returns-then-said-place-clause-own c = λ k d from low there.
    let same = over c.args.begin c.loop-place.place c.loop-place.auto.place in
    c.loop-place.invariant k d from (omega (arith, low, same)) there

pub returns-then-said-place-clause-next : goal.returns-then-said-place-clause-next
returns-then-said-place-clause-next c = λ d there alike.
    let said = c.args.said.now in
    let same = over c.args.begin c.loop-place.place c.loop-place.auto.place in
    let x = c.index-said-place.result in
    let here : get_or said c.loop-place.place x ≡ d = item_is said c.loop-place.place d x (ap (slice_get said) (sym same) ∙ there) in
    c.if-said-place.true (ap (λ (s : Said). s.line.session) here ∙ alike)

pub loop-place-preserved : goal.loop-place-preserved
loop-place-preserved c = λ k d from low there. elim (less_or_not k c.loop-place.place) [
  | inl early ↦ c.loop-place.invariant k d from early there
  | inr late ↦
      let same : c.loop-place.place ≡ k = omega (arith, low, late) in
      let x = c.index-said-place.result in
      let here : get_or c.args.said.now c.loop-place.place x ≡ d = item_is c.args.said.now c.loop-place.place d x (ap (slice_get c.args.said.now) same ∙ there) in
      subst (λ (s : Said). s.line.session ≡ c.args.session) here c.if-said-place.false
]

pub returns-clause-own : goal.returns-clause-own
returns-clause-own c = λ k d from low there.
    let same = over c.args.begin (length c.args.said.now) c.requires in
    let end = c.loop-place-test.false in
    c.loop-place.invariant k d from (omega (arith, low, same, end)) there

pub returns-clause-next : goal.returns-clause-next
returns-clause-next c = λ d there alike.
    none_behind c.args.said.now (c.args.begin + (length c.args.said.now - c.args.begin)) d (omega (arith, over c.args.begin (length c.args.said.now) c.requires)) there
