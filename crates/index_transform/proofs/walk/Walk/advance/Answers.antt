use Rattle.std.proofs.Common.{◌≡◌, ◌∷◌, ◌∙◌, ap, sym, subst, List, ℤ, length, take, drop, ◌++◌, Some, None, not}
use Rattle.std.specs.Bool.{MatchBool}
use Rattle.index_intervals.specs.Bounds.{Bounds}
use Rattle.index_transform.specs.Walks.{IsWalk, CellsLeft, next_cell, left_of}
use Rattle.index_transform.proofs.WalkLemmas.{IsWalk-stepped, cells_from-stepped, written_back}
use Rattle.index_transform.proofs.walk.Walk.advance.Goals as goal

-- what is left in the vector after the step
written : (c : goal.After-self-2-1) → take c.self.inside.next.len (c.step.new.index ++ drop (length c.step.new.index) c.self.inside.next.items) ≡ c.step.new.index
written c =
    let n = ap (λ (xs : List ℤ). length xs) c.deref_mut.ensures.value in
    written_back c.self.inside.next.len c.self.inside.next.items c.step.new.index
    (sym c.deref_mut.ensures.len ∙ n) (c.step.auto.index ∙ n)

-- the step, of the fields
stepped : (c : goal.After-self-2-1) → MatchBool c.step.result (next_cell c.self.inside.dims.items c.self.inside.next.items ≡ Some c.step.new.index) (next_cell c.self.inside.dims.items c.self.inside.next.items ≡ None)
stepped c =
    subst (λ (ds : List Bounds). MatchBool c.step.result (next_cell ds c.self.inside.next.items ≡ Some c.step.new.index) (next_cell ds c.self.inside.next.items ≡ None)) c.deref-2.ensures.value
    (subst (λ (xs : List ℤ). MatchBool c.step.result (next_cell c.deref-2.result.now xs ≡ Some c.step.new.index) (next_cell c.deref-2.result.now xs ≡ None)) c.deref_mut.ensures.value c.step.ensures)

same_length : (c : goal.After-self-2-1) → length c.step.new.index ≡ length c.self.inside.dims.items
same_length c = c.step.auto.index ∙ ap (λ (xs : List ℤ). length xs) c.deref_mut.ensures.value ∙ c.self.invariant.same

pub invariant_of-self : goal.invariant_of-self
invariant_of-self c =
    subst (λ (xs : List ℤ). IsWalk (not c.step.result) c.self.inside.dims.items xs) (sym (written c))
    (IsWalk-stepped c.self.inside.dims.items c.self.inside.next.items c.step.new.index c.step.result (c.self.invariant.at_cell c.if-self.false) (same_length c) (stepped c))

pub returns-clause-cell : goal.returns-clause-cell
returns-clause-cell c =
    let before = sym (ap (λ (w : CellsLeft). w.cells) c.self.view_is) in
    let open_walk = (rw c.if-self.false at before) in
    let out = c.copy_from_slice.ensures.after ∙ c.deref.ensures.value in
    open_walk
    ∙ cells_from-stepped c.self.inside.dims.items c.self.inside.next.items c.step.new.index c.step.result (c.self.invariant.at_cell c.if-self.false) (stepped c)
    ∙ ap (λ (x : List ℤ). x ∷ left_of (not c.step.result) c.self.inside.dims.items c.step.new.index) (sym out)
    ∙ ap (λ (xs : List ℤ). c.copy_from_slice.new.self ∷ left_of (not c.step.result) c.self.inside.dims.items xs) (sym (written c))
