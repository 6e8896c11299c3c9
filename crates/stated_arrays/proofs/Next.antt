-- The event at the next number.
use Rattle.std.proofs.Common.{◌≡◌, ◌<◌, ℕ, ◌+◌, zero, suc, List, [], ◌∷◌, ◌++◌, true, false, Some, inl, inr, length, set, get_or, sym, ap, subst, ◌∙◌, arith}
use Rattle.std.proofs.lemmas.Option.{slice_get_within, slice_get-get_or}
use Rattle.std.specs.List.{AllByRecursion, slice_get}
use Rattle.transcript_cut.specs.declared.said.Said.{Said}
use Rattle.history.specs.History.{History}
use Rattle.stated_arrays.specs.Lines.{IsSoundLine}
use Rattle.stated_arrays.specs.Stating.{IsExactTable, IsDue, other_event, IsStatedNext, IsOutlineOf}
use Rattle.stated_arrays.specs.declared.arrays.StatedArrays.{StatedArrays}
use Rattle.stated_arrays.specs.declared.lines.OpenLine.{OpenLine}
use Rattle.stated_arrays.proofs.StepLaws.{IsStatedTo, got, stated_served, stated_none, stated_other}

-- where the answer of the next number stands
pub record IsSpot (said : List Said) (spots : List ℕ) (n k : ℕ) : Type 0 where
  pub there : slice_get spots n ≡ Some k
  pub within : k < length said

pub spot_at : (said : List Said) (spots : List ℕ) (n : ℕ) → IsExactTable said spots → n < length spots → IsSpot said spots n (get_or spots n 0)
spot_at said spots n table low =
    let there = slice_get-get_or spots n 0 low in
    let prints = table.each n (get_or spots n 0) there in
    record { there = there; within = slice_get_within said (get_or spots n 0) prints.line prints.there }

-- a line is sound where all are
pub sound_at : (lines : List OpenLine) (k : ℕ) (l : OpenLine) → AllByRecursion IsSoundLine lines → slice_get lines k ≡ Some l → IsSoundLine l
sound_at [] k l all is = let no : ⊥ = cc in absurd no
sound_at (m ∷ lines) zero l all is = let same : m ≡ l = cc in subst IsSoundLine same all.0
sound_at (m ∷ lines) (suc k) l all is = sound_at lines k l all.1 is

pub sound_set : (lines : List OpenLine) (k : ℕ) (l : OpenLine) → AllByRecursion IsSoundLine lines → IsSoundLine l → AllByRecursion IsSoundLine (set lines k l)
sound_set [] k l all is = tt
sound_set (m ∷ lines) zero l all is = (is, all.1)
sound_set (m ∷ lines) (suc k) l all is = (all.0, sound_set lines k l all.1 is)

module _ (said : List Said) (spots : List ℕ) (first lines : List OpenLine) (n : ℕ) (old new : StatedArrays) (table : IsExactTable said spots) (is : IsStatedTo said first lines n old.events.items) (k : ℕ) (s : Said) (m : OpenLine)
    (spot : slice_get spots n ≡ Some k) (at : slice_get said k ≡ Some s) (now : slice_get lines k ≡ Some m) (after : OpenLine) where
  first_line : (l : OpenLine) × (slice_get first k ≡ Some l)
  first_line = let low = slice_get_within lines k m now in let count = is.count in got first k (omega (arith, low, count))

  due_as : IsDue s m (length old.events.items + 1) → IsDue s m (n + 1)
  due_as due = subst (λ j. IsDue s m (j + 1)) is.size due

  due_from : IsDue s m (n + 1) → IsDue s m (length old.events.items + 1)
  due_from due = subst (λ j. IsDue s m (j + 1)) (sym is.size) due

  pub stated_next : IsStatedNext s old new m after true → IsStatedTo said first (set lines k after) (n + 1) new.events.items
  stated_next (inl served) =
      let l = first_line in
      stated_served said spots first lines n old.events.items table is k s l.0 m spot at l.1 now new.events.items after (due_as served.due) served.served
  stated_next (inr other) =
      let l = first_line in
      let more = stated_other said spots first lines n old.events.items table is k s l.0 m spot at l.1 now (λ due. other.due (due_from due)) in
      let events = other.events ∙ ap (λ j. old.events.items ++ other_event s (j + 1) ∷ []) is.size in
      subst (λ (x : OpenLine). IsStatedTo said first (set lines k x) (n + 1) new.events.items) (sym other.same) (subst (IsStatedTo said first (set lines k m) (n + 1)) (sym events) more)

  pub none_next : IsStatedNext s old new m after false → (p : History) → IsOutlineOf said first p → ⊥
  none_next (inl served) p outline =
      let l = first_line in
      stated_none said spots first lines n old.events.items table is k s l.0 m spot at l.1 now (due_as served.due) served.served p outline
  none_next (inr other) p outline = let never = other.stated in let no : ⊥ = cc in no
