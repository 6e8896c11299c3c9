-- Behind the last leaf that takes a number.
use Rattle.std.proofs.Common.{◌≡◌, ℕ, zero, suc, ◌+◌, ◌<◌, ◌≤◌, inl, inr, List, [], ◌∷◌, length, Option, Some, None, refl, sym, ap, ◌∙◌, arith}
use Rattle.std.specs.List.{slice_get}
use Rattle.history.proofs.Tests.{equal_or_not}
use Rattle.open_fits.specs.Built.{IsTakenEnd}

-- so far
pub record IsEndSoFar (numbers : List (Option ℕ)) (place end : ℕ) : Type 0 where
  pub behind : (k : ℕ) (n : Option ℕ) → end ≤ k → k < place → slice_get numbers k ≡ Some n → n ≡ None
  pub last : (k : ℕ) → end ≡ suc k → (n : ℕ) × (slice_get numbers k ≡ Some (Some n))
  pub within : end ≤ place

pub end_none : (numbers : List (Option ℕ)) → IsEndSoFar numbers 0 0
end_none numbers = record { behind = λ k n low less at. absurd (omega (arith, less)); last = λ k is. absurd (omega (arith, is)); within = omega arith }

less_here : (numbers : List (Option ℕ)) (k : ℕ) (n : Option ℕ) → slice_get numbers k ≡ Some n → k < length numbers
less_here [] k n at = let no : ⊥ = cc in absurd no
less_here (m ∷ numbers) zero n at = omega arith
less_here (m ∷ numbers) (suc k) n at = let rest = less_here numbers k n at in omega (arith, rest)

module _ (numbers : List (Option ℕ)) (place end next : ℕ) (n : Option ℕ) (at : slice_get numbers place ≡ Some n) (so_far : IsEndSoFar numbers place end) where
  taken_here : (m : ℕ) → n ≡ Some m → next ≡ place + 1 → IsEndSoFar numbers (place + 1) next
  taken_here m is moves = record {
    behind = λ k o low less here. absurd (omega (arith, low, less, moves));
    last = λ k same.
        let where_at : place ≡ k = omega (arith, same, moves) in
        (m, ap (slice_get numbers) (sym where_at) ∙ at ∙ ap Some is);
    within = omega (arith, moves);
  }

  untaken_here : n ≡ None → next ≡ end → IsEndSoFar numbers (place + 1) next
  untaken_here is stays = record {
    behind = λ k o low less here. elim (equal_or_not k place) [
      | inl same ↦
          let both : Some o ≡ Some n = sym here ∙ ap (slice_get numbers) same ∙ at in
          let one : o ≡ n = cc in
          one ∙ is
      | inr other ↦ so_far.behind k o (omega (arith, low, stays)) (omega (arith, less, other)) here
    ];
    last = λ k same. so_far.last k (sym stays ∙ same);
    within = let low = so_far.within in omega (arith, low, stays);
  }

  pub end_more : ((m : ℕ) → n ≡ Some m → next ≡ place + 1) → (n ≡ None → next ≡ end) → IsEndSoFar numbers (place + 1) next
  end_more some none = by n refl
    where
      by : (o : Option ℕ) → n ≡ o → IsEndSoFar numbers (place + 1) next
      by (Some m) is = taken_here m is (some m is)
      by None is = untaken_here is (none is)

pub end_all : (numbers : List (Option ℕ)) (place end : ℕ) → length numbers ≡ place → IsEndSoFar numbers place end → IsTakenEnd numbers end
end_all numbers place end count so_far = record {
  behind = λ k n low at. so_far.behind k n low (let less = less_here numbers k n at in omega (arith, less, count)) at;
  last = so_far.last;
}
