-- The lines of a session fit where each of them does.
use Rattle.std.proofs.Common.{◌≡◌, ◌⊎◌, inl, inr, ◌<◌, ◌≤◌, ◌+◌, ℕ, zero, suc, List, [], ◌∷◌, ◌++◌, take, drop, length, Some, refl, sym, subst, arith, append_assoc, append-nil}
use Rattle.std.specs.List.{fold, slice_get}
use Rattle.history.specs.History.{History}
use Rattle.open_fits.specs.Fitting.{IsFitting, AreFitting}
use Rattle.open_fits.specs.Windows.{window_of}
use Rattle.stated_history.specs.ToldStandings.{Standing, first_standing, standing_step}
use Rattle.stated_history.specs.Transcript.{Told}
use Rattle.transcript_fits.specs.Sessions.{IsFittingAt, AreFittingUpTo}

module _ (h : History) where
  abbrev IsFittingIn : List Told → Standing → Told → List Told → Type 0
  IsFittingIn earlier s t more = IsFitting h (window_of (length h) s.transaction earlier t more) s t

  fits_each : (earlier : List Told) (s : Standing) (more : List Told) → AreFitting h earlier s more → (k : ℕ) (t : Told) → slice_get more k ≡ Some t
      → IsFittingIn (earlier ++ take k more) (fold (standing_step h) s (take k more)) t (drop (suc k) more)
  fits_each earlier s [] are k t is = absurd (cc)
  fits_each earlier s (x ∷ more) are zero t is =
      let same : x ≡ t = cc in
      subst (λ u. IsFittingIn (earlier ++ []) s u more) same (subst (λ e. IsFittingIn e s x more) (sym (append-nil earlier)) are.0)
  fits_each earlier s (x ∷ more) are (suc k) t is =
      subst (λ e. IsFittingIn e (fold (standing_step h) (standing_step h s x) (take k more)) t (drop (suc k) more)) (append_assoc earlier (x ∷ []) (take k more))
      (fits_each (earlier ++ x ∷ []) (standing_step h s x) more are.1 k t is)

  each_fits : (earlier : List Told) (s : Standing) (more : List Told)
      → ((k : ℕ) (t : Told) → slice_get more k ≡ Some t → IsFittingIn (earlier ++ take k more) (fold (standing_step h) s (take k more)) t (drop (suc k) more)) → AreFitting h earlier s more
  each_fits earlier s [] each = tt
  each_fits earlier s (x ∷ more) each = (
    subst (λ e. IsFittingIn e s x more) (append-nil earlier) (each zero x refl),
    each_fits (earlier ++ x ∷ []) (standing_step h s x) more
        (λ k t is. subst (λ e. IsFittingIn e (fold (standing_step h) (standing_step h s x) (take k more)) t (drop (suc k) more)) (sym (append_assoc earlier (x ∷ []) (take k more))) (each (suc k) t is)),
  )

  got_low : (xs : List Told) (k : ℕ) (t : Told) → slice_get xs k ≡ Some t → k < length xs
  got_low [] k t is = absurd (cc)
  got_low (x ∷ xs) zero t is = omega arith
  got_low (x ∷ xs) (suc k) t is = let rest = got_low xs k t is in omega (arith, rest)

  pub all_fit : (told : List Told) (many : ℕ) → length told ≤ many → AreFittingUpTo h told many → AreFitting h [] first_standing told
  all_fit told many long each = each_fits [] first_standing told (λ k t is. each k (let low = got_low told k t is in omega (arith, low, long)) t is)

  pub fit_all : (told : List Told) (many : ℕ) → AreFitting h [] first_standing told → AreFittingUpTo h told many
  fit_all told many are = λ k low t is. fits_each [] first_standing told are k t is

  -- one more
  pub fit_more : (told : List Told) (k : ℕ) → AreFittingUpTo h told k → IsFittingAt h told k → AreFittingUpTo h told (k + 1)
  fit_more told k each one = λ j low. by j low (below_or j k)
    where
      by : (j : ℕ) → j < k + 1 → (j < k) ⊎ (k ≤ j) → IsFittingAt h told j
      by j low (inl under) = each j under
      by j low (inr over) = let same : k ≡ j = omega (arith, low, over) in subst (IsFittingAt h told) same one

      below_or : (j k : ℕ) → (j < k) ⊎ (k ≤ j)
      below_or j zero = inr (omega arith)
      below_or zero (suc k) = inl (omega arith)
      below_or (suc j) (suc k) = elim (below_or j k) [ inl low ↦ inl (omega (arith, low)) | inr high ↦ inr (omega (arith, high)) ]

  pub fit_fewer : (told : List Told) (k : ℕ) → AreFittingUpTo h told (k + 1) → AreFittingUpTo h told k
  fit_fewer told k each = λ j low. each j (omega (arith, low))
