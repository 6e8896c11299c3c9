-- The pairs of runs, one more.
use Rattle.std.proofs.Common.{◌≡◌, ◌∙◌, ◌<◌, ◌≤◌, ℕ, ◌+◌, List, [], ◌∷◌, ◌++◌, length, map, take, get_or, sym, ap, append_assoc, append-nil, arith}
use Rattle.std.specs.List.{flat_map}
use Rattle.std.proofs.lemmas.List.{map-append, take_more, take_all}
use Rattle.std.proofs.lemmas.List.Concat.{flat_map-append}
use Rattle.cells.specs.Runs.{Pair, pair_at, pairs_of}
use Rattle.cells.specs.declared.run.Run.{Run}
use Rattle.cells.proofs.Laws.{get_or-pairs_of, length-pairs_of}

module _ {X : Type 0} (f : Pair → X) where
  -- of one run
  pub pair_more : (run : Run) (k : ℕ) (old now new : List X) (x : X) → k < run.len → now ≡ old ++ map f (take k (pairs_of run)) → new ≡ now ++ x ∷ [] → x ≡ f (pair_at run k)
      → new ≡ old ++ map f (take (k + 1) (pairs_of run))
  pair_more run k old now new x low is more one =
      let long = length-pairs_of run in
      let d = pair_at run k in
      let parts : take (k + 1) (pairs_of run) ≡ take k (pairs_of run) ++ d ∷ [] = take_more (pairs_of run) k d (omega (arith, long, low)) ∙ ap (λ p. take k (pairs_of run) ++ p ∷ []) (get_or-pairs_of run k d low) in
      more
      ∙ (λ i. is i ++ one i ∷ [])
      ∙ append_assoc old (map f (take k (pairs_of run))) (f d ∷ [])
      ∙ ap (λ l. old ++ l) (sym (map-append f (take k (pairs_of run)) (d ∷ [])) ∙ ap (map f) (sym parts))

  pub pairs_all : (run : Run) (k : ℕ) (old now : List X) → run.len ≤ k → now ≡ old ++ map f (take k (pairs_of run)) → now ≡ old ++ map f (pairs_of run)
  pairs_all run k old now past is =
      let long = length-pairs_of run in
      is ∙ ap (λ l. old ++ map f l) (take_all k (pairs_of run) (omega (arith, long, past)))

  -- of one run more
  pub run_more : (runs : List Run) (i : ℕ) (d : Run) (now new : List X) → i < length runs → now ≡ map f (flat_map pairs_of (take i runs)) → new ≡ now ++ map f (pairs_of (get_or runs i d)) → new ≡ map f (flat_map pairs_of (take (i + 1) runs))
  run_more runs i d now new low is more =
      more
      ∙ ap (λ l. l ++ map f (pairs_of (get_or runs i d))) is
      ∙ sym (map-append f (flat_map pairs_of (take i runs)) (pairs_of (get_or runs i d)))
      ∙ ap (λ l. map f (flat_map pairs_of (take i runs) ++ l)) (sym (append-nil (pairs_of (get_or runs i d))))
      ∙ ap (map f) (sym (flat_map-append pairs_of (take i runs) (get_or runs i d ∷ [])))
      ∙ ap (λ l. map f (flat_map pairs_of l)) (sym (take_more runs i d low))
