-- The one mount of a line.
use Rattle.std.proofs.Common.{◌≡◌, ◌≢◌, ◌∙◌, ℕ, List, [], ◌∷◌, codes, true, false, Option, None, refl, sym, subst, eq-eqb}
use Rattle.std.specs.Prelude.{◌==◌}
use Rattle.std.specs.List.{AllByRecursion}
use Rattle.history.specs.Legal.{IsMount}
use Rattle.session_runs.specs.Session.{HasMounts}
use Rattle.state_laws.specs.Agreement.{Opening, TakesMount}
use Rattle.turn_book.specs.Passes.{BookView}

clear : (b : ℕ) → (b == 47) ≡ false → b ≢ 47
clear b e is = let clash : true ≡ false = sym (eq-eqb b 47 is) ∙ e in absurd (cc)

memory : IsMount (codes "memory")
memory = record {
  one_part = (clear 109 refl, (clear 101 refl, (clear 109 refl, (clear 111 refl, (clear 114 refl, (clear 121 refl, tt))))));
  not_local = λ e. absurd (let no_such : ⊥ = cc in no_such);
}

-- a store that takes every key is mounted under this name
pub has_memory : (book : BookView Opening) (mounts : List (List ℕ)) → mounts ≡ codes "memory" ∷ [] → book.fixed.store.names ≡ None → HasMounts book mounts
has_memory book mounts is every = record {
  valid = subst (AllByRecursion IsMount) (sym is) (memory, tt);
  taken = subst (AllByRecursion (TakesMount book.fixed.store.names)) (sym is) (subst (λ names. TakesMount names (codes "memory")) (sym every) (λ rest. refl), tt);
}
