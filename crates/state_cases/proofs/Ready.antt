-- A state stays ready.
use Rattle.std.proofs.Common.{◌≡◌, ◌≢◌, ℕ, List, ◌∷◌, ◌++◌, true, false, codes, Option, None, refl, sym, ap, ◌∙◌, arith, eq-eqb}
use Rattle.std.specs.Prelude.{◌==◌}
use Rattle.kv_face.specs.Store.{takes}
use Rattle.history.specs.Legal.{IsMount}
use Rattle.state_laws.specs.Seen.{StoreSeen}
use Rattle.state_laws.specs.Log.{Log}
use Rattle.state_laws.specs.Agreement.{IsState, KeepsAgreement, TakesMount}
use Rattle.state_cases.specs.Ready.{IsReady}

pub ready_state : (store : StoreSeen) (log : Log) → IsReady store log → IsState store log
ready_state store log is = (is.opening, is.agrees)

pub ready_names : (store : StoreSeen) (log : Log) → IsReady store log → store.names ≡ None
ready_names store log is = is.agrees.frame.names ∙ is.every

pub ready_kept : (store : StoreSeen) (log : Log) (next : StoreSeen) (later : Log) → IsReady store log → KeepsAgreement store log next later → IsReady next later
ready_kept store log next later is kept = record { opening = is.opening; agrees = kept is.opening is.agrees; every = is.every }

clear : (b : ℕ) → (b == 47) ≡ false → b ≢ 47
clear b e is = let clash : true ≡ false = sym (eq-eqb b 47 is) ∙ e in absurd (cc)

-- the mount of all cases
pub memory_mount : IsMount (codes "memory")
memory_mount = record {
  one_part = (clear 109 refl, (clear 101 refl, (clear 109 refl, (clear 111 refl, (clear 114 refl, (clear 121 refl, tt))))));
  not_local = λ e. let head : ◌≡◌ {A = ℕ} 109 97 = cc in absurd (omega (arith, head));
}

pub takes_all : (names : Option (List (List ℕ))) (mount : List ℕ) → names ≡ None → TakesMount names mount
takes_all names mount none rest = ap (λ n. takes n (mount ++ 47 ∷ rest)) none
