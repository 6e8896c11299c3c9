-- What comes of a call of the store that writes metadata.
use Rattle.std.proofs.Common.{◌≡◌, ◌<◌, ◌≤◌, ℕ, List, [], ◌∷◌, ◌++◌, true, Option, refl, sym, ap, subst, ◌∙◌}
use Rattle.std.specs.Prelude.{Result, Ok, Err, OnOk, OnErr, All}
use Rattle.std.specs.List.{IsDistinct}
use Rattle.std.specs.Str.{bytes_eq}
use Rattle.std.proofs.lemmas.List.Elements.{All-nil, All-cons}
use Rattle.kv_face.specs.declared.change.Change.{Change}
use Rattle.kv_face.specs.Store.{takes, keys_of}
use Rattle.state_laws.specs.declared.opening.Opened.{Opened}
use Rattle.state_laws.specs.declared.opening.OpenError.{OpenError}
use Rattle.state_laws.specs.declared.opening.OpenError.TheVariants as error
use Rattle.state_laws.specs.Seen.{StoreSeen, IsQuiet}
use Rattle.state_laws.specs.Log.{Log}
use Rattle.state_laws.specs.Agreement.{Opening, Agrees, TakesMount}
use Rattle.state_laws.specs.Fetches.{HasFailed}
use Rattle.state_laws.specs.Openings.{IsStoreError}
use Rattle.state_laws.proofs.Laws.{agrees_fault, agrees_quiet, not_risen}

-- the array is made, the store failed, or memory was wanting
pub agrees_stored : (opening : Opening) (store next : StoreSeen) (log later : Log) (owner : ℕ) (mount : List ℕ) (r : Result Opened OpenError) → OnOk r (next.faults ≤ store.faults → Agrees opening next later) → OnErr r (IsQuiet store next)
    → ((event : ℕ) → r ≡ Err (error.StoreFailed event) → HasFailed owner mount store next log later event) → (store.faults < next.faults → (event : ℕ) × (r ≡ Err (error.StoreFailed event))) → (r ≡ Err error.Memory → later ≡ log) → OnErr r (IsStoreError r) → Agrees opening store log → Agrees opening next later
agrees_stored opening store next log later owner mount (Ok o) ok quiet failed told memory errors is = ok (not_risen store.faults next.faults (λ rose. let why = told rose in let clash = why.1 in cc))
agrees_stored opening store next log later owner mount (Err (error.StoreFailed event)) ok quiet failed told memory errors is =
    let has = failed event refl in
    subst (Agrees opening next) (sym has.added) (agrees_fault opening store next log owner mount quiet has.rose is)
agrees_stored opening store next log later owner mount (Err error.Memory) ok quiet failed told memory errors is =
    let steady = not_risen store.faults next.faults (λ rose. let why = told rose in let clash = why.1 in cc) in
    subst (Agrees opening next) (sym (memory refl)) (agrees_quiet opening store next log quiet steady is)
agrees_stored opening store next log later owner mount (Err (error.PathTaken path at)) ok quiet failed told memory errors is = absurd errors
agrees_stored opening store next log later owner mount (Err (error.BadMeta key cause)) ok quiet failed told memory errors is = absurd errors
agrees_stored opening store next log later owner mount (Err (error.Exists at)) ok quiet failed told memory errors is = absurd errors
agrees_stored opening store next log later owner mount (Err (error.Mismatch member at)) ok quiet failed told memory errors is = absurd errors
agrees_stored opening store next log later owner mount (Err (error.NotFound at)) ok quiet failed told memory errors is = absurd errors
agrees_stored opening store next log later owner mount (Err (error.BadWant member)) ok quiet failed told memory errors is = absurd errors

-- one change
pub one_distinct : (cs : List Change) (c : Change) → cs ≡ c ∷ [] → IsDistinct bytes_eq (keys_of cs)
unfolding IsDistinct
one_distinct cs c is = subst (λ (ds : List Change). IsDistinct bytes_eq (keys_of ds)) (sym is) (tt, tt)

pub one_taken : (names : Option (List (List ℕ))) (cs : List Change) (c : Change) (mount rest : List ℕ) → cs ≡ c ∷ [] → c.key ≡ mount ++ 47 ∷ rest → TakesMount names mount → All (λ (d : Change). takes names d.key ≡ true) cs
one_taken names cs c mount rest is at taken =
    subst (All (λ (d : Change). takes names d.key ≡ true)) (sym is)
    (All-cons (λ (d : Change). takes names d.key ≡ true) c [] (ap (takes names) at ∙ taken rest) (All-nil (λ (d : Change). takes names d.key ≡ true)))
