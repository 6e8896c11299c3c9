-- What is told of parts, one after another.
use Rattle.std.proofs.Common.{◌≡◌, ◌∙◌, List, [], ◌∷◌, ◌++◌, map, refl, sym, ap, subst}
use Rattle.std.specs.List.{AllByRecursion}
use Rattle.std.proofs.lemmas.List.{map-append}
use Rattle.history.specs.History.{History}
use Rattle.shared_state.specs.Agreement.{Opening, Agrees, IsState, KeepsAgreement}
use Rattle.shared_state.specs.Log.{Log}
use Rattle.shared_state.specs.Seen.{StoreSeen}
use Rattle.chunk_plans.specs.Asking.{IsAsked, IsPart, part_in}
use Rattle.chunk_plans.specs.declared.asked.Asked.{Asked}
use Rattle.chunk_plans.specs.declared.asked.Part.{Part}

-- this was told of the parts so far, and of the state the cache alone is another
pub record AreAskedSo (store next : StoreSeen) (log now : Log) (done : List Part) (asked : List Asked) : Type 0 where
  pub events : now.events ≡ log.events
  pub kept : KeepsAgreement store log next now
  pub each : (opening : Opening) → Agrees opening store log → AllByRecursion (IsAsked opening log.events) asked
  pub parts : map part_in asked ≡ done

pub asked_none : (store : StoreSeen) (log : Log) → AreAskedSo store store log log [] []
asked_none store log = record { events = refl; kept = λ opening agrees. agrees; each = λ opening agrees. tt; parts = refl }

all_with : {A : Type 0} (P : A → Type 0) (xs ys : List A) → AllByRecursion P xs → AllByRecursion P ys → AllByRecursion P (xs ++ ys)
all_with P [] ys all rest = rest
all_with P (x ∷ xs) ys all rest = (all.0, all_with P xs ys all.1 rest)

pub asked_more : (store next then : StoreSeen) (log now later : Log) (done : List Part) (asked : List Asked) (p : Part) (a : Asked) → AreAskedSo store next log now done asked → later.events ≡ now.events → KeepsAgreement next now then later
    → ((opening : Opening) → Agrees opening next now → IsAsked opening now.events a) → a.part ≡ p → AreAskedSo store then log later (done ++ p ∷ []) (asked ++ a ∷ [])
asked_more store next then log now later done asked p a so same keeps one is = record {
  events = same ∙ so.events;
  kept = λ opening agrees. keeps opening (so.kept opening agrees);
  each = λ opening agrees.
      all_with (IsAsked opening log.events) asked (a ∷ []) (so.each opening agrees) (subst (λ h. IsAsked opening h a) so.events (one opening (so.kept opening agrees)), tt);
  parts = map-append part_in asked (a ∷ []) ∙ ap (λ ps. ps ++ a.part ∷ []) so.parts ∙ ap (λ q. done ++ q ∷ []) is;
}

pub state_so : (store next : StoreSeen) (log now : Log) (done : List Part) (asked : List Asked) → AreAskedSo store next log now done asked → IsState store log → IsState next now
state_so store next log now done asked so state = (state.0, so.kept state.0 state.1)

pub part_at : (done : List Part) (p : Part) (rest : List Part) (events now : History) → now ≡ events → AllByRecursion (IsPart events) (done ++ p ∷ rest) → IsPart now p
part_at [] p rest events now same all = subst (λ h. IsPart h p) (sym same) all.0
part_at (q ∷ done) p rest events now same all = part_at done p rest events now same all.1
