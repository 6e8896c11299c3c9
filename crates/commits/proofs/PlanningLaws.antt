-- Plans by a later log of the same events are plans by the first.
use Rattle.std.proofs.Common.{◌≡◌, ℕ, ◌+◌, ◌≤◌, List, [], ◌∷◌, ◌++◌, length, inl, refl, sym, ap, subst, ◌∙◌, arith}
use Rattle.std.specs.Prelude.{unwrap_or}
use Rattle.std.specs.FinMap as finmap
use Rattle.chunk_forms.specs.declared.form.Damage.{Damage}
use Rattle.kv_face.specs.Store.{Contents}
use Rattle.history.specs.Arrays.{Known, known_after}
use Rattle.history.specs.Own.{fault}
use Rattle.history.specs.Store.{resized_after}
use Rattle.chunk_plans.specs.Agreement.{KeepsAgreement}
use Rattle.chunk_plans.specs.Log.{Log}
use Rattle.chunk_plans.specs.Looks.{IsFailedLook}
use Rattle.chunk_plans.specs.Seen.{StoreSeen}
use Rattle.chunk_plans.specs.declared.plan.Planned.{Planned}
use Rattle.chunk_plans.specs.declared.write.ChunkWrite.{ChunkWrite}
use Rattle.history.specs.Damaged.{IsDamaged}
use Rattle.chunk_plans.specs.Writes.{IsPlanOf, IsReadyBy, IsReadyWrite, IsSameButCache, chunk_of_write, is_usable, may_use}
use Rattle.commits.specs.Planning.{ArePlannedBy, HasFailedFor, IsAmongOn, IsDamagedWrite, IsPlannedBy}

pub same_then : (a b c : Log) → IsSameButCache a b → IsSameButCache b c → IsSameButCache a c
same_then a b c first second = record { events = second.events ∙ first.events; generations = second.generations ∙ first.generations; locals = second.locals ∙ first.locals }

pub same_log : (a : Log) → IsSameButCache a a
same_log a = record { events = refl; generations = refl; locals = refl }

module _ (first store : StoreSeen) (log now : Log) (same : IsSameButCache log now) (kept : KeepsAgreement first log store now) where
  usable_same : (k : Known) (w : ChunkWrite) → may_use now k w ≡ may_use log k w
  usable_same k w i = is_usable (unwrap_or (finmap.get (same.generations i) w.key) k.opened) (resized_after (same.events i) w.array) w.ready

  ready_same : (start : Contents) (k : Known) (w : ChunkWrite) → IsReadyWrite start log k w → IsReadyWrite start now k w
  ready_same start k w ready may = subst (λ events. IsReadyBy start events k w w.ready) (sym same.events) (ready (sym (usable_same k w) ∙ may))

  pub planned_first : (w : ChunkWrite) (p : Planned) (number : ℕ) → IsPlannedBy store now number w p → IsPlannedBy first log number w p
  planned_first w p number is = record {
    array = is.array;
    chunk = is.chunk;
    key = is.key;
    left = λ k known. is.left k (ap (λ events. known_after events w.array) same.events ∙ known);
    numbered = is.numbered;
    plan = λ opening start k agrees told known ready.
        subst (λ events. IsPlanOf start events number k w p.left) same.events
        (is.plan opening start k (kept opening agrees) told (ap (λ events. known_after events w.array) same.events ∙ known) (ready_same start k w ready));
  }

  pub damaged_first : (w : ChunkWrite) (key : List ℕ) (cause : Damage) → IsDamagedWrite store now w key cause → IsDamagedWrite first log w key cause
  damaged_first w key cause is = record {
    there = λ opening start agrees told. subst (λ events. IsDamaged start events (chunk_of_write w) key cause) same.events (is.there opening start (kept opening agrees) told);
    partly = λ k known. is.partly k (ap (λ events. known_after events w.array) same.events ∙ known);
  }

  pub failed_first : (owner : ℕ) (w : ChunkWrite) (arrays : List ℕ) (next : StoreSeen) (later : Log) (event : ℕ) → first.faults ≤ store.faults → ((mount : List ℕ) → IsAmongOn log.events (w.array ∷ []) mount → IsAmongOn log.events arrays mount)
      → IsFailedLook owner (chunk_of_write w) store next now later event → HasFailedFor owner arrays first next log.events later.events event
  failed_first owner w arrays next later event low among is = record {
    mount = is.mount;
    among = among is.mount (inl (is.array, sym (ap (λ events. known_after events w.array) same.events) ∙ is.known, is.on_mount));
    rose = let rose = is.failed.rose in omega (arith, rose, low);
    added = ap (λ (l : Log). l.events) is.failed.added ∙ ap (λ events. events ++ fault owner is.mount ∷ []) same.events;
    number = is.failed.number ∙ ap (λ events. length events + 1) same.events;
  }

-- plans of the writes that are left, behind one more
pub planned_more : (store : StoreSeen) (log : Log) (number step : ℕ) (w : ChunkWrite) (ws : List ChunkWrite) (p : Planned) (ps : List Planned) → IsPlannedBy store log number w p → ArePlannedBy store log (number + step) step ws ps
    → ArePlannedBy store log number step (w ∷ ws) (p ∷ ps)
planned_more store log number step w ws p ps one more = (one, more)
