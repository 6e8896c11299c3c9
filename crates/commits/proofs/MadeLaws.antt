-- Answers of commits, as far as they were made.
use Rattle.std.proofs.Common.{◌≡◌, ℕ, ◌+◌, ◌<◌, ◌≤◌, List, [], ◌∷◌, ◌++◌, length, take, Result, Ok, Err, ◌⊎◌, inl, inr, refl, sym, ap, subst, ◌∙◌, arith}
use Rattle.std.specs.Result.{IsErr, IsErrAnd}
use Rattle.std.proofs.lemmas.List.{append-nil}
use Rattle.history.specs.declared.event.Event.{Event}
use Rattle.history.specs.History.{History}
use Rattle.history.specs.Own.{fault}
use Rattle.chunk_plans.specs.declared.ChangeError.{ChangeError}
use Rattle.chunk_plans.specs.declared.ChangeError.TheVariants as change
use Rattle.chunk_plans.specs.declared.FetchError.{FetchError}
use Rattle.chunk_plans.specs.declared.FetchError.TheVariants as fetch
use Rattle.chunk_forms.specs.declared.form.Damage.{Damage}
use Rattle.chunk_plans.specs.Fetches.{HasFailed}
use Rattle.chunk_plans.specs.Log.{Log}
use Rattle.chunk_plans.specs.Seen.{StoreSeen}
use Rattle.chunk_plans.specs.declared.plan.Planned.{Planned}
use Rattle.chunk_plans.specs.declared.write.ChunkWrite.{ChunkWrite}
use Rattle.commits.specs.declared.refused.CommitRefused.{CommitRefused}
use Rattle.commits.specs.declared.refused.CommitRefused.TheVariants as refused
use Rattle.commits.specs.Keyed.{IsMadeEach, IsPartAdded, plan_arrays}
use Rattle.commits.specs.Made.{IsMade}
use Rattle.commits.specs.Planning.{ArePlannedBy, HasFailedFor, IsAmongOn, IsFirstDamaged, write_arrays}
use Rattle.commits.specs.Refused.{HasStoreFailed, unmade, unplanned}
use Rattle.commits.proofs.Plans.{planned_arrays}

nothing_more : (events : History) → events ≡ events ++ []
nothing_more events = sym (append-nil events)

-- nothing was added
pub nothing_added : (events later : History) (all : List Event) → 0 < length all → later ≡ events → IsPartAdded events later all
nothing_added events later all some same = record { count = 0; fewer = some; added = same ∙ nothing_more events }

-- the one event was added
pub one_added : (owner : ℕ) (arrays : List ℕ) (store next : StoreSeen) (events later : History) (e : Event) (n : ℕ) (numbers : List ℕ) → n ≡ length events + 1 → later ≡ events ++ e ∷ [] → numbers ≡ n ∷ []
    → IsMadeEach owner arrays store next events later (e ∷ []) (Ok numbers)
one_added owner arrays store next events later e n numbers is added same = (added, same ∙ ap (λ m. m ∷ []) is)

-- it wasn't
pub none_added : (owner : ℕ) (mount : List ℕ) (arrays : List ℕ) (store next : StoreSeen) (log later : Log) (e : Event) (changes : ℕ) (error : ChangeError) → ((event : ℕ) → error ≡ change.StoreFailed event → HasFailed owner mount store next log later event)
    → (error ≡ change.Memory → later ≡ log) → IsAmongOn log.events arrays mount ⊎ (changes ≡ 0) → (changes ≡ 0 → next ≡ store) → IsMadeEach owner arrays store next log.events later.events (e ∷ []) (Err (unmade [] error))
none_added owner mount arrays store next log later e changes (change.StoreFailed event) failed memory among uncalled =
    let is = failed event refl in
    record {
      count = 0;
      fewer = omega arith;
      counted = refl;
      failed = record {
        mount = mount;
        among = subst (λ events. IsAmongOn events arrays mount) (nothing_more log.events) (elim among [ inl there ↦ there | inr none ↦ absurd (never (uncalled none) is.rose) ]);
        rose = is.rose;
        added = ap (λ (l : Log). l.events) is.added ∙ ap (λ events. events ++ fault owner mount ∷ []) (nothing_more log.events);
        number = is.number ∙ ap (λ events. length events + 1) (nothing_more log.events);
      };
    }
  where
    never : next ≡ store → store.faults < next.faults → ⊥
    never same rose = let faults = ap (λ (s : StoreSeen). s.faults) same in absurd (omega (arith, rose, faults))
none_added owner mount arrays store next log later e changes change.Memory failed memory among uncalled = nothing_added log.events later.events (e ∷ []) (omega arith) (ap (λ (l : Log). l.events) (memory refl))

-- what was planned, and made by the plans
module _ (owner : ℕ) (store middle next : StoreSeen) (log : Log) (now later : Log) (step : ℕ) (ws : List ChunkWrite) (ps : List Planned) (all : List Event) (same : now.events ≡ log.events) (low : store.faults ≤ middle.faults) (planned : ArePlannedBy store log (length log.events + 1) step ws ps) where
  failed_then : (events : History) (event : ℕ) → HasFailedFor owner (plan_arrays ps) middle next events later.events event → HasFailedFor owner (write_arrays ws) store next events later.events event
  failed_then events event is = record {
    mount = is.mount;
    among = subst (λ arrays. IsAmongOn events arrays is.mount) (planned_arrays store log (length log.events + 1) step ws ps planned) is.among;
    rose = let rose = is.rose in omega (arith, rose, low);
    added = is.added;
    number = is.number;
  }

  made_by : (result : Result (List ℕ) CommitRefused) → IsMadeEach owner (plan_arrays ps) middle next log.events later.events all result → IsMade owner store next log later step ws all result
  made_by (Ok numbers) is = record { plans = ps; planned = planned; added = is.0; counted = is.1 }
  made_by (Err (refused.Conflict key read n)) is = is
  made_by (Err (refused.Shrunk key n)) is = is
  made_by (Err (refused.NotAtomic keys)) is = is
  made_by (Err (refused.Damaged key cause)) is = absurd is
  made_by (Err (refused.StoreFailed event numbers)) is = record {
    count = is.count;
    fewer = is.fewer;
    planned = λ some. (ps, planned);
    counted = is.counted;
    failed = failed_then (log.events ++ take is.count all) event is.failed;
  }
  made_by (Err refused.Memory) is = record { count = is.count; fewer = is.fewer; planned = λ some. (ps, planned); added = is.added }

  pub made_then : (result : Result (List ℕ) CommitRefused) → IsMadeEach owner (plan_arrays ps) middle next now.events later.events all result → IsMade owner store next log later step ws all result
  made_then result is = made_by result (subst (λ events. IsMadeEach owner (plan_arrays ps) middle next events later.events all result) same is)

-- a chunk couldn't be planned
pub unplanned_made : (owner : ℕ) (store next : StoreSeen) (log later : Log) (step : ℕ) (ws : List ChunkWrite) (all : List Event) (error : FetchError) → 0 < length all
    → ((event : ℕ) → error ≡ fetch.StoreFailed event → HasFailedFor owner (write_arrays ws) store next log.events later.events event)
    → ((key : List ℕ) (cause : Damage) → error ≡ fetch.Damaged key cause → (later.events ≡ log.events) × IsFirstDamaged store log (length log.events + 1) step ws key cause)
    → (error ≡ fetch.Memory → later.events ≡ log.events) → IsMade owner store next log later step ws all (Err (unplanned error))
unplanned_made owner store next log later step ws all (fetch.StoreFailed event) some failed damaged memory = record {
  count = 0;
  fewer = some;
  planned = λ none. absurd (omega (arith, none));
  counted = refl;
  failed = subst (λ events. HasFailedFor owner (write_arrays ws) store next events later.events event) (nothing_more log.events) (failed event refl);
}
unplanned_made owner store next log later step ws all (fetch.Damaged key cause) some failed damaged memory = damaged key cause refl
unplanned_made owner store next log later step ws all fetch.Memory some failed damaged memory = record {
  count = 0;
  fewer = some;
  planned = λ none. absurd (omega (arith, none));
  added = memory refl ∙ nothing_more log.events;
}

-- memory was wanting before anything was done
pub wanting_made : (owner : ℕ) (store next : StoreSeen) (log later : Log) (step : ℕ) (ws : List ChunkWrite) (all : List Event) → 0 < length all → later.events ≡ log.events → IsMade owner store next log later step ws all (Err refused.Memory)
wanting_made owner store next log later step ws all some same = record {
  count = 0;
  fewer = some;
  planned = λ none. absurd (omega (arith, none));
  added = same ∙ nothing_more log.events;
}

pub wanting_by : (owner : ℕ) (store next : StoreSeen) (log later : Log) (step : ℕ) (ws : List ChunkWrite) (all : List Event) (result : Result (List ℕ) CommitRefused) → 0 < length all → later.events ≡ log.events → IsErr result × IsErrAnd result (λ e. e ≡ refused.Memory) → IsMade owner store next log later step ws all result
wanting_by owner store next log later step ws all (Ok numbers) some same is = absurd is.1
wanting_by owner store next log later step ws all (Err error) some same is = subst (λ e. IsMade owner store next log later step ws all (Err e)) (sym is.1) (wanting_made owner store next log later step ws all some same)

-- a failed call as a refusal
pub failed_unmade : {A : Type 0} (made : Result A ChangeError) (done : List ℕ) (error : ChangeError) (refusal : CommitRefused) → made ≡ Err error → refusal ≡ unmade done error → (event : ℕ) × (made ≡ Err (change.StoreFailed event)) → HasStoreFailed (Err refusal)
failed_unmade {A} made done error refusal is told why =
    let both = sym is ∙ why.1 in
    let one : error ≡ change.StoreFailed why.0 = cc in
    (why.0, done, ap (λ e. Err e) (told ∙ ap (unmade done) one))

pub failed_unplanned : {A : Type 0} (made : Result A FetchError) (error : FetchError) (refusal : CommitRefused) → made ≡ Err error → refusal ≡ unplanned error → (event : ℕ) × (made ≡ Err (fetch.StoreFailed event)) → HasStoreFailed (Err refusal)
failed_unplanned {A} made error refusal is told why =
    let both = sym is ∙ why.1 in
    let one : error ≡ fetch.StoreFailed why.0 = cc in
    (why.0, [], ap (λ e. Err e) (told ∙ ap unplanned one))
