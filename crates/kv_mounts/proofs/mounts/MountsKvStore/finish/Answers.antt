use Rattle.std.proofs.Common.{◌≡◌, length, take, drop, ◌++◌, true, false, ap, sym, subst, ◌∙◌, Some}
use Rattle.std.specs.Prelude.{IsErr}
use Rattle.kv_face.specs.Store.{failing, finished, HasCause, NoneFell}
use Rattle.kv_mounts.specs.Parts.{AreMounts, names_of}
use Rattle.kv_mounts.specs.Union.{union_of, prefixes_of, change_count_of, standing_of, faults_of, counts_of}
use Rattle.kv_mounts.specs.Finish.{AreFinished}
use Rattle.kv_mounts.proofs.Finishing.{refill_same, long_of, AreMounts-finished, same_names, same_prefixes, same_union, same_count, standing_finished, finished_cause, finished_counts, ok_by, err_by, err_true}
use Rattle.kv_mounts.proofs.mounts.MountsKvStore.finish.Goals as goal

pub invariant_of-self : goal.invariant_of-self
invariant_of-self g c =
    let old = c.self.inside.list.items in
    let new = c.finish_all.new.mounts in
    let done : AreFinished old new = subst (λ xs. AreFinished xs new) c.as_mut_slice.ensures.value c.finish_all.ensures.finished in
    let count : c.self.inside.list.len ≡ length old = sym c.as_mut_slice.ensures.len ∙ ap length c.as_mut_slice.ensures.value in
    subst AreMounts (sym (refill_same c.self.inside.list.len old new count (long_of old new done))) (AreMounts-finished old new done c.self.invariant)

pub returns-clause-finished : goal.returns-clause-finished
returns-clause-finished g c =
    let old = c.self.inside.list.items in
    let new = c.finish_all.new.mounts in
    let done : AreFinished old new = subst (λ xs. AreFinished xs new) c.as_mut_slice.ensures.value c.finish_all.ensures.finished in
    let count : c.self.inside.list.len ≡ length old = sym c.as_mut_slice.ensures.len ∙ ap length c.as_mut_slice.ensures.value in
    ok_by (standing_of (take c.self.inside.list.len (new ++ drop (length new) old)) ≡ finished) c.finish_all.result
    (λ e. ap standing_of (refill_same c.self.inside.list.len old new count (long_of old new done)) ∙ standing_finished old new false done (sym c.finish_all.ensures.failed ∙ e))

pub returns-clause-failed : goal.returns-clause-failed
returns-clause-failed g c =
    let old = c.self.inside.list.items in
    let new = c.finish_all.new.mounts in
    let done : AreFinished old new = subst (λ xs. AreFinished xs new) c.as_mut_slice.ensures.value c.finish_all.ensures.finished in
    let count : c.self.inside.list.len ≡ length old = sym c.as_mut_slice.ensures.len ∙ ap length c.as_mut_slice.ensures.value in
    err_by (standing_of (take c.self.inside.list.len (new ++ drop (length new) old)) ≡ failing) c.finish_all.result
    (λ e. ap standing_of (refill_same c.self.inside.list.len old new count (long_of old new done)) ∙ standing_finished old new true done (sym c.finish_all.ensures.failed ∙ e))

pub returns-clause-contents : goal.returns-clause-contents
returns-clause-contents g c =
    let old = c.self.inside.list.items in
    let new = c.finish_all.new.mounts in
    let done : AreFinished old new = subst (λ xs. AreFinished xs new) c.as_mut_slice.ensures.value c.finish_all.ensures.finished in
    let count : c.self.inside.list.len ≡ length old = sym c.as_mut_slice.ensures.len ∙ ap length c.as_mut_slice.ensures.value in
    ap union_of (refill_same c.self.inside.list.len old new count (long_of old new done)) ∙ same_union old new done ∙ ap union_of c.self.view_is

pub returns-clause-prefixes : goal.returns-clause-prefixes
returns-clause-prefixes g c =
    let old = c.self.inside.list.items in
    let new = c.finish_all.new.mounts in
    let done : AreFinished old new = subst (λ xs. AreFinished xs new) c.as_mut_slice.ensures.value c.finish_all.ensures.finished in
    let count : c.self.inside.list.len ≡ length old = sym c.as_mut_slice.ensures.len ∙ ap length c.as_mut_slice.ensures.value in
    ap prefixes_of (refill_same c.self.inside.list.len old new count (long_of old new done)) ∙ same_prefixes old new done ∙ ap prefixes_of c.self.view_is

pub returns-clause-names : goal.returns-clause-names
returns-clause-names g c =
    let old = c.self.inside.list.items in
    let new = c.finish_all.new.mounts in
    let done : AreFinished old new = subst (λ xs. AreFinished xs new) c.as_mut_slice.ensures.value c.finish_all.ensures.finished in
    let count : c.self.inside.list.len ≡ length old = sym c.as_mut_slice.ensures.len ∙ ap length c.as_mut_slice.ensures.value in
    ap Some (ap names_of (refill_same c.self.inside.list.len old new count (long_of old new done)) ∙ same_names old new done ∙ ap names_of c.self.view_is)

pub returns-clause-change_count : goal.returns-clause-change_count
returns-clause-change_count g c =
    let old = c.self.inside.list.items in
    let new = c.finish_all.new.mounts in
    let done : AreFinished old new = subst (λ xs. AreFinished xs new) c.as_mut_slice.ensures.value c.finish_all.ensures.finished in
    let count : c.self.inside.list.len ≡ length old = sym c.as_mut_slice.ensures.len ∙ ap length c.as_mut_slice.ensures.value in
    ap change_count_of (refill_same c.self.inside.list.len old new count (long_of old new done)) ∙ same_count old new done ∙ ap change_count_of c.self.view_is

pub returns-clause-cause : goal.returns-clause-cause
returns-clause-cause g c =
    let old = c.self.inside.list.items in
    let new = c.finish_all.new.mounts in
    let done : AreFinished old new = subst (λ xs. AreFinished xs new) c.as_mut_slice.ensures.value c.finish_all.ensures.finished in
    let count : c.self.inside.list.len ≡ length old = sym c.as_mut_slice.ensures.len ∙ ap length c.as_mut_slice.ensures.value in
    subst (λ ps. HasCause (faults_of ps) (faults_of (take c.self.inside.list.len (new ++ drop (length new) old))) (IsErr c.finish_all.result)) c.self.view_is
    (subst (λ ps. HasCause (faults_of old) (faults_of ps) (IsErr c.finish_all.result)) (sym (refill_same c.self.inside.list.len old new count (long_of old new done)))
    (finished_cause old new done (λ e. sym c.finish_all.ensures.failed ∙ err_true c.finish_all.result e)))

pub returns-clause-counts : goal.returns-clause-counts
returns-clause-counts g c =
    let old = c.self.inside.list.items in
    let new = c.finish_all.new.mounts in
    let done : AreFinished old new = subst (λ xs. AreFinished xs new) c.as_mut_slice.ensures.value c.finish_all.ensures.finished in
    let count : c.self.inside.list.len ≡ length old = sym c.as_mut_slice.ensures.len ∙ ap length c.as_mut_slice.ensures.value in
    subst (λ ps. NoneFell (counts_of ps) (counts_of (take c.self.inside.list.len (new ++ drop (length new) old)))) c.self.view_is
    (subst (λ ps. NoneFell (counts_of old) (counts_of ps)) (sym (refill_same c.self.inside.list.len old new count (long_of old new done)))
    (finished_counts old new done))
