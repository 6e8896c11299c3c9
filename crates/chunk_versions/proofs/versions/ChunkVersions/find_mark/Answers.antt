use Rattle.std.proofs.Common.{◌≡◌, ◌≤◌, ◌<◌, ℕ, ◌+◌, ◌-◌, List, length, max, sym, ap, subst, ◌∙◌}
use Rattle.chunk_versions.specs.Moments.{up_to, newest}
use Rattle.chunk_versions.specs.Reach.{IsGood}
use Rattle.chunk_versions.specs.Versions.{Versions, IsVersions}
use Rattle.chunk_versions.proofs.Found.{found_mark, found_none, all_good}
use Rattle.chunk_versions.proofs.versions.ChunkVersions.find_mark.Goals as goal

pub first_shown-requires-clause-zeros : goal.first_shown-requires-clause-zeros
first_shown-requires-clause-zeros c = λ k. subst (λ (reach : List ℕ). IsGood reach k) (sym (c.deref_mut.ensures.value ∙ c.in_ok-reach.ensures.items_if_clones_equal (λ y e. e))) (all_good _ k)

pub mark_of-requires-clause-within : goal.mark_of-requires-clause-within
mark_of-requires-clause-within c =
    let touches : c.deref-in-Some.result.now ≡ c.args.self.now.touches = c.deref-in-Some.ensures.value ∙ ap (λ (w : Versions). w.touches) c.self.view_is in
    subst (λ ts. c.saturating_sub-first.result + c.in-Some.k < length ts) (sym touches) c.in-Some.ensures.some.0

pub returns-in-Some-clause-some : goal.returns-in-Some-clause-some
returns-in-Some-clause-some c =
    let v = c.args.self.now in
    let touches : c.deref-in-Some.result.now ≡ v.touches = c.deref-in-Some.ensures.value ∙ ap (λ (w : Versions). w.touches) c.self.view_is in
    found_mark v c.args.casts.now c.args.asked.now c.args.from c.saturating_sub-first.result c.in-Some.k c.mark_of.result c.in-Some.ensures.some.1
    (ap (up_to c.mark_of.result) (sym touches) ∙ c.mark_of.ensures.count) c.mark_of.ensures.from (subst (λ ts. c.mark_of.result ≤ max c.args.from (newest ts)) touches c.mark_of.ensures.upto)

pub returns-clause-none : goal.returns-clause-none
returns-clause-none c =
    let v = c.args.self.now in
    let touches : c.deref.result.now ≡ v.touches = c.deref.ensures.value ∙ ap (λ (w : Versions). w.touches) c.self.view_is in
    let first : c.saturating_sub-first.result ≡ up_to c.args.from v.touches - 1 = c.saturating_sub-first.ensures ∙ ap (λ n. n - 1) (c.up_to.ensures.value ∙ ap (up_to c.args.from) touches) in
    found_none v c.args.casts.now c.args.asked.now c.args.from c.saturating_sub-first.result (subst IsVersions c.self.view_is c.self.invariant) first c.in-None.ensures.none
