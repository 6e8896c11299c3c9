use Rattle.std.proofs.Common.{Err, [], ◌∷◌, sym, ap, subst, ◌∙◌}
use Rattle.std.specs.Prelude.{length}
use Rattle.chunk_plans.specs.Recorded.{done_event}
use Rattle.commits.specs.Plans.{changes_of}
use Rattle.commits.specs.Keyed.{IsMadeEach, plan_arrays}
use Rattle.commits.specs.Refused.{unmade}
use Rattle.commits.proofs.MadeLaws.{failed_unmade, none_added}
use Rattle.commits.proofs.joint.make_joint.Goals as goal

pub returns-in-Err-clause-made : goal.returns-in-Err-clause-made
returns-in-Err-clause-made g c =
    let seen = g.K.KvStore.seen in
    let e = done_event c.args.owner c.args.commit in
    subst (λ r. IsMadeEach c.args.owner (plan_arrays c.args.plans.items) (seen c.args.state.now.store) (seen c.commit_planned.new.state.store) c.args.state.now.log.events c.commit_planned.new.state.log.events (e ∷ []) (Err r))
    (sym (c.unmade.ensures ∙ ap (λ done. unmade done c.in-Err.error) c.in_ok-numbers.ensures.items))
    (none_added c.args.owner c.args.mount (plan_arrays c.args.plans.items) (seen c.args.state.now.store) (seen c.commit_planned.new.state.store) c.args.state.now.log c.commit_planned.new.state.log e (length (changes_of c.args.plans.items)) c.in-Err.error
    (λ event same. c.commit_planned.ensures.failed event (c.in-Err.is ∙ ap Err same)) (λ same. c.commit_planned.ensures.memory (c.in-Err.is ∙ ap Err same)) c.requires.mount (λ none. ap seen (c.commit_planned.ensures.uncalled none)))

pub returns-in-Ok-clause-rose : goal.returns-in-Ok-clause-rose
returns-in-Ok-clause-rose g c more =
    let why = c.commit_planned.ensures.told more in
    let no = sym c.in-Ok.is ∙ why.1 in
    absurd (cc)

pub returns-in-Err-clause-rose : goal.returns-in-Err-clause-rose
returns-in-Err-clause-rose g c more = failed_unmade c.commit_planned.result c.in_ok-numbers.numbers.items c.in-Err.error c.unmade.result c.in-Err.is c.unmade.ensures (c.commit_planned.ensures.told more)
