use Rattle.std.proofs.Common.{List, sym, subst}
use Rattle.chunk_plans.specs.declared.Commit.{Commit}
use Rattle.chunk_plans.specs.Recorded.{done_event}
use Rattle.chunk_plans.specs.Changing.{AreMade}
use Rattle.chunk_plans.specs.declared.plan.Planned.{Planned}
use Rattle.commits.specs.Plans.{ArePlans, AreRightBy, changes_of}
use Rattle.commits.specs.Keyed.{key_event}
use Rattle.commits.proofs.OneLaws.{commit_of, one_made, one_plan, one_right}
use Rattle.commits.proofs.each.make_one.Goals as goal

pub commit_planned-requires-clause-agrees : goal.commit_planned-requires-clause-agrees
commit_planned-requires-clause-agrees g c =
    let it = c.requires.agrees in (
      it.0,
      (
        it.1.0,
        λ start told.
            subst (λ (commit : Commit). AreRightBy start c.args.state.now.log c.args.owner commit c.in-Ok-alone.plans.items) (sym c.in-Ok-keyed.ensures)
            (subst (λ (ps : List Planned). AreRightBy start c.args.state.now.log c.args.owner (commit_of c.args.line c.args.mode c.args.ops c.args.plan.key) ps) (sym c.in-Ok-alone.ensures)
            (one_right start c.args.state.now.log c.args.owner c.args.line c.args.mode c.args.ops c.args.plan (it.1.0.holds start told).legal c.requires.plan (it.1.1 start told))),
      ),
    )

pub commit_planned-requires-clause-plans : goal.commit_planned-requires-clause-plans
commit_planned-requires-clause-plans g c =
    let seen = g.K.KvStore.seen in
    subst (λ (commit : Commit). ArePlans c.args.state.now.log (done_event c.args.owner commit) c.in-Ok-alone.plans.items) (sym c.in-Ok-keyed.ensures)
    (subst (λ (ps : List Planned). ArePlans c.args.state.now.log (key_event c.args.owner c.args.line c.args.mode c.args.ops c.args.plan.key) ps) (sym c.in-Ok-alone.ensures)
    (one_plan (seen c.args.state.now.store) c.args.state.now.log c.args.owner c.args.line c.args.mode c.args.ops c.args.plan (c.requires.agrees.0, c.requires.agrees.1.0) c.requires.plan c.requires.numbered))

pub commit_planned-requires-clause-made : goal.commit_planned-requires-clause-made
commit_planned-requires-clause-made g c =
    let seen = g.K.KvStore.seen in
    subst (λ (ps : List Planned). AreMade (seen c.args.state.now.store) (changes_of ps)) (sym c.in-Ok-alone.ensures) (one_made (seen c.args.state.now.store) c.args.state.now.log c.args.owner c.args.line c.args.mode c.args.ops c.args.plan (c.requires.agrees.0, c.requires.agrees.1.0) c.requires.plan c.requires.numbered)

pub returns-clause-kept : goal.returns-clause-kept
returns-clause-kept g c opening agrees right =
    c.commit_planned.ensures.kept opening agrees
    (λ start told.
    subst (λ (commit : Commit). AreRightBy start c.args.state.now.log c.args.owner commit c.in-Ok-alone.plans.items) (sym c.in-Ok-keyed.ensures)
    (subst (λ (ps : List Planned). AreRightBy start c.args.state.now.log c.args.owner (commit_of c.args.line c.args.mode c.args.ops c.args.plan.key) ps) (sym c.in-Ok-alone.ensures)
    (one_right start c.args.state.now.log c.args.owner c.args.line c.args.mode c.args.ops c.args.plan (agrees.holds start told).legal c.requires.plan (right start told))))
