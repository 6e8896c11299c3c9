use Rattle.std.proofs.Common.{refl, sym, subst, ◌∙◌}
use Rattle.std.specs.List.{AllByRecursion}
use Rattle.commits.specs.Keeping.{IsChunkLeft, MayKeep}
use Rattle.commits.proofs.KeepLaws.{may_same}
use Rattle.commits.proofs.PlanningLaws.{same_log, same_then}
use Rattle.commits.proofs.keeping.keep_left.Goals as goal

pub loop-one-init : goal.loop-one-init
loop-one-init g c =
    let whole = sym c.into_iter-one-iterator.ensures.into_iter_gives.0 in
    record {
      same = same_log c.args.state.now.log;
      store = refl;
      chunks = subst (AllByRecursion (IsChunkLeft c.args.state.now.log.events)) whole c.requires.chunks;
      kept = λ opening agrees may. (agrees, subst (AllByRecursion (MayKeep opening c.args.state.now.log c.args.number)) whole may);
    }

pub keep-requires-clause-agrees : goal.keep-requires-clause-agrees
keep-requires-clause-agrees g c = let it = c.requires.agrees in (it.0, (c.loop-one.invariant.kept it.0 it.1.0 it.1.1).0)

pub keep-requires-clause-chunk : goal.keep-requires-clause-chunk
keep-requires-clause-chunk g c =
    subst (λ events. IsChunkLeft events c.in-Some.one) (sym c.loop-one.invariant.same.events) (subst (AllByRecursion (IsChunkLeft c.args.state.now.log.events)) c.in-Some.ensures.steps.0 c.loop-one.invariant.chunks).0

pub loop-one-preserved : goal.loop-one-preserved
loop-one-preserved g c =
    let log = c.args.state.now.log in
    let steps = c.in-Some.ensures.steps.0 in
    record {
      same = same_then log c.loop-one.state.log c.keep.new.state.log c.loop-one.invariant.same c.keep.ensures.same;
      store = c.keep.ensures.store ∙ c.loop-one.invariant.store;
      chunks = (subst (AllByRecursion (IsChunkLeft log.events)) steps c.loop-one.invariant.chunks).1;
      kept = λ opening agrees may.
          let there = c.loop-one.invariant.kept opening agrees may in
          let rest = subst (AllByRecursion (MayKeep opening log c.args.number)) steps there.1 in
          (c.keep.ensures.kept opening there.0 (may_same opening log c.loop-one.state.log c.args.number c.in-Some.one c.loop-one.invariant.same.events rest.0), rest.1);
    }

pub returns-clause-kept : goal.returns-clause-kept
returns-clause-kept g c opening agrees may = (c.loop-one.invariant.kept opening agrees may).0
