use Rattle.std.proofs.Common.{◌<◌, ◌+◌, length, sym, ap, subst, ◌∙◌}
use Rattle.std.specs.Prelude.{IsSome}
use Rattle.std.specs.List.{AllByRecursion}
use Rattle.history.specs.Arrays.{known_after}
use Rattle.history.proofs.Laws.{known_after-more}
use Rattle.chunk_plans.specs.Changing.{IsRightBy}
use Rattle.chunk_plans.specs.Log.{Log}
use Rattle.chunk_plans.specs.Recorded.{done_event}
use Rattle.chunk_plans.specs.declared.HeldCells.{HeldCells}
use Rattle.chunk_plans.specs.Writes.{IsSameButCache}
use Rattle.commits.specs.Keeping.{IsChunkLeft, MayKeep}
use Rattle.commits.specs.Plans.{deed_of}
use Rattle.commits.proofs.HeldLaws.{plans_deed, plans_right, cells_known}
use Rattle.commits.proofs.KeepLaws.{chunks_left, may_left}
use Rattle.commits.proofs.making.commit_parts.Goals as goal

pub commit_deed-requires-clause-agrees : goal.commit_deed-requires-clause-agrees
commit_deed-requires-clause-agrees g c = let state = c.requires.parts.3 in (state.0, state.1.0)

pub commit_deed-requires-clause-deed : goal.commit_deed-requires-clause-deed
commit_deed-requires-clause-deed g c =
    let seen = g.K.KvStore.seen in
    let parts = c.requires.parts in
    plans_deed parts.3.0 (seen c.args.state.now.store) c.args.state.now.log c.args.owner (deed_of c.args.mount c.args.commit c.args.parts) parts.0 parts.3.1.0 parts.2.keys parts.2.cells parts.1

pub commit_deed-requires-clause-known : goal.commit_deed-requires-clause-known
commit_deed-requires-clause-known g c =
    let parts = c.requires.parts in
    subst (AllByRecursion (λ (h : HeldCells). IsSome (known_after c.args.state.now.log.events h.array))) (sym parts.2.cells) (cells_known c.args.state.now.log (done_event c.args.owner c.args.commit) parts.0 parts.1.each)

pub keep_left-requires-clause-chunks : goal.keep_left-requires-clause-chunks
keep_left-requires-clause-chunks g c =
    let log = c.args.state.now.log in
    let e = done_event c.args.owner c.args.commit in
    let later = c.commit_deed.new.state.log in
    let parts = c.requires.parts in
    subst (AllByRecursion (IsChunkLeft later.events)) (sym parts.2.left) (chunks_left log later e (ap (λ (l : Log). l.events) c.in-Ok.ensures.after) (known_after-more log.events e) parts.0 parts.1.each)

pub keep_left-requires-clause-agrees : goal.keep_left-requires-clause-agrees
keep_left-requires-clause-agrees g c =
    let seen = g.K.KvStore.seen in
    let log = c.args.state.now.log in
    let e = done_event c.args.owner c.args.commit in
    let deed = deed_of c.args.mount c.args.commit c.args.parts in
    let later = c.commit_deed.new.state.log in
    let parts = c.requires.parts in
    let state = parts.3 in (
      state.0,
      (
        c.commit_deed.ensures.kept state.0 state.1.0
            (λ start told.
            let by = state.1.1 start told in
            subst (IsRightBy start log c.args.owner deed) (sym parts.2.changes)
            (plans_right state.0 (seen c.args.state.now.store) log c.args.owner deed parts.0 state.1.0 parts.2.keys parts.2.cells parts.1 start by.each by.legal by.counted)),
        subst (λ n. AllByRecursion (MayKeep state.0 later n) c.args.parts.left.items) (sym c.in-Ok.ensures.number)
            (subst (AllByRecursion (MayKeep state.0 later (length log.events + 1))) (sym parts.2.left)
            (may_left log later e (ap (λ (l : Log). l.events) c.in-Ok.ensures.after) (known_after-more log.events e) state.0 parts.0 parts.1.each (λ start told. (state.1.1 start told).each))),
      ),
    )

pub returns-in-Ok-clause-after : goal.returns-in-Ok-clause-after
returns-in-Ok-clause-after g c = subst (λ (log : Log). IsSameButCache log c.keep_left.new.state.log) c.in-Ok.ensures.after c.keep_left.ensures.same

pub returns-in-Ok-clause-kept : goal.returns-in-Ok-clause-kept
returns-in-Ok-clause-kept g c plans are of opening agrees right =
    let seen = g.K.KvStore.seen in
    let log = c.args.state.now.log in
    let e = done_event c.args.owner c.args.commit in
    let deed = deed_of c.args.mount c.args.commit c.args.parts in
    let later = c.commit_deed.new.state.log in
    c.keep_left.ensures.kept opening
    (c.commit_deed.ensures.kept opening agrees
    (λ start told.
    let by = right start told in
    subst (IsRightBy start log c.args.owner deed) (sym of.changes) (plans_right opening (seen c.args.state.now.store) log c.args.owner deed plans agrees of.keys of.cells are start by.each by.legal by.counted)))
    (subst (λ n. AllByRecursion (MayKeep opening later n) c.args.parts.left.items) (sym c.in-Ok.ensures.number)
    (subst (AllByRecursion (MayKeep opening later (length log.events + 1))) (sym of.left)
    (may_left log later e (ap (λ (l : Log). l.events) c.in-Ok.ensures.after) (known_after-more log.events e) opening plans are.each (λ start told. (right start told).each))))

pub returns-in-Err-clause-kept : goal.returns-in-Err-clause-kept
returns-in-Err-clause-kept g c plans are of opening agrees right =
    let seen = g.K.KvStore.seen in
    let log = c.args.state.now.log in
    let deed = deed_of c.args.mount c.args.commit c.args.parts in
    c.commit_deed.ensures.kept opening agrees
    (λ start told.
    let by = right start told in
    subst (IsRightBy start log c.args.owner deed) (sym of.changes) (plans_right opening (seen c.args.state.now.store) log c.args.owner deed plans agrees of.keys of.cells are start by.each by.legal by.counted))

pub returns-in-Ok-clause-told : goal.returns-in-Ok-clause-told
returns-in-Ok-clause-told g c more =
    let seen = g.K.KvStore.seen in
    let rose = subst (λ (s : g.row.K.Denot). (seen c.args.state.now.store).faults < (seen s).faults) c.keep_left.ensures.store more in
    let why = c.commit_deed.ensures.told rose in
    let no = sym c.in-Ok.is ∙ why.1 in
    absurd (cc)

pub returns-in-Err-clause-told : goal.returns-in-Err-clause-told
returns-in-Err-clause-told g c more = let why = c.commit_deed.ensures.told more in (why.0, sym c.in-Err.is ∙ why.1)
