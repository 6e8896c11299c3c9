use Rattle.std.proofs.Common.{sym, ap, subst}
use Rattle.std.specs.Prelude.{IsSome}
use Rattle.std.specs.List.{AllByRecursion}
use Rattle.history.specs.Arrays.{known_after}
use Rattle.chunk_plans.specs.declared.HeldCells.{HeldCells}
use Rattle.chunk_plans.specs.Changing.{IsDeed, KeepsByDeed}
use Rattle.chunk_plans.specs.Log.{Log, StateOf}
use Rattle.commits.proofs.making.commit_deed.Goals as goal

pub commit-requires-clause-deed : goal.commit-requires-clause-deed
commit-requires-clause-deed g c =
    let same = ap (λ (st : StateOf g.row.K.Denot). st.log) c.make_room.ensures.same in
    subst (λ (log : Log). IsDeed log c.args.owner c.args.deed) (sym same) c.requires.deed

pub commit-requires-clause-known : goal.commit-requires-clause-known
commit-requires-clause-known g c =
    let same = ap (λ (st : StateOf g.row.K.Denot). st.log) c.make_room.ensures.same in
    subst (λ (log : Log). AllByRecursion (λ (h : HeldCells). IsSome (known_after log.events h.array)) c.args.deed.cells.items) (sym same) c.requires.known

pub returns-clause-kept : goal.returns-clause-kept
returns-clause-kept g c =
    let seen = g.K.KvStore.seen in
    let next = seen c.commit.new.self.store in
    let later = c.commit.new.self.log in
    subst (λ (st : StateOf g.row.K.Denot). KeepsByDeed (seen st.store) st.log c.args.owner c.args.deed c.args.changes.items next later) c.make_room.ensures.same c.commit.ensures.kept
