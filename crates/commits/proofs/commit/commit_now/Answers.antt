use Rattle.std.proofs.Common.{Ok, refl, subst}
use Rattle.commits.specs.declared.way.Way.TheVariants.{Whole, ByKeys}
use Rattle.commits.specs.Ways.{IsWay}
use Rattle.commits.proofs.Reaching.{may_plan, sized_each}
use Rattle.commits.proofs.RowLaws.{each_row, refused_row, right_of, whole_row}
use Rattle.commits.proofs.ToldLaws.{told_of_made, told_of_way}
use Rattle.commits.proofs.commit.commit_now.Goals as goal

pub way_of-requires-clause-agrees : goal.way_of-requires-clause-agrees
way_of-requires-clause-agrees g c = (c.requires.agrees.0, c.requires.agrees.1.0)

pub way_of-requires-clause-writes : goal.way_of-requires-clause-writes
way_of-requires-clause-writes g c = sized_each c.args.state.now.log.events c.args.p.ops c.args.p.writes.items c.requires.writes.each

pub commit_whole-requires-clause-agrees : goal.commit_whole-requires-clause-agrees
commit_whole-requires-clause-agrees g c =
    let seen = g.K.KvStore.seen in
    let way = subst (λ w. IsWay ((g.K.KvStore.seen c.args.state.now.store).prefixes) c.args.state.now.log c.args.p (Ok w)) c.in-Ok-Whole.field-0-is (subst (IsWay ((g.K.KvStore.seen c.args.state.now.store).prefixes) c.args.state.now.log c.args.p) c.in-Ok-Whole.is c.way_of.ensures) in
    let it = c.requires.agrees in (
      it.0,
      (
        it.1.0,
        λ start told. let is = it.1.1 start told in right_of it.0 start (seen c.args.state.now.store) c.args.state.now.log c.args.owner is.0 c.args.p it.1.0 told is.1 c.requires.writes way.0,
      ),
    )

pub commit_by_keys-requires-clause-agrees : goal.commit_by_keys-requires-clause-agrees
commit_by_keys-requires-clause-agrees g c =
    let seen = g.K.KvStore.seen in
    let way = subst (λ w. IsWay ((g.K.KvStore.seen c.args.state.now.store).prefixes) c.args.state.now.log c.args.p (Ok w)) c.in-Ok-ByKeys.field-0-is (subst (IsWay ((g.K.KvStore.seen c.args.state.now.store).prefixes) c.args.state.now.log c.args.p) c.in-Ok-ByKeys.is c.way_of.ensures) in
    let it = c.requires.agrees in (
      it.0,
      (
        it.1.0,
        λ start told. let is = it.1.1 start told in right_of it.0 start (seen c.args.state.now.store) c.args.state.now.log c.args.owner is.0 c.args.p it.1.0 told is.1 c.requires.writes way.0,
      ),
    )

pub commit_whole-requires-clause-writes : goal.commit_whole-requires-clause-writes
commit_whole-requires-clause-writes g c =
    let seen = g.K.KvStore.seen in
    let way = subst (λ w. IsWay ((g.K.KvStore.seen c.args.state.now.store).prefixes) c.args.state.now.log c.args.p (Ok w)) c.in-Ok-Whole.field-0-is (subst (IsWay ((g.K.KvStore.seen c.args.state.now.store).prefixes) c.args.state.now.log c.args.p) c.in-Ok-Whole.is c.way_of.ensures) in
    may_plan (seen c.args.state.now.store) c.args.state.now.log c.args.p.ops (c.requires.agrees.0, c.requires.agrees.1.0) c.args.p.writes.items c.requires.writes way.0.within

pub commit_by_keys-requires-clause-writes : goal.commit_by_keys-requires-clause-writes
commit_by_keys-requires-clause-writes g c =
    let seen = g.K.KvStore.seen in
    let way = subst (λ w. IsWay ((g.K.KvStore.seen c.args.state.now.store).prefixes) c.args.state.now.log c.args.p (Ok w)) c.in-Ok-ByKeys.field-0-is (subst (IsWay ((g.K.KvStore.seen c.args.state.now.store).prefixes) c.args.state.now.log c.args.p) c.in-Ok-ByKeys.is c.way_of.ensures) in
    may_plan (seen c.args.state.now.store) c.args.state.now.log c.args.p.ops (c.requires.agrees.0, c.requires.agrees.1.0) c.args.p.writes.items c.requires.writes way.0.within

pub returns-in-Ok-Whole-clause-row : goal.returns-in-Ok-Whole-clause-row
returns-in-Ok-Whole-clause-row g c opening start t agrees told is =
    let seen = g.K.KvStore.seen in
    let way = subst (λ w. IsWay ((g.K.KvStore.seen c.args.state.now.store).prefixes) c.args.state.now.log c.args.p (Ok w)) c.in-Ok-Whole.field-0-is (subst (IsWay ((g.K.KvStore.seen c.args.state.now.store).prefixes) c.args.state.now.log c.args.p) c.in-Ok-Whole.is c.way_of.ensures) in
    whole_row opening start (seen c.args.state.now.store) c.args.state.now.log c.args.owner t c.args.p agrees told is c.requires.writes way.0 way.1 (seen c.commit_whole.new.state.store) c.commit_whole.new.state.log c.commit_whole.result c.commit_whole.ensures.made

pub returns-in-Ok-Whole-clause-told : goal.returns-in-Ok-Whole-clause-told
returns-in-Ok-Whole-clause-told g c =
    let seen = g.K.KvStore.seen in
    let way = subst (λ w. IsWay ((g.K.KvStore.seen c.args.state.now.store).prefixes) c.args.state.now.log c.args.p (Ok w)) c.in-Ok-Whole.field-0-is (subst (IsWay ((g.K.KvStore.seen c.args.state.now.store).prefixes) c.args.state.now.log c.args.p) c.in-Ok-Whole.is c.way_of.ensures) in
    told_of_made c.args.owner (seen c.args.state.now.store) (seen c.commit_whole.new.state.store) c.args.state.now.log c.commit_whole.new.state.log c.args.p 0 _ c.commit_whole.result (Whole, way, refl) c.commit_whole.ensures.made

pub returns-in-Ok-Whole-clause-kept : goal.returns-in-Ok-Whole-clause-kept
returns-in-Ok-Whole-clause-kept g c opening agrees right =
    let seen = g.K.KvStore.seen in
    let way = subst (λ w. IsWay ((g.K.KvStore.seen c.args.state.now.store).prefixes) c.args.state.now.log c.args.p (Ok w)) c.in-Ok-Whole.field-0-is (subst (IsWay ((g.K.KvStore.seen c.args.state.now.store).prefixes) c.args.state.now.log c.args.p) c.in-Ok-Whole.is c.way_of.ensures) in
    c.commit_whole.ensures.kept opening agrees
    (λ start told. let it = right start told in right_of opening start (seen c.args.state.now.store) c.args.state.now.log c.args.owner it.0 c.args.p agrees told it.1 c.requires.writes way.0)

pub returns-in-Ok-ByKeys-clause-row : goal.returns-in-Ok-ByKeys-clause-row
returns-in-Ok-ByKeys-clause-row g c opening start t agrees told is =
    let seen = g.K.KvStore.seen in
    let way = subst (λ w. IsWay ((g.K.KvStore.seen c.args.state.now.store).prefixes) c.args.state.now.log c.args.p (Ok w)) c.in-Ok-ByKeys.field-0-is (subst (IsWay ((g.K.KvStore.seen c.args.state.now.store).prefixes) c.args.state.now.log c.args.p) c.in-Ok-ByKeys.is c.way_of.ensures) in
    each_row opening start (seen c.args.state.now.store) c.args.state.now.log c.args.owner t c.args.p agrees told is c.requires.writes way.0 way.1 way.2 (seen c.commit_by_keys.new.state.store) c.commit_by_keys.new.state.log c.commit_by_keys.result c.commit_by_keys.ensures.made

pub returns-in-Ok-ByKeys-clause-told : goal.returns-in-Ok-ByKeys-clause-told
returns-in-Ok-ByKeys-clause-told g c =
    let seen = g.K.KvStore.seen in
    let way = subst (λ w. IsWay ((g.K.KvStore.seen c.args.state.now.store).prefixes) c.args.state.now.log c.args.p (Ok w)) c.in-Ok-ByKeys.field-0-is (subst (IsWay ((g.K.KvStore.seen c.args.state.now.store).prefixes) c.args.state.now.log c.args.p) c.in-Ok-ByKeys.is c.way_of.ensures) in
    told_of_made c.args.owner (seen c.args.state.now.store) (seen c.commit_by_keys.new.state.store) c.args.state.now.log c.commit_by_keys.new.state.log c.args.p 1 _ c.commit_by_keys.result (ByKeys, way, refl) c.commit_by_keys.ensures.made

pub returns-in-Ok-ByKeys-clause-kept : goal.returns-in-Ok-ByKeys-clause-kept
returns-in-Ok-ByKeys-clause-kept g c opening agrees right =
    let seen = g.K.KvStore.seen in
    let way = subst (λ w. IsWay ((g.K.KvStore.seen c.args.state.now.store).prefixes) c.args.state.now.log c.args.p (Ok w)) c.in-Ok-ByKeys.field-0-is (subst (IsWay ((g.K.KvStore.seen c.args.state.now.store).prefixes) c.args.state.now.log c.args.p) c.in-Ok-ByKeys.is c.way_of.ensures) in
    c.commit_by_keys.ensures.kept opening agrees
    (λ start told. let it = right start told in right_of opening start (seen c.args.state.now.store) c.args.state.now.log c.args.owner it.0 c.args.p agrees told it.1 c.requires.writes way.0)

pub returns-in-Err-clause-row : goal.returns-in-Err-clause-row
returns-in-Err-clause-row g c opening start t agrees told is =
    let seen = g.K.KvStore.seen in
    let way = subst (IsWay ((g.K.KvStore.seen c.args.state.now.store).prefixes) c.args.state.now.log c.args.p) c.in-Err.is c.way_of.ensures in
    refused_row opening start (seen c.args.state.now.store) c.args.state.now.log c.args.owner t c.args.p agrees told is c.requires.writes c.in-Err.refused way

pub returns-in-Err-clause-told : goal.returns-in-Err-clause-told
returns-in-Err-clause-told g c =
    let seen = g.K.KvStore.seen in
    let way = subst (IsWay ((g.K.KvStore.seen c.args.state.now.store).prefixes) c.args.state.now.log c.args.p) c.in-Err.is c.way_of.ensures in
    told_of_way c.args.owner (seen c.args.state.now.store) c.args.state.now.log c.args.p c.in-Err.refused way
