use Rattle.std.proofs.Common.{◌+◌, ◌<◌, ◌≤◌, sym, subst, ap, length, arith}
use Rattle.std.specs.Prelude.{count_by}
use Rattle.history.specs.Legal.{is_opening}
use Rattle.open_fits.proofs.Laws.{infos_kept}
use Rattle.transcript_fits.proofs.StoredLaws.{AreStoredUpTo, all_stored, known_there, none_stored, stored_more}
use Rattle.transcript_fits.proofs.judge.stored_of.Goals as goal

pub loop-array-init : goal.loop-array-init
loop-array-init c = subst (AreStoredUpTo c.args.openings.now.events 0) (sym c.new-stored.ensures.items) (none_stored c.args.openings.now.events)

pub is_stored-requires-clause-known : goal.is_stored-requires-clause-known
is_stored-requires-clause-known c =
    let test = c.loop-array-test.true in
    let same = ap length c.items-array-end.ensures in
    let count = c.requires.count in
    let low : c.loop-array.array < count_by is_opening c.args.openings.now.events = omega (arith, test, same, count) in
    known_there c.loop-array.array c.args.openings.now.events c.requires.kept.legal low

pub is_stored-requires-clause-infos : goal.is_stored-requires-clause-infos
is_stored-requires-clause-infos c = infos_kept c.args.openings.now.events c.args.openings.now.opened c.args.openings.now.places c.requires.kept

pub loop-array-preserved : goal.loop-array-preserved
loop-array-preserved c =
    subst (AreStoredUpTo c.args.openings.now.events (c.loop-array.array + 1)) (sym c.in_ok-push.ensures.items)
    (stored_more c.args.openings.now.events c.loop-array.array c.loop-array.stored.items c.is_stored.result c.is_stored.ensures c.loop-array.invariant)

pub returns : goal.returns
returns c =
    let test = c.loop-array-test.false in
    let same = ap length c.items-array-end.ensures in
    let count = c.requires.count in
    let all : count_by is_opening c.args.openings.now.events ≤ c.loop-array.array = omega (arith, test, same, count) in
    all_stored c.args.openings.now.events c.loop-array.array c.loop-array.stored.items c.requires.kept.legal all c.loop-array.invariant
