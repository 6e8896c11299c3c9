use Rattle.std.proofs.Common.{◌∙◌, ◌<◌, ◌≤◌, ℕ, length, get_or, set, ap, arith}
use Rattle.stated_history.specs.Commits.{event_with, commit_at}
use Rattle.stated_history.proofs.PutLaws.{spot_at, read_as, event_there, put_more, put_all}
use Rattle.stated_history.proofs.putting.put_commits.Goals as goal

pub loop-k-preserved : goal.loop-k-preserved
loop-k-preserved c =
    let commits = c.args.commits.now in
    let spots = c.args.spots.now in
    let events = c.loop-k.events in
    let k = c.loop-k.k in
    let f = λ (j : ℕ). event_with (commit_at commits spots j) in
    let many = c.loop-k.invariant.count in
    let low : k < length spots = omega (arith, c.requires.count, many) in
    let here = event_there events k (omega (arith, low, c.requires.count, many)) in
    let commit = read_as commits (get_or spots k 0) c.index-commits-spots.result (spot_at (λ spot. spot < length commits) spots k c.requires.spots low) c.index-commits-spots.is in
    put_more f c.args.events.now events c.put_at.new.events k here.0 c.loop-k.invariant here.1 (c.in_ok-put_at.ensures.each here.0 here.1 ∙ ap (λ o. set events k (event_with o here.0)) commit)

pub returns : goal.returns
returns c =
    let all : length c.args.events.now ≤ c.loop-k.k = omega (arith, c.loop-k.invariant.count) in
    record {
      each = put_all (λ j. event_with (commit_at c.args.commits.now c.args.spots.now j)) c.args.events.now c.loop-k.events c.loop-k.k c.loop-k.invariant all;
      count = c.loop-k.invariant.count;
    }
