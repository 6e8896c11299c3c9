use Rattle.std.proofs.Common.{◌≡◌, ◌∙◌, length, sym, arith, rules, FitsSigned, w64, eqb-true}
use Rattle.std.proofs.lemmas.Int.{to_z-of_z}
use Rattle.std.proofs.lemmas.Result.{on_ok_weaker}
use Rattle.strided_runs.proofs.LinePuts.{first, behind, behind-shorter, ready, ready-split, turn-place, turn-view, outer-few, outer-rises, turn-ready, turn-before, turn-more, all-put, line-put}
use Rattle.strided_runs.proofs.lines.+put_loops.Goals as goal

pub view_along-next-requires : goal.view_along-next-requires
view_along-next-requires t c =
    let all = c.args.loops.now in
    let h = ready-split all c.args.view c.args.chunk c.in-len1-up.len_at_least (ready all c.args.view c.args.chunk c.requires.some c.requires.rise c.requires.small c.requires.places) in
    turn-view (first all) (behind all) c.args.view c.args.chunk h c.loop-k.k c.loop-k-test.true

pub place_along-requires : goal.place_along-requires
place_along-requires t c =
    let all = c.args.loops.now in
    let h = ready-split all c.args.view c.args.chunk c.in-len1-up.len_at_least (ready all c.args.view c.args.chunk c.requires.some c.requires.rise c.requires.small c.requires.places) in
    let fits : FitsSigned w64 (first all).chunk_step = search rules in
    let stored = to_z-of_z w64 (first all).chunk_step fits in
    rw stored (turn-place (first all) (behind all) c.args.view c.args.chunk h c.loop-k.k c.loop-k-test.true)

pub put_loops-requires : goal.put_loops-requires
put_loops-requires t c =
    let all = c.args.loops.now in
    let one = c.in-len1-up.len_at_least in
    let h = ready-split all c.args.view c.args.chunk one (ready all c.args.view c.args.chunk c.requires.some c.requires.rise c.requires.small c.requires.places) in
    let fits : FitsSigned w64 (first all).chunk_step = search rules in
    let stored = to_z-of_z w64 (first all).chunk_step fits in
    let there = rw stored at c.place_along.ensures in
    let next = turn-ready (first all) (behind all) c.args.view c.args.chunk h c.loop-k.k c.view_along-next.result c.place_along.result c.loop-k-test.true c.view_along-next.ensures there in
    let up = turn-before (first all) (behind all) c.args.view c.args.chunk h c.loop-k.k c.view_along-next.result c.loop-k.growing c.args.growing.now c.view_along-next.ensures c.requires.before c.loop-k.invariant in
    let shorter = behind-shorter all one in
    (omega (arith, shorter), (up, (next.small.run, (next.small.rise, (next.small.small, next.stay)))))

pub loop-k-preserved : goal.loop-k-preserved
loop-k-preserved t c =
    let all = c.args.loops.now in
    let h = ready-split all c.args.view c.args.chunk c.in-len1-up.len_at_least (ready all c.args.view c.args.chunk c.requires.some c.requires.rise c.requires.small c.requires.places) in
    let fits : FitsSigned w64 (first all).chunk_step = search rules in
    let stored = to_z-of_z w64 (first all).chunk_step fits in
    let there = rw stored at c.place_along.ensures in
    turn-more (first all) (behind all) c.args.view c.args.chunk h c.loop-k.k c.view_along-next.result c.place_along.result c.loop-k.growing c.put_loops.new.growing c.args.growing.now
    c.loop-k-test.true c.view_along-next.ensures there c.loop-k.invariant c.in_ok-put_loops.ensures

pub push_line-requires : goal.push_line-requires
push_line-requires t c =
    let all = c.args.loops.now in
    let h = ready-split all c.args.view c.args.chunk c.in-len1-up.len_at_least (ready all c.args.view c.args.chunk c.requires.some c.requires.rise c.requires.small c.requires.places) in
    let fits : FitsSigned w64 (first all).chunk_step = search rules in
    let stored = to_z-of_z w64 (first all).chunk_step fits in
    record {
      before = omega (arith, c.requires.before);
      rise = outer-rises (first all) (behind all) c.args.view c.args.chunk h;
      few = outer-few (first all) (behind all) c.args.view c.args.chunk h;
      small = turn-view (first all) (behind all) c.args.view c.args.chunk h;
      places = rw stored (turn-place (first all) (behind all) c.args.view c.args.chunk h);
    }

pub returns-then-is_empty : goal.returns-then-is_empty
returns-then-is_empty t c =
    let all = c.args.loops.now in
    let fits : FitsSigned w64 (first all).chunk_step = search rules in
    let stored = to_z-of_z w64 (first all).chunk_step fits in
    let none = eqb-true (length (behind all)) 0 (sym c.is_empty.ensures ∙ c.if-is_empty.true) in
    on_ok_weaker c.push_line.result (λ is. (rw stored at is) ∙ line-put all c.args.view c.args.chunk c.args.growing.now c.in-len1-up.len_at_least none) c.push_line.ensures

pub returns : goal.returns
returns t c =
    let all = c.args.loops.now in
    let end : c.loop-k.k ≡ (first all).times = omega arith in
    c.loop-k.invariant ∙ all-put all c.args.view c.args.chunk c.args.growing.now c.loop-k.k c.in-len1-up.len_at_least end
