use Rattle.std.proofs.Common.{◌≡◌, ◌∙◌, ap, sym, subst, arith, List, pos}
use Rattle.std.specs.List.{fold}
use Rattle.std.proofs.lemmas.Result.{IfOk-weaker}
use Rattle.cells.specs.declared.run.Run.{Run}
use Rattle.strided_runs.specs.declared.lines.Loop.{Loop}
use Rattle.strided_runs.specs.Loops.{looped}
use Rattle.strided_runs.specs.Growing.{Grown, grown, runs_of_growing}
use Rattle.strided_runs.specs.Runs.{runs_of_pairs}
use Rattle.strided_runs.proofs.LinePuts.{AreReady, ready, ready-all_joined, runs-looped}
use Rattle.strided_runs.proofs.lines.runs_of_loops.Goals as goal

pub put_loops-requires : goal.put_loops-requires
put_loops-requires c =
    let all = c.args.loops.now in
    let kept = c.deref.ensures.value ∙ c.in_ok-kept.ensures in
    let given = ready all c.args.view c.args.chunk c.requires.some c.requires.rise c.requires.small c.requires.places in
    let h = subst (λ (ls : List Loop). AreReady ls c.args.view c.args.chunk) (sym kept) (ready-all_joined all c.args.view c.args.chunk given) in
    let begun = ap (λ (g : Grown). g.run.view) c.before-growing.ensures in
    let none = ap (λ (g : Grown). g.run.len) c.before-growing.ensures in
    record {
      before = omega (arith, begun, none);
      some = h.small.run;
      rise = h.small.rise;
      small = h.small.small;
      places = h.stay;
    }

pub returns : goal.returns
returns c =
    let all = c.args.loops.now in
    let kept = c.deref.ensures.value ∙ c.in_ok-kept.ensures in
    let put = c.in_ok-put_loops.ensures ∙ ap (λ (g : Grown). fold grown g (looped c.deref.result.now c.args.view (pos c.args.chunk))) c.before-growing.ensures in
    IfOk-weaker c.into_runs.result (λ (runs : List Run). runs ≡ runs_of_growing c.put_loops.new.growing) (λ (runs : List Run). runs ≡ runs_of_pairs (looped all c.args.view (pos c.args.chunk)))
    (λ runs is. is ∙ runs-looped all c.deref.result.now c.args.view c.args.chunk c.put_loops.new.growing c.requires.some kept put)
    c.into_runs.ensures
