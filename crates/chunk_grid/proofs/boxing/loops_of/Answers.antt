use Rattle.std.proofs.Common.{◌≡◌, ◌∙◌, ◌+◌, ◌++◌, pos, List, ◌∷◌, [], ap, drop, filter, get_or, sym, subst, FitsSigned, rules}
use mir.Syntax.{w64}
use Rattle.std.proofs.lemmas.Int.{to_z-of_z}
use Rattle.index_transform.specs.Maps.{size_of}
use Rattle.chunk_grid.specs.Boxes.{loops_of, runs_more_than_once, IsSmallStep}
use Rattle.strided_runs.specs.declared.lines.Loop.{Loop}
use Rattle.chunk_grid.proofs.KeptLaws.{step-at, loops-more, kept-pushed, kept-passed}
use Rattle.chunk_grid.proofs.boxing.loops_of.Goals as goal
use Rattle.chunk_grid.proofs.boxing.loops_of.Goals.{then-times-ne1+in_ok-push, else-times-ne1}

pub small_step-requires-clause-small : goal.small_step-requires-clause-small
small_step-requires-clause-small c =
    step-at IsSmallStep c.args.dims.now c.args.views.now c.args.chunks.now c.loop-d.d c.index-dims-d.result c.loop-d-test.true c.requires.views c.requires.chunks c.index-dims-d.is c.requires.small
    (λ e. c.if-times-ne1.true (c.size_of-times.ensures ∙ e))

pub loop-d-preserved : goal.loop-d-preserved
loop-d-preserved c =
    let d = c.loop-d.d in
    let loop : Loop = record { times = size_of c.index-dims-d.result; view_step = get_or c.args.views.now d 0; chunk_step = get_or c.args.chunks.now d (pos 0) } in
    let rest = loops_of (drop (d + 1) c.args.dims.now) (drop (d + 1) c.args.views.now) (drop (d + 1) c.args.chunks.now) in
    let whole = filter runs_more_than_once (loops_of c.args.dims.now c.args.views.now c.args.chunks.now) in
    let more = loops-more c.args.dims.now c.args.views.now c.args.chunks.now d c.index-dims-d.result c.loop-d-test.true c.requires.views c.requires.chunks c.index-dims-d.is in
    let before : c.loop-d.loops.items ++ filter runs_more_than_once (loop ∷ rest) ≡ whole =
    sym (ap (λ (ls : List Loop). c.loop-d.loops.items ++ filter runs_more_than_once ls) more) ∙ c.loop-d.invariant in
    elim c.if-times-ne1.branch [
      | then-times-ne1+in_ok-push w ↦
          let fits : FitsSigned w64 w.small_step.result = search rules in
          let stored = to_z-of_z w64 w.small_step.result fits in
          let items : c.if-times-ne1.loops.items ≡ c.loop-d.loops.items ++ loop ∷ [] =
          ap (λ v. v.items) w.loops-is ∙ w.in_ok-push.ensures.items
          ∙ ap (λ s. let l : Loop = record { times = c.size_of-times.result; view_step = get_or c.args.views.now d 0; chunk_step = s } in c.loop-d.loops.items ++ l ∷ []) stored
          ∙ ap (λ t. let l : Loop = record { times = t; view_step = get_or c.args.views.now d 0; chunk_step = w.small_step.result } in c.loop-d.loops.items ++ l ∷ []) c.size_of-times.ensures
          ∙ ap (λ s. let l : Loop = record { times = size_of c.index-dims-d.result; view_step = get_or c.args.views.now d 0; chunk_step = s } in c.loop-d.loops.items ++ l ∷ []) w.small_step.ensures in
          subst (λ (ls : List Loop). ls ++ filter runs_more_than_once rest ≡ whole) (sym items)
          (kept-pushed c.loop-d.loops.items rest whole loop (λ e. w.if-times-ne1.true (c.size_of-times.ensures ∙ e)) before)
      | else-times-ne1 w ↦
          subst (λ (ls : List Loop). ls ++ filter runs_more_than_once rest ≡ whole) (sym (ap (λ v. v.items) w.loops-is))
          (kept-passed c.loop-d.loops.items rest whole loop (sym c.size_of-times.ensures ∙ w.if-times-ne1.false) before)
    ]
