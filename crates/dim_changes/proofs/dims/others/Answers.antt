use Rattle.std.proofs.Common.{◌≡◌, ◌∙◌, sym, ap, ◌++◌, ◌∷◌, [], true, false, rules}
use Rattle.std.specs.Option.{is_none}
use Rattle.dim_changes.specs.Dims.{spot_in, others}
use Rattle.dim_changes.proofs.Lists.{others_more}
use Rattle.dim_changes.proofs.LeftLaws.{others_known, others_few}
use Rattle.dim_changes.proofs.dims.others.Goals as goal
use Rattle.dim_changes.proofs.dims.others.Goals.{then-is_none+in_ok-push, else-is_none}

pub loop-dim-preserved : goal.loop-dim-preserved
loop-dim-preserved c =
    elim c.if-is_none.branch [
      | then-is_none+in_ok-push w ↦
          let left : is_none (spot_in c.args.selected.now c.loop-dim.dim) ≡ true = search rules in
          let more = others_more c.args.selected.now c.loop-dim.dim true left in
          let rest : c.loop-dim.rest.items ≡ others c.args.selected.now c.loop-dim.dim = c.loop-dim.invariant in
          ap (λ v. v.items) w.rest-is ∙ w.in_ok-push.ensures.items ∙ ap (λ ds. ds ++ c.loop-dim.dim ∷ []) rest ∙ sym more
      | else-is_none w ↦
          let taken : is_none (spot_in c.args.selected.now c.loop-dim.dim) ≡ false = search rules in
          let more = others_more c.args.selected.now c.loop-dim.dim false taken in
          let rest : c.loop-dim.rest.items ≡ others c.args.selected.now c.loop-dim.dim = c.loop-dim.invariant in
          ap (λ v. v.items) w.rest-is ∙ rest ∙ sym more
    ]

pub returns-clause-known : goal.returns-clause-known
returns-clause-known c = others_known c.args.selected.now c.loop-dim.dim c.args.rank c.loop-dim.rest.items c.loop-dim.auto.dim-end c.loop-dim.invariant

pub returns-clause-few : goal.returns-clause-few
returns-clause-few c = others_few c.args.selected.now c.loop-dim.dim c.args.rank c.loop-dim.rest.items c.loop-dim.auto.dim-end c.loop-dim.invariant
