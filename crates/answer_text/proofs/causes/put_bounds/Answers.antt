use Rattle.std.proofs.Common.{◌≡◌, ◌∙◌, ◌++◌, ℤ, ap, append_assoc, rules, w64, to_z, of_z, FitsSigned}
use Rattle.std.proofs.lemmas.Int.{to_z-of_z}
use Rattle.std.specs.Prelude.{codes}
use Rattle.answer_text.specs.Causes.{bounds_text}
use Rattle.answer_text.specs.Pieces.{bound_text}
use Rattle.answer_text.proofs.Items.{four_put, when_ok}
use Rattle.answer_text.proofs.causes.put_bounds.Goals as goal

pub returns : goal.returns
unfolding bounds_text
returns c =
    let lo_fits : FitsSigned w64 c.args.lo = search rules in
    let hi_fits : FitsSigned w64 c.args.hi = search rules in
    let lo_same : to_z w64 (of_z w64 c.args.lo) ≡ c.args.lo = to_z-of_z w64 c.args.lo lo_fits in
    let hi_same : to_z w64 (of_z w64 c.args.hi) ≡ c.args.hi = to_z-of_z w64 c.args.hi hi_fits in
    when_ok _ _ c.put_bound-2.result (λ h. four_put (bounds_text c.args.lo c.args.hi) c.args.out.now.items
    (codes "{\"cause\":\"out_of_range\",\"hi\":")
    (bound_text c.args.hi)
    (codes ",\"lo\":")
    (bound_text c.args.lo)
    c.put.new.out.items c.put_bound.new.out.items c.put-2.new.out.items c.put_bound-2.new.out.items
    c.in_ok-put.ensures (c.in_ok-put_bound.ensures ∙ ap (λ (z : ℤ). c.put.new.out.items ++ bound_text z) hi_same) c.in_ok-put-2.ensures
    (h ∙ ap (λ (z : ℤ). c.put-2.new.out.items ++ bound_text z) lo_same) (simp append_assoc)) c.put_bound-2.ensures
