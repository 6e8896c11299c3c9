use Rattle.std.proofs.Common.{◌≡◌, length, ap, sym, subst, ◌∙◌}
use Rattle.kv_mounts.specs.Parts.{AreMounts}
use Rattle.kv_mounts.specs.Finish.{AreFinished}
use Rattle.kv_mounts.proofs.Finishing.{refill_same, long_of, AreMounts-finished}
use Rattle.kv_mounts.proofs.mounts.Mounts.finish_into.Goals as goal

pub invariant_of-self : goal.invariant_of-self
invariant_of-self g c =
    let old = c.self.inside.list.items in
    let new = c.finish_into.new.mounts in
    let done : AreFinished old new = subst (λ xs. AreFinished xs new) c.as_mut_slice.ensures.value c.finish_into.ensures.finished in
    let count : c.self.inside.list.len ≡ length old = sym c.as_mut_slice.ensures.len ∙ ap length c.as_mut_slice.ensures.value in
    subst AreMounts (sym (refill_same c.self.inside.list.len old new count (long_of old new done))) (AreMounts-finished old new done c.self.invariant)
