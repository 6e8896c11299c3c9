use Rattle.std.proofs.Common.{◌≡◌, ◌+◌, length, sym, ap, subst, ◌∙◌}
use Rattle.history.specs.History.{History}
use Rattle.history.specs.Own.{resized_event}
use Rattle.history.proofs.Laws.{length-more}
use Rattle.state_laws.specs.Indexed.{AreArrays}
use Rattle.state_laws.specs.Recorded.{RecordsOf}
use Rattle.history.specs.Arrays.{known_after}
use Rattle.state_laws.proofs.records.Records.add_resized.Goals as goal

pub invariant_of-self : goal.invariant_of-self
invariant_of-self c =
    let h = c.self.inside.events.items in
    let stored = c.requires.stored in
    let number : c.add-number.result ≡ length h + 1 = c.add-number.ensures.number ∙ ap length c.add-number.ensures.items ∙ length-more h (resized_event c.args.owner c.args.array c.args.shape) in
    let known = ap (λ (r : RecordsOf). known_after r.events c.args.array) c.self.view_is ∙ stored.1 in
    subst (λ (g : History). AreArrays g c.reshape.new.entries.items) (sym c.add-number.ensures.items)
    (c.reshape.ensures.arrays h c.args.owner c.args.shape stored.0 number known stored.2 stored.3 c.self.invariant)
