use Rattle.std.proofs.Common.{[], Ok, sym, ap, subst, ◌∙◌}
use Rattle.std.specs.FinMap as finmap
use Rattle.history.specs.Places.{IsFree}
use Rattle.locations.specs.Paths.{IsLeastClash, HasNoClash}
use Rattle.stated_arrays.specs.Asked.{leaf_asked}
use Rattle.stated_arrays.proofs.TableLaws.{taken_never, found_free}
use Rattle.stated_arrays.proofs.arrays.StatedArrays.open_stored.Goals as goal

pub returns-in-Ok-Taken-clause-served : goal.returns-in-Ok-Taken-clause-served
returns-in-Ok-Taken-clause-served c =
    let old = c.args.self.now in
    let here = c.items.ensures ∙ c.in_ok-location.ensures in
    taken_never old.events.items (leaf_asked c.args.asked.now) old.places c.requires.arrays.places c.requires.arrays.legal c.in-Ok-Taken.field-0-0
    (subst (λ t. IsLeastClash old.places t c.in-Ok-Taken.field-0-0) here (c.find.ensures.taken c.in-Ok-Taken.field-0-0 (c.in-Ok-Taken.is ∙ ap Ok c.in-Ok-Taken.field-0-is))) []

pub open_free-requires-clause-free : goal.open_free-requires-clause-free
open_free-requires-clause-free c =
    let old = c.args.self.now in
    let here = c.items.ensures ∙ c.in_ok-location.ensures in
    let free = c.find.ensures.free (c.in-Ok-Free.is ∙ ap Ok c.in-Ok-Free.field-0-is) in
    subst (IsFree old.events.items) (sym (c.items-in-Ok-Free.ensures ∙ c.in_ok-location.ensures))
    (found_free old.events.items (leaf_asked c.args.asked.now) old.places c.requires.arrays.places c.requires.arrays.legal (ap (finmap.get old.places) (sym here) ∙ free.0) (subst (HasNoClash old.places) here free.1))
