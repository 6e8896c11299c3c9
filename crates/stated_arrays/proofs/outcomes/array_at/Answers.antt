use Rattle.std.proofs.Common.{Ok, ap, ◌∙◌}
use Rattle.stated_arrays.proofs.OutcomeLaws.{array_free, array_clash, opened_there, array_there}
use Rattle.stated_arrays.proofs.outcomes.array_at.Goals as goal

pub array_of-requires : goal.array_of-requires
array_of-requires c =
    let number = c.in-Ok-There.number in
    opened_there c.args.events.now c.args.opened.now c.args.places.now c.requires c.args.location.now number (c.find.ensures.there number (c.in-Ok-There.is ∙ ap Ok c.in-Ok-There.field-0-is)).0

pub returns-in-Ok-There : goal.returns-in-Ok-There
returns-in-Ok-There c =
    let number = c.in-Ok-There.number in
    array_there c.args.events.now c.args.opened.now c.args.places.now c.requires c.args.location.now number (c.find.ensures.there number (c.in-Ok-There.is ∙ ap Ok c.in-Ok-There.field-0-is)).0 c.array_of.result.now c.array_of.ensures

pub returns-in-Ok-Taken : goal.returns-in-Ok-Taken
returns-in-Ok-Taken c =
    let other = c.in-Ok-Taken.field-0-0 in
    array_clash c.args.events.now c.args.opened.now c.args.places.now c.requires c.args.location.now other (c.find.ensures.taken other (c.in-Ok-Taken.is ∙ ap Ok c.in-Ok-Taken.field-0-is))

pub returns-in-Ok-Free : goal.returns-in-Ok-Free
returns-in-Ok-Free c = array_free c.args.events.now c.args.opened.now c.args.places.now c.requires c.args.location.now (c.find.ensures.free (c.in-Ok-Free.is ∙ ap Ok c.in-Ok-Free.field-0-is)).0
