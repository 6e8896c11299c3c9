use Rattle.stated_arrays.proofs.OutcomeLaws.{on_ok, next_placed}
use Rattle.stated_arrays.proofs.outcomes.place_next.Goals as goal

pub returns-in-Opened-clause-next : goal.returns-in-Opened-clause-next
returns-in-Opened-clause-next c =
    on_ok c.place_array.result
    (λ same events table. next_placed c.args.event.now c.in-Opened.array c.args.places.now c.place_array.new.places c.in-Opened.is same events table)
    c.place_array.ensures.placed
