use Rattle.std.proofs.Common.{◌++◌, append_assoc}
use Rattle.std.specs.Prelude.{codes}
use Rattle.answer_text.specs.Text.{events_if}
use Rattle.answer_text.specs.Pieces.{text_of}
use Rattle.answer_text.proofs.Items.{two_put, when_ok}
use Rattle.answer_text.proofs.before.put_bad_spec.Goals as goal

pub returns : goal.returns
returns c = when_ok _ _ c.put_events_if.result (λ h. two_put (codes "\"bad_spec\":" ++ text_of c.args.path.now ++ codes "," ++ events_if c.args.events.now) c.args.out.now.items
    (codes "\"bad_spec\":" ++ text_of c.args.path.now ++ codes ",")
    (events_if c.args.events.now)
    c.put_text_around.new.out.items c.put_events_if.new.out.items
    c.in_ok-put_text_around.ensures h (simp append_assoc)) c.put_events_if.ensures
