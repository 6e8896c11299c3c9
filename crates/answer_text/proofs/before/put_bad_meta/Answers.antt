use Rattle.std.proofs.Common.{◌++◌, append_assoc}
use Rattle.std.specs.Prelude.{codes}
use Rattle.answer_text.specs.Text.{events_text}
use Rattle.answer_text.specs.Causes.{meta_why}
use Rattle.answer_text.proofs.Items.{four_put, when_ok}
use Rattle.answer_text.proofs.before.put_bad_meta.Goals as goal

pub returns : goal.returns
returns c = when_ok _ _ c.put_events.result (λ h. four_put (codes "\"bad_meta\":" ++ meta_why c.args.key.now c.args.why.now ++ codes "," ++ events_text c.args.events.now) c.args.out.now.items
    (codes "\"bad_meta\":")
    (meta_why c.args.key.now c.args.why.now)
    (codes ",")
    (events_text c.args.events.now)
    c.put.new.out.items c.put_meta_why.new.out.items c.put-2.new.out.items c.put_events.new.out.items
    c.in_ok-put.ensures c.in_ok-put_meta_why.ensures c.in_ok-put-2.ensures h (simp append_assoc)) c.put_events.ensures
