use Rattle.std.proofs.Common.{◌∙◌}
use Rattle.locations.specs.declared.table.Place.{Place}
use Rattle.locations.proofs.Tables.{put_in, put_named, put_numbers}
use Rattle.locations.proofs.table.list.Goals as goal

pub returns-in-Ok-clause-listed : goal.returns-in-Ok-clause-listed
returns-in-Ok-clause-listed c =
    let p : Place = record { text = c.wrap-text.result; number = c.args.number } in
    put_numbers c.args.table.now c.insert.new.self c.args.location.now p
    (put_in c.args.table.now c.insert.new.self c.in_ok-key.key c.args.location.now p (c.in_ok-key.ensures.items ∙ c.as_bytes.ensures.value) c.in-Ok.ensures.updates.1 c.in-Ok.ensures.entries)

pub returns-in-Ok-clause-named : goal.returns-in-Ok-clause-named
returns-in-Ok-clause-named c = λ named.
    let p : Place = record { text = c.wrap-text.result; number = c.args.number } in
    put_named c.args.table.now c.insert.new.self c.args.location.now p (c.wrap-text.ensures ∙ c.in_ok-from_str.ensures.ok) named
    (put_in c.args.table.now c.insert.new.self c.in_ok-key.key c.args.location.now p (c.in_ok-key.ensures.items ∙ c.as_bytes.ensures.value) c.in-Ok.ensures.updates.1 c.in-Ok.ensures.entries)
