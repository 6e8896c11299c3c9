use Rattle.std.proofs.Common.{◌∙◌, sym}
use Rattle.std.proofs.lemmas.Result.{on_ok_weaker}
use Rattle.chunk_grid.proofs.CutLaws.{written-runs, written-chunks, inserted-runs, inserted-chunks}
use Rattle.chunk_grid.proofs.cuts.put.Goals as goal

pub returns-in-Some-clause-runs : goal.returns-in-Some-clause-runs
returns-in-Some-clause-runs c =
    on_ok_weaker c.push.result (λ is.
    written-runs c.args.cuts.now (c.get_mut.follows.lender c.push.new.self) c.args.chunk.now (record { view = c.args.view; chunk = c.args.place })
    c.in-Some.growing.now c.push.new.self c.in-Some.ensures.value is (c.get_mut.follows.holds c.push.new.self)) c.push.ensures.ok

pub returns-in-Some-clause-chunks : goal.returns-in-Some-clause-chunks
returns-in-Some-clause-chunks c =
    on_ok_weaker c.push.result (λ is.
    written-chunks c.args.cuts.now (c.get_mut.follows.lender c.push.new.self) c.args.chunk.now (record { view = c.args.view; chunk = c.args.place })
    c.in-Some.growing.now c.push.new.self c.in-Some.ensures.value (c.get_mut.follows.holds c.push.new.self)) c.push.ensures.ok

pub returns-in-Ok-clause-runs : goal.returns-in-Ok-clause-runs
returns-in-Ok-clause-runs c =
    inserted-runs c.args.cuts.now c.insert.new.self c.args.chunk.now (record { view = c.args.view; chunk = c.args.place })
    c.get_mut.follows.lender-at-none c.in_ok-key.key c.new.result c.get_mut.follows.holds-at-none (c.in_ok-key.ensures.items ∙ c.deref.ensures.value) (sym c.in_default.ensures.value)
    c.new.ensures c.in-Ok.ensures.updates

pub returns-in-Ok-clause-chunks : goal.returns-in-Ok-clause-chunks
returns-in-Ok-clause-chunks c =
    inserted-chunks c.args.cuts.now c.insert.new.self c.args.chunk.now (record { view = c.args.view; chunk = c.args.place })
    c.get_mut.follows.lender-at-none c.in_ok-key.key c.new.result c.get_mut.follows.holds-at-none (c.in_ok-key.ensures.items ∙ c.deref.ensures.value) (sym c.in_default.ensures.value)
    c.in-Ok.ensures.entries
