use Rattle.std.proofs.Common.{◌∙◌, sym, ap}
use Rattle.std.proofs.lemmas.Result.{on_ok_weaker}
use Rattle.transaction_cells.specs.Cuts.{Cuts}
use Rattle.transaction_cells.proofs.CutLaws.{written-runs, inserted-runs}
use Rattle.transaction_cells.proofs.cuts.put.Goals as goal

pub returns-in-Some : goal.returns-in-Some
returns-in-Some c =
    on_ok_weaker c.push.result (λ is.
    written-runs c.args.cuts.now.entries (c.get_mut.follows.lender c.push.new.self).entries c.args.id.now.items (record { view = c.args.view; chunk = c.args.place })
    c.in-Some.growing.now c.push.new.self c.in-Some.ensures.value is (c.get_mut.follows.holds c.push.new.self).0) c.push.ensures.ok

pub returns-in-Ok : goal.returns-in-Ok
returns-in-Ok c =
    inserted-runs c.args.cuts.now.entries c.insert.new.self.entries c.args.id.now.items (record { view = c.args.view; chunk = c.args.place })
    c.get_mut.follows.lender-at-none.entries c.in_ok-key.key c.new.result (ap (λ (cuts : Cuts). cuts.entries) c.get_mut.follows.holds-at-none) (c.in_ok-key.ensures.items ∙ c.deref.ensures.value) (sym c.in_default.ensures.value)
    c.new.ensures c.in-Ok.ensures.entries
