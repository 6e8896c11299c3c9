use Rattle.std.proofs.Common.{◌∙◌, ◌<◌, sym, ap, subst}
use Rattle.turn_book.specs.Passes.{HasNumber}
use Rattle.turn_book.proofs.Closing.{all_fit, has_all, last_idle, popped}
use Rattle.turn_book.proofs.turn.TurnBook.close.Goals as goal

pub finish-requires-clause-all : goal.finish-requires-clause-all
finish-requires-clause-all g c =
    let whole = popped c.args.passes.items c.pop.new.self.items c.pop.result c.unwrap.result c.pop.ensures.items c.unwrap.ensures in
    let live = ap (λ p. p.fixed) c.seat.view_is ∙ (last_idle c.args.self c.args.passes.items c.pop.new.self.items c.unwrap.result c.requires.passes whole).0.1 in
    has_all c.args.passes.items c.pop.new.self.items c.unwrap.result _ _ _ c.seat.inside.seat.me c.unite.new.seat.me c.self.inside.table.shared.key.passes
    whole c.seat.view_is c.seat.invariant.own_number live c.unite.ensures.claims
    (subst (λ n. (k : _) → k < n → HasNumber c.args.passes.items k) (sym (ap (λ b. b.passes) c.self.view_is)) c.requires.each)

pub returns-clause-seen : goal.returns-clause-seen
returns-clause-seen g c =
    let whole = popped c.args.passes.items c.pop.new.self.items c.pop.result c.unwrap.result c.pop.ensures.items c.unwrap.ensures in
    let live = ap (λ p. p.fixed) c.seat.view_is ∙ (last_idle c.args.self c.args.passes.items c.pop.new.self.items c.unwrap.result c.requires.passes whole).0.1 in
    let fit = all_fit c.args.passes.items c.pop.new.self.items c.unwrap.result _ _ _ c.seat.inside.seat.me c.unite.new.seat.me g.S.Book.owner (g.S.Book.history c.finish.result) c.self.inside.table.shared.key.passes
    whole c.seat.view_is c.seat.invariant.own_number live c.unite.ensures.claims c.finish.ensures.claims in
    λ k d below. (fit k d below).seen

pub returns-clause-mine : goal.returns-clause-mine
returns-clause-mine g c =
    let whole = popped c.args.passes.items c.pop.new.self.items c.pop.result c.unwrap.result c.pop.ensures.items c.unwrap.ensures in
    let live = ap (λ p. p.fixed) c.seat.view_is ∙ (last_idle c.args.self c.args.passes.items c.pop.new.self.items c.unwrap.result c.requires.passes whole).0.1 in
    let fit = all_fit c.args.passes.items c.pop.new.self.items c.unwrap.result _ _ _ c.seat.inside.seat.me c.unite.new.seat.me g.S.Book.owner (g.S.Book.history c.finish.result) c.self.inside.table.shared.key.passes
    whole c.seat.view_is c.seat.invariant.own_number live c.unite.ensures.claims c.finish.ensures.claims in
    λ k d below. (fit k d below).mine
