use Rattle.std.proofs.Common.{Some, sym, ap, subst, ◌∙◌}
use Rattle.std.specs.Option.{option_copied}
use Rattle.locations.specs.Paths.{IsFirstAbove, HasNoneAbove}
use Rattle.locations.proofs.Clashes.{first_number, none_number, only_above}
use Rattle.locations.proofs.table.Locations.above.Goals as goal

pub returns-in-Some-clause-some : goal.returns-in-Some-clause-some
returns-in-Some-clause-some c =
    let table = c.self.inside.table in
    let found = sym c.above.ensures ∙ ap option_copied c.in-Some.is in
    subst (λ places. IsFirstAbove places c.args.key.now c.in-Some.place.now.number) c.self.view_is (first_number table c.self.invariant c.args.key.now c.in-Some.place.now found)

pub returns-in-Some-clause-only : goal.returns-in-Some-clause-only
returns-in-Some-clause-only c = λ are_apart upper rest number parts there.
    let table = c.self.inside.table in
    let found = sym c.above.ensures ∙ ap option_copied c.in-Some.is in
    let first = subst (λ places. IsFirstAbove places c.args.key.now c.in-Some.place.now.number) c.self.view_is (first_number table c.self.invariant c.args.key.now c.in-Some.place.now found) in
    ap Some (only_above c.args.self.now c.args.key.now c.in-Some.place.now.number are_apart first upper rest number parts there)

pub returns-in-None-clause-none : goal.returns-in-None-clause-none
returns-in-None-clause-none c = λ e.
    let table = c.self.inside.table in
    let none = sym c.above.ensures ∙ ap option_copied c.in-None.is in
    subst (λ places. HasNoneAbove places c.args.key.now) c.self.view_is (none_number table c.self.invariant c.args.key.now none)

pub returns-in-None-clause-only : goal.returns-in-None-clause-only
returns-in-None-clause-only c = λ are_apart upper rest number parts there.
    let table = c.self.inside.table in
    let none = sym c.above.ensures ∙ ap option_copied c.in-None.is in
    let gone = subst (λ places. HasNoneAbove places c.args.key.now) c.self.view_is (none_number table c.self.invariant c.args.key.now none) in
    sym (gone upper rest parts) ∙ there
