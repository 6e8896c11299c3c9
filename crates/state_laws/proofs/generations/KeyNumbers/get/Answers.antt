use Rattle.std.proofs.Common.{Some, sym, ap, ◌∙◌}
use Rattle.std.specs.FinMap as finmap
use Rattle.state_laws.specs.Numbers.{KeyTable}
use Rattle.state_laws.proofs.LookUps.{number_at, number_in, number_here, text_at}
use Rattle.state_laws.proofs.generations.KeyNumbers.get.Goals as goal

pub returns-in-Some-eq0 : goal.returns-in-Some-eq0
returns-in-Some-eq0 c =
    ap (λ n. number_in (Some n)) (sym c.in-Some-eq0.field-0-test) ∙ ap number_in (c.in-Some-eq0.ensures.value ∙ text_at c.self.inside.table c.args.key.now) ∙ sym (number_at c.args.key.now c.self.inside.table.entries)
    ∙ ap (λ (t : KeyTable). finmap.get t.numbers c.args.key.now) c.self.view_is

pub returns-in-Some : goal.returns-in-Some
returns-in-Some c =
    sym (number_here c.in-Some.number.now c.in-Some.number-test.1) ∙ ap number_in (c.in-Some.ensures.value ∙ text_at c.self.inside.table c.args.key.now) ∙ sym (number_at c.args.key.now c.self.inside.table.entries)
    ∙ ap (λ (t : KeyTable). finmap.get t.numbers c.args.key.now) c.self.view_is

pub returns-in-None : goal.returns-in-None
returns-in-None c = ap number_in (c.in-None.ensures.value ∙ text_at c.self.inside.table c.args.key.now) ∙ sym (number_at c.args.key.now c.self.inside.table.entries) ∙ ap (λ (t : KeyTable). finmap.get t.numbers c.args.key.now) c.self.view_is
