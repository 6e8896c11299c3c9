use Rattle.std.proofs.Common.{sym, ap, subst, ◌∙◌, string_bytes}
use Rattle.state_laws.specs.Numbers.{KeyTable, IsPrepared, KeepsPrepared, prepared_of}
use Rattle.std.specs.FinMap as finmap
use Rattle.state_laws.proofs.LookUps.{none_is_none_at, positive, put_prepared, put_number, text_at}
use Rattle.state_laws.proofs.generations.KeyNumbers.put.Goals as goal

pub unreachable-requires : goal.unreachable-requires
unreachable-requires c =
    none_is_none_at c.self.inside.table.entries (string_bytes c.args.key) (subst (λ (t : KeyTable). IsPrepared t.prepared (string_bytes c.args.key)) (sym c.self.view_is) c.requires.key)
    (sym (text_at c.self.inside.table (string_bytes c.args.key)) ∙ c.in_default.ensures.absent)

pub returns-clause-prepared : goal.returns-clause-prepared
returns-clause-prepared c =
    subst (λ (t : KeyTable). KeepsPrepared t.prepared (prepared_of c.insert.new.self.entries)) c.self.view_is
    (put_prepared c.self.inside.table c.insert.new.self (string_bytes c.args.key) c.args.number c.in-Ok.ensures.updates)

pub returns-clause-numbers : goal.returns-clause-numbers
returns-clause-numbers c =
    put_number c.self.inside.table c.insert.new.self (string_bytes c.args.key) c.args.number c.in-Ok.ensures.updates (positive c.args.number c.requires.number)
    ∙ ap (λ (t : KeyTable). finmap.insert t.numbers (string_bytes c.args.key) c.args.number) c.self.view_is
