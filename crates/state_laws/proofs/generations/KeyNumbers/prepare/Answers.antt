use Rattle.std.proofs.Common.{◌≡◌, refl, sym, ap, subst, ◌∙◌, string_bytes}
use Rattle.std.specs.Prelude.{is_some}
use Rattle.state_laws.specs.Numbers.{KeyTable, IsPrepared, KeepsPrepared, prepared_of}
use Rattle.state_laws.proofs.LookUps.{is_prepared, none_at, put_key, put_prepared, put_nothing, text_at, entry_at}
use Rattle.state_laws.proofs.generations.KeyNumbers.prepare.Goals as goal

pub returns-then-contains_key-clause-key : goal.returns-then-contains_key-clause-key
returns-then-contains_key-clause-key c =
    subst (λ (t : KeyTable). IsPrepared t.prepared c.args.key.now) c.self.view_is
    (is_prepared c.self.inside.table.entries c.args.key.now (ap is_some (sym (text_at c.self.inside.table c.args.key.now)) ∙ sym c.contains_key.ensures ∙ c.if-contains_key.true))

pub returns-clause-key : goal.returns-clause-key
returns-clause-key c =
    subst (IsPrepared (prepared_of c.insert.new.self.entries)) c.in_ok-key.ensures.ok
    (put_key c.self.inside.table c.insert.new.self (string_bytes c.in_ok-key.key) 0 c.in-Ok.ensures.updates)

pub returns-clause-prepared : goal.returns-clause-prepared
returns-clause-prepared c =
    subst (λ (t : KeyTable). KeepsPrepared t.prepared (prepared_of c.insert.new.self.entries)) c.self.view_is
    (put_prepared c.self.inside.table c.insert.new.self (string_bytes c.in_ok-key.key) 0 c.in-Ok.ensures.updates)

pub returns-clause-numbers : goal.returns-clause-numbers
returns-clause-numbers c =
    put_nothing c.self.inside.table c.insert.new.self (string_bytes c.in_ok-key.key) 0 c.in-Ok.ensures.updates refl
    (subst (λ k. entry_at k c.self.inside.table.entries ≡ _) (sym c.in_ok-key.ensures.ok)
    (none_at c.self.inside.table.entries c.args.key.now (ap is_some (sym (text_at c.self.inside.table c.args.key.now)) ∙ sym c.contains_key.ensures ∙ c.if-contains_key.false)))
    ∙ ap (λ (t : KeyTable). t.numbers) c.self.view_is
