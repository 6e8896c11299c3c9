use Rattle.std.proofs.Common.{rules, ◌≡◌, ◌++◌, ◌∷◌, [], length, refl, sym, ap, subst, ◌∙◌}
use Rattle.std.specs.Prelude.{count_by}
use Rattle.history.specs.Legal.{is_opening}
use Rattle.state_laws.specs.declared.arrays.Entry.{Entry}
use Rattle.state_laws.specs.Indexed.{AreArrays}
use Rattle.state_laws.specs.Recorded.{RecordsOf}
use Rattle.state_laws.proofs.Indexing.{arrays_opened}
use Rattle.state_laws.proofs.records.Records.add_opened.Goals as goal

pub invariant_of-self : goal.invariant_of-self
invariant_of-self c =
    let events = c.self.inside.events.items in
    let entries = c.self.inside.arrays.items in
    let entry : Entry = record { place = c.len.result; form = c.args.form; resized = 0; local = c.args.local } in
    let place : c.len.result ≡ length events = search rules in
    let number = c.requires.number ∙ ap (λ (r : RecordsOf). count_by is_opening r.events) (sym c.self.view_is) ∙ c.self.invariant.count in
    let grown = arrays_opened events entries c.args.owner c.args.info entry c.self.invariant number place c.requires.form refl in
    subst (λ es. AreArrays c.add.new.events.items es) (sym c.add_entry.ensures) (subst (λ h. AreArrays h (entries ++ entry ∷ [])) (sym c.add.ensures.items) grown)
