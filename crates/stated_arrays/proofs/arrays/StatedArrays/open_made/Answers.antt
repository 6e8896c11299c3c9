use Rattle.std.proofs.Common.{◌≡◌, sym, ap, subst, ◌∙◌, arith}
use Rattle.transcript_cut.specs.Homes.{info_at}
use Rattle.history.specs.Legal.{IsLegalOpening}
use Rattle.history.specs.OpenRows.{next_array}
use Rattle.history.specs.Outcomes.{new_info}
use Rattle.history.specs.Places.{IsFree}
use Rattle.stated_arrays.specs.Asked.{leaf_asked}
use Rattle.stated_arrays.proofs.TableLaws.{made_legal}
use Rattle.stated_arrays.proofs.arrays.StatedArrays.open_made.Goals as goal

pub add_stored-requires-clause-legal : goal.add_stored-requires-clause-legal
add_stored-requires-clause-legal c =
    let old = c.args.self.now in
    let asked = c.args.asked.now in
    let count = c.requires.arrays.opened.count in
    let number : c.len-number.result ≡ next_array old.events.items = omega (arith, count, c.len-number.ensures, old.opened.ok.0) in
    let is : c.in_ok-info.info ≡ new_info c.len-number.result (leaf_asked asked) c.args.form =
    c.in_ok-info.ensures ∙ ap (λ m. info_at c.len-number.result m c.items-2.result.now c.args.form) c.items.ensures ∙ ap (λ p. info_at c.len-number.result asked.mount p c.args.form) c.items-2.ensures in
    subst (IsLegalOpening old.events.items) (sym is)
    (made_legal old.events.items (leaf_asked asked) c.args.form c.len-number.result c.requires.arrays.legal (subst (IsFree old.events.items) c.requires.location c.requires.free) c.requires.mount c.requires.valid c.requires.stored number)
