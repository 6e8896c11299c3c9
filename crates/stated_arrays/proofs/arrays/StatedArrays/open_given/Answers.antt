use Rattle.std.proofs.Common.{◌≡◌, ◌+◌, ◌<◌, ◌^◌, ◌∷◌, ◌++◌, [], length, sym, ap, subst, ◌∙◌, arith}
use Rattle.history.specs.declared.array.ArrayInfo.{ArrayInfo}
use Rattle.history.specs.Legal.{IsLegalOpening}
use Rattle.history.specs.OpenRows.{next_array}
use Rattle.history.specs.Own.{opened_event}
use Rattle.stated_arrays.proofs.TableLaws.{given_legal, given_new}
use Rattle.stated_arrays.proofs.arrays.StatedArrays.open_given.Goals as goal

pub add_opened-requires-clause-legal : goal.add_opened-requires-clause-legal
add_opened-requires-clause-legal c =
    let old = c.args.self.now in
    let count = c.requires.arrays.opened.count in
    let number : c.len.result ≡ next_array old.events.items = omega (arith, count, c.len.ensures, old.opened.ok.0) in
    let small : length old.events.items + 1 < 2 ^ 64 = omega (arith, old.events.ok.0, old.events.ok.1, old.events.small) in
    subst (IsLegalOpening old.events.items) (sym c.in_ok-info.ensures) (given_legal old.events.items c.args.start c.len.result c.requires.arrays.legal small number c.requires.dense)

pub returns-clause-served : goal.returns-clause-served
returns-clause-served c =
    let old = c.args.self.now in
    let count = c.requires.arrays.opened.count in
    let number : c.len.result ≡ next_array old.events.items = omega (arith, count, c.len.ensures, old.opened.ok.0) in
    let small : length old.events.items + 1 < 2 ^ 64 = omega (arith, old.events.ok.0, old.events.ok.1, old.events.small) in
    given_new old.events.items c.add_opened.new.self.events.items c.args.owner c.len.result c.args.start number (given_legal old.events.items c.args.start c.len.result c.requires.arrays.legal small number c.requires.dense)
    (c.in_ok-add_opened.ensures.opened.events ∙ ap (λ (i : ArrayInfo). old.events.items ++ opened_event c.args.owner i ∷ []) c.in_ok-info.ensures)
