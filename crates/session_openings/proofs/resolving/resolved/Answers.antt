use Rattle.std.proofs.Common.{◌∙◌, ◌≡◌, inr, refl, sym, subst}
use Rattle.std.specs.Prelude.{IsSome}
use Rattle.history.specs.Arrays.{known_after}
use Rattle.history.specs.ResizeRows.{shape_after}
use Rattle.indexmap.specs.IndexMap.{get_by_text}
use Rattle.session_openings.specs.Renewing.{IsRenewed}
use Rattle.session_openings.proofs.ResolveLaws.{there_later, takes_shape, shape_told, same_array}
use Rattle.stack_driver.specs.References.{IsReference}
use Rattle.stack_driver.specs.Renewed.{IsNewShape}
use Rattle.session_openings.proofs.resolving.resolved.Goals as goal

pub bounds_in_turn-requires-clause-array : goal.bounds_in_turn-requires-clause-array
bounds_in_turn-requires-clause-array g c = λ events grown legal.
    let p = c.requires.array in
    let there = there_later c.args.pass.now.seen events c.args.view p.0 c.requires.known p.1 grown legal in
    subst (λ n. IsSome (known_after events n)) (sym (c.array_number.ensures p.0 p.1)) (subst IsSome (sym there.known) refl)

pub renewed-requires-clause-shape : goal.renewed-requires-clause-shape
renewed-requires-clause-shape g c = λ r is.
    let p = c.requires.array in
    let now = c.bounds_in_turn.new.pass.seen in
    let turned = c.bounds_in_turn.ensures.turn.turned in
    let there = there_later c.args.pass.now.seen now c.args.view r c.requires.known is turned.before turned.past.outline in
    subst (IsNewShape r) (shape_told now r c.array_number.result c.in-Ok.bounds there (c.array_number.ensures r is) c.in-Ok.ensures.bounds ∙ sym c.items.ensures)
    (takes_shape now r (subst IsReference (same_array c.args.view p.0 r p.1 is) p.2) there)

pub returns-in-Ok-clause-answer : goal.returns-in-Ok-clause-answer
returns-in-Ok-clause-answer g c = λ r is.
    let now = c.bounds_in_turn.new.pass.seen in
    let turned = c.bounds_in_turn.ensures.turn.turned in
    let there = there_later c.args.pass.now.seen now c.args.view r c.requires.known is turned.before turned.past.outline in
    subst (λ s. IsRenewed s c.args.name.now c.args.view (get_by_text c.args.names.now) (get_by_text c.renewed.new.names) c.renewed.result)
    (sym (shape_told now r c.array_number.result c.in-Ok.bounds there (c.array_number.ensures r is) c.in-Ok.ensures.bounds ∙ sym c.items.ensures)) c.renewed.ensures

pub returns-in-Err-clause-answer : goal.returns-in-Err-clause-answer
returns-in-Err-clause-answer g c = λ r is. inr (inr (refl, refl))
