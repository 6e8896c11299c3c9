use Rattle.std.proofs.Common.{◌≡◌, List, length, true, false, subst, arith}
use Rattle.std.specs.Prelude.{◌↔◌, IsTrue}
use Rattle.std.specs.List.{AllByRecursion}
use Rattle.transaction_cells.specs.declared.view_cells.Piece.{Piece}
use Rattle.event_replay.proofs.FollowLaws.{IsPieceBelow, cells_told, cells_count}
use Rattle.event_replay.proofs.following.are_there.Goals as goal

pub returns-then-count-words : goal.returns-then-count-words
returns-then-count-words c = λ events before v front is has are.
    let cells = c.args.cells.now in
    let count = c.len-count.ensures in (
      λ so. absurd (let clash : false ≡ true = so in cc),
      λ told.
          let same = cells_count events before c.args.opened front v is has cells are c.args.words told in
          let differ = c.if-count-words.true in
          absurd (omega (arith, differ, count, same)),
    )

pub returns : goal.returns
returns c = λ events before v front is has are.
    let cells = c.args.cells.now in
    let long = c.len-count.ensures in
    let test = c.if-count-words.false in
    let count : length cells.leaves ≡ c.args.words = omega (arith, long, test) in
    let told = cells_told events before c.args.opened front v is has cells are c.args.words count in
    let low = subst (λ (ps : List Piece). IsTrue c.are_of_arrays.result ↔ AllByRecursion (IsPieceBelow c.args.opened) ps) c.items.ensures c.are_of_arrays.ensures in
    (λ so. told.0 (low.0 so), λ here. low.1 (told.1 here))
