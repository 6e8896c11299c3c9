use Rattle.std.proofs.Common.{◌≡◌, ◌∙◌, ◌+◌, ◌*◌, ◌/◌, ◌%◌, ◌&&◌, ◌<◌, false, true, nat_lt, sym, ap, subst, drop, get_or}
use Rattle.cells.specs.Places.{cell_count}
use Rattle.transaction_cells.specs.Outside.{is_place_inside}
use Rattle.transaction_cells.proofs.OutsideLaws.{next_inside, next_row, row_index, row_rest}
use Rattle.transaction_cells.proofs.outside.is_inside_at.Goals as goal

pub is_below-requires : goal.is_below-requires
is_below-requires c =
    let shape = c.args.shape.now in
    let chunk = c.args.chunk.now in
    let index = c.args.index.now in
    let k = c.loop-k.k in
    subst (λ m. c.loop-k.rest / m < get_or chunk k 0) (sym (next_row shape chunk index c.requires.ranks k c.loop-k.row c.loop-k-test.true c.loop-k.invariant.row))
    (row_index shape chunk index c.requires.ranks k c.loop-k.row c.loop-k.rest c.loop-k-test.true c.loop-k.invariant.row c.loop-k.invariant.below)

pub returns-then-not-is_below : goal.returns-then-not-is_below
returns-then-not-is_below c =
    let shape = c.args.shape.now in
    let chunk = c.args.chunk.now in
    let index = c.args.index.now in
    let k = c.loop-k.k in
    let rest = c.loop-k.rest in
    let row = next_row shape chunk index c.requires.ranks k c.loop-k.row c.loop-k-test.true c.loop-k.invariant.row in
    let test : nat_lt (get_or index k 0 * get_or chunk k 0 + rest / cell_count (drop (k + 1) chunk)) (get_or shape k 0) ≡ false =
    ap (λ m. nat_lt (get_or index k 0 * get_or chunk k 0 + rest / m) (get_or shape k 0)) (sym row) ∙ sym c.is_below.ensures ∙ c.if-not-is_below.true in
    sym (sym c.loop-k.invariant.rest ∙ next_inside shape chunk index c.requires.ranks k rest c.loop-k-test.true
    ∙ ap (λ b. b && is_place_inside (drop (k + 1) shape) (drop (k + 1) chunk) (drop (k + 1) index) (rest % cell_count (drop (k + 1) chunk))) test)

pub loop-k-preserved : goal.loop-k-preserved
loop-k-preserved c =
    let shape = c.args.shape.now in
    let chunk = c.args.chunk.now in
    let index = c.args.index.now in
    let k = c.loop-k.k in
    let rest = c.loop-k.rest in
    let row = next_row shape chunk index c.requires.ranks k c.loop-k.row c.loop-k-test.true c.loop-k.invariant.row in
    let test : nat_lt (get_or index k 0 * get_or chunk k 0 + rest / cell_count (drop (k + 1) chunk)) (get_or shape k 0) ≡ true =
    ap (λ m. nat_lt (get_or index k 0 * get_or chunk k 0 + rest / m) (get_or shape k 0)) (sym row) ∙ sym c.is_below.ensures ∙ c.if-not-is_below.false in
    record {
      row = row;
      below = subst (λ m. rest % m < m) (sym row) (row_rest shape chunk index c.requires.ranks k c.loop-k.row rest c.loop-k-test.true c.loop-k.invariant.row c.loop-k.invariant.below);
      rest =
          ap (λ m. is_place_inside (drop (k + 1) shape) (drop (k + 1) chunk) (drop (k + 1) index) (rest % m)) row
          ∙ sym (next_inside shape chunk index c.requires.ranks k rest c.loop-k-test.true
          ∙ ap (λ b. b && is_place_inside (drop (k + 1) shape) (drop (k + 1) chunk) (drop (k + 1) index) (rest % cell_count (drop (k + 1) chunk))) test)
          ∙ c.loop-k.invariant.rest;
    }
