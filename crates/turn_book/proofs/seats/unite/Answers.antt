use Rattle.std.proofs.Common.{arith, ◌∙◌, ap, [], ◌∷◌, ◌++◌, map, append_assoc}
use Rattle.std.proofs.lemmas.List.Elements.{recursion_from_All}
use Rattle.turn_book.specs.Passes.{IsIdle, book_at}
use Rattle.turn_book.specs.Seats.{in_hand, claim_of, with_claims}
use Rattle.turn_book.proofs.Lists.{each_popped}
use Rattle.turn_book.proofs.Closing.{joins, own_claim_is, with_one_more}
use Rattle.turn_book.proofs.seats.unite.Goals as goal

pub join_seat-requires : goal.join_seat-requires
join_seat-requires g c =
    let book = book_at c.args.shared.now.table_id c.args.shared.now.key.passes (g.S.Book.opening c.args.shared.now.key.start.value) in
    let done = c.loop-pass.invariant.done in
    let idle = each_popped (IsIdle book) c.args.passes.items c.loop-pass.passes.items c.pop.new.self.items done.0 c.in-Some.pass (recursion_from_All (IsIdle book) c.args.passes.items c.requires.passes) done.1 c.in-Some.ensures.items in
    let is = c.pass.view_is in
    let rests = ap (λ p. p.holds) is ∙ idle.1 in (
      c.loop-pass.invariant.table ∙ c.requires.at.0,
      ap (λ p. p.book) is ∙ idle.0.0,
      c.pass.invariant.hand ∙ ap in_hand rests,
      (let w = c.requires.one_word in omega arith),
      joins _ _ _ _ _ c.loop-pass.seat.id c.loop-pass.seat.me.0 c.pass.inside.seat.id c.pass.inside.seat.me.0 _ _ (ap (λ m. m.0.fixed) done.2 ∙ c.requires.at.1) (ap (λ p. p.fixed) is ∙ idle.0.1) c.pass.invariant.alone rests,
    )

pub loop-pass-preserved : goal.loop-pass-preserved
loop-pass-preserved g c =
    let done = c.loop-pass.invariant.done in
    let book = book_at c.args.shared.now.table_id c.args.shared.now.key.passes (g.S.Book.opening c.args.shared.now.key.start.value) in
    let idle = each_popped (IsIdle book) c.args.passes.items c.loop-pass.passes.items c.pop.new.self.items done.0 c.in-Some.pass (recursion_from_All (IsIdle book) c.args.passes.items c.requires.passes) done.1 c.in-Some.ensures.items in
    let j = c.join_seat.ensures in record {
      table = j.0 ∙ c.loop-pass.invariant.table;
      done = (
        c.in-Some.pass ∷ done.0,
        done.1 ∙ (ap (λ l. l ++ done.0) c.in-Some.ensures.items ∙ append_assoc c.pop.new.self.items (c.in-Some.pass ∷ []) done.0),
        with_one_more c.args.seat.now.me c.loop-pass.seat.me c.join_seat.new.seat.me c.pass.inside.seat.me.0 _ (map claim_of done.0) done.2 (ap (λ p. p.fixed) c.pass.view_is ∙ idle.0.1) c.pass.invariant.alone j.2
            ∙ ap (λ k. with_claims c.args.seat.now.me (k ∷ map claim_of done.0)) (own_claim_is _ _ c.pass.inside.seat.me.0 c.in-Some.pass c.pass.view_is c.pass.invariant.own_number),
      );
    }
