use Rattle.std.proofs.Common.{ℕ, ◌≡◌, arith, ◌∙◌, ◌+◌, ◌-◌, suc, [], sym, subst, ap, add-one, length, length-append, ◌∷◌}
use Rattle.turn_book.specs.Passes.{new_pass, book_at}
use Rattle.turn_book.specs.Views.{new_view, new_claims}
use Rattle.turn_book.proofs.Lists.{each_at_push, each_place_first}
use Rattle.turn_book.proofs.Dealing.{one_more, dealt_last}
use Rattle.turn_book.proofs.seats.deal.Goals as goal

pub deal_one-requires-clause-more : goal.deal_one-requires-clause-more
deal_one-requires-clause-more g c =
    let left = c.loop-number.invariant.left in
    let t = one_more (λ j. c.loop-number.seat.me ≡ (new_view (g.S.Book.opening c.args.shared.now.key.start.value) c.loop-number.number (new_claims (suc c.loop-number.number) j), [])) left.0
    (let e = left.1 in omega arith) left.2 in (t.0, t.2)

pub loop-number-preserved : goal.loop-number-preserved
loop-number-preserved g c =
    let left = c.loop-number.invariant.left in
    let t = one_more (λ j. c.loop-number.seat.me ≡ (new_view (g.S.Book.opening c.args.shared.now.key.start.value) c.loop-number.number (new_claims (suc c.loop-number.number) j), [])) left.0
    (let e = left.1 in omega arith) left.2 in record {
      table = c.deal_one.ensures.table ∙ c.loop-number.invariant.table;
      left = (t.0, (let e = left.1 in let k : left.0 ≡ suc t.0 = t.1 in omega arith), rw add-one (c.deal_one.ensures.left t.0 t.2));
      len = (let a = c.push_reserved.ensures.len in let b = c.loop-number.invariant.len in omega arith);
      long = ap length c.push_reserved.ensures.items ∙ (length-append c.loop-number.row.items (c.deal_one.result ∷ []) ∙ (let b = c.loop-number.invariant.long in omega arith));
      room = (let a = c.push_reserved.ensures.capacity in let b = c.loop-number.invariant.room in omega arith);
      passes = each_at_push (λ k p. p ≡ new_pass (book_at c.args.shared.now.table_id c.args.shared.now.key.passes (g.S.Book.opening c.args.shared.now.key.start.value)) k) c.loop-number.row.items c.push_reserved.new.self.items c.deal_one.result c.loop-number.number
          c.loop-number.invariant.long c.loop-number.invariant.passes c.deal_one.ensures.pass c.push_reserved.ensures.items;
    }

pub pass_of-requires : goal.pass_of-requires
pass_of-requires g c =
    let left = c.loop-number.invariant.left in
    let none_left : left.0 ≡ 0 = (let e = left.1 in let a = c.loop-number-test.false in omega arith) in
    let last : c.loop-number.number ≡ c.args.passes - 1 = (let e = left.1 in omega arith) in
    let f = g.S.Book.opening c.args.shared.now.key.start.value in
    (f, rw (← last) (subst (λ (k : ℕ). c.loop-number.seat.me ≡ (new_view f c.loop-number.number (new_claims (suc c.loop-number.number) k), [])) none_left left.2))

pub returns-clause-passes : goal.returns-clause-passes
returns-clause-passes g c =
    let left = c.loop-number.invariant.left in
    let none_left : left.0 ≡ 0 = (let e = left.1 in let a = c.loop-number-test.false in omega arith) in
    let last : c.loop-number.number ≡ c.args.passes - 1 = (let e = left.1 in omega arith) in
    let f = g.S.Book.opening c.args.shared.now.key.start.value in
    let book = book_at c.args.shared.now.table_id c.args.shared.now.key.passes f in
    let me = subst (λ (k : ℕ). c.loop-number.seat.me ≡ (new_view f c.loop-number.number (new_claims (suc c.loop-number.number) k), [])) none_left left.2 in
    let is = c.pass_of.ensures ∙ dealt_last book c.loop-number.seat.table_id (c.args.passes - 1) c.loop-number.number c.loop-number.seat.me (c.loop-number.invariant.table ∙ c.requires.at.0) (sym last) me in
    let all = each_at_push (λ k p. p ≡ new_pass book k) c.loop-number.row.items c.push_reserved-2.new.self.items c.pass_of.result c.loop-number.number
    c.loop-number.invariant.long c.loop-number.invariant.passes is c.push_reserved-2.ensures.items in
    λ k p below. each_place_first (λ k p. p ≡ new_pass book k) c.push_reserved-2.new.self.items all k p
    (let one = c.requires.some_pass.1 in let long = c.loop-number.invariant.long in let e = left.1 in
    let a : length c.push_reserved-2.new.self.items ≡ length c.loop-number.row.items + 1 = ap length c.push_reserved-2.ensures.items ∙ length-append c.loop-number.row.items (c.pass_of.result ∷ []) in omega arith)
