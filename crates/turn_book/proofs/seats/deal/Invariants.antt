use Rattle.std.proofs.Common.{◌≡◌, ◌≤◌, ◌+◌, length, vec_len, vec_capacity, [], suc, ℕ}
use Rattle.turn_book.specs.Passes.{new_pass, book_at}
use Rattle.turn_book.specs.Views.{new_view, new_claims}
use Rattle.turn_book.proofs.Lists.{EachAt}
use Rattle.turn_book.proofs.seats.deal.Given as goal

abbrev pub invariant-loop-number : goal.invariant-loop-number
invariant-loop-number g l = record {
  table : l.seat.table_id ≡ l.fn.seat.table_id;
  left : (k : ℕ) × (l.number + suc k ≡ l.fn.passes) × (l.seat.me ≡ (new_view (g.S.Book.opening l.fn.shared.key.start.value) l.number (new_claims (suc l.number) k), []));
  len : vec_len l.row ≡ l.number;
  long : length l.row.items ≡ l.number;
  room : l.fn.passes ≤ vec_capacity l.row;
  passes : EachAt (λ k p. p ≡ new_pass (book_at l.fn.shared.table_id l.fn.shared.key.passes (g.S.Book.opening l.fn.shared.key.start.value)) k) 0 l.row.items;
}
