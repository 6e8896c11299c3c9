use Rattle.std.proofs.Common.{◌∙◌, ◌≡◌, ◌<◌, ◌++◌, ℕ, List, take, drop, length, get_or, sym, ap, subst, arith, append-nil}
use Rattle.std.proofs.Math.Seq.{take-length, drop-length}
use Rattle.store_tests.proofs.turns.add_all.Goals as goal

-- the passes after they were lent as a slice
lent : {A : Type 0} (n : ℕ) (items new : List A) → length items ≡ n → length new ≡ n → take n (new ++ drop (length new) items) ≡ new
lent n items new a b =
    let none : drop (length new) items ≡ drop (length items) items = ap (λ k. drop k items) (b ∙ sym a) in
    ap (λ l. take n (new ++ l)) (none ∙ drop-length items) ∙ (ap (take n) (append-nil new) ∙ (ap (λ k. take k new) (sym b) ∙ take-length new))

numbered : {A : Type 0} (number : A → ℕ) (n count : ℕ) (items new : List A) → length items ≡ n → length new ≡ n → count ≡ n → ((k : ℕ) (d : A) → k < count → number (get_or items k d) ≡ k)
    → ((k : ℕ) (d : A) → k < length items → number (get_or new k d) ≡ number (get_or items k d)) → (k : ℕ) → k < count
    → (i : ℕ) × (i < length (take n (new ++ drop (length new) items))) × ((d : A) → number (get_or (take n (new ++ drop (length new) items)) i d) ≡ k)
numbered number n count items new a b is first same k l =
    let e = lent n items new a b in
    subst (λ z. (i : ℕ) × (i < length z) × ((d : _) → number (get_or z i d) ≡ k)) (sym e) (k, omega arith, λ d. same k d (omega arith) ∙ first k d l)

pub close-requires-clause-each : goal.close-requires-clause-each
close-requires-clause-each g c =
    let items = c.as_mut_slice.ensures.value in
    let long = ap length (sym items) ∙ c.as_mut_slice.ensures.len in
    numbered (λ p. p.number) c.in-Ok.row.len _ c.in-Ok.row.items c.add_in_each.new.passes long (c.add_in_each.auto.passes ∙ (ap length items ∙ long)) (c.in-Ok.ensures.book.1 ∙ sym c.in-Ok.ensures.count)
    (λ k d l. ap (λ p. p.number) (c.in-Ok.ensures.passes k d l)) (subst (λ r. (k : ℕ) (d : _) → k < length r → (get_or c.add_in_each.new.passes k d).number ≡ (get_or r k d).number) items c.add_in_each.ensures.numbers)
