-- A table begins, and its numbers are dealt to seats.
use Rattle.std.proofs.Common.{◌≡◌, ◌≢◌, ℕ, zero, suc, ◌+◌, ◌<◌, ◌≤◌, eqb, ne_eqb, eq-eqb, true, cond, List, [], ◌∷◌, length, get_or, set, refl, ap, sym, subst, ◌∙◌, ⊎_elim, arith, Option, Some}
use Rattle.std.specs.List.{AllByRecursion}
use mathlib.Core.Option.{some, some-injective, some-ne-none}
use mathlib.Core.List.{IsPrefix}
use lib.ListN.{get_elem?}
use Rattle.atomic_table.specs.Table.{State, Splits, opening}
use Rattle.atomic_table.proofs.Lists.{set_else, at_longer}
use Rattle.turn_book.specs.declared.view.Claim.{Claim}
use Rattle.turn_book.specs.declared.view.SeatView.{SeatView}
use Rattle.atomic_table.specs.Seated.{TableId}
use Rattle.turn_book.specs.Passes.{BookView, pass_at, new_pass}
use Rattle.turn_book.specs.Views.{new_claims, new_view, first_view, without_own, own_alone, claims_of}
use Rattle.turn_book.specs.Rule.{Knows, KeepsTurn}
use Rattle.turn_book.specs.Steps.{Sitting}
use Rattle.turn_book.proofs.Lists.{each_map, each_both, views_stay, at_end}

-- the number p is now kept by `at`
abbrev pub moved : (ℕ → ℕ) → ℕ → ℕ → ℕ → ℕ
moved keeper p at q = cond (eqb q p) at (keeper q)

pub moved_here : (keeper : ℕ → ℕ) (p at : ℕ) → moved keeper p at p ≡ at
moved_here keeper p at = ap (λ b. cond b at (keeper p)) (eq-eqb p p refl)

pub moved_else : (keeper : ℕ → ℕ) (p at q : ℕ) → q ≢ p → moved keeper p at q ≡ keeper q
moved_else keeper p at q ne = ap (λ b. cond b at (keeper q)) (ne_eqb q p ne)

some_value : {A : Type 0} (x y : A) → Some x ≡ Some y → x ≡ y
some_value x y e = cc e

-- a new claim has seen nothing, and its number lies in the range
none_yet : (E : Type 0) (p k : ℕ) → AllByRecursion (λ (c : Claim E). (c.seen ≡ []) × (c.mine ≡ []) × (p ≤ c.number) × (c.number < p + k)) (new_claims p k)
none_yet E p zero = tt
none_yet E p (suc k) = ((refl, refl, omega arith, omega arith), each_map _ _ (λ c h. let a = h.2 in let b = h.3 in (h.0, h.1, omega arith, omega arith)) (new_claims (suc p) k) (none_yet E (suc p) k))

-- a number that is no 0 has one before it
pub one_more : (P : ℕ → Type 0) (k : ℕ) → 0 < k → P k → (j : ℕ) × (k ≡ suc j) × P (suc j)
one_more P zero l p = absurd (omega arith)
one_more P (suc j) l p = (j, refl, p)

module _ {S E F : Type 0} (owner : E → ℕ) (history : S → List E) (agrees : S → F → Type 0) (count : ℕ) (fixed : F) where
  abbrev V : Type 0
  V = SeatView E F

  abbrev St : Type 0
  St = State (Option S) V

  abbrev Rule : St → Type 0
  Rule = KeepsTurn owner history agrees count fixed

  abbrev word : St → ℕ
  word s = get_or s.words 0 0

  -- who knows what, as the numbers are kept now
  abbrev Know : (s : St) → Rule s → (ℕ → ℕ) → ℕ → V → Type 0
  Know s r keeper = Knows owner r.past count fixed (word s) r.holder keeper

  -- the seat's own number goes to a new seat
  deals : (id n k : ℕ) (f : F) → Splits Rule id (new_view f n (new_claims (suc n) (suc k))) (new_view f (suc n) (new_claims (suc (suc n)) k)) (new_view f n [])
  deals id n k f s r at =
      let v : V = new_view f n (new_claims (suc n) (suc k)) in
      let left : V = new_view f (suc n) (new_claims (suc (suc n)) k) in
      let right : V = new_view f n [] in
      let me = r.each_seat id v at in
      let others : List V = set s.views id left in
      let keeper : ℕ → ℕ = moved r.keeper n (length others) in record {
        past = r.past;
        holder = r.holder;
        keeper = keeper;
        one_word = r.one_word;
        one_slot = r.one_slot;
        free = r.free;
        held = λ busy. let h = r.held busy in (
          h.0,
          h.1,
          at_longer others (right ∷ []) r.holder h.0
              (set_else s.views id r.holder left (λ e. absurd (apart (some-injective v h.0 (sym at ∙ (ap (get_elem? s.views) (sym e) ∙ h.2))) h.3)) ∙ h.2),
          h.3,
          h.4,
        );
        owned = r.owned;
        each_seat = λ j d there. ⊎_elim
            (λ (t : get_elem? others j ≡ some d). views_stay (Know s r keeper) s.views id left
            record {
              claims = each_both _ _ _ (λ c a b. (b.0, moved_else r.keeper n (length others) c.number (let low = a.2 in λ e. absurd (omega arith)) ∙ b.1)) (new_claims (suc n) (suc k)) (none_yet E (suc n) (suc k)) me.claims.1;
              same = me.same;
              turn = λ t. absurd cc;
            }
            (λ i e other here. let k = r.each_seat i e here in record {
              claims = each_map _ _ (λ c b. (b.0, moved_else r.keeper n (length others) c.number (λ is. other (sym b.1 ∙ (ap r.keeper is ∙ me.claims.0.1))) ∙ b.1)) (claims_of e) k.claims;
              same = k.same;
              turn = k.turn;
            }) j d t)
            (λ (t : (j ≡ length others) × (right ≡ d)). subst (λ (x : ℕ × V). Know s r keeper x.0 x.1) (λ i. (sym t.0 i, t.1 i)) record {
              claims = ((me.claims.0.0, moved_here r.keeper n (length others)), tt);
              same = me.same;
              turn = λ t. absurd cc;
            })
            (at_end others right d j there);
      }
    where
      apart : {d : V} → new_view f n (new_claims (suc n) (suc k)) ≡ d → d.holds ≡ true → ⊥
      apart e t = absurd (cc (ap (λ (x : V). x.holds) e ∙ t))

  pub deals_at : (id n k : ℕ) (f : F) (m : Sitting S E F) → m ≡ (new_view f n (new_claims (suc n) (suc k)), []) → Splits Rule id m.0 (without_own m.0) (own_alone m.0)
  deals_at id n k f m e = subst (λ (v : V). Splits Rule id v (without_own v) (own_alone v)) (sym (ap (λ x. x.0) e)) (deals id n k f)

  -- a table begins with a value that has no history
  begins : (y : S) → 0 < count → history y ≡ [] → agrees y fixed → Rule (opening (0 ∷ []) (Some y ∷ []) (first_view fixed count))
  begins y some_pass none_past agreed = begun count refl some_pass
    where
      begun : (k : ℕ) → k ≡ count → 0 < k → Rule (opening (0 ∷ []) (Some y ∷ []) (first_view fixed k))
      begun zero is less = absurd (omega arith)
      begun (suc k) is less = record {
        past = [];
        holder = 0;
        keeper = λ _. 0;
        one_word = refl;
        one_slot = refl;
        free = λ _. (y, refl, agreed, none_past);
        held = λ busy. absurd (busy refl);
        owned = tt;
        each_seat = λ j d there. first j d there;
      }
        where
          mine : Knows owner [] count fixed 0 0 (λ _. 0) 0 (new_view fixed 0 (new_claims 1 k))
          mine = record {
            claims = each_map _ _ (λ c h. (record { seen = subst (λ l. IsPrefix l []) (sym h.0) ([], refl); mine = sym h.1; small = (let b = h.3 in omega arith) }, refl)) (new_claims 0 (suc k)) (none_yet E 0 (suc k));
            same = λ f e. sym (some_value fixed f e);
            turn = λ t. absurd cc;
          }

          first : (j : ℕ) (d : V) → get_elem? (new_view fixed 0 (new_claims 1 k) ∷ []) j ≡ some d → Knows owner [] count fixed 0 0 (λ _. 0) j d
          first zero d e = subst (λ (x : V). Knows owner [] count fixed 0 0 (λ _. 0) 0 x) (some-injective _ d e) mine
          first (suc j) d e = absurd (some-ne-none d (sym e))

-- the same of the value as it was remembered, and of the slots as they were filled
pub begins_at : {S E F : Type 0} (owner : E → ℕ) (history : S → List E) (agrees : S → F → Type 0) (first : S → F) (count : ℕ) (y z : S) (xs : List (Option S)) → z ≡ y → xs ≡ Some y ∷ [] → 0 < count → history y ≡ [] → agrees y (first y)
    → KeepsTurn owner history agrees count (first z) (opening (0 ∷ []) xs (first_view (first z) count))
begins_at owner history agrees first count y z xs same is some_pass none_past agreed =
    subst (λ k. KeepsTurn owner history agrees count (first k) (opening (0 ∷ []) xs (first_view (first k) count))) (sym same)
    (subst (λ l. KeepsTurn owner history agrees count (first y) (opening (0 ∷ []) l (first_view (first y) count))) (sym is) (begins owner history agrees count (first y) y some_pass none_past agreed))

-- the pass of a seat that has one number and has seen nothing
pub dealt_last : {S E F : Type 0} (book : BookView F) (id : TableId) (last n : ℕ) (m : Sitting S E F) → id ≡ book.id → last ≡ n → m ≡ (new_view book.fixed n [], []) → pass_at id last m.0 ≡ new_pass book n
dealt_last book id last n m same number is = ap (λ i. pass_at i last m.0) same ∙ (ap (λ k. pass_at book.id k m.0) number ∙ ap (λ (k : Sitting _ _ _). pass_at book.id n k.0) is)
