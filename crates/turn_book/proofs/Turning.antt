-- The steps of a turn keep the rule.
use Rattle.std.proofs.Common.{◌≡◌, ◌≢◌, ℕ, ◌<◌, eqb, ne_eqb, eq-eqb, true, List, [], ◌∷◌, ◌++◌, get_or, set, refl, ap, sym, subst, ◌∙◌, arith, Option, Some, None, length-set, get_or-set_same}
use Rattle.std.specs.List.{AllByRecursion}
use Rattle.std.proofs.lemmas.List.Elements.{recursion_from_All}
use mathlib.Core.Logic.{dite}
use mathlib.Core.Option.{some, none}
use mathlib.Core.List.{IsPrefix}
use native.Mathlib.Decide.{ℕ_discrete}
use lib.ListN.{get_elem?}
use prog.Atomic.{either}
use Rattle.atomic_table.specs.Table.{State, Step, keeps, takes, gives, stepped, Allows, rest}
use Rattle.atomic_table.proofs.Lists.{set_again, exchanged}
use Rattle.turn_book.specs.declared.view.Claim.{Claim}
use Rattle.turn_book.specs.declared.view.SeatView.{SeatView}
use Rattle.turn_book.specs.History.{entries_of, Continues}
use Rattle.turn_book.specs.Views.{claim, claims_in, claims_of, holding, resting}
use Rattle.turn_book.specs.Rule.{Fits, Knows, KeepsTurn}
use Rattle.turn_book.specs.Steps.{Sitting, TakesTurn, TakesIfFree, GivesBack}
use Rattle.turn_book.proofs.Lists.{each_map, each_append, prefix_self, prefix_longer, set_only, set_at, views_stay, same_entries}

only_head : {A : Type 0} (x y : A) → x ∷ [] ≡ y ∷ [] → x ≡ y
only_head x y e = cc e

some_same : {A : Type 0} (x y : A) → Some x ≡ Some y → x ≡ y
some_same x y e = cc e

module _ {E F : Type 0} where
  -- a seat with a fixed value has its own claim
  pub own_claim : (P : Claim E → Type 0) (o : Option F) (f : F) (c : Claim E) (cs : List (Claim E)) → o ≡ Some f → AllByRecursion P (claims_in o c cs) → P c
  own_claim P None f c cs e p = absurd cc
  own_claim P (Some g) f c cs e p = p.0

  set_claim : (P : Claim E → Type 0) (o : Option F) (c d : Claim E) (cs : List (Claim E)) → (P c → P d) → AllByRecursion P (claims_in o c cs) → AllByRecursion P (claims_in o d cs)
  set_claim P None c d cs f p = tt
  set_claim P (Some g) c d cs f p = (f p.0, p.1)

module _ {S E F : Type 0} (owner : E → ℕ) (history : S → List E) (agrees : S → F → Type 0) (count : ℕ) (fixed : F) where
  abbrev V : Type 0
  V = SeatView E F

  abbrev St : Type 0
  St = State (Option S) V

  abbrev Rule : St → Type 0
  Rule = KeepsTurn owner history agrees count fixed

  abbrev word : St → ℕ
  word s = get_or s.words 0 0

  -- the turn is taken
  taken : (s : St) (r : Rule s) (id : ℕ) (v : V) (f : F) (n : ℕ) → n ≢ 0 → get_elem? s.views id ≡ some v → v.fixed ≡ Some f → word s ≡ 0 → (y : S) → history y ≡ r.past
      → Rule (stepped s 0 n id [] (holding (history y) v) (takes 0 (Some y)))
  taken s r id v f n busy at live free y is =
      let now : get_or (set s.words 0 n) 0 0 ≡ n = get_or-set_same s.words 0 n 0 (let l = r.one_word in omega arith) in
      let me = r.each_seat id v at in record {
        past = r.past;
        holder = id;
        keeper = r.keeper;
        one_word = length-set s.words 0 n ∙ r.one_word;
        one_slot = length-set s.homes 0 none ∙ r.one_slot;
        free = λ z. absurd (busy (sym now ∙ z));
        held = λ _. (holding (history y) v, f, set_at s.views id v (holding (history y) v) at, refl, live);
        owned = r.owned;
        each_seat = views_stay (Knows owner r.past count fixed (get_or (set s.words 0 n) 0 0) id r.keeper) s.views id (holding (history y) v)
            record {
              claims = set_claim (λ c. Fits owner r.past count c × (r.keeper c.number ≡ id)) v.fixed v.own (record v.own { seen = history y }) v.further
                  (λ p. (record { seen = subst (λ h. IsPrefix h r.past) (sym is) (prefix_self r.past); mine = p.0.mine; small = p.0.small }, p.1)) me.claims;
              same = me.same;
              turn = λ _. ((λ z. busy (sym now ∙ z)), refl, is);
            }
            (λ j d other there. let k = r.each_seat j d there in record {
              claims = k.claims;
              same = k.same;
              turn = λ t. absurd ((k.turn t).0 free);
            });
      }

  -- the word changes while the turn is held
  unmoved : (s : St) (r : Rule s) (id : ℕ) (v : V) (n : ℕ) (cs : List (ℕ × Option S)) → n ≢ 0 → get_elem? s.views id ≡ some v → word s ≢ 0 → Rule (stepped s 0 n id cs v keeps)
  unmoved s r id v n cs busy at held =
      let now : get_or (set s.words 0 n) 0 0 ≡ n = get_or-set_same s.words 0 n 0 (let l = r.one_word in omega arith) in
      record {
        past = r.past;
        holder = r.holder;
        keeper = r.keeper;
        one_word = length-set s.words 0 n ∙ r.one_word;
        one_slot = r.one_slot;
        free = λ z. absurd (busy (sym now ∙ z));
        held = λ _. let h = r.held held in (h.0, h.1, subst (λ (vs : List V). get_elem? vs r.holder ≡ some h.0) (sym (set_again s.views id v at)) h.2, h.3, h.4);
        owned = r.owned;
        each_seat = subst (λ (vs : List V). (j : ℕ) (d : V) → get_elem? vs j ≡ some d → Knows owner r.past count fixed (get_or (set s.words 0 n) 0 0) r.holder r.keeper j d) (sym (set_again s.views id v at))
            (λ j d there. let k = r.each_seat j d there in record {
              claims = k.claims;
              same = k.same;
              turn = λ t. let h = k.turn t in ((λ z. busy (sym now ∙ z)), h.1, h.2);
            });
      }

  tries : (slots id : ℕ) (v : V) (f : F) (g : ℕ → ℕ) (st : Step (Option S)) → v.fixed ≡ Some f → ((n : ℕ) → g n ≢ 0)
      → Allows Rule slots id (v, []) 0 g (TakesIfFree owner history agrees st (v, []))
  tries slots id v f g st live busy s r len at small = dite (ℕ_discrete (word s) 0)
      (λ free. let t = r.free free in let y = t.0 in let is : history y ≡ r.past = t.3 in
      let me = r.each_seat id v at in
      let mine = own_claim (λ c. Fits owner r.past count c × (r.keeper c.number ≡ id)) v.fixed f v.own v.further live me.claims in (
        holding (history y) v,
        takes 0 (Some y),
        subst (λ (hs : List _). get_elem? hs 0 ≡ some (some (Some y))) (sym t.1) refl,
        taken s r id v f (g (word s)) (busy (word s)) at live free y is,
        rw (eq-eqb (word s) 0 free) (y, refl, subst (λ h. IsPrefix v.own.seen h) (sym is) mine.0.seen, ap (entries_of owner v.own.number) is ∙ mine.0.mine, λ k e. subst (agrees y) (sym (me.same k e)) t.2),
      ))
      (λ held. (v, keeps, tt, unmoved s r id v (g (word s)) [] (busy (word s)) at held, rw (ne_eqb (word s) 0 held) refl))

  -- the turn is given back, with entries of this owner alone
  given : (s : St) (r : Rule s) (id : ℕ) (v : V) (f : F) (y : S) (added : List E) → get_elem? s.views id ≡ some v → v.fixed ≡ Some f → v.further ≡ [] → v.holds ≡ true
      → agrees y f → history y ≡ v.own.seen ++ added → AllByRecursion (λ e. owner e ≡ v.own.number) added
      → Rule (stepped s 0 0 id ((0, Some y) ∷ []) (resting owner (history y) v) gives)
  given s r id v f y added at live alone has fits is own =
      let me = r.each_seat id v at in
      let turn = me.turn has in
      let mine = own_claim (λ c. Fits owner r.past count c × (r.keeper c.number ≡ id)) v.fixed f v.own v.further live me.claims in
      let now : history y ≡ r.past ++ added = is ∙ ap (λ h. h ++ added) turn.2 in
      let zero_now : get_or (set s.words 0 0) 0 0 ≡ 0 = get_or-set_same s.words 0 0 0 (let l = r.one_word in omega arith) in record {
        past = history y;
        holder = 0;
        keeper = r.keeper;
        one_word = length-set s.words 0 0 ∙ r.one_word;
        one_slot = length-set s.homes 0 (some (Some y)) ∙ r.one_slot;
        free = λ _. (y, set_only s.homes (some (Some y)) r.one_slot, subst (agrees y) (me.same f live) fits, refl);
        held = λ busy. absurd (busy zero_now);
        owned = subst (AllByRecursion (λ e. owner e < count)) (sym now) (each_append (λ e. owner e < count) r.past added r.owned
            (each_map (λ e. owner e ≡ v.own.number) (λ e. owner e < count) (λ e h. subst (λ n. n < count) (sym h) mine.0.small) added own));
        each_seat = views_stay (Knows owner (history y) count fixed (get_or (set s.words 0 0) 0 0) 0 r.keeper) s.views id (resting owner (history y) v)
            record {
              claims = subst (λ cs. AllByRecursion (λ c. Fits owner (history y) count c × (r.keeper c.number ≡ id)) (claims_in v.fixed (claim v.own.number (history y) (entries_of owner v.own.number (history y))) cs)) (sym alone)
                  (rw live ((record { seen = prefix_self (history y); mine = refl; small = mine.0.small }, mine.1), tt));
              same = me.same;
              turn = λ t. absurd cc;
            }
            (λ j d other there. let k = r.each_seat j d there in record {
              claims = each_map (λ c. Fits owner r.past count c × (r.keeper c.number ≡ j)) (λ c. Fits owner (history y) count c × (r.keeper c.number ≡ j))
                  (λ c p. (
                    record {
                      seen = subst (λ h. IsPrefix c.seen h) (sym now) (prefix_longer c.seen r.past added p.0.seen);
                      mine = ap (entries_of owner c.number) now ∙ (same_entries owner c.number v.own.number (λ e. other (sym p.1 ∙ (ap r.keeper e ∙ mine.1))) r.past added own ∙ p.0.mine);
                      small = p.0.small;
                    },
                    p.1,
                  )) (claims_of d) k.claims;
              same = k.same;
              turn = λ t. absurd (other (sym (k.turn t).1 ∙ turn.1));
            });
      }

  gives_back : (slots id : ℕ) (v : V) (f : F) (y : S) (added : List E) (st : Step (Option S)) → v.fixed ≡ Some f → v.further ≡ [] → v.holds ≡ true
      → agrees y f → history y ≡ v.own.seen ++ added → AllByRecursion (λ e. owner e ≡ v.own.number) added
      → Allows Rule slots id (v, (0, Some y) ∷ []) 0 (λ _. 0) (GivesBack owner history st (v, (0, Some y) ∷ []))
  gives_back slots id v f y added st live alone has fits is own s r len at small =
      (resting owner (history y) v, gives, tt, given s r id v f y added at live alone has fits is own, λ z e. let same : y ≡ z = some_same y z (ap (λ (t : ℕ × Option S). t.1) (only_head (0, Some y) (0, Some z) e)) in ap (λ x. (resting owner (history x) v, [])) same)

  -- a seat that has no slot may try for the turn by any step that leaves the word at no 0
  pub tries_at : (slots id : ℕ) (m : Sitting S E F) (f : F) (g : ℕ → ℕ) (st : Step (Option S)) → m.0.fixed ≡ Some f → m.1 ≡ [] → ((n : ℕ) → g n ≢ 0)
      → Allows Rule slots id m 0 g (TakesIfFree owner history agrees st m)
  tries_at slots id m f g st live empty busy = subst (λ (cs : List (ℕ × Option S)). Allows Rule slots id (m.0, cs) 0 g (TakesIfFree owner history agrees st (m.0, cs))) (sym empty) (tries slots id m.0 f g st live busy)

  -- a seat that holds the turn and has put the value y into the slot may give the turn back
  pub gives_at : (slots id : ℕ) (m m' : Sitting S E F) (f : F) (y : S) (st : Step (Option S)) → m.0.fixed ≡ Some f → m.0.further ≡ []
      → m.1 ≡ (0, None) ∷ [] → m.0.holds ≡ true → agrees y f → Continues owner m.0.own.number m.0.own.seen (history y) → m' ≡ (m.0, (0, Some y) ∷ rest m.1)
      → Allows Rule slots id m' 0 (λ _. 0) (GivesBack owner history st m')
  gives_at slots id m m' f y st live alone out has fits more now =
      let m1 : m' ≡ (m.0, (0, Some y) ∷ []) = now ∙ ap (λ l. (m.0, (0, Some y) ∷ rest l)) out in
      subst (λ (k : Sitting S E F). Allows Rule slots id k 0 (λ _. 0) (GivesBack owner history st k)) (sym m1)
      (gives_back slots id m.0 f y more.0 st live alone has fits more.1 (recursion_from_All (λ e. owner e ≡ m.0.own.number) more.0 more.2))

-- the word after a compare-exchange of 0 with 1, and after a swap with 2, is no 0
pub locks : (n : ℕ) → either (eqb n 0) 1 n ≢ 0
locks n = exchanged n 0 1 (λ k. k ≢ 0) (λ _ z. absurd (omega arith)) (λ busy. busy)

pub sleeps : (n : ℕ) → ◌≢◌ {A = ℕ} 2 0
sleeps n z = absurd (omega arith)

-- the slot that was taken is the first in hand, and has the value
pub taken_slot : {S E F : Type 0} (owner : E → ℕ) (history : S → List E) (agrees : S → F → Type 0) (m m' : Sitting S E F) → TakesTurn owner history agrees m m'
    → (old : Option S) × (m'.1 ≡ (0, old) ∷ rest m'.1)
taken_slot owner history agrees m m' t = (Some t.0, (let e = ap (λ k. k.1) t.1 in e ∙ ap (λ l. (0, Some t.0) ∷ rest l) (sym e)))
