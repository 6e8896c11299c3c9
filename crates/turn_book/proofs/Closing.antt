-- Seats are united, and the table is closed.
use Rattle.std.proofs.Common.{◌≡◌, ◌≢◌, ℕ, ◌<◌, true, false, List, [], ◌∷◌, ◌++◌, map, get_or, set, refl, ap, sym, subst, ◌∙◌, inl, inr, ⊎_elim, Option, Some, None, All}
use Rattle.std.specs.Option.{option_to_list}
use Rattle.std.specs.List.{AllByRecursion}
use Rattle.std.proofs.lemmas.List.Elements.{All-from_recursion, recursion_from_All}
use mathlib.Core.Logic.{dite}
use mathlib.Core.Option.{some, some-injective}
use native.Mathlib.Decide.{ℕ_discrete}
use lib.ListN.{get_elem?}
use Rattle.atomic_table.specs.Table.{State, Joins, Final, Seen}
use Rattle.atomic_table.specs.Seated.{TableId}
use Rattle.atomic_table.proofs.Lists.{set_else}
use Rattle.turn_book.specs.declared.view.Claim.{Claim}
use Rattle.turn_book.specs.declared.view.SeatView.{SeatView}
use Rattle.turn_book.specs.Passes.{BookView, PassView, IsIdle, HasNumber, pass_at}
use Rattle.turn_book.specs.Views.{claim, spent, claims_in, claims_of, united}
use Rattle.turn_book.specs.Seats.{Among, HasAll, claim_of, with_claims}
use Rattle.turn_book.specs.Rule.{Fits, Knows, KeepsTurn}
use Rattle.turn_book.specs.Steps.{Sitting, Ends}
use Rattle.turn_book.proofs.Lists.{each_map, each_append, each_last, views_stay, set_at, among_at}
use Rattle.turn_book.proofs.Turning.{own_claim}
use Rattle.turn_book.proofs.Dealing.{moved, moved_here, moved_else}

some_value : {A : Type 0} (x y : A) → Some x ≡ Some y → x ≡ y
some_value x y e = cc e

module _ {S E F : Type 0} (owner : E → ℕ) (history : S → List E) (agrees : S → F → Type 0) (count : ℕ) (fixed : F) where
  abbrev V : Type 0
  V = SeatView E F

  abbrev St : Type 0
  St = State (Option S) V

  abbrev Rule : St → Type 0
  Rule = KeepsTurn owner history agrees count fixed

  abbrev word : St → ℕ
  word s = get_or s.words 0 0

  -- who knows what, as the numbers are kept now
  abbrev Know : (s : St) → Rule s → (ℕ → ℕ) → ℕ → V → Type 0
  Know s r keeper = Knows owner r.past count fixed (word s) r.holder keeper

  -- one seat takes in the number of another, which holds no turn
  pub joins : (id : ℕ) (v : V) (other : ℕ) (w : V) (f g : F) → v.fixed ≡ Some f → w.fixed ≡ Some g → w.further ≡ [] → w.holds ≡ false → Joins Rule id v other w (united v w) spent
  joins id v other w f g live there_live alone idle s r at apart there_at =
      let there : get_elem? s.views other ≡ some w = sym (set_else s.views id other (united v w) apart) ∙ there_at in
      let me = r.each_seat id v at in
      let its = r.each_seat other w there in
      let mine : AllByRecursion (λ c. Fits owner r.past count c × (r.keeper c.number ≡ id)) (v.own ∷ v.further) = subst (λ (o : Option F). AllByRecursion (λ c. Fits owner r.past count c × (r.keeper c.number ≡ id)) (claims_in o v.own v.further)) live me.claims in
      let theirs = own_claim (λ c. Fits owner r.past count c × (r.keeper c.number ≡ other)) w.fixed g w.own w.further there_live its.claims in
      let keeper : ℕ → ℕ = moved r.keeper w.own.number id in
      let both : V = united v w in
      let one : List V = set s.views id both in record {
        past = r.past;
        holder = r.holder;
        keeper = keeper;
        one_word = r.one_word;
        one_slot = r.one_slot;
        free = r.free;
        held = λ busy. let h = r.held busy in
            let not_other : r.holder ≢ other = λ e. clash w h.0 (some-injective w h.0 (sym there ∙ (ap (get_elem? s.views) (sym e) ∙ h.2))) idle h.3 in
            dite (ℕ_discrete r.holder id)
            (λ is. (
              both,
              f,
              (set_else one other r.holder spent not_other ∙ (ap (get_elem? one) is ∙ set_at s.views id v both at)),
              ap (λ (x : V). x.holds) (some-injective v h.0 (sym at ∙ (ap (get_elem? s.views) (sym is) ∙ h.2))) ∙ h.3,
              live,
            ))
            (λ isnt. (h.0, h.1, set_else one other r.holder spent not_other ∙ (set_else s.views id r.holder both isnt ∙ h.2), h.3, h.4));
        owned = r.owned;
        each_seat = views_stay (Know s r keeper) one other spent
            record { claims = tt; same = λ h e. absurd cc; turn = λ t. absurd cc }
            (λ j d not_other here. views_stay (λ i e. i ≢ other → Know s r keeper i e) s.views id both
            (λ _. record {
              claims = subst (λ (o : Option F). AllByRecursion (λ c. Fits owner r.past count c × (keeper c.number ≡ id)) (claims_in o v.own (claims_of w ++ v.further))) (sym live) (
                kept v.own mine.0,
                subst (λ (o : Option F). AllByRecursion (λ c. Fits owner r.past count c × (keeper c.number ≡ id)) (claims_in o w.own w.further ++ v.further)) (sym there_live)
                    ((theirs.0, moved_here r.keeper w.own.number id), subst (λ (cs : List (Claim E)). AllByRecursion (λ c. Fits owner r.past count c × (keeper c.number ≡ id)) (cs ++ v.further)) (sym alone) (each_map _ _ kept v.further mine.1)),
              );
              same = me.same;
              turn = me.turn;
            })
            (λ i e not_me at_i not_it. let k = r.each_seat i e at_i in record {
              claims = each_map _ _ (λ c b. (b.0, moved_else r.keeper w.own.number id c.number (λ is. not_it (sym b.1 ∙ (ap r.keeper is ∙ theirs.1))) ∙ b.1)) (claims_of e) k.claims;
              same = k.same;
              turn = k.turn;
            }) j d here not_other);
      }
    where
      clash : (a b : V) → a ≡ b → a.holds ≡ false → b.holds ≡ true → ⊥
      clash a b e p q = absurd (cc (p, q, ap (λ (x : V). x.holds) e))

      kept : (c : Claim E) → Fits owner r.past count c × (r.keeper c.number ≡ id) → Fits owner r.past count c × (moved r.keeper w.own.number id c.number ≡ id)
      kept c p = (p.0, dite (ℕ_discrete c.number w.own.number) (λ e. ap (moved r.keeper w.own.number id) e ∙ moved_here r.keeper w.own.number id) (λ ne. moved_else r.keeper w.own.number id c.number ne ∙ p.1))

  -- where a seat that holds no turn has every number, the turn is free
  is_free : (s : St) (r : Rule s) (id : ℕ) (v : V) → get_elem? s.views id ≡ some v → v.holds ≡ false
      → ((k : ℕ) → k < count → Among (λ c. c.number ≡ k) (claims_of v)) → word s ≡ 0
  is_free s r id v at idle all = dite (ℕ_discrete (word s) 0) (λ free. free)
      (λ busy. let h = r.held busy in
      let its = own_claim (λ c. Fits owner r.past count c × (r.keeper c.number ≡ r.holder)) h.0.fixed h.1 h.0.own h.0.further h.4 (r.each_seat r.holder h.0 h.2).claims in
      let mine : r.keeper h.0.own.number ≡ id = among (claims_of v) h.0.own.number (all h.0.own.number its.0.small) (r.each_seat id v at).claims in
      let same : v ≡ h.0 = some-injective v h.0 (sym at ∙ (ap (get_elem? s.views) (sym mine ∙ its.1) ∙ h.2)) in
      absurd (cc (idle, h.3, ap (λ (x : V). x.holds) same)))
    where
      among : (cs : List (Claim E)) (k : ℕ) → Among (λ c. c.number ≡ k) cs → AllByRecursion (λ c. Fits owner r.past count c × (r.keeper c.number ≡ id)) cs → r.keeper k ≡ id
      among [] k a p = absurd a
      among (c ∷ cs) k a p = ⊎_elim (λ e. ap r.keeper (sym e) ∙ p.0.1) (λ t. among cs k t p.1) a

  pub ends : (id : ℕ) (v : V) (ws : List ℕ) (xs : List (Option S)) → v.holds ≡ false → HasAll count v → Final (Seen Rule id v) ws xs
      → (y : S) × (get_elem? xs 0 ≡ some (Some y)) × Ends owner history agrees count fixed v y
  ends id v ws xs idle all fin =
      let s = fin.0 in let r = fin.1.0 in let at = fin.1.1 in
      let last = r.free (is_free s r id v at idle all) in
      let y = last.0 in let is : history y ≡ r.past = last.3 in (
        y,
        fin.4 0 (Some y) (subst (λ (hs : List (_)). get_elem? hs 0 ≡ some (some (Some y))) (sym last.1) refl),
        record {
          agreed = last.2;
          claims = subst (λ (h : List E). AllByRecursion (Fits owner h count) (claims_of v)) (sym is) (each_map _ _ (λ c p. p.0) (claims_of v) (r.each_seat id v at).claims);
          owned = subst (AllByRecursion (λ e. owner e < count)) (sym is) r.owned;
        },
      )

-- the slot of the closed table has the last value
pub last_slot : {S : Type 0} (P : S → Type 0) (xs : List (Option S)) (o : Option S) → get_elem? xs 0 ≡ some o → ((y : S) × (get_elem? xs 0 ≡ some (Some y)) × P y) → (y : S) × (o ≡ Some y) × P y
last_slot P xs o e t = (t.0, sym (some-injective (Some t.0) o (sym t.1 ∙ e)), t.2)

pub last_state : {S : Type 0} (P : S → Type 0) (o : Option S) (u : S) → o ≡ Some u → ((y : S) × (o ≡ Some y) × P y) → P u
last_state P o u e t = subst P (some_value t.0 u (sym t.1 ∙ e)) t.2

module _ {E F : Type 0} where
  -- the claims of a seat with a fixed value
  live_claims : (o : Option F) (f : F) (c : Claim E) (cs : List (Claim E)) → o ≡ Some f → claims_in o c cs ≡ c ∷ cs
  live_claims None f c cs e = absurd cc
  live_claims (Some g) f c cs e = refl

  -- a seat that has taken in claims takes in those of one seat more
  pub with_one_more : {S : Type 0} (m before after : Sitting S E F) (w : SeatView E F) (f : F) (cs : List (Claim E)) → before ≡ with_claims m cs → w.fixed ≡ Some f → w.further ≡ []
      → after ≡ (united before.0 w, before.1) → after ≡ with_claims m (w.own ∷ cs)
  with_one_more m before after w f cs e live alone now =
      let one : claims_of w ≡ w.own ∷ [] = ap (claims_in w.fixed w.own) alone ∙ live_claims w.fixed f w.own [] live in
      now ∙ (ap (λ (l : List (Claim E)). (record before.0 { further = l ++ before.0.further }, before.1)) one
      ∙ ap (λ (k : Sitting _ E F). (record k.0 { further = w.own ∷ k.0.further }, k.1)) e)

  -- a pass's seat has the claim of the pass
  pub own_claim_is : (id : TableId) (n : ℕ) (v : SeatView E F) (p : PassView E F) → pass_at id n v ≡ p → v.own.number ≡ n → v.own ≡ claim_of p
  own_claim_is id n v p is number = ap (λ k. claim k v.own.seen v.own.mine) number ∙ ap claim_of is

  mapped : (k : ℕ) (ps : List (PassView E F)) (cs : List (Claim E)) → Among (λ p. p.number ≡ k) ps → Among (λ c. c.number ≡ k) (map claim_of ps ++ cs)
  mapped k [] cs a = absurd a
  mapped k (p ∷ ps) cs a = ⊎_elim (λ e. inl e) (λ t. inr (mapped k ps cs t)) a

  -- a number that some pass has is among the claims of all
  among_claims : (k : ℕ) (init : List (PassView E F)) (last : PassView E F) (cs : List (Claim E)) → Among (λ p. p.number ≡ k) (init ++ last ∷ []) → Among (λ c. c.number ≡ k) (claim_of last ∷ (map claim_of init ++ cs))
  among_claims k [] last cs a = ⊎_elim (λ e. inl e) (λ t. absurd t) a
  among_claims k (p ∷ ps) last cs a = ⊎_elim (λ e. inr (inl e)) (λ t. ⊎_elim (λ e. inl e) (λ u. inr (inr u)) (among_claims k ps last cs t)) a

  unmapped : (P : Claim E → Type 0) (ps : List (PassView E F)) (cs : List (Claim E)) → AllByRecursion P (map claim_of ps ++ cs) → AllByRecursion (λ p. P (claim_of p)) ps
  unmapped P [] cs p = tt
  unmapped P (x ∷ xs) cs p = (p.0, unmapped P xs cs p.1)

  -- what holds of all claims holds of each pass's
  each_claim : (P : Claim E → Type 0) (init : List (PassView E F)) (last : PassView E F) (cs : List (Claim E)) → AllByRecursion P (claim_of last ∷ (map claim_of init ++ cs)) → AllByRecursion (λ p. P (claim_of p)) (init ++ last ∷ [])
  each_claim P init last cs p = each_append (λ x. P (claim_of x)) init (last ∷ []) (unmapped P init cs p.1) (p.0, tt)

-- all passes are those that are left, and the one that was popped
pub popped : {A : Type 0} (all rest : List A) (o : Option A) (x : A) → all ≡ rest ++ option_to_list o → o ≡ Some x → all ≡ rest ++ x ∷ []
popped all rest o x e is = e ∙ ap (λ p. rest ++ option_to_list p) is

pub last_idle : {E F : Type 0} (book : BookView F) (all rest : List (PassView E F)) (last : PassView E F) → All (IsIdle book) all → all ≡ rest ++ last ∷ [] → IsIdle book last
last_idle book all rest last idle whole = each_last (IsIdle book) rest last (subst (AllByRecursion (IsIdle book)) whole (recursion_from_All (IsIdle book) all idle))

-- the seat of the last pass has taken in the claims of the rest
module _ {S E F : Type 0} (all rest : List (PassView E F)) (last : PassView E F) (id : TableId) (n : ℕ) (f : F) (m after : Sitting S E F) where
  closing_claims : pass_at id n m.0 ≡ last → m.0.own.number ≡ n → m.0.fixed ≡ Some f → after ≡ with_claims m (map claim_of rest)
      → claims_of after.0 ≡ claim_of last ∷ (map claim_of rest ++ m.0.further)
  closing_claims is number live now =
      ap (λ (k : Sitting S E F). claims_of k.0) now
      ∙ (live_claims m.0.fixed f m.0.own (map claim_of rest ++ m.0.further) live
      ∙ ap (λ c. c ∷ (map claim_of rest ++ m.0.further)) (own_claim_is id n m.0 last is number))

  pub has_all : (count : ℕ) → all ≡ rest ++ last ∷ [] → pass_at id n m.0 ≡ last → m.0.own.number ≡ n → m.0.fixed ≡ Some f → after ≡ with_claims m (map claim_of rest)
      → ((k : ℕ) → k < count → HasNumber all k) → HasAll count after.0
  has_all count whole is number live now each k below =
      let t = each k below in
      subst (Among (λ c. c.number ≡ k)) (sym (closing_claims is number live now))
      (among_claims k rest last m.0.further (subst (Among (λ p. p.number ≡ k)) whole (among_at (λ p. p.number ≡ k) all t.0 t.1 t.2)))

  pub all_fit : (owner : E → ℕ) (history : List E) (count : ℕ) → all ≡ rest ++ last ∷ [] → pass_at id n m.0 ≡ last → m.0.own.number ≡ n → m.0.fixed ≡ Some f → after ≡ with_claims m (map claim_of rest)
      → AllByRecursion (Fits owner history count) (claims_of after.0) → All (λ p. Fits owner history count (claim_of p)) all
  all_fit owner history count whole is number live now fit =
      All-from_recursion (λ p. Fits owner history count (claim_of p)) all
      (subst (AllByRecursion (λ p. Fits owner history count (claim_of p))) (sym whole)
      (each_claim (Fits owner history count) rest last m.0.further (subst (AllByRecursion (Fits owner history count)) (closing_claims is number live now) fit)))
