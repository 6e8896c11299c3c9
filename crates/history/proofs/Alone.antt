-- A history whose events are all one session's, and none a failed store call.
use Rattle.history.specs.Alone.{AreAlone, IsNoFault}
use Rattle.std.proofs.Common.{◌≡◌, ℕ, zero, suc, add-one, ◌+◌, ◌≤◌, List, [], ◌∷◌, ◌++◌, length, map, take, drop, cond, refl, sym, ap, subst, ◌∙◌, append-nil, eq-eqb, arith}
use Rattle.history.specs.declared.event.Event.{Event}
use Rattle.history.specs.History.{History}
use Rattle.history.specs.Own.{Numbered, numbered, own_events, fault}

pub alone_drop : (owner : ℕ) (n : ℕ) (es : List Event) → AreAlone owner es → AreAlone owner (drop n es)
alone_drop owner zero es alone = alone
alone_drop owner (suc n) [] alone = tt
alone_drop owner (suc n) (e ∷ es) alone = alone_drop owner n es alone.1

pub alone_take : (owner : ℕ) (n : ℕ) (es : List Event) → AreAlone owner es → AreAlone owner (take n es)
alone_take owner zero es alone = tt
alone_take owner (suc n) [] alone = tt
alone_take owner (suc n) (e ∷ es) alone = (alone.0, alone_take owner n es alone.1)

-- all are its own
pub own_all : (owner n : ℕ) (es : List Event) → AreAlone owner es → own_events owner n es ≡ numbered n es
own_all owner n [] alone = refl
own_all owner n (e ∷ es) alone =
    let this : Numbered = record { number = n; event = e } in
    ap (λ b. cond b (this ∷ own_events owner (n + 1) es) (own_events owner (n + 1) es)) (eq-eqb e.owner owner alone.0.0) ∙ ap (λ os. this ∷ os) (own_all owner (n + 1) es alone.1)

pub numbered_events : (n : ℕ) (es : List Event) → map (λ (o : Numbered). o.event) (numbered n es) ≡ es
numbered_events n [] = refl
numbered_events n (e ∷ es) = ap (λ xs. e ∷ xs) (numbered_events (n + 1) es)

pub numbered_same : (a b : ℕ) (xs ys : List Event) → numbered a xs ≡ numbered b ys → xs ≡ ys
numbered_same a b xs ys same = sym (numbered_events a xs) ∙ ap (map (λ (o : Numbered). o.event)) same ∙ numbered_events b ys

abbrev pub first_number : List Numbered → ℕ
first_number [] = 0
first_number (o ∷ os) = o.number

pub numbered_first : (a b : ℕ) (x : Event) (xs ys : List Event) → numbered a (x ∷ xs) ≡ numbered b ys → a ≡ b
numbered_first a b x xs [] same = absurd (cc)
numbered_first a b x xs (y ∷ ys) same = ap first_number same

pub number_first : (o : Numbered) (os : List Numbered) (b : ℕ) (ys : List Event) → o ∷ os ≡ numbered b ys → o.number ≡ b
number_first o os b [] same = absurd (cc)
number_first o os b (y ∷ ys) same = ap first_number same

pub number_rest : (o : Numbered) (os : List Numbered) (b : ℕ) (y : Event) (ys : List Event) → o ∷ os ≡ numbered b (y ∷ ys) → (o.event ≡ y) × (os ≡ numbered (b + 1) ys)
number_rest o os b y ys same =
    let one : o ≡ record { number = b; event = y } = cc in
    let rest : os ≡ numbered (b + 1) ys = cc in
    (ap (λ (p : Numbered). p.event) one, rest)

-- one event more
pub drop_next : (n : ℕ) (es : List Event) (y : Event) (ys : List Event) → drop n es ≡ y ∷ ys → (drop (n + 1) es ≡ ys) × (take (n + 1) es ≡ take n es ++ y ∷ [])
drop_next zero [] y ys is = absurd (cc)
drop_next zero (e ∷ es) y ys is = let same : e ≡ y = cc in let rest : es ≡ ys = cc in (rest, ap (λ x. x ∷ []) same)
drop_next (suc n) [] y ys is = absurd (cc)
drop_next (suc n) (e ∷ es) y ys is = let next = drop_next n es y ys is in (rw add-one (rw add-one at next.0), rw add-one (ap (λ xs. e ∷ xs) (rw add-one at next.1)))

pub no_more : (n : ℕ) (es : List Event) → drop n es ≡ [] → n ≤ length es → n ≡ length es
no_more zero [] is low = refl
no_more zero (e ∷ es) is low = absurd (cc)
no_more (suc n) [] is low = absurd (omega arith)
no_more (suc n) (e ∷ es) is low = let rest : n ≡ length es = no_more n es is (omega arith) in omega arith

-- what one session added to a history
pub record IsGrown (owner : ℕ) (past now : History) (own : List Numbered) : Type 0 where
  pub new : List Event
  pub parts : now ≡ past ++ new
  pub in_order : own ≡ numbered (length past + 1) new
  pub alone : AreAlone owner new

pub nothing_new : (owner : ℕ) (past now : History) → IsGrown owner past now [] → now ≡ past
nothing_new owner past now grown = none grown.new grown.in_order grown.parts
  where
    none : (new : List Event) → [] ≡ numbered (length past + 1) new → now ≡ past ++ new → now ≡ past
    none [] is parts = parts ∙ append-nil past
    none (e ∷ es) is parts = absurd (cc)

-- a failed store call isn't among them
pub no_fault : (owner : ℕ) (past now : History) (os : List Numbered) (n : ℕ) (mount : List ℕ) → IsGrown owner past now (os ++ record { number = n; event = fault owner mount } ∷ []) → ⊥
no_fault owner past now os n mount grown = among os (length past + 1) grown.new grown.in_order grown.alone
  where
    among : (os : List Numbered) (k : ℕ) (new : List Event) → os ++ record { number = n; event = fault owner mount } ∷ [] ≡ numbered k new → AreAlone owner new → ⊥
    among [] k [] is alone = absurd (cc)
    among [] k (e ∷ es) is alone = let same : fault owner mount ≡ e = (number_rest _ [] k e es is).0 in subst (λ (x : Event). IsNoFault x.kind) (sym same) alone.0.1
    among (o ∷ os) k [] is alone = absurd (cc)
    among (o ∷ os) k (e ∷ es) is alone = among os (k + 1) es (number_rest o _ k e es is).1 alone.1
