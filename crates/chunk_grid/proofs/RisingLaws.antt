-- Chunk indices put in their places rise, and those that rise are told by their members.
use Rattle.std.proofs.Common.{◌≡◌, ◌∙◌, ℕ, suc, ◌<◌, List, [], ◌∷◌, length, get_or, Bool, true, false, cond, ◌⊎◌, inl, inr, refl, sym, ap, subst, arith}
use Rattle.std.specs.Prelude.{◌||◌}
use Rattle.std.specs.List.{fold, list_any}
use Rattle.std.specs.Str.{bytes_eq}
use Rattle.std.specs.declared.cmp.Ordering.{Ordering}
use Rattle.std.specs.declared.cmp.Ordering.TheVariants.{Less, Equal, Greater}
use Rattle.std.specs.Ordering.{is_lt, is_eq, nat_cmp, ordering_reverse}
use Rattle.std.specs.Cmp.Lexicographic.{slice_cmp}
use Rattle.std.proofs.lemmas.Cmp.{nat_list_cmp_total, tied_itself}
use Rattle.std.proofs.lemmas.Slice.Eq.{bytes_eq-Decides}
use Rattle.std.proofs.lemmas.Map.Text.{is_eq-slice_cmp}
use Rattle.std.proofs.lemmas.List.Folds.{list_any_at}
use Rattle.chunk_grid.specs.Pieces.{placed, among}
use Rattle.chunk_grid.specs.Boxes.{AreRising}

abbrev pub cmp : List ℕ → List ℕ → Ordering
cmp = slice_cmp nat_cmp

true_or_false : (b : Bool) → (b ≡ true) ⊎ (b ≡ false)
true_or_false true = inl refl
true_or_false false = inr refl

-- a chunk index is among some
abbrev pub IsAmong : List ℕ → List (List ℕ) → Type 0
IsAmong c cs = list_any (bytes_eq c) cs ≡ true

pub among_first : (c : List ℕ) (cs : List (List ℕ)) → IsAmong c (c ∷ cs)
among_first c cs = ap (λ b. b || list_any (bytes_eq c) cs) ((bytes_eq-Decides c c).1 refl)

or_second : (a b : Bool) → b ≡ true → (a || b) ≡ true
or_second true b e = refl
or_second false b e = e

pub among_rest : (c d : List ℕ) (cs : List (List ℕ)) → IsAmong c cs → IsAmong c (d ∷ cs)
among_rest c d cs e = or_second (bytes_eq c d) (list_any (bytes_eq c) cs) e

pub among_cases : (c d : List ℕ) (cs : List (List ℕ)) → IsAmong c (d ∷ cs) → (c ≡ d) ⊎ IsAmong c cs
among_cases c d cs e =
    elim (true_or_false (bytes_eq c d)) [
      | inl t ↦ inl ((bytes_eq-Decides c d).0 t)
      | inr f ↦ inr (sym (ap (λ b. b || list_any (bytes_eq c) cs) f) ∙ e)
    ]

pub none_among : (c : List ℕ) → IsAmong c [] → ⊥
none_among c e = cc

or_neither : (a b : Bool) → (a || b) ≡ false → (a ≡ false) × (b ≡ false)
or_neither true b e = absurd (cc)
or_neither false b e = (refl, e)

-- it is among them where it stands at a place, and stands at one where it is among them
pub among_at : (c : List ℕ) (cs : List (List ℕ)) (k : ℕ) → k < length cs → get_or cs k [] ≡ c → IsAmong c cs
among_at c cs k below e = list_any_at (bytes_eq c) cs k [] below ((bytes_eq-Decides c (get_or cs k [])).1 (sym e))

pub place_among : (c : List ℕ) (cs : List (List ℕ)) → IsAmong c cs → (k : ℕ) × (k < length cs) × ((d : List ℕ) → get_or cs k d ≡ c)
place_among c [] e = absurd (none_among c e)
place_among c (d ∷ cs) e =
    elim (among_cases c d cs e) [
      | inl is ↦ (0, omega arith, λ x. sym is)
      | inr there ↦ let at = place_among c cs there in (suc at.0, omega (arith, at.1), at.2)
    ]

-- the lexical order
lt_is : (o : Ordering) → is_lt o ≡ true → o ≡ Less
lt_is Less e = refl
lt_is Equal e = absurd (cc)
lt_is Greater e = absurd (cc)

other_way : (o p : Ordering) → p ≡ ordering_reverse o → is_lt o ≡ false → is_eq o ≡ false → p ≡ Less
other_way Less p e f g = absurd (cc)
other_way Equal p e f g = absurd (cc)
other_way Greater p e f g = e

above : (c d : List ℕ) → is_lt (cmp c d) ≡ false → bytes_eq c d ≡ false → cmp d c ≡ Less
above c d f g = other_way (cmp c d) (cmp d c) (nat_list_cmp_total.antisymm d c) f (is_eq-slice_cmp c d ∙ g)

pub never_below : (c : List ℕ) → cmp c c ≡ Less → ⊥
never_below c e = let clash : Less ≡ Equal = sym e ∙ tied_itself nat_list_cmp_total c in cc

-- chunk indices rise: each is below all that follow
abbrev pub IsBelow : List ℕ → List (List ℕ) → Type 0
IsBelow c cs = (x : List ℕ) → IsAmong x cs → cmp c x ≡ Less

abbrev pub Rises : List (List ℕ) → Type 0
Rises [] = Unit {0}
Rises (c ∷ cs) = IsBelow c cs × Rises cs

pub rises_from : (cs : List (List ℕ)) → AreRising cs → Rises cs
rises_from [] h = tt
rises_from (c ∷ cs) h = (
  λ x there.
      let at = place_among x cs there in
      subst (λ y. cmp c y ≡ Less) (at.2 []) (lt_is (cmp c (get_or cs at.0 [])) (h 0 (suc at.0) (omega arith) (omega (arith, at.1)))),
  rises_from cs (λ i j less below. h (suc i) (suc j) (omega (arith, less)) (omega (arith, below))),
)

-- one put in its place
in_placed : (c x : List ℕ) (cs : List (List ℕ)) → IsAmong x (placed cs c) → (x ≡ c) ⊎ IsAmong x cs
in_placed c x [] h = among_cases x c [] h
in_placed c x (d ∷ cs) h = told (is_lt (cmp c d)) h (in_placed c x cs)
  where
    told : (b : Bool) → IsAmong x (cond b (c ∷ d ∷ cs) (d ∷ placed cs c)) → (IsAmong x (placed cs c) → (x ≡ c) ⊎ IsAmong x cs) → (x ≡ c) ⊎ IsAmong x (d ∷ cs)
    told true h rest = among_cases x c (d ∷ cs) h
    told false h rest =
        elim (among_cases x d (placed cs c) h) [
          | inl is ↦ inr (subst (λ y. IsAmong y (d ∷ cs)) (sym is) (among_first d cs))
          | inr there ↦ elim (rest there) [ inl is ↦ inl is | inr other ↦ inr (among_rest x d cs other) ]
        ]

placed_new : (c : List ℕ) (cs : List (List ℕ)) → IsAmong c (placed cs c)
placed_new c [] = among_first c []
placed_new c (d ∷ cs) = told (is_lt (cmp c d)) (placed_new c cs)
  where
    told : (b : Bool) → IsAmong c (placed cs c) → IsAmong c (cond b (c ∷ d ∷ cs) (d ∷ placed cs c))
    told true rest = among_first c (d ∷ cs)
    told false rest = among_rest c d (placed cs c) rest

placed_kept : (c x : List ℕ) (cs : List (List ℕ)) → IsAmong x cs → IsAmong x (placed cs c)
placed_kept c x [] h = absurd (none_among x h)
placed_kept c x (d ∷ cs) h = told (is_lt (cmp c d)) (placed_kept c x cs)
  where
    told : (b : Bool) → (IsAmong x cs → IsAmong x (placed cs c)) → IsAmong x (cond b (c ∷ d ∷ cs) (d ∷ placed cs c))
    told true rest = among_rest x c (d ∷ cs) h
    told false rest =
        elim (among_cases x d cs h) [
          | inl is ↦ subst (λ y. IsAmong y (d ∷ placed cs c)) (sym is) (among_first d (placed cs c))
          | inr there ↦ among_rest x d (placed cs c) (rest there)
        ]

placed_rises : (c : List ℕ) (cs : List (List ℕ)) → Rises cs → list_any (bytes_eq c) cs ≡ false → Rises (placed cs c)
placed_rises c [] h f = (λ x there. absurd (none_among x there), tt)
placed_rises c (d ∷ cs) h f = told (is_lt (cmp c d)) refl (placed_rises c cs h.1)
  where
    told : (b : Bool) → is_lt (cmp c d) ≡ b → (list_any (bytes_eq c) cs ≡ false → Rises (placed cs c)) → Rises (cond b (c ∷ d ∷ cs) (d ∷ placed cs c))
    told true t rest =
        let less : cmp c d ≡ Less = lt_is (cmp c d) t in (
          λ x there. elim (among_cases x d cs there) [
            | inl is ↦ subst (λ y. cmp c y ≡ Less) (sym is) less
            | inr other ↦ nat_list_cmp_total.trans c d x less (h.0 x other)
          ],
          h,
        )
    told false t rest =
        let apart = or_neither (bytes_eq c d) (list_any (bytes_eq c) cs) f in (
          λ x there. elim (in_placed c x cs there) [
            | inl is ↦ subst (λ y. cmp d y ≡ Less) (sym is) (above c d t apart.0)
            | inr other ↦ h.0 x other
          ],
          rest apart.1,
        )

-- one put among them
in_among : (c x : List ℕ) (cs : List (List ℕ)) → IsAmong x (among cs c) → (x ≡ c) ⊎ IsAmong x cs
in_among c x cs h = told (list_any (bytes_eq c) cs) h
  where
    told : (b : Bool) → IsAmong x (cond b cs (placed cs c)) → (x ≡ c) ⊎ IsAmong x cs
    told true h = inr h
    told false h = in_placed c x cs h

among_new : (c : List ℕ) (cs : List (List ℕ)) → IsAmong c (among cs c)
among_new c cs = told (list_any (bytes_eq c) cs) refl
  where
    told : (b : Bool) → list_any (bytes_eq c) cs ≡ b → IsAmong c (cond b cs (placed cs c))
    told true t = t
    told false t = placed_new c cs

among_kept : (c x : List ℕ) (cs : List (List ℕ)) → IsAmong x cs → IsAmong x (among cs c)
among_kept c x cs h = told (list_any (bytes_eq c) cs)
  where
    told : (b : Bool) → IsAmong x (cond b cs (placed cs c))
    told true = h
    told false = placed_kept c x cs h

among_rises : (c : List ℕ) (cs : List (List ℕ)) → Rises cs → Rises (among cs c)
among_rises c cs h = told (list_any (bytes_eq c) cs) refl
  where
    told : (b : Bool) → list_any (bytes_eq c) cs ≡ b → Rises (cond b cs (placed cs c))
    told true t = h
    told false t = placed_rises c cs h t

-- and all of a list
pub fold_rises : (keys cs : List (List ℕ)) → Rises cs → Rises (fold among cs keys)
fold_rises [] cs h = h
fold_rises (key ∷ keys) cs h = fold_rises keys (among cs key) (among_rises key cs h)

fold_kept : (x : List ℕ) (keys cs : List (List ℕ)) → IsAmong x cs → IsAmong x (fold among cs keys)
fold_kept x [] cs h = h
fold_kept x (key ∷ keys) cs h = fold_kept x keys (among cs key) (among_kept key x cs h)

pub fold_has : (x : List ℕ) (keys cs : List (List ℕ)) → IsAmong x keys → IsAmong x (fold among cs keys)
fold_has x [] cs h = absurd (none_among x h)
fold_has x (key ∷ keys) cs h =
    elim (among_cases x key keys h) [
      | inl is ↦ fold_kept x keys (among cs key) (subst (λ y. IsAmong y (among cs key)) (sym is) (among_new key cs))
      | inr there ↦ fold_has x keys (among cs key) there
    ]

in_fold : (x : List ℕ) (keys cs : List (List ℕ)) → IsAmong x (fold among cs keys) → IsAmong x keys ⊎ IsAmong x cs
in_fold x [] cs h = inr h
in_fold x (key ∷ keys) cs h =
    elim (in_fold x keys (among cs key) h) [
      | inl there ↦ inl (among_rest x key keys there)
      | inr before ↦ elim (in_among key x cs before) [
        | inl is ↦ inl (subst (λ y. IsAmong y (key ∷ keys)) (sym is) (among_first key keys))
        | inr other ↦ inr other
      ]
    ]

pub fold_only : (x : List ℕ) (keys : List (List ℕ)) → IsAmong x (fold among [] keys) → IsAmong x keys
fold_only x keys h = elim (in_fold x keys [] h) [ inl there ↦ there | inr none ↦ absurd (none_among x none) ]

-- two that rise, with the same members, are the same
heads : (x y : List ℕ) (xs ys : List (List ℕ)) → Rises (x ∷ xs) → Rises (y ∷ ys) → IsAmong x (y ∷ ys) → IsAmong y (x ∷ xs) → x ≡ y
heads x y xs ys p q there back =
    elim (among_cases x y ys there) [
      | inl is ↦ is
      | inr later ↦ elim (among_cases y x xs back) [
        | inl is ↦ sym is
        | inr after ↦ absurd (never_below x (nat_list_cmp_total.trans x y x (p.0 y after) (q.0 x later)))
      ]
    ]

rest_among : (x y z : List ℕ) (xs ys : List (List ℕ)) → Rises (x ∷ xs) → x ≡ y → IsAmong z xs → IsAmong z (y ∷ ys) → IsAmong z ys
rest_among x y z xs ys p same h there =
    elim (among_cases z y ys there) [
      | inl is ↦ absurd (never_below x (subst (λ w. cmp x w ≡ Less) (is ∙ sym same) (p.0 z h)))
      | inr later ↦ later
    ]

pub rising-same : (xs ys : List (List ℕ)) → Rises xs → Rises ys → ((z : List ℕ) → IsAmong z xs → IsAmong z ys) → ((z : List ℕ) → IsAmong z ys → IsAmong z xs) → xs ≡ ys
rising-same [] [] p q there back = refl
rising-same [] (y ∷ ys) p q there back = absurd (none_among y (back y (among_first y ys)))
rising-same (x ∷ xs) [] p q there back = absurd (none_among x (there x (among_first x xs)))
rising-same (x ∷ xs) (y ∷ ys) p q there back =
    let head : x ≡ y = heads x y xs ys p q (there x (among_first x xs)) (back y (among_first y ys)) in
    let tail : xs ≡ ys = rising-same xs ys p.1 q.1
    (λ z h. rest_among x y z xs ys p head h (there z (among_rest z x xs h)))
    (λ z h. rest_among y x z ys xs q (sym head) h (back z (among_rest z y ys h))) in
    λ i. head i ∷ tail i
