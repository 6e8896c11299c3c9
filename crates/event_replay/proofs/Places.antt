-- What stands at a place of a list.
use Rattle.std.proofs.Common.{◌≡◌, ◌∙◌, ◌<◌, ℕ, zero, suc, ◌+◌, List, [], ◌∷◌, ◌++◌, length, drop, get_or, refl, sym, ap, arith}
use Rattle.std.specs.Prelude.{slice_index}

pub value_at : (xs : List ℕ) (k x : ℕ) (rest : List ℕ) → drop k xs ≡ x ∷ rest → slice_index xs k ≡ x
value_at [] zero x rest is = absurd (let no_such : ⊥ = cc in no_such)
value_at [] (suc k) x rest is = absurd (let no_such : ⊥ = cc in no_such)
value_at (y ∷ xs) zero x rest is = ap (λ (zs : List ℕ). get_or zs 0 0) is
value_at (y ∷ xs) (suc k) x rest is = value_at xs k x rest is

pub rest_at : (xs : List ℕ) (k x : ℕ) (rest : List ℕ) → drop k xs ≡ x ∷ rest → drop (k + 1) xs ≡ rest
rest_at [] zero x rest is = absurd (let no_such : ⊥ = cc in no_such)
rest_at [] (suc k) x rest is = absurd (let no_such : ⊥ = cc in no_such)
rest_at (y ∷ xs) zero x rest is = ap (λ (zs : List ℕ). drop 1 zs) is
rest_at (y ∷ xs) (suc k) x rest is = let z : suc k + 1 ≡ suc (k + 1) = omega arith in ap (λ n. drop n (y ∷ xs)) z ∙ rest_at xs k x rest is

pub drop_step : {X : Type 0} (xs : List X) (i : ℕ) (d : X) → i < length xs → drop i xs ≡ get_or xs i d ∷ drop (i + 1) xs
drop_step [] i d low = absurd (omega (arith, low))
drop_step (x ∷ xs) zero d low = refl
drop_step (x ∷ xs) (suc i) d low = let z : suc i + 1 ≡ suc (i + 1) = omega arith in drop_step xs i d (omega (arith, low)) ∙ ap (λ n. get_or xs i d ∷ drop n (x ∷ xs)) (sym z)

pub none_left : {X : Type 0} (xs : List X) → length xs ≡ 0 → xs ≡ []
none_left [] none = refl
none_left (x ∷ xs) none = absurd (omega (arith, none))

-- what holds at each place of a list, and of one element more, holds at each place of the longer one
pub more_at : {X : Type 0} (P : ℕ → X → Type 0) (xs : List X) (x : X) → ((j : ℕ) (e : X) → j < length xs → P j (get_or xs j e)) → P (length xs) x → (j : ℕ) (e : X) → j < length xs + 1 → P j (get_or (xs ++ x ∷ []) j e)
more_at P [] x all last zero e low = last
more_at P [] x all last (suc j) e low = absurd (omega (arith, low))
more_at P (y ∷ xs) x all last zero e low = all zero e (omega arith)
more_at P (y ∷ xs) x all last (suc j) e low = more_at (λ n. P (suc n)) xs x (λ i f less. all (suc i) f (omega (arith, less))) last j e (omega (arith, low))
