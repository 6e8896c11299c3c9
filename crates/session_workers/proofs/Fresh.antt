-- Sessions before their first line.
use Rattle.std.proofs.Common.{◌≡◌, ◌∙◌, ℕ, ◌<◌, List, [], ◌∷◌, ◌++◌, length, get_or, refl, sym, ap, subst, arith}
use Rattle.history.specs.declared.event.Event.{Event}
use Rattle.session_runs.specs.Turns.{IsRested}
use Rattle.state_laws.specs.Agreement.{Opening}
use Rattle.turn_book.specs.Passes.{BookView, PassView, new_pass, AreNew}

new_rested : (book : BookView Opening) (k : ℕ) → IsRested book (new_pass {E = Event} book k)
new_rested book k = record { idle = ((refl, refl), refl); own = refl; past = record { outline = tt; legal = λ start told. tt } }

-- a new pass rests
pub rested : (book : BookView Opening) (p : PassView Event Opening) (k : ℕ) → p ≡ new_pass book k → IsRested book p
rested book p k is = subst (IsRested book) (sym is) (new_rested book k)

-- and has seen nothing
pub unseen : (book : BookView Opening) (p : PassView Event Opening) (k : ℕ) → p ≡ new_pass book k → p.seen ≡ []
unseen book p k is = ap (λ (q : PassView Event Opening). q.seen) is

pub numbered : (book : BookView Opening) (p : PassView Event Opening) (k : ℕ) → p ≡ new_pass book k → p.number ≡ k
numbered book p k is = ap (λ (q : PassView Event Opening). q.number) is

at_middle : {A : Type 0} (front rest : List A) (x d : A) → get_or (front ++ x ∷ rest) (length front) d ≡ x
at_middle [] rest x d = refl
at_middle (y ∷ front) rest x d = at_middle front rest x d

below_all : {A : Type 0} (front rest : List A) (x : A) → length front < length (front ++ x ∷ rest)
below_all [] rest x = omega arith
below_all (y ∷ front) rest x = let less = below_all front rest x in omega (arith, less)

-- the pass behind so many is the one of their number
pub new_at : (book : BookView Opening) (passes front rest : List (PassView Event Opening)) (p : PassView Event Opening) → passes ≡ front ++ p ∷ rest → book.passes ≡ length passes → AreNew book passes
    → (p ≡ new_pass book (length front)) × (length front < book.passes)
new_at book passes front rest p parts count new =
    let low : length front < book.passes = subst (λ n. length front < n) (sym count) (subst (λ ps. length front < length ps) (sym parts) (below_all front rest p)) in
    (sym (ap (λ ps. get_or ps (length front) p) parts ∙ at_middle front rest p p) ∙ new (length front) p low, low)
