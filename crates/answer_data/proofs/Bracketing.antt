-- Texts one after another, in whichever brackets.
use Rattle.std.proofs.Common.{◌≡◌, ℕ, List, [], ◌∷◌, ◌++◌, refl, sym, ap, ◌∙◌, append_assoc, append-nil, decimal}
use Rattle.std.specs.Prelude.{codes}

pub data Parts : Type 0 where
  part : List ℕ → Parts
  both : Parts → Parts → Parts

-- in the brackets that they have
abbrev pub text : Parts → List ℕ
text (part x) = x
text (both p q) = text p ++ text q

-- each before all that follow
abbrev pub onto : Parts → List ℕ → List ℕ
onto (part x) rest = x ++ rest
onto (both p q) rest = onto p (onto q rest)

-- more of them behind
abbrev pub row : Parts → List (List ℕ) → Parts
row p [] = p
row p (x ∷ xs) = row (both p (part x)) xs

pub text-onto : (p : Parts) (rest : List ℕ) → text p ++ rest ≡ onto p rest
text-onto (part x) rest = refl
text-onto (both p q) rest = append_assoc (text p) (text q) rest ∙ ap (λ t. text p ++ t) (text-onto q rest) ∙ text-onto p (onto q rest)

pub text-flat : (p : Parts) → text p ≡ onto p []
text-flat p = sym (append-nil (text p)) ∙ text-onto p []

-- the text of an answer, by the parts before its line's number and those behind it
pub whole : (ahead behind : Parts) (line : ℕ) (before after : List ℕ) → before ≡ text ahead → after ≡ text behind
    → codes "{" ++ before ++ codes "\"line\":" ++ decimal line ++ after ++ codes "}\n" ≡ (codes "{" ++ onto ahead (codes "\"line\":" ++ (decimal line ++ onto behind (codes "}")))) ++ 10 ∷ []
whole ahead behind line before after first last =
    let all = both (both (both (both (part (codes "{")) ahead) (part (codes "\"line\":"))) (part (decimal line))) behind in
    ap (λ t. codes "{" ++ t ++ codes "\"line\":" ++ decimal line ++ after ++ codes "}\n") first
    ∙ ap (λ t. codes "{" ++ text ahead ++ codes "\"line\":" ++ decimal line ++ t ++ codes "}\n") last
    ∙ sym (append_assoc (text all) (codes "}") (10 ∷ []))
    ∙ ap (λ t. t ++ 10 ∷ []) (text-onto all (codes "}"))
