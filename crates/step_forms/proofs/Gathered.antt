-- What was found so far, before what the rest gives.
use Rattle.std.proofs.Common.{◌≡◌, List, [], ◌++◌, Option, Some, None, option_map, refl, sym, ap, ◌∙◌, append_assoc, append-nil}

-- what was found, followed by what the rest gives, is the whole
abbrev pub Gathered : {B : Type 0} → List B → Option (List B) → Option (List B) → Type 0
Gathered done rest whole = option_map (λ ys. done ++ ys) rest ≡ whole

pub gathered_first : {B : Type 0} (o : Option (List B)) → Gathered [] o o
gathered_first None = refl
gathered_first (Some ys) = refl

pub gathered_more : {B : Type 0} (done found : List B) (rest whole : Option (List B)) → Gathered done (option_map (λ ys. found ++ ys) rest) whole → Gathered (done ++ found) rest whole
gathered_more done found None whole before = before
gathered_more done found (Some ys) whole before = ap Some (append_assoc done found ys) ∙ before

pub gathered_none : {B : Type 0} (done : List B) (whole : Option (List B)) → Gathered done None whole → None ≡ whole
gathered_none done whole before = before

pub gathered_all : {B : Type 0} (done : List B) (whole : Option (List B)) → Gathered done (Some []) whole → Some done ≡ whole
gathered_all done whole before = ap Some (sym (append-nil done)) ∙ before
