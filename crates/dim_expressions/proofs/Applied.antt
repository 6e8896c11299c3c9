-- Steps done so far, and those that are left.
use Rattle.std.proofs.Common.{◌≡◌, ◌∙◌, ℕ, ◌+◌, ◌<◌, ◌≤◌, List, [], ◌∷◌, ◌++◌, length, get_or, drop, take, refl, sym, ap, subst, Result, Ok, Err}
use Rattle.std.specs.Result.{IfOk}
use Rattle.std.proofs.lemmas.List.{drop_more, drop_all, take_more, take_all}
use Rattle.index_transform.specs.Transforms.{DomainAndMaps}
use Rattle.dim_expressions.specs.Applying.{IsAfter, IsAfterAll, after_step, answer_on, numbered, applied_from}
use Rattle.step_forms.specs.declared.act.Step.{Step}
use Rattle.dim_expressions.specs.declared.error.ApplyError.{ApplyError}

pub if_ok_more : {A B : Type 0} (r : Result A B) (P Q : A → Type 0) → ((x : A) → P x → Q x) → IfOk r P → IfOk r Q
if_ok_more (Ok x) P Q more p = more x p
if_ok_more (Err e) P Q more p = tt

-- a step that is done is the answer
pub after_told : (number : ℕ) (u : DomainAndMaps) (step : Step) (t : DomainAndMaps) → IsAfter u step t → after_step number u step ≡ Ok t
after_told number u step t is = ap (answer_on number u step) is.selected ∙ ap (numbered number) is.stepped.answer

abbrev more_steps : ℕ → List Step → Result DomainAndMaps ApplyError → Result DomainAndMaps ApplyError
more_steps number steps r = elim r [ Ok t ↦ applied_from (number + 1) t steps | Err e ↦ Err e ]

left_more : (steps : List Step) (k : ℕ) (u : DomainAndMaps) (d : Step) → k < length steps → applied_from k u (drop k steps) ≡ more_steps k (drop (k + 1) steps) (after_step k u (get_or steps k d))
left_more steps k u d less = ap (applied_from k u) (drop_more steps k d less)

pub applied_more : (steps : List Step) (k : ℕ) (u : DomainAndMaps) (d : Step) (t : DomainAndMaps) (whole : Result DomainAndMaps ApplyError) → k < length steps → IsAfter u (get_or steps k d) t
    → applied_from k u (drop k steps) ≡ whole → applied_from (k + 1) t (drop (k + 1) steps) ≡ whole
applied_more steps k u d t whole less is before =
    sym (left_more steps k u d less ∙ ap (more_steps k (drop (k + 1) steps)) (after_told k u (get_or steps k d) t is)) ∙ before

pub applied_failed : (steps : List Step) (k : ℕ) (u : DomainAndMaps) (d : Step) (e : ApplyError) (whole : Result DomainAndMaps ApplyError) → k < length steps → after_step k u (get_or steps k d) ≡ Err e
    → applied_from k u (drop k steps) ≡ whole → whole ≡ Err e
applied_failed steps k u d e whole less is before =
    sym before ∙ left_more steps k u d less ∙ ap (more_steps k (drop (k + 1) steps)) is

pub applied_all : (steps : List Step) (k : ℕ) (u : DomainAndMaps) (whole : Result DomainAndMaps ApplyError) → length steps ≤ k → applied_from k u (drop k steps) ≡ whole → whole ≡ Ok u
applied_all steps k u whole past before = sym before ∙ ap (applied_from k u) (drop_all k steps past)

one_more : (u v t : DomainAndMaps) (steps : List Step) (step : Step) → IsAfterAll u steps v → IsAfter v step t → IsAfterAll u (steps ++ step ∷ []) t
one_more u v t [] step done is = (t, subst (λ w. IsAfter w step t) (sym done) is, refl)
one_more u v t (first ∷ steps) step done is = (done.0, done.1, one_more done.0 v t steps step done.2 is)

pub done_more : (steps : List Step) (k : ℕ) (u v : DomainAndMaps) (d : Step) (t : DomainAndMaps) → k < length steps → IsAfter v (get_or steps k d) t → IsAfterAll u (take k steps) v → IsAfterAll u (take (k + 1) steps) t
done_more steps k u v d t less is done =
    subst (λ ss. IsAfterAll u ss t) (sym (take_more steps k d less)) (one_more u v t (take k steps) (get_or steps k d) done is)

pub done_all : (steps : List Step) (k : ℕ) (u t : DomainAndMaps) → length steps ≤ k → IsAfterAll u (take k steps) t → IsAfterAll u steps t
done_all steps k u t past done = subst (λ ss. IsAfterAll u ss t) (take_all k steps past) done
