-- Views of many names, and what refuses a join.
use Rattle.std.proofs.Common.{◌≡◌, ◌≢◌, ◌∙◌, ℕ, ◌+◌, ◌<◌, ◌≤◌, List, [], ◌∷◌, ◌++◌, length, get_or, drop, Option, Some, None, Result, Ok, Err, refl, sym, ap, subst, append_assoc, append-nil}
use Rattle.std.specs.Prelude.{IfOk}
use Rattle.std.specs.List.{AllByRecursion}
use Rattle.std.proofs.lemmas.List.{drop_more, drop_all}
use Rattle.line_meanings.specs.declared.Body.{Body}
use Rattle.line_meanings.specs.declared.Body.TheVariants as body
use Rattle.history.specs.Acts.{Asked, named, all_named, with_join}
use Rattle.history.specs.Answers as old
use Rattle.history.specs.Answers.{Text}
use Rattle.history.specs.Sessions.{Names}
use Rattle.layer_join.specs.declared.error.JoinError.{JoinError}
use Rattle.layer_join.specs.declared.error.JoinError.TheVariants as join
use Rattle.line_meanings.specs.Bodies.{body_of}
use Rattle.line_meanings.specs.Joins.{by_join, join_cause_of}
use Rattle.line_acts.specs.Refused.{IsAnswerTo}
use Rattle.line_acts.proofs.RefusalLaws.{refusal}
use Rattle.stack_driver.specs.Conditions.{IsView}
use Rattle.stack_driver.specs.declared.view.View.{View}

join_told : (e : JoinError) → e ≢ join.Memory → body.RefusedJoin e ≡ body_of (old.refused_join (join_cause_of e))
join_told join.Depth other = refl
join_told (join.Layers layer) other = refl
join_told join.Axis other = refl
join_told join.Rank other = refl
join_told (join.Unbounded layer) other = refl
join_told (join.Overflow layer) other = refl
join_told join.Memory other = absurd (other refl)

pub told_unjoined : (e : JoinError) → e ≢ join.Memory → (answer : Result View JoinError) (next : View → Asked) → (e ≢ join.Memory → answer ≡ Err e) → IsAnswerTo (with_join (by_join answer) next) (body.RefusedJoin e)
told_unjoined e other answer next is = refusal _ _ (old.refused_join (join_cause_of e)) (ap (λ r. with_join (by_join r) next) (is other)) (join_told e other)

named_same : (name : Text) (o : Option View) (f g : View → Asked) → ((v : View) → f v ≡ g v) → named name o f ≡ named name o g
named_same name None f g same = refl
named_same name (Some v) f g same = same v

all_same : (names : Names) (layers : List Text) (f g : List View → Asked) → ((vs : List View) → f vs ≡ g vs) → all_named names layers f ≡ all_named names layers g
all_same names [] f g same = same []
all_same names (n ∷ more) f g same =
    named_same n (names n) (λ v. all_named names more (λ vs. f (v ∷ vs))) (λ v. all_named names more (λ vs. g (v ∷ vs)))
    (λ v. all_same names more (λ vs. f (v ∷ vs)) (λ vs. g (v ∷ vs)) (λ vs. same (v ∷ vs)))

next_layer : (layers : List Text) (k : ℕ) (n : Text) → k < length layers → n ≡ get_or layers k n → drop k layers ≡ n ∷ drop (k + 1) layers
next_layer layers k n less is = drop_more layers k n less ∙ ap (λ m. m ∷ drop (k + 1) layers) (sym is)

-- one name further
pub named_more : (names : Names) (layers : List Text) (k : ℕ) (n : Text) (v : View) (old new : List View) → k < length layers → n ≡ get_or layers k n → names n ≡ Some v → new ≡ old ++ v ∷ []
    → (next : List View → Asked) → all_named names (drop k layers) (λ vs. next (old ++ vs)) ≡ all_named names (drop (k + 1) layers) (λ vs. next (new ++ vs))
named_more names layers k n v old new less is has pushed next =
    ap (λ (l : List Text). all_named names l (λ vs. next (old ++ vs))) (next_layer layers k n less is)
    ∙ ap (λ (o : Option View). named n o (λ view. all_named names (drop (k + 1) layers) (λ views. next (old ++ view ∷ views)))) has
    ∙ all_same names (drop (k + 1) layers) (λ vs. next (old ++ v ∷ vs)) (λ vs. next (new ++ vs))
    (λ vs. ap next (sym (append_assoc old (v ∷ []) vs) ∙ ap (λ (l : List View). l ++ vs) (sym pushed)))

-- a name that is refused
pub refused_at : (names : Names) (layers : List Text) (k : ℕ) (n : Text) (b : Body) (old : List View) → k < length layers → n ≡ get_or layers k n → ((next : View → Asked) → IsAnswerTo (named n (names n) next) b)
    → (next : List View → Asked) → IsAnswerTo (all_named names (drop k layers) (λ vs. next (old ++ vs))) b
refused_at names layers k n b old less is told next =
    subst (λ (l : List Text). IsAnswerTo (all_named names l (λ vs. next (old ++ vs))) b) (sym (next_layer layers k n less is))
    (told (λ view. all_named names (drop (k + 1) layers) (λ views. next (old ++ view ∷ views))))

-- no name is left
pub named_all : (names : Names) (layers : List Text) (k : ℕ) (views : List View) (next : List View → Asked) → length layers ≤ k → all_named names (drop k layers) (λ vs. next (views ++ vs)) ≡ next views
named_all names layers k views next past = ap (λ (l : List Text). all_named names l (λ vs. next (views ++ vs))) (drop_all k layers past) ∙ ap next (append-nil views)

pub views_more : (old new : List View) (v : View) → new ≡ old ++ v ∷ [] → AllByRecursion IsView old → IsView v → AllByRecursion IsView new
views_more old new v pushed all one = subst (AllByRecursion IsView) (sym pushed) (by old all)
  where
    by : (xs : List View) → AllByRecursion IsView xs → AllByRecursion IsView (xs ++ v ∷ [])
    by [] done = (one, tt)
    by (x ∷ xs) done = (done.0, by xs done.1)

-- an answer that holds of what a line asks, through an equation of it
pub told_through : (one other : Asked) (b : Body) → one ≡ other → IsAnswerTo other b → IsAnswerTo one b
told_through one other b same told = subst (λ a. IsAnswerTo a b) (sym same) told

pub if_ok_map : {A : Type 0} (P Q : A → Type 0) (r : Result A Body) → ((a : A) → P a → Q a) → IfOk r P → IfOk r Q
if_ok_map P Q (Ok a) f p = f a p
if_ok_map P Q (Err b) f p = tt
