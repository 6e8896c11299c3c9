-- A session's events by their numbers: each is one of the history, and those behind a line follow those before it.
use Rattle.std.proofs.Common.{◌≡◌, ℕ, ◌+◌, ◌<◌, ◌≤◌, List, [], ◌∷◌, ◌++◌, length, take, take-take, drop, Bool, true, false, cond, refl, sym, ap, subst, ◌∙◌, append_assoc, length-append, length-drop, arith, eq-eqb}
use Rattle.std.specs.Prelude.{◌==◌, filter}
use Rattle.std.specs.List.{AllByRecursion}
use Rattle.std.proofs.lemmas.List.{take-append-drop, drop-append-le, length-take-le}
use Rattle.history.specs.declared.event.Kind.{Kind}
use Rattle.history.specs.declared.event.Event.{Event}
use Rattle.history.specs.History.{History}
use Rattle.history.specs.Answers.{Body}
use Rattle.history.specs.Legal.{opens}
use Rattle.history.specs.Own.{Numbered, numbers_of, own_events}
use Rattle.history.specs.Steps.{is_memory}
use Rattle.serial_runs.specs.Numbered.{IsEvent, is_commit_or_resize, is_fault, numbers_in, failed_in, opened_in}

-- an event that a line added is one of the history, under its number
abbrev pub IsEventOf : History → Numbered → Type 0
IsEventOf history o = IsEvent history o.number o.event

head_of : (owner n : ℕ) (history : History) (b : Bool) (e : Event) (es : History) → IsEvent history n e → AllByRecursion (IsEventOf history) (own_events owner (n + 1) es)
    → AllByRecursion (IsEventOf history) (cond b (record { number = n; event = e } ∷ own_events owner (n + 1) es) (own_events owner (n + 1) es))
head_of owner n history true e es first rest = (first, rest)
head_of owner n history false e es first rest = rest

own_between : (owner : ℕ) (front es back : History) → AllByRecursion (IsEventOf (front ++ (es ++ back))) (own_events owner (length front + 1) es)
own_between owner front [] back = tt
own_between owner front (e ∷ es) back =
    let size : length (front ++ e ∷ []) ≡ length front + 1 = length-append front (e ∷ []) in
    head_of owner (length front + 1) (front ++ (e ∷ es ++ back)) (e.owner == owner) e es (record { before = front; later = es ++ back; parts = refl; numbered = refl })
    (subst (λ h. AllByRecursion (IsEventOf h) (own_events owner (length front + 1 + 1) es)) (append_assoc front (e ∷ []) (es ++ back))
    (subst (λ n. AllByRecursion (IsEventOf ((front ++ e ∷ []) ++ (es ++ back))) (own_events owner (n + 1) es)) size (own_between owner (front ++ e ∷ []) es back)))

-- what a session adds between two moments
pub own_of_step : (owner : ℕ) (history : History) (a b : ℕ) → a ≤ b → b ≤ length history → AllByRecursion (IsEventOf history) (own_events owner (a + 1) (drop a (take b history)))
own_of_step owner history a b low high =
    let first : take a (take b history) ≡ take a history = take-take a b history low in
    let whole : take a history ++ (drop a (take b history) ++ drop b history) ≡ history =
    sym (append_assoc (take a history) (drop a (take b history)) (drop b history))
    ∙ ap (λ h. (h ++ drop a (take b history)) ++ drop b history) (sym first)
    ∙ ap (λ h. h ++ drop b history) (take-append-drop a (take b history))
    ∙ take-append-drop b history in
    let size : length (take a history) ≡ a = length-take-le a history (omega arith) in
    subst (λ h. AllByRecursion (IsEventOf h) (own_events owner (a + 1) (drop a (take b history)))) whole
    (subst (λ n. AllByRecursion (IsEventOf (take a history ++ (drop a (take b history) ++ drop b history))) (own_events owner (n + 1) (drop a (take b history)))) size
    (own_between owner (take a history) (drop a (take b history)) (drop b history)))

cond_append : (b : Bool) (o : Numbered) (xs ys zs : List Numbered) → zs ≡ xs ++ ys → cond b (o ∷ zs) zs ≡ cond b (o ∷ xs) xs ++ ys
cond_append true o xs ys zs e = ap (λ l. o ∷ l) e
cond_append false o xs ys zs e = e

own_append : (owner n : ℕ) (xs ys : History) → own_events owner n (xs ++ ys) ≡ own_events owner n xs ++ own_events owner (n + length xs) ys
own_append owner n [] ys = ap (λ k. own_events owner k ys) (omega arith)
own_append owner n (x ∷ xs) ys =
    let next : n + 1 + length xs ≡ n + length (x ∷ xs) = omega arith in
    cond_append (x.owner == owner) (record { number = n; event = x }) (own_events owner (n + 1) xs) (own_events owner (n + length (x ∷ xs)) ys) (own_events owner (n + 1) (xs ++ ys))
    (own_append owner (n + 1) xs ys ∙ ap (λ k. own_events owner (n + 1) xs ++ own_events owner k ys) next)

-- a session's events from one moment on are those up to another and those from there on
pub own_parts : (owner : ℕ) (history : History) (a b : ℕ) → a ≤ b → b ≤ length history → own_events owner (a + 1) (drop a history) ≡ own_events owner (a + 1) (drop a (take b history)) ++ own_events owner (b + 1) (drop b history)
own_parts owner history a b low high =
    let size : length (take b history) ≡ b = length-take-le b history high in
    let parts : drop a history ≡ drop a (take b history) ++ drop b history =
    ap (drop a) (sym (take-append-drop b history)) ∙ drop-append-le a (take b history) (drop b history) (omega (arith, size, low)) in
    let count : a + 1 + length (drop a (take b history)) ≡ b + 1 = omega (arith, size, low, length-drop a (take b history)) in
    ap (own_events owner (a + 1)) parts ∙ own_append owner (a + 1) (drop a (take b history)) (drop b history)
    ∙ ap (λ n. own_events owner (a + 1) (drop a (take b history)) ++ own_events owner n (drop b history)) count

-- the numbers of the events of some kinds
abbrev pub chosen_in : (Kind → Bool) → List Numbered → List ℕ
chosen_in chosen own = numbers_of (filter (λ (o : Numbered). chosen o.event.kind) own)

kept_append : (b : Bool) (o : Numbered) (xs ys zs : List Numbered) → numbers_of zs ≡ numbers_of xs ++ numbers_of ys → numbers_of (cond b (o ∷ zs) zs) ≡ numbers_of (cond b (o ∷ xs) xs) ++ numbers_of ys
kept_append true o xs ys zs e = ap (λ l. o.number ∷ l) e
kept_append false o xs ys zs e = e

pub chosen_in-append : (chosen : Kind → Bool) (xs ys : List Numbered) → chosen_in chosen (xs ++ ys) ≡ chosen_in chosen xs ++ chosen_in chosen ys
chosen_in-append chosen [] ys = refl
chosen_in-append chosen (x ∷ xs) ys = kept_append (chosen x.event.kind) x (filter (λ (o : Numbered). chosen o.event.kind) xs) (filter (λ (o : Numbered). chosen o.event.kind) ys) (filter (λ (o : Numbered). chosen o.event.kind) (xs ++ ys)) (chosen_in-append chosen xs ys)

-- what an answer prints of the events that its line added: the numbers of the commits and resizes, of the failed store call, and of the
-- new arrays, unless it is want of memory
pub record ArePrinted (own : List Numbered) (answer : Body) : Type 0 where
  pub changes : chosen_in is_commit_or_resize own ≡ numbers_in answer
  pub faults : chosen_in is_fault own ≡ failed_in answer
  pub openings : is_memory answer ≡ false → chosen_in opens own ≡ opened_in answer
  pub whole : numbers_of own ≡ numbers_in answer ++ (chosen_in opens own ++ failed_in answer)

pub numbers-append : (xs ys : List Numbered) → numbers_of (xs ++ ys) ≡ numbers_of xs ++ numbers_of ys
numbers-append [] ys = refl
numbers-append (x ∷ xs) ys = ap (λ ns. x.number ∷ ns) (numbers-append xs ys)

own_head : (Q : Kind → Type 0) (b : Bool) (n : ℕ) (e : Event) (rest : List Numbered) → b ≡ true → AllByRecursion (λ (o : Numbered). Q o.event.kind) (cond b (record { number = n; event = e } ∷ rest) rest) → Q e.kind
own_head Q true n e rest same all = all.0
own_head Q false n e rest same all = absurd (cc)

own_tail : (Q : Kind → Type 0) (b : Bool) (n : ℕ) (e : Event) (rest : List Numbered) → AllByRecursion (λ (o : Numbered). Q o.event.kind) (cond b (record { number = n; event = e } ∷ rest) rest) → AllByRecursion (λ (o : Numbered). Q o.event.kind) rest
own_tail Q true n e rest all = all.1
own_tail Q false n e rest all = all

-- what holds of the events of each session holds of all
pub all_of_owned : (Q : Kind → Type 0) (count n : ℕ) (es : History) → AllByRecursion (λ (e : Event). e.owner < count) es → ((k : ℕ) → k < count → AllByRecursion (λ (o : Numbered). Q o.event.kind) (own_events k n es)) → AllByRecursion (λ (e : Event). Q e.kind) es
all_of_owned Q count n [] owned each = tt
all_of_owned Q count n (e ∷ es) owned each = (
  own_head Q (e.owner == e.owner) n e (own_events e.owner (n + 1) es) (eq-eqb e.owner e.owner refl) (each e.owner owned.0),
  all_of_owned Q count (n + 1) es owned.1 (λ k low. own_tail Q (e.owner == k) n e (own_events k (n + 1) es) (each k low)),
)
