-- The arrays that a line opens have at most 32 sizes.
use Rattle.std.proofs.Common.{◌≡◌, ◌∙◌, ◌≤◌, ℕ, ◌+◌, Bool, true, false, cond, List, [], ◌∷◌, ◌++◌, length, take, drop, Some, refl, sym, ap, subst, arith, append_assoc, eq-eqb}
use Rattle.std.specs.Prelude.{◌==◌}
use Rattle.std.specs.List.{AllByRecursion}
use Rattle.std.proofs.lemmas.List.{take-append-drop, length-take-le, take-append-le}
use Rattle.std.proofs.Math.Seq.{take-length}
use Rattle.kv_face.specs.Store.{Contents}
use Rattle.stack_driver.specs.References.{Reference}
use Rattle.history.specs.declared.array.ArrayInfo.{ArrayInfo}
use Rattle.history.specs.declared.array.Home.{Home}
use Rattle.history.specs.declared.array.Home.TheVariants.{Zarr, N5, Zarr3, Local}
use Rattle.history.specs.declared.event.Event.{Event}
use Rattle.history.specs.Arrays.{Known, known_after}
use Rattle.history.specs.History.{History}
use Rattle.history.specs.Legal.{IsLegal, IsAsKept}
use Rattle.history.specs.Lines.{SpecLeaf}
use Rattle.history.specs.OpenRows.{new_ref, AreOpened, no_leaf, known_leaf, new_leaf, given_leaf}
use Rattle.history.specs.Own.{Numbered, own_events, opened_event}
use Rattle.history.proofs.Laws.{known_after-more, known_good, length-more, legal_take, opened_as}
use Rattle.history.proofs.Openings.{known_there}
use Rattle.history.proofs.StepsKnown.{IsEventOf}
use Rattle.output_laws.proofs.ViewRanks.{IsRankRef}

kept_few : (info : ArrayInfo) (home : Home) → IsAsKept info home → length info.shape ≤ 32
kept_few info (Zarr mount path meta) is = subst (λ (s : List ℕ). length s ≤ 32) (sym is.shape) is.valid.shape.rank
kept_few info (N5 mount path meta) is = subst (λ (s : List ℕ). length s ≤ 32) (sym is.shape) is.valid.dimensions.rank
kept_few info (Zarr3 mount path meta) is = subst (λ (s : List ℕ). length s ≤ 32) (sym is.shape) is.valid.shape.rank
kept_few info (Local start) is = subst (λ (s : List ℕ). length s ≤ 32) (sym is.shape) is.valid.rank

-- an array of a legal history has at most 32 sizes
known_few : (start : Contents) (events : History) (a : ℕ) (k : Known) → IsLegal start events → known_after events a ≡ Some k → length k.shape ≤ 32
known_few start events a k legal is =
    let good = known_good start a events legal k is in
    let few = kept_few k.info k.info.home good.kept in
    let same = good.rank in
    omega (arith, few, same)

take_front : (xs ys : History) → take (length xs) (xs ++ ys) ≡ xs
take_front xs ys = take-append-le (length xs) xs ys (omega arith) ∙ take-length xs

take_more : (before : History) (e : Event) (es : History) → take (length before + 1) (before ++ e ∷ es) ≡ take (length before) (before ++ e ∷ es) ++ e ∷ []
take_more before e es =
    let front : take (length before + 1) (before ++ e ∷ es) ≡ before ++ e ∷ [] =
    subst (λ n. take n (before ++ e ∷ es) ≡ before ++ e ∷ []) (length-more before e) (ap (take (length (before ++ e ∷ []))) (sym (append_assoc before (e ∷ []) es)) ∙ take_front (before ++ e ∷ []) es) in
    front ∙ ap (λ h. h ++ e ∷ []) (sym (take_front before (e ∷ es)))

head_event : (owner n : ℕ) (events : History) (b : Bool) (e : Event) (es : History) → IsEventOf events (record { number = n; event = e }) → AllByRecursion (IsEventOf events) (own_events owner (n + 1) es)
    → AllByRecursion (IsEventOf events) (cond b (record { number = n; event = e } ∷ own_events owner (n + 1) es) (own_events owner (n + 1) es))
head_event owner n events true e es first rest = (first, rest)
head_event owner n events false e es first rest = rest

events_from : (owner : ℕ) (before es : History) → AllByRecursion (IsEventOf (before ++ es)) (own_events owner (length before + 1) es)
events_from owner before [] = tt
events_from owner before (e ∷ es) =
    head_event owner (length before + 1) (before ++ e ∷ es) (e.owner == owner) e es (length before, refl, take_more before e es)
    (subst (λ h. AllByRecursion (IsEventOf h) (own_events owner (length before + 1 + 1) es)) (append_assoc before (e ∷ []) es)
    (subst (λ n. AllByRecursion (IsEventOf ((before ++ e ∷ []) ++ es)) (own_events owner (n + 1) es)) (length-more before e) (events_from owner (before ++ e ∷ []) es)))

-- a session's events behind a moment stand in the history
pub own_are : (owner seen : ℕ) (events : History) → seen ≤ length events → AllByRecursion (IsEventOf events) (own_events owner (seen + 1) (drop seen events))
own_are owner seen events within =
    subst (λ h. AllByRecursion (IsEventOf h) (own_events owner (seen + 1) (drop seen events))) (take-append-drop seen events)
    (subst (λ n. AllByRecursion (IsEventOf (take seen events ++ drop seen events)) (own_events owner (n + 1) (drop seen events))) (length-take-le seen events within) (events_from owner (take seen events) (drop seen events)))

-- an array whose opening stands in a history is there behind it
pub new_there : (events : History) (owner at : ℕ) (info : ArrayInfo) (stands : IsEventOf events (record { number = at + 1; event = opened_event owner info })) → known_after (take (stands.0 + 1) events) info.number ≡ Some (opened_as (take stands.0 events) info)
new_there events owner at info stands =
    let n : ℕ = stands.0 in
    ap (λ h. known_after h info.number) stands.2 ∙ known_after-more (take n events) (opened_event owner info) info.number
    ∙ ap (λ t. cond t (Some (opened_as (take n events) info)) (known_after (take n events) info.number)) (eq-eqb info.number info.number refl)

-- an array whose opening stands in a legal history
new_few : (start : Contents) (events : History) (owner at : ℕ) (info : ArrayInfo) → IsLegal start events → IsEventOf events (record { number = at + 1; event = opened_event owner info }) → IsRankRef (new_ref (take at events) info)
new_few start events owner at info legal stands =
    let n : ℕ = stands.0 in
    known_few start (take (n + 1) events) info.number (opened_as (take n events) info) (legal_take start events (n + 1) legal) (new_there events owner at info stands)

-- the arrays of leaves that were opened
pub opened_few : {start : Contents} {owner : ℕ} {events : History} {seen : ℕ} {leaves : List SpecLeaf} {refs : List Reference} {own : List Numbered} {now : ℕ} {rest : List SpecLeaf} → IsLegal start events → AreOpened start owner events seen leaves refs own now rest
    → AllByRecursion (IsEventOf events) own → AllByRecursion IsRankRef refs
opened_few legal no_leaf stand = tt
opened_few {start = start} {events = events} legal (known_leaf {leaf = leaf} at k low high outcome more) stand =
    let known = known_there start (take at events) leaf outcome.stored k (legal_take start events at legal) (sym outcome.same) in
    (known_few start (take at events) k.info.number k (legal_take start events at legal) known, opened_few legal more stand)
opened_few {start = start} {owner = owner} {events = events} legal (new_leaf at meta low high new more) stand = (new_few start events owner at _ legal stand.0, opened_few legal more stand.1)
opened_few {start = start} {owner = owner} {events = events} legal (given_leaf at low high more) stand = (new_few start events owner at _ legal stand.0, opened_few legal more stand.1)
