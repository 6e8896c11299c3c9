-- The numbers of a range, one after another.
use Rattle.std.proofs.Common.{◌≡◌, ◌≢◌, ◌<◌, ◌≤◌, ℕ, zero, suc, ◌+◌, add-one, Bool, true, false, List, [], ◌∷◌, ◌++◌, Option, Some, None, option_map, option_and_then, refl, sym, ap, ◌∙◌, arith, ℤ, pos, ◌+ℤ◌, ◌-ℤ◌, unsigned_abs, if◌then◌else◌}
use Rattle.std.proofs.lemmas.Int.{ints}
use Rattle.std.specs.List.{range_with_len}
use Rattle.json_forms.specs.Lists.{all_of}
use Rattle.step_forms.specs.Selection.{dim_numbered, is_before, first_before, all_before}
use Rattle.step_forms.proofs.Gathered.{Gathered, gathered_more, gathered_none, gathered_all}

-- how far a number is before stop; 0 where it isn't before it
abbrev pub reach : ℤ → ℤ → ℤ → ℕ
reach step stop x = if is_before step stop x then unsigned_abs (stop -ℤ x) else 0

pub reach_falls : (step stop x : ℤ) → step ≢ pos 0 → is_before step stop x ≡ true → reach step stop (x +ℤ step) < reach step stop x
reach_falls step stop x moves before = grind (arith, ints)

-- a number that is before stop has some way to go
reach_some : (step stop x : ℤ) → is_before step stop x ≡ true → 0 < reach step stop x
reach_some step stop x before = grind (arith, ints)

first_none : (n : ℕ) (step stop x : ℤ) → is_before step stop x ≡ false → first_before n step stop x ≡ []
first_none zero step stop x ended = refl
first_none (suc n) step stop x ended = ap (λ b. if b then x ∷ first_before n step stop (x +ℤ step) else []) ended

first_more : (n : ℕ) (step stop x : ℤ) → is_before step stop x ≡ true → first_before (suc n) step stop x ≡ x ∷ first_before n step stop (x +ℤ step)
first_more n step stop x before = ap (λ b. if b then x ∷ first_before n step stop (x +ℤ step) else []) before

-- a range of so many numbers or more has all of them
told_same : (n m : ℕ) (step stop x : ℤ) (b : Bool) → is_before step stop x ≡ b → step ≢ pos 0 → reach step stop x ≤ n → reach step stop x ≤ m
    → ((k j : ℕ) → suc k ≡ n → suc j ≡ m → reach step stop (x +ℤ step) ≤ k → reach step stop (x +ℤ step) ≤ j → first_before k step stop (x +ℤ step) ≡ first_before j step stop (x +ℤ step))
    → first_before n step stop x ≡ first_before m step stop x
told_same n m step stop x false ended moves some any rest = first_none n step stop x ended ∙ sym (first_none m step stop x ended)
told_same zero m step stop x true before moves some any rest = absurd (let far = reach_some step stop x before in omega arith)
told_same (suc n) zero step stop x true before moves some any rest = absurd (let far = reach_some step stop x before in omega arith)
told_same (suc n) (suc m) step stop x true before moves some any rest =
    let falls = reach_falls step stop x moves before in
    first_more n step stop x before ∙ ap (λ xs. x ∷ xs) (rest n m refl refl (omega arith) (omega arith)) ∙ sym (first_more m step stop x before)

first_same : (n m : ℕ) (step stop x : ℤ) → step ≢ pos 0 → reach step stop x ≤ n → reach step stop x ≤ m → first_before n step stop x ≡ first_before m step stop x
first_same zero m step stop x moves some any =
    told_same zero m step stop x (is_before step stop x) refl moves some any (λ k j e d one two. absurd (omega arith))
first_same (suc n) m step stop x moves some any =
    told_same (suc n) m step stop x (is_before step stop x) refl moves some any
    (λ k j e d one two. let f : k ≡ n = omega arith in ap (λ i. first_before i step stop (x +ℤ step)) f ∙ first_same n j step stop (x +ℤ step) moves (omega arith) two)

pub all_before_end : (step stop x : ℤ) → is_before step stop x ≡ false → all_before step stop x ≡ []
all_before_end step stop x ended = first_none (unsigned_abs (stop -ℤ x)) step stop x ended

reach_within : (step stop x : ℤ) → reach step stop x ≤ unsigned_abs (stop -ℤ x)
reach_within step stop x = grind (arith, ints)

told_more : (n : ℕ) (step stop x : ℤ) → step ≢ pos 0 → is_before step stop x ≡ true → unsigned_abs (stop -ℤ x) ≡ n
    → first_before n step stop x ≡ x ∷ all_before step stop (x +ℤ step)
told_more zero step stop x moves before e = absurd (let far = reach_some step stop x before in let near = reach_within step stop x in omega arith)
told_more (suc n) step stop x moves before e =
    let falls = reach_falls step stop x moves before in
    let near = reach_within step stop x in
    first_more n step stop x before ∙ ap (λ xs. x ∷ xs) (first_same n (unsigned_abs (stop -ℤ (x +ℤ step))) step stop (x +ℤ step) moves (omega arith) (reach_within step stop (x +ℤ step)))

pub all_before_more : (step stop x : ℤ) → step ≢ pos 0 → is_before step stop x ≡ true → all_before step stop x ≡ x ∷ all_before step stop (x +ℤ step)
all_before_more step stop x moves before = told_more (unsigned_abs (stop -ℤ x)) step stop x moves before refl

pub positions_more : (first n : ℕ) → range_with_len first (n + 1) ≡ range_with_len first n ++ (first + n) ∷ []
positions_more first zero = ap (λ k. k ∷ []) (omega arith)
positions_more first (suc n) =
    let far : first + 1 + n ≡ first + suc n = omega arith in
    let next : range_with_len (first + 1) (suc n) ≡ range_with_len (first + 1) n ++ (first + 1 + n) ∷ [] =
    ap (range_with_len (first + 1)) (sym (add-one n)) ∙ positions_more (first + 1) n in
    ap (range_with_len first) (add-one (suc n)) ∙ ap (λ ks. first ∷ ks) (next ∙ ap (λ k. range_with_len (first + 1) n ++ k ∷ []) far)

-- Dimensions at the numbers of a range: those so far, before what the rest gives.

at_more : (rank : ℕ) (step stop x : ℤ) → step ≢ pos 0 → is_before step stop x ≡ true
    → all_of (dim_numbered rank) (all_before step stop x) ≡ option_and_then (λ dim. option_map (λ dims. dim ∷ dims) (all_of (dim_numbered rank) (all_before step stop (x +ℤ step)))) (dim_numbered rank x)
at_more rank step stop x moves before = ap (all_of (dim_numbered rank)) (all_before_more step stop x moves before)

pub range_found : (rank : ℕ) (step stop x : ℤ) (dim : ℕ) (done : List ℕ) (whole : Option (List ℕ)) → step ≢ pos 0 → is_before step stop x ≡ true → dim_numbered rank x ≡ Some dim
    → Gathered done (all_of (dim_numbered rank) (all_before step stop x)) whole → Gathered (done ++ dim ∷ []) (all_of (dim_numbered rank) (all_before step stop (x +ℤ step))) whole
range_found rank step stop x dim done whole moves before is found =
    gathered_more done (dim ∷ []) (all_of (dim_numbered rank) (all_before step stop (x +ℤ step))) whole
    (sym (ap (option_map (λ ys. done ++ ys)) (at_more rank step stop x moves before ∙ ap (option_and_then (λ d. option_map (λ dims. d ∷ dims) (all_of (dim_numbered rank) (all_before step stop (x +ℤ step))))) is)) ∙ found)

pub range_unknown : (rank : ℕ) (step stop x : ℤ) (done : List ℕ) (whole : Option (List ℕ)) → step ≢ pos 0 → is_before step stop x ≡ true → dim_numbered rank x ≡ None
    → Gathered done (all_of (dim_numbered rank) (all_before step stop x)) whole → None ≡ whole
range_unknown rank step stop x done whole moves before is found =
    gathered_none done whole
    (sym (ap (option_map (λ ys. done ++ ys)) (at_more rank step stop x moves before ∙ ap (option_and_then (λ d. option_map (λ dims. d ∷ dims) (all_of (dim_numbered rank) (all_before step stop (x +ℤ step))))) is)) ∙ found)

pub range_ended : (rank : ℕ) (step stop x : ℤ) (done : List ℕ) (whole : Option (List ℕ)) → is_before step stop x ≡ false
    → Gathered done (all_of (dim_numbered rank) (all_before step stop x)) whole → Some done ≡ whole
range_ended rank step stop x done whole ended found =
    gathered_all done whole (sym (ap (λ xs. option_map (λ ys. done ++ ys) (all_of (dim_numbered rank) xs)) (all_before_end step stop x ended)) ∙ found)
