-- References of views that a session has, in the history that it sees next.
use Rattle.std.proofs.Common.{◌≡◌, ◌∙◌, ℕ, zero, suc, ◌<◌, ◌≤◌, ◌-◌, ◌^◌, true, false, List, [], ◌∷◌, length, take, get_or, Some, sym, ap, subst, arith, inl, inr, ◌⊎◌}
use Rattle.std.specs.FinMap as finmap
use Rattle.std.specs.List.{AllByRecursion}
use Rattle.std.proofs.lemmas.List.{take-map}
use Rattle.cells.specs.Shapes.{IsShape}
use Rattle.cells.proofs.Laws.{true_or_false}
use Rattle.history.specs.declared.array.ArrayInfo.{ArrayInfo}
use Rattle.history.specs.Arrays.{Known, known_after, is_local, ref_of, chunk_shape}
use Rattle.history.specs.History.{History}
use Rattle.history.specs.Legal.{IsLegal}
use Rattle.history.specs.Refs.{IsKnownRef}
use Rattle.history.proofs.Laws.{known_good, known_still, legal_take, local_shape, known_sizes}
use Rattle.state_resizes.specs.Outline.{outline, outlined_event}
use Rattle.state_resizes.proofs.Laws.{known-outline, good_in}
use Rattle.stack_driver.specs.References.{Reference, IsReference}
use Rattle.stack_driver.specs.Renewed.{IsNewShape, reshaped}
use Rattle.state_resizes.specs.Conditions.{IsAsked}

-- the array that a view names is there, with a shape of its rank, and with its own where the run holds it
pub record IsThere (events : History) (r : Reference) : Type 0 where
  pub array : Known
  pub known : known_after events r.number ≡ Some array
  pub local : is_local array.info.home ≡ r.local
  pub rank : length array.shape ≡ length r.shape
  pub opened : length r.shape ≡ length array.info.shape
  pub same : r.local ≡ true → array.shape ≡ r.shape
  pub sizes : r.local ≡ false → AllByRecursion (λ s. s ≤ 2 ^ 62 - 2) array.shape
  pub named : reshaped array.shape r ≡ ref_of array

-- an array of some of the events is one of all
still_there : (events : History) (a seen : ℕ) (k : Known) → IsLegal finmap.empty (outline events) → known_after (take seen (outline events)) a ≡ Some k → (l : Known) × (known_after events a ≡ Some l) × (l.info ≡ k.info)
still_there events a seen k legal early =
    let still = known_still finmap.empty (outline events) a seen k legal early in
    (still.0, sym (known-outline a events) ∙ still.1, still.2)

-- it is, in each history whose arrays were opened as a history may
pub ref_there : (events : History) (r : Reference) → IsLegal finmap.empty (outline events) → IsKnownRef events r → IsThere events r
ref_there events r legal ref =
    let early : known_after (take ref.seen (outline events)) r.number ≡ Some ref.array = ap (λ h. known_after h r.number) (take-map outlined_event ref.seen events) ∙ known-outline r.number (take ref.seen events) ∙ ref.known in
    let still = still_there events r.number ref.seen ref.array legal early in
    let now = still.0 in
    let front = legal_take finmap.empty (outline events) ref.seen legal in
    let good = good_in events legal r.number now still.1 in
    let then = known_good finmap.empty r.number (take ref.seen (outline events)) front ref.array early in
    let named_local : r.local ≡ is_local ref.array.info.home = ap (λ (x : Reference). x.local) ref.same in
    let named_shape : r.shape ≡ ref.array.shape = ap (λ (x : Reference). x.shape) ref.same in
    let local : is_local now.info.home ≡ r.local = ap (λ (i : ArrayInfo). is_local i.home) still.2 ∙ sym named_local in
    let ranks : length ref.array.shape ≡ length now.info.shape = then.rank ∙ sym (ap (λ (i : ArrayInfo). length i.shape) still.2) in
    record {
      array = now;
      known = still.1;
      local = local;
      rank = good.rank ∙ sym ranks ∙ sym (ap length named_shape);
      opened = ap length named_shape ∙ ranks;
      same = λ is.
          let home : is_local now.info.home ≡ true = local ∙ is in
          local_shape finmap.empty r.number (outline events) legal now (known-outline r.number events ∙ still.1) home ∙ ap (λ (i : ArrayInfo). i.shape) still.2
          ∙ sym (local_shape finmap.empty r.number (take ref.seen (outline events)) front ref.array early (sym named_local ∙ is)) ∙ sym named_shape;
      sizes = λ is. known_sizes finmap.empty r.number (outline events) legal now (known-outline r.number events ∙ still.1) (local ∙ is);
      named = ap (reshaped now.shape) ref.same ∙ ap (λ (i : ArrayInfo). record { number = i.number; dtype = i.dtype; shape = now.shape; chunk = chunk_shape i; local = is_local i.home }) (sym still.2);
    }

at_each : (most : ℕ) (shape : List ℕ) → AllByRecursion (λ s. s ≤ most) shape → (k : ℕ) → k < length shape → get_or shape k 0 ≤ most
at_each most [] all k less = absurd (omega (arith, less))
at_each most (s ∷ shape) all zero less = all.0
at_each most (s ∷ shape) all (suc k) less = at_each most shape all.1 k (omega (arith, less))

-- so a view of it may take its present shape
pub new_shape : (events : History) (r : Reference) → IsReference r → (there : IsThere events r) → IsNewShape r there.array.shape
new_shape events r rules there = record { sizes = by (true_or_false r.local); ranks = there.rank; same = λ is. there.same (search (is)) }
  where
    by : (r.local ≡ true) ⊎ (r.local ≡ false) → IsShape there.array.shape
    by (inl is) = subst IsShape (sym (there.same is)) rules.shape
    by (inr is) = record { rank = let small = rules.shape.rank in let rank = there.rank in omega (arith, small, rank); sizes = at_each (2 ^ 62 - 2) there.array.shape (there.sizes is) }

all_sizes : (most : ℕ) (shape : List ℕ) → ((k : ℕ) → k < length shape → get_or shape k 0 ≤ most) → AllByRecursion (λ s. s ≤ most) shape
all_sizes most [] each = tt
all_sizes most (s ∷ shape) each = (each 0 (omega arith), all_sizes most shape (λ k less. each (suc k) (omega (arith, less))))

-- and a stored one may be asked to take a shape of its rank
pub asked_then : (events : History) (r : Reference) (shape : List ℕ) → IsLegal finmap.empty (outline events) → IsKnownRef events r → r.local ≡ false → length shape ≡ length r.shape → IsShape shape → IsAsked events r.number shape
asked_then events r shape legal ref is rank rules =
    let there = ref_there events r legal ref in
    record { array = there.array; known = there.known; may = record { stored = there.local ∙ is; rank = rank ∙ there.opened; sizes = all_sizes (2 ^ 62 - 2) shape rules.sizes } }
