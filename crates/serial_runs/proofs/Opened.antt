-- What a line opened over the events that it has seen it opened over the whole history, and it adds openings alone.
use Rattle.std.proofs.Common.{◌≡◌, ℕ, ◌+◌, ◌≤◌, List, [], ◌∷◌, ◌++◌, append-nil, ◌∙◌, length, take, take-take, refl, sym, ap, subst, length-take, arith}
use Rattle.kv_face.specs.Store.{Contents}
use Rattle.stack_driver.specs.References.{Reference}
use Rattle.history.specs.History.{History}
use Rattle.history.specs.Lines.{SpecLeaf, given, stored}
use Rattle.history.specs.OpenRows.{next_array, given_info, new_ref, IsNew, AreOpened, no_leaf, known_leaf, new_leaf, given_leaf}
use Rattle.history.specs.Outcomes.{IsOutcome, there, new_info}
use Rattle.history.specs.Legal.{opens}
use Rattle.history.specs.Own.{Numbered, numbers_of, opened_event}
use Rattle.serial_runs.specs.Numbered.{is_commit_or_resize, is_fault}
use Rattle.serial_runs.proofs.Numbers.{chosen_in}

within_take : (at m : ℕ) (history : History) → at ≤ length (take m history) → at ≤ length history
within_take at m history low = omega (arith, low, length-take m history)

pub same_take : (at m : ℕ) (history : History) → at ≤ length (take m history) → take at (take m history) ≡ take at history
same_take at m history low = take-take at m history (omega (arith, low, length-take m history))

pub opened_later : (history : History) (m : ℕ) {start : Contents} {owner : ℕ} {seen : ℕ} {leaves : List SpecLeaf} {refs : List Reference} {own : List Numbered} {now : ℕ} {rest : List SpecLeaf} (low : ℕ) → low ≤ seen → AreOpened start owner (take m history) seen leaves refs own now rest
    → (end : ℕ) × AreOpened start owner history low leaves refs own end rest
opened_later history m low before no_leaf = (low, no_leaf)
opened_later history m {start = start} low before (known_leaf {leaf = leaf} at k older within outcome more) =
    let tail = opened_later history m at (omega arith) more in
    let outcome_here = subst (λ h. IsOutcome start h leaf (there k)) (same_take at m history within) outcome in
    (tail.0, known_leaf at k (omega (arith, before, older)) (within_take at m history within) outcome_here tail.1)
opened_later history m {start = start} {owner = owner} low before (new_leaf {node = node} {leaf = leaf} {leaves = leaves} {rest = rest} {refs = refs} {own = own} at meta older within new more) =
    let tail = opened_later history m (at + 1) (omega arith) more in
    let same = same_take at m history within in (
      tail.0,
      subst
          (λ h. AreOpened start owner history low (stored node leaf ∷ leaves) (new_ref h (new_info (next_array h) leaf meta) ∷ refs) (record { number = at + 1; event = opened_event owner (new_info (next_array h) leaf meta) } ∷ own) tail.0 rest)
          (sym same) (new_leaf at meta (omega (arith, before, older)) (within_take at m history within) (subst (λ h. IsNew start h leaf meta) same new) tail.1),
    )
opened_later history m {start = start} {owner = owner} low before (given_leaf {numbers = numbers} {leaves = leaves} {rest = rest} {refs = refs} {own = own} at older within more) =
    let tail = opened_later history m (at + 1) (omega arith) more in (
      tail.0,
      subst
          (λ h. AreOpened start owner history low (given numbers ∷ leaves) (new_ref h (given_info (next_array h) numbers) ∷ refs) (record { number = at + 1; event = opened_event owner (given_info (next_array h) numbers) } ∷ own) tail.0 rest)
          (sym (same_take at m history within)) (given_leaf at (omega (arith, before, older)) (within_take at m history within) tail.1),
    )

pub opened_no_change : {start : Contents} {owner : ℕ} {events : History} {seen : ℕ} {leaves : List SpecLeaf} {refs : List Reference} {own : List Numbered} {now : ℕ} {rest : List SpecLeaf} → AreOpened start owner events seen leaves refs own now rest → chosen_in is_commit_or_resize own ≡ []
opened_no_change no_leaf = refl
opened_no_change (known_leaf at k older within outcome more) = opened_no_change more
opened_no_change (new_leaf at meta older within new more) = opened_no_change more
opened_no_change (given_leaf at older within more) = opened_no_change more

pub opened_no_fault : {start : Contents} {owner : ℕ} {events : History} {seen : ℕ} {leaves : List SpecLeaf} {refs : List Reference} {own : List Numbered} {now : ℕ} {rest : List SpecLeaf} → AreOpened start owner events seen leaves refs own now rest → chosen_in is_fault own ≡ []
opened_no_fault no_leaf = refl
opened_no_fault (known_leaf at k older within outcome more) = opened_no_fault more
opened_no_fault (new_leaf at meta older within new more) = opened_no_fault more
opened_no_fault (given_leaf at older within more) = opened_no_fault more

pub opened_all : {start : Contents} {owner : ℕ} {events : History} {seen : ℕ} {leaves : List SpecLeaf} {refs : List Reference} {own : List Numbered} {now : ℕ} {rest : List SpecLeaf} → AreOpened start owner events seen leaves refs own now rest → chosen_in opens own ≡ numbers_of own
opened_all no_leaf = refl
opened_all (known_leaf at k older within outcome more) = opened_all more
opened_all (new_leaf at meta older within new more) = ap (λ ns. (at + 1) ∷ ns) (opened_all more)
opened_all (given_leaf at older within more) = ap (λ ns. (at + 1) ∷ ns) (opened_all more)

-- they are all that it adds
pub all_openings : {start : Contents} {owner : ℕ} {events : History} {seen : ℕ} {leaves : List SpecLeaf} {refs : List Reference} {own : List Numbered} {now : ℕ} {rest : List SpecLeaf} → AreOpened start owner events seen leaves refs own now rest → numbers_of own ≡ chosen_in opens own ++ []
all_openings {own = own} opened = sym (append-nil (chosen_in opens own) ∙ opened_all opened)
