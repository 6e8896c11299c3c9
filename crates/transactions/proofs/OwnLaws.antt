-- The events that a commit adds are its session's own.
use Rattle.std.proofs.Common.{◌≡◌, ◌∙◌, ℕ, cond, List, [], ◌∷◌, refl, ap}
use Rattle.std.specs.Prelude.{◌==◌}
use Rattle.std.specs.List.{All, AllByRecursion}
use Rattle.std.proofs.lemmas.List.Elements.{All-from_recursion}
use Rattle.commits.proofs.Laws.{IsOwn}
use Rattle.history.specs.declared.event.Event.{Event}
use Rattle.turn_book.specs.History.{entries_of}
use Rattle.chunk_fetches.specs.Turns.{owner_of}
use Rattle.chunk_fetches.proofs.Laws.{itself_is}

-- a session's own events are all of them
pub own_all : (owner : ℕ) (es : List Event) → AllByRecursion (IsOwn owner) es → entries_of owner_of owner es ≡ es
own_all owner [] own = refl
own_all owner (e ∷ es) own =
    ap (λ b. cond b (e ∷ entries_of owner_of owner es) (entries_of owner_of owner es)) (ap (λ n. n == owner) own.0 ∙ itself_is owner) ∙ ap (λ xs. e ∷ xs) (own_all owner es own.1)

pub own_each : (owner : ℕ) (es : List Event) → AllByRecursion (IsOwn owner) es → All (λ e. owner_of e ≡ owner) es
own_each owner es own = All-from_recursion (λ e. owner_of e ≡ owner) es own
