use Rattle.std.proofs.Common.{◌∙◌, ◌∷◌, ap, List, ℕ}
use Rattle.version_store.proofs.putting.local_id.Goals as goal

pub returns : goal.returns
returns c = c.in_ok-insert.ensures.items ∙ ap (λ (xs : List ℕ). c.args.array ∷ xs) (c.in_ok-id.ensures.items_if_clones_equal (λ y e. e))
