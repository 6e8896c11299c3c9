use Rattle.std.proofs.Common.{◌≡◌, ◌∙◌, ◌++◌, ◌∷◌, [], List, ap}
use Rattle.kv_mounts.specs.Parts.{Part}
use Rattle.runner_tests.proofs.Mounted.{mounts_one}
use Rattle.runner_tests.proofs.runs.mounts.Goals as goal

pub returns : goal.returns
returns c =
    let items : c.push.new.self.items ≡ c.in_ok-memory.field-0 ∷ [] =
    c.in_ok-push.ensures.items ∙ ap (λ (l : List Part). l ++ c.in_ok-memory.field-0 ∷ []) c.new-mounts.ensures.items in
    mounts_one c.push.new.self.items c.in_ok-memory.field-0 items c.in_ok-memory.ensures.name c.in_ok-memory.ensures.every
