use Rattle.std.proofs.Common.{◌≡◌, ◌∙◌, ◌++◌, ◌∷◌, [], List, ap}
use Rattle.kv_mounts.specs.Parts.{Part}
use Rattle.run_cases.proofs.Mounted.{mounts_three}
use Rattle.run_cases.proofs.mounts.three.Goals as goal

pub returns : goal.returns
returns c =
    let items : c.push-3.new.self.items ≡ c.in_ok-mount.field-0 ∷ c.in_ok-mount-2.field-0 ∷ c.in_ok-mount-3.field-0 ∷ [] =
    c.in_ok-push-3.ensures.items ∙ ap (λ (l : List Part). l ++ c.in_ok-mount-3.field-0 ∷ []) (c.in_ok-push-2.ensures.items ∙ ap (λ (l : List Part). l ++ c.in_ok-mount-2.field-0 ∷ []) (c.in_ok-push.ensures.items ∙ ap (λ (l : List Part). l ++ c.in_ok-mount.field-0 ∷ []) c.new-mounts.ensures.items)) in
    mounts_three c.push-3.new.self.items c.in_ok-mount.field-0 c.in_ok-mount-2.field-0 c.in_ok-mount-3.field-0 items c.in_ok-mount.ensures.name c.in_ok-mount-2.ensures.name c.in_ok-mount-3.ensures.name c.in_ok-mount.ensures.every c.in_ok-mount-2.ensures.every c.in_ok-mount-3.ensures.every
