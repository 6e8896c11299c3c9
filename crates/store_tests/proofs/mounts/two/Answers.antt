use Rattle.std.proofs.Common.{◌≡◌, ◌∙◌, ◌++◌, ◌∷◌, [], List, ap}
use Rattle.kv_mounts.specs.Parts.{Part}
use Rattle.store_tests.proofs.Mounted.{mounts_two}
use Rattle.store_tests.proofs.mounts.two.Goals as goal

pub new-requires-3 : goal.new-requires-3
new-requires-3 c =
    let items : c.push-2.new.self.items ≡ c.in_ok-mount.field-0 ∷ c.in_ok-mount-2.field-0 ∷ [] =
    c.in_ok-push-2.ensures.items ∙ ap (λ (l : List Part). l ++ c.in_ok-mount-2.field-0 ∷ []) (c.in_ok-push.ensures.items ∙ ap (λ (l : List Part). l ++ c.in_ok-mount.field-0 ∷ []) c.new-list.ensures.items) in
    mounts_two c.push-2.new.self.items c.in_ok-mount.field-0 c.in_ok-mount-2.field-0 items c.in_ok-mount.ensures.named c.in_ok-mount-2.ensures.named c.in_ok-mount.ensures.every c.in_ok-mount-2.ensures.every
