use Rattle.std.proofs.Common.{◌≡◌, ◌∙◌, ◌++◌, ◌∷◌, [], List, ap, length}
use Rattle.kv_mounts.specs.Parts.{Part, names_of}
use Rattle.store_tests.proofs.Mounted.{mounts_three, names_three}
use Rattle.store_tests.proofs.mounts.three.Goals as goal

pub new-requires : goal.new-requires
new-requires c =
    let items : c.push-3.new.self.items ≡ c.in_ok-mount.field-0 ∷ c.in_ok-mount-2.field-0 ∷ c.in_ok-mount-3.field-0 ∷ [] =
    c.in_ok-push-3.ensures.items
    ∙ ap (λ (l : List Part). l ++ c.in_ok-mount-3.field-0 ∷ []) (c.in_ok-push-2.ensures.items ∙ ap (λ (l : List Part). l ++ c.in_ok-mount-2.field-0 ∷ []) (c.in_ok-push.ensures.items ∙ ap (λ (l : List Part). l ++ c.in_ok-mount.field-0 ∷ []) c.new-list.ensures.items)) in
    mounts_three c.push-3.new.self.items c.in_ok-mount.field-0 c.in_ok-mount-2.field-0 c.in_ok-mount-3.field-0 items c.in_ok-mount.ensures.named c.in_ok-mount-2.ensures.named c.in_ok-mount-3.ensures.named
    c.in_ok-mount.ensures.every c.in_ok-mount-2.ensures.every c.in_ok-mount-3.ensures.every

pub returns-clause-names : goal.returns-clause-names
returns-clause-names c =
    let items : c.push-3.new.self.items ≡ c.in_ok-mount.field-0 ∷ c.in_ok-mount-2.field-0 ∷ c.in_ok-mount-3.field-0 ∷ [] =
    c.in_ok-push-3.ensures.items
    ∙ ap (λ (l : List Part). l ++ c.in_ok-mount-3.field-0 ∷ []) (c.in_ok-push-2.ensures.items ∙ ap (λ (l : List Part). l ++ c.in_ok-mount-2.field-0 ∷ []) (c.in_ok-push.ensures.items ∙ ap (λ (l : List Part). l ++ c.in_ok-mount.field-0 ∷ []) c.new-list.ensures.items)) in
    ap names_of c.new.ensures
    ∙ names_three c.push-3.new.self.items c.in_ok-mount.field-0 c.in_ok-mount-2.field-0 c.in_ok-mount-3.field-0 items c.in_ok-mount.ensures.named c.in_ok-mount-2.ensures.named c.in_ok-mount-3.ensures.named

pub returns-clause-three : goal.returns-clause-three
returns-clause-three c =
    let items : c.push-3.new.self.items ≡ c.in_ok-mount.field-0 ∷ c.in_ok-mount-2.field-0 ∷ c.in_ok-mount-3.field-0 ∷ [] =
    c.in_ok-push-3.ensures.items
    ∙ ap (λ (l : List Part). l ++ c.in_ok-mount-3.field-0 ∷ []) (c.in_ok-push-2.ensures.items ∙ ap (λ (l : List Part). l ++ c.in_ok-mount-2.field-0 ∷ []) (c.in_ok-push.ensures.items ∙ ap (λ (l : List Part). l ++ c.in_ok-mount.field-0 ∷ []) c.new-list.ensures.items)) in
    ap length c.new.ensures ∙ ap length items
