use Rattle.std.proofs.Common.{◌≡◌, ◌∙◌, ◌++◌, ◌∷◌, [], List, ap}
use Rattle.std.proofs.lemmas.Str.{IsCharBoundary-start}
use Rattle.kv_face.specs.declared.change.Change.{Change}
use Rattle.store_tests.proofs.Mounted.{boundaries}
use Rattle.store_tests.proofs.mounts.together.Goals as goal

pub together-requires : goal.together-requires
together-requires g c =
    let items : c.deref.result.now ≡ c.in_ok-change.field-0 ∷ c.in_ok-change-2.field-0 ∷ [] =
    c.deref.ensures.value ∙ c.in_ok-push-2.ensures.items ∙ ap (λ (l : List Change). l ++ c.in_ok-change-2.field-0 ∷ []) (c.in_ok-push.ensures.items ∙ ap (λ (l : List Change). l ++ c.in_ok-change.field-0 ∷ []) c.new-changes.ensures.items) in
    boundaries c.deref.result.now c.in_ok-change.field-0 c.in_ok-change-2.field-0 c.args.one.now c.args.other.now items c.in_ok-change.ensures c.in_ok-change-2.ensures (IsCharBoundary-start c.args.one.now c.utf8.one) (IsCharBoundary-start c.args.other.now c.utf8.other)
