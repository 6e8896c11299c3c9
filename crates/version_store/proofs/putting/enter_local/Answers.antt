use Rattle.std.proofs.Common.{◌≡◌, ◌∙◌, ◌∷◌, ap, subst, List, ℕ, length, replicate}
use Rattle.std.proofs.lemmas.Result.{on_ok_weaker}
use Rattle.version_store.specs.Opened.{HasEntered}
use Rattle.version_store.proofs.putting.enter_local.Goals as goal

pub returns : goal.returns
returns c =
    let named : c.deref.result.now ≡ c.args.array ∷ replicate (length c.args.start.now.shape) 0 =
    c.deref.ensures.value ∙ c.in_ok-id.ensures ∙ ap (λ (shape : List ℕ). c.args.array ∷ replicate (length shape) 0) c.shape.ensures.value in
    on_ok_weaker c.enter_words.result (λ has. subst (λ id. HasEntered id c.args.number c.args.start.now.words c.args.table.now.entries c.enter_words.new.table.entries) named has) c.enter_words.ensures
