use Rattle.std.proofs.Common.{◌≡◌, ◌∙◌, ◌++◌, ◌∷◌, [], ℕ, List, sym, ap}
use Rattle.std.proofs.lemmas.List.{map_more}
use Rattle.stack_driver.proofs.wholes.no_labels.Goals as goal

pub loop-size-preserved : goal.loop-size-preserved
loop-size-preserved c =
    let front = c.loop-size.labels.items in
    let empty : c.wrap.result ≡ [] = c.wrap.ensures ∙ c.new.ensures.bytes in
    c.in_ok-push.ensures.items ∙ ap (λ (name : List ℕ). front ++ name ∷ []) empty ∙ ap (λ (names : List (List ℕ)). names ++ [] ∷ []) c.loop-size.invariant
    ∙ sym (map_more (λ (size : ℕ). []) c.args.shape.now c.loop-size._size-index 0 c.loop-size-test.true)
