use Rattle.std.proofs.Common.{◌∷◌, [], ap, sym, ◌∙◌, ◌&&◌, nat_eq, drop, length}
use Rattle.std.specs.List.{starts_with}
use Rattle.std.proofs.lemmas.List.{take_rest}
use Rattle.kv_mounts.proofs.Begins.{starts_with-append}
use Rattle.kv_mounts.proofs.mount.begins.Goals as goal

pub returns-then-starts_with : goal.returns-then-starts_with
returns-then-starts_with c =
    c.starts_with-then-starts_with.ensures.value
    ∙ ap (λ xs. starts_with nat_eq xs (47 ∷ [])) (take_rest c.args.key.now (length c.args.name.now))
    ∙ sym (starts_with-append c.args.key.now c.args.name.now (47 ∷ []) ∙ ap (λ t. t && starts_with nat_eq (drop (length c.args.name.now) c.args.key.now) (47 ∷ [])) (sym c.starts_with.ensures.value ∙ c.if-starts_with.true))

pub returns-else-starts_with : goal.returns-else-starts_with
returns-else-starts_with c =
    c.if-starts_with.false
    ∙ sym (starts_with-append c.args.key.now c.args.name.now (47 ∷ []) ∙ ap (λ t. t && starts_with nat_eq (drop (length c.args.name.now) c.args.key.now) (47 ∷ [])) (sym c.starts_with.ensures.value ∙ c.if-starts_with.false))
