use Rattle.std.proofs.Common.{◌≡◌, ap, sym, ◌∙◌, true, false, bytes_eq, get_or, ◌||◌}
use Rattle.std.proofs.lemmas.List.Folds.{list_any_at, list_any_more}
use Rattle.kv_mounts.specs.Parts.{Part}
use Rattle.kv_mounts.proofs.mounts.knows.Goals as goal

pub returns-then-eq : goal.returns-then-eq
returns-then-eq g c =
    let here : bytes_eq c.args.name.now (get_or c.args.list.now c.loop-mount.mount-index c.mount-item.result).name ≡ true =
    ap (λ (p : Part). bytes_eq c.args.name.now p.name) (sym c.mount-item.is) ∙ ap (bytes_eq c.args.name.now) (sym (c.items.ensures ∙ ap (λ (p : Part). p.name) c.mount.view_is)) ∙ sym c.eq.ensures ∙ c.if-eq.true in
    sym (list_any_at (λ (p : Part). bytes_eq c.args.name.now p.name) c.args.list.now c.loop-mount.mount-index c.mount-item.result c.loop-mount-test.true here)

pub loop-mount-preserved : goal.loop-mount-preserved
loop-mount-preserved g c =
    let here : bytes_eq c.args.name.now (get_or c.args.list.now c.loop-mount.mount-index c.mount-item.result).name ≡ false =
    ap (λ (p : Part). bytes_eq c.args.name.now p.name) (sym c.mount-item.is) ∙ ap (bytes_eq c.args.name.now) (sym (c.items.ensures ∙ ap (λ (p : Part). p.name) c.mount.view_is)) ∙ sym c.eq.ensures ∙ c.if-eq.false in
    list_any_more (λ (p : Part). bytes_eq c.args.name.now p.name) c.args.list.now c.loop-mount.mount-index c.mount-item.result c.loop-mount-test.true
    ∙ ap (λ t. t || bytes_eq c.args.name.now (get_or c.args.list.now c.loop-mount.mount-index c.mount-item.result).name) c.loop-mount.invariant ∙ here
