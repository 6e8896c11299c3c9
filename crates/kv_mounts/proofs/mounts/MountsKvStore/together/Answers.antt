use Rattle.std.proofs.Common.{◌≡◌, ◌<◌, ◌+◌, length, drop, get_or, true, false, ap, sym, ◌∙◌, ◌&&◌, arith, List, ℕ}
use Rattle.std.specs.List.{list_any}
use Rattle.kv_face.specs.Store.{are_together}
use Rattle.kv_face.specs.declared.change.Change.{Change}
use Rattle.kv_mounts.specs.Parts.{Part, begins, all_below}
use Rattle.kv_mounts.specs.Union.{prefixes_of}
use Rattle.kv_mounts.proofs.Kept.{few_at}
use Rattle.kv_mounts.proofs.Together.{together_one_at, together_none_at}
use Rattle.kv_mounts.proofs.mounts.MountsKvStore.together.Goals as goal

pub returns-in_default : goal.returns-in_default
returns-in_default g c =
    let key : c.range_from-key.result.now ≡ drop c.args.from c.index-changes-0.result.key = c.range_from-key.ensures.value ∙ ap (drop c.args.from) (c.items.ensures ∙ ap (λ (r : Change). r.key) (sym c.index-changes-0.is)) in
    let none : list_any (λ (p : Part). begins p.name (drop c.args.from c.index-changes-0.result.key)) c.args.self.now ≡ false =
    ap (λ (k : List ℕ). list_any (λ (p : Part). begins p.name k) c.args.self.now) (sym key)
    ∙ ap (λ (ps : List Part). list_any (λ (p : Part). begins p.name c.range_from-key.result.now) ps) (sym (c.as_slice.ensures.value ∙ c.self.view_is)) ∙ c.place_of.ensures.none c.in_default.is in
    sym (together_none_at c.index-changes-0.result c.args.changes.now c.args.from c.args.self.now (omega (arith, c.if-changes-le1.false)) c.index-changes-0.is none)

pub start-requires : goal.start-requires
start-requires g c =
    let old = c.self.inside.list.items in
    let less : c.in-Some.place < length old = omega (arith, c.in-Some.ensures.found.0, ap length c.as_slice.ensures.value) in
    few_at old c.in-Some.place c.index-mount.result.now c.self.invariant less c.index-mount.ensures

pub returns : goal.returns
returns g c =
    let old = c.self.inside.list.items in
    let i = c.in-Some.place in
    let p = c.index-mount.result.now in
    let less : i < length old = omega (arith, c.in-Some.ensures.found.0, ap length c.as_slice.ensures.value) in
    let key : c.range_from-key.result.now ≡ drop c.args.from c.index-changes-0.result.key = c.range_from-key.ensures.value ∙ ap (drop c.args.from) (c.items.ensures ∙ ap (λ (r : Change). r.key) (sym c.index-changes-0.is)) in
    let begun : begins p.name (drop c.args.from c.index-changes-0.result.key) ≡ true =
    ap (begins p.name) (sym key) ∙ ap (λ (r : Part). begins r.name c.range_from-key.result.now) (c.index-mount.ensures ∙ ap (λ (ps : List Part). get_or ps i p) (sym c.as_slice.ensures.value)) ∙ c.in-Some.ensures.found.1 p in
    c.together.ensures ∙ ap (λ s. all_below p.name c.args.changes.now c.args.from && are_together p.prefixes c.args.changes.now (c.args.from + s)) c.start.ensures
    ∙ sym (together_one_at c.index-changes-0.result c.args.changes.now c.args.from old i p c.self.invariant (omega (arith, c.if-changes-le1.false)) c.index-changes-0.is less c.index-mount.ensures begun)
    ∙ ap (λ (ps : List Part). are_together (prefixes_of ps) c.args.changes.now c.args.from) c.self.view_is
