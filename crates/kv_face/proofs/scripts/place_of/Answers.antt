use Rattle.std.proofs.Common.{◌≡◌, ◌<◌, sym, ap, ◌∙◌, bytes_eq, length, arith}
use Rattle.std.specs.FinMap as finmap
use Rattle.kv_face.specs.declared.scripts.Script.{Script}
use Rattle.kv_face.proofs.Added.{last_here, last_before}
use Rattle.kv_face.proofs.scripts.place_of.Goals.{then-eq, else-eq}
use Rattle.kv_face.proofs.scripts.place_of.Goals as goal

pub loop-i-init : goal.loop-i-init
loop-i-init c = record { bytes = sym (finmap.get-empty _ c.args.name.now); within = tt }

pub loop-i-preserved : goal.loop-i-preserved
loop-i-preserved c =
    let scripts = c.args.scripts.now in
    let name = c.args.name.now in
    let s = c.index-scripts-i.result in
    let lt : c.loop-i.i < length scripts = omega (arith, c.loop-i-test.true, c.loop-i.auto.i-end) in
    let old = c.loop-i.invariant in
    let test : c.eq.result ≡ bytes_eq name s.name = c.eq.ensures ∙ ap (bytes_eq name) c.items.ensures ∙ ap (λ (x : Script). bytes_eq name x.name) (sym c.index-scripts-i.is) in
    elim c.if-eq.branch [
      | then-eq w ↦ (let n = last_here scripts name c.loop-i.i s c.if-eq.place w.place-is lt c.index-scripts-i.is (sym test ∙ w.if-eq.true) in record { bytes = n.bytes; within = n.within })
      | else-eq w ↦ (let n = last_before scripts name c.loop-i.i s c.loop-i.place c.if-eq.place w.place-is lt c.index-scripts-i.is (sym test ∙ w.if-eq.false) (record { bytes = old.bytes; within = old.within }) in record { bytes = n.bytes; within = n.within })
    ]
