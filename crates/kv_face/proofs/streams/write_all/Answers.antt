use Rattle.std.proofs.Common.{◌++◌, ap, ◌∙◌, Some, take, drop, append_assoc, arith}
use Rattle.std.proofs.lemmas.List.{take-append-drop}
use Rattle.kv_face.proofs.streams.write_all.Goals as goal

pub loop-rest-preserved : goal.loop-rest-preserved
loop-rest-preserved g c = record {
  told = λ bytes is.
      let h = c.loop-rest.invariant.told bytes is in
      let n = c.in_ok-n.n in
      let rest = c.loop-rest.rest.now in
      (h.0 ++ take n rest, c.in_ok-n.ensures.bytes (bytes ++ h.0) h.1 ∙ ap Some (append_assoc bytes h.0 (take n rest)), ap (λ r. (h.0 ++ take n rest) ++ r) c.split_at.ensures.back ∙ append_assoc h.0 (take n rest) (drop n rest) ∙ ap (λ r. h.0 ++ r) (take-append-drop n rest) ∙ h.2);
  later = omega (arith, c.write.ensures.cause.later, c.loop-rest.invariant.later);
}
