use Rattle.std.proofs.Common.{◌≡◌, ◌++◌, sym, ap, ◌∙◌, take, drop, append_assoc, append-nil, length, arith, length-append, ◌+◌}
use Rattle.std.proofs.lemmas.List.{take-append-drop}
use Rattle.kv_face.proofs.reading.read_script.Goals as goal

pub returns-then-n-eq0-clause-all : goal.returns-then-n-eq0-clause-all
returns-then-n-eq0-clause-all g c = λ bytes is.
    let h = c.loop-n.invariant.told bytes is in
    let t = c.in-Ok.ensures.bytes h.0 h.1 in
    sym (append-nil c.loop-n.bytes.items) ∙ ap (λ r. c.loop-n.bytes.items ++ r) (sym (t.ends c.if-n-eq0.true)) ∙ h.2

pub loop-n-preserved : goal.loop-n-preserved
loop-n-preserved g c = record {
  told = λ bytes is.
      let h = c.loop-n.invariant.told bytes is in
      let t = c.in-Ok.ensures.bytes h.0 h.1 in
      let n = c.in-Ok.n in
      let now = c.loop-n.bytes.items in
      let grown = c.in_ok-extend_from_slice.ensures.items ∙ ap (λ r. now ++ r) (c.split_at.ensures.front ∙ t.bytes) in
      (drop n h.0, t.rest, ap (λ r. r ++ drop n h.0) grown ∙ append_assoc now (take n h.0) (drop n h.0) ∙ ap (λ r. now ++ r) (take-append-drop n h.0) ∙ h.2);
  size =
      let n = c.in-Ok.n in
      let grown : length c.extend_from_slice.new.self.items ≡ length c.loop-n.bytes.items + n = ap length c.in_ok-extend_from_slice.ensures.items ∙ length-append c.loop-n.bytes.items c.split_at.result.0.now ∙ ap (λ m. length c.loop-n.bytes.items + m) c.split_at.ensures.front_len in
      omega (arith, grown, c.len.ensures, c.if-n-len.false, c.loop-n.invariant.size);
  contents = c.next.ensures.contents ∙ c.loop-n.invariant.contents;
  later = omega (arith, c.next.ensures.cause.later, c.loop-n.invariant.later);
}
