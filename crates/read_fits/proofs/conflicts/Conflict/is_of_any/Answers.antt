use Rattle.std.proofs.Common.{◌≡◌, ◌∙◌, ◌<◌, List, length, true, false, refl, sym, subst, get_or, below_more, arith}
use Rattle.read_fits.specs.Conflicts.{IsChunkId, IsMetAt}
use Rattle.read_fits.specs.Owned.{Id}
use Rattle.read_fits.proofs.ConflictLaws.{chunk_at, met_at, met_place, some_id}
use Rattle.read_fits.proofs.conflicts.Conflict.is_of_any.Goals as goal

pub is_of-requires : goal.is_of-requires
is_of-requires c =
    let ids : List Id = c.args.ids.now.set.keys in
    let count = c.count-i-end.ensures in
    let low : c.loop-i.i < length ids = omega (arith, count) in
    let d = some_id ids c.loop-i.i low in (
      c.requires.0,
      c.requires.1,
      subst (IsChunkId c.requires.0) (sym (c.id.ensures d)) (chunk_at c.requires.0 ids c.loop-i.i d low c.requires.2),
    )

pub returns-then-found : goal.returns-then-found
returns-then-found c = λ h tables chunks.
    let ids : List Id = c.args.ids.now.set.keys in
    let count = c.count-i-end.ensures in
    let low : c.loop-i.i < length ids = omega (arith, count) in
    let d = some_id ids c.loop-i.i low in
    let chunk = subst (IsChunkId h) (sym (c.id.ensures d)) (chunk_at h ids c.loop-i.i d low chunks) in (
      (λ so.
          met_at h ids c.loop-i.i d c.args.self.now.key c.args.self.now.read c.args.self.now.touch low
          (subst (IsMetAt h c.args.self.now.key c.args.self.now.read c.args.self.now.touch) (c.id.ensures d) ((c.in_ok-found.ensures h tables chunk).0 c.if-found.true))),
      (λ met. refl),
    )

pub loop-i-preserved : goal.loop-i-preserved
loop-i-preserved c = λ h tables chunks j d lt.
    let ids : List Id = c.args.ids.now.set.keys in
    let count = c.count-i-end.ensures in
    let low : c.loop-i.i < length ids = omega (arith, count) in
    below_more (λ n. IsMetAt h c.args.self.now.key c.args.self.now.read c.args.self.now.touch (get_or ids n d).items → ⊥) c.loop-i.i
    (λ n under. c.loop-i.invariant h tables chunks n d under)
    (λ met.
    let chunk = subst (IsChunkId h) (sym (c.id.ensures d)) (chunk_at h ids c.loop-i.i d low chunks) in
    let so : c.in_ok-found.found ≡ true = (c.in_ok-found.ensures h tables chunk).1 (subst (IsMetAt h c.args.self.now.key c.args.self.now.read c.args.self.now.touch) (sym (c.id.ensures d)) met) in
    let clash : true ≡ false = sym so ∙ c.if-found.false in
    absurd (cc))
    j lt

pub returns : goal.returns
returns c = λ h tables chunks. (
  (λ so. absurd (let clash : false ≡ true = so in cc)),
  (λ met.
      let ids : List Id = c.args.ids.now.set.keys in
      let at = met_place h ids c.args.self.now.key c.args.self.now.read c.args.self.now.touch met in
      let past = c.loop-i-test.false in
      let count = c.count-i-end.ensures in
      let low = at.1 in
      let d = some_id ids at.0 low in
      absurd (c.loop-i.invariant h tables chunks at.0 d (omega (arith, past, count, low)) (at.2 d))),
)
