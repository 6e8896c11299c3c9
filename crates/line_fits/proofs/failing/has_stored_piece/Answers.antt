use Rattle.std.proofs.Common.{◌≡◌, ◌∙◌, ◌<◌, ℕ, List, length, get_or, true, false, refl, sym, ap, subst, arith, below_more}
use Rattle.event_replay.specs.declared.Piece.{Piece}
use Rattle.line_fits.specs.StoredPuts.{IsStoredAt}
use Rattle.line_fits.proofs.failing.has_stored_piece.Goals as goal

pub loop-i-init : goal.loop-i-init
loop-i-init c = λ k below d. absurd (omega arith)

pub loop-i-preserved : goal.loop-i-preserved
loop-i-preserved c =
    below_more _ _ c.loop-i.invariant
    (λ d at.
    let is : get_or (get_or c.args.pieces.now c.loop-i.i d).id 0 0 ≡ c.array_of-array.result =
    sym (c.array_of-array.ensures ∙ ap (λ (id : List ℕ). get_or id 0 0) c.items.ensures ∙ ap (λ (p : Piece). get_or p.id 0 0) (c.piece_at.ensures d)) in
    let so = c.is_stored.ensures.1 (subst (IsStoredAt c.args.opened c.args.stored.now) is at) in
    let isnt = c.if-is_stored.false in
    cc)

pub returns-then-is_stored : goal.returns-then-is_stored
returns-then-is_stored c =
    let p = c.piece_at.result.now in
    let low : c.loop-i.i < length c.args.pieces.now = omega arith in
    let is : c.array_of-array.result ≡ get_or p.id 0 0 = c.array_of-array.ensures ∙ ap (λ (id : List ℕ). get_or id 0 0) c.items.ensures in (
      λ so. record {
        piece = p;
        among = (c.loop-i.i, low, sym (c.piece_at.ensures p));
        of_stored = subst (IsStoredAt c.args.opened c.args.stored.now) is (c.is_stored.ensures.0 c.if-is_stored.true);
      },
      λ h. refl,
    )

pub returns : goal.returns
returns c = (
  λ so. absurd (let clash : false ≡ true = so in cc),
  λ h.
      let low = h.among.1 in
      absurd (c.loop-i.invariant h.among.0 (omega arith) h.piece (subst (λ (p : Piece). IsStoredAt c.args.opened c.args.stored.now (get_or p.id 0 0)) (sym h.among.2) h.of_stored)),
)
