use Rattle.std.proofs.Common.{◌≡◌, ◌∙◌, ◌<◌, ◌+◌, ℕ, List, length, take, get_or, true, false, refl, sym, ap, subst, arith}
use Rattle.std.specs.List.{AllByRecursion}
use Rattle.std.proofs.lemmas.List.{take_all}
use Rattle.std.proofs.lemmas.List.Elements.{All-get_or, All-more, All-from_recursion, recursion_from_All}
use Rattle.event_replay.proofs.FollowLaws.{IsPieceBelow}
use Rattle.event_replay.proofs.following.are_of_arrays.Goals as goal

pub loop-i-preserved : goal.loop-i-preserved
loop-i-preserved c =
    let pieces = c.args.pieces.now in
    let P = IsPieceBelow c.args.opened in
    let p = c.piece_at.result.now in
    let within : c.loop-i.i < length pieces = omega arith in
    let is : c.array_of-array.result ≡ get_or p.id 0 0 = c.array_of-array.ensures ∙ ap (λ (id : List ℕ). get_or id 0 0) c.items.ensures in
    let here : P p = subst (λ n. n < c.args.opened) is c.if-array-opened.false in
    recursion_from_All P (take (c.loop-i.i + 1) pieces)
    (All-more P pieces c.loop-i.i p within (All-from_recursion P (take c.loop-i.i pieces) c.loop-i.invariant) (subst P (c.piece_at.ensures p) here))

pub returns-then-array-opened : goal.returns-then-array-opened
returns-then-array-opened c = (
  λ so. absurd (let clash : false ≡ true = so in cc),
  λ all.
      let pieces = c.args.pieces.now in
      let P = IsPieceBelow c.args.opened in
      let p = c.piece_at.result.now in
      let within : c.loop-i.i < length pieces = omega arith in
      let is : c.array_of-array.result ≡ get_or p.id 0 0 = c.array_of-array.ensures ∙ ap (λ (id : List ℕ). get_or id 0 0) c.items.ensures in
      let here : P p = subst P (sym (c.piece_at.ensures p)) (All-get_or P pieces c.loop-i.i p within (All-from_recursion P pieces all)) in
      let up = c.if-array-opened.true in
      absurd (omega (arith, is, here, up)),
)

pub returns : goal.returns
returns c = (λ so. subst (AllByRecursion (IsPieceBelow c.args.opened)) (take_all c.loop-i.i c.args.pieces.now (omega arith)) c.loop-i.invariant, λ all. refl)
