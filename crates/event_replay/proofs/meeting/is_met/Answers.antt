use Rattle.std.proofs.Common.{◌≡◌, ◌∙◌, ◌+◌, ◌<◌, ◌≤◌, List, length, take, get_or, true, false, refl, sym, ap, subst, arith}
use Rattle.std.specs.List.{AllByRecursion}
use Rattle.std.proofs.lemmas.List.{take_all}
use Rattle.std.proofs.lemmas.List.Elements.{All-more, All-from_recursion, recursion_from_All}
use Rattle.cast_driver.specs.declared.cast.Cast.{Cast}
use Rattle.event_replay.specs.declared.demand.AskedPiece.{AskedPiece}
use Rattle.event_replay.specs.Demands.{IsMetFrom, IsPieceIn}
use Rattle.event_replay.proofs.MetLaws.{met_at, piece_at_in}
use Rattle.event_replay.proofs.meeting.is_met.Goals as goal

pub loop-i-init : goal.loop-i-init
loop-i-init c = λ h store demand low. tt

pub is_piece_met-requires : goal.is_piece_met-requires
is_piece_met-requires c =
    let d = c.args.demand.now in
    let p = c.asked_at.result.now in
    let is : p ≡ get_or d.pieces.items c.loop-i.i p = c.asked_at.ensures p ∙ ap (λ (ps : List AskedPiece). get_or ps c.loop-i.i p) c.as_slice-pieces.ensures.value in
    let long = ap (λ (ps : List AskedPiece). length ps) c.as_slice-pieces.ensures.value in
    let test = c.loop-i-test.true in (
      c.requires.0,
      subst (λ (cs : List (List Cast)). IsPieceIn c.requires.0 cs p) (sym c.as_slice-casts.ensures.value) (piece_at_in c.requires.0 d.casts.items d.pieces.items c.loop-i.i p c.requires.1 (omega (arith, long, test)) is),
    )

pub loop-i-preserved : goal.loop-i-preserved
loop-i-preserved c = λ h store demand from_low.
    let d = c.args.demand.now in
    let p = c.asked_at.result.now in
    let i = c.loop-i.i in
    let is : p ≡ get_or d.pieces.items i p = c.asked_at.ensures p ∙ ap (λ (ps : List AskedPiece). get_or ps i p) c.as_slice-pieces.ensures.value in
    let long = ap (λ (ps : List AskedPiece). length ps) c.as_slice-pieces.ensures.value in
    let test = c.loop-i-test.true in
    let low : i < length d.pieces.items = omega (arith, long, test) in
    let P : AskedPiece → Type 0 = IsMetFrom h c.args.from d.casts.items in
    let piece = subst (λ (cs : List (List Cast)). IsPieceIn h cs p) (sym c.as_slice-casts.ensures.value) (piece_at_in h d.casts.items d.pieces.items i p demand low is) in
    let here : P p = subst (λ (cs : List (List Cast)). IsMetFrom h c.args.from cs p) c.as_slice-casts.ensures.value ((c.in_ok-is_piece_met.ensures h store piece from_low).0 c.if-not-branch.false) in
    recursion_from_All P (take (i + 1) d.pieces.items) (All-more P d.pieces.items i p low (All-from_recursion P (take i d.pieces.items) (c.loop-i.invariant h store demand from_low)) (subst P is here))

pub returns-then-not-branch : goal.returns-then-not-branch
returns-then-not-branch c = λ h store demand from_low.
    let d = c.args.demand.now in
    let p = c.asked_at.result.now in
    let i = c.loop-i.i in
    let is : p ≡ get_or d.pieces.items i p = c.asked_at.ensures p ∙ ap (λ (ps : List AskedPiece). get_or ps i p) c.as_slice-pieces.ensures.value in
    let long = ap (λ (ps : List AskedPiece). length ps) c.as_slice-pieces.ensures.value in
    let test = c.loop-i-test.true in
    let low : i < length d.pieces.items = omega (arith, long, test) in
    let piece = subst (λ (cs : List (List Cast)). IsPieceIn h cs p) (sym c.as_slice-casts.ensures.value) (piece_at_in h d.casts.items d.pieces.items i p demand low is) in (
      λ so. absurd (let clash : false ≡ true = so in cc),
      λ met. let here = (c.in_ok-is_piece_met.ensures h store piece from_low).1 (subst (λ (cs : List (List Cast)). IsMetFrom h c.args.from cs p) (sym c.as_slice-casts.ensures.value) (met_at h c.args.from d.casts.items d.pieces.items i p met low is)) in
          absurd (let isnt = c.if-not-branch.true in cc),
    )

pub returns : goal.returns
returns c = λ h store demand from_low.
    let d = c.args.demand.now in
    let long = ap (λ (ps : List AskedPiece). length ps) c.as_slice-pieces.ensures.value in
    let test = c.loop-i-test.false in
    (λ so. subst (AllByRecursion (IsMetFrom h c.args.from d.casts.items)) (take_all c.loop-i.i d.pieces.items (omega (arith, long, test))) (c.loop-i.invariant h store demand from_low), λ met. refl)
