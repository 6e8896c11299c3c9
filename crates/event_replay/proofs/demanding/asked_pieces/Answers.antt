use Rattle.std.proofs.Common.{◌≡◌, ◌∙◌, ◌+◌, ◌<◌, ◌≤◌, ◌∷◌, ◌++◌, [], ℕ, List, Option, length, get_or, Some, None, sym, ap, subst, arith}
use Rattle.std.specs.Prelude.{IsSome}
use Rattle.std.proofs.lemmas.List.{length_push}
use Rattle.transaction_cells.specs.declared.view_cells.Piece.{Piece}
use Rattle.event_replay.specs.declared.demand.AskedPiece.{AskedPiece}
use Rattle.event_replay.specs.Demands.{IsTellingPiece}
use Rattle.event_replay.proofs.Places.{more_at}
use Rattle.event_replay.proofs.demanding.asked_pieces.Goals as goal

pub loop-i-init : goal.loop-i-init
loop-i-init c = record { count = ap (λ (ps : List AskedPiece). length ps) c.new-pieces.ensures.items; each = λ j d e low. absurd (omega (arith, low)) }

pub loop-i-preserved : goal.loop-i-preserved
loop-i-preserved c =
    let old = c.loop-i.pieces.items in
    let p = c.in-Some.piece in
    let inv = c.loop-i.invariant in
    let P : ℕ → AskedPiece → Type 0 = λ j a. (d : Piece) → IsTellingPiece c.args.cells.now c.args.staging.now c.args.words.now (get_or c.args.cells.now.pieces j d).id (Some a) in
    let here : P c.loop-i.i p = λ d. subst (IsTellingPiece c.args.cells.now c.args.staging.now c.args.words.now (get_or c.args.cells.now.pieces c.loop-i.i d).id) c.in-Some.is (c.in_ok-piece.ensures d) in
    let count = inv.count in
    record {
      count = ap (λ (ps : List AskedPiece). length ps) c.in_ok-push.ensures.items ∙ length_push old p ∙ ap (λ n. n + 1) count;
      each = λ j d e low.
          subst (λ (ps : List AskedPiece). IsTellingPiece c.args.cells.now c.args.staging.now c.args.words.now (get_or c.args.cells.now.pieces j d).id (Some (get_or ps j e))) (sym c.in_ok-push.ensures.items)
          (more_at P old p (λ i a less b. inv.each i b a (omega (arith, less, count))) (subst (λ n. P n p) (sym count) here) j e (omega (arith, low, count)) d);
    }

pub returns-in_default : goal.returns-in_default
returns-in_default c = λ h ops v read all.
    let none : Piece = record { id = []; size = 0; runs = [] } in
    let id = (get_or c.args.cells.now.pieces c.loop-i.i none).id in
    let told = subst (IsTellingPiece c.args.cells.now c.args.staging.now c.args.words.now id) c.in_default.is (c.in_ok-piece.ensures none) in
    told h ops v read (all id)

pub returns : goal.returns
returns c =
    let long = ap (λ (ps : List Piece). length ps) c.items-i-end.ensures in
    let past = c.loop-i-test.false in
    let upto = c.loop-i.auto.i-end in
    let same : c.loop-i.i ≡ length c.args.cells.now.pieces = omega (arith, long, past, upto) in
    (c.loop-i.invariant.count ∙ same, λ j d e low. c.loop-i.invariant.each j d e (omega (arith, low, same)))
