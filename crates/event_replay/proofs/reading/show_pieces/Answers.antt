use Rattle.std.proofs.Common.{◌+◌, ◌<◌, ◌≡◌, length, take, true, false, refl, subst, arith}
use Rattle.std.specs.List.{AllByRecursion}
use Rattle.std.proofs.lemmas.List.{take_all}
use Rattle.std.proofs.lemmas.List.Elements.{All-more, All-from_recursion, recursion_from_All}
use Rattle.transaction_cells.specs.Sites.{sites_of}
use Rattle.transaction_cells.specs.declared.view_cells.Piece.{Piece}
use Rattle.version_store.specs.Asked.{content_with}
use Rattle.event_replay.specs.Placed.{AreShownIn}
use Rattle.event_replay.proofs.AskLaws.{asked_at, shown_pieces}
use Rattle.event_replay.proofs.ShownWords.{shown_one}
use Rattle.event_replay.proofs.reading.show_pieces.Goals as goal

pub loop-i-init : goal.loop-i-init
loop-i-init c = λ h puts v are. tt

pub show_piece-requires : goal.show_piece-requires
show_piece-requires c =
    let within : c.loop-i.i < length c.args.pieces.now = omega arith in (
      c.requires.0,
      c.requires.1,
      c.requires.2,
      asked_at c.requires.0 c.requires.1 c.requires.2 c.args.words.now c.args.leaves.now c.args.casts.now c.args.pieces.now c.loop-i.i c.piece_at.result.now c.args.store.now c.requires.3 within (c.piece_at.ensures c.piece_at.result.now),
    )

pub loop-i-preserved : goal.loop-i-preserved
loop-i-preserved c = λ h puts v are.
    let pieces = c.args.pieces.now in
    let p = c.piece_at.result.now in
    let within : c.loop-i.i < length pieces = omega arith in
    let P : Piece → Type 0 = λ q. AreShownIn (content_with h puts) q.id (sites_of v) c.args.words.now in
    let at = asked_at h puts v c.args.words.now c.args.leaves.now c.args.casts.now pieces c.loop-i.i p c.args.store.now are within (c.piece_at.ensures p) in
    let here : P p = (c.in_ok-show_piece.ensures h puts v at).0 c.if-not-branch.false in
    recursion_from_All P (take (c.loop-i.i + 1) pieces)
    (All-more P pieces c.loop-i.i p within (All-from_recursion P (take c.loop-i.i pieces) (c.loop-i.invariant h puts v are)) (subst P (c.piece_at.ensures p) here))

pub returns-then-not-branch : goal.returns-then-not-branch
returns-then-not-branch c = λ h puts v are.
    let p = c.piece_at.result.now in
    let within : c.loop-i.i < length c.args.pieces.now = omega arith in
    let at = asked_at h puts v c.args.words.now c.args.leaves.now c.args.casts.now c.args.pieces.now c.loop-i.i p c.args.store.now are within (c.piece_at.ensures p) in (
      λ so. absurd (let clash : false ≡ true = so in cc),
      λ all. let here = (c.in_ok-show_piece.ensures h puts v at).1 (shown_one (content_with h puts) p.id (sites_of v) c.args.words.now all) in
          absurd (let isnt = c.if-not-branch.true in cc),
    )

pub returns : goal.returns
returns c = λ h puts v are.
    let pieces = c.args.pieces.now in
    let P : Piece → Type 0 = λ q. AreShownIn (content_with h puts) q.id (sites_of v) c.args.words.now in (
      λ so. shown_pieces h puts v c.args.words.now c.args.leaves.now c.args.casts.now pieces c.args.store.now are (subst (AllByRecursion P) (take_all c.loop-i.i pieces (omega arith)) (c.loop-i.invariant h puts v are)),
      λ all. refl,
    )
