use Rattle.std.proofs.Common.{◌∙◌, ℕ, List, sym, ap, subst, Option}
use Rattle.std.specs.Prelude.{All, IfSome, IfNone, IsTrue, ◌↔◌, Bool}
use Rattle.std.proofs.lemmas.List.Elements.{All-from_recursion}
use Rattle.chunk_versions.specs.Marks.{HasCasts}
use Rattle.chunk_versions.specs.declared.asked.AskedCell.{AskedCell}
use Rattle.version_store.specs.Asked.{AreShownAt, AreNeverShown}
use Rattle.event_replay.specs.Demands.{IsMetFrom}
use Rattle.event_replay.proofs.MetLaws.{piece_met}
use Rattle.event_replay.proofs.meeting.is_piece_met.Goals as goal

pub find_mark-requires : goal.find_mark-requires
find_mark-requires c =
    subst (λ (cells : List AskedCell). All (HasCasts c.args.casts.now) cells) (sym c.deref.ensures.value) (All-from_recursion (HasCasts c.args.casts.now) c.args.piece.now.asked.items c.requires.1.casts_there)

pub returns : goal.returns
returns c = λ h store piece low.
    let s = c.args.store.now in
    let p = c.args.piece.now in
    let casts = c.args.casts.now in
    let from = c.args.from in
    let some = subst (λ (cells : List AskedCell). IfSome c.in_ok-mark.mark (AreShownAt s p.id casts cells from)) c.deref.ensures.value (subst (λ (id : List ℕ). IfSome c.in_ok-mark.mark (AreShownAt s id casts c.deref.result.now from)) c.items.ensures c.in_ok-mark.ensures.some) in
    let none = subst (λ (cells : List AskedCell). IfNone c.in_ok-mark.mark (AreNeverShown s p.id casts cells from)) c.deref.ensures.value (subst (λ (id : List ℕ). IfNone c.in_ok-mark.mark (AreNeverShown s id casts c.deref.result.now from)) c.items.ensures c.in_ok-mark.ensures.none) in
    subst (λ (b : Bool). IsTrue b ↔ IsMetFrom h from casts p) (sym c.is_some.ensures) (piece_met h s casts p from c.in_ok-mark.mark some none store piece low)
