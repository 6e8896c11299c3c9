use Rattle.std.proofs.Common.{Option, subst}
use Rattle.std.specs.Global.{Vec}
use Rattle.event_replay.specs.declared.demand.AskedPiece.{AskedPiece}
use Rattle.event_replay.specs.Demands.{AreTellingPieces}
use Rattle.event_replay.proofs.Demanded.{tells_seen, never_seen}
use Rattle.event_replay.proofs.demanding.demand_of.Goals as goal

pub returns-in_default : goal.returns-in_default
returns-in_default c =
    never_seen c.args.cells c.args.staging.now c.args.words.now (subst (λ (found : Option (Vec AskedPiece)). AreTellingPieces c.args.cells c.args.staging.now c.args.words.now found) c.in_default.is c.in_ok-pieces.ensures)

pub returns : goal.returns
returns c =
    let told = subst (λ (found : Option (Vec AskedPiece)). AreTellingPieces c.args.cells c.args.staging.now c.args.words.now found) c.in-Some.is c.in_ok-pieces.ensures in
    tells_seen c.args.cells c.args.staging.now c.args.words.now (record { casts = c.in_ok-casts.casts; pieces = c.in-Some.pieces }) c.in_ok-casts.ensures told
