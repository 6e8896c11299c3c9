use Rattle.std.proofs.Common.{subst}
use Rattle.history.specs.Chunks.{Chunk}
use Rattle.state_laws.specs.declared.reading.Look.{Look}
use Rattle.state_cases.specs.Usable.{IsUsable}
use Rattle.state_cases.proofs.settling.settle_look.Goals as goal

pub settle_bytes-requires-clause-ready : goal.settle_bytes-requires-clause-ready
settle_bytes-requires-clause-ready g c =
    let chunk : Chunk = record { array = c.args.array; index = c.args.chunk.now } in
    let r = c.requires.ready in
    record { ready = r.ready; usable = subst (λ (l : Look). IsUsable r.ready.opening c.args.state.now.log chunk l) c.in-Bytes.is r.usable }

pub returns-in-Kept : goal.returns-in-Kept
returns-in-Kept g c = c.requires.ready.ready
