use Rattle.std.proofs.Common.{sym, ap, subst, ◌∙◌}
use Rattle.history.specs.History.{History}
use Rattle.history.specs.Chunks.{Chunk, chunk_key}
use Rattle.state_laws.specs.Fetches.{IsChunkOf}
use Rattle.state_laws.specs.Log.{Log}
use Rattle.state_laws.proofs.Laws.{looked_events}
use Rattle.state_cases.proofs.Ready.{ready_kept}
use Rattle.state_cases.proofs.Usable.{usable_of}
use Rattle.state_cases.proofs.settling.settle.Goals as goal

pub look-requires-clause-agrees : goal.look-requires-clause-agrees
look-requires-clause-agrees g c = (c.requires.ready.opening, c.requires.ready.agrees)

pub settle_look-requires-clause-ready : goal.settle_look-requires-clause-ready
settle_look-requires-clause-ready g c =
    let seen = g.K.KvStore.seen in
    let chunk : Chunk = record { array = c.args.array; index = c.args.chunk.now } in
    let log = c.args.state.now.log in
    let r = c.requires.ready in
    let late = c.look.ensures.left.kept r.opening r.agrees in
    let known = c.requires.chunk in
    let same = ap (λ (l : Log). l.events) (c.in-Ok.ensures.after known.array known.known) ∙ looked_events log known.array (chunk_key known.array c.args.chunk.now) in
    record {
      ready = record { opening = r.opening; agrees = late; every = r.every };
      usable = usable_of (seen c.args.state.now.store) (seen c.look.new.self.store) log c.look.new.self.log chunk c.in-Ok.look r same late c.in-Ok.ensures.looked;
    }

pub settle_look-requires-clause-chunk : goal.settle_look-requires-clause-chunk
settle_look-requires-clause-chunk g c =
    let chunk : Chunk = record { array = c.args.array; index = c.args.chunk.now } in
    let log = c.args.state.now.log in
    let known = c.requires.chunk in
    let same = ap (λ (l : Log). l.events) (c.in-Ok.ensures.after known.array known.known) ∙ looked_events log known.array (chunk_key known.array c.args.chunk.now) in
    subst (λ (h : History). IsChunkOf h chunk) (sym same) c.requires.chunk

pub returns-in-Err : goal.returns-in-Err
returns-in-Err g c = ready_kept _ _ _ _ c.requires.ready c.look.ensures.left.kept
