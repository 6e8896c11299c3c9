use Rattle.std.proofs.Common.{◌≡◌, ◌∙◌, Err, ap}
use Rattle.history.specs.Arrays.{known_after}
use Rattle.history.specs.Chunks.{Chunk, chunk_key}
use Rattle.shared_state.specs.Log.{Log}
use Rattle.shared_state.proofs.Laws.{looked_events}
use Rattle.chunk_fetches.specs.Kept.{chunk_at}
use Rattle.chunk_fetches.proofs.LookLaws.{chunk_parts, err_inj, failed_at, failed_look, looked_is}
use Rattle.chunk_fetches.proofs.AnswerLaws.{if_ok_two}
use Rattle.chunk_fetches.specs.declared.error.LookError.TheVariants.{StoreFailed}
use Rattle.chunk_fetches.proofs.looking.look_at.Goals as goal

pub returns-in-Ok-clause-looked : goal.returns-in-Ok-clause-looked
returns-in-Ok-clause-looked c d = if_ok_two d.named.result d.named.ensures.look d.named.ensures.key (λ l same key opening agrees.
    let log = d.args.state.now.log in
    let chunk = chunk_parts (chunk_at d.args.id.now) _ _ d.array_in.ensures d.index_in.ensures in
    let k = d.requires.chunk.array in
    let known = ap (λ (x : Chunk). known_after log.events x.array) chunk ∙ d.requires.chunk.known in
    let events : d.look.new.self.log.events ≡ log.events = ap (λ (m : Log). m.events) (d.in-Ok.ensures.after k known) ∙ looked_events log k (chunk_key k _) in
    looked_is opening _ log d.look.new.self.log _ (chunk_at d.args.id.now) d.in-Ok.look l chunk d.requires.chunk d.in-Ok.ensures.looked same events key agrees)

pub returns-in-Err-clause-failed : goal.returns-in-Err-clause-failed
returns-in-Err-clause-failed c d event is =
    let failed = d.in-Err.ensures.left.failed event (ap Err (failed_look d.in-Err.e d.unlooked.result event d.unlooked.ensures (err_inj d.unlooked.result (StoreFailed event) is))) in
    failed_at d.args.owner _ (chunk_at d.args.id.now) _ _ d.args.state.now.log d.look.new.self.log event (chunk_parts (chunk_at d.args.id.now) _ _ d.array_in.ensures d.index_in.ensures) failed
