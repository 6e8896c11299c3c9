use Rattle.std.proofs.Common.{◌≡◌, true, false, cond, sym, ap, subst, ◌∙◌}
use Rattle.std.proofs.lemmas.Result.{IfOk-weaker}
use Rattle.chunk_cache.specs.Cache.{kept, after_hit}
use Rattle.state_laws.specs.Arrays.{is_local}
use Rattle.state_laws.specs.Chunks.{Chunk}
use Rattle.state_laws.specs.Agreement.{Agrees}
use Rattle.state_laws.specs.Log.{Log, StateOf, log_of, cells_held}
use Rattle.state_laws.specs.Fetches.{looked_at}
use Rattle.state_laws.proofs.Laws.{agrees_looked, answered_some}
use Rattle.shared_state.proofs.Cases.{either_way}
use Rattle.shared_state.proofs.state.State.kept_at.Goals as goal

pub returns-then-is_local-clause-answered : goal.returns-then-is_local-clause-answered
returns-then-is_local-clause-answered g c =
    let log = c.args.self.now.log in
    let named = c.requires.named in
    let k = named.array in
    let key = c.args.key.now in
    let chunk : Chunk = record { array = c.args.array; index = c.args.chunk.now } in
    let local : is_local k.info.home ≡ true = sym (c.is_local.ensures k named.known) ∙ c.if-is_local.true in
    IfOk-weaker c.share_held.result _ _
    (λ o is. answered_some _ log chunk key k o named named.known c.requires.agrees (is ∙ sym (ap (λ b. cond b (cells_held log c.args.array) (kept key log.cache.entries)) local))) c.share_held.ensures

pub returns-clause-answered : goal.returns-clause-answered
returns-clause-answered g c =
    let log = c.args.self.now.log in
    let named = c.requires.named in
    let k = named.array in
    let key = c.args.key.now in
    let chunk : Chunk = record { array = c.args.array; index = c.args.chunk.now } in
    let same : log_of c.self.inside.records ≡ log = ap (λ (st : StateOf g.row.K.Denot). st.log) c.self.view_is in
    let stored : is_local k.info.home ≡ false = sym (c.is_local.ensures k named.known) ∙ c.if-is_local.false in
    IfOk-weaker c.hit.result _ _
    (λ o is. answered_some _ log chunk key k o named named.known c.requires.agrees
    (is ∙ ap (λ (l : Log). kept key l.cache.entries) same ∙ sym (ap (λ b. cond b (cells_held log c.args.array) (kept key log.cache.entries)) stored))) c.hit.ensures.value

pub returns-clause-kept : goal.returns-clause-kept
returns-clause-kept g c = λ opening agrees.
    let log = c.args.self.now.log in
    let named = c.requires.named in
    let k = named.array in
    let key = c.args.key.now in
    let same : log_of c.self.inside.records ≡ log = ap (λ (st : StateOf g.row.K.Denot). st.log) c.self.view_is in
    let store = g.K.KvStore.seen in
    let kept_store = ap (λ (st : StateOf g.row.K.Denot). store st.store) c.self.view_is in
    let stored : is_local k.info.home ≡ false = sym (c.is_local.ensures k named.known) ∙ c.if-is_local.false in
    let hit = λ (l : Log). record l { cache = record l.cache { entries = after_hit key l.cache.entries } } in
    let looked : looked_at log k key ≡ hit log = ap (λ b. cond b log (hit log)) stored in
    subst (λ s. Agrees opening s (log_of c.hit.new.self)) (sym kept_store)
    (either_way c.hit.result c.hit.ensures.after c.hit.ensures.err
    (λ done. subst (Agrees opening (store c.args.self.now.store)) (sym (ap log_of done ∙ ap hit same ∙ sym looked)) (agrees_looked opening (store c.args.self.now.store) log k key agrees))
    (λ failed. subst (Agrees opening (store c.args.self.now.store)) (sym (ap log_of failed ∙ same)) agrees))
