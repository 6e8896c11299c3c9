use Rattle.std.proofs.Common.{◌≡◌, true, false, cond, rules, eq-eqb, sym, ap, subst, ◌∙◌}
use Rattle.std.specs.Prelude.{◌==◌, string_bytes}
use Rattle.chunk_cache.specs.Cache.{after_keep}
use Rattle.state_laws.specs.Arrays.{is_local}
use Rattle.state_laws.specs.Chunks.{Chunk}
use Rattle.state_laws.specs.Agreement.{Agrees}
use Rattle.state_laws.specs.Log.{Log, StateOf, log_of}
use Rattle.state_laws.specs.Fetches.{settled, generation_in}
use Rattle.state_laws.proofs.Laws.{agrees_settled}
use Rattle.shared_state.proofs.Cases.{either_way}
use Rattle.shared_state.proofs.state.State.settle_at.Goals as goal

pub returns-clause-kept : goal.returns-clause-kept
returns-clause-kept g c = λ opening agrees may.
    let log = c.args.self.now.log in
    let named = c.requires.named in
    let k = named.array in
    let key = string_bytes c.args.key in
    let snapshot = c.args.snapshot in
    let chunk : Chunk = record { array = c.args.array; index = c.args.chunk.now } in
    let same : log_of c.self.inside.records ≡ log = ap (λ (st : StateOf g.row.K.Denot). st.log) c.self.view_is in
    let store = g.K.KvStore.seen in
    let kept_store = ap (λ (st : StateOf g.row.K.Denot). store st.store) c.self.view_is in
    let stored : is_local k.info.home ≡ false = sym (c.is_local.ensures k named.known) ∙ c.if-is_local.false in
    let test : c.generation_at.result ≡ c.generation.result = search rules in
    let equal : (generation_in log k key == snapshot.generation) ≡ true = eq-eqb (generation_in log k key) snapshot.generation (ap (generation_in log k) (sym c.as_str.ensures.value) ∙ sym (c.generation_at.ensures k named.known) ∙ test ∙ c.generation.ensures) in
    let keep = λ (l : Log). record l { cache = record l.cache { entries = after_keep l.cache.limit key snapshot l.cache.entries } } in
    let is : settled log k key snapshot ≡ keep log = ap (λ b. cond b log (cond (generation_in log k key == snapshot.generation) (keep log) log)) stored ∙ ap (λ b. cond b (keep log) log) equal in
    subst (λ s. Agrees opening s (log_of c.keep.new.self)) (sym kept_store)
    (either_way c.keep.result c.keep.ensures.ok c.keep.ensures.err
    (λ done. subst (Agrees opening (store c.args.self.now.store)) (sym (ap log_of done ∙ ap keep same ∙ sym is)) (agrees_settled opening (store c.args.self.now.store) log chunk key k snapshot named named.known may agrees))
    (λ failed. subst (Agrees opening (store c.args.self.now.store)) (sym (ap log_of failed ∙ same)) agrees))
