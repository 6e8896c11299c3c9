use Rattle.std.proofs.Common.{◌≡◌, ◌<◌, None, Some, Ok, Err, refl, sym, ap, subst, ◌∙◌}
use Rattle.std.specs.Prelude.{IfOk, OnErr, string_bytes}
use Rattle.std.proofs.lemmas.Result.{IfOk-weaker}
use Rattle.state_laws.specs.Chunks.{Chunk, chunk_key}
use Rattle.state_laws.proofs.Laws.{none_is_none}
use Rattle.state_laws.specs.Agreement.{IsState}
use Rattle.state_laws.specs.Log.{Log}
use Rattle.state_laws.specs.Seen.{IsRead}
use Rattle.state_laws.specs.Arrays.{known_after}
use Rattle.state_laws.specs.Fetches.{IsAnswered, IsDamagedThere, IsNamed, kept_of, settled}
use Rattle.state_laws.specs.Looks.{HasBounds, IsLook}
use Rattle.state_laws.specs.declared.error.FetchError.TheVariants as fetch
use Rattle.state_laws.proofs.Laws.{look_answered, decoded_damaged, not_risen}
use Rattle.shared_state.proofs.Looked.{answered_back, damaged_back, stored_forth}
use Rattle.shared_state.proofs.state.State.fetch.Goals as goal

pub put-requires-clause-agrees : goal.put-requires-clause-agrees
put-requires-clause-agrees g c = (c.requires.agrees.0, c.look_at.ensures.left.kept c.requires.agrees.0 c.requires.agrees.1)

pub put-requires-clause-answered : goal.put-requires-clause-answered
put-requires-clause-answered g c =
    let seen = g.K.KvStore.seen in
    let now = c.args.self.now in
    let next = seen c.look_at.new.self.store in
    let chunk : Chunk = record { array = c.args.array; index = c.args.chunk.now } in
    let told = (subst (IsLook (seen now.store) now.log chunk) c.in-Bytes.is c.in_ok-snapshot.ensures.looked).0 in
    let still = c.look_at.ensures.still c.in-Bytes.generation c.in-Bytes.form c.in-Bytes.bytes c.in-Bytes.bounds (c.in_ok-snapshot.was ∙ ap Ok c.in-Bytes.is) in
    let state : IsState next now.log = subst (IsState next) still (c.requires.agrees.0, c.look_at.ensures.left.kept c.requires.agrees.0 c.requires.agrees.1) in
    let forth = stored_forth (seen now.store) next now.log chunk c.in-Bytes.generation c.in-Bytes.form c.in-Bytes.bytes c.look_at.ensures.left.read told in
    subst (λ l. IsAnswered next l chunk (record { generation = c.in-Bytes.generation; cells = c.in-Ok.cells })) (sym still)
    (look_answered next now.log chunk c.in-Bytes.generation c.in-Bytes.form c.in-Bytes.bytes (record { generation = c.in-Bytes.generation; cells = c.in-Ok.cells }) state forth refl
    c.in-Ok.ensures.dtype c.in-Ok.ensures.shape c.in-Ok.ensures.words)

pub returns-in-Kept-clause-miss : goal.returns-in-Kept-clause-miss
returns-in-Kept-clause-miss g c = λ k known none.
    let there = c.look_at.ensures.there c.in-Kept.snapshot c.in-Kept.bounds k (c.in_ok-snapshot.was ∙ ap Ok c.in-Kept.is) known in
    let named : c.as_str.result.now ≡ chunk_key k c.args.chunk.now = c.as_str.ensures.value ∙ c.in_ok-key.ensures k known in
    absurd (none_is_none c.in-Kept.snapshot (sym none ∙ sym (ap (kept_of c.args.self.now.log c.args.array k) named) ∙ there))

pub returns-in-Ok-clause-answered : goal.returns-in-Ok-clause-answered
returns-in-Ok-clause-answered g c =
    let seen = g.K.KvStore.seen in
    let now = c.args.self.now in
    let next = seen c.look_at.new.self.store in
    let chunk : Chunk = record { array = c.args.array; index = c.args.chunk.now } in
    let still = c.look_at.ensures.still c.in-Bytes.generation c.in-Bytes.form c.in-Bytes.bytes c.in-Bytes.bounds (c.in_ok-snapshot.was ∙ ap Ok c.in-Bytes.is) in
    let steady = not_risen (seen now.store).faults next.faults (λ rose. let was = c.look_at.ensures.left.told rose in let no : Ok c.in_ok-snapshot.field-0 ≡ Err (fetch.StoreFailed was.0) = sym c.in_ok-snapshot.was ∙ was.1 in cc) in
    IfOk-weaker c.put.result _ _
    (λ f is. answered_back (seen now.store) next now.log chunk f.snapshot c.look_at.ensures.left.read steady (subst (λ l. IsAnswered next l chunk f.snapshot) still is)) c.put.ensures.answered

pub returns-in-Ok-clause-bounds : goal.returns-in-Ok-clause-bounds
returns-in-Ok-clause-bounds g c =
    let still = c.look_at.ensures.still c.in-Bytes.generation c.in-Bytes.form c.in-Bytes.bytes c.in-Bytes.bounds (c.in_ok-snapshot.was ∙ ap Ok c.in-Bytes.is) in
    subst (λ (l : Log). IfOk c.put.result (λ f. HasBounds l c.args.array f.bounds)) still c.put.ensures.bounds

pub returns-in-Ok-clause-miss : goal.returns-in-Ok-clause-miss
returns-in-Ok-clause-miss g c =
    let still = c.look_at.ensures.still c.in-Bytes.generation c.in-Bytes.form c.in-Bytes.bytes c.in-Bytes.bounds (c.in_ok-snapshot.was ∙ ap Ok c.in-Bytes.is) in
    IfOk-weaker c.put.result _ _
    (λ f after. λ k known none. after k (subst (λ (l : Log). known_after l.events c.args.array ≡ Some k) (sym still) known)
    ∙ ap (λ n. settled c.look_at.new.self.log k n f.snapshot) (c.in_ok-key.ensures k known)
    ∙ ap (λ (l : Log). settled l k (chunk_key k c.args.chunk.now) f.snapshot) still) c.put.ensures.after

pub returns-in-Ok-clause-left : goal.returns-in-Ok-clause-left
returns-in-Ok-clause-left g c =
    let seen = g.K.KvStore.seen in
    let now = c.args.self.now in
    let left = c.look_at.ensures.left in
    let still = c.look_at.ensures.still c.in-Bytes.generation c.in-Bytes.form c.in-Bytes.bytes c.in-Bytes.bounds (c.in_ok-snapshot.was ∙ ap Ok c.in-Bytes.is) in
    record {
      read = subst (λ (s : g.row.K.Denot). IsRead (seen now.store) (seen s)) (sym c.put.ensures.store) left.read;
      failed = λ event e.
          let no = (subst (λ r. OnErr r ((r ≡ Err fetch.Memory) × (c.put.new.self.log ≡ c.look_at.new.self.log))) e c.put.ensures.err).0 in absurd (cc);
      told = λ more.
          let risen = subst (λ (s : g.row.K.Denot). (seen now.store).faults < (seen s).faults) c.put.ensures.store more in
          let was = left.told risen in
          let no : Ok c.in_ok-snapshot.field-0 ≡ Err (fetch.StoreFailed was.0) = sym c.in_ok-snapshot.was ∙ was.1 in absurd (cc);
      memory = λ e. (subst (λ r. OnErr r ((r ≡ Err fetch.Memory) × (c.put.new.self.log ≡ c.look_at.new.self.log))) e c.put.ensures.err).1 ∙ still;
      kept = λ opening agrees. c.put.ensures.kept opening (left.kept opening agrees);
    }

pub returns-in-Err-Damaged-clause-damaged : goal.returns-in-Err-Damaged-clause-damaged
returns-in-Err-Damaged-clause-damaged g c = λ name cause e.
    let seen = g.K.KvStore.seen in
    let now = c.args.self.now in
    let next = seen c.look_at.new.self.store in
    let chunk : Chunk = record { array = c.args.array; index = c.args.chunk.now } in
    let left = c.look_at.ensures.left in
    let told = (subst (IsLook (seen now.store) now.log chunk) c.in-Bytes.is c.in_ok-snapshot.ensures.looked).0 in
    let key = chunk_key told.array c.args.chunk.now in
    let named : IsNamed now.log.events chunk key = record { array = told.array; known = told.known; valid = told.valid; named = refl } in
    let still = c.look_at.ensures.still c.in-Bytes.generation c.in-Bytes.form c.in-Bytes.bytes c.in-Bytes.bounds (c.in_ok-snapshot.was ∙ ap Ok c.in-Bytes.is) in
    let state : IsState next now.log = subst (IsState next) still (c.requires.agrees.0, left.kept c.requires.agrees.0 c.requires.agrees.1) in
    let found = c.in-Err-Damaged.ensures.causes (λ no. cc) in
    let cause_is : found.0 ≡ cause = cc in
    let wrapped : c.wrap.result ≡ name = cc in
    let name_is : key ≡ name = sym (c.in_ok-key.ensures told.array told.known) ∙ sym c.wrap.ensures ∙ wrapped in
    let steady = not_risen (seen now.store).faults next.faults (λ rose. let was = left.told rose in let no : Ok c.in_ok-snapshot.field-0 ≡ Err (fetch.StoreFailed was.0) = sym c.in_ok-snapshot.was ∙ was.1 in cc) in
    let damaged = damaged_back (seen now.store) next now.log chunk key found.0 left.read steady
    (decoded_damaged next now.log chunk key c.in-Bytes.form c.in-Bytes.bytes state named told.stored told.form_is (λ m is. told.held m (sym left.read.contents ∙ is)) found.0 found.2) in
    (still, subst (λ n. IsDamagedThere (seen now.store) now.log chunk n cause) name_is (subst (IsDamagedThere (seen now.store) now.log chunk key) cause_is damaged))
