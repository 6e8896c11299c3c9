-- What a look at the store and its log tells holds of them as they were.
use Rattle.std.proofs.Common.{◌≡◌, refl, sym, ap, subst, ◌∙◌}
use Rattle.std.specs.FinMap as finmap
use Rattle.history.specs.Arrays.{Known}
use Rattle.history.specs.Chunks.{Chunk, chunk_key}
use Rattle.history.proofs.Laws.{some_inj}
use Rattle.shared_state.specs.Fetches.{IsDamagedThere, IsNamed}
use Rattle.shared_state.specs.Looks.{IsLook}
use Rattle.shared_state.proofs.Laws.{look_answered, decoded_damaged}
use Rattle.chunk_plans.specs.Writes.{chunk_of_write}
use Rattle.chunk_plans.proofs.Read.{looked_missed}
use Rattle.chunk_plans.proofs.reading.cells_at.Goals as goal

pub returns-in-Ok-decode-clause-answered : goal.returns-in-Ok-decode-clause-answered
returns-in-Ok-decode-clause-answered g c =
    let seen = g.K.KvStore.seen in
    let now = c.args.state.now in
    let chunk : Chunk = chunk_of_write c.args.write.now in
    let told = (subst (IsLook (seen now.store) now.log chunk) c.in-Ok-Bytes.field-0-is c.in-Ok-Bytes.ensures.looked).0 in (
      c.in-Ok-Bytes.field-0-0,
      look_answered (seen now.store) now.log chunk c.in-Ok-Bytes.field-0-0 c.in-Ok-Bytes.form c.in-Ok-Bytes.bytes (record { generation = c.in-Ok-Bytes.field-0-0; cells = c.in-Ok-decode.cells }) c.requires.agrees told refl
          c.in-Ok-decode.ensures.dtype c.in-Ok-decode.ensures.shape c.in-Ok-decode.ensures.words,
    )

pub returns-in-Ok-copy_name-clause-damaged : goal.returns-in-Ok-copy_name-clause-damaged
returns-in-Ok-copy_name-clause-damaged g c name cause e =
    let seen = g.K.KvStore.seen in
    let now = c.args.state.now in
    let w = c.args.write.now in
    let chunk : Chunk = chunk_of_write w in
    let key = c.in-Ok-copy_name.key in
    let told = (subst (IsLook (seen now.store) now.log chunk) c.in-Ok-Bytes.field-0-is c.in-Ok-Bytes.ensures.looked).0 in
    let still = c.in-Ok-Bytes.ensures.after told.array told.known ∙ looked_missed now.log told.array (chunk_key told.array w.chunk.now) told.stored told.unkept in
    let one : told.array ≡ c.requires.write.0 = some_inj told.array c.requires.write.0 (sym told.known ∙ c.requires.write.1.known) in
    let key_is : chunk_key told.array w.chunk.now ≡ key = ap (λ (k : Known). chunk_key k w.chunk.now) one ∙ c.requires.write.1.named ∙ sym (c.in-Ok-copy_name.ensures ∙ c.items.ensures) in
    let found = c.in-Err-Damaged.ensures.causes (λ no. cc) in
    let cause_is : found.0 ≡ cause = cc in
    let name_is : key ≡ name = cc in
    let named : IsNamed now.log.events chunk key = record { array = told.array; known = told.known; valid = told.valid; named = key_is } in
    let damaged = decoded_damaged (seen now.store) now.log chunk key c.in-Ok-Bytes.form c.in-Ok-Bytes.bytes c.requires.agrees named told.stored told.form_is
    (λ m is. told.held m is ∙ ap (λ n. finmap.get m n) key_is) found.0 found.2 in
    (still, subst (λ n. IsDamagedThere (seen now.store) now.log chunk n cause) name_is (subst (IsDamagedThere (seen now.store) now.log chunk key) cause_is damaged))
