use Rattle.std.proofs.Common.{◌≡◌, ◌∙◌, ℕ, List, drop, length, true, false, sym, ap, subst, arith}
use Rattle.std.specs.Prelude.{get_or}
use Rattle.std.proofs.lemmas.Result.{IfOk-weaker}
use Rattle.array_homes.specs.Names.{HasRank}
use Rattle.history.specs.Chunks.{Chunk, chunk_key}
use Rattle.read_fits.specs.Conflicts.{HasCell, IsArrayOf}
use Rattle.read_fits.proofs.ConflictLaws.{array_is, chunk_is, chunk_of_id, id_some, key_named, none_left, rank_is, some_left}
use Rattle.read_fits.proofs.conflicts.Conflict.is_of.Goals as goal

-- an id without a number is that of no chunk
pub returns-then-is_empty : goal.returns-then-is_empty
returns-then-is_empty c = λ h tables chunks. (
  (λ so. absurd (let clash : false ≡ true = so in cc)),
  (λ met.
      let some = id_some c.args.id.now met.0 met.1 in
      let none = none_left (length c.args.id.now) (sym c.is_empty.ensures ∙ c.if-is_empty.true) in
      absurd (omega (arith, some, none))),
)

pub returns-then-not-was_touched : goal.returns-then-not-was_touched
returns-then-not-was_touched c = λ h tables chunks. (
  (λ so. absurd (let clash : false ≡ true = so in cc)),
  (λ met.
      let has = chunks met.0 met.1 in
      let so : c.was_touched.result ≡ true = (c.was_touched.ensures h has.array met.0 tables.touches (chunk_is h c.args.openings.now c.args.store.now tables c.args.id.now met.0 met.1 has)).1 met.2.touches in
      let clash : true ≡ false = sym so ∙ c.if-not-was_touched.true in
      absurd (cc)),
)

pub has_key-requires-clause-some : goal.has_key-requires-clause-some
has_key-requires-clause-some c = some_left (length c.args.id.now) (sym c.is_empty.ensures ∙ c.if-is_empty.false)

pub has_key-requires-clause-array : goal.has_key-requires-clause-array
has_key-requires-clause-array c =
    let found = chunk_of_id c.args.id.now (some_left (length c.args.id.now) (sym c.is_empty.ensures ∙ c.if-is_empty.false)) in
    let chunk : Chunk = found.0 in
    let h = c.requires.0 in
    let tables = c.requires.1 in
    let has : HasCell h chunk = c.requires.2 chunk found.1 in (
      has.array,
      subst (λ (id : List ℕ). IsArrayOf c.args.openings.now (get_or id 0 0) has.array) (sym found.1) (array_is h c.args.openings.now c.args.store.now tables chunk has),
      subst (λ (id : List ℕ). HasRank has.array.info.home (drop 1 id)) (sym found.1) (rank_is h c.args.openings.now c.args.store.now tables chunk has),
    )

pub returns : goal.returns
returns c =
    IfOk-weaker c.has_key.result _ _
    (λ is tests h tables chunks.
    let found = chunk_of_id c.args.id.now (some_left (length c.args.id.now) (sym c.is_empty.ensures ∙ c.if-is_empty.false)) in (
      (λ so.
          let has = chunks found.0 found.1 in
          let array = subst (λ (id : List ℕ). IsArrayOf c.args.openings.now (get_or id 0 0) has.array) (sym found.1) (array_is h c.args.openings.now c.args.store.now tables found.0 has) in
          let key = sym (ap (λ (id : List ℕ). chunk_key has.array (drop 1 id)) found.1) ∙ (tests has.array array).0 so in
          let touches = (c.was_touched.ensures h has.array found.0 tables.touches (chunk_is h c.args.openings.now c.args.store.now tables c.args.id.now found.0 found.1 has)).0 c.if-not-was_touched.false in
          (found.0, found.1, record { named = (key_named h found.0 has.array c.args.self.now.key has.known).0 key; touches = touches })),
      (λ met.
          let has = chunks met.0 met.1 in
          let array = subst (λ (id : List ℕ). IsArrayOf c.args.openings.now (get_or id 0 0) has.array) (sym met.1) (array_is h c.args.openings.now c.args.store.now tables met.0 has) in
          let key = (key_named h met.0 has.array c.args.self.now.key has.known).1 met.2.named in
          (tests has.array array).1 (ap (λ (id : List ℕ). chunk_key has.array (drop 1 id)) met.1 ∙ key)),
    )) c.has_key.ensures
