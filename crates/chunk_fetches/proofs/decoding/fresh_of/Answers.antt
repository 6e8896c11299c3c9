use Rattle.std.proofs.Common.{◌≡◌, ◌∙◌, Some, refl, ap, subst}
use Rattle.chunk_forms.specs.Words.{stored_fault}
use Rattle.history.specs.Damaged.{IsDamaged}
use Rattle.chunk_fetches.proofs.FreshLaws.{fresh_kept, fresh_decoded, damaged_look, damaged_parts, cause_told}
use Rattle.chunk_fetches.proofs.decoding.fresh_of.Goals as goal

pub returns-in-Kept-clause-fresh : goal.returns-in-Kept-clause-fresh
returns-in-Kept-clause-fresh c opening events at h = fresh_kept opening events at c.args.l _ h c.in-Kept.is refl

pub returns-in-Ok-clause-fresh : goal.returns-in-Ok-clause-fresh
returns-in-Ok-clause-fresh c opening events at h =
    fresh_decoded opening events at c.args.l _ c.in-Bytes.generation c.in-Bytes.form c.in-Bytes.bytes h c.in-Bytes.is refl c.in-Ok.ensures.generation c.in-Ok.ensures.dtype c.in-Ok.ensures.shape c.in-Ok.ensures.words

pub returns-in-Err-Damaged-clause-damaged : goal.returns-in-Err-Damaged-clause-damaged
returns-in-Err-Damaged-clause-damaged c key cause is opening events at start h told =
    let parts = damaged_parts c.args.l.key key c.in-Err-Damaged.cause cause is in
    let why : stored_fault c.in-Bytes.form c.in-Bytes.bytes ≡ Some c.in-Err-Damaged.cause = cause_told c.in-Err-Damaged.field-0 c.in-Err-Damaged.cause _ c.in-Err-Damaged.field-0-is c.in-Err-Damaged.ensures.causes in
    subst (λ k. IsDamaged start events at k cause) parts.0
    (damaged_look opening events at c.args.l c.in-Bytes.generation c.in-Bytes.form c.in-Bytes.bytes c.in-Bytes.bounds cause start h c.in-Bytes.is (why ∙ ap Some parts.1) told)
