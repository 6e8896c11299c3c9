-- Looks at chunks.
use Rattle.std.proofs.Common.{◌≡◌, ◌∙◌, ℕ, List, Some, Err, Result, refl, sym, ap, subst}
use Rattle.history.specs.Arrays.{known_after}
use Rattle.history.specs.Chunks.{Chunk, key_of}
use Rattle.shared_state.specs.Agreement.{Opening, Agrees}
use Rattle.shared_state.specs.Fetches.{IsChunkOf}
use Rattle.shared_state.specs.declared.Look.{Look}
use Rattle.chunk_fetches.specs.declared.looked.Looked.{Looked}
use Rattle.shared_state.specs.Log.{Log}
use Rattle.shared_state.specs.Looks.{IsLook, IsFailedLook}
use Rattle.shared_state.specs.Seen.{StoreSeen}
use Rattle.shared_state.specs.declared.FetchError.{FetchError}
use Rattle.shared_state.specs.declared.FetchError.TheVariants as fetch
use Rattle.chunk_fetches.specs.Looking.{HasFailedAt, IsLookedAt}
use Rattle.chunk_fetches.specs.Refusals.{IsSameRefusal}
use Rattle.chunk_fetches.specs.declared.error.LookError.{LookError}
use Rattle.chunk_fetches.specs.declared.error.LookError.TheVariants as look

-- the chunk of an id by its parts
pub chunk_parts : (c : Chunk) (array : ℕ) (index : List ℕ) → array ≡ c.array → index ≡ c.index → record { array = array; index = index } ≡ c
chunk_parts c array index one other = (λ i. record { array = one i; index = other i })

-- an answer of a look that is refused
abbrev pub refused : LookError → Result Looked LookError
refused e = Err e

pub err_inj : (e f : LookError) → refused e ≡ refused f → e ≡ f
err_inj e f is = cc

-- a look that told something
pub looked_is : (opening : Opening) (store : StoreSeen) (log later : Log) (at c : Chunk) (look : Look) (l : Looked) → at ≡ c → IsChunkOf log.events c → IsLook store log at look → l.look ≡ look → later.events ≡ log.events → key_of later.events c ≡ Some l.key
    → Agrees opening store log → IsLookedAt opening log.events c l
looked_is opening store log later at c look l chunk is_chunk told same events key agrees = record {
  store = store;
  log = log;
  events_are = refl;
  agrees = agrees;
  chunk = is_chunk;
  look = subst (λ x. IsLook store log x l.look) chunk (subst (IsLook store log at) (sym same) told);
  key = ap (λ h. key_of h c) (sym events) ∙ key;
}

-- a look that the store failed
pub failed_look : (e : FetchError) (r : LookError) (event : ℕ) → IsSameRefusal e r → r ≡ look.StoreFailed event → e ≡ fetch.StoreFailed event
failed_look (fetch.StoreFailed n) r event same is = let number : look.StoreFailed n ≡ look.StoreFailed event = sym same ∙ is in cc
failed_look (fetch.Damaged key cause) r event same is = absurd same
failed_look fetch.Memory r event same is = let clash : look.Memory ≡ look.StoreFailed event = sym same ∙ is in absurd (let no_such : ⊥ = cc in no_such)

pub failed_at : (owner : ℕ) (at c : Chunk) (store next : StoreSeen) (log later : Log) (event : ℕ) → at ≡ c → IsFailedLook owner at store next log later event → HasFailedAt owner c log.events later.events event
failed_at owner at c store next log later event same h = record {
  array = h.array;
  known = ap (λ (x : Chunk). known_after log.events x.array) (sym same) ∙ h.known;
  mount = h.mount;
  on_mount = h.on_mount;
  added = ap (λ (l : Log). l.events) h.failed.added;
  number = h.failed.number;
}
