-- A store that represents a history which began over an empty one, each commit being one event, holds the plain arrays.
use Rattle.std.proofs.Common.{◌≡◌, ℕ, ◌<◌, ◌≤◌, List, false, cond, Option, Some, None, inl, inr, refl, sym, ap, subst, ◌∙◌, arith}
use Rattle.std.specs.FinMap as finmap
use Rattle.std.proofs.Math.Decide.{dec_le}
use Rattle.std.proofs.Math.Nat.{lt_of_not-le}
use Rattle.kv_face.specs.Store.{Contents}
use Rattle.history.specs.Words.{is_inside}
use Rattle.stack_driver.specs.Targets.{Cell}
use Rattle.history.specs.declared.array.ArrayInfo.{ArrayInfo}
use Rattle.history.specs.declared.array.Home.{Home}
use Rattle.history.specs.declared.array.Home.TheVariants.{Zarr, N5, Zarr3, Local}
use Rattle.history.specs.History.{History}
use Rattle.history.specs.Arrays.{Known, known_after, chunk_shape, is_local}
use Rattle.history.specs.Chunks.{Chunk, chunk_in, cell_at}
use Rattle.history.specs.Content.{content_after, world_in, word_outside}
use Rattle.history.specs.Joint.{IsJoint}
use Rattle.history.specs.Legal.{IsLegal}
use Rattle.history.specs.Plain.{plain_after, new_word}
use Rattle.history.specs.Store.{IsChunkKept, shape_when_touched, metadata_bytes, RepresentsHistory}
use Rattle.history.specs.Touch.{generation_of}
use Rattle.history.proofs.Apart.{key_is, one_key, no_metadata}
use Rattle.history.proofs.Geometry.{chunk_index-in_array}
use Rattle.history.proofs.Known.{some_inj}
use Rattle.history.proofs.Outside.{opens_with, outside_word}
use Rattle.history.proofs.Plain.{plain-world}
use Rattle.history.proofs.Tests.{true_or_false}
use Rattle.history.proofs.Untouched.{content_of_opening}
use Rattle.serial_runs.specs.Held.{IsStoredChunk, padded_word, IsFillAlone, IsHeld, HoldsArrays}

stored_outside : (home : Home) (fill : ℕ) → is_local home ≡ false → word_outside home fill ≡ Some fill
stored_outside (Zarr mount path meta) fill e = refl
stored_outside (N5 mount path meta) fill e = refl
stored_outside (Zarr3 mount path meta) fill e = refl
stored_outside (Local start) fill e = absurd (cc)

stored_new : (info : ArrayInfo) (home : Home) (x : Cell) → is_local home ≡ false → new_word info home x ≡ Some info.fill
stored_new info (Zarr mount path meta) x e = refl
stored_new info (N5 mount path meta) x e = refl
stored_new info (Zarr3 mount path meta) x e = refl
stored_new info (Local start) x e = absurd (cc)

module _ (history : History) (legal : IsLegal finmap.empty history) (joint : IsJoint history) where
  -- the words of a stored array by the chunks that events touch are those of the plain array, with the fill around it
  padded-content : (x : Cell) (k : Known) → known_after history x.array ≡ Some k → is_local k.info.home ≡ false → padded_word history k x ≡ content_after finmap.empty history x
  padded-content x k is stored =
      elim (true_or_false (is_inside k.shape x.index)) [
        | inl inside ↦
            ap (λ b. cond b ((plain_after history).words x) (Some k.info.fill)) inside ∙ plain-world x history legal joint
            ∙ ap (λ o. world_in o x (content_after finmap.empty history x)) is ∙ ap (λ b. cond b (content_after finmap.empty history x) None) inside
        | inr out ↦
            ap (λ b. cond b ((plain_after history).words x) (Some k.info.fill)) out ∙ sym (stored_outside k.info.home k.info.fill stored) ∙ sym (outside_word x history legal k is out)
      ]

  module _ (c : Chunk) (k : Known) (key : List ℕ) (s : IsStoredChunk history k c key) where
    to_content : (index : List ℕ) → padded_word history k (cell_at k c index) ≡ content_after finmap.empty history (cell_at k c index)
    to_content index = padded-content (cell_at k c index) k s.known s.stored

    kept_to : (o : Option (List ℕ)) → IsChunkKept finmap.empty history k c (shape_when_touched history c) o → IsHeld history k c o
    kept_to None all = λ index inside. to_content index ∙ all index inside
    kept_to (Some bytes) kept = (
      record { word = kept.0.word; writes = kept.0.writes; cells = λ index inside. to_content index ∙ kept.0.cells index inside },
      λ all. kept.1 (λ index inside. sym (to_content index) ∙ all index inside),
    )

    -- a chunk that nothing has touched since the opening has the fill alone
    untouched_fill : generation_of history c ≤ k.opened → IsFillAlone history k c
    untouched_fill low index inside =
        let x : Cell = cell_at k c index in
        let same : chunk_in (Some k) x ≡ c = λ i. record { array = c.array; index = chunk_index-in_array (chunk_shape k.info) c.index index inside s.valid.rank i } in
        to_content index ∙ content_of_opening finmap.empty x history k s.known (subst (λ d. generation_of history d ≤ k.opened) (sym same) low) ∙ opens_with k x ∙ stored_new k.info k.info.home x s.stored

  held : (store : Contents) → RepresentsHistory store finmap.empty history → HoldsArrays store history
  held store rep = record {
    metadata = λ a k key has. rep.metadata a k key has ∙ ap (metadata_bytes history a k) (finmap.get-empty _ key);
    chunks = λ c k key s. by_touch c k key s;
    others = λ key no_chunk none. rep.others key (λ c k changed named. no_chunk c k (record { known = changed.known; stored = changed.stored; valid = changed.valid; named = named })) none ∙ finmap.get-empty _ key;
  } where
    by_touch : (c : Chunk) (k : Known) (key : List ℕ) → IsStoredChunk history k c key → IsHeld history k c (finmap.get store key)
    by_touch c k key s =
        elim (dec_le (generation_of history c) k.opened) [
          | no late ↦ kept_to c k key s (finmap.get store key) (rep.chunks c k key (record { known = s.known; stored = s.stored; valid = s.valid; touched = lt_of_not-le late }) s.named)
          | yes low ↦
              let absent : finmap.get store key ≡ None =
              rep.others key
              (λ d l changed named.
              let one : c ≡ d = one_key finmap.empty history legal c d k l key s.known changed.known s.valid changed.valid s.named named in
              let known : k ≡ l = some_inj k l (sym s.known ∙ ap (λ (b : Chunk). known_after history b.array) one ∙ changed.known) in
              let late : k.opened < generation_of history c = subst (λ (m : Known). m.opened < generation_of history c) (sym known) (subst (λ b. l.opened < generation_of history b) (sym one) changed.touched) in
              absurd (omega (arith, low, late)))
              (λ a l has. no_metadata finmap.empty history legal c a k l key s.known s.valid has (key_is history c k key s.known s.named))
              ∙ finmap.get-empty _ key in
              subst (IsHeld history k c) (sym absent) (untouched_fill c k key s low)
        ]

-- over an empty store, where each commit is one event
pub holds_arrays : (store : Contents) (history : History) → IsLegal finmap.empty history → IsJoint history → RepresentsHistory store finmap.empty history → HoldsArrays store history
holds_arrays store history legal joint = held history legal joint store
