-- What the store holds under a chunk's key are the words of its cells.
use Rattle.std.proofs.Common.{◌≡◌, ℕ, ◌<◌, ◌≤◌, List, false, Option, Some, None, inl, inr, refl, sym, ap, subst, ◌∙◌, arith}
use Rattle.std.specs.FinMap as finmap
use Rattle.std.proofs.lemmas.Bool.{cases_lt}
use Rattle.cells.specs.Places.{IsInside}
use Rattle.kv_face.specs.Store.{Contents}
use Rattle.chunk_forms.specs.declared.form.Damage.{Damage}
use Rattle.chunk_forms.specs.Metadata.{chunk_shape_of, IsMetadata}
use Rattle.chunk_forms.specs.Words.{stored_word, unless_damaged, spelled_word}
use Rattle.chunk_forms.proofs.Laws.{spells_of_writes, word_in_of_spells}
use Rattle.stack_driver.specs.Targets.{Cell}
use Rattle.history.specs.declared.array.ArrayInfo.{ArrayInfo}
use Rattle.history.specs.declared.array.Home.{Home}
use Rattle.history.specs.declared.array.Home.TheVariants.{Zarr, N5, Zarr3, Local}
use Rattle.history.specs.History.{History}
use Rattle.history.specs.Arrays.{Known, known_after, chunk_shape, chunk_shape_in, form_of, is_local}
use Rattle.history.specs.Chunks.{Chunk, IsIndexOf, chunk_in, chunk_index, within_chunk, cell_at, chunk_key, key_in}
use Rattle.history.specs.Touch.{generation_of}
use Rattle.history.specs.Start.{opening_word_in, word_at_start}
use Rattle.history.specs.Content.{content_after}
use Rattle.history.specs.Legal.{IsLegal, IsAsKept}
use Rattle.history.specs.Store.{IsChunkKept, shape_when_touched, RepresentsHistory}
use Rattle.history.specs.Damaged.{IsDamaged}
use Rattle.history.proofs.Known.{known_good, some_inj}
use Rattle.history.proofs.Untouched.{content_of_opening}
use Rattle.history.proofs.Geometry.{chunk_index-in_array, within_chunk-in_array}
use Rattle.history.proofs.Apart.{one_chunk, key_is, no_metadata}

chunk_is : (home : Home) (shape : List ℕ) → is_local home ≡ false → chunk_shape_in home shape ≡ chunk_shape_of (form_of home)
chunk_is (Zarr mount path meta) shape e = refl
chunk_is (N5 mount path meta) shape e = refl
chunk_is (Zarr3 mount path meta) shape e = refl
chunk_is (Local start) shape e = absurd (cc)

valid_form : (info : ArrayInfo) (home : Home) → is_local home ≡ false → IsAsKept info home → IsMetadata (form_of home)
valid_form info (Zarr mount path meta) e is = is.valid
valid_form info (N5 mount path meta) e is = is.valid
valid_form info (Zarr3 mount path meta) e is = is.valid
valid_form info (Local start) e is = absurd (cc)

-- a chunk that is kept has the words of its bytes
pub word_of_kept : (start : Contents) (events : History) (k : Known) (c : Chunk) (shape : List ℕ) (bytes : Option (List ℕ)) (index : List ℕ) → is_local k.info.home ≡ false → IsAsKept k.info k.info.home → IsInside (chunk_shape k.info) index
    → IsChunkKept start events k c shape bytes → content_after start events (cell_at k c index) ≡ stored_word (form_of k.info.home) k.info.fill bytes index
word_of_kept start events k c shape None index stored is inside kept = kept index inside
word_of_kept start events k c shape (Some bytes) index stored is inside kept =
    let form = form_of k.info.home in
    kept.0.cells index inside
    ∙ sym (word_in_of_spells form bytes kept.0.word index (valid_form k.info k.info.home stored is) (spells_of_writes form c.index shape bytes kept.0.word kept.0.writes) (subst (λ s. IsInside s index) (chunk_is k.info.home k.info.shape stored) inside))

opens_stored : (start : Contents) (k : Known) (home : Home) (x : Cell) → is_local home ≡ false → opening_word_in start k home x ≡ word_at_start start k x
opens_stored start k (Zarr mount path meta) x e = refl
opens_stored start k (N5 mount path meta) x e = refl
opens_stored start k (Zarr3 mount path meta) x e = refl
opens_stored start k (Local cells) x e = absurd (cc)

-- a chunk that nothing has touched since its array's opening has the words of its bytes at the start
pub word_at_opening : (start : Contents) (events : History) (k : Known) (c : Chunk) (index : List ℕ) → known_after events c.array ≡ Some k → is_local k.info.home ≡ false → IsIndexOf k.info c.index → IsInside (chunk_shape k.info) index
    → generation_of events c ≤ k.opened → content_after start events (cell_at k c index) ≡ stored_word (form_of k.info.home) k.info.fill (finmap.get start (chunk_key k c.index)) index
word_at_opening start events k c index is stored p inside small =
    let x = cell_at k c index in
    let ns = chunk_shape k.info in
    let form = form_of k.info.home in
    let at : chunk_index ns x.index ≡ c.index = chunk_index-in_array ns c.index index inside p.rank in
    let same : chunk_in (Some k) x ≡ c = λ i. record { array = c.array; index = at i } in
    content_of_opening start x events k is (subst (λ d. generation_of events d ≤ k.opened) (sym same) small)
    ∙ opens_stored start k k.info.home x stored
    ∙ ap (λ cs. stored_word form k.info.fill (finmap.get start (chunk_key k cs)) (within_chunk ns x.index)) at
    ∙ ap (stored_word form k.info.fill (finmap.get start (chunk_key k c.index))) (within_chunk-in_array ns c.index index inside p.rank)

-- a stored chunk that no event has touched since its array's opening lies in the store as at the start
pub same_as_start : (store start : Contents) (events : History) (c : Chunk) (k : Known) → IsLegal start events → RepresentsHistory store start events → known_after events c.array ≡ Some k → IsIndexOf k.info c.index → generation_of events c ≤ k.opened
    → finmap.get store (chunk_key k c.index) ≡ finmap.get start (chunk_key k c.index)
same_as_start store start events c k legal represents is p small =
    represents.others (chunk_key k c.index) (λ d l changed named.
    let one = one_chunk start events legal c d k l is changed.known p changed.valid (sym (key_is events d l (chunk_key k c.index) changed.known named)) in
    let same : k ≡ l = some_inj k l (sym is ∙ ap (λ (b : Chunk). known_after events b.array) one ∙ changed.known) in
    let late : l.opened < generation_of events d = changed.touched in
    let opened : l.opened ≡ k.opened = ap (λ (m : Known). m.opened) (sym same) in
    let number : generation_of events d ≡ generation_of events c = ap (generation_of events) (sym one) in
    absurd (omega arith)) (λ a l has. no_metadata start events legal c a k l (chunk_key k c.index) is p has refl)

-- whatever chunk of a stored array is read, the store's bytes have its words: none where they are no chunk
pub words_of_store : (store start : Contents) (events : History) (c : Chunk) (k : Known) (index : List ℕ) → IsLegal start events → RepresentsHistory store start events → known_after events c.array ≡ Some k → is_local k.info.home ≡ false → IsIndexOf k.info c.index → IsInside (chunk_shape k.info) index
    → content_after start events (cell_at k c index) ≡ stored_word (form_of k.info.home) k.info.fill (finmap.get store (chunk_key k c.index)) index
words_of_store store start events c k index legal represents is stored p inside =
    elim (cases_lt k.opened (generation_of events c)) [
      | inl late ↦
          word_of_kept start events k c (shape_when_touched events c) (finmap.get store (chunk_key k c.index)) index stored (known_good start c.array events legal k is).kept inside
          (represents.chunks c k (chunk_key k c.index) (record { known = is; stored = stored; valid = p; touched = late }) (ap (λ o. key_in o c) is))
      | inr early ↦
          let small : generation_of events c ≤ k.opened = early in
          word_at_opening start events k c index is stored p inside small
          ∙ ap (λ o. stored_word (form_of k.info.home) k.info.fill o index) (sym (same_as_start store start events c k legal represents is p small))
    ]

-- a damaged chunk has no number at any of its cells
pub no_word_of_damaged : (start : Contents) (events : History) (c : Chunk) (key : List ℕ) (cause : Damage) (index : List ℕ) (damaged : IsDamaged start events c key cause) → IsInside (chunk_shape damaged.array.info) index → content_after start events (cell_at damaged.array c index) ≡ None
no_word_of_damaged start events c key cause index damaged inside =
    let k = damaged.array in
    let form = form_of k.info.home in
    let text : chunk_key k c.index ≡ key = key_is events c k key damaged.known damaged.named in
    word_at_opening start events k c index damaged.known damaged.stored damaged.valid inside damaged.untouched
    ∙ ap (λ t. stored_word form k.info.fill (finmap.get start t) index) text ∙ ap (λ o. stored_word form k.info.fill o index) damaged.held
    ∙ ap (λ o. unless_damaged o (spelled_word form damaged.bytes index)) damaged.broken
