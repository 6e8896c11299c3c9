-- What a turn tells of a chunk that a commit writes.
use Rattle.std.specs.Prelude.{◌≡◌, length, Some}
use Rattle.cells.specs.Places.{cell_count}
use Rattle.chunk_forms.specs.declared.form.Form.{Form}
use Rattle.chunk_forms.specs.Metadata.{with_shape}
use Rattle.kv_face.specs.Store.{Contents}
use Rattle.history.specs.Arrays.{Known, known_after, chunk_shape, form_of}
use Rattle.history.specs.Chunks.{Chunk, IsIndexOf, chunk_key}
use Rattle.history.specs.History.{History}
use Rattle.history.specs.Store.{resized_after}
use Rattle.rebase_writes.specs.Staged.{AreWords}
use Rattle.chunk_laying.specs.Laid.{IsCovered}
use Rattle.shared_state.specs.Agreement.{Opening}
use Rattle.shared_state.specs.Kept.{IsCurrent}
use Rattle.chunk_plans.specs.Laying.{MayLay, IsBaseFor}
use Rattle.chunk_plans.specs.declared.asked.Asked.{Asked}
use Rattle.chunk_plans.specs.declared.asked.Part.{Part}
use Rattle.chunk_plans.specs.declared.asked.Under.{Under}
use Rattle.chunk_plans.specs.declared.asked.Under.TheVariants.{Covered, Kept, Unknown}

-- the chunk for which words are staged
abbrev pub chunk_of_part : Part → Chunk
chunk_of_part p = record { array = p.array; index = p.chunk.now }

-- a chunk of an array of the history, and a word of the array's dtype or none for each of its cells
pub record IsPartOf (events : History) (p : Part) (k : Known) : Type 0 where
  pub known : known_after events p.array ≡ Some k
  pub valid : IsIndexOf k.info p.chunk.now
  pub size : length p.staged.now ≡ cell_count (chunk_shape k.info)
  pub words : AreWords k.info.dtype p.staged.now

abbrev pub IsPart : History → Part → Type 0
IsPart events p = (k : Known) × IsPartOf events p k

-- the words for which something was asked
abbrev pub part_in : Asked → Part
part_in a = a.part

-- what stands under staged words after these events: nothing is needed as they cover the chunk, or this is the chunk where the store told
-- its contents at the start
abbrev pub IsUnderAt : Opening → History → Known → Part → Form → Under → Type 0
IsUnderAt opening events k p form Covered = MayLay form p.chunk.now p.staged.now × IsCovered k.shape (chunk_shape k.info) p.chunk.now p.staged.now
IsUnderAt opening events k p form (Kept s) =
    MayLay form p.chunk.now p.staged.now × IsBaseFor form s × ((start : Contents) → opening.store.contents ≡ Some start → IsCurrent start events k (chunk_of_part p) s)
IsUnderAt opening events k p form Unknown = Unit {0}

-- the chunk's key, form and bounds after these events, and what stands under the words that are staged for it
pub record IsAsked (opening : Opening) (events : History) (a : Asked) : Type 0 where
  pub array : Known
  pub part : IsPartOf events a.part array
  pub named : chunk_key array a.part.chunk.now ≡ a.key
  pub form_is : a.form ≡ with_shape (form_of array.info.home) array.shape
  pub resized : a.resized ≡ resized_after events a.part.array
  pub under : IsUnderAt opening events array a.part a.form a.under
