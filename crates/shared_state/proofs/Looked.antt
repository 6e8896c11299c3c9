-- What a look told, told of the state before it.
use Rattle.std.proofs.Common.{◌≡◌, ◌≤◌, ℕ, List, true, false, Bool, cond, Option, Some, None, refl, sym, ap, ◌∙◌}
use Rattle.chunk_cache.specs.Cache.{kept}
use Rattle.chunk_cache.specs.Snapshot.{SnapshotCells}
use Rattle.state_laws.specs.declared.Damage.{Damage}
use Rattle.state_laws.specs.declared.Form.{Form}
use Rattle.state_laws.specs.declared.Home.{Home}
use Rattle.state_laws.specs.declared.Home.TheVariants.{Zarr, N5, Zarr3, Local}
use Rattle.state_laws.specs.Arrays.{Known, known_after, is_local}
use Rattle.state_laws.specs.Chunks.{Chunk}
use Rattle.state_laws.specs.ReadRows.{mount_of}
use Rattle.state_laws.proofs.Laws.{none_is_none}
use Rattle.state_laws.specs.declared.reading.Look.{Look}
use Rattle.state_laws.specs.declared.reading.Look.TheVariants as look
use Rattle.state_laws.specs.Seen.{StoreSeen, IsRead}
use Rattle.state_laws.specs.Log.{Log, cells_held}
use Rattle.state_laws.specs.Agreement.{IsState}
use Rattle.state_laws.specs.Fetches.{IsAnswered, IsDamagedThere, kept_of}
use Rattle.state_laws.specs.Looks.{IsLook, IsStoredLook}
use Rattle.state_laws.proofs.Laws.{agrees_read}

pub answered_back : (store next : StoreSeen) (log : Log) (c : Chunk) (snapshot : SnapshotCells) → IsRead store next → next.faults ≤ store.faults → IsAnswered next log c snapshot → IsAnswered store log c snapshot
answered_back store next log c snapshot read steady is = record {
  generation = is.generation;
  cells = is.cells;
  now = λ opening start k agrees told known. is.now opening start k (agrees_read opening store next log read steady agrees) told known;
}

pub damaged_back : (store next : StoreSeen) (log : Log) (c : Chunk) (key : List ℕ) (cause : Damage) → IsRead store next → next.faults ≤ store.faults → IsDamagedThere next log c key cause → IsDamagedThere store log c key cause
damaged_back store next log c key cause read steady is = λ opening start agrees told. is opening start (agrees_read opening store next log read steady agrees) told

pub look_back : (store next : StoreSeen) (log : Log) (c : Chunk) (l : Look) → IsRead store next → next.faults ≤ store.faults → IsLook next log c l → IsLook store log c l
look_back store next log c (look.Kept snapshot bounds) read steady is = (answered_back store next log c snapshot read steady is.0, is.1)
look_back store next log c (look.Bytes generation form bytes bounds) read steady is = (
  record {
    array = is.0.array;
    known = is.0.known;
    valid = is.0.valid;
    stored = is.0.stored;
    unkept = is.0.unkept;
    form_is = is.0.form_is;
    generation_is = is.0.generation_is;
    held = λ m told. is.0.held m (read.contents ∙ told);
  },
  is.1,
)

-- bytes that a store has it has also behind a reader
pub stored_forth : (store next : StoreSeen) (log : Log) (c : Chunk) (generation : ℕ) (f : Form) (bytes : Option (List ℕ)) → IsRead store next → IsStoredLook store log c generation f bytes → IsStoredLook next log c generation f bytes
stored_forth store next log c generation f bytes read is = record {
  array = is.array;
  known = is.known;
  valid = is.valid;
  stored = is.stored;
  unkept = is.unkept;
  form_is = is.form_is;
  generation_is = is.generation_is;
  held = λ m told. is.held m (sym read.contents ∙ told);
}

-- a stored array lies on a mount
pub stored_mount : (home : Home) → is_local home ≡ false → (mount : List ℕ) × (mount_of home ≡ Some mount)
stored_mount (Zarr mount path meta) stored = (mount, refl)
stored_mount (N5 mount path meta) stored = (mount, refl)
stored_mount (Zarr3 mount path meta) stored = (mount, refl)
stored_mount (Local start) stored = absurd (cc)

-- what isn't kept is a chunk of a stored array
unkept_in : (store : StoreSeen) (log : Log) (a : ℕ) (k : Known) (key : List ℕ) (local : Bool) → IsState store log → known_after log.events a ≡ Some k → is_local k.info.home ≡ local → None ≡ cond local (cells_held log a) (kept key log.cache.entries)
    → (is_local k.info.home ≡ false) × (kept key log.cache.entries ≡ None)
unkept_in store log a k key true state known local none = let held = state.1.held a k known local in absurd (none_is_none held.snapshot (none ∙ held.held))
unkept_in store log a k key false state known local none = (local, sym none)

pub unkept_by : (store : StoreSeen) (log : Log) (a : ℕ) (k : Known) (key : List ℕ) → IsState store log → known_after log.events a ≡ Some k → None ≡ kept_of log a k key → (is_local k.info.home ≡ false) × (kept key log.cache.entries ≡ None)
unkept_by store log a k key state known none = unkept_in store log a k key (is_local k.info.home) state known refl none

pub kept_none : (log : Log) (a : ℕ) (k : Known) (key : List ℕ) → is_local k.info.home ≡ false → kept key log.cache.entries ≡ None → kept_of log a k key ≡ None
kept_none log a k key stored none = ap (λ b. cond b (cells_held log a) (kept key log.cache.entries)) stored ∙ none
