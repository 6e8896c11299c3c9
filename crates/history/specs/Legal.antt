-- Histories in which each event may follow those before it.
use Rattle.std.specs.Prelude.{◌≡◌, ◌≢◌, ◌≤◌, ℕ, codes, ◌+◌, ◌-◌, ◌^◌, List, [], ◌∷◌, ◌++◌, length, map, Bool, true, false, Option, Some, None, Result, Ok, Err, IsTrue, count_by}
use Rattle.std.specs.List.{AllByRecursion, list_all}
use Rattle.stack_driver.specs.Cells.{is_finite}
use Rattle.cells.specs.Dense.{DenseCells, IsDense}
use Rattle.cells.specs.Numbers.{IsWord}
use Rattle.kv_face.specs.Store.{Contents}
use Rattle.chunk_forms.specs.declared.form.Form.{Form}
use Rattle.chunk_forms.specs.Metadata.{shape_of, dtype_of, fill_of, IsMetadata}
use Rattle.chunk_forms.specs.Words.{is_inside}
use Rattle.stack_driver.specs.declared.view.View.{View}
use Rattle.stack_driver.specs.Targets.{Cell, Target}
use Rattle.stack_driver.specs.Views.{targets_of, look_of}
use Rattle.stack_driver.specs.declared.error.TargetError.{TargetError}
use Rattle.history.specs.declared.array.ArrayInfo.{ArrayInfo}
use Rattle.history.specs.declared.array.Home.{Home}
use Rattle.history.specs.declared.array.Home.TheVariants.{Zarr, N5, Zarr3, Local}
use Rattle.history.specs.declared.event.Op.{Op}
use Rattle.history.specs.declared.event.Op.TheVariants.{Write, Read}
use Rattle.history.specs.declared.event.Kind.{Kind}
use Rattle.history.specs.declared.event.Kind.TheVariants.{Opened, Done, Resized, Fault}
use Rattle.history.specs.declared.event.Event.{Event}
use Rattle.history.specs.History.{History, after}
use Rattle.history.specs.Arrays.{Known, known_after, form_of, is_local}
use Rattle.history.specs.Chunks.{home_text, keys_text}
use Rattle.history.specs.Resizes.{cut_chunks}
use Rattle.history.specs.Writes.{Content, written, read_values}
use Rattle.history.specs.Content.{world_after}
pub use Rattle.locations.specs.Paths.{begins}

-- such an event brings in an array
abbrev pub opens : Kind → Bool
opens (Opened info) = true
opens (Done line mode ops key) = false
opens (Resized a shape) = false
opens (Fault mount) = false

-- the event brings in an array
abbrev pub is_opening : Event → Bool
is_opening e = opens e.kind

-- neither text begins with the other
pub record AreApart (us vs : List ℕ) : Type 0 where
  pub first : begins us vs ≡ false
  pub second : begins vs us ≡ false

-- the text and that of the keys of an array, where there is one, lie apart
abbrev pub IsApartFrom : List ℕ → Option Known → Type 0
IsApartFrom text None = Unit {0}
IsApartFrom text (Some k) = AreApart text (keys_text k)

-- an array is as its metadata says; without a fill, its cells begin with 0
pub record IsAsMetadata (info : ArrayInfo) (form : Form) : Type 0 where
  pub valid : IsMetadata form
  pub shape : info.shape ≡ shape_of form
  pub dtype : info.dtype ≡ dtype_of form
  pub fill : info.fill ≡ fill_of form

-- a local array is as its numbers are
pub record IsAsCells (info : ArrayInfo) (cells : DenseCells) : Type 0 where
  pub valid : IsDense cells
  pub shape : info.shape ≡ cells.shape
  pub dtype : info.dtype ≡ cells.dtype
  pub fill : info.fill ≡ 0

-- an array is as the place says where it is kept: by its metadata, or a local one by its numbers
abbrev pub IsAsKept : ArrayInfo → Home → Type 0
IsAsKept info (Zarr mount path meta) = IsAsMetadata info (form_of (Zarr mount path meta))
IsAsKept info (N5 mount path meta) = IsAsMetadata info (form_of (N5 mount path meta))
IsAsKept info (Zarr3 mount path meta) = IsAsMetadata info (form_of (Zarr3 mount path meta))
IsAsKept info (Local start) = IsAsCells info start

-- a mount's name has no "/", and isn't the text before a local array's keys
pub record IsMount (mount : List ℕ) : Type 0 where
  pub one_part : AllByRecursion (λ b. b ≢ 47) mount
  pub not_local : mount ≢ codes "array"

-- a stored array lies on a mount with a valid name
abbrev pub IsPlaced : Home → Type 0
IsPlaced (Zarr mount path meta) = IsMount mount
IsPlaced (N5 mount path meta) = IsMount mount
IsPlaced (Zarr3 mount path meta) = IsMount mount
IsPlaced (Local start) = Unit {0}

-- a new array: its number is the count of those before it, no other lies at its place, above or below it, and it is as its
-- metadata says, a local array as its own numbers say
pub record IsLegalOpening (before : History) (info : ArrayInfo) : Type 0 where
  pub number : info.number ≡ count_by is_opening before
  pub alone : (a : ℕ) → IsApartFrom (home_text info.home (length before + 1)) (known_after before a)
  pub placed : IsPlaced info.home
  pub kept : IsAsKept info info.home

-- the cell lies in the present shape of this array
abbrev pub is_present_in : Option Known → Cell → Bool
is_present_in None x = false
is_present_in (Some k) x = is_inside k.shape x.index

-- a cell lies in the present shape of its array
abbrev pub is_present : History → Cell → Bool
is_present events x = is_present_in (known_after events x.array) x

-- there is a target, and its cell lies in the present shape of its array
abbrev pub HasTarget : History → Result Target TargetError → Type 0
HasTarget events (Ok t) = IsTrue (is_present events t.cell)
HasTarget events (Err e) = ⊥

-- the view that an operation writes or reads
abbrev pub viewed : Op → View
viewed (Write view words) = view
viewed (Read view words) = view

-- the words that an operation writes or has read
abbrev pub words_of : Op → List ℕ
words_of (Write view words) = words
words_of (Read view words) = words

-- the words of a Write are words of its view's dtype; those of a Read are what AreReads says
abbrev pub AreWritten : Op → Type 0
AreWritten (Write view words) = AllByRecursion (IsWord (look_of view).dtype) words
AreWritten (Read view words) = Unit {0}

-- the view has finitely many cells, each lies in the present shape of an array, and there is one word for each
pub record IsLegalOp (before : History) (op : Op) : Type 0 where
  pub finite : IsTrue (list_all is_finite (look_of (viewed op)).dims)
  pub targets : AllByRecursion (HasTarget before) (targets_of (viewed op))
  pub count : length (words_of op) ≡ length (targets_of (viewed op))
  pub words : AreWritten op

-- each Read after the given operations has the words of its view once they were applied
abbrev pub AreReads : Content → List Op → List Op → Type 0
AreReads content before [] = Unit {0}
AreReads content before (Write view words ∷ ops) = AreReads content (before ++ Write view words ∷ []) ops
AreReads content before (Read view words ∷ ops) = (map Some words ≡ read_values (written before content) view) × AreReads content (before ++ Read view words ∷ []) ops

-- a commit's operations: each may follow, and each Read has the words that are there behind the operations before it
pub record IsLegalDone (start : Contents) (before : History) (ops : List Op) : Type 0 where
  pub each : AllByRecursion (IsLegalOp before) ops
  pub reads : AreReads (world_after start before) [] ops

-- a stored array gets sizes of its rank, each at most 2^62 - 2, which cut at most 65,536 chunks
pub record MayTake (k : Known) (shape : List ℕ) : Type 0 where
  pub stored : is_local k.info.home ≡ false
  pub rank : length shape ≡ length k.info.shape
  pub sizes : AllByRecursion (λ s. s ≤ 2 ^ 62 - 2) shape
  pub few : length (cut_chunks k shape) ≤ 65536

-- there is an array, and it may take the shape
abbrev pub IsLegalResize : Option Known → List ℕ → Type 0
IsLegalResize None shape = ⊥
IsLegalResize (Some k) shape = MayTake k shape

-- what each kind of event owes to those before it; a failed store call owes nothing
abbrev pub IsLegalKind : Contents → History → Kind → Type 0
IsLegalKind start before (Opened info) = IsLegalOpening before info
IsLegalKind start before (Done line mode ops key) = IsLegalDone start before ops
IsLegalKind start before (Resized a shape) = IsLegalResize (known_after before a) shape
IsLegalKind start before (Fault mount) = Unit {0}

-- each event may follow those before it
abbrev pub IsLegal : Contents → History → Type 0
IsLegal start events = after (λ before e legal. legal × IsLegalKind start before e.kind) (Unit {0}) events
