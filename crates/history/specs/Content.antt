-- A cell's word after a history, and the arrays then. No chunk bytes but those at the start, no generation and no cache occur here.
use Rattle.std.specs.Prelude.{ℕ, ◌+◌, List, [], length, Option, Some, None, if◌then◌else◌}
use Rattle.kv_face.specs.Store.{Contents}
use Rattle.chunk_forms.specs.Words.{is_inside}
use Rattle.stack_driver.specs.Targets.{Cell}
use Rattle.history.specs.declared.array.Home.{Home}
use Rattle.history.specs.declared.array.Home.TheVariants.{Zarr, N5, Zarr3, Local}
use Rattle.history.specs.declared.event.Kind.{Kind}
use Rattle.history.specs.declared.event.Kind.TheVariants.{Opened, Done, Resized, Fault}
use Rattle.history.specs.History.{History, after}
use Rattle.history.specs.Arrays.{Known, known_after}
use Rattle.history.specs.Chunks.{chunk_of}
use Rattle.history.specs.Touch.{touches}
use Rattle.history.specs.Writes.{Content, written}
use Rattle.history.specs.Start.{opening_word}

-- the word past an array's shape: the fill, and for a local array none
abbrev pub word_outside : Home → ℕ → Option ℕ
word_outside (Zarr mount path meta) fill = Some fill
word_outside (N5 mount path meta) fill = Some fill
word_outside (Zarr3 mount path meta) fill = Some fill
word_outside (Local start) fill = None

-- the word inside a shape, and the one outside
abbrev pub cut_to : Option Known → List ℕ → Cell → Option ℕ → Option ℕ
cut_to None shape x word = word
cut_to (Some k) shape x word = if is_inside shape x.index then word else word_outside k.info.home k.info.fill

-- the present shape of an array; where there is none, it has no dimension
abbrev pub present_shape : Option Known → List ℕ
present_shape None = []
present_shape (Some k) = k.shape

-- the word that an event leaves at a cell whose chunk it touches
abbrev pub word_by : Contents → History → Kind → Cell → Option ℕ → Option ℕ
word_by start before (Opened info) x word = opening_word start (record { info = info; opened = length before + 1; shape = info.shape }) x
word_by start before (Done line mode ops key) x word = cut_to (known_after before x.array) (present_shape (known_after before x.array)) x (written ops (λ y. word) x)
word_by start before (Resized a shape) x word = cut_to (known_after before x.array) shape x word
word_by start before (Fault mount) x word = word

-- the word at a cell after a history, also past the present shape
abbrev pub content_after : Contents → History → Content
content_after start events x =
    after (λ before e word. if touches before e (chunk_of before x) then word_by start before e.kind x word else word) None events

-- the word of a cell inside its array's present shape; any other cell has none
abbrev pub world_in : Option Known → Cell → Option ℕ → Option ℕ
world_in None x word = None
world_in (Some k) x word = if is_inside k.shape x.index then word else None

-- the arrays after a history: the words of the cells inside their present shapes
abbrev pub world_after : Contents → History → Content
world_after start events x = world_in (known_after events x.array) x (content_after start events x)
