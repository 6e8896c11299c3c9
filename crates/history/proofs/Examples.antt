-- Small histories, computed.
use Rattle.std.proofs.Common.{◌≡◌, ℕ, List, [], ◌∷◌, codes, refl, true, false, Some, None}
use Rattle.std.specs.FinMap as finmap
use Rattle.std.specs.Fmt.{digits}
use Rattle.cells.specs.declared.dtype.Dtype.TheVariants.{U8, I16}
use Rattle.cells.specs.declared.order.Order.TheVariants.{C}
use Rattle.kv_face.specs.Store.{Contents}
use Rattle.stack_driver.specs.Targets.{Cell}
use Rattle.chunk_forms.specs.declared.form.Form.{Form}
use Rattle.chunk_forms.specs.declared.form.Form.TheVariants as form
use Rattle.chunk_forms.specs.declared.form.Damage.TheVariants as damage
use Rattle.chunk_forms.specs.Words.{stored_word, chunk_fault}
use Rattle.chunk_forms.specs.Grammar.{cut_sizes}
use Rattle.chunk_forms.specs.declared.BlockError.TheVariants.{WrongSize}
use Rattle.history.specs.declared.array.ArrayInfo.{ArrayInfo}
use Rattle.history.specs.declared.array.Home.TheVariants.{Zarr, Local}
use Rattle.history.specs.declared.event.Kind.TheVariants.{Opened, Done, Resized}
use Rattle.history.specs.declared.event.Event.{Event}
use Rattle.history.specs.History.{History}
use Rattle.history.specs.Arrays.{known_after, form_of}
use Rattle.history.specs.Chunks.{Chunk, key_of}
use Rattle.history.specs.Touch.{generation_of}
use Rattle.history.specs.Content.{content_after, world_after, present_shape}
use Rattle.history.specs.Store.{shape_when_touched, resized_after}
use Rattle.history.specs.Counting.{is_change}
use Rattle.history.specs.Outcomes.{opening_outcome, not_found, path_taken, mismatch, made}
use Rattle.chunk_forms.specs.declared.form.Want.TheVariants as want
use Rattle.history.specs.Leaves.{Leaf, nothing}

-- five cells in chunks of two, of which the second is stored at the start
abbrev a : ArrayInfo
a = record {
  number = 0;
  home = Zarr (codes "m") (codes "a") (record { shape = 5 ∷ []; chunks = 2 ∷ []; dtype = U8; big = false; fill = Some 9; order = C; slash = false });
  dtype = U8;
  shape = 5 ∷ [];
  fill = 9;
}

abbrev start : Contents
start = finmap.empty

abbrev local : ArrayInfo
local = record { number = 1; home = Local (record { dtype = I16; shape = 2 ∷ []; words = 7 ∷ 8 ∷ [] }); dtype = I16; shape = 2 ∷ []; fill = 0 }

abbrev opened : ArrayInfo → Event
opened info = record { owner = 0; kind = Opened info }

abbrev resized : ℕ → Event
resized n = record { owner = 1; kind = Resized 0 (n ∷ []) }

abbrev keyed : List ℕ → Event
keyed key = record { owner = 1; kind = Done 1 (record { atomic = false; repeatable_read = false }) [] (Some key) }

abbrev at : ℕ → ℕ → Cell
at array x = record { array = array; index = x ∷ [] }

abbrev chunk : ℕ → Chunk
chunk c = record { array = 0; index = c ∷ [] }

-- the fill where nothing is stored, what is stored elsewhere, and no number where the bytes are no chunk
fill_cell : stored_word (form_of a.home) 9 None (1 ∷ []) ≡ Some 9
fill_cell = refl

stored_cell : stored_word (form_of a.home) 9 (Some (3 ∷ 4 ∷ [])) (1 ∷ []) ≡ Some 4
stored_cell = refl

damaged_cell : stored_word (form_of a.home) 9 (Some (5 ∷ [])) (0 ∷ []) ≡ None
damaged_cell = refl

-- a block of N5 that has one cell of two, and one that has a size too great
abbrev block : Form
block = form.N5 (record { dimensions = 5 ∷ []; block = 2 ∷ []; dtype = U8 })

lacking_cell : stored_word block 0 (Some (0 ∷ 0 ∷ 0 ∷ 1 ∷ 0 ∷ 0 ∷ 0 ∷ 1 ∷ 7 ∷ [])) (1 ∷ []) ≡ Some 0
lacking_cell = refl

block_cell : stored_word block 0 (Some (0 ∷ 0 ∷ 0 ∷ 1 ∷ 0 ∷ 0 ∷ 0 ∷ 1 ∷ 7 ∷ [])) (0 ∷ []) ≡ Some 7
block_cell = refl

wide_block : chunk_fault block (0 ∷ 0 ∷ 0 ∷ 1 ∷ 0 ∷ 0 ∷ 0 ∷ 3 ∷ 7 ∷ 7 ∷ 7 ∷ []) ≡ Some (damage.N5 (WrongSize 0 3))
wide_block = refl

-- an edge block is written as far as the array reaches
cut_block : cut_sizes (2 ∷ []) (5 ∷ []) (2 ∷ []) ∷ cut_sizes (2 ∷ []) (5 ∷ []) (1 ∷ []) ∷ [] ≡ (1 ∷ []) ∷ (2 ∷ []) ∷ []
cut_block = refl

-- a local array has its own numbers, and none past its shape
local_cell : content_after start (opened a ∷ opened local ∷ []) (at 1 1) ≡ Some 8
local_cell = refl

past_local : content_after start (opened a ∷ opened local ∷ []) (at 1 2) ≡ None
past_local = refl

local_key : key_of (opened a ∷ opened local ∷ []) (record { array = 1; index = 0 ∷ [] }) ≡ Some (codes "array/2/0")
unfolding digits
local_key = refl

stored_key : key_of (opened a ∷ []) (chunk 1) ≡ Some (codes "m/a/1")
unfolding digits
stored_key = refl

-- shrinking to three cells cuts the second chunk and takes the third; growing again touches nothing
abbrev shrunk : History
shrunk = opened a ∷ resized 3 ∷ []

abbrev grown : History
grown = opened a ∷ resized 3 ∷ resized 5 ∷ []

cut_cell : content_after start shrunk (at 0 3) ≡ Some 9
cut_cell = refl

absent_cell : world_after start shrunk (at 0 3) ≡ None
absent_cell = refl

new_cell : world_after start grown (at 0 3) ≡ Some 9
new_cell = refl

mended_cell : world_after start grown (at 0 4) ≡ Some 9
mended_cell = refl

generations : generation_of grown (chunk 0) ∷ generation_of grown (chunk 1) ∷ generation_of grown (chunk 2) ∷ generation_of grown (chunk 3) ∷ [] ≡ 1 ∷ 2 ∷ 2 ∷ 1 ∷ []
generations = refl

shape_then : shape_when_touched grown (chunk 1) ≡ 3 ∷ []
shape_then = refl

shape_now : present_shape (known_after grown 0) ≡ 5 ∷ []
shape_now = refl

last_resize : resized_after grown 0 ≡ 3
last_resize = refl

-- an event with a key touches that key's chunk, whatever it writes
keyed_generation : generation_of (opened a ∷ keyed (codes "m/a/7") ∷ []) (chunk 7) ≡ 2
unfolding digits
keyed_generation = refl

-- an event with the key of a stored array's chunk changes the store, and one with that of a local array doesn't
stored_change : is_change start (opened a ∷ opened local ∷ []) (keyed (codes "m/a/7")).kind ≡ true
unfolding digits
stored_change = refl

local_change : is_change start (opened a ∷ opened local ∷ []) (keyed (codes "array/2/0")).kind ≡ false
unfolding digits
local_change = refl

-- a leaf below an array's place, at it, and beside it
abbrev leaf : List ℕ → Leaf
leaf path = record { mount = codes "m"; path = path; want = want.N5 (record { dimensions = Some (4 ∷ []); block = None; dtype = Some U8 }); may_open = true; may_create = false }

below_array : opening_outcome grown (leaf (codes "a/b")) nothing ≡ path_taken (codes "m/a")
below_array = refl

at_array : opening_outcome grown (leaf (codes "a")) nothing ≡ mismatch (codes "driver")
at_array = refl

beside_array : opening_outcome grown (leaf (codes "ab")) nothing ≡ not_found
beside_array = refl

made_array : opening_outcome grown (record (leaf (codes "ab")) { may_create = true }) nothing ≡ made (form.N5 (record { dimensions = 4 ∷ []; block = 4 ∷ []; dtype = U8 }))
made_array = refl
