-- Arrays without any chunk, key or byte: a shape, a fill and a word at each cell, as the events of a history change them.
use Rattle.std.specs.Prelude.{ℕ, List, ◌==◌, Option, Some, None, if◌then◌else◌}
use Rattle.chunk_forms.specs.Words.{is_inside}
use Rattle.stack_driver.specs.Targets.{Cell}
use Rattle.history.specs.declared.array.Home.{Home}
use Rattle.history.specs.declared.array.Home.TheVariants.{Zarr, N5, Zarr3, Local}
use Rattle.history.specs.declared.array.ArrayInfo.{ArrayInfo}
use Rattle.history.specs.declared.event.Kind.{Kind}
use Rattle.history.specs.declared.event.Kind.TheVariants.{Opened, Done, Resized, Fault}
use Rattle.history.specs.History.{History, after}
use Rattle.history.specs.Writes.{Content, written}
use Rattle.history.specs.Start.{dense_word}

-- each array's shape and fill, where there is one of this number, and the words of all cells
pub record PlainArrays : Type 0 where
  pub shape : ℕ → Option (List ℕ)
  pub fill : ℕ → ℕ
  pub words : Content

-- a new array's word inside its shape: its fill, or for a local array its own
abbrev pub new_word : ArrayInfo → Home → Cell → Option ℕ
new_word info (Zarr mount path meta) x = Some info.fill
new_word info (N5 mount path meta) x = Some info.fill
new_word info (Zarr3 mount path meta) x = Some info.fill
new_word info (Local start) x = dense_word start x.index

-- the word inside the new shape: the one that was there, or the fill where the cell comes anew
abbrev pub resized_word : Option (List ℕ) → List ℕ → ℕ → Cell → Option ℕ → Option ℕ
resized_word None new fill x word = None
resized_word (Some old) new fill x word = if is_inside new x.index then (if is_inside old x.index then word else Some fill) else None

-- the shape of an array after a resize, where there is one
abbrev pub new_shape : Option (List ℕ) → List ℕ → Option (List ℕ)
new_shape None new = None
new_shape (Some old) new = Some new

-- what an event leaves: a new array has its words inside its shape, operations put theirs, a resize cuts cells away or brings
-- them anew with the fill, and a fault changes nothing
abbrev pub plain_by : Kind → PlainArrays → PlainArrays
plain_by (Opened info) arrays = record {
  shape = λ a. if info.number == a then Some info.shape else arrays.shape a;
  fill = λ a. if info.number == a then info.fill else arrays.fill a;
  words = λ x. if info.number == x.array then (if is_inside info.shape x.index then new_word info info.home x else None) else arrays.words x;
}
plain_by (Done line mode ops key) arrays = record arrays { words = written ops arrays.words }
plain_by (Resized b shape) arrays = record arrays {
  shape = λ a. if b == a then new_shape (arrays.shape a) shape else arrays.shape a;
  words = λ x. if b == x.array then resized_word (arrays.shape x.array) shape (arrays.fill x.array) x (arrays.words x) else arrays.words x;
}
plain_by (Fault mount) arrays = arrays

-- no array, and no word at any cell
abbrev pub no_arrays : PlainArrays
no_arrays = record { shape = λ a. None; fill = λ a. 0; words = λ x. None }

-- the arrays after a history that began without any
abbrev pub plain_after : History → PlainArrays
plain_after events = after (λ before e arrays. plain_by e.kind arrays) no_arrays events
