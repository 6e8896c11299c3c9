-- Where a leaf lies.
use Rattle.std.specs.Prelude.{◌≡◌, ℕ, List, [], ◌∷◌, ◌++◌, ◌+◌, length, Option, Some, count_by}
use Rattle.cells.specs.Dense.{IsDense}
use Rattle.chunk_cache.specs.Snapshot.{SnapshotCells}
use Rattle.history.specs.declared.Form.TheVariants as form
use Rattle.history.specs.Metadata.{with_shape}
use Rattle.history.specs.declared.array.ArrayInfo.{ArrayInfo}
use Rattle.history.specs.History.{History}
use Rattle.history.specs.Arrays.{form_of}
use Rattle.history.specs.Legal.{is_opening}
use Rattle.history.specs.OpenRows.{next_array, given_info}
use Rattle.history.specs.Own.{opened_event}
use Rattle.history.specs.Places.{location}
use Rattle.state_laws.specs.declared.arrival.NewArray.{NewArray}
use Rattle.state_laws.specs.Log.{Log}
use Rattle.history.specs.declared.Want.{Want}
use Rattle.history.specs.Wants.{metadata_name_asked}
use Rattle.state_laws.specs.declared.place.Place.{Place}

-- its mount and path, its location, and the key of its metadata
abbrev pub place_at : List ℕ → List ℕ → Want → Place
place_at mount path want = record {
  names = record { mount = mount; path = path };
  location = mount ++ 47 ∷ path;
  key = mount ++ 47 ∷ path ++ 47 ∷ metadata_name_asked want;
}

-- a new array that may enter the run at a location: it has the next number, and the form of its home
pub record IsNext (events : History) (new : NewArray) (here : List ℕ) : Type 0 where
  pub number : new.info.number ≡ count_by is_opening events
  pub form : new.form ≡ with_shape (form_of new.info.home) new.info.shape
  pub at : location new.info.home ≡ Some here

-- the log behind an array that entered the run
abbrev pub entered : Log → ℕ → ArrayInfo → Option SnapshotCells → Log
entered log owner info cells = record log { events = log.events ++ opened_event owner info ∷ []; locals = log.locals ++ cells ∷ [] }

-- a new local array that may enter the run with these cells: it has the next number, and the cells are its numbers, at the number of its event
pub record IsGiven (events : History) (new : NewArray) (cells : SnapshotCells) : Type 0 where
  pub info : new.info ≡ given_info (next_array events) cells.cells
  pub form : new.form ≡ form.Local
  pub valid : IsDense cells.cells
  pub generation : cells.generation ≡ length events + 1
