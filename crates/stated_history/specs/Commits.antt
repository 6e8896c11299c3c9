-- Commits, at their numbers in an outline.
use Rattle.std.specs.Prelude.{ℕ, List, [], ◌∷◌, Option, None, option_map, unwrap_or, Bool, true, false, slice_index_or, if◌then◌else◌}
use Rattle.history.specs.declared.event.Event.{Event}
use Rattle.history.specs.declared.event.Kind.{Kind}
use Rattle.history.specs.declared.event.Kind.TheVariants.{Opened, Done, Resized, Fault}
use Rattle.history.specs.Commit.{Transaction, kept_ops}
use Rattle.stated_history.specs.declared.putting.Commit.{Commit}

-- what a session's transaction did, as one event without a key
abbrev pub commit_of : Transaction → Kind
commit_of t = Done t.line t.mode (kept_ops t) None

-- so as it is kept
abbrev pub kind_in : Commit → Kind
kind_in c = Done c.line c.mode c.ops None

-- no mount has the empty name
abbrev pub is_no_mount : List ℕ → Bool
is_no_mount [] = true
is_no_mount (b ∷ name) = false

-- in an outline, a commit without what it did
abbrev pub is_undone : Kind → Bool
is_undone (Opened info) = false
is_undone (Done line mode ops key) = false
is_undone (Resized a shape) = false
is_undone (Fault mount) = is_no_mount mount

-- the event at a number of an outline with what was done, where this is the commit that the number's line states, if it states one
abbrev pub event_with : Option Commit → Event → Event
event_with commit e =
    if is_undone e.kind then record { owner = e.owner; kind = unwrap_or (option_map kind_in commit) e.kind } else e

-- the commit of the line that prints a number, which stands at this spot
abbrev pub commit_at : List (Option Commit) → List ℕ → ℕ → Option Commit
commit_at commits spots k = slice_index_or commits (slice_index_or spots k 0) None
