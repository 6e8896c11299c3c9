-- The moment of which an answer to an open line speaks.
use Rattle.std.specs.Prelude.{ℕ, ◌-◌, true, false, Option, Some, None, option_and_then, codes}
use Rattle.serde_json.specs.Data.{Data}
use Rattle.serde_json.specs.Find.{get}
use Rattle.read_fits.specs.ToldNumbers.{event_of}
use Rattle.open_fits.specs.declared.moments.Moment.{Moment}

-- the first of two that is there
abbrev pub first_told : Option Data → Option Data → Option Data
first_told (Some d) other = Some d
first_told None other = other

-- what an answer tells of a leaf that is refused, where it tells the number of events
abbrev pub told_refusal : Data → Option Data
told_refusal d =
    first_told (get (codes "exists") d)
    (first_told (get (codes "mismatch") d) (first_told (get (codes "not_found") d) (get (codes "path_taken") d)))

-- that number
abbrev pub told_at : Data → Option ℕ
told_at d = option_and_then event_of (option_and_then (get (codes "at")) (told_refusal d))

-- by the number of events that is told, that of a failed store call, and the first number of the window
abbrev pub moment_by : Option ℕ → Option ℕ → ℕ → Moment
moment_by (Some at) failed from = record { events = at; is_failed = false }
moment_by None (Some event) from = record { events = event - 1; is_failed = true }
moment_by None None from = record { events = from; is_failed = false }
