-- The numbers of events that a session may have looked at when it answered a line.
use Rattle.std.specs.Prelude.{◌≤◌, ℕ, ◌-◌, List, [], ◌∷◌, ◌++◌, filter, nat_lt, Option, Some, None, unwrap_or, if◌then◌else◌}
use Rattle.std.specs.List.{last_or}
use Rattle.history.specs.Commit.{Transaction}
use Rattle.transcript_laws.specs.Transcript.{Told}
use Rattle.transcript_laws.specs.Numbers.{opened_in, done_in, failed_in, numbers_of}

-- numbers of events, both ends included
pub record Window : Type 0 where
  pub from : ℕ
  pub upto : ℕ

-- the number lies in the window
abbrev pub IsWithin : Window → ℕ → Type 0
IsWithin w n = (w.from ≤ n) × (n ≤ w.upto)

-- the last of some numbers, 0 where there is none
abbrev pub last_of : List ℕ → ℕ
last_of numbers = unwrap_or (last_or None numbers) 0

-- the number before the first of some, and where there is none the last of all
abbrev pub before_first : ℕ → List ℕ → ℕ
before_first total [] = total
before_first total (n ∷ numbers) = n - 1

-- the lines up to the `begin` of a transaction
abbrev pub lines_up_to : ℕ → List Told → List Told
lines_up_to begun before = filter (λ (t : Told). nat_lt t.number begun) before

-- the lines of a session up to the first at which what a line shows may have been looked at: those before it, and in
-- a transaction under repeatable read those before its `begin`
abbrev pub lines_before : Option Transaction → List Told → List Told
lines_before None before = before
lines_before (Some t) before = if t.mode.repeatable_read then lines_up_to t.line before else before

-- a line's window, where this transaction stands and these are the lines of its session before it and behind it: from
-- the last of the session's numbers that were printed before, those of arrays that the line itself opened among them,
-- up to the one before the next, or to the last of all. A session of the history has seen at least as much as the
-- window's beginning, and often more, so windows are wider than what it may look at
abbrev pub window_of : ℕ → Option Transaction → List Told → Told → List Told → Window
window_of total t before line behind = record {
  from = last_of (numbers_of (lines_before t before) ++ opened_in line.answer);
  upto = before_first total ((done_in line.answer ++ failed_in line.answer) ++ numbers_of behind);
}
