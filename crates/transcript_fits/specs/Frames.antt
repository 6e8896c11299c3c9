-- The lines of a session with their windows.
use Rattle.std.specs.Prelude.{◌≡◌, ℕ, length, take, drop}
use Rattle.open_fits.specs.Walls.{AreEnds, AreLasts}
use Rattle.transcript_fits.specs.Judges.{history_of}
use Rattle.transcript_fits.specs.Sessions.{IsSessionAt}
use Rattle.transcript_fits.specs.declared.frames.Frame.{Frame}
use Rattle.transcript_fits.specs.declared.judge.Judge.{Judge}

-- the lines of a session, so many from a place on
pub record IsFrameOf (j : Judge) (session begin many : ℕ) (frame : Frame) : Type 0 where
  pub session_at : IsSessionAt j.source.now.said.now session begin many
  pub begin_is : frame.begin ≡ begin
  pub said_is : frame.said.now ≡ take many (drop begin j.source.now.said.now)
  pub lasts : AreLasts frame.said.now frame.lasts.items
  pub ends : AreEnds (length (history_of j)) frame.said.now frame.ends.items
