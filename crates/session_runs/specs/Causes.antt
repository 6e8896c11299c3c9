-- The lines of a session over any store, each answered for its cause.
use Rattle.std.specs.Prelude.{◌≢◌, ℕ, ◌+◌, List, [], ◌∷◌, ◌++◌, length, drop, Option, Some, None}
use mathlib.Core.List.{IsPrefix}
use Rattle.history.specs.Commit.{Fixed, Transaction}
use Rattle.history.specs.History.{History}
use Rattle.history.specs.Lines.{Line}
use Rattle.history.specs.Own.{own_events}
use Rattle.history.specs.Sessions.{Names, SessionState, at_first}
use Rattle.session_openings.specs.Caused.{IsCaused}
use Rattle.session_openings.specs.declared.Answer.{Answer}
use Rattle.session_openings.specs.declared.Body.{Body}
use Rattle.session_openings.specs.declared.Body.TheVariants.{Memory}

-- the lines of a session from the first on, None being a blank one, what they were answered, what was seen then, and how the session stands; behind
-- want of memory it isn't said how
pub data AreCaused (fixed : Fixed) (owner : ℕ) : List (Option Line) → List Answer → History → Option SessionState → Type 0 where
  none_given : AreCaused fixed owner [] [] [] (Some at_first)
  blank_given : {lines : List (Option Line)} {log : List Answer} {seen : History} {s : SessionState} → AreCaused fixed owner lines log seen (Some s) → AreCaused fixed owner (lines ++ None ∷ []) log seen (Some s)
  -- a line sees more of the history, and the session's own events there are those that it adds; the next line begins where it leaves the session
  line_given : {lines : List (Option Line)} {log : List Answer} {seen later : History} {s : SessionState} {asked : Line} {names : Names} {t : Option Transaction} {answer : Body} → AreCaused fixed owner lines log seen (Some s) → IsPrefix seen later → answer ≢ Memory
      → IsCaused fixed owner later s (length lines + 1) asked names t answer (own_events owner (length seen + 1) (drop (length seen) later))
      → AreCaused fixed owner (lines ++ Some asked ∷ []) (log ++ record { line = length lines + 1; body = answer } ∷ []) later (Some (record { names = names; seen = length later; transaction = t }))
  -- with want of memory the session ends
  last_given : {lines : List (Option Line)} {log : List Answer} {seen later : History} {s : SessionState} {asked : Line} {names : Names} {t : Option Transaction} → AreCaused fixed owner lines log seen (Some s) → IsPrefix seen later
      → IsCaused fixed owner later s (length lines + 1) asked names t Memory (own_events owner (length seen + 1) (drop (length seen) later))
      → AreCaused fixed owner (lines ++ Some asked ∷ []) (log ++ record { line = length lines + 1; body = Memory } ∷ []) later None
