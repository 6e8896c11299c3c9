-- A session between two lines.
use Rattle.std.specs.Prelude.{ℕ, [], false, Option, Some, None, if◌then◌else◌}
use Rattle.std.specs.Str.{bytes_eq}
use Rattle.stack_driver.specs.declared.view.View.{View}
use Rattle.history.specs.declared.event.Mode.{Mode}
use Rattle.history.specs.Commit.{Transaction}
use Rattle.history.specs.Answers.{Text}

-- which view each name is bound to
abbrev pub Names : Type 0
Names = Text → Option View

-- the names, with one of them bound anew
abbrev pub bind : Names → Text → View → Names
bind names name view = λ other. if bytes_eq name other then Some view else names other

-- the names, how many events the session has seen, and its transaction
pub record SessionState : Type 0 where
  pub names : Names
  pub seen : ℕ
  pub transaction : Option Transaction

-- a session before its first line: no names, nothing seen and no transaction
abbrev pub at_first : SessionState
at_first = record { names = λ name. None; seen = 0; transaction = None }

-- the flags of a transaction that asks for neither: its changes may be made one by one, and its reads aren't kept
abbrev pub plain_mode : Mode
plain_mode = record { atomic = false; repeatable_read = false }

-- a transaction without operations
abbrev pub new_transaction : ℕ → Mode → Transaction
new_transaction line mode = record { line = line; mode = mode; ops = []; marks = [] }

-- the transaction that a read belongs to: outside of one, a read is one of its own
abbrev pub reader : ℕ → Option Transaction → Transaction
reader line None = new_transaction line plain_mode
reader line (Some t) = t
