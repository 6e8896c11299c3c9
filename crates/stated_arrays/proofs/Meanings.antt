-- What the command of a line is, and what the line means.
use Rattle.std.proofs.Common.{◌≡◌, ℕ, List, [], ◌∷◌, Option, Some, None, Ok, Err, refl, sym, ap, subst, ◌∙◌}
use Rattle.history.specs.Lines.{FormError, Line}
use Rattle.transcript_cut.specs.Form.{Form, form_of}
use Rattle.transcript_cut.specs.Lines.{command_of_line}
use Rattle.transcript_cut.specs.declared.LineError.{LineError}
use Rattle.transcript_cut.specs.declared.OpenPlan.{OpenPlan}
use Rattle.transcript_cut.specs.declared.Command.{Command}
use Rattle.transcript_cut.specs.declared.Command.TheVariants as command
use Rattle.transcript_cut.specs.Meanings.{line_of, line_in, line_of_bytes, refused_by}
use Rattle.transcript_cut.specs.Openings.{build_of}
use Rattle.transcript_cut.specs.Transcript.{mount}
use Rattle.stated_arrays.specs.Acts.{IsActOf, IsQuiet}
use Rattle.stated_arrays.specs.declared.acts.Act.{Act}
use Rattle.stated_arrays.specs.declared.acts.Act.TheVariants.{Open, Begin, Other}

-- a line that is a command
pub command_line : (names : List (List ℕ)) (bytes : List ℕ) (form : Form) (act : Act) → names ≡ mount ∷ [] → command_of_line names bytes ≡ Ok form → IsActOf (line_of form) act → IsActOf (line_of_bytes (mount ∷ []) bytes) act
command_line names bytes form act one is meant = subst (λ (l : Line). IsActOf l act) (sym (ap (λ ns. line_of_bytes ns bytes) (sym one) ∙ ap line_in is)) meant

-- one that isn't
quiet_fault : (fault : Option FormError) → IsQuiet (refused_by fault)
quiet_fault (Some fault) = record { opens = refl; keeps = λ number answer s. refl }
quiet_fault None = record { opens = refl; keeps = λ number answer s. refl }

pub refused_line : (names : List (List ℕ)) (bytes : List ℕ) (e : LineError) → names ≡ mount ∷ [] → command_of_line names bytes ≡ Err e → IsActOf (line_of_bytes (mount ∷ []) bytes) Other
refused_line names bytes e one is = subst IsQuiet (sym (ap (λ ns. line_of_bytes ns bytes) (sym one) ∙ ap line_in is)) (quiet_fault _)

-- what the commands ask for
abbrev pub IsActOfCommand : Command → Act → Type 0
IsActOfCommand c act = IsActOf (line_of (form_of c)) act

pub opens_leaves : (name : List ℕ) (plan : OpenPlan) → IsActOfCommand (command.Open name plan) (Open plan.leaves)
opens_leaves name plan = (name, plan.tree, build_of plan, refl)

pub begins_one : (atomic : _) (repeatable_read : _) → IsActOfCommand (command.Begin atomic repeatable_read) Begin
begins_one atomic repeatable_read = (_, refl)

pub views_quietly : (name of : List ℕ) (transform : _) (steps : _) → IsActOfCommand (command.View name of transform steps) Other
views_quietly name of transform steps = record { opens = refl; keeps = λ number answer s. refl }

pub joins_quietly : (name : List ℕ) (form : _) (layers : _) (transform : _) (steps : _) → IsActOfCommand (command.Join name form layers transform steps) Other
joins_quietly name form layers transform steps = record { opens = refl; keeps = λ number answer s. refl }

pub reads_quietly : (name : List ℕ) (steps : _) (down : _) → IsActOfCommand (command.Read name steps down) Other
reads_quietly name steps down = record { opens = refl; keeps = λ number answer s. refl }

pub writes_quietly : (name : List ℕ) (steps : _) (values : _) → IsActOfCommand (command.Write name steps values) Other
writes_quietly name steps values = record { opens = refl; keeps = λ number answer s. refl }

pub resizes_quietly : (name shape : List ℕ) → IsActOfCommand (command.Resize name shape) Other
resizes_quietly name shape = record { opens = refl; keeps = λ number answer s. refl }

pub resolves_quietly : (name : List ℕ) → IsActOfCommand (command.Resolve name) Other
resolves_quietly name = record { opens = refl; keeps = λ number answer s. refl }
