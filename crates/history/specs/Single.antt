-- One session alone: the answer to each line and the events that it adds, by the arrays as they are then. Its store starts
-- empty, makes all changes together and never fails, and memory is never wanting.
use Rattle.std.specs.Prelude.{ℕ, ◌+◌, List, [], ◌∷◌, ◌++◌, length, map, nat_lt, fold, Option, Some, None, Result, Ok, Err, unwrap_or, if◌then◌else◌}
use Rattle.std.specs.FinMap as finmap
use Rattle.stack_driver.specs.Renewed.{renewed}
use Rattle.stack_driver.specs.Targets.{Cell}
use Rattle.stack_driver.specs.declared.error.RenewError.{RenewError}
use Rattle.stack_driver.specs.declared.error.RenewError.TheVariants as renew
use Rattle.stack_driver.specs.declared.view.View.{View}
use Rattle.history.specs.History.{History}
use Rattle.history.specs.Arrays.{Known, known_after}
use Rattle.history.specs.Alone.{single_store}
use Rattle.history.specs.Answers as body
use Rattle.history.specs.Answers.{Body, Text, BuildCause, Answer}
use Rattle.history.specs.Acts.{Act, Asked, opens, binds, reads, stages, writes, begins, commits, aborts, resizes, resolves, act_of}
use Rattle.history.specs.Commit.{Key, Fixed, Transaction, is_before, commit_events}
use Rattle.history.specs.Content.{world_after}
use Rattle.history.specs.Legal.{is_present}
use Rattle.history.specs.Lines.{SpecLeaf, Build, Downsampling, Line}
use Rattle.history.specs.Own.{Numbered, numbered, numbers_of, resized_event}
use Rattle.history.specs.ReadRows.{with_read}
use Rattle.history.specs.Reads.{unwritten}
use Rattle.history.specs.Refusals.{metadata_key_at}
use Rattle.history.specs.Resizes.{cut_chunks}
use Rattle.history.specs.ResizeRows.{shape_after}
use Rattle.history.specs.Sessions.{Names, bind, new_transaction, reader}
use Rattle.history.specs.SingleOpen.{Begun, leaves_from, leaf_refusal, with_own}
use Rattle.history.specs.Steps.{with_write, write_alone, as_written}
use Rattle.history.specs.Store.{resized_after}
use Rattle.history.specs.Viewing.{opened_body, viewed_body, resolved_body, values_body}
use Rattle.history.specs.Writes.{puts_of, written, read_values}

-- the names, what has happened, and the transaction, which needs no marks
pub record Single : Type 0 where
  pub names : Names
  pub events : History
  pub transaction : Option Transaction

-- what a line makes of the session, and its answer
pub record LineDone : Type 0 where
  pub after : Single
  pub body : Body

-- a line that changes nothing, with its answer
abbrev pub stays : Single → Body → LineDone
stays s answer = record { after = s; body = answer }

-- an open line with an array for each leaf: the name is bound to the view over them, or a node of the Spec is refused
abbrev pub built : Single → Text → List Numbered → Result View (Text × BuildCause) → LineDone
built s name own (Ok view) = record { after = record s { names = bind s.names name view; events = with_own s.events own }; body = opened_body name view (numbers_of own) }
built s name own (Err e) = record { after = record s { events = with_own s.events own }; body = body.refused_spec e.0 e.1 (numbers_of own) }

-- an open line by the leaves that are left: where there is none the view is built, else the first of them is refused
abbrev pub opened_by : Single → Text → Build → Begun → List SpecLeaf → LineDone
opened_by s name build begun [] = built s name begun.own (build begun.refs)
opened_by s name build begun (leaf ∷ rest) = record {
  after = record s { events = with_own s.events begun.own };
  body = unwrap_or (leaf_refusal (with_own s.events begun.own) begun.own leaf) body.memory;
}

-- an open line once its first leaves were opened
abbrev pub open_leaves : Single → Text → Build → Begun → LineDone
open_leaves s name build begun = opened_by s name build begun begun.rest

-- an array outside whose shape a cell lies, and its metadata key
pub record Outside : Type 0 where
  pub key : Key
  pub array : ℕ

-- of two such arrays the one with the lesser metadata key
abbrev pub lesser : Outside → Option Outside → Outside
lesser o None = o
lesser o (Some p) = if is_before p.key o.key then p else o

-- the array of a cell outside, if its key is less than those of the cells behind; a local array doesn't count
abbrev pub outside_by : Option Key → Cell → Option Outside → Option Outside
outside_by None x rest = rest
outside_by (Some key) x rest = Some (lesser (record { key = key; array = x.array }) rest)

-- of the arrays outside whose shapes some cells lie, the one with the least metadata key
abbrev pub first_outside : History → List Cell → Option Outside
first_outside events [] = None
first_outside events (x ∷ xs) = if is_present events x then first_outside events xs else outside_by (metadata_key_at events x) x (first_outside events xs)

-- what is done only where no cell lies outside its array's shape; else the transaction is the given one
abbrev pub unless_outside : Single → Option Transaction → Option Outside → LineDone → LineDone
unless_outside s t None done = done
unless_outside s t (Some o) done = record { after = record s { transaction = t }; body = body.shrunk o.key (resized_after s.events o.array) }

-- what the session sees of a view; a cell without a word, which there is over no store that began empty, shows 0
abbrev pub words_now : History → Transaction → View → List ℕ
words_now events t view = map (λ word. unwrap_or word 0) (read_values (written t.ops (world_after finmap.empty events)) view)

-- a read: the words that are there now, unless a cell that the transaction hasn't written lies outside
abbrev pub read_alone : Single → Transaction → View → Option Downsampling → LineDone
read_alone s t view down =
    unless_outside s s.transaction (first_outside s.events (unwritten t.ops view))
    (record { after = record s { transaction = with_read s.transaction view (words_now s.events t view) [] }; body = values_body view down (words_now s.events t view) })

-- a commit: its events behind all that has happened, unless a cell that it writes lies outside
abbrev pub commit_alone : Fixed → ℕ → Single → Transaction → LineDone
commit_alone fixed owner s t =
    unless_outside s None (first_outside s.events (map (λ p. p.0) (puts_of t.ops)))
    (record {
      after = record { names = s.names; events = s.events ++ commit_events fixed s.events owner t; transaction = None };
      body = body.committed (numbers_of (numbered (length s.events + 1) (commit_events fixed s.events owner t)));
    })

-- the commit of a write of its own, answered as the write
abbrev pub as_write : ℕ → LineDone → LineDone
as_write cells done = record done { body = as_written cells done.body }

-- the indices of the chunks of this array with a cell that a new shape cuts
abbrev pub cut_by : Option Known → List ℕ → List (List ℕ)
cut_by None shape = []
cut_by (Some k) shape = cut_chunks k shape

-- a resize: one event behind all that has happened, unless too many chunks are cut
abbrev pub resize_alone : ℕ → Single → ℕ → List ℕ → LineDone
resize_alone owner s array shape =
    if nat_lt 65536 (length (cut_by (known_after s.events array) shape)) then stays s (body.too_many_chunks (length s.events))
    else record { after = record s { events = s.events ++ resized_event owner array shape ∷ [] }; body = body.resized (length s.events + 1) }

-- a resolve: the name is bound to the view by the present shape, or the view is refused there
abbrev pub resolve_alone : Single → Text → Result View RenewError → LineDone
resolve_alone s name (Ok view) = record { after = record s { names = bind s.names name view }; body = resolved_body name view }
resolve_alone s name (Err (renew.Refused cause)) = stays s (body.refused_view cause)
resolve_alone s name (Err renew.NotArray) = stays s body.not_array
resolve_alone s name (Err renew.Memory) = stays s body.memory

-- what an act makes of the session, and its answer
abbrev pub act_alone : Fixed → ℕ → Single → ℕ → Act → LineDone
act_alone fixed owner s line (opens name leaves build) = open_leaves s name build (leaves_from owner leaves s.events)
act_alone fixed owner s line (binds name view) = record { after = record s { names = bind s.names name view }; body = viewed_body name view }
act_alone fixed owner s line (reads view down) = read_alone s (reader line s.transaction) view down
act_alone fixed owner s line (stages t view words) = record { after = record s { transaction = Some (with_write t view words) }; body = body.staged (length words) }
act_alone fixed owner s line (writes view words) = as_write (length words) (commit_alone fixed owner s (write_alone line view words))
act_alone fixed owner s line (begins mode) = record { after = record s { transaction = Some (new_transaction line mode) }; body = body.begun }
act_alone fixed owner s line (commits t) = commit_alone fixed owner s t
act_alone fixed owner s line aborts = record { after = record s { transaction = None }; body = body.aborted }
act_alone fixed owner s line (resizes array shape) = resize_alone owner s array.number shape
act_alone fixed owner s line (resolves name view array) = resolve_alone s name (renewed (shape_after s.events array.number) view)

-- what a line makes of the session, also where it is refused
abbrev pub asked_alone : Fixed → ℕ → Single → ℕ → Asked → LineDone
asked_alone fixed owner s line (Err answer) = stays s answer
asked_alone fixed owner s line (Ok act) = act_alone fixed owner s line act

-- the session, the number of its next line, and the answers so far
pub record Run : Type 0 where
  pub session : Single
  pub line : ℕ
  pub answers : List Answer

-- the run behind one more line that is answered
abbrev pub answered : Run → LineDone → Run
answered r done = record { session = done.after; line = r.line + 1; answers = r.answers ++ record { line = r.line; body = done.body } ∷ [] }

-- a blank line is counted and passed over
abbrev pub after_line : Fixed → ℕ → Run → Option Line → Run
after_line fixed owner r None = record r { line = r.line + 1 }
after_line fixed owner r (Some asked) = answered r (asked_alone fixed owner r.session r.line (act_of r.session.names r.session.transaction asked))

-- the run before its first line
abbrev pub begun_run : Run
begun_run = record { session = record { names = λ name. None; events = []; transaction = None }; line = 1; answers = [] }

-- the answers to the lines of a script, and the events that they add, over one mount whose name is given
abbrev pub single_session : Text → ℕ → List (Option Line) → Run
single_session mount owner lines = fold (after_line (single_store mount) owner) begun_run lines
