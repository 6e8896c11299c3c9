-- How a run of the nine scripts went, in one line.
use Rattle.std.specs.Prelude.{ℕ, ℤ, pos, ◌+ℤ◌, List, [], ◌++◌, codes, decimal, Bool, true, false, not, length, map, fold, get_or, sum_by}
use Rattle.std.specs.List.{count_by, flat_map}
use Rattle.std.specs.Fmt.{signed_decimal}
use Rattle.cells.specs.Numbers.{number_of}
use Rattle.answer_text.specs.Status.{is_ok_answer}
use Rattle.answer_text.specs.declared.answer.Answer.{Answer}
use Rattle.answer_text.specs.declared.answer.Body.{Body}
use Rattle.answer_text.specs.declared.answer.Body.TheVariants.{Values, Committed}
use Rattle.history.specs.declared.event.Event.{Event}
use Rattle.history.specs.declared.event.Kind.{Kind}
use Rattle.history.specs.declared.event.Kind.TheVariants.{Done}

-- the log of the session that reads all arrays; no answers where there are fewer than nine logs
abbrev pub reading_log : List (List Answer) → List Answer
reading_log logs = get_or logs 8 []

-- the numbers of the events that a commit answers
abbrev pub commit_of : Body → List ℕ
commit_of (Committed events) = events
commit_of other = []

-- the number of the first event that is told of a commit; 0 where none is
abbrev pub first_commit : List Answer → ℕ
first_commit log = get_or (flat_map (λ answer. commit_of answer.body) log) 0 0

-- a transaction was committed, or one key of it
abbrev pub is_commit : Kind → Bool
is_commit (Done line mode ops key) = true
is_commit other = false

-- how many such events there are
abbrev pub commits : List Event → ℕ
commits history = count_by (λ event. is_commit event.kind) history

-- how many answers say that a line didn't do what it asks for
abbrev pub refused : List (List Answer) → ℕ
refused logs = sum_by (λ log. count_by (λ answer. not (is_ok_answer answer)) log) logs

-- the numbers that a read answers
abbrev pub numbers_of : Body → List ℤ
numbers_of (Values origin shape dtype words) = map (number_of dtype) words
numbers_of other = []

-- the numbers of all reads
abbrev pub numbers_read : List Answer → List ℤ
numbers_read log = flat_map (λ answer. numbers_of answer.body) log

-- what numbers come to, added to one
abbrev pub added : ℤ → List ℤ → ℤ
added start numbers = fold (λ total number. total +ℤ number) start numbers

-- the line: the event of the last session's commit, the commits, the events, the answers that aren't Ok, and the sum of all numbers that the
-- last session read
abbrev pub summary_text : List (List Answer) → List Event → List ℕ
summary_text logs history =
    (codes "{\"at\":" ++ decimal (first_commit (reading_log logs)) ++ codes ",\"commits\":")
    ++ (codes "" ++ decimal (commits history) ++ codes ",\"events\":")
    ++ (codes "" ++ decimal (length history) ++ codes ",\"refused\":")
    ++ (codes "" ++ decimal (refused logs) ++ codes ",\"sum\":")
    ++ signed_decimal (added (pos 0) (numbers_read (reading_log logs)))
    ++ codes "}\n"
