-- Which answers are Ok, and the status of a run.
use Rattle.std.specs.Prelude.{ℕ, List, Bool, true, false, if◌then◌else◌}
use Rattle.std.specs.List.{list_all}
use Rattle.answer_text.specs.declared.answer.Answer.{Answer}
use Rattle.answer_text.specs.declared.answer.Body.{Body}
use Rattle.answer_text.specs.declared.answer.Body.TheVariants.{Opened, Viewed, Values, Staged, Written, Begun, Committed, Aborted, Resized, Resolved}

-- the bodies of lines that did what they ask for
abbrev pub is_ok_body : Body → Bool
is_ok_body (Opened name dtype domain events) = true
is_ok_body (Viewed name dtype transform) = true
is_ok_body (Values origin shape dtype words) = true
is_ok_body (Staged cells) = true
is_ok_body (Written cells events) = true
is_ok_body Begun = true
is_ok_body (Committed events) = true
is_ok_body Aborted = true
is_ok_body (Resized event) = true
is_ok_body (Resolved name dtype transform) = true
is_ok_body other = false

-- the line did what it asks for
abbrev pub is_ok_answer : Answer → Bool
is_ok_answer answer = is_ok_body answer.body

-- 0 where every answer is Ok, else 1
abbrev pub status_of : List Answer → ℕ
status_of answers = if list_all is_ok_answer answers then 0 else 1
