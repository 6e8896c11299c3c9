-- What all answers of a run say together.
use Rattle.std.specs.Prelude.{List, Bool, true, false}
use Rattle.std.specs.List.{list_all, list_any}
use Rattle.answer_text.specs.Status.{is_ok_answer}
use Rattle.answer_text.specs.declared.answer.Answer.{Answer}
use Rattle.answer_text.specs.declared.answer.Body.{Body}
use Rattle.answer_text.specs.declared.answer.Body.TheVariants.{Memory}

-- each answer of each log says that its line did what it asks for
abbrev pub are_all_ok : List (List Answer) → Bool
are_all_ok logs = list_all (list_all is_ok_answer) logs

abbrev pub is_memory_body : Body → Bool
is_memory_body Memory = true
is_memory_body other = false

-- the answer is want of memory
abbrev pub is_memory : Answer → Bool
is_memory answer = is_memory_body answer.body

-- an answer of some log is want of memory
abbrev pub holds_memory : List (List Answer) → Bool
holds_memory logs = list_any (list_any is_memory) logs
