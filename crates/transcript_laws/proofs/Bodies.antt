-- The numbers of events that an answer's object has are those that its body prints.
use Rattle.std.proofs.Common.{◌≡◌, ℕ, List, [], ◌∷◌, ◌++◌, map, Some, None, refl, ap, ◌∙◌, append-nil}
use Rattle.std.specs.Prelude.{filter_map, option_and_then}
use Rattle.json_forms.specs.Numbers.{natural}
use Rattle.json_forms.specs.Lists.{list_items}
use Rattle.json_forms.proofs.Laws.{data_list-items_of}
use Rattle.answer_data.specs.Answers.{answer_data}
use Rattle.answer_data.specs.Members.{numbers_data}
use Rattle.history.specs.Answers as body
use Rattle.history.specs.Answers.{Body}
use Rattle.serial_runs.specs.Numbered as serial
use Rattle.transcript_laws.specs.Fitting.{printed_at}
use Rattle.transcript_laws.specs.Numbers.{listed, event_of, opened_in, done_in, failed_in}

-- an answer of a run over a store that starts empty and makes all changes together, whose lines are checked
abbrev pub IsCounted : Body → Type 0
IsCounted (body.resized event) = ⊥
IsCounted (body.not_atomic keys) = ⊥
IsCounted (body.damaged key cause) = ⊥
IsCounted (body.bad_metadata key why events) = ⊥
IsCounted answer = Unit {0}

events_back : (ns : List ℕ) → filter_map event_of (map natural ns) ≡ ns
events_back [] = refl
events_back (n ∷ ns) = ap (λ l. n ∷ l) (events_back ns)

numbers_back : (ns : List ℕ) → listed (option_and_then list_items (Some (numbers_data ns))) ≡ ns
numbers_back ns = ap (filter_map event_of) (data_list-items_of (map natural ns)) ∙ events_back ns

numbers_alone : (ns : List ℕ) → listed (option_and_then list_items (Some (numbers_data ns))) ++ [] ≡ ns
numbers_alone ns = append-nil (listed (option_and_then list_items (Some (numbers_data ns)))) ∙ numbers_back ns

-- what an answer's object has
pub record HasNumbers (n : ℕ) (b : Body) : Type 0 where
  pub opened : opened_in (answer_data (printed_at n b)) ≡ serial.opened_in b
  pub done : done_in (answer_data (printed_at n b)) ≡ serial.numbers_in b
  pub failed : failed_in (answer_data (printed_at n b)) ≡ serial.failed_in b

pub body_numbers : (n : ℕ) (b : Body) → IsCounted b → HasNumbers n b
body_numbers n (body.opened name dtype domain events) is = record { opened = numbers_back events; done = refl; failed = refl }
body_numbers n (body.viewed name dtype transform) is = record { opened = refl; done = refl; failed = refl }
body_numbers n (body.values origin shape dtype words) is = record { opened = refl; done = refl; failed = refl }
body_numbers n (body.staged cells) is = record { opened = refl; done = refl; failed = refl }
body_numbers n (body.written cells events) is = record { opened = refl; done = numbers_alone events; failed = refl }
body_numbers n body.begun is = record { opened = refl; done = refl; failed = refl }
body_numbers n (body.committed events) is = record { opened = refl; done = numbers_alone events; failed = refl }
body_numbers n body.aborted is = record { opened = refl; done = refl; failed = refl }
body_numbers n (body.resized event) is = absurd is
body_numbers n (body.resolved name dtype transform) is = record { opened = refl; done = refl; failed = refl }
body_numbers n (body.bad_line text) is = record { opened = refl; done = refl; failed = refl }
body_numbers n (body.bad_spec path None) is = record { opened = refl; done = refl; failed = refl }
body_numbers n (body.bad_spec path (Some events)) is = record { opened = numbers_back events; done = refl; failed = refl }
body_numbers n (body.unsupported path) is = record { opened = refl; done = refl; failed = refl }
body_numbers n (body.bad_step step) is = record { opened = refl; done = refl; failed = refl }
body_numbers n (body.unknown_name name) is = record { opened = refl; done = refl; failed = refl }
body_numbers n body.in_transaction is = record { opened = refl; done = refl; failed = refl }
body_numbers n body.no_transaction is = record { opened = refl; done = refl; failed = refl }
body_numbers n (body.unknown_dim step) is = record { opened = refl; done = refl; failed = refl }
body_numbers n (body.repeated_dim step) is = record { opened = refl; done = refl; failed = refl }
body_numbers n (body.refused_step step cause) is = record { opened = refl; done = refl; failed = refl }
body_numbers n (body.refused_view cause) is = record { opened = refl; done = refl; failed = refl }
body_numbers n (body.refused_join cause) is = record { opened = refl; done = refl; failed = refl }
body_numbers n (body.refused_spec path cause events) is = record { opened = numbers_back events; done = refl; failed = refl }
body_numbers n (body.not_found at path events) is = record { opened = numbers_back events; done = refl; failed = refl }
body_numbers n (body.exists at path events) is = record { opened = numbers_back events; done = refl; failed = refl }
body_numbers n (body.path_taken at path events) is = record { opened = numbers_back events; done = refl; failed = refl }
body_numbers n (body.mismatch at member path events) is = record { opened = numbers_back events; done = refl; failed = refl }
body_numbers n (body.bad_metadata key why events) is = absurd is
body_numbers n (body.unbounded dim) is = record { opened = refl; done = refl; failed = refl }
body_numbers n (body.too_many dim) is = record { opened = refl; done = refl; failed = refl }
body_numbers n (body.out_of_range cell dim) is = record { opened = refl; done = refl; failed = refl }
body_numbers n (body.uncovered cell) is = record { opened = refl; done = refl; failed = refl }
body_numbers n (body.bad_values path) is = record { opened = refl; done = refl; failed = refl }
body_numbers n (body.conflict key read now) is = record { opened = refl; done = refl; failed = refl }
body_numbers n (body.shrunk key now) is = record { opened = refl; done = refl; failed = refl }
body_numbers n (body.not_atomic keys) is = absurd is
body_numbers n body.not_array is = record { opened = refl; done = refl; failed = refl }
body_numbers n (body.too_many_chunks at) is = record { opened = refl; done = refl; failed = refl }
body_numbers n (body.store_failed event done None) is = record { opened = refl; done = numbers_back done; failed = refl }
body_numbers n (body.store_failed event done (Some events)) is = record { opened = numbers_back events; done = numbers_back done; failed = refl }
body_numbers n (body.damaged key cause) is = absurd is
body_numbers n body.memory is = record { opened = refl; done = refl; failed = refl }
