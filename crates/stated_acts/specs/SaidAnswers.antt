-- What an answer reads as, where it is kept and where it is read again.
use Rattle.std.specs.Prelude.{ℕ, List, Option, Some, codes, unwrap_or}
use Rattle.std.specs.Int.{cast_signed, w64}
use Rattle.json_forms.specs.Bytes.{data_of}
use Rattle.json_forms.specs.Numbers.{integer}
use Rattle.serde_json.specs.Data.{Data, null}
use Rattle.serde_json.specs.Find.{get}
use Rattle.serde_json.specs.View.{view as data_in}
use Rattle.stated_arrays.specs.Keeping.{data_kept}
use Rattle.stated_arrays.specs.declared.KeptAnswer.TheVariants as kept
use Rattle.stated_acts.specs.declared.said_answer.ReadAnswer.{ReadAnswer}
use Rattle.stated_acts.specs.declared.said_answer.ReadAnswer.TheVariants as read
use Rattle.stated_acts.specs.declared.said_answer.SaidAnswer.{SaidAnswer}
use Rattle.stated_acts.specs.declared.said_answer.SaidAnswer.TheVariants as said
use Rattle.stated_acts.specs.declared.said_answer.SaidValues.{SaidValues}
use Rattle.stated_acts.specs.declared.said_answer.SaidValues.TheVariants as values

-- what a text reads as; one that is no JSON reads as null
abbrev pub data_of_text : List ℕ → Data
data_of_text bytes = unwrap_or (data_of bytes) null

-- what the answer of one cell reads as
abbrev pub said_cell : ℕ → ℕ → Data
said_cell line word = data_kept (kept.Cell line word)

-- the number of its cell
abbrev pub cell_values : ℕ → Data
cell_values word = integer (cast_signed w64 word)

-- what an answer reads as
abbrev pub data_said : SaidAnswer → Data
data_said (said.Kept answer) = data_in answer.now
data_said (said.Cell line word) = said_cell line word
data_said (said.Text bytes) = data_of_text bytes.now

-- so it is where it was read
abbrev pub data_read : ReadAnswer → Data
data_read (read.Kept answer) = data_in answer.now
data_read (read.Again answer) = data_in answer

-- the values that an answer tells, where it tells any
abbrev pub values_said : SaidValues → Option Data
values_said (values.Kept answer) = get (codes "values") (data_in answer.now)
values_said (values.Again answer) = get (codes "values") (data_in answer)
values_said (values.Cell number) = Some (data_in number)
