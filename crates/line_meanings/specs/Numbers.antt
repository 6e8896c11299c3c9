-- The numbers of a line: the values of a write, and what a downsampled read prints.
use Rattle.std.specs.Prelude.{length, Option, Some, None}
use Rattle.serde_json.specs.Data.{Data}
use Rattle.downsample_view.specs.Downsampled.{downsampled}
use Rattle.downsample_view.specs.declared.outcome.Down.{Down}
use Rattle.line_forms.specs.declared.command.DownWant.{DownWant}
use Rattle.script_lines.specs.NestedWords.{words_of}
use Rattle.line_answers.specs.Lines.{Values, Printed, Downsampling}

-- the words that values give to the cells of a shape
abbrev pub values_of : Data → Values
values_of values dtype shape = words_of dtype shape values

abbrev pub printed : Down → Printed
printed down = record { origin = down.origin; shape = down.shape; words = down.words }

-- a factor for each dimension
abbrev pub downsampling : DownWant → Downsampling
downsampling want = record { rank = length want.factors; printed = λ dims dtype words. printed (downsampled want.method dtype want.factors dims words) }

abbrev pub downsampling_of : Option DownWant → Option Downsampling
downsampling_of None = None
downsampling_of (Some want) = Some (downsampling want)
