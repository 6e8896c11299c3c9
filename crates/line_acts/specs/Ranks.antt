-- The factors of a read, beside the view that it names.
use Rattle.std.specs.Prelude.{◌≡◌, length, Option, Some, None}
use Rattle.line_meanings.specs.declared.DownWant.{DownWant}
use Rattle.stack_driver.specs.Views.{look_of}
use Rattle.stack_driver.specs.declared.view.View.{View}

-- a read that is downsampled has a factor for each dimension
abbrev pub HasRank : Option DownWant → View → Type 0
HasRank None v = Unit {0}
HasRank (Some want) v = length want.factors ≡ length (look_of v).dims
