-- What operations write, and how a view is read, on plain arrays: a word at each cell.
use Rattle.std.specs.Prelude.{ℕ, List, [], map, fold, filter_map, Option, Some, None, Result, Ok, Err, if◌then◌else◌}
use Rattle.std.specs.List.{zip, flat_map}
use Rattle.std.specs.Option.{option_map}
use Rattle.stack_driver.specs.declared.view.View.{View}
use Rattle.stack_driver.specs.Targets.{Cell, is_cell, Target, outwards, inwards}
use Rattle.stack_driver.specs.Views.{targets_of}
use Rattle.stack_driver.specs.declared.error.TargetError.{TargetError}
use Rattle.history.specs.declared.event.Op.{Op}
use Rattle.history.specs.declared.event.Op.TheVariants.{Write, Read}

-- a word that is put at a cell
abbrev pub Put : Type 0
Put = Cell × ℕ

-- a word of a view at the cell where it lies, taken back through the casts
abbrev pub put_at : Result Target TargetError × ℕ → Option Put
put_at p = elim p.0 [ Ok t ↦ Some (t.cell, inwards t.casts p.1) | Err e ↦ None ]

-- what an operation puts, in C order of its view
abbrev pub puts_of_op : Op → List Put
puts_of_op (Write view words) = filter_map put_at (zip (targets_of view) words)
puts_of_op (Read view words) = []

-- what operations put, one after another
abbrev pub puts_of : List Op → List Put
puts_of ops = flat_map puts_of_op ops

-- a word for each cell; none where there is no number
abbrev pub Content : Type 0
Content = Cell → Option ℕ

-- the content with one word put
abbrev pub put : Content → Put → Content
put content p = λ x. if is_cell p.0 x then Some p.1 else content x

-- the content after operations: each word is put at its cell, one after another
abbrev pub written : List Op → Content → Content
written ops content = fold put content (puts_of ops)

-- the word at a target, taken outwards through its casts; none where there is no target
abbrev pub shown_in : Content → Result Target TargetError → Option ℕ
shown_in content (Ok t) = option_map (outwards t.casts) (content t.cell)
shown_in content (Err e) = None

-- the words of a view's cells, in C order, through its casts
abbrev pub read_values : Content → View → List (Option ℕ)
read_values content view = map (shown_in content) (targets_of view)
