-- When an array may be resized.
use Rattle.std.specs.Prelude.{ℕ, List}
use Rattle.chunk_forms.specs.declared.form.Damage.{Damage}
use Rattle.history.specs.History.{History}
use Rattle.history.specs.Arrays.{known_after}
use Rattle.history.specs.Commit.{Key, Fixed}
use Rattle.history.specs.Content.{present_shape}
use Rattle.history.specs.Legal.{IsLegalResize}
use Rattle.history.specs.Refusals.{IsNotAtomicResize, IsDamagedResize}

-- a stored array may take the shape, and its changes are made together
pub record MayResize (fixed : Fixed) (events : History) (array : ℕ) (shape : List ℕ) : Type 0 where
  pub legal : IsLegalResize (known_after events array) shape
  pub whole : (keys : ℕ) → ¬ IsNotAtomicResize fixed events array shape keys

-- no damaged chunk is cut in part
abbrev pub HasNoDamagedPart : Fixed → History → ℕ → List ℕ → Type 0
HasNoDamagedPart fixed events array shape = (key : Key) (cause : Damage) → ¬ IsDamagedResize fixed events array shape key cause

-- an array's shape after a history
abbrev pub shape_after : History → ℕ → List ℕ
shape_after events array = present_shape (known_after events array)
