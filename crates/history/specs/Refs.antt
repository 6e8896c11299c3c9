-- The references of views to arrays of a history.
use Rattle.std.specs.Prelude.{◌≡◌, ℕ, take, Some}
use Rattle.stack_driver.specs.References.{Reference}
use Rattle.stack_driver.specs.declared.view.View.{View, every-View}
use Rattle.stack_driver.specs.declared.view.View.TheOpen.{View-F}
use Rattle.history.specs.History.{History}
use Rattle.history.specs.Arrays.{Known, known_after, ref_of}

-- the reference is to an array as it was after some of the events
pub record IsKnownRef (events : History) (ref : Reference) : Type 0 where
  pub seen : ℕ
  pub array : Known
  pub known : known_after (take seen events) ref.number ≡ Some array
  pub same : ref ≡ ref_of array

-- a leaf's own reference is known; any other view has none of its own
abbrev pub HasKnownRef : History → View-F View → Type 0
HasKnownRef events (View-F.Leaf array t) = IsKnownRef events array
HasKnownRef events (View-F.Cast to base) = Unit {0}
HasKnownRef events (View-F.Stack layers t) = Unit {0}

-- all references of the view are known
abbrev pub HasKnownRefs : History → View → Type 0
HasKnownRefs events = every-View (HasKnownRef events)
