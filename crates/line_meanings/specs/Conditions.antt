-- What an answer may rest on beside the form of a command.
use Rattle.std.specs.List.{AllByRecursion}
use Rattle.zarr_chunks.specs.Want as zarr
use Rattle.n5_blocks.specs.Want as n5
use Rattle.zarr3_chunks.specs.Want as zarr3
use Rattle.line_forms.specs.declared.SpecLeaf.{SpecLeaf}
use Rattle.line_forms.specs.declared.SpecLeaf.TheVariants.{Zarr, N5, Zarr3, Given}
use Rattle.line_forms.specs.declared.command.Command.{Command}
use Rattle.line_forms.specs.declared.command.Command.TheVariants.{Open, View, Join, Read, Write, Begin, Commit, Abort, Resize, Resolve}

-- what is asked of a stored array keeps the rules of metadata, which its type says
abbrev pub HasRules : SpecLeaf → Type 0
HasRules (Zarr mount path want may_open may_create) = zarr.IsWant want
HasRules (N5 mount path want may_open may_create) = n5.IsWant want
HasRules (Zarr3 mount path want may_open may_create) = zarr3.IsWant want
HasRules (Given numbers) = Unit {0}

-- so it does for each leaf that a command opens
abbrev pub HaveRules : Command → Type 0
HaveRules (Open name plan) = AllByRecursion HasRules plan.leaves
HaveRules (View name of transform steps) = Unit {0}
HaveRules (Join name form layers transform steps) = Unit {0}
HaveRules (Read name steps down) = Unit {0}
HaveRules (Write name steps values) = Unit {0}
HaveRules (Begin atomic repeatable_read) = Unit {0}
HaveRules Commit = Unit {0}
HaveRules Abort = Unit {0}
HaveRules (Resize name shape) = Unit {0}
HaveRules (Resolve name) = Unit {0}
