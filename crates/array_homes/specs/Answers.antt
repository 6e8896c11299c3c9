-- Answers of the formats' readers as answers of one.
use Rattle.std.specs.Prelude.{Result, Ok, Err}
use Rattle.meta_forms.specs.declared.error.MetaError.{MetaError}
use Rattle.meta_forms.specs.declared.error.MetaError.TheVariants as meta
use Rattle.zarr_chunks.specs.Metadata as zarr
use Rattle.n5_blocks.specs.Metadata as n5
use Rattle.zarr3_chunks.specs.Metadata as zarr3
use Rattle.history.specs.declared.Form.{Form}
use Rattle.history.specs.declared.Form.TheVariants as form
use Rattle.array_homes.specs.declared.read.FormReadError.{FormReadError}
use Rattle.array_homes.specs.declared.read.FormReadError.TheVariants.{Bad, Memory}
use Rattle.array_homes.specs.declared.read.MetaCause.{MetaCause}
use Rattle.array_homes.specs.declared.read.MetaCause.TheVariants as cause

-- want of memory, or bytes that are no metadata by this cause
abbrev pub refused : (MetaError → MetaCause) → MetaError → FormReadError
refused by meta.NotJson = Bad (by meta.NotJson)
refused by (meta.BadMember name) = Bad (by (meta.BadMember name))
refused by (meta.Unsupported name) = Bad (by (meta.Unsupported name))
refused by meta.Memory = Memory

-- the metadata, the cause or want of memory
abbrev pub of_zarr : Result zarr.Metadata MetaError → Result Form FormReadError
of_zarr (Ok m) = Ok (form.Zarr m)
of_zarr (Err why) = Err (refused cause.Zarr why)

abbrev pub of_n5 : Result n5.Metadata MetaError → Result Form FormReadError
of_n5 (Ok m) = Ok (form.N5 m)
of_n5 (Err why) = Err (refused cause.N5 why)

abbrev pub of_zarr3 : Result zarr3.Metadata MetaError → Result Form FormReadError
of_zarr3 (Ok m) = Ok (form.Zarr3 m)
of_zarr3 (Err why) = Err (refused cause.Zarr why)
