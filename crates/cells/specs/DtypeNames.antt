-- The names of the dtypes.
use Rattle.std.specs.Prelude.{ℕ, List, [], ◌∷◌, codes, Option, find}
use Rattle.std.specs.Str.{bytes_eq}
use Rattle.cells.specs.declared.dtype.Dtype.{Dtype}
use Rattle.cells.specs.declared.dtype.Dtype.TheVariants.{I8, U8, I16, U16, I32, U32, I64, U64}

-- "int" or "uint", and how many bits a number takes
abbrev pub dtype_name : Dtype → List ℕ
dtype_name I8 = codes "int8"
dtype_name U8 = codes "uint8"
dtype_name I16 = codes "int16"
dtype_name U16 = codes "uint16"
dtype_name I32 = codes "int32"
dtype_name U32 = codes "uint32"
dtype_name I64 = codes "int64"
dtype_name U64 = codes "uint64"

-- the eight dtypes
abbrev pub dtypes : List Dtype
dtypes = I8 ∷ U8 ∷ I16 ∷ U16 ∷ I32 ∷ U32 ∷ I64 ∷ U64 ∷ []

-- the dtype of this name
abbrev pub dtype_named : List ℕ → Option Dtype
dtype_named text = find (λ dtype. bytes_eq text (dtype_name dtype)) dtypes
