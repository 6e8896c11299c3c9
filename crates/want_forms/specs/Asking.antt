-- Members that may be left out, looked at in byte order; an unknown member is a fault at its place in this order.
use Rattle.std.specs.Prelude.{ℕ, ℤ, List, Bool, true, false, Option, Some, None, Result, Ok, Err, if◌then◌else◌}
use Rattle.std.specs.Ordering.{nat_cmp, match_ordering}
use Rattle.std.specs.Cmp.Lexicographic.{slice_cmp}
use Rattle.serde_json.specs.Data.{Data}
use Rattle.cells.specs.declared.dtype.Dtype.{Dtype}
use Rattle.cells.specs.declared.dtype.Dtype.TheVariants.{I64, U64}
use Rattle.meta_forms.specs.Faults.{named, ◌>>=◌}
use Rattle.meta_forms.specs.Judged.{is_there, judged_word}
use Rattle.meta_forms.specs.declared.error.MetaError.{MetaError}
use Rattle.meta_forms.specs.declared.error.MetaError.TheVariants.{BadMember}
use Rattle.meta_forms.specs.declared.error.Fault.{Fault}

-- one name comes before another in byte order
abbrev pub comes_before : List ℕ → List ℕ → Bool
comes_before k l = match_ordering (slice_cmp nat_cmp k l) true false false

-- no unknown member comes before this name
unfoldable pub none_before : Option (List ℕ) → List ℕ → Result (Unit {0}) MetaError
none_before None name = Ok tt
none_before (Some unknown) name = if comes_before unknown name then Err (BadMember unknown) else Ok tt

-- there is no unknown member
unfoldable pub none_left : Option (List ℕ) → Result (Unit {0}) MetaError
none_left None = Ok tt
none_left (Some unknown) = Err (BadMember unknown)

abbrev pub some_of : {A : Type 0} → Result A Fault → Result (Option A) Fault
some_of (Ok x) = Ok (Some x)
some_of (Err fault) = Err fault

-- what is judged of a member, if it is there
unfoldable pub asked : {A : Type 0} → Bool → Result A Fault → Result (Option A) Fault
asked there judged = if there then some_of judged else Ok None

-- the same in the member's turn: unless an unknown member, the least, comes before it
unfoldable pub in_turn : {A : Type 0} → Option (List ℕ) → List ℕ → Data → Result A Fault → Result (Option A) MetaError
in_turn unknown name d judged = none_before unknown name >>= (λ _. named name (asked (is_there name d) judged))

abbrev pub right_or : {A : Type 0} → Result A Fault → Result A Fault → Result A Fault
right_or (Ok x) other = Ok x
right_or (Err fault) other = other

-- what is judged right
abbrev pub if_right : {A : Type 0} → Result A Fault → Option A
if_right (Ok x) = Some x
if_right (Err fault) = None

-- the word of a number: in the dtype's range, or where there is no dtype one of 64 bits, with a sign or without
unfoldable pub word_asked : Option Dtype → Option ℤ → Result ℕ Fault
word_asked (Some dtype) number = judged_word dtype number
word_asked None number = right_or (judged_word I64 number) (judged_word U64 number)
