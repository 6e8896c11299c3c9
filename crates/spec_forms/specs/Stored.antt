-- What a Spec of a stored array asks.
use Rattle.std.specs.Prelude.{ℕ, List, [], ◌∷◌, codes, Bool, false, not, ◌||◌, Option, Some, None, unwrap_or, Result, Ok, Err, option_and_then, if◌then◌else◌}
use Rattle.serde_json.specs.Data.{Data}
use Rattle.serde_json.specs.Find.{get}
use Rattle.cells.specs.declared.dtype.Dtype.{Dtype}
use Rattle.want_forms.specs.declared.Want.{Want}
use Rattle.want_forms.specs.declared.Want.TheVariants as want
use Rattle.meta_forms.specs.declared.error.Fault.{Fault}
use Rattle.meta_forms.specs.declared.error.Fault.TheVariants.{Bad}
use Rattle.meta_forms.specs.declared.error.MetaError.{MetaError}
use Rattle.meta_forms.specs.declared.error.MetaError.TheVariants as meta
use Rattle.want_forms.specs.Wants.{want_of, named_dtype}
use Rattle.want_forms.specs.declared.format.Format.{Format}
use Rattle.spec_forms.specs.declared.error.SpecError.{SpecError}
use Rattle.spec_forms.specs.declared.error.SpecError.TheVariants as spec
use Rattle.spec_forms.specs.declared.kvstore.Location.{Location}
use Rattle.spec_forms.specs.declared.leaf.SpecLeaf.{SpecLeaf}
use Rattle.spec_forms.specs.declared.leaf.SpecLeaf.TheVariants as leaf
use Rattle.spec_forms.specs.declared.stored.Asked.{Asked}
use Rattle.spec_forms.specs.Faults.{joined, ◌>>=◌, in_turn, judged_in_turn}
use Rattle.spec_forms.specs.Kvstores.{location_at}
use Rattle.spec_forms.specs.Members.{judged_flag, judged_dtype, agreeing, false_at}

-- the members of a stored array's Spec
abbrev pub stored_members : List (List ℕ)
stored_members =
    codes "assume_metadata" ∷ codes "cache_pool" ∷ codes "context" ∷ codes "create" ∷ codes "data_copy_concurrency"
    ∷ codes "delete_existing" ∷ codes "driver" ∷ codes "dtype" ∷ codes "kvstore" ∷ codes "metadata" ∷ codes "open" ∷ codes "rank"
    ∷ codes "recheck_cached_data" ∷ codes "recheck_cached_metadata" ∷ codes "schema" ∷ codes "store_data_equal_to_fill_value"
    ∷ codes "transform" ∷ []

-- whether an array may be made: only where this is said
abbrev pub may_create : Option Bool → Bool
may_create create = unwrap_or create false

-- whether an array may be opened that is there: unless it is only to be made, where nothing is said; one of both has to be
abbrev pub one_of_both : Bool → Option Bool → Result Bool Fault
one_of_both create said = if unwrap_or said (not create) || create then Ok (unwrap_or said (not create)) else Err Bad

abbrev pub judged_open : Option Bool → Result (Option Bool) Fault → Result Bool Fault
judged_open create (Err fault) = Err fault
judged_open create (Ok said) = one_of_both (may_create create) said

-- what `metadata` at a path asks, or its first fault
unfoldable pub asked_at : List ℕ → Result Want MetaError → Result Want SpecError
asked_at path (Ok w) = Ok w
asked_at path (Err meta.NotJson) = Err (spec.BadSpec path)
asked_at path (Err (meta.BadMember name)) = Err (spec.BadSpec (joined path name))
asked_at path (Err (meta.Unsupported name)) = Err (spec.Unsupported (joined path name))
asked_at path (Err meta.Memory) = Err spec.Memory

abbrev pub stored_leaf : Location → Want → Bool → Bool → SpecLeaf
stored_leaf l (want.Zarr w) open_it create_it = leaf.Zarr l.mount l.path w open_it create_it
stored_leaf l (want.N5 w) open_it create_it = leaf.N5 l.mount l.path w open_it create_it
stored_leaf l (want.Zarr3 w) open_it create_it = leaf.Zarr3 l.mount l.path w open_it create_it

-- the Spec's own dtype, which is that of `metadata` where a right one stands there
unfoldable pub own_dtype : Format → Data → Result (Option Dtype) Fault
own_dtype format d = agreeing (option_and_then (named_dtype format) (get (codes "metadata") d)) (judged_dtype (get (codes "dtype") d))

-- what the members from `metadata` to `open` ask
unfoldable pub asked_in : Format → List ℕ → Option (List ℕ) → Data → Option Bool → Option Dtype → Result Asked SpecError
asked_in format path unknown d create own = do
  w ← in_turn path unknown (codes "metadata") (asked_at (joined path (codes "metadata")) (want_of format own (get (codes "metadata") d)))
  may ← judged_in_turn path unknown (codes "open") (judged_open create (judged_flag (get (codes "open") d)))
  Ok (record { want = w; may_open = may })

-- the leaf of a stored array, the first fault in byte order
unfoldable pub stored_at : List (List ℕ) → Format → List ℕ → Option (List ℕ) → Data → Result SpecLeaf SpecError
stored_at names format path unknown d = do
  _ ← false_at (codes "assume_metadata") path unknown d
  create ← judged_in_turn path unknown (codes "create") (judged_flag (get (codes "create") d))
  _ ← false_at (codes "delete_existing") path unknown d
  own ← judged_in_turn path unknown (codes "dtype") (own_dtype format d)
  location ← in_turn path unknown (codes "kvstore") (location_at names (joined path (codes "kvstore")) (get (codes "kvstore") d))
  asked ← asked_in format path unknown d create own
  Ok (stored_leaf location asked.want asked.may_open (may_create create))
