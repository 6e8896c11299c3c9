-- The domain of a transform, from its input members.
use Rattle.std.specs.Prelude.{ℕ, nat_le, if◌then◌else◌, List, [], length, find, replicate, codes, Option, Some, None, option_and_then, Result, Ok, Err}
use Rattle.serde_json.specs.Data.{Data}
use Rattle.serde_json.specs.Find.{get, as_str, as_number, as_u64}
use Rattle.json_forms.specs.Lists.{all_of}
use Rattle.index_transform.specs.Maps.{are_labels}
use Rattle.index_transform.specs.declared.domain.Domain.{Domain}
use Rattle.transform_json.specs.declared.error.JsonError.{JsonError}
use Rattle.transform_json.specs.declared.error.JsonError.TheVariants.{BadMember}
use Rattle.transform_json.specs.Bounds.{lowers_of}
use Rattle.transform_json.specs.Faults.{◌>>=◌, found_at}
use Rattle.transform_json.specs.Members.{where_so, list_members, has, items_at, items_of_len, first_some}
use Rattle.transform_json.specs.Uppers.{dims_of}

-- a rank, 0 to 32
abbrev pub rank_number : Data → Option ℕ
rank_number d = option_and_then (λ n. where_so (nat_le n 32) (Some n)) (option_and_then as_u64 (as_number d))

-- the rank of a list; where there is none, the first of these members is at fault, and the rank where there is no member
abbrev pub rank_by : Option (List Data) → Option (List ℕ) → Result ℕ JsonError
rank_by (Some items) name = if nat_le (length items) 32 then Ok (length items) else Err (BadMember (codes "input_rank"))
rank_by None None = Err (BadMember (codes "input_rank"))
rank_by None (Some name) = Err (BadMember name)

-- the rank by the first of the members that is a list
abbrev pub rank_of_lists : Data → Result ℕ JsonError
rank_of_lists d = rank_by (first_some (items_at d) list_members) (find (has d) list_members)

-- the rank: `input_rank`, or else that of a list
abbrev pub rank_of : Data → Result ℕ JsonError
rank_of d = if has d (codes "input_rank") then found_at (codes "input_rank") (option_and_then rank_number (get (codes "input_rank") d)) else rank_of_lists d

-- texts that may be labels
abbrev pub given_labels : Data → ℕ → Option (List (List ℕ))
given_labels d rank = option_and_then (λ labels. where_so (are_labels labels) (Some labels)) (option_and_then (all_of as_str) (items_of_len d (codes "input_labels") rank))

-- the labels, none where they aren't given
abbrev pub labels_of : Data → ℕ → Result (List (List ℕ)) JsonError
labels_of d rank = if has d (codes "input_labels") then found_at (codes "input_labels") (given_labels d rank) else Ok (replicate rank [])

-- the domain: its rank, its lower bounds, its intervals, its labels, the first fault in this order
abbrev pub domain_of : Data → Result Domain JsonError
domain_of d = do
  rank ← rank_of d
  lowers ← lowers_of d rank
  dims ← dims_of d lowers
  labels ← labels_of d rank
  Ok (record { dims = dims; labels = labels })
