-- The members of an object.
use Rattle.std.specs.Prelude.{ℕ, List, [], ◌∷◌, Bool, false, not, filter, Option, Some, None, is_some, if◌then◌else◌}
use Rattle.std.specs.List.{list_all, list_any}
use Rattle.std.specs.Ordering.{nat_cmp, match_ordering}
use Rattle.std.specs.Cmp.Lexicographic.{slice_cmp}
use Rattle.std.specs.Str.{bytes_eq}
use Rattle.serde_json.specs.Data.{Data, null, boolean, number, string, array, object, Members, no_members, member, put}
use Rattle.serde_json.specs.Find.{get, as_object}

-- the names one after another
abbrev pub names_of : Members → List (List ℕ)
names_of no_members = []
names_of (member k d ms) = k ∷ names_of ms

-- the names of an object's members; another value has none
abbrev pub member_names : Data → List (List ℕ)
member_names null = []
member_names (boolean b) = []
member_names (number n) = []
member_names (string s) = []
member_names (array ds) = []
member_names (object ms) = names_of ms

-- the name is one of these
abbrev pub is_among : List ℕ → List (List ℕ) → Bool
is_among name names = list_any (λ n. bytes_eq n name) names

-- the lesser of a name and another, if there is one
abbrev pub lesser : List ℕ → Option (List ℕ) → List ℕ
lesser k None = k
lesser k (Some l) = match_ordering (slice_cmp nat_cmp k l) k k l

-- the least in byte order
abbrev pub least_name : List (List ℕ) → Option (List ℕ)
least_name [] = None
least_name (k ∷ ks) = Some (lesser k (least_name ks))

-- the least name of a member that is none of the known
unfoldable pub least_unknown : List (List ℕ) → Data → Option (List ℕ)
least_unknown known d = least_name (filter (λ name. not (is_among name known)) (member_names d))

-- an object that has each of these members and no other
unfoldable pub has_exactly : List (List ℕ) → Data → Bool
has_exactly names d = if is_some (as_object d) then (if is_some (least_unknown names d) then false else list_all (λ name. is_some (get name d)) names) else false

-- the members of these names and values; of a name that stands twice the first counts
abbrev pub members_from : List (List ℕ × Data) → Members
members_from [] = no_members
members_from (m ∷ ms) = put m.0 m.1 (members_from ms)

-- the object of these members
abbrev pub object_of : List (List ℕ × Data) → Data
object_of ms = object (members_from ms)
