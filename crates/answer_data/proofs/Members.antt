-- The members of an object in the order of their names.
use Rattle.std.proofs.Common.{◌≡◌, ℕ, List, Ordering, Less, Equal, Greater, nat_cmp, refl, ap, ◌∙◌}
use Rattle.std.proofs.lemmas.Cmp.{nat_list_cmp_total}
use Rattle.std.specs.Cmp.Lexicographic.{slice_cmp}
use Rattle.std.specs.Ordering.{match_ordering, ordering_reverse}
use Rattle.serde_json.specs.Data.{Data, null, boolean, number, string, array, object, Items, no_items, item, Members, no_members, member, put}

-- the name stands before the first of the members
abbrev pub IsBefore : List ℕ → Members → Type 0
IsBefore k no_members = Unit {0}
IsBefore k (member l e ms) = slice_cmp nat_cmp k l ≡ Less

-- each object has its members in strictly rising order of their names
abbrev mutual
  pub IsOrdered : Data → Type 0
  IsOrdered null = Unit {0}
  IsOrdered (boolean b) = Unit {0}
  IsOrdered (number n) = Unit {0}
  IsOrdered (string s) = Unit {0}
  IsOrdered (array ds) = AreOrdered ds
  IsOrdered (object ms) = HasOrdered ms

  pub AreOrdered : Items → Type 0
  AreOrdered no_items = Unit {0}
  AreOrdered (item d ds) = IsOrdered d × AreOrdered ds

  pub HasOrdered : Members → Type 0
  HasOrdered no_members = Unit {0}
  HasOrdered (member k d ms) = IsBefore k ms × IsOrdered d × HasOrdered ms

turned : (k l : List ℕ) → slice_cmp nat_cmp k l ≡ Greater → slice_cmp nat_cmp l k ≡ Less
turned k l is = nat_list_cmp_total.antisymm l k ∙ ap ordering_reverse is

before_chosen : (o : Ordering) (l : List ℕ) (a b c : Members) → (o ≡ Less → IsBefore l a) → (o ≡ Equal → IsBefore l b) → (o ≡ Greater → IsBefore l c) → IsBefore l (match_ordering o a b c)
before_chosen Less l a b c f g h = f refl
before_chosen Equal l a b c f g h = g refl
before_chosen Greater l a b c f g h = h refl

before_put : (l k : List ℕ) (d : Data) (ms : Members) → slice_cmp nat_cmp l k ≡ Less → IsBefore l ms → IsBefore l (put k d ms)
before_put l k d no_members less first = less
before_put l k d (member m e ms) less first = before_chosen (slice_cmp nat_cmp k m) l _ _ _ (λ o. less) (λ o. first) (λ o. first)

ordered_chosen : (o : Ordering) (a b c : Members) → (o ≡ Less → HasOrdered a) → (o ≡ Equal → HasOrdered b) → (o ≡ Greater → HasOrdered c) → HasOrdered (match_ordering o a b c)
ordered_chosen Less a b c f g h = f refl
ordered_chosen Equal a b c f g h = g refl
ordered_chosen Greater a b c f g h = h refl

-- one member more
pub HasOrdered-put : (k : List ℕ) (d : Data) (ms : Members) → IsOrdered d → HasOrdered ms → HasOrdered (put k d ms)
HasOrdered-put k d no_members value rest = (tt, value, tt)
HasOrdered-put k d (member l e ms) value rest =
    ordered_chosen (slice_cmp nat_cmp k l) _ _ _ (λ o. (o, value, rest)) (λ o. (rest.0, value, rest.2))
    (λ o. (before_put l k d ms (turned k l o) rest.0, rest.1, HasOrdered-put k d ms value rest.2))
