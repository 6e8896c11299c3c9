-- Members in rising order go in one behind another.
use Rattle.std.proofs.Common.{◌≡◌, ℕ, List, Less, Greater, nat_cmp, refl, ap, ◌∙◌}
use Rattle.std.proofs.lemmas.Cmp.{nat_list_cmp_total}
use Rattle.std.specs.Cmp.Lexicographic.{slice_cmp}
use Rattle.std.specs.Ordering.{ordering_reverse}
use Rattle.serde_json.specs.Data.{Data, Members, no_members, member, put}
use Rattle.answer_data.proofs.Members.{IsBefore, HasOrdered}

-- some members and more behind them
abbrev pub joined : Members → Members → Members
joined no_members more = more
joined (member k d ms) more = member k d (joined ms more)

pub joined-assoc : (ms more rest : Members) → joined (joined ms more) rest ≡ joined ms (joined more rest)
joined-assoc no_members more rest = refl
joined-assoc (member k d ms) more rest = ap (member k d) (joined-assoc ms more rest)

pub joined-none : (ms : Members) → joined ms no_members ≡ ms
joined-none no_members = refl
joined-none (member k d ms) = ap (member k d) (joined-none ms)

-- a name before rising members is before each of them
before_each : (l : List ℕ) (found : Members) (k : List ℕ) (d : Data) (more : Members) → IsBefore l (joined found (member k d more)) → HasOrdered (joined found (member k d more))
    → slice_cmp nat_cmp l k ≡ Less
before_each l no_members k d more first rising = first
before_each l (member m e found) k d more first rising = nat_list_cmp_total.trans l m k first (before_each m found k d more rising.0 rising.2)

-- a name behind those that were found goes last
pub put_last : (found : Members) (k : List ℕ) (d : Data) (more : Members) → HasOrdered (joined found (member k d more)) → put k d found ≡ joined found (member k d no_members)
put_last no_members k d more rising = refl
put_last (member l e found) k d more rising =
    let above : slice_cmp nat_cmp k l ≡ Greater = nat_list_cmp_total.antisymm k l ∙ ap ordering_reverse (before_each l found k d more rising.0 rising.2) in
    rw above (ap (member l e) (put_last found k d more rising.2))
