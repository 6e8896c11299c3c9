-- The leaves of an open line, each with the number that it takes, one after another.
use Rattle.std.proofs.Common.{◌≡◌, ℕ, zero, suc, ◌+◌, ◌≤◌, List, [], ◌∷◌, ◌++◌, length, map, take, drop, Option, Some, None, refl, sym, ap, subst, ◌∙◌, arith}
use Rattle.std.specs.Prelude.{option_map, unwrap_or, max, ◌^◌}
use Rattle.std.specs.List.{AllByRecursion, slice_get}
use Rattle.cells.specs.Places.{cell_count}
use Rattle.stack_driver.specs.References.{Reference}
use Rattle.history.specs.Answers.{Text}
use Rattle.history.specs.History.{History}
use Rattle.history.specs.Leaves.{Leaf}
use Rattle.history.specs.Lines.{SpecLeaf, given, stored}
use Rattle.read_fits.specs.declared.SpecLeaf as spec
use Rattle.read_fits.specs.declared.SpecLeaf.TheVariants.{Zarr, N5, Zarr3, Given as GivenOf}
use Rattle.read_fits.specs.declared.Tree.{Tree}
use Rattle.read_fits.specs.Opening.{IsSettledLeaf, AreSettled, IsUntaken, IsStopped}
use Rattle.read_fits.specs.Openings.{leaf_of, leaves_from, node_of}
use Rattle.read_fits.specs.Takings.{Taking, taking, ref_of_leaf, all_refs}
use Rattle.read_fits.specs.Windows.{Window}
use Rattle.read_fits.specs.Asked.{wanted_leaf}
use Rattle.read_fits.specs.Leaves.{IsSoundLeaf}
use Rattle.read_fits.specs.Lines.{bare}
use Rattle.read_fits.specs.Transcript.{mount}
use Rattle.read_fits.specs.declared.Wanted.{Wanted}
use Rattle.read_fits.specs.declared.Wanted.TheVariants.{Stored, Given}
use Rattle.read_fits.specs.OpenedViews.{IsGivenAt, AreGiven, paired}
use Rattle.open_fits.specs.Opens.{leaf_at, leaves_at, IsSmall, IsFront}

-- a leaf of another node
abbrev renode : Text → SpecLeaf → SpecLeaf
renode node (given cells) = given cells
renode node (stored old leaf) = stored node leaf

renode_wanted : (node : Text) (w : Wanted) → leaf_at node w ≡ renode node (wanted_leaf w)
renode_wanted node (Stored asked) = refl
renode_wanted node (Given start) = refl

renode_leaf : (node : Text) (l : spec.SpecLeaf) → leaf_of node l ≡ renode node (leaf_of [] l)
renode_leaf node (Zarr on at asked may_open may_create) = refl
renode_leaf node (N5 on at asked may_open may_create) = refl
renode_leaf node (Zarr3 on at asked may_open may_create) = refl
renode_leaf node (GivenOf start) = refl

first_leaf : (x y : SpecLeaf) (xs ys : List SpecLeaf) → x ∷ xs ≡ y ∷ ys → x ≡ y
first_leaf x y xs ys is = cc

rest_leaves : (x y : SpecLeaf) (xs ys : List SpecLeaf) → x ∷ xs ≡ y ∷ ys → xs ≡ ys
rest_leaves x y xs ys is = cc

-- what is wanted is what the plan asks for, each leaf of its node
pub leaves_wanted : (tree : Tree) (n : ℕ) (ws : List Wanted) (ls : List spec.SpecLeaf) → map wanted_leaf ws ≡ bare ls → leaves_at tree n ws ≡ leaves_from tree n ls
leaves_wanted tree n [] [] is = refl
leaves_wanted tree n [] (l ∷ ls) is = let no : ⊥ = cc in absurd no
leaves_wanted tree n (w ∷ ws) [] is = let no : ⊥ = cc in absurd no
leaves_wanted tree n (w ∷ ws) (l ∷ ls) is =
    let node = unwrap_or (node_of n tree) [] in
    let one : wanted_leaf w ≡ leaf_of [] l = first_leaf (wanted_leaf w) (leaf_of [] l) (map wanted_leaf ws) (bare ls) is in
    let same : leaf_at node w ≡ leaf_of node l = renode_wanted node w ∙ ap (renode node) one ∙ sym (renode_leaf node l) in
    ap (λ x. x ∷ leaves_at tree (suc n) ws) same ∙ ap (λ xs. leaf_of node l ∷ xs) (leaves_wanted tree (suc n) ws ls (rest_leaves (wanted_leaf w) (leaf_of [] l) (map wanted_leaf ws) (bare ls) is))

abbrev IsSmallLeaf : SpecLeaf → Type 0
IsSmallLeaf (given start) = (length start.shape ≤ 32) × (cell_count (map (max 1) start.shape) ≤ 2 ^ 22)
IsSmallLeaf (stored node leaf) = Unit {0}

small_wanted : (w : Wanted) → IsSmallLeaf (wanted_leaf w) → IsSmall w
small_wanted (Stored asked) is = tt
small_wanted (Given start) is = is

small_leaf : (l : spec.SpecLeaf) → IsSoundLeaf (mount ∷ []) l → IsSmallLeaf (leaf_of [] l)
small_leaf (Zarr on at asked may_open may_create) sound = tt
small_leaf (N5 on at asked may_open may_create) sound = tt
small_leaf (Zarr3 on at asked may_open may_create) sound = tt
small_leaf (GivenOf start) sound = (sound.dense.rank, sound.small)

pub all_small : (ws : List Wanted) (ls : List spec.SpecLeaf) → map wanted_leaf ws ≡ bare ls → AllByRecursion (IsSoundLeaf (mount ∷ [])) ls → AllByRecursion IsSmall ws
all_small [] [] is all = tt
all_small [] (l ∷ ls) is all = tt
all_small (w ∷ ws) [] is all = let no : ⊥ = cc in absurd no
all_small (w ∷ ws) (l ∷ ls) is all = (
  small_wanted w (subst IsSmallLeaf (sym (first_leaf (wanted_leaf w) (leaf_of [] l) (map wanted_leaf ws) (bare ls) is)) (small_leaf l all.0)),
  all_small ws ls (rest_leaves (wanted_leaf w) (leaf_of [] l) (map wanted_leaf ws) (bare ls) is) all.1,
)

-- the number that a leaf takes doesn't go by its node
given_at : (events : History) (node : Text) (w : Wanted) (n : Option ℕ) → IsGivenAt events (leaf_at node w) n → IsGivenAt events (wanted_leaf w) n
given_at events node w None is = tt
given_at events node (Stored asked) (Some n) is = is
given_at events node (Given start) (Some n) is = is

pub given_wanted : (events : History) (tree : Tree) (n : ℕ) (ws : List Wanted) (ns : List (Option ℕ)) → AreGiven events (paired (leaves_at tree n ws) ns) → AreGiven events (paired (map wanted_leaf ws) ns)
given_wanted events tree n [] ns are = tt
given_wanted events tree n (w ∷ ws) [] are = (tt, given_wanted events tree (suc n) ws [] are.1)
given_wanted events tree n (w ∷ ws) (number ∷ ns) are = (given_at events _ w number are.0, given_wanted events tree (suc n) ws ns are.1)

-- the one at a place
pub given_here : (events : History) (ws : List Wanted) (ns : List (Option ℕ)) (k : ℕ) (w : Wanted) (n : Option ℕ) → slice_get ws k ≡ Some w → slice_get ns k ≡ Some n → AreGiven events (paired (map wanted_leaf ws) ns) → IsGivenAt events (wanted_leaf w) n
given_here events [] ns k w n at here are = let no : ⊥ = cc in absurd no
given_here events (v ∷ ws) [] k w n at here are = let no : ⊥ = cc in absurd no
given_here events (v ∷ ws) (m ∷ ns) zero w n at here are =
    let one : v ≡ w = cc in
    let two : m ≡ n = cc in
    subst (λ x. IsGivenAt events (wanted_leaf w) x) two (subst (λ x. IsGivenAt events (wanted_leaf x) m) one are.0)
given_here events (v ∷ ws) (m ∷ ns) (suc k) w n at here are = given_here events ws ns k w n at here are.1

next_number : (m n k : ℕ) → m ≡ n + suc k → m ≡ suc n + k
next_number m n k is = omega (arith, is)

same_number : (m n : ℕ) → m ≡ n + zero → n ≡ m
same_number m n is = omega (arith, is)

pub pair_at : (tree : Tree) (n : ℕ) (ws : List Wanted) (ns : List (Option ℕ)) (k m : ℕ) (w : Wanted) (number : Option ℕ) → m ≡ n + k → slice_get ws k ≡ Some w → slice_get ns k ≡ Some number
    → slice_get (paired (leaves_at tree n ws) ns) k ≡ Some (taking (leaf_at (unwrap_or (node_of m tree) []) w) number)
pair_at tree n [] ns k m w number is at here = let no : ⊥ = cc in absurd no
pair_at tree n (v ∷ ws) [] k m w number is at here = let no : ⊥ = cc in absurd no
pair_at tree n (v ∷ ws) (x ∷ ns) zero m w number is at here =
    let one : v ≡ w = cc in
    let two : x ≡ number = cc in
    ap (λ l. Some (taking (leaf_at (unwrap_or (node_of l tree) []) v) x)) (same_number m n is)
    ∙ ap (λ l. Some (taking (leaf_at (unwrap_or (node_of m tree) []) l) x)) one ∙ ap (λ l. Some (taking (leaf_at (unwrap_or (node_of m tree) []) w) l)) two
pair_at tree n (v ∷ ws) (x ∷ ns) (suc k) m w number is at here = pair_at tree (suc n) ws ns k m w number (next_number m n k is) at here

-- and back
pub record IsPairOf (tree : Tree) (ws : List Wanted) (ns : List (Option ℕ)) (k m : ℕ) (t : Taking) : Type 0 where
  pub wanted : Wanted
  pub at : slice_get ws k ≡ Some wanted
  pub leaf : t.leaf ≡ leaf_at (unwrap_or (node_of m tree) []) wanted

pub of_pair : (tree : Tree) (n : ℕ) (ws : List Wanted) (ns : List (Option ℕ)) (k m : ℕ) (t : Taking) → m ≡ n + k → slice_get (paired (leaves_at tree n ws) ns) k ≡ Some t → IsPairOf tree ws ns k m t
of_pair tree n [] ns k m t is at = let no : ⊥ = cc in absurd no
of_pair tree n (v ∷ ws) [] zero m t is at =
    let same : taking (leaf_at (unwrap_or (node_of n tree) []) v) None ≡ t = cc in
    record { wanted = v; at = refl; leaf = ap (λ (u : Taking). u.leaf) (sym same) ∙ ap (λ l. leaf_at (unwrap_or (node_of l tree) []) v) (same_number m n is) }
of_pair tree n (v ∷ ws) [] (suc k) m t is at = let rest = of_pair tree (suc n) ws [] k m t (next_number m n k is) at in record { wanted = rest.wanted; at = rest.at; leaf = rest.leaf }
of_pair tree n (v ∷ ws) (x ∷ ns) zero m t is at =
    let same : taking (leaf_at (unwrap_or (node_of n tree) []) v) x ≡ t = cc in
    record { wanted = v; at = refl; leaf = ap (λ (u : Taking). u.leaf) (sym same) ∙ ap (λ l. leaf_at (unwrap_or (node_of l tree) []) v) (same_number m n is) }
of_pair tree n (v ∷ ws) (x ∷ ns) (suc k) m t is at = let rest = of_pair tree (suc n) ws ns k m t (next_number m n k is) at in record { wanted = rest.wanted; at = rest.at; leaf = rest.leaf }

-- the numbers of pairs
pub number_of_pair : (leaves : List SpecLeaf) (ns : List (Option ℕ)) (k : ℕ) (t : Taking) → length ns ≡ length leaves → slice_get (paired leaves ns) k ≡ Some t → slice_get ns k ≡ Some t.number
number_of_pair [] ns k t count at = let no : ⊥ = cc in absurd no
number_of_pair (l ∷ leaves) [] k t count at = absurd (omega (arith, count))
number_of_pair (l ∷ leaves) (n ∷ ns) zero t count at = let same : taking l n ≡ t = cc in ap (λ (u : Taking). Some u.number) same
number_of_pair (l ∷ leaves) (n ∷ ns) (suc k) t count at = number_of_pair leaves ns k t (omega (arith, count)) at

pub pair_of_number : (leaves : List SpecLeaf) (ns : List (Option ℕ)) (k : ℕ) (n : Option ℕ) → length ns ≡ length leaves → slice_get ns k ≡ Some n → (t : Taking) × (slice_get (paired leaves ns) k ≡ Some t) × (t.number ≡ n)
pair_of_number leaves [] k n count at = let no : ⊥ = cc in absurd no
pair_of_number [] (m ∷ ns) k n count at = absurd (omega (arith, count))
pair_of_number (l ∷ leaves) (m ∷ ns) zero n count at = let same : m ≡ n = cc in (taking l m, refl, same)
pair_of_number (l ∷ leaves) (m ∷ ns) (suc k) n count at = pair_of_number leaves ns k n (omega (arith, count)) at

pub length-paired : (leaves : List SpecLeaf) (ns : List (Option ℕ)) → length (paired leaves ns) ≡ length leaves
length-paired [] ns = refl
length-paired (l ∷ leaves) [] = ap suc (length-paired leaves [])
length-paired (l ∷ leaves) (n ∷ ns) = ap suc (length-paired leaves ns)

pub length-leaves_at : (tree : Tree) (n : ℕ) (ws : List Wanted) → length (leaves_at tree n ws) ≡ length ws
length-leaves_at tree n [] = refl
length-leaves_at tree n (w ∷ ws) = ap suc (length-leaves_at tree (suc n) ws)

module _ (h : History) (w : Window) where
  abbrev IsSettled : Taking → Type 0
  IsSettled t = IsSettledLeaf h w t.leaf t.number

  -- one leaf more was opened, or wasn't
  pub front_more : (ts : List Taking) (refs : List Reference) (k : ℕ) (t : Taking) (r : Reference) → IsFront h w (take k ts) refs → length refs ≡ k → slice_get ts k ≡ Some t → IsSettled t → ref_of_leaf h t ≡ Some r → IsFront h w (take (suc k) ts) (refs ++ r ∷ [])
  front_more [] refs k t r front count at settled ref = let no : ⊥ = cc in absurd no
  front_more (u ∷ ts) [] zero t r front count at settled ref =
      let same : t ≡ u = cc in
      ((subst IsSettled same settled, subst (λ x. ref_of_leaf h x ≡ Some r) same ref), tt)
  front_more (u ∷ ts) [] (suc k) t r front count at settled ref = absurd (omega (arith, count))
  front_more (u ∷ ts) (q ∷ refs) zero t r front count at settled ref = absurd (omega (arith, count))
  front_more (u ∷ ts) (q ∷ refs) (suc k) t r front count at settled ref = (front.0, front_more ts refs k t r front.1 (omega (arith, count)) at settled ref)

  pub front_stop : (ts : List Taking) (refs : List Reference) (k : ℕ) (t : Taking) → IsFront h w (take k ts) refs → length refs ≡ k → slice_get ts k ≡ Some t → ¬ IsSettled t → IsFront h w ts refs
  front_stop [] refs k t front count at unsettled = let no : ⊥ = cc in absurd no
  front_stop (u ∷ ts) [] zero t front count at unsettled = let same : t ≡ u = cc in subst (λ x. ¬ IsSettled x) same unsettled
  front_stop (u ∷ ts) [] (suc k) t front count at unsettled = absurd (omega (arith, count))
  front_stop (u ∷ ts) (q ∷ refs) zero t front count at unsettled = absurd (omega (arith, count))
  front_stop (u ∷ ts) (q ∷ refs) (suc k) t front count at unsettled = (front.0, front_stop ts refs k t front.1 (omega (arith, count)) at unsettled)

  -- no more than there are
  pub front_within : (ts : List Taking) (refs : List Reference) → IsFront h w ts refs → length refs ≤ length ts
  front_within [] [] front = omega arith
  front_within [] (q ∷ refs) front = absurd front
  front_within (t ∷ ts) [] front = omega arith
  front_within (t ∷ ts) (q ∷ refs) front = let rest = front_within ts refs front.1 in omega (arith, rest)

  -- all of them were
  pub all_front : (ts : List Taking) (refs : List Reference) → IsFront h w ts refs → length refs ≡ length ts → AreSettled h w ts × (all_refs (map (ref_of_leaf h) ts) ≡ Some refs)
  all_front [] [] front count = (tt, refl)
  all_front [] (q ∷ refs) front count = absurd front
  all_front (t ∷ ts) [] front count = absurd (omega (arith, count))
  all_front (t ∷ ts) (q ∷ refs) front count =
      let rest = all_front ts refs front.1 (omega (arith, count)) in
      ((front.0.0, rest.0), ap (λ o. all_refs (o ∷ map (ref_of_leaf h) ts)) front.0.1 ∙ ap (option_map (λ more. q ∷ more)) rest.1)

  pub front_all : (ts : List Taking) (refs : List Reference) → IsFront h w ts refs → AreSettled h w ts → length refs ≡ length ts
  front_all [] [] front settled = refl
  front_all [] (q ∷ refs) front settled = absurd front
  front_all (t ∷ ts) [] front settled = absurd (front settled.0)
  front_all (t ∷ ts) (q ∷ refs) front settled = ap suc (front_all ts refs front.1 settled.1)

  -- the first leaves are among those that were opened
  first_within : (opened : List Taking) (t : Taking) (rest : List Taking) (refs : List Reference) → AreSettled h w opened → IsFront h w (opened ++ t ∷ rest) refs → length opened ≤ length refs
  first_within [] t rest refs settled front = omega arith
  first_within (u ∷ opened) t rest [] settled front = absurd (front settled.0)
  first_within (u ∷ opened) t rest (q ∷ refs) settled front = let more = first_within opened t rest refs settled.1 front.1 in omega (arith, more)

  item_at : (opened : List Taking) (t : Taking) (rest : List Taking) → slice_get (opened ++ t ∷ rest) (length opened) ≡ Some t
  item_at [] t rest = refl
  item_at (u ∷ opened) t rest = item_at opened t rest

  get_untaken : (rest : List Taking) (k : ℕ) (u : Taking) → AllByRecursion IsUntaken rest → slice_get rest k ≡ Some u → u.number ≡ None
  get_untaken [] k u all at = let no : ⊥ = cc in absurd no
  get_untaken (v ∷ rest) zero u all at = let same : v ≡ u = cc in subst IsUntaken same all.0
  get_untaken (v ∷ rest) (suc k) u all at = get_untaken rest k u all.1 at

  behind_untaken : (opened rest : List Taking) (k : ℕ) (u : Taking) → AllByRecursion IsUntaken rest → length opened ≤ k → slice_get (opened ++ rest) k ≡ Some u → u.number ≡ None
  behind_untaken [] rest k u all low at = get_untaken rest k u all at
  behind_untaken (v ∷ opened) rest zero u all low at = absurd (omega (arith, low))
  behind_untaken (v ∷ opened) rest (suc k) u all low at = behind_untaken opened rest k u all (omega (arith, low)) at

  -- the leaf at which a line stopped is one of those from the end of the taken ones to the first that wasn't opened
  pub record IsStopIn (ts : List Taking) (refs : List Reference) (end : ℕ) (node : Text) (leaf : Leaf) : Type 0 where
    pub place : ℕ
    pub within : place ≤ length refs
    pub behind : end ≤ place
    pub at : slice_get ts place ≡ Some (taking (stored node leaf) None)

  end_within : (ts : List Taking) (end place : ℕ) → ((k : ℕ) → end ≡ suc k → (t : Taking) × (n : ℕ) × (slice_get ts k ≡ Some t) × (t.number ≡ Some n)) → ((k : ℕ) (u : Taking) → place ≤ k → slice_get ts k ≡ Some u → u.number ≡ None) → end ≤ place
  end_within ts zero place last untaken = omega arith
  end_within ts (suc k) place last untaken = by (last k refl)
    where
      clash : (n : ℕ) (o : Option ℕ) → o ≡ Some n → o ≡ None → ⊥
      clash n o one other = cc

      less : (place ≤ k → ⊥) → suc k ≤ place
      less isnt = omega (arith, isnt)

      by : (t : Taking) × (n : ℕ) × (slice_get ts k ≡ Some t) × (t.number ≡ Some n) → suc k ≤ place
      by is = less (λ low. clash is.1 is.0.number is.3 (untaken k is.0 low is.2))

  pub stop_in : (ts : List Taking) (refs : List Reference) (end : ℕ) (node : Text) (leaf : Leaf) → IsFront h w ts refs → ((k : ℕ) → end ≡ suc k → (t : Taking) × (n : ℕ) × (slice_get ts k ≡ Some t) × (t.number ≡ Some n)) → IsStopped h w ts node leaf
      → IsStopIn ts refs end node leaf
  stop_in ts refs end node leaf front last stopped =
      let t = taking (stored node leaf) None in
      let all : AllByRecursion IsUntaken (t ∷ stopped.rest) = (refl, stopped.untaken) in
      record {
        place = length stopped.opened;
        within = first_within stopped.opened t stopped.rest refs stopped.settled (subst (λ xs. IsFront h w xs refs) stopped.parts front);
        behind = end_within ts end (length stopped.opened) last (λ k u low at. behind_untaken stopped.opened (t ∷ stopped.rest) k u all low (ap (λ xs. slice_get xs k) (sym stopped.parts) ∙ at));
        at = ap (λ xs. slice_get xs (length stopped.opened)) stopped.parts ∙ item_at stopped.opened t stopped.rest;
      }

  -- and back
  split_at : (ts : List Taking) (k : ℕ) (t : Taking) → slice_get ts k ≡ Some t → ts ≡ take k ts ++ t ∷ drop (suc k) ts
  split_at [] k t at = let no : ⊥ = cc in absurd no
  split_at (u ∷ ts) zero t at = let same : u ≡ t = cc in ap (λ x. x ∷ ts) same
  split_at (u ∷ ts) (suc k) t at = ap (λ xs. u ∷ xs) (split_at ts k t at)

  front_settled : (ts : List Taking) (refs : List Reference) (k : ℕ) → IsFront h w ts refs → k ≤ length refs → AreSettled h w (take k ts)
  front_settled [] refs zero front low = tt
  front_settled (t ∷ ts) refs zero front low = tt
  front_settled [] refs (suc k) front low = tt
  front_settled (t ∷ ts) [] (suc k) front low = absurd (omega (arith, low))
  front_settled (t ∷ ts) (q ∷ refs) (suc k) front low = (front.0.0, front_settled ts refs k front.1 (omega (arith, low)))

  all_untaken : (ts : List Taking) → ((k : ℕ) (u : Taking) → slice_get ts k ≡ Some u → u.number ≡ None) → AllByRecursion IsUntaken ts
  all_untaken [] each = tt
  all_untaken (t ∷ ts) each = (each zero t refl, all_untaken ts (λ k u at. each (suc k) u at))

  drop_untaken : (ts : List Taking) (m : ℕ) → ((k : ℕ) (u : Taking) → m ≤ k → slice_get ts k ≡ Some u → u.number ≡ None) → AllByRecursion IsUntaken (drop m ts)
  drop_untaken [] zero each = tt
  drop_untaken (t ∷ ts) zero each = all_untaken (t ∷ ts) (λ k u at. each k u (omega arith) at)
  drop_untaken [] (suc m) each = tt
  drop_untaken (t ∷ ts) (suc m) each = drop_untaken ts m (λ k u low at. each (suc k) u (omega (arith, low)) at)

  pub stopped_at : (ts : List Taking) (refs : List Reference) (end place : ℕ) (node : Text) (leaf : Leaf) → IsFront h w ts refs → ((k : ℕ) (u : Taking) → end ≤ k → slice_get ts k ≡ Some u → u.number ≡ None) → place ≤ length refs → end ≤ place
      → slice_get ts place ≡ Some (taking (stored node leaf) None) → IsStopped h w ts node leaf
  stopped_at ts refs end place node leaf front untaken within behind at = record {
    opened = take place ts;
    rest = drop (suc place) ts;
    parts = split_at ts place (taking (stored node leaf) None) at;
    settled = front_settled ts refs place front within;
    untaken = drop_untaken ts (suc place) (λ k u low here. untaken k u (omega (arith, behind, low)) here);
  }
