-- Where no commit is shrunk, and views name arrays as the history has them, each written cell lies in the present shape.
use Rattle.std.proofs.Common.{◌≡◌, ℕ, ◌+◌, ℤ, pos, negsuc, List, [], ◌∷◌, ◌++◌, map, take, drop, Bool, true, false, cond, Option, Some, None, Result, Ok, Err, ◌⊎◌, inl, inr, refl, sym, ap, subst, ◌∙◌, nat_lt}
use Rattle.std.specs.Prelude.{filter_map}
use Rattle.std.specs.List.{AllByRecursion, zip}
use Rattle.std.specs.declared.cmp.Ordering.{Ordering}
use Rattle.std.specs.declared.cmp.Ordering.TheVariants.{Less, Equal, Greater}
use Rattle.std.specs.Ordering.{is_lt, ordering_reverse}
use Rattle.std.specs.Cmp.Lexicographic.{nat_list_cmp_total}
use Rattle.std.proofs.lemmas.List.{take-append-drop}
use Rattle.cells.specs.Shapes.{is_inside}
use Rattle.cells.proofs.Laws.{both_true, true_or_false}
use Rattle.kv_face.specs.Store.{Contents}
use Rattle.cells.specs.declared.dtype.Dtype.{Dtype}
use Rattle.stack_driver.specs.Transforms.{DomainAndMaps}
use Rattle.stack_driver.specs.Values.{value_at}
use Rattle.stack_driver.specs.References.{Reference}
use Rattle.stack_driver.specs.Targets.{Cell, is_cell, Target, in_shape, has_index, before}
use Rattle.stack_driver.specs.Views.{Look, look_of, leaf_target, cast_target, last_target, target_of, targets_of}
use Rattle.stack_driver.specs.declared.error.TargetError.{TargetError}
use Rattle.stack_driver.specs.declared.error.TargetError.TheVariants.{Uncovered}
use Rattle.stack_driver.specs.declared.view.View.{View, every_here-View, ind-View, roll-View, map-View}
use Rattle.stack_driver.specs.declared.view.View.TheOpen.{View-F}
use Rattle.stack_driver.specs.declared.view.View.TheVariants as view
use Rattle.stack_driver.proofs.Laws.{every_base, every_layer, look-Leaf, look-Cast, look-Stack}
use Rattle.history.specs.History.{History}
use Rattle.history.specs.Arrays.{Known, known_after, is_local, form_of}
use Rattle.history.specs.Refs.{IsKnownRef, HasKnownRef, HasKnownRefs}
use Rattle.std.specs.Option.{option_map}
use Rattle.chunk_forms.specs.Names as names
use Rattle.history.specs.declared.array.ArrayInfo.{ArrayInfo}
use Rattle.history.specs.declared.array.Home.{Home}
use Rattle.history.specs.declared.array.Home.TheVariants.{Zarr, N5, Zarr3, Local}
use Rattle.history.specs.Chunks.{keys_text, metadata_key}
use Rattle.history.specs.Commit.{Key, Fixed, Transaction, is_before, commit_events, HasNoConflict}
use Rattle.history.specs.Legal.{IsLegal, is_present, is_present_in, viewed}
use Rattle.history.specs.Refusals.{metadata_key_at, key_of_array, IsShrunkCommit}
use Rattle.history.proofs.Conflicts.{itself}
use Rattle.history.proofs.Longer.{IsOpenedAs, known-longer}
use Rattle.history.proofs.Presence.{IsLegal-front}
use Rattle.history.proofs.Valid.{local_shape}
use Rattle.stack_driver.specs.Cells.{cells_of}
use Rattle.history.specs.declared.event.Op.{Op}
use Rattle.history.specs.declared.event.Op.TheVariants.{Write, Read}
use Rattle.history.specs.Reads.{is_put}
use Rattle.history.specs.Staged.{AreInShapes, IsStaged, IsTransaction}
use Rattle.history.specs.Store.{resized_after}
use Rattle.history.specs.Writes.{Put, put_at, puts_of, puts_of_op}
use Rattle.history.proofs.Ordering.{cmp, equal_texts}
use Rattle.history.proofs.Staged.{put_either, or_left, or_right, or_parted, same_cell, commit_keeps_legal}
use Rattle.history.proofs.Written.{same_cells}

-- the cell lay in its array's shape after some of the events
pub record WasInside (events : History) (x : Cell) : Type 0 where
  pub seen : ℕ
  pub array : Known
  pub known : known_after (take seen events) x.array ≡ Some array
  pub inside : is_inside array.shape x.index ≡ true

before_ok : (x : ℕ) (r : Result (List ℕ) ℕ) (index : List ℕ) → before x r ≡ Ok index → (rest : List ℕ) × (r ≡ Ok rest) × (index ≡ x ∷ rest)
before_ok x (Ok rest) index e = let same : x ∷ rest ≡ index = cc in (rest, refl, sym same)
before_ok x (Err d) index e = absurd (cc)

in_shape-inside : (dim : ℕ) (xs : List ℤ) (shape index : List ℕ) → in_shape dim xs shape ≡ Ok index → is_inside shape index ≡ true
in_shape-inside dim [] [] index e = let same : [] ≡ index = cc in subst (λ i. is_inside [] i ≡ true) same refl
in_shape-inside dim [] (s ∷ shape) index e = absurd (cc)
in_shape-inside dim (x ∷ xs) [] index e = absurd (cc)
in_shape-inside dim (negsuc x ∷ xs) (s ∷ shape) index e = absurd (cc)
in_shape-inside dim (pos x ∷ xs) (s ∷ shape) index e = told (in_shape-inside (dim + 1) xs shape) (nat_lt x s) refl e
  where
    told : ((rest : List ℕ) → in_shape (dim + 1) xs shape ≡ Ok rest → is_inside shape rest ≡ true) → (b : Bool) → nat_lt x s ≡ b → cond b (before x (in_shape (dim + 1) xs shape)) (Err dim) ≡ Ok index → is_inside (s ∷ shape) index ≡ true
    told more false f g = absurd (cc)
    told more true f g =
        let p = before_ok x (in_shape (dim + 1) xs shape) index g in
        let rest = more p.0 p.1 in
        subst (λ i. is_inside (s ∷ shape) i ≡ true) (sym p.2) (both_true (nat_lt x s) (is_inside shape p.0) f rest)

abbrev Lies : History → View → Type 0
Lies events v = HasKnownRefs events v → (index : List ℤ) (t : Target) → target_of v index ≡ Ok t → WasInside events t.cell

lies-Leaf : (events : History) (array : Reference) (u : DomainAndMaps) → Lies events (view.Leaf array u)
lies-Leaf events array u refs index t is =
    let here : IsKnownRef events array = subst (HasKnownRef events) (view.outs-Leaf array u) (every_here-View (HasKnownRef events) (view.Leaf array u) refs) in
    told here (in_shape 0 (value_at u index) array.shape) refl (sym (ap (λ (l : Look). l.target index) (look-Leaf array u)) ∙ is)
  where
    told : IsKnownRef events array → (r : Result (List ℕ) ℕ) → in_shape 0 (value_at u index) array.shape ≡ r → leaf_target array r ≡ Ok t → WasInside events t.cell
    told known (Err d) f g = absurd (cc)
    told known (Ok i) f g =
        let same : record { cell = record { array = array.number; index = i }; casts = [] } ≡ t = cc in
        let shapes : array.shape ≡ known.array.shape = ap (λ (r : Reference). r.shape) known.same in
        subst (λ (s : Target). WasInside events s.cell) same
        (record { seen = known.seen; array = known.array; known = known.known; inside = subst (λ s. is_inside s i ≡ true) shapes (in_shape-inside 0 (value_at u index) array.shape i f) })

abbrev cell_or : Cell → Result Target TargetError → Cell
cell_or x (Ok u) = u.cell
cell_or x (Err e) = x

lies-Cast : (events : History) (to : Dtype) (base : View) → Lies events base → Lies events (view.Cast to base)
lies-Cast events to base rest refs index t is = told (target_of base index) refl (sym (ap (λ (l : Look). l.target index) (look-Cast to base)) ∙ is)
  where
    told : (r : Result Target TargetError) → target_of base index ≡ r → cast_target (record { from = (look_of base).dtype; to = to }) r ≡ Ok t → WasInside events t.cell
    told (Err e) f g = absurd (cc)
    told (Ok s) f g =
        let same : s.cell ≡ t.cell = ap (cell_or s.cell) g in
        subst (WasInside events) same (rest (every_base (HasKnownRef events) to base refs) index s f)

lies-layers : (events : History) (ys : List ((z : View) × Lies events z)) → AllByRecursion (HasKnownRefs events) (map (λ y. y.0) ys) → (x : List ℤ) (found : Result Target TargetError) (t : Target) → (found ≡ Ok t → WasInside events t.cell)
    → last_target (map look_of (map (λ y. y.0) ys)) x found ≡ Ok t → WasInside events t.cell
lies-layers events [] refs x found t so is = so is
lies-layers events (y ∷ ys) refs x found t so is =
    lies-layers events ys refs.1 x (cond (has_index (look_of y.0).dims x) ((look_of y.0).target x) found) t (chosen (has_index (look_of y.0).dims x)) is
  where
    chosen : (b : Bool) → cond b ((look_of y.0).target x) found ≡ Ok t → WasInside events t.cell
    chosen true e = y.1 refs.0 x t e
    chosen false e = so e

lies_step : (events : History) (x : View-F View) (y : View-F ((z : View) × Lies events z)) → map-View ((z : View) × Lies events z) View (λ e. e.0) y ≡ x → Lies events (roll-View x)
lies_step events x (View-F.Leaf array u) e = subst (λ z. Lies events (roll-View z)) e (subst (Lies events) (sym (view.rolls-Leaf array u)) (lies-Leaf events array u))
lies_step events x (View-F.Cast to p) e = subst (λ z. Lies events (roll-View z)) e (subst (Lies events) (sym (view.rolls-Cast to p.0)) (lies-Cast events to p.0 p.1))
lies_step events x (View-F.Stack ys u) e =
    subst (λ z. Lies events (roll-View z)) e
    (subst (Lies events) (sym (view.rolls-Stack (map (λ y. y.0) ys) u))
    (λ refs index t is.
    lies-layers events ys (every_layer (HasKnownRef events) (map (λ y. y.0) ys) u refs) (value_at u index) (Err Uncovered) t (λ none. absurd (cc))
    (sym (ap (λ (l : Look). l.target index) (look-Stack (map (λ y. y.0) ys) u)) ∙ is)))

-- a target lies in a shape that its array had
pub lies : (events : History) (v : View) → Lies events v
lies events v = ind-View (Lies events) (lies_step events) v

same_info : (i : ArrayInfo) (n : ℕ) (o : Option Known) → IsOpenedAs i n o → (k : Known) × (o ≡ Some k) × (k.info ≡ i)
unfolding IsOpenedAs
same_info i n None opened = absurd opened
same_info i n (Some k) opened = (k, refl, opened.0)

-- an array of some early events is there after all of them, with the same opening
pub known_still : (start : Contents) (events : History) (a seen : ℕ) (k : Known) → IsLegal start events → known_after (take seen events) a ≡ Some k → (l : Known) × (known_after events a ≡ Some l) × (l.info ≡ k.info)
known_still start events a seen k legal is =
    let parts : take seen events ++ drop seen events ≡ events = take-append-drop seen events in
    let there = known-longer start (take seen events) a k.info k.opened (itself (known_after (take seen events) a) k is) (drop seen events) (subst (IsLegal start) (sym parts) legal) in
    let all = same_info k.info k.opened (known_after events a) (subst (λ h. IsOpenedAs k.info k.opened (known_after h a)) parts there) in
    (all.0, all.1, all.2)

-- a cell that lay in its array's shape and doesn't now is of a stored array
pub absent_stored : (start : Contents) (events : History) (x : Cell) → IsLegal start events → WasInside events x → is_present events x ≡ false → (key : Key) × (metadata_key_at events x ≡ Some key)
absent_stored start events x legal was absent =
    let now = known_still start events x.array was.seen was.array legal was.known in
    let early : IsLegal start (take was.seen events) = IsLegal-front start (take was.seen events) (drop was.seen events) (subst (IsLegal start) (sym (take-append-drop was.seen events)) legal) in
    told now.0 now.1 now.2 early (true_or_false (is_local now.0.info.home))
  where
    key_there : (k : Known) → is_local k.info.home ≡ false → (key : Key) × (metadata_key k ≡ Some key)
    key_there k stored = by k.info.home stored
      where
        by : (home : Home) → is_local home ≡ false → (key : Key) × (option_map (λ name. keys_text k ++ name) (names.metadata_name (form_of home)) ≡ Some key)
        by (Zarr mount path meta) e = (_, refl)
        by (N5 mount path meta) e = (_, refl)
        by (Zarr3 mount path meta) e = (_, refl)
        by (Local cells) e = absurd (cc)

    told : (k : Known) → known_after events x.array ≡ Some k → k.info ≡ was.array.info → IsLegal start (take was.seen events) → (is_local k.info.home ≡ true) ⊎ (is_local k.info.home ≡ false) → (key : Key) × (metadata_key_at events x ≡ Some key)
    told k is same early (inr stored) = let key = key_there k stored in (key.0, ap key_of_array is ∙ key.1)
    told k is same early (inl local) =
        let old : is_local was.array.info.home ≡ true = ap (λ (i : ArrayInfo). is_local i.home) (sym same) ∙ local in
        let shape : was.array.shape ≡ k.shape =
        local_shape start x.array (take was.seen events) early was.array was.known old ∙ ap (λ (i : ArrayInfo). i.shape) (sym same) ∙ sym (local_shape start x.array events legal k is local) in
        let inside : is_present events x ≡ true = ap (λ o. is_present_in o x) is ∙ subst (λ s. is_inside s x.index ≡ true) shape was.inside in
        let clash : true ≡ false = sym inside ∙ absent in
        absurd (cc)

abbrev pub LiesOf : History → Result Target TargetError → Type 0
LiesOf events (Ok t) = WasInside events t.cell
LiesOf events (Err e) = Unit {0}

lie_of : (events : History) (view : View) → HasKnownRefs events view → (index : List ℤ) (r : Result Target TargetError) → target_of view index ≡ r → LiesOf events r
lie_of events view refs index (Ok t) is = lies events view refs index t is
lie_of events view refs index (Err e) is = tt

all_lie : (events : History) (view : View) → HasKnownRefs events view → (cells : List (List ℤ)) → AllByRecursion (LiesOf events) (map (target_of view) cells)
all_lie events view refs [] = tt
all_lie events view refs (x ∷ xs) = (lie_of events view refs x (target_of view x) refl, all_lie events view refs xs)

pub targets_lie : (events : History) (view : View) → HasKnownRefs events view → AllByRecursion (LiesOf events) (targets_of view)
unfolding targets_of
targets_lie events view refs = all_lie events view refs (cells_of (look_of view).dims)

zipped_lie : (events : History) (ts : List (Result Target TargetError)) (words : List ℕ) → AllByRecursion (LiesOf events) ts → (x : Cell) → is_put (filter_map put_at (zip ts words)) x ≡ true → WasInside events x
zipped_lie events [] words lie x put = absurd (cc)
zipped_lie events (t ∷ ts) [] lie x put = absurd (cc)
zipped_lie events (Err e ∷ ts) (w ∷ ws) lie x put = zipped_lie events ts ws lie.1 x put
zipped_lie events (Ok t ∷ ts) (w ∷ ws) lie x put =
    elim (or_parted (is_cell t.cell x) (is_put (filter_map put_at (zip ts ws)) x) put) [
      | inl here ↦ subst (WasInside events) (same_cells t.cell x here) lie.0
      | inr rest ↦ zipped_lie events ts ws lie.1 x rest
    ]

-- a cell that operations write lay in a shape of its array
puts_lie : (events : History) (ops : List Op) → AllByRecursion (λ op. HasKnownRefs events (viewed op)) ops → (x : Cell) → is_put (puts_of ops) x ≡ true → WasInside events x
puts_lie events [] refs x put = absurd (cc)
puts_lie events (Write view words ∷ ops) refs x put =
    elim (or_parted (is_put (puts_of_op (Write view words)) x) (is_put (puts_of ops) x) (sym (put_either (puts_of_op (Write view words)) (puts_of ops) x) ∙ put)) [
      | inl here ↦ zipped_lie events (targets_of view) words (targets_lie events view refs.0) x here
      | inr rest ↦ puts_lie events ops refs.1 x rest
    ]
puts_lie events (Read view words ∷ ops) refs x put = puts_lie events ops refs.1 x put

-- no text is before itself, and of two that aren't in order the first isn't before what the second isn't before
pub never_itself : (k : Key) → is_before k k ≡ false
never_itself k = told (cmp k k) refl (nat_list_cmp_total.antisymm k k)
  where
    told : (o : Ordering) → cmp k k ≡ o → cmp k k ≡ ordering_reverse (cmp k k) → is_before k k ≡ false
    told Less e f = let same : Less ≡ ordering_reverse Less = sym e ∙ f ∙ ap ordering_reverse e in absurd (cc)
    told Equal e f = ap is_lt e
    told Greater e f = ap is_lt e

pub other_way : (a b : Key) → is_before a b ≡ true → is_before b a ≡ false
other_way a b before = told (cmp a b) refl
  where
    told : (o : Ordering) → cmp a b ≡ o → is_before b a ≡ false
    told Less e = ap is_lt (nat_list_cmp_total.antisymm b a ∙ ap ordering_reverse e)
    told Equal e = let clash : true ≡ false = sym before ∙ ap is_lt e in absurd (cc)
    told Greater e = let clash : true ≡ false = sym before ∙ ap is_lt e in absurd (cc)

less_is : (a b : Key) → is_before a b ≡ true → cmp a b ≡ Less
less_is a b before = told (cmp a b) refl
  where
    told : (o : Ordering) → cmp a b ≡ o → cmp a b ≡ Less
    told Less e = e
    told Equal e = let clash : true ≡ false = sym before ∙ ap is_lt e in absurd (cc)
    told Greater e = let clash : true ≡ false = sym before ∙ ap is_lt e in absurd (cc)

pub not_under : (k key low : Key) → is_before k low ≡ false → is_before low key ≡ false → is_before k key ≡ false
not_under k key low above apart = told (true_or_false (is_before k key))
  where
    by : is_before k key ≡ true → (o : Ordering) → cmp key low ≡ o → is_before k key ≡ false
    by under Less e = let clash : false ≡ true = sym above ∙ ap is_lt (nat_list_cmp_total.trans k key low (less_is k key under) e) in absurd (cc)
    by under Equal e = let clash : false ≡ true = sym above ∙ ap (is_before k) (sym (equal_texts key low e)) ∙ under in absurd (cc)
    by under Greater e = let clash : false ≡ true = sym apart ∙ ap is_lt (nat_list_cmp_total.antisymm low key ∙ ap ordering_reverse e) in absurd (cc)

    told : (is_before k key ≡ true) ⊎ (is_before k key ≡ false) → is_before k key ≡ false
    told (inl under) = by under (cmp key low) refl
    told (inr fine) = fine

-- of the cells that are put and lie outside, one of the array with the least metadata key
record LeastOutside (events : History) (puts : List Put) : Type 0 where
  cell : Cell
  put : is_put puts cell ≡ true
  absent : is_present events cell ≡ false
  key : Key
  named : metadata_key_at events cell ≡ Some key
  least : (x : Cell) (k : Key) → is_put puts x ≡ true → is_present events x ≡ false → metadata_key_at events x ≡ Some k → is_before k key ≡ false

abbrev AllInside : History → List Put → Type 0
AllInside events puts = (x : Cell) → is_put puts x ≡ true → is_present events x ≡ true

pub same_key : (o : Option Key) (k l : Key) → o ≡ Some k → o ≡ Some l → k ≡ l
same_key o k l e f = let same : Some k ≡ Some l = sym e ∙ f in cc

-- all put cells lie inside, or there is a least one outside
least_outside : (start : Contents) (events : History) → IsLegal start events → (puts : List Put) → ((x : Cell) → is_put puts x ≡ true → WasInside events x) → AllInside events puts ⊎ LeastOutside events puts
least_outside start events legal [] lie = inl (λ x put. absurd (cc))
least_outside start events legal (p ∷ ps) lie =
    told (least_outside start events legal ps (λ x put. lie x (or_right (is_cell p.0 x) (is_put ps x) put))) (true_or_false (is_present events p.0))
  where
    first : is_put (p ∷ ps) p.0 ≡ true
    first = or_left (is_cell p.0 p.0) (is_put ps p.0) (same_cell p.0)

    told : AllInside events ps ⊎ LeastOutside events ps → (is_present events p.0 ≡ true) ⊎ (is_present events p.0 ≡ false) → AllInside events (p ∷ ps) ⊎ LeastOutside events (p ∷ ps)
    told (inl all) (inl there) =
        inl (λ x put.
        elim (or_parted (is_cell p.0 x) (is_put ps x) put) [
          | inl here ↦ subst (λ y. is_present events y ≡ true) (same_cells p.0 x here) there
          | inr rest ↦ all x rest
        ])
    told (inr low) (inl there) =
        inr (record {
          cell = low.cell;
          put = or_right (is_cell p.0 low.cell) (is_put ps low.cell) low.put;
          absent = low.absent;
          key = low.key;
          named = low.named;
          least = λ x k put gone is.
              elim (or_parted (is_cell p.0 x) (is_put ps x) put) [
                | inl here ↦ let clash : true ≡ false = sym there ∙ ap (is_present events) (same_cells p.0 x here) ∙ gone in absurd (cc)
                | inr rest ↦ low.least x k rest gone is
              ];
        })
    told (inl all) (inr gone) =
        let named = absent_stored start events p.0 legal (lie p.0 first) gone in
        inr (record {
          cell = p.0;
          put = first;
          absent = gone;
          key = named.0;
          named = named.1;
          least = λ x k put out is.
              elim (or_parted (is_cell p.0 x) (is_put ps x) put) [
                | inl here ↦ ap (λ l. is_before l named.0) (same_key (metadata_key_at events x) k named.0 is (ap (metadata_key_at events) (sym (same_cells p.0 x here)) ∙ named.1)) ∙ never_itself named.0
                | inr rest ↦ let clash : true ≡ false = sym (all x rest) ∙ out in absurd (cc)
              ];
        })
    told (inr low) (inr gone) =
        let named = absent_stored start events p.0 legal (lie p.0 first) gone in
        elim (true_or_false (is_before low.key named.0)) [
          | inl under ↦
              inr (record {
                cell = low.cell;
                put = or_right (is_cell p.0 low.cell) (is_put ps low.cell) low.put;
                absent = low.absent;
                key = low.key;
                named = low.named;
                least = λ x k put out is.
                    elim (or_parted (is_cell p.0 x) (is_put ps x) put) [
                      | inl here ↦ ap (λ l. is_before l low.key) (same_key (metadata_key_at events x) k named.0 is (ap (metadata_key_at events) (sym (same_cells p.0 x here)) ∙ named.1)) ∙ other_way low.key named.0 under
                      | inr rest ↦ low.least x k rest out is
                    ];
              })
          | inr apart ↦
              inr (record {
                cell = p.0;
                put = first;
                absent = gone;
                key = named.0;
                named = named.1;
                least = λ x k put out is.
                    elim (or_parted (is_cell p.0 x) (is_put ps x) put) [
                      | inl here ↦ ap (λ l. is_before l named.0) (same_key (metadata_key_at events x) k named.0 is (ap (metadata_key_at events) (sym (same_cells p.0 x here)) ∙ named.1)) ∙ never_itself named.0
                      | inr rest ↦ not_under k named.0 low.key (low.least x k rest out is) apart
                    ];
              })
        ]

-- where views name arrays as the history has them, and no commit is shrunk, each written cell lies in the present shape
pub in_shapes : (start : Contents) (events : History) (t : Transaction) → IsLegal start events → AllByRecursion (λ op. HasKnownRefs events (viewed op)) t.ops → ((key : Key) (now : ℕ) → ¬ IsShrunkCommit events t key now) → AreInShapes events t.ops
in_shapes start events t legal refs never = told (least_outside start events legal (puts_of t.ops) (puts_lie events t.ops refs))
  where
    told : AllInside events (puts_of t.ops) ⊎ LeastOutside events (puts_of t.ops) → AreInShapes events t.ops
    told (inl all) = all
    told (inr low) =
        absurd (never low.key (resized_after events low.cell.array)
        (record {
          cell = low.cell;
          is_outside = record { written = low.put; outside = low.absent; named = low.named };
          number = refl;
          least = λ x k out. low.least x k out.written out.outside out.named;
        }))

-- a commit without conflict that isn't shrunk keeps the history legal: its operations were staged, over views that name arrays as
-- the history has them
pub unshrunk_keeps_legal : (fixed : Fixed) (events : History) (owner : ℕ) (t : Transaction) → IsLegal fixed.start events → IsTransaction fixed.start events t → HasNoConflict events t → AllByRecursion IsStaged t.ops
    → AllByRecursion (λ op. HasKnownRefs events (viewed op)) t.ops → ((key : Key) (now : ℕ) → ¬ IsShrunkCommit events t key now) → IsLegal fixed.start (events ++ commit_events fixed events owner t)
unshrunk_keeps_legal fixed events owner t legal tx free staged refs never = commit_keeps_legal fixed events owner t legal tx free staged (in_shapes fixed.start events t legal refs never)
