-- What opening a leaf answers, by what the store has.
use Rattle.std.proofs.lemmas.List.{append_assoc}
use Rattle.std.specs.Option.{is_none}
use Rattle.std.proofs.Common.{◌≡◌, ◌≤◌, ℕ, ◌+◌, List, [], ◌∷◌, ◌++◌, length, true, false, Option, Some, None, refl, sym, ap, subst, ◌∙◌, arith}
use Rattle.std.specs.Prelude.{count_by}
use Rattle.std.specs.FinMap as finmap
use Rattle.cells.specs.declared.dtype.Dtype.TheVariants.{U8}
use Rattle.cells.specs.declared.order.Order.TheVariants.{C}
use Rattle.history.specs.declared.Form.{Form}
use Rattle.history.specs.declared.Form.TheVariants as form
use Rattle.history.specs.declared.Want.{Want}
use Rattle.history.specs.declared.Want.TheVariants as want
use Rattle.history.specs.Metadata.{is_local, IsMetadata, with_shape, metadata_text}
use Rattle.history.specs.Wants.{is_asked_form, metadata_name_asked, mismatch_of}
use Rattle.kv_face.specs.Store.{Contents, OneMore, put_bytes}
use Rattle.array_homes.specs.Opening.{IsStoreOutcome}
use Rattle.history.specs.declared.array.ArrayInfo.{ArrayInfo}
use Rattle.history.specs.declared.array.Home.{Home}
use Rattle.history.specs.declared.array.Home.TheVariants.{Zarr, N5, Zarr3, Local}
use Rattle.history.specs.History.{History}
use Rattle.history.specs.Arrays.{Known, form_of}
use Rattle.history.specs.Arrays as arrays
use Rattle.history.specs.Counting.{lacks_metadata}
use Rattle.history.specs.Own.{opened_event}
use Rattle.history.specs.ReadRows.{mount_of}
use Rattle.history.specs.Stored.{IsApplied}
use Rattle.history.specs.Chunks.{metadata_key}
use Rattle.history.specs.Leaves.{Leaf, IsStoredAs, location_of_leaf, metadata_key_asked}
use Rattle.history.specs.Legal.{IsMount, IsLegalOpening, is_opening}
use Rattle.history.specs.Outcomes.{Outcome, home_of, new_info, unless_taken, outcome_at}
use Rattle.history.specs.Places.{IsFree, array_at}
use Rattle.history.specs.Store.{RepresentsHistory}
use Rattle.history.proofs.Laws.{opening_found, opening_made, counted_more, counted_same, opened_as, some_inj}
use Rattle.state_laws.specs.Seen.{StoreSeen, IsFrame}
use Rattle.state_laws.specs.Log.{Log}
use Rattle.state_laws.specs.Agreement.{Opening, Agrees, TakesMount}
use Rattle.state_laws.specs.Openings.{IsOutcomeOf}
use Rattle.state_laws.specs.Placed.{entered}
use Rattle.state_laws.proofs.Fresh.{opening_new, key_new, mount_new, form_new, asked_stored}
use Rattle.state_laws.proofs.Entered.{fresh_key, agrees_opened}

-- an array of one cell, of which only the place counts
plain : Form
plain = form.Zarr (record { shape = []; chunks = []; dtype = U8; big = false; fill = None; order = C; slash = false })

plain_valid : IsMetadata plain
unfolding plain
plain_valid = record {
  shape = record { rank = omega arith; sizes = λ k less. absurd (omega arith) };
  ranks = refl;
  chunks = record { least = λ k less. absurd (omega arith); greatest = λ k less. absurd (omega arith); volume = omega arith };
  fill = λ w is. absurd (cc);
  one_byte = λ one. refl;
}

-- below a free location the store has what it had at the start
pub fresh_at : (opening : Opening) (store : StoreSeen) (log : Log) (leaf : Leaf) (start contents : Contents) → Agrees opening store log → IsFree log.events (location_of_leaf leaf) → IsMount leaf.mount → RepresentsHistory contents start log.events
    → finmap.get contents (metadata_key_asked leaf) ≡ finmap.get start (metadata_key_asked leaf)
unfolding plain
fresh_at opening store log leaf start contents agrees free mount represents =
    let h = log.events in
    let may = opening_new h leaf plain agrees.outline free mount plain_valid refl in
    let key = key_new (count_by is_opening h) (length h + 1) leaf.mount leaf.path (want.Zarr (record { shape = None; chunks = None; dtype = None; big = None; fill = None; order = None; slash = None })) plain refl in
    let at : (leaf.mount ++ 47 ∷ leaf.path ++ 47 ∷ []) ++ metadata_name_asked leaf.want ≡ metadata_key_asked leaf = append_assoc (leaf.mount ++ 47 ∷ leaf.path) (47 ∷ []) (metadata_name_asked leaf.want) in
    ap (finmap.get contents) (sym at) ∙ fresh_key h (new_info (count_by is_opening h) leaf plain) may start contents (metadata_name_asked leaf.want) represents ∙ ap (finmap.get start) at

-- so what was read there at the metadata's key is what the outcome asks for
pub outcome_of : (opening : Opening) (store : StoreSeen) (log : Log) (leaf : Leaf) (bytes : Option (List ℕ)) (outcome : Outcome) → Agrees opening store log → IsFree log.events (location_of_leaf leaf) → IsMount leaf.mount
    → ((m : Contents) → store.contents ≡ Some m → bytes ≡ finmap.get m (metadata_key_asked leaf)) → IsStoreOutcome leaf bytes outcome → IsOutcomeOf opening.store.contents log.events leaf outcome
outcome_of opening store log leaf bytes outcome agrees free mount held is = record {
  stored = is.stored;
  read = λ start told empty.
      let true_to = agrees.holds start told in
      subst (λ o. IsStoredAs leaf.want o is.stored) (held true_to.contents true_to.told ∙ fresh_at opening store log leaf start true_to.contents agrees free mount true_to.represents) is.read;
  same =
      is.same
      ∙ sym (ap (λ o. unless_taken o (outcome_at leaf is.stored (array_at log.events (location_of_leaf leaf)))) free.alone ∙ ap (outcome_at leaf is.stored) free.empty);
}

-- an array of the history is compared by its present shape
pub mismatch_now : (want : Want) (home : Home) (shape : List ℕ) → mismatch_of want (with_shape (form_of home) shape) shape ≡ mismatch_of want (form_of home) shape
mismatch_now (want.Zarr w) (Zarr mount path meta) shape = refl
mismatch_now (want.Zarr w) (N5 mount path meta) shape = refl
mismatch_now (want.Zarr w) (Zarr3 mount path meta) shape = refl
mismatch_now (want.Zarr w) (Local start) shape = refl
mismatch_now (want.N5 w) (Zarr mount path meta) shape = refl
mismatch_now (want.N5 w) (N5 mount path meta) shape = refl
mismatch_now (want.N5 w) (Zarr3 mount path meta) shape = refl
mismatch_now (want.N5 w) (Local start) shape = refl
mismatch_now (want.Zarr3 w) (Zarr mount path meta) shape = refl
mismatch_now (want.Zarr3 w) (N5 mount path meta) shape = refl
mismatch_now (want.Zarr3 w) (Zarr3 mount path meta) shape = refl
mismatch_now (want.Zarr3 w) (Local start) shape = refl

stored_home : (mount path : List ℕ) (meta : Form) → is_local meta ≡ false → arrays.is_local (home_of mount path meta) ≡ false
stored_home mount path (form.Zarr meta) stored = refl
stored_home mount path (form.N5 meta) stored = refl
stored_home mount path (form.Zarr3 meta) stored = refl
stored_home mount path form.Local stored = absurd (cc)

-- a new array of a store enters the run: its metadata was found, or made
module _ (opening : Opening) (store next : StoreSeen) (log : Log) (owner : ℕ) (leaf : Leaf) (meta : Form) (agrees : Agrees opening store log) (free : IsFree log.events (location_of_leaf leaf)) (mount : IsMount leaf.mount) (valid : IsMetadata meta)
    (asked : is_asked_form leaf.want meta ≡ true) (frame : IsFrame store next) (takes : TakesMount store.names leaf.mount) where
  abbrev h : History
  h = log.events

  abbrev info : ArrayInfo
  info = new_info (count_by is_opening h) leaf meta

  stored : is_local meta ≡ false
  stored = asked_stored leaf.want meta asked

  is_legal : IsLegalOpening h info
  is_legal = opening_new h leaf meta agrees.outline free mount valid stored

  key_is : metadata_key (opened_as h info) ≡ Some (metadata_key_asked leaf)
  key_is = let key = key_new (count_by is_opening h) (length h + 1) leaf.mount leaf.path leaf.want meta asked in key.1 ∙ ap Some key.0

  takes_new : (m : List ℕ) → mount_of info.home ≡ Some m → TakesMount next.names m
  takes_new m on =
      let same : leaf.mount ≡ m = some_inj leaf.mount m (sym (mount_new leaf.mount leaf.path meta stored) ∙ on) in
      subst (TakesMount next.names) same (subst (λ names. TakesMount names leaf.mount) (sym frame.names) takes)

  no_cells : (home : Home) → home ≡ home_of leaf.mount leaf.path meta → arrays.is_local home ≡ false
  no_cells home is = ap arrays.is_local is ∙ stored_home leaf.mount leaf.path meta stored

  lacks : (start : Contents) → lacks_metadata start (metadata_key (opened_as h info)) ≡ is_none (finmap.get start (metadata_key_asked leaf))
  lacks start = ap (lacks_metadata start) key_is

  pub agrees_found : next.faults ≤ store.faults → next.contents ≡ store.contents → next.changes ≡ store.changes
      → ((m : Contents) → store.contents ≡ Some m → (bytes : List ℕ) × (finmap.get m (metadata_key_asked leaf) ≡ Some bytes)) → Agrees opening next (entered log owner info None)
  agrees_found steady contents changes there =
      agrees_opened opening store next log owner info None agrees is_legal frame steady takes_new (λ local. absurd (no_local local))
      (λ start told true_to.
      let bytes = there true_to.contents true_to.told in
      let first : finmap.get start (metadata_key_asked leaf) ≡ Some bytes.0 = sym (fresh_at opening store log leaf start true_to.contents agrees free mount true_to.represents) ∙ bytes.1 in (
        true_to.contents,
        contents ∙ true_to.told,
        opening_found start h owner info true_to.legal is_legal true_to.contents
            (λ key named. let same : metadata_key_asked leaf ≡ key = some_inj (metadata_key_asked leaf) key (sym key_is ∙ named) in (bytes.0, ap (finmap.get start) (sym same) ∙ first, ap (finmap.get true_to.contents) (sym same) ∙ bytes.1)),
        counted_same start opening.store.changes store.changes next.changes h (opened_event owner info) true_to.counted (lacks start ∙ ap is_none first) changes,
      ))
    where
      no_local : arrays.is_local info.home ≡ true → ⊥
      no_local local = let clash : true ≡ false = sym local ∙ no_cells info.home refl in cc

  pub agrees_made : next.faults ≤ store.faults → ((m : Contents) → store.contents ≡ Some m → next.contents ≡ Some (put_bytes m (metadata_key_asked leaf) (Some (metadata_text meta)))) → OneMore store.changes next.changes
      → ((m : Contents) → store.contents ≡ Some m → finmap.get m (metadata_key_asked leaf) ≡ None) → Agrees opening next (entered log owner info None)
  agrees_made steady contents changes missing =
      agrees_opened opening store next log owner info None agrees is_legal frame steady takes_new (λ local. absurd (no_local local))
      (λ start told true_to.
      let none : finmap.get start (metadata_key_asked leaf) ≡ None = sym (fresh_at opening store log leaf start true_to.contents agrees free mount true_to.represents) ∙ missing true_to.contents true_to.told in
      let text : metadata_text (with_shape (form_of info.home) info.shape) ≡ metadata_text meta = ap metadata_text (sym (form_new leaf.mount leaf.path meta stored)) in (
        put_bytes true_to.contents (metadata_key_asked leaf) (Some (metadata_text meta)),
        contents true_to.contents true_to.told,
        subst (λ t. IsApplied start h (opened_event owner info) true_to.contents (put_bytes true_to.contents (metadata_key_asked leaf) (Some t))) text
            (opening_made start h owner info true_to.legal is_legal true_to.contents (metadata_key_asked leaf) key_is none),
        counted_more start opening.store.changes store.changes next.changes h (opened_event owner info) true_to.counted (lacks start ∙ ap is_none none) changes,
      ))
    where
      no_local : arrays.is_local info.home ≡ true → ⊥
      no_local local = let clash : true ≡ false = sym local ∙ no_cells info.home refl in cc

-- a store that wasn't called
pub frame_same : (store : StoreSeen) → IsFrame store store
frame_same store = record { faults = omega arith; counts = record { each = λ k. omega arith }; prefixes = refl; names = refl }
