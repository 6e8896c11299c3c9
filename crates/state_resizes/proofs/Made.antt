-- Changes of a resize that the store makes together, and the new shape that they make.
use Rattle.std.proofs.Common.{◌≡◌, ℕ, ◌<◌, List, [], ◌∷◌, ◌++◌, length, map, true, Option, Some, None, refl, sym, ap, subst, ◌∙◌, arith}
use Rattle.std.specs.Prelude.{All}
use Rattle.std.specs.List.{AllByRecursion, IsDistinct}
use Rattle.std.specs.Option.{option_map}
use Rattle.std.specs.Str.{bytes_eq}
use Rattle.std.proofs.lemmas.List.{append_assoc, length-map}
use Rattle.chunk_forms.specs.Names.{metadata_name}
use Rattle.kv_face.specs.Store.{keys_of, are_together, takes}
use Rattle.kv_face.specs.declared.change.Change.{Change}
use Rattle.history.specs.declared.array.Home.{Home}
use Rattle.history.specs.declared.array.Home.TheVariants.{Zarr, N5, Zarr3, Local}
use Rattle.history.specs.Arrays.{Known, known_after, form_of}
use Rattle.history.specs.Chunks.{chunk_key, home_text, metadata_key}
use Rattle.history.specs.Commit as commit
use Rattle.history.specs.Own.{resized_event}
use Rattle.history.specs.ReadRows.{mount_of}
use Rattle.history.specs.Resizes.{cut_chunks}
use Rattle.history.proofs.Laws.{none_is_none, some_inj}
use Rattle.chunk_plans.specs.Agreement.{IsState, TakesMount}
use Rattle.chunk_plans.specs.Changing.{AreMade, AreTouched, IsNewShape}
use Rattle.chunk_plans.specs.Log.{Log}
use Rattle.chunk_plans.specs.Seen.{StoreSeen, IsFrame}
use Rattle.chunk_plans.specs.declared.NewShape.{NewShape}
use Rattle.chunk_plans.proofs.Laws.{takes_chunk, together-keys}
use Rattle.state_resizes.specs.Cuts.{AreAsked, AreCut}
use Rattle.state_resizes.specs.declared.keys.Asked.{Asked}
use Rattle.state_resizes.proofs.Cut.{keys_distinct, keys_touched}
use Rattle.state_resizes.proofs.Lists.{each_key, each_mapped}

-- metadata lies below its mount
in_folder : (m path name mount : List ℕ) → m ≡ mount → (rest : List ℕ) × ((m ++ 47 ∷ path ++ 47 ∷ []) ++ name ≡ mount ++ 47 ∷ rest)
in_folder m path name mount same =
    let tail : List ℕ = (47 ∷ []) ++ name in
    (path ++ tail, append_assoc (m ++ 47 ∷ path) (47 ∷ []) name ∙ append_assoc m (47 ∷ path) tail ∙ ap (λ n. n ++ 47 ∷ (path ++ tail)) same)

below : (home : Home) (opened : ℕ) (name mount : List ℕ) → mount_of home ≡ Some mount → (rest : List ℕ) × (home_text home opened ++ name ≡ mount ++ 47 ∷ rest)
below (Zarr m path meta) opened name mount is = let same : m ≡ mount = cc in in_folder m path name mount same
below (N5 m path meta) opened name mount is = let same : m ≡ mount = cc in in_folder m path name mount same
below (Zarr3 m path meta) opened name mount is = let same : m ≡ mount = cc in in_folder m path name mount same
below (Local start) opened name mount is = absurd (cc)

takes_named : (names : Option (List (List ℕ))) (home : Home) (opened : ℕ) (name : Option (List ℕ)) (mount key : List ℕ) → mount_of home ≡ Some mount → TakesMount names mount → option_map (λ n. home_text home opened ++ n) name ≡ Some key → takes names key ≡ true
takes_named names home opened None mount key on takes_all named = absurd (none_is_none key named)
takes_named names home opened (Some name) mount key on takes_all named =
    let at = below home opened name mount on in
    ap (takes names) (sym (some_inj (home_text home opened ++ name) key named) ∙ at.1) ∙ takes_all at.0

takes_metadata : (names : Option (List (List ℕ))) (k : Known) (mount key : List ℕ) → mount_of k.info.home ≡ Some mount → TakesMount names mount → metadata_key k ≡ Some key → takes names key ≡ true
takes_metadata names k mount key on takes_all named = takes_named names k.info.home k.opened (metadata_name (form_of k.info.home)) mount key on takes_all named

module _ (store : StoreSeen) (log : Log) (chunks : List (List ℕ)) (asked : Asked) (state : IsState store log) (are : AreAsked log.events chunks asked) (cut : AreCut log.events asked.plan.array asked.plan.shape chunks) where
  abbrev k : Known
  k = are.begun.array

  -- the array of both is one
  pub chunks_of_array : chunks ≡ cut_chunks k asked.plan.shape
  chunks_of_array = cut.chunks_are ∙ ap (λ l. cut_chunks l asked.plan.shape) (some_inj cut.array k (sym cut.known ∙ are.begun.known))

  module _ (changes : List Change) (same : keys_of changes ≡ keys_of asked.changes.items) where
    pub keys_named : keys_of changes ≡ are.key ∷ map (chunk_key k) (cut_chunks k asked.plan.shape)
    keys_named = same ∙ are.changed ∙ ap (λ xs. are.key ∷ map (chunk_key k) xs) chunks_of_array

    takes_each : AllByRecursion (λ key. takes store.names key ≡ true) (keys_of changes)
    takes_each =
        let takes_all = state.1.mounts asked.plan.array k asked.plan.mount are.begun.known are.begun.mount in
        subst (AllByRecursion (λ key. takes store.names key ≡ true)) (sym keys_named) (
          takes_metadata store.names k asked.plan.mount are.key are.begun.mount takes_all are.named,
          each_mapped (λ key. takes store.names key ≡ true) (chunk_key k) (cut_chunks k asked.plan.shape) (λ index. takes_chunk store.names k index asked.plan.mount (chunk_key k index) are.begun.mount takes_all refl),
        )

    pub made_together : commit.are_together store.prefixes (keys_of changes) ≡ true → AreMade store changes
    made_together together = record {
      taken = each_key (λ key. takes store.names key ≡ true) changes takes_each;
      distinct = subst (IsDistinct bytes_eq) (sym keys_named) (keys_distinct log.events asked.plan.array k asked.plan.shape state.1.outline are.begun.known are.begun.may.stored are.key are.named);
      together = together-keys store.prefixes changes ∙ together;
    }

    some_change : 0 < length changes
    some_change = let count : length changes ≡ length (are.key ∷ map (chunk_key k) (cut_chunks k asked.plan.shape)) = sym (length-map changes (λ (c : Change). c.key)) ∙ ap length keys_named in omega (arith, count)

    pub new_shape : (owner : ℕ) → IsNewShape log owner asked.plan changes
    new_shape owner = record {
      array = k;
      known = are.begun.known;
      may = are.begun.may;
      form = are.begun.form;
      touched = subst (AreTouched log.events (resized_event owner asked.plan.array asked.plan.shape)) (sym (are.keys ∙ ap (map (chunk_key k)) chunks_of_array))
          (keys_touched log.events asked.plan.array k asked.plan.shape state.1.outline are.begun.known are.begun.may.stored owner);
      some = some_change;
    }

-- they stay so while the events and the store's names and prefixes do
pub shape_later : (log later : Log) (owner : ℕ) (new : NewShape) (changes : List Change) → later.events ≡ log.events → IsNewShape log owner new changes → IsNewShape later owner new changes
shape_later log later owner new changes same is = record {
  array = is.array;
  known = ap (λ h. known_after h new.array) same ∙ is.known;
  may = is.may;
  form = is.form;
  touched = subst (λ h. AreTouched h (resized_event owner new.array new.shape) new.keys.items) (sym same) is.touched;
  some = is.some;
}

pub made_later : (store next : StoreSeen) (changes : List Change) → IsFrame store next → AreMade store changes → AreMade next changes
made_later store next changes frame made = record {
  taken = subst (λ names. All (λ (c : Change). takes names c.key ≡ true) changes) (sym frame.names) made.taken;
  distinct = made.distinct;
  together = ap (λ ps. are_together ps changes 0) frame.prefixes ∙ made.together;
}
