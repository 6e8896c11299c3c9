-- What a resize begins with: the count of the chunks that it cuts, its form, its keys.
use Rattle.std.proofs.Common.{◌≡◌, ℕ, zero, suc, ◌+◌, ◌<◌, ◌≤◌, List, [], ◌∷◌, ◌++◌, length, map, take, true, false, Option, Some, None, inl, inr, refl, sym, ap, subst, ◌∙◌, arith}
use Rattle.std.specs.Prelude.{slice_index_or}
use Rattle.std.specs.Option.{SomeIff, is_some, option_map}
use Rattle.cells.specs.Shapes.{IsChunkShape, IsShape}
use Rattle.cells.proofs.Laws.{less_or_not}
use Rattle.chunk_forms.specs.declared.form.Form.{Form}
use Rattle.chunk_forms.specs.Metadata.{chunk_shape_of, metadata_text, shape_of, with_shape}
use Rattle.chunk_forms.specs.Names.{metadata_name}
use Rattle.kv_face.specs.Store.{keys_of}
use Rattle.history.specs.declared.array.Home.{Home}
use Rattle.history.specs.declared.array.Home.TheVariants.{Zarr, N5, Zarr3, Local}
use Rattle.history.specs.Arrays.{Known, known_after, chunk_shape, form_of, is_local}
use Rattle.history.specs.Chunks.{chunk_key, home_text, metadata_key}
use Rattle.history.specs.History.{History}
use Rattle.history.specs.Legal.{MayTake}
use Rattle.history.specs.Refusals.{HasTooManyCut}
use Rattle.history.specs.Resizes.{cut_chunks}
use Rattle.history.proofs.Laws.{IsGood}
use Rattle.chunk_plans.specs.Homes.{MayHaveShape}
use Rattle.chunk_plans.proofs.Laws.{taken_shape, good_in}
use Rattle.chunk_plans.specs.Resized.{cut_indices}
use Rattle.chunk_plans.proofs.Laws.{shape_told, chunk_told, valid_chunks, valid_ranks}
use Rattle.chunk_plans.specs.Agreement.{IsState}
use Rattle.chunk_plans.specs.Fetches.{IsChunkOf}
use Rattle.chunk_plans.specs.Log.{Log}
use Rattle.chunk_plans.specs.Seen.{StoreSeen}
use Rattle.chunk_plans.specs.declared.NewShape.{NewShape}
use Rattle.state_resizes.specs.Conditions.{IsAsked}
use Rattle.state_resizes.specs.Cuts.{AreAsked, AreCut, IsBegun, bytes_at, unfilled}
use Rattle.state_resizes.specs.declared.keys.Asked.{Asked}
use Rattle.state_resizes.proofs.Along.{cut_at}
use Rattle.state_resizes.proofs.Cut.{cut_valid}

-- what counting and listing the chunks that are cut asks
pub record MayCount (f : Form) (shape : List ℕ) : Type 0 where
  pub chunks : IsChunkShape (chunk_shape_of f)
  pub old : length (shape_of f) ≡ length (chunk_shape_of f)
  pub new : length shape ≡ length (chunk_shape_of f)

module _ {store : StoreSeen} {log : Log} (a : ℕ) (shape : List ℕ) (f : Form) (state : IsState store log) (asked : IsAsked log.events a shape) (told : (k : Known) → known_after log.events a ≡ Some k → f ≡ with_shape (form_of k.info.home) k.shape) where
  abbrev k : Known
  k = asked.array

  good : IsGood a k
  good = good_in log.events state.1.outline a k asked.known

  shapes : shape_of f ≡ k.shape
  shapes = ap shape_of (told k asked.known) ∙ shape_told k.info.home k.shape asked.may.stored

  chunks : chunk_shape_of f ≡ chunk_shape k.info
  chunks = ap chunk_shape_of (told k asked.known) ∙ chunk_told k.info.home k.info.shape k.shape asked.may.stored

  ranks : length (chunk_shape k.info) ≡ length k.info.shape
  ranks = valid_ranks k.info k.info.home good.kept asked.may.stored

  pub may_count : MayCount f shape
  may_count = record {
    chunks = subst IsChunkShape (sym chunks) (valid_chunks k.info k.info.home good.kept asked.may.stored);
    old = ap length shapes ∙ good.rank ∙ sym ranks ∙ ap length (sym chunks);
    new = asked.may.rank ∙ sym ranks ∙ ap length (sym chunks);
  }

  pub listed : cut_indices (chunk_shape_of f) (shape_of f) shape ≡ cut_chunks k shape
  listed = ap (λ n. cut_indices n (shape_of f) shape) chunks ∙ ap (λ s. cut_indices (chunk_shape k.info) s shape) shapes

  listed_by : (ns olds : List ℕ) → ns ≡ chunk_shape_of f → olds ≡ shape_of f → cut_indices ns olds shape ≡ cut_chunks k shape
  listed_by ns olds n s = ap (λ m. cut_indices m olds shape) n ∙ ap (λ o. cut_indices (chunk_shape_of f) o shape) s ∙ listed

  -- there are too many
  pub many_cut : (ns olds : List ℕ) → ns ≡ chunk_shape_of f → olds ≡ shape_of f → ¬ (length (cut_indices ns olds shape) ≤ 65536) → HasTooManyCut (known_after log.events a) shape
  many_cut ns olds n s many =
      subst (λ o. HasTooManyCut o shape) (sym asked.known)
      (subst (λ xs. 65536 < length xs) (listed_by ns olds n s) (elim (less_or_not 65536 (length (cut_indices ns olds shape))) [ inl more ↦ more | inr few ↦ absurd (many few) ]))

  -- or these are all
  pub few_cut : (ns olds ms froms : List ℕ) (xs : List (List ℕ)) → ns ≡ chunk_shape_of f → olds ≡ shape_of f → length (cut_indices ns olds shape) ≤ 65536 → ms ≡ chunk_shape_of f → froms ≡ shape_of f → xs ≡ cut_indices ms froms shape → AreCut log.events a shape xs
  few_cut ns olds ms froms xs n s few m o same = record {
    array = k;
    known = asked.known;
    may = record { stored = asked.may.stored; rank = asked.may.rank; sizes = asked.may.sizes; few = subst (λ ys. length ys ≤ 65536) (listed_by ns olds n s) few };
    chunks_are = same ∙ listed_by ms froms m o;
  }

-- what a count tells
pub not_counted : {T : Type 0} (o : Option T) (P : Type 0) (v : T) → SomeIff o P v → is_some o ≡ false → ¬ P
not_counted None P v none is = none
not_counted (Some x) P v some is = absurd (cc)

pub counted : {T : Type 0} (o : Option T) (P : Type 0) (v : T) → SomeIff o P v → is_some o ≡ true → P
counted None P v none is = absurd (cc)
counted (Some x) P v some is = some.0

-- a shape that a stored array may take has its form's rank
shape_by : (home : Home) (s t : List ℕ) → is_local home ≡ false → MayHaveShape home t → IsShape t × (length t ≡ length (chunk_shape_of (with_shape (form_of home) s)))
shape_by (Zarr mount path meta) s t stored may = may
shape_by (N5 mount path meta) s t stored may = may
shape_by (Zarr3 mount path meta) s t stored may = may
shape_by (Local start) s t stored may = absurd (cc)

pub may_have : {store : StoreSeen} {log : Log} (a : ℕ) (shape : List ℕ) (f : Form) → IsState store log → (cut : (chunks : List (List ℕ)) × AreCut log.events a shape chunks) → ((k : Known) → known_after log.events a ≡ Some k → f ≡ with_shape (form_of k.info.home) k.shape)
    → IsShape shape × (length shape ≡ length (chunk_shape_of f))
may_have {store} {log} a shape f state cut told =
    let k = cut.1.array in
    let good : IsGood a k = good_in log.events state.1.outline a k cut.1.known in
    let both = shape_by k.info.home k.shape shape cut.1.may.stored (taken_shape k shape good.kept cut.1.may) in
    (both.0, both.1 ∙ ap (λ g. length (chunk_shape_of g)) (sym (told k cut.1.known)))

-- a stored array's metadata has a key
named_by : (home : Home) (opened : ℕ) → is_local home ≡ false → (key : List ℕ) × (option_map (λ name. home_text home opened ++ name) (metadata_name (form_of home)) ≡ Some key)
named_by (Zarr mount path meta) opened stored = (_, refl)
named_by (N5 mount path meta) opened stored = (_, refl)
named_by (Zarr3 mount path meta) opened stored = (_, refl)
named_by (Local start) opened stored = absurd (cc)

pub metadata_named : (k : Known) → is_local k.info.home ≡ false → (key : List ℕ) × (metadata_key k ≡ Some key)
metadata_named k stored = named_by k.info.home k.opened stored

-- a chunk of the list is one of the array
pub listed_chunk : {store : StoreSeen} {log : Log} (a : ℕ) (shape : List ℕ) (chunks : List (List ℕ)) (j : ℕ) (d : List ℕ) → IsState store log → AreCut log.events a shape chunks → j < length chunks
    → IsChunkOf log.events (record { array = a; index = slice_index_or chunks j d })
listed_chunk {store} {log} a shape chunks j d state cut low = record {
  array = cut.array;
  known = cut.known;
  valid = cut_valid log.events a cut.array shape state.1.outline cut.known cut.may.stored (slice_index_or chunks j d) (cut_at log.events a shape chunks j d cut low cut.array cut.known);
}

-- one more of a list
map_next : {B : Type 0} (f : List ℕ → B) (xs : List (List ℕ)) (i : ℕ) (x : List ℕ) → i < length xs → x ≡ slice_index_or xs i x → map f (take i xs) ++ f x ∷ [] ≡ map f (take (suc i) xs)
map_next f [] i x low is = absurd (omega arith)
map_next f (y ∷ ys) zero x low is = ap (λ z. f z ∷ []) is
map_next f (y ∷ ys) (suc i) x low is = ap (λ zs. f y ∷ zs) (map_next f ys i x (omega arith) is)

pub map_more : {B : Type 0} (f : List ℕ → B) (xs : List (List ℕ)) (i : ℕ) (x : List ℕ) → i < length xs → x ≡ slice_index_or xs i x → map f (take i xs) ++ f x ∷ [] ≡ map f (take (i + 1) xs)
map_more f xs i x low is = map_next f xs i x low is ∙ (let next : suc i ≡ i + 1 = omega arith in ap (λ n. map f (take n xs)) next)

take_all : (xs : List (List ℕ)) (n : ℕ) → length xs ≤ n → take n xs ≡ xs
take_all [] n all = take_none n
  where
    take_none : (n : ℕ) → take {A = List ℕ} n [] ≡ []
    take_none zero = refl
    take_none (suc n) = refl
take_all (x ∷ xs) zero all = absurd (omega arith)
take_all (x ∷ xs) (suc n) all = ap (λ ys. x ∷ ys) (take_all xs n (omega arith))

keys_unfilled : (k : Known) (xs : List (List ℕ)) → keys_of (map (unfilled k) xs) ≡ map (chunk_key k) xs
keys_unfilled k [] = refl
keys_unfilled k (x ∷ xs) = ap (λ ks. chunk_key k x ∷ ks) (keys_unfilled k xs)

-- all keys and changes are there
pub are_asked : (events : History) (chunks : List (List ℕ)) (new : NewShape) (asked : Asked) (n : ℕ) → IsBegun events new → length chunks ≤ n → asked.plan ≡ record new { keys = asked.plan.keys }
    → ((k : Known) → known_after events new.array ≡ Some k → asked.plan.keys.items ≡ map (chunk_key k) (take n chunks))
    → ((k : Known) (key : List ℕ) → known_after events new.array ≡ Some k → metadata_key k ≡ Some key → asked.changes.items ≡ record { key = key; bytes = Some (metadata_text new.form) } ∷ map (unfilled k) (take n chunks))
    → AreAsked events chunks asked
are_asked events chunks new asked n begun all same keys changes =
    let k = begun.array in
    let key = metadata_named k begun.may.stored in
    let whole = take_all chunks n all in
    let are = changes k key.0 begun.known key.1 ∙ ap (λ xs. record { key = key.0; bytes = Some (metadata_text new.form) } ∷ map (unfilled k) xs) whole in
    record {
      begun = record {
        array = k;
        known = ap (λ (p : NewShape). known_after events p.array) same ∙ begun.known;
        may = subst (λ (p : NewShape). MayTake k p.shape) (sym same) begun.may;
        mount = begun.mount ∙ ap (λ (p : NewShape). Some p.mount) (sym same);
        form = ap (λ (p : NewShape). p.form) same ∙ begun.form ∙ ap (λ (p : NewShape). with_shape (form_of k.info.home) p.shape) (sym same);
      };
      key = key.0;
      named = key.1;
      keys = keys k begun.known ∙ ap (map (chunk_key k)) whole;
      changed = ap keys_of are ∙ ap (λ ks. key.0 ∷ ks) (keys_unfilled k chunks);
      metadata = ap (λ cs. bytes_at cs 0) are ∙ ap (λ (p : NewShape). Some (metadata_text p.form)) (sym same);
    }
