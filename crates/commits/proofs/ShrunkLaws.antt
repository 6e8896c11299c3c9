-- Writes with a word outside, and commits that are refused for it.
use Rattle.std.proofs.Common.{◌≡◌, ◌≢◌, ℕ, List, [], ◌∷◌, ◌++◌, length, Bool, true, false, Option, Some, None, ◌⊎◌, inl, inr, refl, sym, ap, subst, ◌∙◌}
use Rattle.std.specs.Prelude.{◌||◌}
use Rattle.std.specs.List.{AllByRecursion}
use Rattle.std.specs.Option.{option_map}
use Rattle.std.specs.FinMap as finmap
use Rattle.chunk_forms.specs.Names.{chunk_name, metadata_name}
use Rattle.cells.proofs.Laws.{equal_or_not}
use Rattle.stack_driver.specs.Targets.{Cell, is_cell}
use Rattle.history.specs.declared.array.Home.{Home}
use Rattle.history.specs.declared.array.Home.TheVariants.{Zarr, N5, Zarr3, Local}
use Rattle.history.specs.History.{History}
use Rattle.history.specs.Arrays.{Known, known_after, chunk_shape, form_of, is_local}
use Rattle.history.specs.Chunks.{Chunk, chunk_of, chunk_key, keys_text, metadata_key}
use Rattle.history.specs.Commit.{Key, Transaction, is_before}
use Rattle.history.specs.Legal.{IsLegal, is_present_in}
use Rattle.history.specs.Reads.{is_put}
use Rattle.history.specs.Refusals.{IsShrunkCommit, IsWrittenOutside, key_of_array}
use Rattle.history.specs.Store.{resized_after}
use Rattle.history.specs.Writes.{Put, puts_of}
use Rattle.history.proofs.Laws.{chunk_array, known_apart, never_itself, other_way, same_cells, some_inj}
use Rattle.chunk_plans.specs.Laid.{IsStagedWithin}
use Rattle.chunk_plans.specs.Outline.{outline}
use Rattle.chunk_plans.proofs.Laws.{good_in, known-outline}
use Rattle.chunk_plans.specs.declared.write.ChunkWrite.{ChunkWrite}
use Rattle.chunk_plans.specs.Writes.{chunk_of_write}
use Rattle.commits.specs.declared.outside.Outside.{Outside}
use Rattle.commits.specs.Outside.{IsFirstOutside, IsOutside, IsWithin}
use Rattle.commits.specs.Prepared.{AreWrites, HasWrite, IsPutAmong, IsStagedFor, IsStagedWrite, write_keys}
use Rattle.chunk_plans.specs.Rising.{AreRising}
use Rattle.commits.proofs.KeyOrder.{apart_order}
use Rattle.commits.proofs.OutsideLaws.{HasOutside, put_within, within_or_outside}

-- a put cell is among what is put
pub among_put : (P : Cell → Type 0) (ps : List Put) → AllByRecursion (λ (p : Put). P p.0) ps → (x : Cell) → is_put ps x ≡ true → P x
among_put P [] all x is = absurd (cc)
among_put P (p ∷ ps) all x is = by (is_cell p.0 x) refl (λ rest. among_put P ps all.1 x rest)
  where
    by : (b : Bool) → is_cell p.0 x ≡ b → (is_put ps x ≡ true → P x) → P x
    by true same rest = subst P (same_cells p.0 x same) all.0
    by false other rest = rest (sym (ap (λ b. b || is_put ps x) other) ∙ is)

-- an array whose metadata has a key is stored, and the key begins with the text of its keys
record IsMetadataKey (k : Known) (key : Key) : Type 0 where
  stored : is_local k.info.home ≡ false
  name : List ℕ
  is : keys_text k ++ name ≡ key

metadata_by : (k : Known) (key : Key) (name : Option (List ℕ)) → (name ≢ None → is_local k.info.home ≡ false) → option_map (λ n. keys_text k ++ n) name ≡ Some key → IsMetadataKey k key
metadata_by k key None stored is = absurd (cc)
metadata_by k key (Some name) stored is = record { stored = stored (λ e. absurd (cc)); name = name; is = some_inj (keys_text k ++ name) key is }

named_stored : (home : Home) → metadata_name (form_of home) ≢ None → is_local home ≡ false
named_stored (Zarr mount path meta) some = refl
named_stored (N5 mount path meta) some = refl
named_stored (Zarr3 mount path meta) some = refl
named_stored (Local start) some = absurd (some refl)

is_metadata : (k : Known) (key : Key) → metadata_key k ≡ Some key → IsMetadataKey k key
is_metadata k key is = metadata_by k key (metadata_name (form_of k.info.home)) (named_stored k.info.home) is

module _ (events : History) (t : Transaction) (legal : IsLegal finmap.empty (outline events)) (writes : List ChunkWrite) (are : AreWrites events t.ops writes) where
  -- a cell that lies outside isn't in a chunk of which each word lies within
  never_within : (x : Cell) (key : Key) (w : ChunkWrite) (k : Known) → IsWrittenOutside events t x key → IsPutAmong events writes x → IsStagedFor events t.ops w k → chunk_of_write w ≡ chunk_of events x → IsWithin k w → ⊥
  never_within x key w k out among is here within =
      let array : w.array ≡ x.array = ap (λ (c : Chunk). c.array) here ∙ chunk_array (known_after events x.array) x in
      let known : known_after events x.array ≡ Some k = ap (known_after events) (sym array) ∙ is.known in
      let same : among.array ≡ k = some_inj among.array k (sym among.known ∙ known) in
      let rank = subst (λ (l : Known). length x.index ≡ length (chunk_shape l.info)) same among.rank in
      let meta = is_metadata k key (sym (ap key_of_array known) ∙ out.named) in
      let inside = put_within events t.ops w k is x (good_in events legal w.array k is.known) rank (sym here) (within meta.stored) out.written in
      let clash : true ≡ false = sym inside ∙ sym (ap (λ o. is_present_in o x) known) ∙ out.outside in
      absurd (cc)

  none_by : (x : Cell) (key : Key) (ws : List ChunkWrite) → AllByRecursion (IsStagedWrite events t.ops) ws → IsFirstOutside events ws None → IsWrittenOutside events t x key → IsPutAmong events writes x → HasWrite (chunk_of events x) ws → ⊥
  none_by x key [] each none out among has = has
  none_by x key (w ∷ ws) each none out among (inl here) = never_within x key w each.0.0 out among each.0.1 here (none.0 each.0.0 each.0.1.known)
  none_by x key (w ∷ ws) each none out among (inr more) = none_by x key ws each.1 none.1 out among more

  abbrev among : (x : Cell) (key : Key) → IsWrittenOutside events t x key → IsPutAmong events writes x
  among x key out = among_put (IsPutAmong events writes) (puts_of t.ops) are.all x out.written

  -- where no write has a word outside, no written cell was cut
  pub not_shrunk : IsFirstOutside events writes None → (key : Key) (now : ℕ) → ¬ IsShrunkCommit events t key now
  not_shrunk none key now is = let there = among is.cell key is.is_outside in none_by is.cell key writes are.each none is.is_outside there there.write

  -- the first write with a word outside, and that no other array with one has a lesser key
  record IsLeastOutside (o : Outside) (ws : List ChunkWrite) : Type 0 where
    write : ChunkWrite
    array : Known
    staged : IsStagedFor events t.ops write array
    out : IsOutside events array write o
    least : (x : Cell) (k : Key) → IsWrittenOutside events t x k → HasWrite (chunk_of events x) ws → is_before k o.key ≡ false

  -- keys of metadata stand as those of chunks
  later_key : (w v : ChunkWrite) (k l : Known) (low high : Key) → IsStagedFor events t.ops w k → IsStagedFor events t.ops v l → is_before w.key v.key ≡ true → metadata_key k ≡ Some low → metadata_key l ≡ Some high → is_before high low ≡ false
  later_key w v k l low high one other before first second = elim (equal_or_not w.array v.array) [
    | inl same ↦
        let array : k ≡ l = some_inj k l (sym one.known ∙ ap (known_after events) same ∙ other.known) in
        let keys : low ≡ high = some_inj low high (sym first ∙ ap metadata_key array ∙ second) in
        ap (is_before high) keys ∙ never_itself high
    | inr apart ↦
        let texts = known_apart finmap.empty (outline events) legal w.array v.array k l (known-outline w.array events ∙ one.known) (known-outline v.array events ∙ other.known) apart in
        let mine = is_metadata k low first in
        let its = is_metadata l high second in
        let order : is_before low high ≡ true =
        ap (λ a. is_before a high) (sym mine.is) ∙ ap (is_before (keys_text k ++ mine.name)) (sym its.is)
        ∙ apart_order (keys_text k) (keys_text l) mine.name its.name (chunk_name (form_of k.info.home) w.chunk.now) (chunk_name (form_of l.info.home) v.chunk.now) texts
        ∙ ap (λ a. is_before a (chunk_key l v.chunk.now)) one.named ∙ ap (is_before w.key) other.named ∙ before in
        other_way low high order
  ]

  -- the key of an array whose write stands behind another
  behind : (w : ChunkWrite) (k : Known) (low : Key) (x : Cell) (high : Key) (ws : List ChunkWrite) → IsStagedFor events t.ops w k → metadata_key k ≡ Some low → AllByRecursion (IsStagedWrite events t.ops) ws → AllByRecursion (λ other. is_before w.key other ≡ true) (write_keys ws)
      → IsWrittenOutside events t x high → HasWrite (chunk_of events x) ws → is_before high low ≡ false
  behind w k low x high [] is named each before out has = absurd has
  behind w k low x high (v ∷ ws) is named each before out (inl here) =
      let array : v.array ≡ x.array = ap (λ (c : Chunk). c.array) here ∙ chunk_array (known_after events x.array) x in
      let known : known_after events x.array ≡ Some each.0.0 = ap (known_after events) (sym array) ∙ each.0.1.known in
      later_key w v k each.0.0 low high is each.0.1 before.0 named (sym (ap key_of_array known) ∙ out.named)
  behind w k low x high (v ∷ ws) is named each before out (inr more) = behind w k low x high ws is named each.1 before.1 out more

  least_by : (o : Outside) (ws : List ChunkWrite) → AllByRecursion (IsStagedWrite events t.ops) ws → AreRising (write_keys ws) → IsFirstOutside events ws (Some o) → IsLeastOutside o ws
  least_by o [] each rising found = absurd found
  least_by o (w ∷ ws) each rising (inl here) = record {
    write = w;
    array = each.0.0;
    staged = each.0.1;
    out = out;
    least = λ x k outside has. elim has [
      | inl same ↦
          let array : w.array ≡ x.array = ap (λ (c : Chunk). c.array) same ∙ chunk_array (known_after events x.array) x in
          let known : known_after events x.array ≡ Some each.0.0 = ap (known_after events) (sym array) ∙ each.0.1.known in
          let keys : k ≡ o.key = some_inj k o.key (sym outside.named ∙ ap key_of_array known ∙ out.named) in
          ap (λ j. is_before j o.key) keys ∙ never_itself o.key
      | inr more ↦ behind w each.0.0 o.key x k ws each.0.1 out.named each.1 rising.0 outside more
    ];
  }
    where
      out : IsOutside events each.0.0 w o
      out = here each.0.0 each.0.1.known
  least_by o (w ∷ ws) each rising (inr rest) =
      let there = least_by o ws each.1 rising.1 rest.1 in
      record {
        write = there.write;
        array = there.array;
        staged = there.staged;
        out = there.out;
        least = λ x k outside has. elim has [
          | inl same ↦ absurd (never_within x k w each.0.0 outside (among x k outside) each.0.1 same (rest.0 each.0.0 each.0.1.known))
          | inr more ↦ there.least x k outside more
        ];
      }

  -- the first write with a word outside is what the commit is refused for
  pub shrunk_of : (o : Outside) → IsFirstOutside events writes (Some o) → IsShrunkCommit events t o.key o.now
  shrunk_of o found = told (within_or_outside events t.ops least.write least.array least.staged)
    where
      least : IsLeastOutside o writes
      least = least_by o writes are.each are.sorted found

      told : IsStagedWithin least.array.shape (chunk_shape least.array.info) least.write.chunk.now least.write.staged.now ⊎ HasOutside events t.ops least.write → IsShrunkCommit events t o.key o.now
      told (inl within) = absurd (least.out.beyond within)
      told (inr there) = record {
        cell = there.cell;
        is_outside = record {
          written = there.put;
          outside = there.absent;
          named = ap (λ a. key_of_array (known_after events a)) there.of_array ∙ ap key_of_array least.staged.known ∙ least.out.named;
        };
        number = least.out.number ∙ ap (resized_after events) (sym there.of_array);
        least = λ x k out. least.least x k out (among x k out).write;
      }
