-- The cells of an operation that may follow a history.
use Rattle.std.proofs.Common.{◌≡◌, ◌∙◌, ◌<◌, ℕ, ◌+◌, List, [], ◌∷◌, length, map, true, false, Option, Some, None, Result, Ok, Err, refl, sym, ap, subst, arith}
use Rattle.std.specs.Prelude.{IsTrue}
use Rattle.std.specs.List.{AllByRecursion}
use Rattle.cells.specs.Places.{cell_count, c_place}
use Rattle.cells.specs.Shapes.{IsChunkShape}
use Rattle.history.specs.declared.array.ArrayInfo.{ArrayInfo}
use Rattle.history.specs.declared.event.Op.{Op}
use Rattle.history.specs.Arrays.{Known, known_after, chunk_shape}
use Rattle.history.specs.Chunks.{Chunk, chunk_in, chunk_index, chunk_of, within_chunk}
use Rattle.history.specs.History.{History}
use Rattle.history.specs.Legal.{HasTarget, is_present, is_present_in, viewed}
use Rattle.history.proofs.Laws.{some_inj}
use Rattle.stack_driver.specs.Targets.{Target}
use Rattle.stack_driver.specs.Views.{targets_of}
use Rattle.stack_driver.specs.declared.error.TargetError.{TargetError}
use Rattle.stack_targets.specs.Buffers.{all_or_first, all_targets, first_and}
use Rattle.stack_targets.specs.declared.error.TargetsError.{TargetsError}
use Rattle.transaction_cells.specs.Operations.{HasSites, KeepsArrays}
use Rattle.transaction_cells.specs.Sites.{Site, sites_of}
use Rattle.transaction_cells.proofs.Laws.{IsSiteIn, known_sites}
use Rattle.transaction_cells.proofs.PlaceLaws.{place-lt}
use Rattle.version_store.specs.Kept.{place_in, IsCellOf}
use Rattle.version_store.specs.Ids.{id_of}
use Rattle.event_replay.specs.Replays.{MayFollow}

-- a cell of a view: its array is known, and it lies in the array's present shape
pub record IsSiteOf (h : History) (s : Site) : Type 0 where
  pub within : IsSiteIn h s
  pub present : is_present h s.target.cell ≡ true

-- targets are those of sites
pub all_present : (h : History) (sites : List Site) → AllByRecursion (IsSiteIn h) sites → AllByRecursion (HasTarget h) (map (λ (s : Site). Ok s.target) sites) → AllByRecursion (IsSiteOf h) sites
all_present h [] known all = tt
all_present h (s ∷ sites) known all = (record { within = known.0; present = all.0 }, all_present h sites known.1 all.1)

-- a cell of an array that is opened now or later is one of an array that is there, where it lies in that one's present shape
module _ (h later : History) (keeps : KeepsArrays h later) where
  site_before : (s : Site) → IsSiteIn later s → IsTrue (is_present h s.target.cell) → IsSiteOf h s
  site_before s within present = by (known_after h s.target.cell.array) refl
    where
      by : (o : Option Known) → known_after h s.target.cell.array ≡ o → IsSiteOf h s
      by None none = absurd (let clash : false ≡ true = sym (ap (λ o. is_present_in o s.target.cell) none) ∙ present in cc)
      by (Some k) is =
          let now = keeps s.target.cell.array k is in
          let same : within.array.info ≡ k.info = ap (λ (m : Known). m.info) (some_inj within.array now.0 (sym within.known ∙ now.1)) ∙ now.2 in
          record {
            within = record {
              array = k;
              known = is;
              rank = within.rank ∙ ap (λ (i : ArrayInfo). length (chunk_shape i)) same;
              shape = subst (λ (i : ArrayInfo). IsChunkShape (chunk_shape i)) same within.shape;
              id = within.id ∙ ap (λ (i : ArrayInfo). s.target.cell.array ∷ chunk_index (chunk_shape i) s.target.cell.index) same;
              place = within.place ∙ ap (λ (i : ArrayInfo). c_place (chunk_shape i) (within_chunk (chunk_shape i) s.target.cell.index)) same;
              size = within.size ∙ ap (λ (i : ArrayInfo). cell_count (chunk_shape i)) same;
            };
            present = present;
          }

  -- so are those of all targets
  pub sites_before : (sites : List Site) → AllByRecursion (IsSiteIn later) sites → AllByRecursion (HasTarget h) (map (λ (s : Site). Ok s.target) sites) → AllByRecursion (IsSiteOf h) sites
  sites_before [] known all = tt
  sites_before (s ∷ sites) known all = (site_before s known.0 all.0, sites_before sites known.1 all.1)

pub sites_of_op : (h : History) (op : Op) → MayFollow h op → HasSites (viewed op) → AllByRecursion (IsSiteOf h) (sites_of (viewed op))
sites_of_op h op may has =
    sites_before h may.leaves.later may.leaves.keeps (sites_of (viewed op)) (known_sites may.leaves.later (viewed op) may.leaves.each has.grids)
    (subst (AllByRecursion (HasTarget h)) has.targets may.legal.targets)

-- where each cell has a target, none is without one
pub none_without : (h : History) (at : ℕ) (rs : List (Result Target TargetError)) (e : TargetsError) → AllByRecursion (HasTarget h) rs → ¬ (all_or_first at rs ≡ Err e)
none_without h at [] e all is = absurd (let no_such : ⊥ = cc in no_such)
none_without h at (Ok t ∷ rs) e all is = by (all_or_first (at + 1) rs) (λ f same. none_without h (at + 1) rs f all.1 same) refl is where
  by : (r : Result (List Target) TargetsError) → ((f : TargetsError) → all_or_first (at + 1) rs ≡ Err f → ⊥) → all_or_first (at + 1) rs ≡ r → first_and t r ≡ Err e → ⊥
  by (Ok ts) never same is = absurd (let no_such : ⊥ = cc in no_such)
  by (Err f) never same is = never f same
none_without h at (Err e ∷ rs) f all is = all.0

pub has_targets : (h : History) (op : Op) → MayFollow h op → (e : TargetsError) → ¬ (all_targets (viewed op) ≡ Err e)
has_targets h op may e = none_without h 0 (targets_of (viewed op)) e may.legal.targets

-- the id of a cell's chunk
pub id_is : (h : History) (s : Site) → IsSiteOf h s → s.id ≡ id_of (chunk_of h s.target.cell)
id_is h s site = site.within.id ∙ sym (ap (λ o. id_of (chunk_in o s.target.cell)) site.within.known)

-- chunks with one id are one
pub one_id : (c d : Chunk) → id_of c ≡ id_of d → c ≡ d
one_id c d same =
    let array : c.array ≡ d.array = cc in
    let index : c.index ≡ d.index = cc in
    λ i. record { array = array i; index = index i }

-- a cell whose chunk has the id of a chunk is one of it, at its place there
pub record IsIn (h : History) (k : Known) (c : Chunk) (s : Site) : Type 0 where
  pub cell : IsCellOf h c s.target.cell
  pub place : s.place ≡ place_in k s.target.cell
  pub size : s.size ≡ cell_count (chunk_shape k.info)

pub is_in_chunk : (h : History) (k : Known) (c : Chunk) (s : Site) → IsSiteOf h s → known_after h c.array ≡ Some k → s.id ≡ id_of c → IsIn h k c s
is_in_chunk h k c s site known same =
    let chunk : chunk_of h s.target.cell ≡ c = one_id (chunk_of h s.target.cell) c (sym (id_is h s site) ∙ same) in
    let heads = sym site.within.id ∙ same in
    let array : s.target.cell.array ≡ c.array = cc in
    let one : site.within.array ≡ k = some_inj site.within.array k (sym site.within.known ∙ ap (known_after h) array ∙ known) in
    record {
      cell = record { chunk = chunk; present = site.present };
      place = site.within.place ∙ ap (λ (b : Known). c_place (chunk_shape b.info) (within_chunk (chunk_shape b.info) s.target.cell.index)) one;
      size = site.within.size ∙ ap (λ (b : Known). cell_count (chunk_shape b.info)) one;
    }

-- each place lies in its chunk, which is small
pub lies_inside : (h : History) (s : Site) → IsSiteOf h s → s.place < s.size
lies_inside h s site =
    let low = place-lt (chunk_shape site.within.array.info) s.target.cell.index site.within.shape site.within.rank in
    let place = site.within.place in
    let size = site.within.size in
    omega (arith, low, place, size)
