-- An operation that may follow, once its cells are located.
use Rattle.std.proofs.Common.{◌≡◌, ◌∙◌, ◌<◌, get_or, ℕ, suc, List, [], ◌∷◌, ◌++◌, length, Ok, refl, sym, ap, subst, append-nil}
use Rattle.std.specs.FinMap as finmap
use Rattle.std.specs.List.{AllByRecursion}
use Rattle.std.proofs.lemmas.List.{length-map}
use Rattle.std.specs.Prelude.{◌↔◌}
use Rattle.std.proofs.lemmas.List.Elements.{All-get_or, All-from_recursion}
use Rattle.std.proofs.lemmas.List.Concat.{flat_map-append}
use Rattle.cast_driver.specs.declared.cast.Cast.{Cast}
use Rattle.history.specs.declared.event.Op.{Op}
use Rattle.history.specs.declared.event.Op.TheVariants.{Write, Read}
use Rattle.history.specs.History.{History}
use Rattle.history.specs.Content.{world_after}
use Rattle.history.specs.Legal.{AreReads, viewed, words_of}
use Rattle.history.specs.Writes.{Put, puts_of, puts_of_op}
use Rattle.stack_driver.specs.declared.view.View.{View}
use Rattle.stack_targets.specs.Landings.{leaves_of}
use Rattle.transaction_cells.specs.Casting.{casts_at, taken_back}
use Rattle.transaction_cells.specs.Lanes.{LaneSeen}
use Rattle.transaction_cells.specs.Operations.{HasSites}
use Rattle.transaction_cells.specs.Pieces.{AreCells}
use Rattle.transaction_cells.specs.Sites.{Site, sites_of}
use Rattle.transaction_cells.specs.declared.view_cells.ViewCells.{ViewCells}
use Rattle.transaction_cells.proofs.Laws.{alike_in}
use Rattle.version_store.specs.Stores.{IsPartStoreOf}
use Rattle.version_store.specs.declared.store.VersionStore.{VersionStore}
use Rattle.event_replay.specs.Pieces.{CanLocate, ArePut}
use Rattle.event_replay.specs.Replays.{MayFollow, IsBehind, HasItsWords}
use Rattle.event_replay.proofs.PutWords.{kept_words}
use Rattle.event_replay.proofs.Sites.{has_targets}

pub can_locate : (h : History) (op : Op) → MayFollow h op → CanLocate (viewed op)
can_locate h op may = record {
  view = may.view;
  finite = may.legal.finite;
  few = may.few;
  alike = alike_in may.leaves.later (leaves_of (viewed op)) may.leaves.each;
  targets = has_targets h op may;
}

-- there is a word, and a leaf, for each cell
pub word_count : (h : History) (op : Op) → MayFollow h op → HasSites (viewed op) → length (words_of op) ≡ length (sites_of (viewed op))
word_count h op may has = may.legal.count ∙ ap length has.targets ∙ length-map (sites_of (viewed op)) (λ (s : Site). Ok s.target)

pub leaf_count : (v : View) (cells : ViewCells) → AreCells (sites_of v) cells → length cells.leaves ≡ length (sites_of v)
leaf_count v cells are =
    sym (length-map cells.leaves (casts_at cells.lanes)) ∙ sym (ap (λ (xs : List (List Cast)). length xs) are.casts) ∙ length-map (sites_of v) (λ (s : Site). s.target.casts)

taken_count : (lanes : List LaneSeen) (leaves words : List ℕ) → length words ≡ length leaves → length (taken_back lanes leaves words) ≡ length leaves
taken_count lanes [] words same = refl
taken_count lanes (leaf ∷ leaves) [] same = absurd (let no_such : ⊥ = cc in no_such)
taken_count lanes (leaf ∷ leaves) (word ∷ words) same = ap suc (taken_count lanes leaves words (let rest : length words ≡ length leaves = cc in rest))

-- the words of a Write, once they are taken back, may be put piece by piece
pub write_put : (h : History) (number : ℕ) (done : List Op) (v : View) (words kept : List ℕ) (cells : ViewCells) (s : VersionStore) → IsBehind h number done s → MayFollow h (Write v words) → HasSites v → AreCells (sites_of v) cells
    → kept ≡ taken_back cells.lanes cells.leaves words → ArePut h number (puts_of done) v words kept cells.pieces s
write_put h number done v words kept cells s behind may has are is =
    let count = word_count h (Write v words) may has in
    let leaves = leaf_count v cells are in
    record {
      put = record {
        legal = behind.legal;
        next = behind.next;
        part = behind.kept;
        may = may;
        sites = has;
        count = count;
        taken = kept_words cells.lanes kept 0 cells.leaves (sites_of v) words are.casts is;
        whole = ap (λ (xs : List ℕ). length xs) is ∙ taken_count cells.lanes cells.leaves words (count ∙ sym leaves) ∙ leaves;
      };
      cut = are.pieces;
    }

puts_more_op : (done : List Op) (op : Op) → puts_of done ++ puts_of_op op ≡ puts_of (done ++ op ∷ [])
puts_more_op done op = ap (λ (l : List Put). puts_of done ++ l) (sym (append-nil (puts_of_op op))) ∙ sym (flat_map-append puts_of_op done (op ∷ []))

-- what is kept is behind one operation more
pub behind_more : (h : History) (number : ℕ) (done : List Op) (op : Op) (s t : VersionStore) → IsBehind h number done s → IsPartStoreOf h (puts_of done ++ puts_of_op op) t → IsBehind h number (done ++ op ∷ []) t
behind_more h number done op s t behind part = record {
  legal = behind.legal;
  next = behind.next;
  kept = subst (λ (ps : List Put). IsPartStoreOf h ps t) (puts_more_op done op) part;
}

-- a Read puts nothing
pub behind_read : (h : History) (number : ℕ) (done : List Op) (v : View) (words : List ℕ) (s : VersionStore) → IsBehind h number done s → IsBehind h number (done ++ Read v words ∷ []) s
behind_read h number done v words s behind = behind_more h number done (Read v words) s s behind (subst (λ (ps : List Put). IsPartStoreOf h ps s) (sym (append-nil (puts_of done))) behind.kept)

-- a Read that is right leaves the others to be right, and one that isn't is wrong among all
pub reads_step : (h : History) (done : List Op) (op : Op) (ops : List Op) → HasItsWords h done op → AreReads (world_after finmap.empty h) done (op ∷ ops) ↔ AreReads (world_after finmap.empty h) (done ++ op ∷ []) ops
reads_step h done (Write v words) ops has = (λ x. x, λ x. x)
reads_step h done (Read v words) ops has = (λ x. x.1, λ x. (has, x))

pub first_right : (h : History) (done : List Op) (op : Op) (ops : List Op) → AreReads (world_after finmap.empty h) done (op ∷ ops) → HasItsWords h done op
first_right h done (Write v words) ops all = tt
first_right h done (Read v words) ops all = all.0

-- one of the operations
pub op_at : (h : History) (ops : List Op) (i : ℕ) (op : Op) → AllByRecursion (MayFollow h) ops → i < length ops → op ≡ get_or ops i op → MayFollow h op
op_at h ops i op all low is = subst (MayFollow h) (sym is) (All-get_or (MayFollow h) ops i op low (All-from_recursion (MayFollow h) ops all))
