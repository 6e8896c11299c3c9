-- A read is seen where its own words are shown, and each chunk shows the others at a moment.
use Rattle.std.proofs.Common.{◌≡◌, ◌∙◌, ◌<◌, ◌≤◌, ℕ, zero, suc, ◌+◌, List, [], ◌∷◌, ◌++◌, length, map, take, get_or, Bool, true, false, cond, Option, Some, None, Ok, refl, sym, ap, subst, arith}
use Rattle.std.specs.Prelude.{◌↔◌, Contains, option_map}
use Rattle.std.specs.FinMap as finmap
use Rattle.std.specs.List.{AllByRecursion}
use Rattle.std.specs.Str.{bytes_eq}
use Rattle.std.proofs.lemmas.Slice.Eq.{bytes_eq-Decides}
use Rattle.history.specs.declared.event.Op.{Op}
use Rattle.history.specs.Arrays.{Known, known_after, chunk_shape}
use Rattle.history.specs.Chunks.{Chunk, chunk_index, chunk_of, within_chunk}
use Rattle.history.specs.Content.{world_after}
use Rattle.history.specs.History.{History}
use Rattle.history.specs.Reads.{marked_world, visible_values}
use Rattle.history.specs.Targets.{Cell}
use Rattle.history.specs.Writes.{Content, puts_of, shown_in, written}
use Rattle.history.proofs.Laws.{else_word, last_put, written-is}
use Rattle.stack_driver.specs.Targets.{outwards}
use Rattle.stack_driver.specs.declared.view.View.{View}
use Rattle.transaction_cells.specs.Operations.{AreStaged, no_content, word_at}
use Rattle.transaction_cells.specs.Sites.{Site, sites_of}
use Rattle.transaction_cells.specs.Staging.{StagedChunk, word_in}
use Rattle.transaction_cells.specs.declared.view_cells.ViewCells.{ViewCells}
use Rattle.version_store.specs.Ids.{id_of}
use Rattle.event_replay.specs.Demands.{AreOthersIn, AreOwnIn, IsReadIn, IsSeenFrom}
use Rattle.event_replay.specs.Placed.{AreShown, IsShownAt}
use Rattle.event_replay.proofs.PieceLaws.{read_sites_of}
use Rattle.event_replay.proofs.ShownWords.{shown_words}
use Rattle.event_replay.proofs.Sites.{IsSiteOf, id_is, one_id}

module _ (h : History) (ops : List Op) (staged : List StagedChunk) (own : AreStaged h ops staged) where
  -- what is staged at a cell is what the operations put there last
  last_at : (s : Site) → IsSiteOf h s → word_in staged s.id s.place ≡ last_put (puts_of ops) s.target.cell
  last_at s site =
      let k = site.within.array in
      let x = s.target.cell in
      (λ i. word_in staged (site.within.id i) (site.within.place i))
      ∙ own.words x k site.within.known site.within.rank
      ∙ written-is ops no_content x
      ∙ or_none (last_put (puts_of ops) x)
    where
      or_none : (o : Option ℕ) → else_word o None ≡ o
      or_none None = refl
      or_none (Some w) = refl

  -- a cell that no word covers has that of the content, and any other its own
  bare_cell : (content : Content) (s : Site) → IsSiteOf h s → word_in staged s.id s.place ≡ None → written ops content s.target.cell ≡ content s.target.cell
  bare_cell content s site none = written-is ops content s.target.cell ∙ ap (λ o. else_word o (content s.target.cell)) (sym (last_at s site) ∙ none)

  own_cell : (content : Content) (s : Site) (w : ℕ) → IsSiteOf h s → word_in staged s.id s.place ≡ Some w → written ops content s.target.cell ≡ Some w
  own_cell content s w site some = written-is ops content s.target.cell ∙ ap (λ o. else_word o (content s.target.cell)) (sym (last_at s site) ∙ some)

  -- where all cells are shown, so are the own ones, and the others by the content
  pub own_shown : (content : Content) (id : List ℕ) (sites : List Site) (words : List ℕ) → AllByRecursion (IsSiteOf h) sites → AreShown (written ops content) sites words → AreOwnIn staged id sites words
  own_shown content id [] words all shown = tt
  own_shown content id (s ∷ sites) [] all shown = tt
  own_shown content id (s ∷ sites) (word ∷ words) all shown = (
    λ same w there. some_is (ap (option_map (outwards s.target.casts)) (sym (own_cell content s w all.0 there)) ∙ shown.0),
    own_shown content id sites words all.1 shown.1,
  )
    where
      some_is : {a b : ℕ} → Some a ≡ Some b → a ≡ b
      some_is e = cc

  pub others_shown : (marks : Chunk → ℕ) (c : Chunk) (id : List ℕ) (sites : List Site) (words : List ℕ) → id ≡ id_of c → AllByRecursion (IsSiteOf h) sites → AreShown (written ops (marked_world finmap.empty h marks)) sites words
      → AreOthersIn (world_after finmap.empty (take (marks c) h)) staged id sites words
  others_shown marks c id [] words named all shown = tt
  others_shown marks c id (s ∷ sites) [] named all shown = tt
  others_shown marks c id (s ∷ sites) (word ∷ words) named all shown = (
    λ same none.
        let chunk : chunk_of h s.target.cell ≡ c = one_id (chunk_of h s.target.cell) c (sym (id_is h s all.0) ∙ (bytes_eq-Decides s.id id).0 same ∙ named) in
        ap (λ d. option_map (outwards s.target.casts) (world_after finmap.empty (take (marks d) h) s.target.cell)) (sym chunk)
        ∙ ap (option_map (outwards s.target.casts)) (sym (bare_cell (marked_world finmap.empty h marks) s all.0 none))
        ∙ shown.0,
    others_shown marks c id sites words named all.1 shown.1,
  )

  -- and back: where the own cells are shown, and each other one at the mark of its chunk
  abbrev pub HasMark : (Chunk → ℕ) → List Site → List ℕ → Type 0
  HasMark marks [] words = Unit {0}
  HasMark marks (s ∷ sites) [] = Unit {0}
  HasMark marks (s ∷ sites) (word ∷ words) =
      ((w : ℕ) → word_in staged s.id s.place ≡ Some w → outwards s.target.casts w ≡ word)
      × (word_in staged s.id s.place ≡ None → option_map (outwards s.target.casts) (world_after finmap.empty (take (marks (chunk_of h s.target.cell)) h) s.target.cell) ≡ Some word) × HasMark marks sites words

  pub all_shown : (marks : Chunk → ℕ) (sites : List Site) (words : List ℕ) → AllByRecursion (IsSiteOf h) sites → HasMark marks sites words → AreShown (written ops (marked_world finmap.empty h marks)) sites words
  all_shown marks [] words all has = tt
  all_shown marks (s ∷ sites) [] all has = tt
  all_shown marks (s ∷ sites) (word ∷ words) all has = (by (word_in staged s.id s.place) refl, all_shown marks sites words all.1 has.2) where
    by : (o : Option ℕ) → word_in staged s.id s.place ≡ o → IsShownAt (written ops (marked_world finmap.empty h marks)) s word
    by (Some w) is = ap (option_map (outwards s.target.casts)) (own_cell (marked_world finmap.empty h marks) s w all.0 is) ∙ ap Some (has.0 w is)
    by None is = ap (option_map (outwards s.target.casts)) (bare_cell (marked_world finmap.empty h marks) s all.0 is) ∙ has.1 is

-- the words of a read are those that its marks show
pub seen_shown : (h : History) (ops : List Op) (v : View) (words : List ℕ) (cells : ViewCells) (staged : List StagedChunk) (marks : Chunk → ℕ) → IsReadIn h ops v words cells staged
    → (map Some words ≡ visible_values finmap.empty h marks ops v) ↔ AreShown (written ops (marked_world finmap.empty h marks)) (sites_of v) words
seen_shown h ops v words cells staged marks read =
    subst (λ ts. (map Some words ≡ map (shown_in (written ops (marked_world finmap.empty h marks))) ts) ↔ AreShown (written ops (marked_world finmap.empty h marks)) (sites_of v) words) (sym read.sites.targets)
    (shown_words (written ops (marked_world finmap.empty h marks)) (sites_of v) words read.count)

-- where a view shows its words, its own ones are shown
pub seen_own : (h : History) (from : ℕ) (ops : List Op) (v : View) (words : List ℕ) (cells : ViewCells) (staged : List StagedChunk) (id : List ℕ) → IsReadIn h ops v words cells staged → IsSeenFrom h from ops v words → AreOwnIn staged id (sites_of v) words
seen_own h from ops v words cells staged id read seen =
    own_shown h ops staged read.own (marked_world finmap.empty h seen.marks) id (sites_of v) words (read_sites_of h ops v words cells staged read) ((seen_shown h ops v words cells staged seen.marks read).0 seen.shown)
