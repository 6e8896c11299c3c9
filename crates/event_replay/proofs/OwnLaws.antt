-- The cells of a piece that own Writes cover, and the others.
use Rattle.std.proofs.Common.{◌≡◌, ◌∙◌, ◌<◌, ℕ, ◌+◌, List, [], ◌∷◌, length, map, take, get_or, Bool, true, false, cond, Option, Some, None, unwrap_or, refl, sym, ap, subst}
use Rattle.std.specs.Prelude.{◌↔◌, option_map, slice_index}
use Rattle.std.specs.FinMap as finmap
use Rattle.std.specs.List.{AllByRecursion}
use Rattle.std.specs.Str.{bytes_eq}
use Rattle.std.proofs.lemmas.Slice.Eq.{bytes_eq-Decides}
use Rattle.cast_driver.specs.declared.cast.Cast.{Cast}
use Rattle.chunk_versions.specs.declared.asked.AskedCell.{AskedCell}
use Rattle.history.specs.Arrays.{Known, known_after}
use Rattle.history.specs.Chunks.{Chunk}
use Rattle.history.specs.Content.{world_after}
use Rattle.history.specs.History.{History}
use Rattle.rebase_writes.specs.Staged.{staged_at}
use Rattle.stack_driver.specs.Targets.{outwards}
use Rattle.transaction_cells.specs.Sites.{Site, pairs_at}
use Rattle.transaction_cells.specs.StagedWords.{word_of_pair}
use Rattle.transaction_cells.specs.Staging.{StagedChunk, staged_of, word_in}
use Rattle.version_store.specs.Shown.{AreShownThen}
use Rattle.version_store.specs.Ids.{id_of}
use Rattle.event_replay.specs.Demands.{AreCovered, AreOthersIn, AreOwnIn, bare, cell_of}
use Rattle.event_replay.specs.Placed.{asked_cell}
use Rattle.event_replay.proofs.ShownWords.{AreAsked, cell_found}
use Rattle.event_replay.proofs.Sites.{IsSiteOf}

-- what holds of all cells holds of those that no word covers
pub bare_all : (P : AskedCell → Type 0) (asked : List AskedCell) (own : List (Option ℕ)) → AllByRecursion P asked → AllByRecursion P (bare asked own)
bare_all P [] own all = tt
bare_all P (a ∷ asked) [] all = tt
bare_all P (a ∷ asked) (None ∷ own) all = (all.0, bare_all P asked own all.1)
bare_all P (a ∷ asked) (Some word ∷ own) all = bare_all P asked own all.1

module _ (id leaves all : List ℕ) (casts : List (List Cast)) (staged : List StagedChunk) where
  abbrev cells : List (Option ℕ)
  cells = unwrap_or (staged_of staged id) []

  abbrev asked_at : ℕ → List Site → List AskedCell
  asked_at at sites = map (asked_cell leaves all) (pairs_at id at sites)

  abbrev own_at : ℕ → List Site → List (Option ℕ)
  own_at at sites = map (word_of_pair cells) (pairs_at id at sites)

  same_word : (s : Site) → s.id ≡ id → word_in staged s.id s.place ≡ staged_at cells s.place
  same_word s same = ap (λ i. staged_at (unwrap_or (staged_of staged i) []) s.place) same

  -- the words that cover cells are shown where each own word is
  pub own_of_piece : (at : ℕ) (sites : List Site) (words : List ℕ) → AreAsked leaves all casts at sites words → AreCovered casts (asked_at at sites) (own_at at sites) ↔ AreOwnIn staged id sites words
  own_of_piece at [] words asked = (λ x. tt, λ x. tt)
  own_of_piece at (s ∷ sites) [] asked = absurd asked
  own_of_piece at (s ∷ sites) (word ∷ words) asked = by (bytes_eq s.id id) refl (own_of_piece (at + 1) sites words asked.3) where
    one : AskedCell
    one = asked_cell leaves all (record { view = at; chunk = s.place })

    told : (o : Option ℕ) → word_in staged s.id s.place ≡ o → (AreCovered casts (asked_at (at + 1) sites) (own_at (at + 1) sites) ↔ AreOwnIn staged id sites words)
        → AreCovered casts (one ∷ asked_at (at + 1) sites) (o ∷ own_at (at + 1) sites)
        ↔ ((true ≡ true → (own : ℕ) → word_in staged s.id s.place ≡ Some own → outwards s.target.casts own ≡ word) × AreOwnIn staged id sites words)
    told None is rest = (λ x. (λ e own there. absurd (let clash = sym is ∙ there in cc), rest.0 x), λ y. rest.1 y.1)
    told (Some w) is rest = (
      λ x. (λ e own there. (let same : w ≡ own = (let both = sym is ∙ there in cc) in ap (outwards s.target.casts) (sym same) ∙ ap (λ cs. outwards cs w) (sym asked.2) ∙ x.0 ∙ asked.0), rest.0 x.1),
      λ y. (ap (λ cs. outwards cs w) asked.2 ∙ y.0 refl w is ∙ sym asked.0, rest.1 y.1),
    )

    by : (b : Bool) → bytes_eq s.id id ≡ b → (AreCovered casts (asked_at (at + 1) sites) (own_at (at + 1) sites) ↔ AreOwnIn staged id sites words)
        → AreCovered casts (map (asked_cell leaves all) (cond b (record { view = at; chunk = s.place } ∷ pairs_at id (at + 1) sites) (pairs_at id (at + 1) sites)))
        (map (word_of_pair cells) (cond b (record { view = at; chunk = s.place } ∷ pairs_at id (at + 1) sites) (pairs_at id (at + 1) sites)))
        ↔ ((b ≡ true → (own : ℕ) → word_in staged s.id s.place ≡ Some own → outwards s.target.casts own ≡ word) × AreOwnIn staged id sites words)
    by true is rest = told (staged_at cells s.place) (same_word s ((bytes_eq-Decides s.id id).0 is)) rest
    by false is rest = (λ x. (λ e. absurd (let no_such : ⊥ = cc in no_such), rest.0 x), λ y. rest.1 y.1)

  -- and the others where they were there
  pub others_of_piece : (h : History) (k : Known) (c : Chunk) (m : ℕ) → id ≡ id_of c → known_after h c.array ≡ Some k → (at : ℕ) (sites : List Site) (words : List ℕ) → AllByRecursion (IsSiteOf h) sites → AreAsked leaves all casts at sites words
      → AreOthersIn (world_after finmap.empty (take m h)) staged id sites words ↔ AreShownThen h casts (cell_of k c) m (bare (asked_at at sites) (own_at at sites))
  others_of_piece h k c m named known at [] words all_in asked = (λ x. tt, λ x. tt)
  others_of_piece h k c m named known at (s ∷ sites) [] all_in asked = absurd asked
  others_of_piece h k c m named known at (s ∷ sites) (word ∷ words) all_in asked = by (bytes_eq s.id id) refl (others_of_piece h k c m named known (at + 1) sites words all_in.1 asked.3) where
    one : AskedCell
    one = asked_cell leaves all (record { view = at; chunk = s.place })

    told : (o : Option ℕ) → s.id ≡ id → word_in staged s.id s.place ≡ o → (AreOthersIn (world_after finmap.empty (take m h)) staged id sites words ↔ AreShownThen h casts (cell_of k c) m (bare (asked_at (at + 1) sites) (own_at (at + 1) sites)))
        → ((true ≡ true → word_in staged s.id s.place ≡ None → option_map (outwards s.target.casts) (world_after finmap.empty (take m h) s.target.cell) ≡ Some word) × AreOthersIn (world_after finmap.empty (take m h)) staged id sites words)
        ↔ AreShownThen h casts (cell_of k c) m (bare (one ∷ asked_at (at + 1) sites) (o ∷ own_at (at + 1) sites))
    told (Some w) same is rest = (λ x. rest.0 x.1, λ y. (λ e none. absurd (let clash = sym is ∙ none in cc), rest.1 y))
    told None same is rest =
        let here = cell_found h k c s one all_in.0 known (same ∙ named) refl in
        let shown : option_map (outwards (get_or casts (slice_index leaves at) [])) (world_after finmap.empty (take m h) (cell_of k c one)) ≡ option_map (outwards s.target.casts) (world_after finmap.empty (take m h) s.target.cell) =
        (λ i. option_map (outwards (asked.2 i)) (world_after finmap.empty (take m h) (here i))) in (
          λ x. (shown ∙ x.0 refl is ∙ ap Some (sym asked.0), rest.0 x.1),
          λ y. (λ e none. sym shown ∙ y.0 ∙ ap Some asked.0, rest.1 y.1),
        )

    by : (b : Bool) → bytes_eq s.id id ≡ b → (AreOthersIn (world_after finmap.empty (take m h)) staged id sites words ↔ AreShownThen h casts (cell_of k c) m (bare (asked_at (at + 1) sites) (own_at (at + 1) sites)))
        → ((b ≡ true → word_in staged s.id s.place ≡ None → option_map (outwards s.target.casts) (world_after finmap.empty (take m h) s.target.cell) ≡ Some word) × AreOthersIn (world_after finmap.empty (take m h)) staged id sites words)
        ↔ AreShownThen h casts (cell_of k c) m (bare (map (asked_cell leaves all) (cond b (record { view = at; chunk = s.place } ∷ pairs_at id (at + 1) sites) (pairs_at id (at + 1) sites)))
        (map (word_of_pair cells) (cond b (record { view = at; chunk = s.place } ∷ pairs_at id (at + 1) sites) (pairs_at id (at + 1) sites))))
    by true is rest = let same = (bytes_eq-Decides s.id id).0 is in told (staged_at cells s.place) same (same_word s same) rest
    by false is rest = (λ x. rest.0 x.1, λ y. (λ e. absurd (let no_such : ⊥ = cc in no_such), rest.1 y))
