-- What a read asks for is met exactly where it is seen.
use Rattle.std.proofs.Common.{◌≡◌, ◌∙◌, ◌<◌, ◌≤◌, ℕ, zero, suc, ◌+◌, List, [], ◌∷◌, length, map, take, get_or, Bool, true, false, cond, Option, Some, None, refl, sym, ap, subst, arith}
use Rattle.std.specs.Prelude.{◌↔◌, Contains, option_map}
use Rattle.std.specs.Global.{Vec}
use Rattle.std.specs.FinMap as finmap
use Rattle.std.specs.List.{AllByRecursion}
use Rattle.std.specs.Str.{bytes_eq}
use Rattle.std.proofs.lemmas.Slice.Eq.{bytes_eq-Decides}
use Rattle.cast_driver.specs.declared.cast.Cast.{Cast}
use Rattle.history.specs.declared.event.Op.{Op}
use Rattle.history.specs.Chunks.{Chunk, chunk_of}
use Rattle.history.specs.Content.{world_after}
use Rattle.history.specs.History.{History}
use Rattle.stack_driver.specs.Targets.{outwards}
use Rattle.stack_driver.specs.declared.view.View.{View}
use Rattle.transaction_cells.specs.Lanes.{LaneSeen}
use Rattle.transaction_cells.specs.Pieces.{ids_of}
use Rattle.transaction_cells.specs.Sites.{Site, sites_of}
use Rattle.transaction_cells.specs.Staging.{StagedChunk, word_in}
use Rattle.transaction_cells.specs.declared.view_cells.Piece.{Piece}
use Rattle.transaction_cells.specs.declared.view_cells.ViewCells.{ViewCells}
use Rattle.version_store.specs.Ids.{id_of, IsChunkIn}
use Rattle.event_replay.specs.declared.demand.AskedPiece.{AskedPiece}
use Rattle.event_replay.specs.declared.demand.Demand.{Demand}
use Rattle.event_replay.specs.Demands.{AreMetFrom, AreOthersIn, AreOwnIn, AreTellingPieces, IsDemandIn, IsMetFrom, IsPieceIn, IsReadIn, IsSeenFrom, IsTellingPiece, TellsSeen}
use Rattle.event_replay.proofs.PieceLaws.{read_sites_of}
use Rattle.event_replay.proofs.SeenLaws.{HasMark, all_shown, others_shown, seen_own, seen_shown}
use Rattle.event_replay.proofs.Sites.{IsSiteOf, id_is}

-- what is told of pieces, one after another
abbrev AreTold : ViewCells → List StagedChunk → List ℕ → List Piece → List AskedPiece → Type 0
AreTold cells staged words [] ps = Unit {0}
AreTold cells staged words (q ∷ qs) [] = ⊥
AreTold cells staged words (q ∷ qs) (p ∷ ps) = IsTellingPiece cells staged words q.id (Some p) × AreTold cells staged words qs ps

all_told : (cells : ViewCells) (staged : List StagedChunk) (words : List ℕ) (qs : List Piece) (ps : List AskedPiece) → length ps ≡ length qs
    → ((i : ℕ) (d : Piece) (e : AskedPiece) → i < length qs → IsTellingPiece cells staged words (get_or qs i d).id (Some (get_or ps i e))) → AreTold cells staged words qs ps
all_told cells staged words [] ps same each = tt
all_told cells staged words (q ∷ qs) [] same each = absurd (omega (arith, same))
all_told cells staged words (q ∷ qs) (p ∷ ps) same each = (each zero q p (omega arith), all_told cells staged words qs ps (omega (arith, same)) (λ i d e low. each (suc i) d e (omega (arith, low))))

module _ (cells : ViewCells) (staged : List StagedChunk) (words : List ℕ) (h : History) (from : ℕ) (ops : List Op) (v : View) (read : IsReadIn h ops v words cells staged) (casts : List (List Cast)) (are : casts ≡ map (λ (lane : LaneSeen). lane.casts) cells.lanes) where
  demand_in : (qs : List Piece) (ps : List AskedPiece) → length ps ≡ length qs → AreTold cells staged words qs ps → AllByRecursion (IsPieceIn h casts) ps
  demand_in [] [] same told = tt
  demand_in [] (p ∷ ps) same told = absurd (omega (arith, same))
  demand_in (q ∷ qs) [] same told = tt
  demand_in (q ∷ qs) (p ∷ ps) same told = (((told.0.1 h ops v read).1 casts are).0, demand_in qs ps (omega (arith, same)) told.1)

  -- where the read is seen, each piece is met at the mark of its chunk
  met_by : (qs : List Piece) (ps : List AskedPiece) → length ps ≡ length qs → AreTold cells staged words qs ps → IsSeenFrom h from ops v words → AllByRecursion (IsMetFrom h from casts) ps
  met_by [] [] same told seen = tt
  met_by [] (p ∷ ps) same told seen = absurd (omega (arith, same))
  met_by (q ∷ qs) [] same told seen = tt
  met_by (q ∷ qs) (p ∷ ps) same told seen =
      let telling = (told.0.1 h ops v read).1 casts are in
      let of = telling.0 in
      let c = of.chunk in
      let there = subst (λ i. IsChunkIn h of.array c i) told.0.0 of.in_history in
      let others = others_shown h ops staged read.own seen.marks c q.id (sites_of v) words there.named (read_sites_of h ops v words cells staged read) ((seen_shown h ops v words cells staged seen.marks read).0 seen.shown) in (
        record { array = of.array; chunk = c; in_history = of.in_history; moment = seen.marks c; shown = record { not_before = seen.not_before c; within = seen.within c; shown = (telling.1 of.array c (seen.marks c) there).0 others } },
        met_by qs ps (omega (arith, same)) told.1 seen,
      )

  -- and back: each chunk of a piece has the moment at which it is met as its mark, any other that from which on
  abbrev moment_of : (ps : List AskedPiece) → AllByRecursion (IsMetFrom h from casts) ps → Chunk → ℕ
  moment_of [] met c = from
  moment_of (p ∷ ps) met c = cond (bytes_eq p.id (id_of c)) met.0.moment (moment_of ps met.1 c)

  not_before : (ps : List AskedPiece) (met : AllByRecursion (IsMetFrom h from casts) ps) (c : Chunk) → from ≤ moment_of ps met c
  not_before [] met c = omega arith
  not_before (p ∷ ps) met c = by (bytes_eq p.id (id_of c)) met.0.shown.not_before (not_before ps met.1 c) where
    by : (b : Bool) → from ≤ met.0.moment → from ≤ moment_of ps met.1 c → from ≤ cond b met.0.moment (moment_of ps met.1 c)
    by true one rest = one
    by false one rest = rest

  within : from ≤ length h → (ps : List AskedPiece) (met : AllByRecursion (IsMetFrom h from casts) ps) (c : Chunk) → moment_of ps met c ≤ length h
  within low [] met c = low
  within low (p ∷ ps) met c = by (bytes_eq p.id (id_of c)) met.0.shown.within (within low ps met.1 c) where
    by : (b : Bool) → met.0.moment ≤ length h → moment_of ps met.1 c ≤ length h → cond b met.0.moment (moment_of ps met.1 c) ≤ length h
    by true one rest = one
    by false one rest = rest

  -- a chunk of a piece shows the others at its mark
  others_at : (qs : List Piece) (ps : List AskedPiece) → length ps ≡ length qs → AreTold cells staged words qs ps → (met : AllByRecursion (IsMetFrom h from casts) ps) (c : Chunk) → Contains (ids_of qs) (id_of c)
      → AreOwnIn staged (id_of c) (sites_of v) words × AreOthersIn (world_after finmap.empty (take (moment_of ps met c) h)) staged (id_of c) (sites_of v) words
  others_at [] ps same told met c there = absurd (omega (arith, there.1))
  others_at (q ∷ qs) [] same told met c there = absurd told
  others_at (q ∷ qs) (p ∷ ps) same told met c there = by (bytes_eq p.id (id_of c)) refl (λ rest. others_at qs ps (omega (arith, same)) told.1 met.1 c rest) there where
    by : (b : Bool) → bytes_eq p.id (id_of c) ≡ b
        → (Contains (ids_of qs) (id_of c) → AreOwnIn staged (id_of c) (sites_of v) words × AreOthersIn (world_after finmap.empty (take (moment_of ps met.1 c) h)) staged (id_of c) (sites_of v) words)
        → Contains (ids_of (q ∷ qs)) (id_of c)
        → AreOwnIn staged (id_of c) (sites_of v) words × AreOthersIn (world_after finmap.empty (take (cond b met.0.moment (moment_of ps met.1 c)) h)) staged (id_of c) (sites_of v) words
    by true is rest here =
        let telling = told.0.1 h ops v read in
        let one : q.id ≡ id_of c = sym told.0.0 ∙ (bytes_eq-Decides p.id (id_of c)).0 is in
        let chunk = subst (λ i. IsChunkIn h met.0.array met.0.chunk i) told.0.0 met.0.in_history in
        subst (λ i. AreOwnIn staged i (sites_of v) words × AreOthersIn (world_after finmap.empty (take met.0.moment h)) staged i (sites_of v) words) one
        (telling.0, ((telling.1 casts are).1 met.0.array met.0.chunk met.0.moment chunk).1 met.0.shown.shown)
    by false is rest (zero, lt, same_id) = absurd (let clash : bytes_eq p.id (id_of c) ≡ true = (bytes_eq-Decides p.id (id_of c)).1 (told.0.0 ∙ same_id) in cc)
    by false is rest (suc n, lt, same_id) = rest (n, omega (arith, lt), same_id)

  -- so each cell has its word
  has_marks : (marks : Chunk → ℕ) (sites : List Site) (ws : List ℕ) → AllByRecursion (IsSiteOf h) sites
      → ((c : Chunk) → (s : Site) → s.id ≡ id_of c → Contains (map (λ (t : Site). t.id) sites) s.id → AreOwnIn staged (id_of c) sites ws × AreOthersIn (world_after finmap.empty (take (marks c) h)) staged (id_of c) sites ws)
      → HasMark h ops staged read.own marks sites ws
  has_marks marks [] ws all each = tt
  has_marks marks (s ∷ sites) [] all each = tt
  has_marks marks (s ∷ sites) (word ∷ ws) all each =
      let c = chunk_of h s.target.cell in
      let named = id_is h s all.0 in
      let at = each c s named (zero, omega arith, refl) in
      let same = (bytes_eq-Decides s.id (id_of c)).1 named in (
        at.0.0 same,
        at.1.0 same,
        has_marks marks sites ws all.1 (λ d t is there. let more = each d t is (suc there.0, omega (arith, there.1), there.2) in (more.0.1, more.1.1)),
      )

  seen_by : from ≤ length h → (qs : List Piece) (ps : List AskedPiece) → length ps ≡ length qs → AreTold cells staged words qs ps → AllByRecursion (λ (s : Site). Contains (ids_of qs) s.id) (sites_of v) → AllByRecursion (IsMetFrom h from casts) ps
      → IsSeenFrom h from ops v words
  seen_by low qs ps same told there met =
      let marks = moment_of ps met in
      record {
        marks = marks;
        not_before = not_before ps met;
        within = within low ps met;
        shown = (seen_shown h ops v words cells staged marks read).1
            (all_shown h ops staged read.own marks (sites_of v) words (read_sites_of h ops v words cells staged read)
            (has_marks marks (sites_of v) words (read_sites_of h ops v words cells staged read)
            (λ c s is in_sites. others_at qs ps same told met c (subst (Contains (ids_of qs)) is (of_site (sites_of v) there s.id in_sites)))));
      }
    where
      of_site : (sites : List Site) → AllByRecursion (λ (s : Site). Contains (ids_of qs) s.id) sites → (id : List ℕ) → Contains (map (λ (t : Site). t.id) sites) id → Contains (ids_of qs) id
      of_site [] all id in_sites = absurd (omega (arith, in_sites.1))
      of_site (t ∷ sites) all id (zero, lt, is) = subst (Contains (ids_of qs)) is all.0
      of_site (t ∷ sites) all id (suc n, lt, is) = of_site sites all.1 id (n, omega (arith, lt), is)

pub tells_seen : (cells : ViewCells) (staged : List StagedChunk) (words : List ℕ) (d : Demand) → d.casts.items ≡ map (λ (lane : LaneSeen). lane.casts) cells.lanes → AreTellingPieces cells staged words (Some d.pieces) → TellsSeen cells staged words (Some d)
tells_seen cells staged words d are told h from ops v low read =
    let all = all_told cells staged words cells.pieces d.pieces.items told.0 told.1 in (
      demand_in cells staged words h from ops v read d.casts.items are cells.pieces d.pieces.items told.0 all,
      (
        met_by cells staged words h from ops v read d.casts.items are cells.pieces d.pieces.items told.0 all,
        seen_by cells staged words h from ops v read d.casts.items are low cells.pieces d.pieces.items told.0 all read.cut.pieces.all,
      ),
    )

pub never_seen : (cells : ViewCells) (staged : List StagedChunk) (words : List ℕ) → AreTellingPieces cells staged words None → TellsSeen cells staged words None
never_seen cells staged words told h from ops v read seen = told h ops v read (λ id. seen_own h from ops v words cells staged id read seen)
