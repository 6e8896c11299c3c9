use Rattle.std.proofs.Common.{◌≡◌, ◌∙◌, ◌<◌, ◌^◌, ℕ, List, length, map, get_or, Option, Some, None, refl, sym, ap, subst}
use Rattle.std.specs.FinMap as finmap
use Rattle.std.specs.Global.{Vec}
use Rattle.std.specs.Prelude.{All, ◌↔◌, take}
use Rattle.std.specs.List.{AllByRecursion, flat_map}
use Rattle.std.proofs.lemmas.List.{get_or_default, length-map}
use Rattle.cast_driver.specs.declared.cast.Cast.{Cast}
use Rattle.cells.specs.Runs.{IsRunInside, pairs_of}
use Rattle.cells.specs.declared.run.Run.{Run}
use Rattle.chunk_versions.specs.declared.asked.AskedCell.{AskedCell}
use Rattle.history.specs.Content.{world_after}
use Rattle.version_store.specs.Shown.{AreShownThen}
use Rattle.transaction_cells.specs.Lanes.{LaneSeen}
use Rattle.transaction_cells.specs.Pieces.{IsPiece}
use Rattle.transaction_cells.specs.Sites.{sites_of}
use Rattle.transaction_cells.specs.StagedWords.{staged_words, word_of_pair}
use Rattle.transaction_cells.specs.Staging.{CanStage}
use Rattle.transaction_cells.specs.declared.view_cells.Piece.{Piece}
use Rattle.transaction_cells.proofs.Laws.{can_stage}
use Rattle.event_replay.specs.declared.demand.AskedPiece.{AskedPiece}
use Rattle.event_replay.specs.Demands.{AreCovered, AreOthersIn, AreOwnIn, IsBareOf, IsPieceIn, IsTellingPiece, bare, cell_of}
use Rattle.event_replay.specs.Placed.{asked_cell}
use Rattle.event_replay.proofs.OpLaws.{leaf_count}
use Rattle.event_replay.proofs.PieceLaws.{asked_there, asked_runs, asked_lanes, covered_own, shown_others, piece_in, lane_casts}
use Rattle.event_replay.proofs.PutLaws.{piece_of_all}
use Rattle.event_replay.proofs.demanding.asked_piece.Goals as goal

pub words_at-requires-clause-cells : goal.words_at-requires-clause-cells
words_at-requires-clause-cells c =
    let h = c.requires.read.0 in
    let ops = c.requires.read.1 in
    let v = c.requires.read.2 in
    let read = c.requires.read.3 in
    subst (λ n. CanStage c.args.staging.now c.args.cells.now n) (sym (leaf_count v c.args.cells.now read.cut)) (can_stage h v ops c.args.staging.now c.args.cells.now read.leaves read.sites read.cut read.own)

pub asked_cells-requires-clause-runs : goal.asked_cells-requires-clause-runs
asked_cells-requires-clause-runs c =
    let v = c.requires.read.2 in
    let read = c.requires.read.3 in
    let p = c.piece_at-piece.result.now in
    let is : p ≡ get_or c.args.cells.now.pieces c.args.at p = c.piece_at-piece.ensures p ∙ ap (λ (ps : List Piece). get_or ps c.args.at p) c.items.ensures in
    let piece = piece_of_all (sites_of v) c.args.cells.now.pieces c.args.at p read.cut.pieces.each c.requires.at is in
    subst (λ (rs : List Run). AllByRecursion (λ run. IsRunInside run (length c.args.words.now) (2 ^ 24)) rs) (sym c.items-2.ensures)
    (asked_runs c.requires.read.0 c.requires.read.1 v c.args.words.now c.args.cells.now c.args.staging.now read p piece)

pub asked_cells-requires-clause-leaves : goal.asked_cells-requires-clause-leaves
asked_cells-requires-clause-leaves c =
    let read = c.requires.read.3 in
    leaf_count c.requires.read.2 c.args.cells.now read.cut ∙ sym read.count

pub bare_cells-requires-clause-same : goal.bare_cells-requires-clause-same
bare_cells-requires-clause-same c =
    let p = c.piece_at-piece.result.now in
    let is : p ≡ get_or c.args.cells.now.pieces c.args.at p = c.piece_at-piece.ensures p ∙ ap (λ (ps : List Piece). get_or ps c.args.at p) c.items.ensures in
    let own : c.deref-2.result.now ≡ staged_words c.args.staging.now p = c.deref-2.ensures.value ∙ c.in_ok-own.ensures p ∙ ap (staged_words c.args.staging.now) (sym is) in
    let asked : c.deref.result.now ≡ map (asked_cell c.args.cells.now.leaves c.args.words.now) (flat_map pairs_of p.runs) =
    c.deref.ensures.value ∙ c.in_ok-asked.ensures ∙ (λ i. map (asked_cell c.args.cells.now.leaves c.args.words.now) (flat_map pairs_of (c.items-2.ensures i))) in
    ap (λ (os : List (Option ℕ)). length os) own ∙ length-map (flat_map pairs_of p.runs) _ ∙ sym (length-map (flat_map pairs_of p.runs) _) ∙ sym (ap (λ (ass : List AskedCell). length ass) asked)

pub bare_cells-requires-clause-lanes : goal.bare_cells-requires-clause-lanes
bare_cells-requires-clause-lanes c =
    let v = c.requires.read.2 in
    let read = c.requires.read.3 in
    let p = c.piece_at-piece.result.now in
    let is : p ≡ get_or c.args.cells.now.pieces c.args.at p = c.piece_at-piece.ensures p ∙ ap (λ (ps : List Piece). get_or ps c.args.at p) c.items.ensures in
    let piece = piece_of_all (sites_of v) c.args.cells.now.pieces c.args.at p read.cut.pieces.each c.requires.at is in
    let asked : c.deref.result.now ≡ asked_there c.requires.read.0 c.requires.read.1 v c.args.words.now c.args.cells.now c.args.staging.now read p piece =
    c.deref.ensures.value ∙ c.in_ok-asked.ensures ∙ (λ i. map (asked_cell c.args.cells.now.leaves c.args.words.now) (flat_map pairs_of (c.items-2.ensures i))) in
    subst (λ (cells : List AskedCell). All (λ (a : AskedCell). a.leaf < length c.items-3.result.now) cells) (sym asked)
    (subst (λ (lanes : List LaneSeen). All (λ (a : AskedCell). a.leaf < length lanes) (asked_there c.requires.read.0 c.requires.read.1 v c.args.words.now c.args.cells.now c.args.staging.now read p piece)) (sym c.items-3.ensures)
    (asked_lanes c.requires.read.0 c.requires.read.1 v c.args.words.now c.args.cells.now c.args.staging.now read p piece))

pub returns-in-Some : goal.returns-in-Some
returns-in-Some c = λ d.
    let p = c.piece_at-piece.result.now in
    let is : p ≡ get_or c.args.cells.now.pieces c.args.at p = c.piece_at-piece.ensures p ∙ ap (λ (ps : List Piece). get_or ps c.args.at p) c.items.ensures in
    let same : p ≡ get_or c.args.cells.now.pieces c.args.at d = is ∙ get_or_default c.args.cells.now.pieces c.args.at p d c.requires.at in
    let own : c.deref-2.result.now ≡ staged_words c.args.staging.now p = c.deref-2.ensures.value ∙ c.in_ok-own.ensures p ∙ ap (staged_words c.args.staging.now) (sym is) in
    let asked : c.deref.result.now ≡ map (asked_cell c.args.cells.now.leaves c.args.words.now) (flat_map pairs_of p.runs) =
    c.deref.ensures.value ∙ c.in_ok-asked.ensures ∙ (λ i. map (asked_cell c.args.cells.now.leaves c.args.words.now) (flat_map pairs_of (c.items-2.ensures i))) in
    let told = subst (λ (found : Option (Vec AskedCell)). IsBareOf (map (λ (lane : LaneSeen). lane.casts) c.items-3.result.now) c.deref.result.now c.deref-2.result.now found) c.in-Some.is c.in_ok-asked-2.ensures in
    let rest = subst (λ (lanes : List LaneSeen). IsBareOf (map (λ (lane : LaneSeen). lane.casts) lanes) (map (asked_cell c.args.cells.now.leaves c.args.words.now) (flat_map pairs_of p.runs)) (staged_words c.args.staging.now p) (Some c.in-Some.asked)) c.items-3.ensures
    (subst (λ (ass : List AskedCell). IsBareOf (map (λ (lane : LaneSeen). lane.casts) c.items-3.result.now) ass (staged_words c.args.staging.now p) (Some c.in-Some.asked)) asked
    (subst (λ (os : List (Option ℕ)). IsBareOf (map (λ (lane : LaneSeen). lane.casts) c.items-3.result.now) c.deref.result.now os (Some c.in-Some.asked)) own told)) in
    let id = c.in_ok-id-in-Some.ensures ∙ c.items-in-Some.ensures in
    subst (λ (q : Piece). IsTellingPiece c.args.cells.now c.args.staging.now c.args.words.now q.id (Some (record { id = c.in_ok-id-in-Some.id; asked = c.in-Some.asked }))) same (
      id,
      λ h ops v read.
          let piece = piece_of_all (sites_of v) c.args.cells.now.pieces c.args.at p read.cut.pieces.each c.requires.at is in (
            (covered_own h ops v c.args.words.now c.args.cells.now c.args.staging.now read p piece).0 rest.1,
            λ casts are. (
              subst (λ (cs : List (List Cast)). IsPieceIn h cs (record { id = c.in_ok-id-in-Some.id; asked = c.in-Some.asked })) (sym are) (piece_in h ops v c.args.words.now c.args.cells.now c.args.staging.now read p piece (record { id = c.in_ok-id-in-Some.id; asked = c.in-Some.asked }) id rest.0),
              λ k chunk m there.
                  subst (λ (ass : List AskedCell). AreOthersIn (world_after finmap.empty (take m h)) c.args.staging.now p.id (sites_of v) c.args.words.now ↔ AreShownThen h casts (cell_of k chunk) m ass) (sym rest.0)
                  (subst (λ (cs : List (List Cast)). AreOthersIn (world_after finmap.empty (take m h)) c.args.staging.now p.id (sites_of v) c.args.words.now ↔ AreShownThen h cs (cell_of k chunk) m (bare (map (asked_cell c.args.cells.now.leaves c.args.words.now) (flat_map pairs_of p.runs)) (staged_words c.args.staging.now p))) (sym are)
                  (shown_others h ops v c.args.words.now c.args.cells.now c.args.staging.now read p piece k chunk m there)),
            ),
          ),
    )

pub returns : goal.returns
returns c = λ d h ops v read all.
    let p = c.piece_at-piece.result.now in
    let is : p ≡ get_or c.args.cells.now.pieces c.args.at p = c.piece_at-piece.ensures p ∙ ap (λ (ps : List Piece). get_or ps c.args.at p) c.items.ensures in
    let same : p ≡ get_or c.args.cells.now.pieces c.args.at d = is ∙ get_or_default c.args.cells.now.pieces c.args.at p d c.requires.at in
    let own : c.deref-2.result.now ≡ staged_words c.args.staging.now p = c.deref-2.ensures.value ∙ c.in_ok-own.ensures p ∙ ap (staged_words c.args.staging.now) (sym is) in
    let asked : c.deref.result.now ≡ map (asked_cell c.args.cells.now.leaves c.args.words.now) (flat_map pairs_of p.runs) =
    c.deref.ensures.value ∙ c.in_ok-asked.ensures ∙ (λ i. map (asked_cell c.args.cells.now.leaves c.args.words.now) (flat_map pairs_of (c.items-2.ensures i))) in
    let told = subst (λ (found : Option (Vec AskedCell)). IsBareOf (map (λ (lane : LaneSeen). lane.casts) c.items-3.result.now) c.deref.result.now c.deref-2.result.now found) c.in-None.is c.in_ok-asked-2.ensures in
    let rest = subst (λ (lanes : List LaneSeen). ¬ AreCovered (map (λ (lane : LaneSeen). lane.casts) lanes) (map (asked_cell c.args.cells.now.leaves c.args.words.now) (flat_map pairs_of p.runs)) (staged_words c.args.staging.now p)) c.items-3.ensures
    (subst (λ (ass : List AskedCell). ¬ AreCovered (map (λ (lane : LaneSeen). lane.casts) c.items-3.result.now) ass (staged_words c.args.staging.now p)) asked
    (subst (λ (os : List (Option ℕ)). ¬ AreCovered (map (λ (lane : LaneSeen). lane.casts) c.items-3.result.now) c.deref.result.now os) own told)) in
    let piece = piece_of_all (sites_of v) c.args.cells.now.pieces c.args.at p read.cut.pieces.each c.requires.at is in
    rest ((covered_own h ops v c.args.words.now c.args.cells.now c.args.staging.now read p piece).1 (subst (λ (q : Piece). AreOwnIn c.args.staging.now q.id (sites_of v) c.args.words.now) (sym same) all))
