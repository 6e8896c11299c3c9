-- What a read waits for tells whether its words are seen.
use Rattle.std.proofs.Common.{◌≡◌, ◌∙◌, ◌≤◌, ◌<◌, ℕ, List, [], length, take, Option, Some, None, Ok, refl, sym, ap, subst, arith, length-take}
use Rattle.std.specs.Prelude.{count_by}
use Rattle.std.specs.FinMap as finmap
use Rattle.std.proofs.lemmas.List.{length-map}
use Rattle.line_fits.specs.Demands.{IsReadIn, TellsSeen}
use Rattle.line_fits.specs.Pieces.{CanLocate}
use Rattle.line_fits.specs.declared.Demand.{Demand}
use Rattle.line_fits.proofs.Laws.{can_locate_view}
use Rattle.line_fits.proofs.Laws.{front_at, grows}
use Rattle.line_fits.proofs.Laws.{leaf_count}
use Rattle.history.specs.declared.event.Op.{Op}
use Rattle.history.specs.Commit.{Transaction}
use Rattle.history.specs.History.{History}
use Rattle.history.specs.Legal.{is_opening}
use Rattle.history.specs.Sessions.{reader}
use Rattle.history.proofs.Laws.{legal_take}
use Rattle.index_transform.specs.Cells.{cells_of}
use Rattle.stack_driver.specs.Views.{look_of}
use Rattle.stack_driver.specs.declared.view.View.{View}
use Rattle.transaction_cells.specs.Operations.{AreStaged, HasSites}
use Rattle.transaction_cells.specs.Pieces.{AreCells}
use Rattle.transaction_cells.specs.Sites.{Site, sites_of}
use Rattle.transaction_cells.specs.Staging.{CanStage, StagedChunk}
use Rattle.transaction_cells.specs.declared.view_cells.ViewCells.{ViewCells}
use Rattle.transaction_cells.proofs.Laws.{can_stage}
use Rattle.read_fits.specs.Owned.{IsThere}
use Rattle.read_fits.specs.ReadFits.{IsReadOf, IsSeenFit, window_at}
use Rattle.read_fits.specs.declared.reads.ReadFit.TheVariants.{Unfit, IfMet}
use Rattle.read_fits.specs.declared.spot.Spot.{Spot}
use Rattle.read_fits.proofs.DemandsLater.{pieces_later}
use Rattle.read_fits.proofs.SeenFrom.{seen_from}
use Rattle.read_fits.proofs.TypedWords.{targets_count}

pub can_locate : (h : History) (spot : Spot) (t : Option Transaction) (view : View) (staging : List StagedChunk) → IsReadOf h spot t view staging → CanLocate view
can_locate h spot t view staging is =
    can_locate_view h (take spot.upto h) (count_by is_opening (take spot.upto h)) (front_at h spot.upto (count_by is_opening (take spot.upto h)) is.stated refl) view is.in_history

module _ (h : History) (spot : Spot) (t : Option Transaction) (view : View) (staging : List StagedChunk) (words : List ℕ) (is : IsReadOf h spot t view staging) where
  -- a window without a moment shows nothing
  pub late_unseen : spot.upto < spot.from → IsSeenFit h (window_at spot) (reader spot.line t) view words Unfit
  late_unseen late seen = let m = seen.within (record { array = 0; index = [] }) in absurd (omega (arith, m.0, m.1, late))

  module _ (cells : ViewCells) (sites : HasSites view) (cut : AreCells (sites_of view) cells) (count : length words ≡ length (cells_of (look_of view).dims)) where
    pub read_in : IsReadIn (take spot.upto h) (reader spot.line t).ops view words cells staging
    read_in = record {
      legal = legal_take finmap.empty h spot.upto is.legal;
      leaves = is.leaves;
      sites = sites;
      targets = is.targets;
      cut = cut;
      own = is.own;
      count = count ∙ sym (targets_count view) ∙ ap length sites.targets ∙ length-map (sites_of view) (λ (s : Site). Ok s.target);
    }

    pub never_seen : TellsSeen cells staging words None → IsSeenFit h (window_at spot) (reader spot.line t) view words Unfit
    never_seen told seen =
        told (take spot.upto h) spot.from (reader spot.line t).ops view read_in
        ((seen_from h (window_at spot) (reader spot.line t) view words (grows h is.stated spot.upto) is.within is.targets).0 seen)

    pub seen_if_met : (demand : Demand) → spot.from ≤ spot.upto → TellsSeen cells staging words (Some demand)
        → IsSeenFit h (window_at spot) (reader spot.line t) view words (IfMet (record { from = spot.from; upto = spot.upto; demand = demand }))
    seen_if_met demand order told =
        let within = is.within in
        let low : spot.from ≤ length (take spot.upto h) = omega (arith, order, within, length-take spot.upto h) in
        let tells = told (take spot.upto h) spot.from (reader spot.line t).ops view low read_in in
        let seen = seen_from h (window_at spot) (reader spot.line t) view words (grows h is.stated spot.upto) is.within is.targets in (
          record {
            within = is.within;
            demand_in = pieces_later h (take spot.upto h) (count_by is_opening (take spot.upto h)) (front_at h spot.upto (count_by is_opening (take spot.upto h)) is.stated refl) demand.casts.items demand.pieces.items tells.0;
          },
          (λ s. record { moment = order; met = tells.1.0 (seen.0 s) }, λ met. seen.1 (tells.1.1 met.met)),
        )

-- a view whose arrays are there may be located, and the cells of what is staged of it be told
pub can_locate_there : (h : History) (upto : ℕ) (view : View) → IsThere h upto view → CanLocate view
can_locate_there h upto view is = can_locate_view h (take upto h) (count_by is_opening (take upto h)) (front_at h upto (count_by is_opening (take upto h)) is.stated refl) view is.in_history

pub can_stage_there : (h : History) (upto : ℕ) (view : View) (ops : List Op) (staging : List StagedChunk) (cells : ViewCells) → IsThere h upto view → HasSites view → AreCells (sites_of view) cells → AreStaged (take upto h) ops staging
    → CanStage staging cells (length cells.leaves)
can_stage_there h upto view ops staging cells is sites cut own = subst (CanStage staging cells) (sym (leaf_count view cells cut)) (can_stage (take upto h) view ops staging cells is.leaves sites cut own)

-- there are as many leaves as cells
pub cells_of_view : (view : View) (cells : ViewCells) → HasSites view → AreCells (sites_of view) cells → length cells.leaves ≡ length (cells_of (look_of view).dims)
cells_of_view view cells sites cut = leaf_count view cells cut ∙ sym (length-map (sites_of view) (λ (s : Site). Ok s.target)) ∙ sym (ap length sites.targets) ∙ targets_count view
