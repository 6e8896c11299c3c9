-- Which operations of a stated history may follow its first events.
use Rattle.std.proofs.Common.{◌≡◌, ◌∙◌, ◌<◌, ℕ, zero, suc, List, [], ◌∷◌, length, map, get_or, true, false, Option, Some, None, Ok, refl, sym, ap, subst, arith}
use Rattle.std.specs.Prelude.{◌↔◌, Contains}
use Rattle.std.specs.List.{AllByRecursion}
use Rattle.std.proofs.lemmas.List.{length-map}
use Rattle.std.proofs.lemmas.List.Elements.{All-get_or, All-from_recursion}
use Rattle.history.specs.declared.event.Op.{Op}
use Rattle.history.specs.declared.event.Op.TheVariants.{Write, Read}
use Rattle.history.specs.Arrays.{Known, known_after}
use Rattle.history.specs.History.{History}
use Rattle.history.specs.Legal.{AreWritten, HasTarget, IsLegalOp, is_present_in, viewed, words_of}
use Rattle.stack_driver.specs.Targets.{Target}
use Rattle.stack_driver.specs.Views.{targets_of}
use Rattle.stack_driver.specs.declared.view.View.{View}
use Rattle.stack_targets.specs.Landings.{leaves_of}
use Rattle.transaction_cells.specs.Operations.{HasSites, IsLeafIn}
use Rattle.transaction_cells.specs.Pieces.{AreCells, IsPiece, ids_of}
use Rattle.transaction_cells.specs.Sites.{Site, sites_of}
use Rattle.transaction_cells.specs.declared.view_cells.Piece.{Piece}
use Rattle.transaction_cells.specs.declared.view_cells.ViewCells.{ViewCells}
use Rattle.transaction_cells.proofs.Laws.{alike_in, leaves_among, known_sites}
use Rattle.transaction_cells.proofs.WrittenLaws.{site_with}
use Rattle.event_replay.specs.Pieces.{CanLocate}
use Rattle.event_replay.specs.Replays.{MayFollow}
use Rattle.event_replay.specs.Sweeps.{HasCells, IsFront, IsOpIn, IsViewIn}
use Rattle.event_replay.proofs.Fronts.{grows, keeps, known_later, known_low, low_known}
use Rattle.event_replay.proofs.OpLaws.{leaf_count}
use Rattle.event_replay.proofs.Sites.{IsSiteOf, all_present, none_without}

-- the array of a cell has a number below this one
abbrev pub IsBelow : ℕ → Site → Type 0
IsBelow n s = s.target.cell.array < n

-- so has that of a piece
abbrev pub IsPieceBelow : ℕ → Piece → Type 0
IsPieceBelow n p = get_or p.id 0 0 < n

-- an id among those of pieces
among : (P : List ℕ → Type 0) (pieces : List Piece) (id : List ℕ) → AllByRecursion (λ (p : Piece). P p.id) pieces → Contains (ids_of pieces) id → P id
among P [] id all there = absurd (omega (arith, there.1))
among P (p ∷ pieces) id all (zero, lt, is) = subst P is all.0
among P (p ∷ pieces) id all (suc k, lt, is) = among P pieces id all.1 (k, omega (arith, lt), is)

module _ (events before : History) (opened : ℕ) (front : IsFront events before opened) (v : View) (is : IsViewIn events v) where
  pub leaves_whole : AllByRecursion (IsLeafIn events) (leaves_of v)
  leaves_whole = leaves_among events v (grows events front.stated) is.refs

  pub can_locate_view : CanLocate v
  can_locate_view = record {
    view = is.valid;
    finite = is.finite;
    few = is.few;
    alike = alike_in events (leaves_of v) leaves_whole;
    targets = λ e. none_without events 0 (targets_of v) e is.targets;
  }

  -- a target lies in an array that is there where the array's number is below the count
  low_of : (t : Target) → HasTarget before (Ok t) → t.cell.array < opened
  low_of t here = by (known_after before t.cell.array) refl
    where
      by : (o : Option Known) → known_after before t.cell.array ≡ o → t.cell.array < opened
      by None none = absurd (let clash : false ≡ true = sym (ap (λ o. is_present_in o t.cell) none) ∙ here in cc)
      by (Some k) known = known_low events before opened front t.cell.array k known

  here_of : (t : Target) → HasTarget events (Ok t) → t.cell.array < opened → HasTarget before (Ok t)
  here_of t now low =
      let k = low_known events before opened front t.cell.array low in
      ap (λ o. is_present_in o t.cell) (k.1 ∙ sym (known_later events before opened front t.cell.array k.0 k.1)) ∙ now

  lows_of : (sites : List Site) → AllByRecursion (HasTarget before) (map (λ (s : Site). Ok s.target) sites) → AllByRecursion (IsBelow opened) sites
  lows_of [] all = tt
  lows_of (s ∷ sites) all = (low_of s.target all.0, lows_of sites all.1)

  heres_of : (sites : List Site) → AllByRecursion (HasTarget events) (map (λ (s : Site). Ok s.target) sites) → AllByRecursion (IsBelow opened) sites → AllByRecursion (HasTarget before) (map (λ (s : Site). Ok s.target) sites)
  heres_of [] all low = tt
  heres_of (s ∷ sites) all low = (here_of s.target all.0 low.0, heres_of sites all.1 low.1)

  module _ (has : HasSites v) (cells : ViewCells) (are : AreCells (sites_of v) cells) where
    sites_whole : AllByRecursion (IsSiteOf events) (sites_of v)
    sites_whole = all_present events (sites_of v) (known_sites events v leaves_whole has.grids) (subst (AllByRecursion (HasTarget events)) has.targets is.targets)

    -- pieces are of arrays below a number where cells are
    sites_low : AllByRecursion (IsPieceBelow opened) cells.pieces → AllByRecursion (IsBelow opened) (sites_of v)
    sites_low low = each (sites_of v) sites_whole are.pieces.all
      where
        each : (sites : List Site) → AllByRecursion (IsSiteOf events) sites → AllByRecursion (λ (s : Site). Contains (ids_of cells.pieces) s.id) sites → AllByRecursion (IsBelow opened) sites
        each [] whole there = tt
        each (s ∷ sites) whole there = (
          subst (λ (id : List ℕ). get_or id 0 0 < opened) whole.0.within.id (among (λ (id : List ℕ). get_or id 0 0 < opened) cells.pieces s.id low there.0),
          each sites whole.1 there.1,
        )

    pieces_low : AllByRecursion (IsBelow opened) (sites_of v) → AllByRecursion (IsPieceBelow opened) cells.pieces
    pieces_low low = each cells.pieces are.pieces.each
      where
        both : (sites : List Site) → AllByRecursion (IsSiteOf events) sites → AllByRecursion (IsBelow opened) sites → AllByRecursion (λ (s : Site). get_or s.id 0 0 < opened) sites
        both [] whole lows = tt
        both (s ∷ sites) whole lows = (subst (λ (id : List ℕ). get_or id 0 0 < opened) (sym whole.0.within.id) lows.0, both sites whole.1 lows.1)

        each : (pieces : List Piece) → AllByRecursion (IsPiece (sites_of v)) pieces → AllByRecursion (IsPieceBelow opened) pieces
        each [] all = tt
        each (p ∷ pieces) all =
            let found = site_with p.id 0 (sites_of v) (λ (s : Site). get_or s.id 0 0 < opened) all.0.some (both (sites_of v) sites_whole low) in
            (subst (λ (id : List ℕ). get_or id 0 0 < opened) found.2 found.1, each pieces all.1)

    cell_count_is : length cells.leaves ≡ length (targets_of v)
    cell_count_is = leaf_count v cells are ∙ sym (ap length has.targets ∙ length-map (sites_of v) (λ (s : Site). Ok s.target))

    -- what the located cells tell
    pub cells_told : (words : ℕ) → length cells.leaves ≡ words → AllByRecursion (IsPieceBelow opened) cells.pieces ↔ HasCells before v words
    cells_told words same = (
      λ low. record {
        count = sym same ∙ cell_count_is;
        targets = subst (AllByRecursion (HasTarget before)) (sym has.targets) (heres_of (sites_of v) (subst (AllByRecursion (HasTarget events)) has.targets is.targets) (sites_low low));
      },
      λ cells_has. pieces_low (lows_of (sites_of v) (subst (AllByRecursion (HasTarget before)) has.targets cells_has.targets)),
    )

    pub cells_count : (words : ℕ) → HasCells before v words → length cells.leaves ≡ words
    cells_count words told = cell_count_is ∙ sym told.count

-- an operation may follow where there is a word for each cell, and each cell lies in an array that is there
pub op_told : (events before : History) (op : Op) → IsOpIn events op → HasCells before (viewed op) (length (words_of op)) ↔ IsLegalOp before op
op_told events before op in_history = (
  λ has. record { finite = in_history.view.finite; targets = has.targets; count = has.count; words = by op in_history },
  λ legal. record { count = legal.count; targets = legal.targets },
)
  where
    by : (o : Op) → IsOpIn events o → AreWritten o
    by (Write view words) is = is.writes.1
    by (Read view words) is = tt

pub may_of : (events before : History) (opened : ℕ) (op : Op) → IsFront events before opened → IsOpIn events op → IsLegalOp before op → MayFollow before op
may_of events before opened op front in_history legal = record {
  legal = legal;
  view = in_history.view.valid;
  few = in_history.view.few;
  leaves = record { later = events; keeps = keeps events before opened front; each = leaves_whole events before opened front (viewed op) in_history.view };
}

-- so may one whose cells are there
pub may_next : (events before : History) (opened : ℕ) (op : Op) → IsFront events before opened → IsOpIn events op → HasCells before (viewed op) (length (words_of op)) → MayFollow before op
may_next events before opened op front in_history has = may_of events before opened op front in_history ((op_told events before op in_history).0 has)

-- one of several
pub one_of : {X : Type 0} (P : X → Type 0) (xs : List X) (i : ℕ) (x : X) → AllByRecursion P xs → i < length xs → x ≡ get_or xs i x → P x
one_of P xs i x all low is = subst P (sym is) (All-get_or P xs i x low (All-from_recursion P xs all))
