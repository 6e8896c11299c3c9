-- What comes of each step, by the view of the step or by what it keeps.
use Rattle.std.proofs.Common.{◌≡◌, ◌∙◌, zero, suc, ℕ, pos, ◌+◌, ◌<◌, ◌==◌, ◌&&◌, ◌||◌, Bool, true, false, not, ℤ, ◌≤ℤ◌, if◌then◌else◌, get_or, List, [], ◌∷◌, length, refl, sym, ap, subst, arith, unwrap_or, Option, None, Result, Ok, Err, IsTrue}
use Rattle.std.specs.List.{list_all, zip, position_from}
use Rattle.std.specs.Int.RustNames.{int_le}
use Rattle.std.specs.Result.{IfOk, IfErr}
use Rattle.std.proofs.lemmas.Int.{ints}
use Rattle.json_forms.specs.Lists.{all_of}
use Rattle.index_intervals.specs.Bounds.{Bounds, is_index}
use Rattle.index_intervals.proofs.Laws.{is_index-true, IsIndex-true}
use Rattle.index_transform.specs.Cells.{is_finite}
use Rattle.index_transform.specs.Transforms.{DomainAndMaps}
use Rattle.index_transform.specs.Values.{is_effective, value_at, first_outside}
use Rattle.index_transform.specs.Walks.{IsCell}
use Rattle.step_forms.specs.declared.act.Act.{Act}
use Rattle.step_forms.specs.declared.act.Act.TheVariants as act
use Rattle.step_forms.specs.declared.act.Numbers.{Numbers}
use Rattle.dim_changes.specs.Causes.{IsFaultOf, Gives}
use Rattle.dim_changes.specs.Cuts.{is_cut}
use Rattle.dim_changes.specs.CutViews.{cut_view, cut_answer}
use Rattle.dim_changes.specs.Dims.{position_of}
use Rattle.dim_changes.specs.Marks.{with_labels, new_labels, label_answer, with_marks, mark_answer}
use Rattle.dim_changes.specs.declared.cause.Cause.TheVariants.{Count, Label}
use Rattle.dim_changes.proofs.Laws.{length_marked, ends_marked, marks_made}
use Rattle.index_transform.specs.Maps.{are_labels}
use Rattle.transform_composition.specs.Reading.{point}
use Rattle.dim_changes.specs.declared.cause.Fault.{Fault}
use Rattle.dim_expressions.specs.At.{at_view, at_answer}
use Rattle.dim_expressions.specs.Diagonal.{diagonal_view, diagonal_answer}
use Rattle.dim_expressions.specs.Oindex.{oindex_view, oindex_answer}
use Rattle.dim_expressions.specs.Vindex.{vindex_view, vindex_answer}
use Rattle.dim_expressions.specs.Transpose.{transpose_view, transpose_answer}
use Rattle.dim_expressions.specs.Newaxis.{newaxis_view, newaxis_answer}
use Rattle.dim_expressions.specs.Answers.{step_answer, old_index, IsStepped, IsOutcome}
use Rattle.cells.proofs.Laws.{both}

-- a step that has a view
outcome : (u : DomainAndMaps) (selected : List ℕ) (a : Act) (view : DomainAndMaps) (r : Result DomainAndMaps Fault) → ((index : List ℤ) → old_index u selected a index ≡ value_at view index)
    → Gives u view (step_answer u selected a) r → IsOutcome u selected a r
outcome u selected a view (Ok t) same given = record {
  answer = given.0;
  values = λ index cell. given.1.values index cell ∙ ap (value_at u) (sym (same index));
  inside = λ finite index cell. ap (first_outside u.domain.dims) (same index) ∙ given.1.inside finite index cell;
  reached = λ index cell k h i.
      subst (λ (ys : List ℤ). is_effective (get_or u.domain.dims k point) (get_or ys k (pos 0)) ≡ true) (sym (same index))
      (given.1.reached index cell k h (subst (λ (ys : List ℤ). is_index (get_or ys k (pos 0)) ≡ true) (same index) i));
}
outcome u selected a view (Err f) same given = given

pub outcome-at : (u : DomainAndMaps) (selected : List ℕ) (by : Numbers) (a : Act) (r : Result DomainAndMaps Fault) → act.At by ≡ a
    → Gives u (at_view u selected by) (at_answer u selected by) r → IsOutcome u selected a r
outcome-at u selected by a r e given = subst (λ (b : Act). IsOutcome u selected b r) e (outcome u selected (act.At by) (at_view u selected by) r (λ index. refl) given)

pub outcome-diagonal : (u : DomainAndMaps) (selected : List ℕ) (a : Act) (r : Result DomainAndMaps Fault) → act.Diagonal ≡ a
    → Gives u (diagonal_view u selected) (diagonal_answer u selected) r → IsOutcome u selected a r
outcome-diagonal u selected a r e given = subst (λ (b : Act). IsOutcome u selected b r) e (outcome u selected act.Diagonal (diagonal_view u selected) r (λ index. refl) given)

pub outcome-transpose : (u : DomainAndMaps) (selected : List ℕ) (targets : List ℤ) (a : Act) (r : Result DomainAndMaps Fault) → act.Transpose targets ≡ a
    → Gives u (transpose_view u selected (unwrap_or (all_of (position_of (length u.domain.dims)) targets) [])) (transpose_answer u selected targets) r → IsOutcome u selected a r
outcome-transpose u selected targets a r e given =
    subst (λ (b : Act). IsOutcome u selected b r) e
    (outcome u selected (act.Transpose targets) (transpose_view u selected (unwrap_or (all_of (position_of (length u.domain.dims)) targets) [])) r (λ index. refl) given)

pub outcome-oindex : (u : DomainAndMaps) (selected : List ℕ) (arrays : List (List ℤ)) (a : Act) (r : Result DomainAndMaps Fault) → act.Oindex arrays ≡ a
    → Gives u (oindex_view u selected arrays) (oindex_answer u selected arrays) r → IsOutcome u selected a r
outcome-oindex u selected arrays a r e given = subst (λ (b : Act). IsOutcome u selected b r) e (outcome u selected (act.Oindex arrays) (oindex_view u selected arrays) r (λ index. refl) given)

pub outcome-vindex : (u : DomainAndMaps) (selected : List ℕ) (arrays : List (List ℤ)) (a : Act) (r : Result DomainAndMaps Fault) → act.Vindex arrays ≡ a
    → Gives u (vindex_view u selected arrays) (vindex_answer u selected arrays) r → IsOutcome u selected a r
outcome-vindex u selected arrays a r e given = subst (λ (b : Act). IsOutcome u selected b r) e (outcome u selected (act.Vindex arrays) (vindex_view u selected arrays) r (λ index. refl) given)

pub outcome-newaxis : (u : DomainAndMaps) (added : List ℕ) (a : Act) (r : Result DomainAndMaps Fault) → act.Newaxis ≡ a
    → Gives u (newaxis_view u added) (newaxis_answer u added) r → IsOutcome u added a r
outcome-newaxis u added a r e given = subst (λ (b : Act). IsOutcome u added b r) e (outcome u added act.Newaxis (newaxis_view u added) r (λ index. refl) given)

-- a step that acts on each dimension by itself
pub outcome-cut : (u : DomainAndMaps) (selected : List ℕ) (a : Act) (r : Result DomainAndMaps Fault) → is_cut a ≡ true → Gives u (cut_view u selected a) (cut_answer u selected a) r → IsOutcome u selected a r
outcome-cut u selected (act.TranslateTo by) r e given = outcome u selected (act.TranslateTo by) (cut_view u selected (act.TranslateTo by)) r (λ index. refl) given
outcome-cut u selected (act.TranslateBy by) r e given = outcome u selected (act.TranslateBy by) (cut_view u selected (act.TranslateBy by)) r (λ index. refl) given
outcome-cut u selected (act.TranslateBackwardBy by) r e given = outcome u selected (act.TranslateBackwardBy by) (cut_view u selected (act.TranslateBackwardBy by)) r (λ index. refl) given
outcome-cut u selected (act.Stride by) r e given = outcome u selected (act.Stride by) (cut_view u selected (act.Stride by)) r (λ index. refl) given
outcome-cut u selected (act.Slice by) r e given = outcome u selected (act.Slice by) (cut_view u selected (act.Slice by)) r (λ index. refl) given
outcome-cut u selected (act.Label labels) r e given = absurd cc
outcome-cut u selected (act.Transpose targets) r e given = absurd cc
outcome-cut u selected act.Diagonal r e given = absurd cc
outcome-cut u selected (act.At by) r e given = absurd cc
outcome-cut u selected (act.Oindex arrays) r e given = absurd cc
outcome-cut u selected (act.Vindex arrays) r e given = absurd cc
outcome-cut u selected act.Newaxis r e given = absurd cc
outcome-cut u selected (act.MarkBoundsImplicit lower upper) r e given = absurd cc

-- Steps under which each index vector stays.

-- the bounds are the same, whatever their flags
abbrev pub HaveEnds : List Bounds → List Bounds → Type 0
HaveEnds [] [] = Unit {0}
HaveEnds [] (n ∷ news) = ⊥
HaveEnds (o ∷ olds) [] = ⊥
HaveEnds (o ∷ olds) (n ∷ news) = (n.lo ≡ o.lo) × (n.hi ≡ o.hi) × HaveEnds olds news

pub HaveEnds-same : (dims : List Bounds) → HaveEnds dims dims
HaveEnds-same [] = tt
HaveEnds-same (d ∷ dims) = (refl, refl, HaveEnds-same dims)

-- a finite index between the bounds is an effective member
effective-index : (o n : Bounds) (x : ℤ) → n.lo ≡ o.lo → n.hi ≡ o.hi → is_index x ≡ true → n.lo ≤ℤ x → x ≤ℤ n.hi → is_effective o x ≡ true
effective-index o n x l h i above below =
    let low : int_le o.lo x ≡ true = grind (arith, ints, l, above) in
    let high : int_le x o.hi ≡ true = grind (arith, ints, h, below) in
    rw (i, low, high) (either o.lo_implicit o.hi_implicit)
  where
    either : (p q : Bool) → ((true && (p || true)) && (q || true)) ≡ true
    either true true = refl
    either true false = refl
    either false true = refl
    either false false = refl

-- and so is a number between finite bounds
effective : (o n : Bounds) (x : ℤ) → n.lo ≡ o.lo → n.hi ≡ o.hi → is_finite n ≡ true → n.lo ≤ℤ x → x ≤ℤ n.hi → is_effective o x ≡ true
effective o n x l h finite above below =
    let f = both (is_index n.lo) (is_index n.hi) finite in
    let a = is_index-true n.lo f.0 in
    let b = is_index-true n.hi f.1 in
    effective-index o n x l h (IsIndex-true x (record { above = omega (arith, ints, a.above, above); below = omega (arith, ints, b.below, below) })) above below

-- each number of a cell that is a finite index is one
cells-reached : (olds news : List Bounds) (index : List ℤ) (k : ℕ) → HaveEnds olds news → IsCell news index → k < length olds
    → is_index (get_or index k (pos 0)) ≡ true → is_effective (get_or olds k point) (get_or index k (pos 0)) ≡ true
cells-reached [] news index k ends cell h i = absurd (omega (arith, h))
cells-reached (o ∷ olds) [] index k ends cell h i = absurd ends
cells-reached (o ∷ olds) (n ∷ news) [] k ends cell h i = absurd cell
cells-reached (o ∷ olds) (n ∷ news) (x ∷ index) zero ends cell h i = effective-index o n x ends.0 ends.1 i cell.0 cell.1
cells-reached (o ∷ olds) (n ∷ news) (x ∷ index) (suc k) ends cell h i = cells-reached olds news index k ends.2 cell.2 (omega (arith, h)) i

none_outside : (i : ℕ) (olds news : List Bounds) (index : List ℤ) → HaveEnds olds news → list_all is_finite news ≡ true → IsCell news index
    → position_from (λ p. not (is_effective p.0 p.1)) i (zip olds index) ≡ None
none_outside i [] [] index ends finite cell = refl
none_outside i [] (n ∷ news) index ends finite cell = absurd ends
none_outside i (o ∷ olds) [] index ends finite cell = absurd ends
none_outside i (o ∷ olds) (n ∷ news) [] ends finite cell = absurd cell
none_outside i (o ∷ olds) (n ∷ news) (x ∷ index) ends finite cell =
    let f = both (is_finite n) (list_all is_finite news) finite in
    let e = effective o n x ends.0 ends.1 f.0 cell.0 cell.1 in
    rw e (none_outside (i + 1) olds news index ends.2 f.1 cell.2)

pub cells-inside : (olds news : List Bounds) (index : List ℤ) → HaveEnds olds news → IsTrue (list_all is_finite news) → IsCell news index → first_outside olds index ≡ None
cells-inside olds news index ends finite cell = none_outside 0 olds news index ends finite cell

HaveEnds-at : (olds news : List Bounds) → length news ≡ length olds
    → ((k : ℕ) → k < length olds → ((get_or news k point).lo ≡ (get_or olds k point).lo) × ((get_or news k point).hi ≡ (get_or olds k point).hi)) → HaveEnds olds news
HaveEnds-at [] [] same each = tt
HaveEnds-at [] (n ∷ news) same each = absurd (omega (arith, same))
HaveEnds-at (o ∷ olds) [] same each = absurd (omega (arith, same))
HaveEnds-at (o ∷ olds) (n ∷ news) same each =
    let here = each 0 (omega arith) in
    (here.0, here.1, HaveEnds-at olds news (omega (arith, same)) (λ k less. each (suc k) (omega (arith, less))))

-- labels alone change
label-made : (u : DomainAndMaps) (selected : List ℕ) (labels : List (List ℕ)) (t : DomainAndMaps) (b c : Bool)
    → (if not b then Err Count else (if c then Ok (with_labels u (new_labels u selected labels)) else Err Label)) ≡ Ok t → with_labels u (new_labels u selected labels) ≡ t
label-made u selected labels t true true e = cc
label-made u selected labels t true false e = cc
label-made u selected labels t false c e = cc

pub outcome-label : (u : DomainAndMaps) (selected : List ℕ) (labels : List (List ℕ)) (a : Act) (r : Result DomainAndMaps Fault) → act.Label labels ≡ a
    → IfOk r (λ t. label_answer u selected labels ≡ Ok t) → IfErr r (λ f. IsFaultOf (label_answer u selected labels) f) → IsOutcome u selected a r
outcome-label u selected labels a (Ok t) e is why =
    let made = label-made u selected labels t (length labels == length selected) (are_labels (new_labels u selected labels)) is in
    subst (λ (b : Act). IsStepped u selected b t) e (record {
      answer = is;
      values = λ index cell. ap (λ (v : DomainAndMaps). value_at v index) (sym made);
      inside = λ finite index cell. cells-inside u.domain.dims t.domain.dims index (subst (λ (v : DomainAndMaps). HaveEnds u.domain.dims v.domain.dims) made (HaveEnds-same u.domain.dims)) finite cell;
      reached = λ index cell k h i.
          cells-reached u.domain.dims t.domain.dims index k (subst (λ (v : DomainAndMaps). HaveEnds u.domain.dims v.domain.dims) made (HaveEnds-same u.domain.dims)) cell h i;
    })
outcome-label u selected labels a (Err f) e is why = subst (λ (b : Act). IsFaultOf (step_answer u selected b) f) e why

-- flags alone change
pub outcome-mark : (u : DomainAndMaps) (selected : List ℕ) (lower upper : Option Bool) (a : Act) (r : Result DomainAndMaps Fault) → act.MarkBoundsImplicit lower upper ≡ a
    → IfOk r (λ t. mark_answer u selected lower upper ≡ Ok t) → IfErr r (λ f. IsFaultOf (mark_answer u selected lower upper) f)
    → IfOk r (λ t. (index : List ℤ) → value_at t index ≡ value_at u index) → IsOutcome u selected a r
outcome-mark u selected lower upper a (Ok t) e is why values =
    let made = marks_made u selected lower upper t is in
    let ends = HaveEnds-at u.domain.dims (with_marks u selected lower upper).domain.dims (length_marked u.domain.dims selected lower upper) (ends_marked u.domain.dims selected lower upper) in
    subst (λ (b : Act). IsStepped u selected b t) e (record {
      answer = is;
      values = λ index cell. values index;
      inside = λ finite index cell. cells-inside u.domain.dims t.domain.dims index (subst (λ (v : DomainAndMaps). HaveEnds u.domain.dims v.domain.dims) made ends) finite cell;
      reached = λ index cell k h i. cells-reached u.domain.dims t.domain.dims index k (subst (λ (v : DomainAndMaps). HaveEnds u.domain.dims v.domain.dims) made ends) cell h i;
    })
outcome-mark u selected lower upper a (Err f) e is why values = subst (λ (b : Act). IsFaultOf (step_answer u selected b) f) e why
