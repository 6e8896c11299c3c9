-- The entries of nested lists: one finite index for each cell of their sizes.
use Rattle.std.proofs.Common.{◌≡◌, ℕ, ◌*◌, ℤ, Bool, true, List, [], ◌∷◌, ◌++◌, length, Some, refl, sym, ap, ◌∙◌, arith, length-append}
use Rattle.std.specs.Prelude.{option_and_then, option_map, ◌==◌}
use Rattle.std.specs.List.{list_all}
use Rattle.serde_json.specs.Data.{Data}
use Rattle.json_forms.specs.Numbers.{whole_number}
use Rattle.json_forms.specs.Lists.{list_items, all_of}
use Rattle.cells.specs.Places.{cell_count}
use Rattle.index_intervals.specs.Bounds.{is_index}
use Rattle.transform_json.specs.Arrays.{nested_entries}
use Rattle.transform_json.specs.Members.{where_so}
use Rattle.transform_json.proofs.Rows.{joined}
use Rattle.transform_json.proofs.Told.{step-of, mapped-of, where-of, eqb-of}
use Rattle.cells.proofs.Laws.{both, both_true}

-- what is told of rows one after another
all-append : (p : ℤ → Bool) (xs ys : List ℤ) → list_all p xs ≡ true → list_all p ys ≡ true → list_all p (xs ++ ys) ≡ true
all-append p [] ys e f = f
all-append p (x ∷ xs) ys e f = let parts = both (p x) (list_all p xs) e in both_true _ _ parts.0 (all-append p xs ys parts.1 f)

abbrev IsFull : ℕ → List ℤ → Type 0
IsFull n entries = (length entries ≡ n) × (list_all is_index entries ≡ true)

rows-good : (sizes : List ℕ) (each : (d : Data) (entries : List ℤ) → nested_entries sizes d ≡ Some entries → IsFull (cell_count sizes) entries) (items : List Data) (rows : List (List ℤ))
    → all_of (nested_entries sizes) items ≡ Some rows → IsFull (length items * cell_count sizes) (joined rows)
rows-good sizes each [] rows e = let none : [] ≡ rows = cc in let nothing : 0 ≡ 0 * cell_count sizes = omega arith in (ap (λ rs. length (joined rs)) (sym none) ∙ nothing, ap (λ rs. list_all is_index (joined rs)) (sym none))
rows-good sizes each (d ∷ items) rows e =
    let one = step-of (λ row. option_map (λ rs. row ∷ rs) (all_of (nested_entries sizes) items)) (nested_entries sizes d) rows e in
    let more = mapped-of (λ rs. one.0 ∷ rs) (all_of (nested_entries sizes) items) rows one.1.1 in
    let row = each d one.0 one.1.0 in
    let rest = rows-good sizes each items more.0 more.1.0 in (
      ap (λ rs. length (joined rs)) (sym more.1.1) ∙ length-append one.0 (joined more.0) ∙ omega (arith, row.0, rest.0),
      ap (λ rs. list_all is_index (joined rs)) (sym more.1.1) ∙ all-append is_index one.0 (joined more.0) row.1 rest.1,
    )

pub nested_entries-good : (sizes : List ℕ) (d : Data) (entries : List ℤ) → nested_entries sizes d ≡ Some entries → IsFull (cell_count sizes) entries
nested_entries-good [] d entries e =
    let number = step-of (λ x. where_so (is_index x) (Some (x ∷ []))) (whole_number d) entries e in
    let good = where-of (is_index number.0) (Some (number.0 ∷ [])) entries number.1.1 in
    let same : number.0 ∷ [] ≡ entries = cc in
    (ap length (sym same), ap (list_all is_index) (sym same) ∙ both_true _ _ good.0 refl)
nested_entries-good (size ∷ sizes) d entries e =
    let rows = mapped-of joined (option_and_then (λ items. where_so (length items == size) (all_of (nested_entries sizes) items)) (list_items d)) entries e in
    let items = step-of (λ items. where_so (length items == size) (all_of (nested_entries sizes) items)) (list_items d) rows.0 rows.1.0 in
    let good = where-of (length items.0 == size) (all_of (nested_entries sizes) items.0) rows.0 items.1.1 in
    let full = rows-good sizes (λ x es f. nested_entries-good sizes x es f) items.0 rows.0 good.1 in
    (ap length (sym rows.1.1) ∙ full.0 ∙ ap (λ n. n * cell_count sizes) (eqb-of (length items.0) size good.0), ap (list_all is_index) (sym rows.1.1) ∙ full.1)
