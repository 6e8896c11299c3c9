-- The words that a transcript tells of a read.
use Rattle.std.proofs.Common.{◌≡◌, ◌∙◌, ℕ, ℤ, ◌+◌, ◌*◌, ◌≤◌, List, [], ◌∷◌, Bool, true, false, cond, map, Option, Some, None, Ok, Err, refl, sym, ap, arith}
use Rattle.std.specs.Prelude.{is_some, nat_le, not, ◌==◌}
use Rattle.std.specs.List.{list_any, position_from}
use Rattle.std.proofs.lemmas.Bool.Decides.{nat_tests}
use Rattle.cells.specs.declared.dtype.Dtype.{Dtype}
use Rattle.index_transform.specs.Cells.{is_finite, counted_from, unless_infinite, count_answer}
use Rattle.index_transform.specs.Maps.{size_of}
use Rattle.index_transform.specs.declared.error.CountError.TheVariants.{TooMany}
use Rattle.json_forms.specs.Lists.{list_items}
use Rattle.json_forms.specs.Numbers.{whole_number}
use Rattle.script_lines.specs.NestedWords.{nested_words, words_of, single_or_nested, one_word, sized, from_list}
use Rattle.serde_json.specs.Data.{Data, null, boolean, number, string, array, object}
use Rattle.stack_driver.specs.Views.{look_of}
use Rattle.stack_driver.specs.declared.view.View.{View}
use Rattle.transcript_cut.specs.Standings.{words_given}

-- a view whose cells are counted has few of them
counted_small : (product dim n : ℕ) (sizes : List ℕ) → product ≤ 4194304 → counted_from product dim sizes ≡ Ok n → n ≤ 4194304
counted_small product dim n [] small is = let same : product ≡ n = cc in omega (arith, same, small)
counted_small product dim n (size ∷ sizes) small is = told (nat_le (product * size) 4194304) refl is (λ below h. counted_small (product * size) (dim + 1) n sizes below h)
  where
    told : (b : Bool) → nat_le (product * size) 4194304 ≡ b → cond b (counted_from (product * size) (dim + 1) sizes) (Err (TooMany dim)) ≡ Ok n
        → (product * size ≤ 4194304 → counted_from (product * size) (dim + 1) sizes ≡ Ok n → n ≤ 4194304) → n ≤ 4194304
    told true e h rest = rest (grind (arith, nat_tests, e)) h
    told false e h rest = absurd (let no_such : ⊥ = cc in no_such)

pub counted_few : (v : View) (n : ℕ) → count_answer (look_of v).dims ≡ Ok n → n ≤ 4194304
counted_few v n is = by (position_from (λ dim. not (is_finite dim)) 0 (look_of v).dims) is
  where
    few : (b : Bool) → cond b (Ok 0) (counted_from 1 0 (map size_of (look_of v).dims)) ≡ Ok n → n ≤ 4194304
    few true e = let same : 0 ≡ n = cc in omega (arith, same)
    few false e = counted_small 1 0 n (map size_of (look_of v).dims) (omega arith) e

    by : (o : Option ℕ) → unless_infinite o (cond (list_any (λ dim. size_of dim == 0) (look_of v).dims) (Ok 0) (counted_from 1 0 (map size_of (look_of v).dims))) ≡ Ok n → n ≤ 4194304
    by None h = few (list_any (λ dim. size_of dim == 0) (look_of v).dims) h
    by (Some dim) h = absurd (let no_such : ⊥ = cc in no_such)
