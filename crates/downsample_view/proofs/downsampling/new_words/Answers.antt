use Rattle.std.proofs.Common.{◌≡◌, ◌∙◌, ◌==◌, true, ℤ, ℕ, List, Option, Bool, length, map, sym, ap, subst, arith}
use Rattle.std.proofs.lemmas.Bool.Decides.{nat_tests}
use Rattle.std.proofs.lemmas.List.{length-map}
use Rattle.std.specs.List.{list_all, range_with_len}
use Rattle.index_transform.specs.Cells.{cells_of}
use Rattle.downsample_view.specs.Downsampled.{kept_word, new_word, words_where}
use Rattle.downsample_view.specs.Places.{is_below, is_place, new_count, place_of, words_to}
use Rattle.downsample_view.proofs.Cells.{all-below, none-left, places-are, words-at}
use Rattle.downsample_view.proofs.Lists.{if_ok}
use Rattle.downsample_view.proofs.Rows.{map-same}
use Rattle.downsample_view.proofs.downsampling.new_words.Goals as goal

pub returns-then-is_empty : goal.returns-then-is_empty
returns-then-is_empty c =
    let none : length (cells_of c.args.dims.now) ≡ 0 = (let z : (length c.args.words.now == 0) ≡ true = sym c.is_empty.ensures ∙ c.if-is_empty.true in let e : length c.args.words.now ≡ 0 = grind (arith, nat_tests, z) in sym c.requires.words ∙ e) in
    c.new.ensures.items ∙ sym (ap (map (new_word c.args.method c.args.dtype c.args.factors.now c.args.dims.now c.args.words.now)) (none-left c.args.method c.args.factors.now c.args.dims.now c.requires.ranks none))

pub kept_words-requires-clause-same : goal.kept_words-requires-clause-same
kept_words-requires-clause-same c =
    ap (λ (ps : List (Option ℕ)). length ps) (c.deref.ensures.value ∙ c.in_ok-count.ensures.list)
    ∙ length-map (cells_of c.args.dims.now) (place_of c.args.method c.args.factors.now c.args.dims.now) ∙ sym c.requires.words

pub kept_words-requires-clause-below : goal.kept_words-requires-clause-below
kept_words-requires-clause-below c =
    let m = c.args.method in
    let fs = c.args.factors.now in
    let ds = c.args.dims.now in
    let list = c.deref.ensures.value ∙ c.in_ok-count.ensures.list in
    subst (λ n. list_all (is_below n) c.deref.result.now ≡ true) (sym c.in_ok-count.ensures.count)
    (subst (λ (ps : List (Option ℕ)). list_all (is_below (new_count m fs ds)) ps ≡ true) (sym list) (all-below m fs ds (cells_of ds)))

pub returns : goal.returns
returns c =
    let m = c.args.method in
    let dtype = c.args.dtype in
    let fs = c.args.factors.now in
    let ds = c.args.dims.now in
    let words = c.args.words.now in
    let list = c.deref.ensures.value ∙ c.in_ok-count.ensures.list in
    let F : (List ℤ → Bool) → ℕ = λ t. kept_word m dtype (words_where t (cells_of ds) words) in
    if_ok _ _
    (λ all e.
    e ∙ ap (λ (ps : List (Option ℕ)). map (λ q. kept_word m dtype (words_to q ps words)) (range_with_len 0 c.in_ok-count.count)) list
    ∙ ap (λ n. map (λ q. kept_word m dtype (words_to q (map (place_of m fs ds) (cells_of ds)) words)) (range_with_len 0 n)) c.in_ok-count.ensures.count
    ∙ map-same (λ q. kept_word m dtype (words_to q (map (place_of m fs ds) (cells_of ds)) words)) (λ q. F (λ x. is_place q (place_of m fs ds x))) (range_with_len 0 (new_count m fs ds))
    (λ q. ap (kept_word m dtype) (words-at q (place_of m fs ds) (cells_of ds) words))
    ∙ places-are m fs ds F c.requires.factors c.requires.ranks)
    c.kept_words.result c.kept_words.ensures
