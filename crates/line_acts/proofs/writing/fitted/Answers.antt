use Rattle.std.proofs.Common.{◌∙◌, List, ℕ, Ok, length, sym, ap, subst, arith}
use Rattle.std.proofs.lemmas.List.Elements.{recursion_from_All}
use Rattle.std.specs.List.{AllByRecursion}
use Rattle.cells.specs.Numbers.{IsWord}
use Rattle.cells.specs.Places.{cell_count}
use Rattle.cells.specs.declared.dtype.Dtype.{Dtype}
use Rattle.history.specs.Acts.{with_values}
use Rattle.index_transform.specs.Cells.{cells_of}
use Rattle.index_transform.proofs.Laws.{length-cells_of}
use Rattle.script_lines.specs.NestedWords.{words_of}
use Rattle.serde_json.specs.View.{view}
use Rattle.line_acts.specs.Refused.{IsAnswerTo}
use Rattle.line_acts.proofs.AnswerLaws.{if_err_map, if_ok_map}
use Rattle.line_acts.proofs.FaultLaws.{counted_view}
use Rattle.line_acts.proofs.writing.fitted.Goals as goal
use Rattle.stack_driver.specs.Views.{look_of}

pub words_in-requires : goal.words_in-requires
words_in-requires c =
    let dims = (look_of c.args.v.now).dims in
    let few = (counted_view c.args.v.now (length (cells_of dims)) c.requires).1 in
    let same = ap cell_count (c.deref.ensures.value ∙ c.in-Ok.ensures) ∙ sym (length-cells_of dims) in
    omega (arith, few, same)

pub returns-in-Ok-clause-count : goal.returns-in-Ok-clause-count
returns-in-Ok-clause-count c =
    let dims = (look_of c.args.v.now).dims in
    let same = ap cell_count (c.deref.ensures.value ∙ c.in-Ok.ensures) ∙ sym (length-cells_of dims) in
    if_ok_map c.words_in.result c.words_in.ensures.full (λ words full. c.requires ∙ ap Ok (sym (full ∙ same)))

pub returns-in-Ok-clause-typed : goal.returns-in-Ok-clause-typed
returns-in-Ok-clause-typed c =
    if_ok_map c.words_in.result c.words_in.ensures.of_dtype
    (λ words all. subst (λ (d : Dtype). AllByRecursion (IsWord d) words) c.dtype.ensures (recursion_from_All (IsWord c.dtype.result) words all))

pub returns-in-Ok-clause-err : goal.returns-in-Ok-clause-err
returns-in-Ok-clause-err c =
    if_err_map c.words_in.result c.words_in.ensures.err
    (λ body told next.
    subst (λ (ns : List ℕ). IsAnswerTo (with_values (words_of (look_of c.args.v.now).dtype ns (view c.args.values.now)) next) body) (c.deref.ensures.value ∙ c.in-Ok.ensures)
    (subst (λ (d : Dtype). IsAnswerTo (with_values (words_of d c.deref.result.now (view c.args.values.now)) next) body) c.dtype.ensures (told next)))
