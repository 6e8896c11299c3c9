use Rattle.std.proofs.Common.{◌∙◌, List, length, sym, ap, subst}
use Rattle.std.specs.Prelude.{IsTrue}
use Rattle.std.specs.List.{list_all}
use Rattle.index_intervals.specs.Bounds.{Bounds}
use Rattle.index_transform.specs.Cells.{cells_of, is_finite}
use Rattle.line_acts.proofs.FaultLaws.{counted_view}
use Rattle.line_acts.proofs.values.fewer.Goals as goal
use Rattle.stack_driver.specs.Views.{look_of}

pub down-requires-clause-finite : goal.down-requires-clause-finite
down-requires-clause-finite c =
    let dims = (look_of c.args.v.now).dims in
    subst (λ (ds : List Bounds). IsTrue (list_all is_finite ds)) (sym (ap (λ d. d.dims) c.domain-domain.ensures.value ∙ c.transform_of.ensures.domain)) (counted_view c.args.v.now (length (cells_of dims)) c.requires.count).0

pub down-requires-clause-words : goal.down-requires-clause-words
down-requires-clause-words c = c.requires.words ∙ ap (λ (ds : List Bounds). length (cells_of ds)) (sym (ap (λ d. d.dims) c.domain-domain.ensures.value ∙ c.transform_of.ensures.domain))
