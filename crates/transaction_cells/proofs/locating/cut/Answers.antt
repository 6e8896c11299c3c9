use Rattle.std.proofs.Common.{◌∙◌, sym, subst, List}
use Rattle.stack_targets.specs.Landings.{leaves_of}
use Rattle.transaction_cells.specs.Lanes.{LaneSeen, HaveOneShape}
use Rattle.transaction_cells.specs.Sites.{AreTold}
use Rattle.transaction_cells.proofs.ToldLaws.{told_landed}
use Rattle.transaction_cells.proofs.locating.cut.Goals as goal

pub pieces_among-requires-clause-told : goal.pieces_among-requires-clause-told
pieces_among-requires-clause-told c =
    let told = told_landed (leaves_of c.args.v.now) c.in_ok-lanes.ensures.ranks c.args.t.now.leaves c.args.t.now.numbers c.requires.landed in
    subst (λ (lanes : List LaneSeen). AreTold lanes c.args.t.now.leaves c.args.t.now.numbers) (sym (c.items.ensures ∙ c.in_ok-lanes.ensures.lanes)) told.0

pub pieces_among-requires-clause-alike : goal.pieces_among-requires-clause-alike
pieces_among-requires-clause-alike c = subst HaveOneShape (sym (c.items.ensures ∙ c.in_ok-lanes.ensures.lanes)) c.requires.alike
