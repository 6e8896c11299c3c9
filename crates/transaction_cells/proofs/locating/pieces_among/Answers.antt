use Rattle.transaction_cells.specs.Sites.{told_sites}
use Rattle.transaction_cells.proofs.PieceLaws.{sized_sites, told_pieces}
use Rattle.transaction_cells.proofs.CutLaws.{no_cuts}
use Rattle.transaction_cells.proofs.locating.pieces_among.Goals as goal

pub put_all-requires-clause-empty : goal.put_all-requires-clause-empty
put_all-requires-clause-empty c = no_cuts c.new-cuts.result c.new-cuts.ensures.empty

pub returns : goal.returns
returns c =
    let lanes = c.args.lanes.now in
    let sites = told_sites lanes c.args.t.now.leaves c.args.t.now.numbers in
    told_pieces c.pieces_of.result lanes sites c.put_all.new.cuts (sized_sites lanes c.args.t.now.leaves c.args.t.now.numbers c.requires.alike c.requires.told) c.in_ok-put_all.ensures
    c.pieces_of.ensures.pieces c.pieces_of.ensures.ordered
