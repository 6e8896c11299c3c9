use Rattle.std.proofs.Common.{◌∙◌, cond, Some, ap}
use Rattle.std.specs.Str.{bytes_eq}
use Rattle.chunk_fetches.specs.Found.{found}
use Rattle.chunk_fetches.proofs.Laws.{found-insert}
use Rattle.transactions.proofs.keeping.insert.Goals as goal
use Rattle.transactions.proofs.keeping.insert.Goals.{in-Ok, in-Err}

pub returns-clause-ok : goal.returns-clause-ok
returns-clause-ok c = elim c.match-insert.branch [
  | in-Ok w ↦
      let old = c.args.places.now.entries in
      rw w.result-is (λ other.
      ap (λ es. found es other) w.in-Ok.ensures.entries
      ∙ found-insert c.in_ok-id.id c.args.place other old
      ∙ ap (λ xs. cond (bytes_eq xs other) (Some c.args.place) (found old other)) c.in_ok-id.ensures.items)
  | in-Err w ↦ rw w.result-is tt
]
