use Rattle.std.proofs.Common.{◌∙◌, ap, ◌++◌, ◌∷◌, [], Some}
use Rattle.turn_book.proofs.Dealing.{begins_at}
use Rattle.turn_book.proofs.turn.TurnBook.start.Goals as goal

pub new-requires : goal.new-requires
new-requires g c = begins_at g.S.Book.owner g.S.Book.history g.S.Book.agrees g.S.Book.opening c.args.passes c.args.state c.of.result.value c.push_reserved.new.self.items c.of.ensures
    (c.push_reserved.ensures.items ∙ ap (λ l. l ++ Some c.args.state ∷ []) c.in-Ok-with_capacity.ensures.items) c.requires.some_pass c.requires.no_history c.requires.agrees
