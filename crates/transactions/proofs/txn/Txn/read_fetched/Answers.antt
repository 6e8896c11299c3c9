use Rattle.std.proofs.Common.{◌≡◌, [], sym, subst}
use Rattle.history.specs.Reads.{mark_of, marked_world}
use Rattle.history.specs.declared.event.Event.{Event}
use Rattle.chunk_fetches.specs.Agreement.{Opening}
use Rattle.transactions.specs.Conditions.{IsTxnIn}
use Rattle.transactions.specs.Reading.{HasRead, strays_by}
use Rattle.turn_book.specs.Passes.{PassView}
use Rattle.transactions.proofs.ReadLaws.{all_told, has_read, if_ok_four, leaves_are, may_stage, new_are, passed_txn, read_marks, shown_txn, sized, stray_passed, typed}
use Rattle.transactions.proofs.txn.Txn.read_fetched.Goals as goal

pub show-requires-clause-cells : goal.show-requires-clause-cells
show-requires-clause-cells g c = may_stage c.args.around.now.book.now.fixed c.args.pass.now.seen c.args.self.now c.args.v.now c.args.cells.now c.requires.read.1.of_view

pub show-requires-clause-sized : goal.show-requires-clause-sized
show-requires-clause-sized g c = sized c.args.around.now.book.now.fixed c.requires.read.0 c.args.pass.now.seen c.args.self.now c.args.v.now c.args.cells.now c.args.fetched.items c.requires.read.1

pub show-requires-clause-new : goal.show-requires-clause-new
show-requires-clause-new g c = new_are c.args.around.now.book.now.fixed c.requires.read.0 c.args.pass.now.seen c.args.self.now c.args.v.now c.args.cells.now c.args.fetched.items c.requires.read.1

pub returns-in-Ok-clause-read : goal.returns-in-Ok-clause-read
returns-in-Ok-clause-read g c =
    let fixed = c.args.around.now.book.now.fixed in
    let events = c.args.pass.now.seen in
    let t = c.args.self.now in
    let v = c.args.v.now in
    let cells = c.args.cells.now in
    let fetched = c.args.fetched.items in
    let none : strays_by t cells fetched ≡ [] = subst (λ ks. strays_by t cells ks ≡ []) c.deref.ensures.value c.in-Ok.ensures.none in
    if_ok_four c.show.result c.show.ensures.ok c.show.ensures.count c.show.ensures.shown c.show.ensures.typed (λ words is count shown of_dtype seen r.
    subst (λ (p : PassView Event Opening). HasRead fixed seen p.seen t c.show.new.self v words) (sym c.in-Ok.ensures.ok)
    (has_read fixed seen events t v cells fetched r c.show.new.self words is count
    (of_dtype events (leaves_are fixed events t v cells r.of_view) r.of_view.sites r.of_view.located r.of_view.txn.staged (typed fixed seen events t v cells fetched r)) none (λ start told.
    shown events (marked_world start events (mark_of (read_marks fixed seen events t v cells fetched r))) (leaves_are fixed events t v cells r.of_view) r.of_view.sites r.of_view.located r.of_view.txn.staged
    (all_told fixed seen events t v cells fetched r start told none))))

pub returns-in-Ok-clause-txn : goal.returns-in-Ok-clause-txn
returns-in-Ok-clause-txn g c =
    subst (λ (p : PassView Event Opening). IsTxnIn c.args.around.now.book.now.fixed p.seen c.show.new.self) (sym c.in-Ok.ensures.ok)
    (shown_txn c.args.around.now.book.now.fixed c.requires.read.0 c.args.pass.now.seen c.args.self.now c.args.v.now c.args.cells.now c.args.fetched.items c.requires.read.1 c.show.new.self c.show.result c.show.ensures.ok c.show.ensures.same)

pub returns-in-Err-clause-txn : goal.returns-in-Err-clause-txn
returns-in-Err-clause-txn g c =
    passed_txn c.args.around.now.book.now c.args.pass.now c.checked.new.pass c.args.self.now c.requires.read.1.of_view.txn
    (stray_passed c.args.around.now.book.now c.args.pass.now c.checked.new.pass _ c.in-Err.e c.in-Err.ensures.errors)
