use Rattle.std.proofs.Common.{ℕ, List}
use Rattle.std.specs.Prelude.{IfOk, IfErr}
use Rattle.history.specs.Lines.{SpecLeaf}
use Rattle.session_openings.specs.Openings.{OpensOne, RefusesOne}
use Rattle.session_openings.proofs.LeafLaws.{refuses_before}
use Rattle.session_openings.proofs.LoopLaws.{asked_same, leaf_carried}
use Rattle.stack_driver.specs.References.{Reference}
use Rattle.session_openings.proofs.opening.open_leaf.Goals as goal

pub open_wanted-requires-clause-leaf : goal.open_wanted-requires-clause-leaf
open_wanted-requires-clause-leaf g c =
    asked_same c.args.tree.now c.leaf_wanted.result c.args.leaf c.leaf_wanted.ensures c.args.opened.arrays.items c.in-Ok.opened.arrays.items c.args.opened.events.items c.in-Ok.opened.events.items c.in-Ok.ensures.arrays c.in-Ok.ensures.events c.args.around.now.book.now.fixed.store.names
    c.requires.leaf

pub returns-in-Ok-clause-ok : goal.returns-in-Ok-clause-ok
returns-in-Ok-clause-ok g c =
    leaf_carried c.args.tree.now c.leaf_wanted.result c.args.leaf c.leaf_wanted.ensures c.args.opened.arrays.items c.in-Ok.opened.arrays.items c.args.opened.events.items c.in-Ok.opened.events.items c.in-Ok.ensures.arrays c.in-Ok.ensures.events
    (λ (leaf : SpecLeaf) (arrays : List Reference) (events : List ℕ). IfOk c.open_wanted.result (λ o. OpensOne c.args.around.now.book.now c.args.pass.now c.open_wanted.new.pass leaf arrays events o.arrays.items o.events.items)) c.open_wanted.ensures.ok

pub returns-in-Ok-clause-err : goal.returns-in-Ok-clause-err
returns-in-Ok-clause-err g c =
    leaf_carried c.args.tree.now c.leaf_wanted.result c.args.leaf c.leaf_wanted.ensures c.args.opened.arrays.items c.in-Ok.opened.arrays.items c.args.opened.events.items c.in-Ok.opened.events.items c.in-Ok.ensures.arrays c.in-Ok.ensures.events
    (λ (leaf : SpecLeaf) (arrays : List Reference) (events : List ℕ). IfErr c.open_wanted.result (λ b. RefusesOne c.args.around.now.book.now c.args.pass.now c.open_wanted.new.pass leaf arrays events b)) c.open_wanted.ensures.err

pub returns-in-Err-clause-err : goal.returns-in-Err-clause-err
returns-in-Err-clause-err g c = refuses_before c.args.around.now.book.now c.args.pass.now _ c.args.opened.arrays.items c.args.opened.events.items
