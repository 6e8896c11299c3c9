use Rattle.std.proofs.Common.{[], ◌∷◌, ◌++◌, None, sym, ap, subst, ◌∙◌}
use Rattle.std.specs.List.{AllByRecursion}
use Rattle.transcript_cut.specs.Leaves.{IsSoundLeaf}
use Rattle.transcript_cut.specs.Transcript.{mount}
use Rattle.stated_arrays.proofs.Walking.{passing_first, passing_more}
use Rattle.stated_arrays.proofs.serving.serve.Goals as goal

pub leaves-init : goal.leaves-init
leaves-init c = passing_first c.args.arrays.now c.args.line.now c.requires.arrays c.requires.sound

pub leaves-preserved : goal.leaves-preserved
leaves-preserved c =
    let is = c.leaves.invariant in
    let left = c.next_leaf-leaf.new.line in
    let sound = (subst (AllByRecursion (IsSoundLeaf (mount ∷ []))) c.next_leaf-leaf.ensures.parts is.sound).1 in
    passing_more c.args.arrays.now c.leaves.arrays c.args.line.now c.leaves.line is c.next_leaf-leaf.result left.rest.items c.next_leaf-leaf.ensures.parts c.open.new.self c.note.new.line c.in-Ok-There.ensures.arrays
    (rw c.in-Ok-There.field-0-is at c.in-Ok-There.ensures.served) (subst (AllByRecursion (IsSoundLeaf (mount ∷ []))) (sym c.note.ensures.rest) sound) c.note.ensures.rest
    (c.in_ok-note-in-Ok-There.ensures.takings ∙ ap (λ ts. ts ++ None ∷ []) c.next_leaf-leaf.ensures.takings) (c.note.ensures.taken ∙ c.next_leaf-leaf.ensures.taken)
