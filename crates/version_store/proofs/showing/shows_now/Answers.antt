use Rattle.std.proofs.Common.{◌≡◌, ◌<◌, ◌≤◌, [], length, true, false, refl, sym, subst, arith}
use Rattle.std.specs.Prelude.{All}
use Rattle.std.proofs.lemmas.List.{take_all}
use Rattle.std.proofs.lemmas.List.Elements.{All-get_or, All-more, All-from_recursion, recursion_from_All}
use Rattle.chunk_versions.specs.Marks.{no_cell, IsShown}
use Rattle.chunk_versions.specs.declared.asked.AskedCell.{AskedCell}
use Rattle.version_store.proofs.showing.shows_now.Goals as goal

pub loop-i-init : goal.loop-i-init
loop-i-init c = λ m low. recursion_to (IsShown c.args.chunk.now c.args.casts.now m) where
  recursion_to : (P : AskedCell → Type 0) → All P []
  recursion_to P = All-from_recursion P [] tt

pub loop-i-preserved : goal.loop-i-preserved
loop-i-preserved c = λ m low.
    let asked = c.args.asked.now in
    let within : c.loop-i.i < length asked = omega arith in
    let P : AskedCell → Type 0 = IsShown c.args.chunk.now c.args.casts.now m in
    All-more P asked c.loop-i.i no_cell within (c.loop-i.invariant m low) (subst P c.cell_at.ensures ((c.shows.ensures m low).0 c.if-not-shows.false))

pub returns-then-not-shows-clause-value : goal.returns-then-not-shows-clause-value
returns-then-not-shows-clause-value c = λ m low.
    let asked = c.args.asked.now in
    let within : c.loop-i.i < length asked = omega arith in
    let P : AskedCell → Type 0 = IsShown c.args.chunk.now c.args.casts.now m in (
      λ so. absurd (let clash : false ≡ true = so in cc),
      λ all. let here = (c.shows.ensures m low).1 (subst P (sym c.cell_at.ensures) (All-get_or P asked c.loop-i.i no_cell within (All-from_recursion P asked all))) in
          absurd (let isnt = c.if-not-shows.true in cc),
    )

pub returns-clause-value : goal.returns-clause-value
returns-clause-value c = λ m low.
    let asked = c.args.asked.now in
    let past : length asked ≤ c.loop-i.i = omega arith in
    let P : AskedCell → Type 0 = IsShown c.args.chunk.now c.args.casts.now m in
    (λ so. recursion_from_All P asked (subst (All P) (take_all c.loop-i.i asked past) (c.loop-i.invariant m low)), λ all. refl)
