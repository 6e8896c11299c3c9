use Rattle.std.proofs.Common.{◌<◌, ◌≤◌, [], length, subst, arith}
use Rattle.std.specs.Prelude.{All}
use Rattle.std.proofs.lemmas.List.{take_all}
use Rattle.std.proofs.lemmas.List.Elements.{All-more, All-from_recursion}
use Rattle.version_store.specs.Putting.{no_word}
use Rattle.version_store.specs.declared.placed.PlacedWord.{PlacedWord}
use Rattle.version_store.proofs.filling.are_places.Goals as goal

pub loop-i-init : goal.loop-i-init
loop-i-init c = All-from_recursion (λ (w : PlacedWord). w.place < c.args.size) [] tt

pub loop-i-preserved : goal.loop-i-preserved
loop-i-preserved c =
    let words = c.args.words.now in
    let within : c.loop-i.i < length words = omega arith in
    let low : c.word_at.result.place < c.args.size = omega arith in
    All-more (λ (w : PlacedWord). w.place < c.args.size) words c.loop-i.i no_word within c.loop-i.invariant (subst (λ (w : PlacedWord). w.place < c.args.size) c.word_at.ensures low)

pub returns-clause-are : goal.returns-clause-are
returns-clause-are c =
    let past : length c.args.words.now ≤ c.loop-i.i = omega arith in
    λ so. subst (All (λ (w : PlacedWord). w.place < c.args.size)) (take_all c.loop-i.i c.args.words.now past) c.loop-i.invariant
