use Rattle.std.proofs.Common.{◌≡◌, ◌<◌, ◌≤◌, ◌+◌, List, [], ◌∷◌, ◌++◌, length, take, get_or, refl, sym, ap, subst, ◌∙◌, arith}
use Rattle.std.proofs.lemmas.List.{take_more, take_all}
use Rattle.std.proofs.lemmas.List.Elements.{All-get_or}
use Rattle.version_store.specs.Putting.{no_word, AreOver}
use Rattle.version_store.specs.declared.placed.PlacedWord.{PlacedWord}
use Rattle.version_store.proofs.Written.{none_over, more_over}
use Rattle.version_store.proofs.filling.put_each.Goals as goal

pub loop-i-init : goal.loop-i-init
loop-i-init c = record { size = refl; newest = c.requires.newest; over = none_over c.args.number c.args.chunk.now }

pub put_one-requires-clause-place : goal.put_one-requires-clause-place
put_one-requires-clause-place c =
    let words = c.args.words.now in
    let within : c.loop-i.i < length words = omega arith in
    let low : (get_or words c.loop-i.i no_word).place < c.args.chunk.now.size = All-get_or (λ (w : PlacedWord). w.place < c.args.chunk.now.size) words c.loop-i.i no_word within c.requires.places in
    subst (λ (w : PlacedWord). w.place < c.loop-i.chunk.size) (sym c.word_at.ensures) (subst (λ size. (get_or words c.loop-i.i no_word).place < size) (sym c.loop-i.invariant.size) low)

pub loop-i-preserved : goal.loop-i-preserved
loop-i-preserved c =
    let words = c.args.words.now in
    let i = c.loop-i.i in
    let within : i < length words = omega arith in
    let parts : take (i + 1) words ≡ take i words ++ c.word_at.result ∷ [] = take_more words i no_word within ∙ ap (λ (w : PlacedWord). take i words ++ w ∷ []) (sym c.word_at.ensures) in
    record {
      size = c.in_ok-put_one.ensures.size ∙ c.loop-i.invariant.size;
      newest = c.in_ok-put_one.ensures.newest;
      over = subst (λ (ws : List PlacedWord). AreOver c.args.number ws c.args.chunk.now c.put_one.new.chunk) (sym parts)
          (more_over c.args.number (take i words) c.word_at.result c.args.chunk.now c.loop-i.chunk c.put_one.new.chunk c.loop-i.invariant.over c.in_ok-put_one.ensures.over);
    }

pub returns : goal.returns
returns c =
    let words = c.args.words.now in
    let past : length words ≤ c.loop-i.i = omega arith in
    subst (λ (ws : List PlacedWord). AreOver c.args.number ws c.args.chunk.now c.loop-i.chunk) (take_all c.loop-i.i words past) c.loop-i.invariant.over
