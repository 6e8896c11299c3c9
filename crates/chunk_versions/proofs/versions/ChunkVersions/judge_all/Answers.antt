use Rattle.std.proofs.Common.{◌≡◌, ◌<◌, ℕ, List, [], ◌∷◌, ◌++◌, ◌+◌, length, take, get_or, sym, ap, subst, ◌∙◌, arith}
use Rattle.std.proofs.lemmas.List.{take_more, take_all, get_or_read}
use Rattle.cast_driver.specs.Chain.{word_out}
use Rattle.chunk_versions.specs.Marks.{no_cell, casts_of, AreShownBehind}
use Rattle.chunk_versions.specs.Reach.{AreJudged}
use Rattle.chunk_versions.specs.Versions.{Versions, word_from, word_in}
use Rattle.chunk_versions.specs.declared.asked.AskedCell.{AskedCell}
use Rattle.chunk_versions.specs.declared.put.Put.{Put}
use Rattle.chunk_versions.proofs.Found.{judged_more, judged_as}
use Rattle.chunk_versions.proofs.versions.ChunkVersions.judge_all.Goals as goal

pub loop-i-preserved : goal.loop-i-preserved
loop-i-preserved c =
    let v = c.args.self.now in
    let here = c.self.inside in
    let first = c.args.first in
    let casts = c.args.casts.now in
    let asked = c.args.asked.now in
    let i = c.loop-i.i in
    let cell = c.cell_at-cell.result in
    let low : i < length asked = omega arith in
    let parts : take (i + 1) asked ≡ take i asked ++ cell ∷ [] = take_more asked i no_cell low ∙ ap (λ (x : AskedCell). take i asked ++ x ∷ []) (sym c.cell_at-cell.ensures.value) in
    let chain : c.index-casts-cell.result ≡ casts_of casts cell = get_or_read casts cell.leaf c.index-casts-cell.result c.cell_at-cell.ensures.casts c.index-casts-cell.is [] in
    let link : c.link_of-link.result ≡ get_or here.last.items cell.place 0 = c.link_of-link.ensures ∙ ap (λ xs. get_or xs cell.place 0) c.deref.ensures.value in
    let word : (count : ℕ) → word_from here.fill c.deref-in-loop-i.result.now c.link_of-link.result count ≡ word_in v cell.place count =
    λ count.
    ap (λ (ps : List Put). word_from here.fill ps c.link_of-link.result count) c.deref-in-loop-i.ensures.value
    ∙ ap (λ l. word_from here.fill here.puts.items l count) link
    ∙ ap (λ (w : Versions). word_in w cell.place count) c.self.view_is in
    let size = c.loop-i.invariant.size in
    record {
      size = omega (arith, c.rule_out.auto.reach, size);
      judged =
          judged_more v casts first c.args.reach.now c.loop-i.reach c.rule_out.new.reach (take i asked) (take (i + 1) asked) cell parts size c.loop-i.invariant.judged
          (judged_as c.loop-i.reach c.rule_out.new.reach cell.word (λ k. word_out c.index-casts-cell.result (word_from here.fill c.deref-in-loop-i.result.now c.link_of-link.result (first + k + 1)))
          (λ k. word_out (casts_of casts cell) (word_in v cell.place (first + k + 1)))
          (λ k. ap (λ cs. word_out cs (word_from here.fill c.deref-in-loop-i.result.now c.link_of-link.result (first + k + 1))) chain ∙ ap (word_out (casts_of casts cell)) (word (first + k + 1))) c.rule_out.ensures);
    }

pub returns : goal.returns
returns c =
    subst (λ (xs : List AskedCell). AreJudged c.args.reach.now c.loop-i.reach (λ k. AreShownBehind c.args.self.now c.args.casts.now (c.args.first + k + 1) xs)) (take_all c.loop-i.i c.args.asked.now (omega arith)) c.loop-i.invariant.judged
