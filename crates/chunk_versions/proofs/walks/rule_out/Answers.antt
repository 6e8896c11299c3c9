use Rattle.std.proofs.Common.{◌≡◌, ◌<◌, ◌+◌, min, length, refl, sym, ap, ◌∙◌, arith, eqb-true, eq-eqb}
use Rattle.std.specs.Prelude.{◌==◌}
use Rattle.cast_driver.specs.Chain.{word_out}
use Rattle.chunk_versions.proofs.Chains.{touch_low, before_low}
use Rattle.chunk_versions.proofs.Judging.{judged_first, judged_step, judged_all, step_less}
use Rattle.chunk_versions.specs.declared.put.Put.{Put}
use Rattle.chunk_versions.proofs.walks.rule_out.Goals as goal

pub versions-init : goal.versions-init
versions-init c = record {
  within = c.requires.newest;
  size = refl;
  judged = judged_first (λ kept. word_out c.args.casts.now kept ≡ c.args.word) c.args.fill c.args.first c.args.puts.now c.args.newest (length c.args.reach.now) c.args.reach.now refl;
}

pub judge-until-requires : goal.judge-until-requires
judge-until-requires c =
    let upto = c.versions.invariant.judged.upto in
    let size = c.versions.invariant.size in
    let some : 0 < c.versions.until = omega (arith, c.versions-test.true) in
    let low = touch_low c.args.fill c.args.puts.now (c.args.first + length c.args.reach.now) c.versions.link c.requires.linked c.versions.invariant.within (omega (arith, some, upto)) in
    let same : c.put_at-put.result.touch ≡ _ = ap (λ (p : Put). p.touch) c.put_at-put.ensures in
    omega (arith, low, same, upto, size, some, c.saturating_sub-begin.ensures)

pub versions-preserved : goal.versions-preserved
versions-preserved c =
    let is = c.versions.invariant in
    let touches = c.args.first + length c.args.reach.now in
    let low = before_low c.args.fill c.args.puts.now touches c.versions.link c.requires.linked is.within in
    let before = ap (λ (p : Put). p.before) c.put_at-put.ensures in
    record {
      within = let within = is.within in omega (arith, low, before, within);
      size = let size = is.size in omega (arith, c.judge-until.auto.reach, size);
      judged =
          judged_step (λ kept. word_out c.args.casts.now kept ≡ c.args.word) c.args.fill c.args.first c.args.puts.now touches c.args.newest c.args.reach.now c.versions.reach c.judge-until.new.reach c.versions.link c.versions.until
          c.saturating_sub-begin.result c.put_at-put.result c.put_at-put.ensures c.saturating_sub-begin.ensures c.requires.linked is.within is.judged c.judge-until.result (c.out.result == c.args.word) c.judge-until.ensures.left
          (λ same. sym c.out.ensures.value ∙ eqb-true c.out.result c.args.word same, λ fit. eq-eqb c.out.result c.args.word (c.out.ensures.value ∙ fit)) is.size c.judge-until.ensures.judged;
    }

pub versions-smaller : goal.versions-smaller
versions-smaller c =
    step_less c.args.fill c.args.puts.now (c.args.first + length c.args.reach.now) c.versions.link c.versions.until c.judge-until.result c.args.first c.put_at-put.result c.put_at-put.ensures c.requires.linked c.versions.invariant.within
    (omega (arith, c.versions-test.true)) (c.judge-until.ensures.left ∙ ap (λ b. min b c.versions.until) c.saturating_sub-begin.ensures)

pub returns : goal.returns
returns c =
    judged_all (λ kept. word_out c.args.casts.now kept ≡ c.args.word) c.args.fill c.args.first c.args.puts.now c.args.newest c.args.reach.now c.versions.reach c.versions.link c.versions.until (omega (arith, c.versions-test.false)) c.versions.invariant.judged
