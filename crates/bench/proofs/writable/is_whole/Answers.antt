use Rattle.std.proofs.Common.{rules, ◌≡◌, true, length, sym, ap, subst, ◌∙◌, arith}
use Rattle.std.proofs.lemmas.Bool.Decides.{Decides-eqb}
use Rattle.std.proofs.lemmas.Slice.Eq.{slice_eq-Decides}
use Rattle.n5_blocks.specs.Metadata.{Metadata, IsMetadata}
use Rattle.bench.proofs.WholeLaws.{whole}
use Rattle.bench.proofs.writable.is_whole.Goals as goal

pub returns : goal.returns
returns c = λ yes.
    let rules' : IsMetadata c.args.m.now = subst IsMetadata c.m.view_is c.m.invariant in
    let dimensions : c.items.result.now ≡ c.args.m.now.dimensions = c.items.ensures ∙ ap (λ (n : Metadata). n.dimensions) c.m.view_is in
    let rank : length c.args.chunk.now ≡ length c.args.m.now.dimensions = omega (arith, c.if-chunk-items.false, ap length dimensions) in
    let zero : c.are_zero.result ≡ true = search rules in
    let same : c.items-2.result.now ≡ c.items-3.result.now = (slice_eq-Decides Decides-eqb c.items-2.result.now c.items-3.result.now c.eq.result c.eq.ensures).0 yes in
    whole c.args.m.now c.args.chunk.now rules' rank (c.are_zero.ensures zero)
    (sym (c.items-2.ensures ∙ ap (λ (n : Metadata). n.dimensions) c.m.view_is) ∙ same ∙ c.items-3.ensures ∙ ap (λ (n : Metadata). n.block) c.m.view_is)
