use Rattle.std.proofs.Common.{arith}
use Rattle.chunk_laying.proofs.NthLaws.{first_of_all, first_of_kept, first_of_lost}
use Rattle.chunk_laying.proofs.listing.first_along.Goals as goal

pub nonzero_div-result : goal.nonzero_div-result
nonzero_div-result c =
    let first = first_of_all c.args.chunk_shape.now c.args.old.now c.args.new.now c.args.behind.all c.args.behind.cut c.args.place c.args.is_cut c.if-is_cut.true
    c.requires.some c.requires.old c.requires.new c.requires.behind c.requires.below c.requires.few in
    first.1

pub nonzero_rem-result : goal.nonzero_rem-result
nonzero_rem-result c =
    let first = first_of_all c.args.chunk_shape.now c.args.old.now c.args.new.now c.args.behind.all c.args.behind.cut c.args.place c.args.is_cut c.if-is_cut.true
    c.requires.some c.requires.old c.requires.new c.requires.behind c.requires.below c.requires.few in
    first.1

pub returns-then-is_cut-clause-chunk : goal.returns-then-is_cut-clause-chunk
returns-then-is_cut-clause-chunk c =
    let first = first_of_all c.args.chunk_shape.now c.args.old.now c.args.new.now c.args.behind.all c.args.behind.cut c.args.place c.args.is_cut c.if-is_cut.true
    c.requires.some c.requires.old c.requires.new c.requires.behind c.requires.below c.requires.few in
    first.0.chunk

pub returns-then-is_cut-clause-below : goal.returns-then-is_cut-clause-below
returns-then-is_cut-clause-below c =
    let first = first_of_all c.args.chunk_shape.now c.args.old.now c.args.new.now c.args.behind.all c.args.behind.cut c.args.place c.args.is_cut c.if-is_cut.true
    c.requires.some c.requires.old c.requires.new c.requires.behind c.requires.below c.requires.few in
    first.0.below

pub nonzero_div-result-else-place-kept : goal.nonzero_div-result-else-place-kept
nonzero_div-result-else-place-kept c =
    let first = first_of_lost c.args.chunk_shape.now c.args.old.now c.args.new.now c.args.behind.all c.args.behind.cut c.args.place c.div_ceil-count.result c.whole_along-whole.result c.min.result c.args.is_cut c.if-is_cut.false
    c.requires.some c.requires.old c.requires.new c.requires.chunks c.requires.behind c.requires.below c.requires.few
    c.div_ceil-count.ensures c.whole_along-whole.ensures.value c.whole_along-whole.ensures.most c.min.ensures c.if-place-kept.false in
    first.1.0

pub overflow_add-result : goal.overflow_add-result
overflow_add-result c =
    let first = first_of_lost c.args.chunk_shape.now c.args.old.now c.args.new.now c.args.behind.all c.args.behind.cut c.args.place c.div_ceil-count.result c.whole_along-whole.result c.min.result c.args.is_cut c.if-is_cut.false
    c.requires.some c.requires.old c.requires.new c.requires.chunks c.requires.behind c.requires.below c.requires.few
    c.div_ceil-count.ensures c.whole_along-whole.ensures.value c.whole_along-whole.ensures.most c.min.ensures c.if-place-kept.false in
    omega (arith, first.1.1)

pub nonzero_rem-result-else-place-kept : goal.nonzero_rem-result-else-place-kept
nonzero_rem-result-else-place-kept c =
    let first = first_of_lost c.args.chunk_shape.now c.args.old.now c.args.new.now c.args.behind.all c.args.behind.cut c.args.place c.div_ceil-count.result c.whole_along-whole.result c.min.result c.args.is_cut c.if-is_cut.false
    c.requires.some c.requires.old c.requires.new c.requires.chunks c.requires.behind c.requires.below c.requires.few
    c.div_ceil-count.ensures c.whole_along-whole.ensures.value c.whole_along-whole.ensures.most c.min.ensures c.if-place-kept.false in
    first.1.0

pub returns-then-place-kept-clause-chunk : goal.returns-then-place-kept-clause-chunk
returns-then-place-kept-clause-chunk c =
    let first = first_of_kept c.args.chunk_shape.now c.args.old.now c.args.new.now c.args.behind.all c.args.behind.cut c.args.place c.div_ceil-count.result c.whole_along-whole.result c.min.result c.args.is_cut c.if-is_cut.false
    c.requires.some c.requires.old c.requires.new c.requires.chunks c.requires.behind c.requires.few
    c.div_ceil-count.ensures c.whole_along-whole.ensures.value c.whole_along-whole.ensures.most c.min.ensures c.if-place-kept.true in
    first.chunk

pub returns-then-place-kept-clause-below : goal.returns-then-place-kept-clause-below
returns-then-place-kept-clause-below c =
    let first = first_of_kept c.args.chunk_shape.now c.args.old.now c.args.new.now c.args.behind.all c.args.behind.cut c.args.place c.div_ceil-count.result c.whole_along-whole.result c.min.result c.args.is_cut c.if-is_cut.false
    c.requires.some c.requires.old c.requires.new c.requires.chunks c.requires.behind c.requires.few
    c.div_ceil-count.ensures c.whole_along-whole.ensures.value c.whole_along-whole.ensures.most c.min.ensures c.if-place-kept.true in
    first.below

pub returns-else-place-kept-clause-chunk : goal.returns-else-place-kept-clause-chunk
returns-else-place-kept-clause-chunk c =
    let first = first_of_lost c.args.chunk_shape.now c.args.old.now c.args.new.now c.args.behind.all c.args.behind.cut c.args.place c.div_ceil-count.result c.whole_along-whole.result c.min.result c.args.is_cut c.if-is_cut.false
    c.requires.some c.requires.old c.requires.new c.requires.chunks c.requires.behind c.requires.below c.requires.few
    c.div_ceil-count.ensures c.whole_along-whole.ensures.value c.whole_along-whole.ensures.most c.min.ensures c.if-place-kept.false in
    first.0.chunk

pub returns-else-place-kept-clause-below : goal.returns-else-place-kept-clause-below
returns-else-place-kept-clause-below c =
    let first = first_of_lost c.args.chunk_shape.now c.args.old.now c.args.new.now c.args.behind.all c.args.behind.cut c.args.place c.div_ceil-count.result c.whole_along-whole.result c.min.result c.args.is_cut c.if-is_cut.false
    c.requires.some c.requires.old c.requires.new c.requires.chunks c.requires.behind c.requires.below c.requires.few
    c.div_ceil-count.ensures c.whole_along-whole.ensures.value c.whole_along-whole.ensures.most c.min.ensures c.if-place-kept.false in
    first.0.below
