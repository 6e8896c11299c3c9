use Rattle.std.proofs.Common.{◌∙◌, [], inr, sym, ap, subst, refl, map}
use Rattle.std.specs.Cmp.Lexicographic.{slice_cmp}
use Rattle.std.specs.List.Sorted.{IsPermutation, IsSortedByKey}
use Rattle.std.specs.Ordering.{nat_cmp}
use Rattle.commits.specs.Sorting.{key_of_mark}
use Rattle.transactions.specs.Marking.{mark_of_kept}
use Rattle.transactions.specs.Preparing.{seen_part, txn_of}
use Rattle.transactions.specs.Txn.{transaction_of}
use Rattle.transactions.proofs.CommitLaws.{all_ready, may_commit_later, parts_later, recorded_turned, txn_turned}
use Rattle.transactions.proofs.CommitTurns.{commit_behind, wanting_answer}
use Rattle.transactions.proofs.preparing.commit_kept.Goals as goal

pub ask_in_turn-requires-clause-parts : goal.ask_in_turn-requires-clause-parts
ask_in_turn-requires-clause-parts g c =
    let t = txn_of c.args.line c.args.mode c.args.ops.now c.args.staging.now c.args.kept.now in
    parts_later c.args.around.now.book.now.fixed c.args.pass.now.seen t c.in_ok-parts.parts.items c.requires.txn c.in_ok-parts.ensures.apart c.in_ok-parts.ensures.parts

pub write_all-requires : goal.write_all-requires
write_all-requires g c = all_ready c.args.around.now.book.now.fixed c.ask_in_turn.new.pass.seen c.in_ok-asked.asked.items c.in_ok-asked.ensures.asked

pub returns-in_err-marks : goal.returns-in_err-marks
returns-in_err-marks g c = wanting_answer c.args.around.now.book.now c.args.pass.now c.ask_in_turn.new.pass _ c.from_residual-in_err-marks.result c.in_ok-asked.ensures.turned c.from_residual-in_err-marks.ensures.1

pub returns-in_err-ops : goal.returns-in_err-ops
returns-in_err-ops g c = wanting_answer c.args.around.now.book.now c.args.pass.now c.ask_in_turn.new.pass _ c.from_residual-in_err-ops.result c.in_ok-asked.ensures.turned c.from_residual-in_err-ops.ensures.1

pub commit_in_turn-requires-clause-prepared : goal.commit_in_turn-requires-clause-prepared
commit_in_turn-requires-clause-prepared g c =
    let book = c.args.around.now.book.now in
    let t = txn_of c.args.line c.args.mode c.args.ops.now c.args.staging.now c.args.kept.now in
    let old = c.args.pass.now in
    let mid = c.ask_in_turn.new.pass in
    let turned = c.in_ok-asked.ensures.turned in (
      transaction_of t,
      may_commit_later book.fixed mid.seen t _ (txn_turned book old mid [] t turned c.requires.txn) (recorded_turned book old mid [] t turned c.requires.txn c.requires.recorded)
          (record {
            asked = c.in_ok-asked.asked.items;
            unsorted = c.in_ok-write_all.field-0.items;
            line = refl;
            mode = refl;
            ops = c.in_ok-ops.ensures;
            distinct = c.in_ok-parts.ensures.apart;
            are_asked = c.in_ok-asked.ensures.asked;
            are_for = c.in_ok-write_all.ensures;
            parts = ap (map seen_part) c.in_ok-asked.ensures.parts ∙ c.in_ok-parts.ensures.parts;
            moves = c.in_order-writes.ensures.permutation;
            sorted = c.in_order-writes.ensures.sorted;
            marks = subst (IsPermutation (map mark_of_kept c.args.kept.now)) (sym c.deref.ensures.value) c.in_ok-marks.ensures.permutation;
            marks_sorted = subst (IsSortedByKey key_of_mark (slice_cmp nat_cmp)) (sym c.deref.ensures.value) c.in_ok-marks.ensures.sorted;
          }),
    )

pub returns : goal.returns
returns g c =
    let book = c.args.around.now.book.now in
    let t = txn_of c.args.line c.args.mode c.args.ops.now c.args.staging.now c.args.kept.now in
    let old = c.args.pass.now in
    let mid = c.ask_in_turn.new.pass in
    let turned = c.in_ok-asked.ensures.turned in
    inr
    (commit_behind book old mid c.commit_in_turn.new.pass (transaction_of t) c.commit_in_turn.result turned
    (c.commit_in_turn.ensures (transaction_of t)
    (may_commit_later book.fixed mid.seen t _ (txn_turned book old mid [] t turned c.requires.txn) (recorded_turned book old mid [] t turned c.requires.txn c.requires.recorded)
    (record {
      asked = c.in_ok-asked.asked.items;
      unsorted = c.in_ok-write_all.field-0.items;
      line = refl;
      mode = refl;
      ops = c.in_ok-ops.ensures;
      distinct = c.in_ok-parts.ensures.apart;
      are_asked = c.in_ok-asked.ensures.asked;
      are_for = c.in_ok-write_all.ensures;
      parts = ap (map seen_part) c.in_ok-asked.ensures.parts ∙ c.in_ok-parts.ensures.parts;
      moves = c.in_order-writes.ensures.permutation;
      sorted = c.in_order-writes.ensures.sorted;
      marks = subst (IsPermutation (map mark_of_kept c.args.kept.now)) (sym c.deref.ensures.value) c.in_ok-marks.ensures.permutation;
      marks_sorted = subst (IsSortedByKey key_of_mark (slice_cmp nat_cmp)) (sym c.deref.ensures.value) c.in_ok-marks.ensures.sorted;
    }))))
