use Rattle.std.proofs.Common.{◌≡◌, ◌∙◌, List, Some, refl, sym, ap, subst, length, cond}
use Rattle.std.specs.Prelude.{IsSome}
use Rattle.std.specs.List.{AllByRecursion}
use Rattle.std.specs.Str.{bytes_eq}
use Rattle.cells.specs.declared.run.Run.{Run}
use Rattle.cells.specs.Runs.{IsRunInside}
use Rattle.cells.specs.Written.{words_seen}
use Rattle.transaction_cells.specs.Found.{found}
use Rattle.transaction_cells.specs.Tables.{HasRoom, runs_written}
use Rattle.transaction_cells.proofs.TableLaws.{found-set}
use Rattle.transaction_cells.proofs.StagingLaws.{no_room, written_piece}
use Rattle.transaction_cells.proofs.staging.write_piece.Goals as goal

pub unreachable-requires : goal.unreachable-requires
unreachable-requires c =
    let old = c.args.table.now.entries in
    let p = c.args.piece.now in
    no_room p (length (words_seen c.args.words)) (found old p.id) ((c.requires p.id).0 refl) (ap (λ xs. found old xs) (sym c.items.ensures) ∙ sym c.in_default.ensures.value)

pub write_runs-requires : goal.write_runs-requires
write_runs-requires c =
    let old = c.args.table.now.entries in
    let p = c.args.piece.now in
    let there : found old p.id ≡ Some c.in-Some.staged.now = ap (λ xs. found old xs) (sym c.items.ensures) ∙ sym c.in-Some.ensures.value in
    let room : HasRoom p.runs (length (words_seen c.args.words)) (Some c.in-Some.staged.now) = subst (HasRoom p.runs (length (words_seen c.args.words))) there ((c.requires p.id).0 refl) in
    subst (λ (rs : List Run). AllByRecursion (λ run. IsRunInside run (length (words_seen c.args.words)) (length c.in-Some.staged.now)) rs) (sym c.items-2.ensures) room

pub returns : goal.returns
returns c id =
    let old = c.args.table.now.entries in
    let p = c.args.piece.now in
    let q = c.items.result.now in
    let words = words_seen c.args.words in
    let cells = c.in-Some.staged.now in
    let w = c.write_runs.new.staged in
    let there : found old p.id ≡ Some cells = ap (λ xs. found old xs) (sym c.items.ensures) ∙ sym c.in-Some.ensures.value in
    let some : IsSome (found old q) = subst IsSome c.in-Some.ensures.value refl in
    let written : w ≡ runs_written p.runs words cells = c.write_runs.ensures ∙ ap (λ (rs : List Run). runs_written rs words cells) c.items-2.ensures in
    ap (λ es. found es id) (c.get_mut.follows.holds w).0
    ∙ found-set q w id old some
    ∙ (λ i. cond (bytes_eq (c.items.ensures i) id) (Some (written i)) (found old id))
    ∙ written_piece p id words cells (found old id) (λ same. ap (λ xs. found old xs) (sym same) ∙ there)
