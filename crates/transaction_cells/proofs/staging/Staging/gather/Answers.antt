use Rattle.std.proofs.Common.{◌≡◌, ◌∙◌, ◌++◌, Some, sym, ap, subst, arith, length, map, take, drop}
use Rattle.std.proofs.Math.Seq.{take-append_seam}
use Rattle.std.specs.List.{AllByRecursion}
use Rattle.cells.specs.Numbers.{IsWord}
use Rattle.stack_driver.specs.Views.{look_of}
use Rattle.transaction_cells.specs.Sites.{sites_of}
use Rattle.transaction_cells.proofs.ShownLaws.{shown_view}
use Rattle.transaction_cells.proofs.TypedLaws.{shown_typed}
use Rattle.transaction_cells.proofs.staging.Staging.gather.Goals as goal

pub returns-clause-value : goal.returns-clause-value
returns-clause-value c sites are =
    let out = c.show.new.out in
    let rest = drop (length out) c.in_ok-words.words.items in
    let all : c.in_ok-words.words.len ≡ length out = omega arith in
    ap (λ n. take n (out ++ rest)) all ∙ take-append_seam out rest ∙ c.show.ensures sites are

pub returns-clause-history : goal.returns-clause-history
returns-clause-history c events v ops content leaves has are h told =
    ap (map Some) (returns-clause-value c (sites_of v) are) ∙ shown_view events content c.args.cells.now.pieces c.args.chunks.now ops c.args.self.now h v leaves has told

pub returns-clause-typed : goal.returns-clause-typed
returns-clause-typed c events v ops leaves has are h typed =
    subst (AllByRecursion (IsWord (look_of v).dtype)) (sym (returns-clause-value c (sites_of v) are)) (shown_typed events v ops c.args.self.now c.args.cells.now.pieces c.args.chunks.now leaves has h typed)
