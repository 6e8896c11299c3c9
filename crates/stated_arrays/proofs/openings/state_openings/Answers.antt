use Rattle.std.proofs.Common.{[], length, sym, ap, subst, ◌∙◌}
use Rattle.std.proofs.lemmas.Result.{IfOk-weaker}
use Rattle.std.specs.List.{AllByRecursion}
use Rattle.stated_arrays.specs.Lines.{IsSoundLine, IsFreshLine}
use Rattle.stated_arrays.specs.Openings.{IsStating}
use Rattle.stated_arrays.specs.Stating.{IsStatingOf}
use Rattle.stated_arrays.proofs.Exact.{exact_table}
use Rattle.stated_arrays.proofs.Kept.{fresh_of}
use Rattle.stated_arrays.proofs.Told.{placed_of, stated_by_told}
use Rattle.stated_arrays.proofs.openings.state_openings.Goals as goal

pub keep_lines-requires-clause-placed : goal.keep_lines-requires-clause-placed
keep_lines-requires-clause-placed c = placed_of c.args.scripts.now c.requires.numbered.transcript c.args.said.now c.requires.numbered.told c.requires.numbered.said_of

pub state_lines-requires : goal.state_lines-requires
state_lines-requires c =
    let same = sym c.as_mut_slice.ensures.value in
    record {
      sound = subst (AllByRecursion IsSoundLine) same c.in_ok-lines.ensures.sound;
      fresh = subst (AllByRecursion IsFreshLine) same (fresh_of [] c.requires.numbered.told c.in_ok-lines.lines.items (c.in_ok-lines.ensures.kept c.requires.numbered.transcript c.requires.numbered.told c.requires.numbered.said_of));
      count = ap length c.as_mut_slice.ensures.value ∙ c.in_ok-lines.ensures.count;
      table = exact_table c.args.scripts.now c.requires.numbered.transcript c.args.said.now c.requires.numbered.told c.args.spots.now c.requires.numbered.said_of c.requires.numbered.numbered c.requires.numbered.table;
    }

pub returns : goal.returns
returns c =
    IfOk-weaker c.state_lines.result (IsStatingOf c.args.said.now c.as_mut_slice.result.now) (IsStating c.args.scripts.now c.args.said.now)
    (λ o is. stated_by_told c.args.scripts.now c.args.said.now c.in_ok-lines.lines.items c.in_ok-lines.ensures.kept o (subst (λ ls. IsStatingOf c.args.said.now ls o) c.as_mut_slice.ensures.value is)) c.state_lines.ensures
