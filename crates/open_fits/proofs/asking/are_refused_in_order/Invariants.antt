use Rattle.std.proofs.Common.{◌≡◌, ℕ, suc, take}
use Rattle.std.specs.Prelude.{slice_index_or}
use Rattle.std.specs.List.{AllByRecursion}
use Rattle.history.specs.History.{History}
use Rattle.history.specs.Places.{IsTable}
use Rattle.read_fits.specs.Outline.{outline}
use Rattle.open_fits.specs.Opens.{IsRefusedAt}
use Rattle.open_fits.specs.declared.questions.OpenQuestion.{OpenQuestion}
use Rattle.open_fits.proofs.asking.are_refused_in_order.Given as goal

abbrev pub invariant-loop-question : goal.invariant-loop-question
invariant-loop-question l = record {
  table : IsTable (take l.seen l.openings.events) l.places;
  begin : l.question-index ≡ 0 → l.seen ≡ 0;
  later : (k : ℕ) (q : OpenQuestion) → l.question-index ≡ suc k → l.seen ≡ (slice_index_or l.questions k q).moment;
  done : (history : History) → outline history ≡ l.openings.events → AllByRecursion (IsRefusedAt history) (take l.question-index l.questions);
}
