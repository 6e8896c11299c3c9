use Rattle.std.proofs.Common.{◌≡◌, ◌<◌, ℕ, List, Option, None, length, get_or, sym, ap, subst, ◌∙◌}
use Rattle.std.specs.List.{AllByRecursion}
use Rattle.transcript_cut.specs.declared.said.Said.{Said}
use Rattle.transcript_cut.proofs.rise.are_rising.Goals as goal

pub rise_by_session-requires-clause-sessions : goal.rise_by_session-requires-clause-sessions
rise_by_session-requires-clause-sessions c =
    let count : length c.as_mut_slice.result.now ≡ c.args.sessions = ap (λ (xs : List (Option ℕ)). length xs) c.as_mut_slice.ensures.value ∙ c.in_ok-last.ensures.len in
    subst (λ n. AllByRecursion (λ (s : Said). s.line.session < n) c.args.said.now) (sym count) c.requires

pub rise_by_session-requires-clause-none : goal.rise_by_session-requires-clause-none
rise_by_session-requires-clause-none c = subst (λ xs. (k : ℕ) → get_or xs k None ≡ None) (sym c.as_mut_slice.ensures.value) c.in_ok-last.ensures.none
