use Rattle.std.proofs.Common.{rules, ◌≡◌, Err, refl}
use Rattle.want_forms.specs.N5.{dimensions_asked}
use Rattle.want_forms.proofs.n5.dimensions_asked.Goals as goal

pub returns-in_err-in_turn-2-clause-causes : goal.returns-in_err-in_turn-2-clause-causes
unfolding dimensions_asked
returns-in_err-in_turn-2-clause-causes c =
    let passed : c.from_residual-in_err-in_turn-2.result ≡ Err c.in_err-in_turn-2.field-0.0 = search rules in
    rw passed (λ able. rw (← c.judged_compression.ensures, c.in_ok-in_turn.ensures.value, ← c.judged_dtype.ensures, c.in_err-in_turn-2.ensures.causes able) refl)

pub returns-in_err-dimensions-clause-causes : goal.returns-in_err-dimensions-clause-causes
unfolding dimensions_asked
returns-in_err-dimensions-clause-causes c =
    let passed : c.from_residual-in_err-dimensions.result ≡ Err c.in_err-dimensions.field-0.0 = search rules in
    rw passed (λ able. rw (← c.judged_compression.ensures, c.in_ok-in_turn.ensures.value, ← c.judged_dtype.ensures, c.in_ok-in_turn-2.ensures.value, c.in_err-dimensions.ensures.causes able) refl)

pub returns-in_err-none_left-clause-causes : goal.returns-in_err-none_left-clause-causes
unfolding dimensions_asked
returns-in_err-none_left-clause-causes c =
    let passed : c.from_residual-in_err-none_left.result ≡ Err c.in_err-none_left.field-0.0 = search rules in
    rw passed (λ able. rw (← c.judged_compression.ensures, c.in_ok-in_turn.ensures.value, ← c.judged_dtype.ensures, c.in_ok-in_turn-2.ensures.value, c.in_ok-dimensions.ensures.value, c.in_err-none_left.ensures.causes able) refl)

pub returns-clause-value : goal.returns-clause-value
unfolding dimensions_asked
returns-clause-value c =
    rw (← c.judged_compression.ensures, c.in_ok-in_turn.ensures.value, ← c.judged_dtype.ensures, c.in_ok-in_turn-2.ensures.value, c.in_ok-dimensions.ensures.value, c.in_ok-none_left.ensures.value) refl
