use Rattle.std.proofs.Common.{rules, ◌≡◌, Err, refl}
use Rattle.want_forms.specs.Zarr3.{rest_asked}
use Rattle.want_forms.proofs.zarr3.rest_asked.Goals as goal

pub returns-in_err-in_turn-clause-causes : goal.returns-in_err-in_turn-clause-causes
unfolding rest_asked
returns-in_err-in_turn-clause-causes c =
    let passed : c.from_residual-in_err-in_turn.result ≡ Err c.in_err-in_turn.field-0.0 = search rules in
    rw passed (λ able. rw (← c.judged_keys.ensures, c.in_ok-dot.ensures.value, ← c.codecs_asked.ensures.value, c.in_ok-big.ensures.value, ← c.dtype_at.ensures, c.in_err-in_turn.ensures.causes able) refl)

pub returns-in_err-fill-clause-causes : goal.returns-in_err-fill-clause-causes
unfolding rest_asked
returns-in_err-fill-clause-causes c =
    let passed : c.from_residual-in_err-fill.result ≡ Err c.in_err-fill.field-0.0 = search rules in
    rw passed (λ able. rw (
      ← c.judged_keys.ensures,
      c.in_ok-dot.ensures.value,
      ← c.codecs_asked.ensures.value,
      c.in_ok-big.ensures.value,
      ← c.dtype_at.ensures,
      c.in_ok-in_turn.ensures.value,
      ← c.whole_at.ensures,
      ← c.word_asked-word.ensures.value,
      c.in_err-fill.ensures.causes able,
    ) refl)

pub returns-in_err-in_turn-2-clause-causes : goal.returns-in_err-in_turn-2-clause-causes
unfolding rest_asked
returns-in_err-in_turn-2-clause-causes c =
    let passed : c.from_residual-in_err-in_turn-2.result ≡ Err c.in_err-in_turn-2.field-0.0 = search rules in
    rw passed (λ able. rw (
      ← c.judged_keys.ensures,
      c.in_ok-dot.ensures.value,
      ← c.codecs_asked.ensures.value,
      c.in_ok-big.ensures.value,
      ← c.dtype_at.ensures,
      c.in_ok-in_turn.ensures.value,
      ← c.whole_at.ensures,
      ← c.word_asked-word.ensures.value,
      c.in_ok-fill.ensures.value,
      ← c.judged_node.ensures,
      c.in_err-in_turn-2.ensures.causes able,
    ) refl)
