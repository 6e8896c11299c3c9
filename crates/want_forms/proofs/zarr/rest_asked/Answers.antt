use Rattle.std.proofs.Common.{rules, ◌≡◌, Err, refl}
use Rattle.want_forms.specs.Zarr.{rest_asked}
use Rattle.want_forms.proofs.zarr.rest_asked.Goals as goal

pub returns-in_err-fill-clause-causes : goal.returns-in_err-fill-clause-causes
unfolding rest_asked
returns-in_err-fill-clause-causes c =
    let passed : c.from_residual-in_err-fill.result ≡ Err c.in_err-fill.field-0.0 = search rules in
    rw passed (λ able. rw (
      ← c.judged_compressor.ensures,
      c.in_ok-in_turn.ensures.value,
      ← c.judged_separator.ensures,
      c.in_ok-slash.ensures.value,
      ← c.type_at.ensures.value,
      c.in_ok-in_turn-2.ensures.value,
      ← c.fill_asked.ensures.value,
      c.in_err-fill.ensures.causes able,
    ) refl)

pub returns-in_err-in_turn-3-clause-causes : goal.returns-in_err-in_turn-3-clause-causes
unfolding rest_asked
returns-in_err-in_turn-3-clause-causes c =
    let passed : c.from_residual-in_err-in_turn-3.result ≡ Err c.in_err-in_turn-3.field-0.0 = search rules in
    rw passed (λ able. rw (
      ← c.judged_compressor.ensures,
      c.in_ok-in_turn.ensures.value,
      ← c.judged_separator.ensures,
      c.in_ok-slash.ensures.value,
      ← c.type_at.ensures.value,
      c.in_ok-in_turn-2.ensures.value,
      ← c.fill_asked.ensures.value,
      c.in_ok-fill.ensures.value,
      ← c.judged_filters.ensures,
      c.in_err-in_turn-3.ensures.causes able,
    ) refl)

pub returns-in_err-order-clause-causes : goal.returns-in_err-order-clause-causes
unfolding rest_asked
returns-in_err-order-clause-causes c =
    let passed : c.from_residual-in_err-order.result ≡ Err c.in_err-order.field-0.0 = search rules in
    rw passed (λ able. rw (
      ← c.judged_compressor.ensures,
      c.in_ok-in_turn.ensures.value,
      ← c.judged_separator.ensures,
      c.in_ok-slash.ensures.value,
      ← c.type_at.ensures.value,
      c.in_ok-in_turn-2.ensures.value,
      ← c.fill_asked.ensures.value,
      c.in_ok-fill.ensures.value,
      ← c.judged_filters.ensures,
      c.in_ok-in_turn-3.ensures.value,
      ← c.judged_order.ensures,
      c.in_err-order.ensures.causes able,
    ) refl)

pub returns-clause-value : goal.returns-clause-value
unfolding rest_asked
returns-clause-value c =
    rw (
      ← c.judged_compressor.ensures,
      c.in_ok-in_turn.ensures.value,
      ← c.judged_separator.ensures,
      c.in_ok-slash.ensures.value,
      ← c.type_at.ensures.value,
      c.in_ok-in_turn-2.ensures.value,
      ← c.fill_asked.ensures.value,
      c.in_ok-fill.ensures.value,
      ← c.judged_filters.ensures,
      c.in_ok-in_turn-3.ensures.value,
      ← c.judged_order.ensures,
      c.in_ok-order.ensures.value,
    ) refl
