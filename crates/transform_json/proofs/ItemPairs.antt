-- Lists of two items.
use Rattle.std.proofs.Common.{◌≡◌, ◌≢◌, List, [], ◌∷◌, length, get_or, map, None, refl, arith}
use Rattle.std.specs.Prelude.{option_and_then, option_map}
use Rattle.serde_json.specs.View.{view}
use Rattle.serde_json.specs.declared.value.Value.{Value}
use Rattle.transform_json.specs.Output.{range_end, range_of_items}

pub not_two : (items : List Value) → length items ≢ 2 → None ≡ range_of_items (map view items)
not_two [] ne = refl
not_two (a ∷ []) ne = refl
not_two (a ∷ b ∷ []) ne = absurd (ne refl)
not_two (a ∷ b ∷ c ∷ items) ne = refl

pub two : (items : List Value) (a b : Value) → length items ≡ 2 → range_of_items (map view items) ≡ option_and_then (λ least. option_map (λ greatest. record { least = least; greatest = greatest }) (range_end (view (get_or items 1 b)))) (range_end (view (get_or items 0 a)))
two [] a b e = absurd (omega (arith, e))
two (x ∷ []) a b e = absurd (omega (arith, e))
two (x ∷ y ∷ []) a b e = refl
two (x ∷ y ∷ z ∷ items) a b e = absurd (omega (arith, e))
