use Rattle.std.proofs.Common.{◌≡◌, [], ◌∷◌, ◌++◌, true, Some, None, sym, ap, subst, ◌∙◌}
use Rattle.std.specs.FinMap as finmap
use Rattle.std.specs.Option.{option_copied}
use Rattle.locations.specs.Paths.{begins, IsLeastClash, HasNoClash}
use Rattle.locations.specs.Tables.{place_at, numbers_of, IsLeastBelow}
use Rattle.locations.proofs.Clashes.{taken_above, taken_below, not_taken}
use Rattle.locations.proofs.Tables.{number_some, number_none}
use Rattle.locations.proofs.table.Locations.find.Goals as goal

pub returns-in-Some-clause-taken : goal.returns-in-Some-clause-taken
returns-in-Some-clause-taken c = λ other is.
    let table = c.self.inside.table in
    let found = sym c.above.ensures ∙ ap option_copied c.in-Some.is in
    let here : c.as_bytes-here.result.now ≡ c.args.location.now = c.as_bytes-here.ensures.value in
    let clash = taken_above table c.self.invariant c.as_bytes-here.result.now c.in-Some.place.now found in
    let same = c.taken.ensures _ is in
    let text : c.in-Some.place.now.text ≡ other = cc in
    subst (λ places. IsLeastClash places c.args.location.now other) c.self.view_is (subst (λ l. IsLeastClash (numbers_of table.entries) l other) here (subst (IsLeastClash (numbers_of table.entries) c.as_bytes-here.result.now) text clash))

pub returns-in-Some-below-clause-taken : goal.returns-in-Some-below-clause-taken
returns-in-Some-below-clause-taken c = λ other is.
    let table = c.self.inside.table in
    let none = sym c.above.ensures ∙ ap option_copied c.in_default.is in
    let here : c.as_bytes-here.result.now ≡ c.args.location.now = c.as_bytes-here.ensures.value in
    let from : c.push.new.self.items ≡ c.as_bytes-here.result.now ++ 47 ∷ [] = c.in_ok-push.ensures.items ∙ ap (λ xs. xs ++ 47 ∷ []) (c.in_ok-extend_from_slice.ensures.items ∙ ap (λ xs. xs ++ c.as_bytes-here.result.now) c.in_ok-from.ensures.items) in
    let least = subst (λ xs. IsLeastBelow (place_at table) xs c.in-Some-below.place.now) from c.in-Some-below.ensures.some in
    let clash = taken_below table c.self.invariant c.as_bytes-here.result.now c.in-Some-below.place.now none least in
    let same = c.taken-in-Some-below.ensures _ is in
    let text : c.in-Some-below.place.now.text ≡ other = cc in
    subst (λ places. IsLeastClash places c.args.location.now other) c.self.view_is (subst (λ l. IsLeastClash (numbers_of table.entries) l other) here (subst (IsLeastClash (numbers_of table.entries) c.as_bytes-here.result.now) text clash))

pub returns-in-Some-get-clause-there : goal.returns-in-Some-get-clause-there
returns-in-Some-get-clause-there c = λ number is.
    let table = c.self.inside.table in
    let none = sym c.above.ensures ∙ ap option_copied c.in_default.is in
    let here : c.as_bytes-here.result.now ≡ c.args.location.now = c.as_bytes-here.ensures.value in
    let from : c.push.new.self.items ≡ c.as_bytes-here.result.now ++ 47 ∷ [] = c.in_ok-push.ensures.items ∙ ap (λ xs. xs ++ 47 ∷ []) (c.in_ok-extend_from_slice.ensures.items ∙ ap (λ xs. xs ++ c.as_bytes-here.result.now) c.in_ok-from.ensures.items) in
    let free = not_taken table c.self.invariant c.as_bytes-here.result.now none (λ t begun. c.below.ensures.none c.in_default-below.is t (subst (λ xs. begins xs t ≡ true) (sym from) begun)) in
    let there : place_at table c.as_bytes-here.result.now ≡ Some c.in-Some-get.place.now = sym c.get.ensures.value ∙ ap option_copied c.in-Some-get.is in
    let same : c.in-Some-get.place.now.number ≡ number = cc in (
      ap (λ places. finmap.get places c.args.location.now) (sym c.self.view_is) ∙ ap (finmap.get (numbers_of table.entries)) (sym here) ∙ number_some table c.as_bytes-here.result.now c.in-Some-get.place.now there ∙ ap Some same,
      subst (λ places. HasNoClash places c.args.location.now) c.self.view_is (subst (HasNoClash (numbers_of table.entries)) here free),
    )

pub returns-clause-free : goal.returns-clause-free
returns-clause-free c = λ is.
    let table = c.self.inside.table in
    let none = sym c.above.ensures ∙ ap option_copied c.in_default.is in
    let here : c.as_bytes-here.result.now ≡ c.args.location.now = c.as_bytes-here.ensures.value in
    let from : c.push.new.self.items ≡ c.as_bytes-here.result.now ++ 47 ∷ [] = c.in_ok-push.ensures.items ∙ ap (λ xs. xs ++ 47 ∷ []) (c.in_ok-extend_from_slice.ensures.items ∙ ap (λ xs. xs ++ c.as_bytes-here.result.now) c.in_ok-from.ensures.items) in
    let free = not_taken table c.self.invariant c.as_bytes-here.result.now none (λ t begun. c.below.ensures.none c.in_default-below.is t (subst (λ xs. begins xs t ≡ true) (sym from) begun)) in
    let gone : place_at table c.as_bytes-here.result.now ≡ None = sym c.get.ensures.value ∙ ap option_copied c.in-None.is in (
      ap (λ places. finmap.get places c.args.location.now) (sym c.self.view_is) ∙ ap (finmap.get (numbers_of table.entries)) (sym here) ∙ number_none table c.as_bytes-here.result.now gone,
      subst (λ places. HasNoClash places c.args.location.now) c.self.view_is (subst (HasNoClash (numbers_of table.entries)) here free),
    )
