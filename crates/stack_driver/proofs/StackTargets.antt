-- A stack over its own domain shows the last layer that has the cell.
use Rattle.std.proofs.Common.{◌≡◌, ◌∙◌, ℕ, ◌+◌, ◌<◌, suc, ℤ, pos, ◌+ℤ◌, ◌*ℤ◌, List, [], ◌∷◌, length, map, get_or, Err, refl, ap, arith}
use Rattle.std.proofs.Math.IntN.{*ℤ_comm, *ℤ-one, one}
use Rattle.std.proofs.lemmas.Int.{ints}
use Rattle.transform_composition.specs.Bounds.{Bounds}
use Rattle.transform_composition.specs.declared.Domain.{Domain}
use Rattle.transform_composition.specs.Identity.{identity_maps, identity_over}
use Rattle.transform_composition.specs.Values.{map_value, value_at}
use Rattle.stack_driver.specs.Stacks.{HasLastTargets}
use Rattle.stack_driver.specs.Views.{Look, look_of, last_target}
use Rattle.stack_driver.specs.declared.error.TargetError.TheVariants.{Uncovered}
use Rattle.stack_driver.specs.declared.view.View.{View}
use Rattle.stack_driver.specs.declared.view.View.TheVariants as view
use Rattle.stack_driver.proofs.Looks.{look-Stack}

one_times : (x : ℤ) → pos 1 *ℤ x ≡ x
unfolding one
one_times x = *ℤ_comm (pos 1) x ∙ *ℤ-one x

none_added : (x : ℤ) → pos 0 +ℤ pos 1 *ℤ x ≡ x
none_added x = let e = one_times x in omega (arith, ints, e)

values : (all : List Bounds) (index : List ℤ) (k : ℕ) (dims : List Bounds) (rest : List ℤ) → length rest ≡ length dims
    → ((i : ℕ) → i < length rest → get_or index (k + i) (pos 0) ≡ get_or rest i (pos 0)) → map (map_value all index) (identity_maps k dims) ≡ rest
values all index k [] [] same at = refl
values all index k [] (x ∷ xs) same at = absurd (omega (arith, same))
values all index k (d ∷ ds) [] same at = absurd (omega (arith, same))
values all index k (d ∷ ds) (x ∷ xs) same at =
    let z : k + 0 ≡ k = omega arith in
    let here = (rw z at (at 0 (omega arith))) in
    let rest = values all index (k + 1) ds xs (omega (arith, same)) (λ i b. let y : (k + 1) + i ≡ k + suc i = omega arith in rw y (at (suc i) (omega (arith, b)))) in
    ap (λ v. v ∷ map (map_value all index) (identity_maps (k + 1) ds)) (none_added (get_or index k (pos 0)) ∙ here) ∙ ap (λ vs. x ∷ vs) rest

-- the identity gives back the index vector
pub value_at-identity : (domain : Domain) (index : List ℤ) → length index ≡ length domain.dims → value_at (identity_over domain) index ≡ index
value_at-identity domain index same =
    values domain.dims index 0 domain.dims index same (λ i b. let z : 0 + i ≡ i = omega arith in ap (λ n. get_or index n (pos 0)) z)

pub last_targets : (layers : List View) (domain : Domain) → HasLastTargets (view.Stack layers (identity_over domain)) layers
last_targets layers domain index same =
    let t = identity_over domain in
    let dims : length index ≡ length domain.dims = same ∙ ap (λ (l : Look). length l.dims) (look-Stack layers t) in
    ap (λ (l : Look). l.target index) (look-Stack layers t)
    ∙ ap (λ x. last_target (map look_of layers) x (Err Uncovered)) (value_at-identity domain index dims)
