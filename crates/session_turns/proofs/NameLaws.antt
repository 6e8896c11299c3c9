-- Names of views of known arrays, as events follow.
use Rattle.std.proofs.Common.{◌≡◌, ◌∙◌, length, take, Some, Ok, sym, ap, subst, arith, length-append}
use Rattle.std.proofs.Math.Seq.{take-append_seam, take-length}
use Rattle.std.specs.FinMap as finmap
use mathlib.Core.List.{IsPrefix}
use Rattle.history.specs.Arrays.{known_after}
use Rattle.history.specs.Bound.{AreKnownNames}
use Rattle.history.specs.Content.{present_shape}
use Rattle.history.specs.History.{History}
use Rattle.history.specs.Legal.{IsLegal}
use Rattle.history.specs.Refs.{HasKnownRefs}
use Rattle.history.specs.ResizeRows.{shape_after}
use Rattle.history.specs.Sessions.{Names}
use Rattle.history.proofs.Laws.{view_later, array_known}
use Rattle.history.proofs.KnownViews.{known_renewed}
use Rattle.session_turns.proofs.RefLaws.{ref_there}
use Rattle.stack_driver.specs.References.{Reference}
use Rattle.stack_driver.specs.Renewed.{array_of, renewed}
use Rattle.stack_driver.specs.declared.view.View.{View}
use Rattle.state_resizes.specs.Outline.{outline}

-- a view of known arrays is one as events follow
pub view_then : (early late : History) (v : View) → IsPrefix early late → HasKnownRefs early v → HasKnownRefs late v
view_then early late v grown refs =
    let sum = length-append early grown.0 in
    let size = ap length grown.1 in
    let front : take (length early) late ≡ early = sym (ap (take (length early)) grown.1) ∙ take-append_seam early grown.0 in
    subst (λ h. HasKnownRefs h v) (take-length late) (view_later late (length early) (length late) (omega (arith, sum, size)) v (subst (λ h. HasKnownRefs h v) (sym front) refs))

-- so are the names
pub names_then : (early late : History) (names : Names) → IsPrefix early late → AreKnownNames early names → AreKnownNames late names
names_then early late names grown known name view is = view_then early late view grown (known name view is)

-- a view with the bounds of its array's present shape is of that array
pub renewed_known : (events : History) (view made : View) (r : Reference) → IsLegal finmap.empty (outline events) → HasKnownRefs events view → array_of view ≡ Some r → renewed (shape_after events r.number) view ≡ Ok made → HasKnownRefs events made
renewed_known events view made r legal refs leaf is =
    let there = ref_there events r legal (array_known events view r refs leaf) in
    let shape : shape_after events r.number ≡ there.array.shape = ap present_shape there.known in
    known_renewed events there.array.shape view made r (ap (λ s. renewed s view) (sym shape) ∙ is) leaf
    (record { seen = length events; array = there.array; known = ap (λ h. known_after h r.number) (take-length events) ∙ there.known; same = there.named })
