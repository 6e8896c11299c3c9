-- Arrays stay as events follow.
use Rattle.std.proofs.Common.{◌≡◌, ◌∙◌, ◌++◌, length, take, Some, sym, ap}
use Rattle.std.specs.FinMap as finmap
use Rattle.std.proofs.lemmas.List.{take-map}
use Rattle.std.proofs.Math.Seq.{take-append_seam}
use Rattle.history.specs.Arrays.{known_after}
use Rattle.history.specs.History.{History}
use Rattle.history.specs.Legal.{IsLegal}
use Rattle.history.proofs.Laws.{known_still}
use Rattle.shared_state.specs.Outline.{outline, outlined_event}
use Rattle.shared_state.proofs.Laws.{known-outline}
use Rattle.transaction_cells.specs.Operations.{IsGrowing, KeepsArrays}

-- arrays that were opened as a history may stay
pub grows_in : (events : History) → IsLegal finmap.empty (outline events) → IsGrowing events
grows_in events legal n a k is =
    let early : known_after (take n (outline events)) a ≡ Some k = ap (λ h. known_after h a) (take-map outlined_event n events) ∙ known-outline a (take n events) ∙ is in
    let still = known_still finmap.empty (outline events) a n k legal early in
    (still.0, sym (known-outline a events) ∙ still.1, still.2)

-- arrays of the first events stay as others follow
pub keeps_front : (early more : History) → IsLegal finmap.empty (outline (early ++ more)) → KeepsArrays early (early ++ more)
keeps_front early more legal a k is = grows_in (early ++ more) legal (length early) a k (ap (λ h. known_after h a) (take-append_seam early more) ∙ is)
