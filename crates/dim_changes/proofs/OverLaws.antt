-- What a step gives over a transform that tightening makes known.
use Rattle.std.proofs.Common.{◌≡◌, ◌∙◌, sym, subst, Result, Ok, Err}
use Rattle.transform_composition.specs.Transforms.{DomainAndMaps}
use Rattle.transform_composition.specs.Tightening.{tighten_answer}
use Rattle.transform_composition.specs.Composing.{composed}
use Rattle.dim_changes.specs.Causes.{or_cause, over, IsFaultOf, Follows, Gives}
use Rattle.dim_changes.specs.declared.cause.Cause.{Cause}
use Rattle.dim_changes.specs.declared.cause.Fault.{Fault}
use Rattle.dim_changes.specs.declared.cause.Fault.TheVariants as fault
use Rattle.dim_changes.proofs.StepLemmas.{over-tight}

same_fault : (a b : Result DomainAndMaps Cause) (f : Fault) → a ≡ b → IsFaultOf a f → IsFaultOf b f
same_fault a b (fault.Refused c) e is = sym e ∙ is
same_fault a b fault.Memory e is = tt

-- over a transform that tightening gives, what follows the one that was built follows it too
pub gives-tightened : (u built inner : DomainAndMaps) (r : Result DomainAndMaps Fault) → tighten_answer built u.domain ≡ Ok inner
    → ((t : DomainAndMaps) → Follows t u built → Follows t u inner) → Gives u built (or_cause (composed u built)) r → Gives u inner (over u inner) r
gives-tightened u built inner (Ok t) tight more given = (sym (over-tight u built inner tight) ∙ given.0, more t given.1)
gives-tightened u built inner (Err f) tight more given = same_fault (or_cause (composed u built)) (over u inner) f (over-tight u built inner tight) given

-- the same for a view that tightening leaves as it is
pub gives-over : (u built view : DomainAndMaps) (r : Result DomainAndMaps Fault) → built ≡ view → tighten_answer view u.domain ≡ Ok view
    → Gives u built (or_cause (composed u built)) r → Gives u view (over u view) r
gives-over u built view r same tight given =
    gives-tightened u view view r tight (λ t f. f) (subst (λ (b : DomainAndMaps). Gives u b (or_cause (composed u b)) r) same given)

-- and for another answer that is the same
pub gives-same : (u view : DomainAndMaps) (a b : Result DomainAndMaps Cause) (r : Result DomainAndMaps Fault) → a ≡ b → Gives u view a r → Gives u view b r
gives-same u view a b r e given = subst (λ (x : Result DomainAndMaps Cause). Gives u view x r) e given
