use Rattle.std.proofs.Common.{IsUtf8, subst}
use Rattle.std.specs.List.{AllByRecursion}
use Rattle.index_transform.specs.declared.domain.Domain.{Domain}
use Rattle.output_laws.specs.Plain.{HasNumbers}
use Rattle.output_laws.proofs.Plain.{transform_plain}
use Rattle.output_laws.proofs.looks.look_at_transform.Goals as goal

pub returns : goal.returns
returns c =
    transform_plain c.args.transform.now c.domain.ensures.well_formed
    (subst (λ (d : Domain). AllByRecursion IsUtf8 d.labels) c.domain.ensures.value c.look_at_labels.ensures)
    (subst (AllByRecursion HasNumbers) c.maps.ensures.value c.look_at_maps.ensures)
