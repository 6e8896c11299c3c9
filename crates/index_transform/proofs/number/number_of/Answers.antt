use Rattle.std.proofs.Common.{◌≡◌, sym, subst, true}
use Rattle.cells.proofs.Laws.{list_all-at}
use Rattle.index_transform.specs.declared.map.OutMap.{OutMap}
use Rattle.index_transform.specs.Values.{has_value}
use Rattle.index_transform.proofs.number.number_of.Goals as goal

pub value-requires : goal.value-requires
value-requires c =
    let m = c.index-maps-output.result in
    subst (λ (n : OutMap). has_value c.args.dims.now c.args.index.now n ≡ true) (sym c.index-maps-output.is)
    (list_all-at (has_value c.args.dims.now c.args.index.now) c.args.maps.now m c.requires.inside c.args.output c.requires.output)
