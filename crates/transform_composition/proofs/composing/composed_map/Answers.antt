use Rattle.std.proofs.Common.{◌≡◌, ◌∙◌, List, ℕ, true, sym, subst, ap}
use Rattle.std.specs.List.{list_all}
use Rattle.index_transform.specs.Bounds.{Bounds}
use Rattle.index_transform.specs.Cells.{is_finite}
use Rattle.transform_composition.specs.Tightening.{is_ordered}
use Rattle.index_transform.specs.Walks.{IsCell}
use Rattle.transform_composition.specs.Reading.{read_dims, can_read}
use Rattle.transform_composition.proofs.FiniteLemmas.{finite-read, ordered-read, can_read-cell}
use Rattle.transform_composition.proofs.composing.composed_map.Goals as goal

-- the dimensions along which the array is read
read_is : (c : goal.After-items-in-Indexed-2) → c.deref.result.now ≡ read_dims 0 c.args.dims.now c.in-Indexed.sizes c.args.inners.now
read_is c = c.deref.ensures.value ∙ c.in_ok-read-in-Indexed.ensures ∙ ap (λ (ns : List ℕ). read_dims 0 c.args.dims.now ns c.args.inners.now) c.items.ensures

pub read_entries-requires-clause-finite : goal.read_entries-requires-clause-finite
read_entries-requires-clause-finite c =
    subst (λ (ds : List Bounds). list_all is_finite ds ≡ true) (sym (read_is c))
    (finite-read c.args.dims.now c.args.outers.now c.in-Indexed.offset c.in-Indexed.stride c.in-Indexed.sizes c.in-Indexed.entries c.args.inners.now
    c.requires.rank c.requires.fit c.requires.inside c.requires.bounds ((rw c.in-Indexed.is at c.requires.outer_fit)))

pub read_entries-requires-clause-ordered : goal.read_entries-requires-clause-ordered
read_entries-requires-clause-ordered c =
    subst (λ (ds : List Bounds). list_all is_ordered ds ≡ true) (sym (read_is c))
    (ordered-read c.args.dims.now c.in-Indexed.sizes c.args.inners.now c.requires.bounds)

pub read_entries-requires-clause-readable : goal.read_entries-requires-clause-readable
read_entries-requires-clause-readable c = λ cell h.
    subst (λ (ns : List ℕ). can_read c.args.outers.now ns c.args.dims.now c.args.inners.now cell ≡ true) (sym c.items-in-Indexed.ensures)
    (can_read-cell c.args.dims.now c.args.outers.now c.in-Indexed.offset c.in-Indexed.stride c.in-Indexed.sizes c.in-Indexed.entries c.args.inners.now cell
    c.requires.rank c.requires.fit c.requires.inside c.requires.bounds ((rw c.in-Indexed.is at c.requires.outer_fit))
    (subst (λ (ds : List Bounds). IsCell ds cell) (read_is c) h))
