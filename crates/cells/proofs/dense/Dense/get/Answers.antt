use Rattle.std.proofs.Common.{◌≡◌, ◌∙◌, List, ap, sym, subst, length, arith}
use Rattle.cells.specs.Bytes.{byte_count}
use Rattle.cells.specs.Dense.{DenseCells, IsDense}
use Rattle.cells.specs.Numbers.{IsWord}
use Rattle.cells.specs.Places.{cell_count}
use Rattle.cells.specs.Items.{item_at, words_in, SpellsItems}
use Rattle.cells.proofs.ItemLaws.{place_fits, word_there, IsWord-item}
use Rattle.cells.proofs.dense.Dense.get.Goals as goal

pub item-requires : goal.item-requires
item-requires c =
    omega (arith, ap length c.deref.ensures.value, place_fits c.self.inside.dtype c.self.inside.shape c.self.inside.bytes.items c.args.self.now c.args.place c.self.view_is c.self.invariant c.requires)

pub returns-clause-value : goal.returns-clause-value
returns-clause-value c =
    c.item.ensures ∙ ap (λ bytes. item_at c.self.inside.dtype bytes c.args.place) c.deref.ensures.value
    ∙ word_there c.self.inside.dtype c.self.inside.shape c.self.inside.bytes.items c.args.self.now c.args.place c.self.view_is c.requires

pub returns-clause-word : goal.returns-clause-word
returns-clause-word c =
    let is : IsWord c.self.inside.dtype c.item.result = subst (IsWord c.self.inside.dtype) (sym c.item.ensures) (IsWord-item c.self.inside.dtype c.deref.result.now c.args.place) in
    subst (λ (d : DenseCells). IsWord d.dtype c.item.result) c.self.view_is is
