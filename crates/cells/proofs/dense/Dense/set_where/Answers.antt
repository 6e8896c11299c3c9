use Rattle.std.proofs.Common.{◌≡◌, ◌∙◌, ◌*◌, ◌<◌, Bool, Option, Some, None, ℕ, List, ap, sym, subst, length, get_or, drop, arith}
use Rattle.cells.specs.Bytes.{byte_count}
use Rattle.cells.specs.Dense.{DenseCells, IsDense}
use Rattle.cells.specs.Numbers.{IsWord}
use Rattle.cells.specs.Places.{cell_count}
use Rattle.cells.specs.declared.dtype.Dtype.{Dtype}
use Rattle.std.specs.Prelude.{if◌then◌else◌}
use Rattle.cells.specs.Items.{item_at, words_in, words_where, SpellsItems}
use Rattle.cells.proofs.ItemLaws.{sized, whole_over}
use Rattle.cells.proofs.dense.Dense.set_where.Goals as goal

pub lay_items-requires-clause-full : goal.lay_items-requires-clause-full
lay_items-requires-clause-full c =
    let count : length c.args.mask.now ≡ cell_count c.self.inside.shape = c.requires.mask ∙ sized c.self.inside.dtype c.self.inside.shape c.self.inside.bytes.items c.args.self.now c.self.view_is in
    ap length c.deref_mut.ensures.value ∙ c.self.invariant.full ∙ ap (λ n. n * byte_count c.self.inside.dtype) (sym count)

pub lay_items-requires-clause-small : goal.lay_items-requires-clause-small
lay_items-requires-clause-small c = omega (arith, c.self.invariant.small, c.requires.mask, sized c.self.inside.dtype c.self.inside.shape c.self.inside.bytes.items c.args.self.now c.self.view_is)

pub lay_items-requires-clause-words : goal.lay_items-requires-clause-words
lay_items-requires-clause-words c place less mark =
    let is : IsWord c.args.self.now.dtype (get_or c.args.words.now place 0) = c.requires.words place (omega (arith, less, c.requires.mask)) mark in
    subst (λ (d : DenseCells). IsWord d.dtype (get_or c.args.words.now place 0)) (sym c.self.view_is) is

pub returns : goal.returns
returns c =
    let d = c.self.inside.dtype in
    let count : length c.args.mask.now ≡ cell_count c.self.inside.shape = c.requires.mask ∙ sized c.self.inside.dtype c.self.inside.shape c.self.inside.bytes.items c.args.self.now c.self.view_is in
    ap (λ (w : List ℕ). let r : DenseCells = record { dtype = d; shape = c.self.inside.shape; words = w } in r)
    (ap (λ bytes. words_in d (cell_count c.self.inside.shape) bytes) (whole_over c.self.inside.bytes.len c.lay_items.new.bytes (drop (length c.lay_items.new.bytes) c.self.inside.bytes.items) (c.lay_items.auto.bytes ∙ c.deref_mut.ensures.len))
    ∙ ap (λ n. words_in d n c.lay_items.new.bytes) (sym count) ∙ c.lay_items.ensures
    ∙ ap (λ n. words_where c.args.mask.now c.args.words.now (words_in d n c.deref_mut.result.now)) count
    ∙ ap (λ bytes. words_where c.args.mask.now c.args.words.now (words_in d (cell_count c.self.inside.shape) bytes)) c.deref_mut.ensures.value)
    ∙ ap (λ (b : DenseCells). record b { words = words_where c.args.mask.now c.args.words.now b.words }) c.self.view_is
