use Rattle.std.proofs.Common.{ℕ, List, sym, subst}
use Rattle.std.specs.Prelude.{◌↔◌, IsTrue}
use Rattle.std.proofs.lemmas.Result.{IfOk-weaker}
use Rattle.cast_driver.specs.declared.cast.Cast.{Cast}
use Rattle.history.specs.History.{History}
use Rattle.history.specs.Writes.{Put, puts_of}
use Rattle.history.specs.declared.event.Op.{Op}
use Rattle.history.specs.declared.event.Op.TheVariants.{Read}
use Rattle.stack_driver.specs.declared.view.View.{View}
use Rattle.transaction_cells.specs.Operations.{HasSites}
use Rattle.transaction_cells.specs.Pieces.{AreCells}
use Rattle.transaction_cells.specs.Sites.{sites_of}
use Rattle.transaction_cells.specs.declared.view_cells.Piece.{Piece}
use Rattle.version_store.specs.Asked.{content_with}
use Rattle.event_replay.specs.Pieces.{AreAskedIn}
use Rattle.event_replay.specs.Placed.{AreShown}
use Rattle.event_replay.specs.Replays.{MayFollow, IsBehind, HasWords}
use Rattle.event_replay.proofs.AskLaws.{read_asked, read_words}
use Rattle.event_replay.proofs.reading.show_cells.Goals as goal

pub show_pieces-requires : goal.show_pieces-requires
show_pieces-requires c =
    let h = c.requires.0 in
    let puts = puts_of c.requires.2 in
    let v = c.requires.3 in
    let words = c.args.words.now in
    let s = c.args.store.now in
    let cells = c.args.cells in (
      h,
      puts,
      v,
      subst (λ (cs : List (List Cast)). AreAskedIn h puts v words cells.leaves cs c.items.result.now s) (sym c.deref.ensures.value)
          (subst (λ (ps : List Piece). AreAskedIn h puts v words cells.leaves c.in_ok-chains.chains.items ps s) (sym c.items.ensures)
          (read_asked h c.requires.1 c.requires.2 v words c.in_ok-chains.chains.items cells s c.requires.4 c.requires.5 c.requires.6 c.requires.7 c.in_ok-chains.ensures)),
    )

pub returns : goal.returns
returns c =
    let words = c.args.words.now in
    let s = c.args.store.now in
    let cells = c.args.cells in
    IfOk-weaker c.show_pieces.result
    (λ has. (history : History) (puts : List Put) (u : View) → AreAskedIn history puts u words cells.leaves c.deref.result.now c.items.result.now s → IsTrue has ↔ AreShown (content_with history puts) (sites_of u) words)
    (λ has. (history : History) (number : ℕ) (done : List Op) (view : View) → IsBehind history number done s → MayFollow history (Read view words) → HasSites view → AreCells (sites_of view) cells → IsTrue has ↔ HasWords history done view words)
    (λ answer tells. λ h number done v behind may sites are_cells.
    let are = subst (λ (cs : List (List Cast)). AreAskedIn h (puts_of done) v words cells.leaves cs c.items.result.now s) (sym c.deref.ensures.value)
    (subst (λ (ps : List Piece). AreAskedIn h (puts_of done) v words cells.leaves c.in_ok-chains.chains.items ps s) (sym c.items.ensures)
    (read_asked h number done v words c.in_ok-chains.chains.items cells s behind may sites are_cells c.in_ok-chains.ensures)) in
    let one = tells h (puts_of done) v are in
    let other = read_words h done v words may sites in
    (λ so. other.1 (one.0 so), λ is. one.1 (other.0 is))) c.show_pieces.ensures
