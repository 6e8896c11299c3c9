use Rattle.std.proofs.Common.{◌≡◌, ◌∙◌, ◌^◌, List, length, map, sym, ap, subst}
use Rattle.std.specs.Prelude.{All, IsTrue, ◌↔◌}
use Rattle.std.specs.List.{AllByRecursion, flat_map}
use Rattle.std.proofs.lemmas.Result.{IfOk-weaker}
use Rattle.cells.specs.Runs.{IsRunInside, pairs_of}
use Rattle.cells.specs.declared.run.Run.{Run}
use Rattle.chunk_versions.specs.Marks.{HasCasts}
use Rattle.chunk_versions.specs.declared.asked.AskedCell.{AskedCell}
use Rattle.history.specs.History.{History}
use Rattle.history.specs.Writes.{Put}
use Rattle.stack_driver.specs.declared.view.View.{View}
use Rattle.transaction_cells.specs.Sites.{sites_of}
use Rattle.version_store.specs.Asked.{TellsShown, content_with}
use Rattle.event_replay.specs.Pieces.{IsAskedAt}
use Rattle.event_replay.specs.Placed.{asked_cell, AreShownIn}
use Rattle.event_replay.proofs.AskLaws.{piece_runs, piece_casts, piece_shown}
use Rattle.event_replay.proofs.reading.show_piece.Goals as goal

pub asked_cells-requires-clause-runs : goal.asked_cells-requires-clause-runs
asked_cells-requires-clause-runs c =
    let at = c.requires.3 in
    subst (λ (rs : List Run). AllByRecursion (λ run. IsRunInside run (length c.args.words.now) (2 ^ 24)) rs) (sym c.items.ensures)
    (piece_runs c.requires.0 c.requires.1 c.requires.2 c.args.words.now c.args.leaves.now c.args.casts.now c.args.store.now at.asked c.args.piece.now at.piece)

pub shows-requires : goal.shows-requires
shows-requires c =
    let at = c.requires.3 in
    let is : c.in_ok-asked.asked.items ≡ map (asked_cell c.args.leaves.now c.args.words.now) (flat_map pairs_of c.args.piece.now.runs) = c.in_ok-asked.ensures ∙ ap (λ (rs : List Run). map (asked_cell c.args.leaves.now c.args.words.now) (flat_map pairs_of rs)) c.items.ensures in
    subst (λ (cells : List AskedCell). All (HasCasts c.args.casts.now) cells) (sym c.deref.ensures.value)
    (piece_casts c.requires.0 c.requires.1 c.requires.2 c.args.words.now c.args.leaves.now c.args.casts.now c.args.store.now at.asked c.args.piece.now c.in_ok-asked.asked.items at.piece is)

pub returns : goal.returns
returns c =
    let s = c.args.store.now in
    let casts = c.args.casts.now in
    let is : c.in_ok-asked.asked.items ≡ map (asked_cell c.args.leaves.now c.args.words.now) (flat_map pairs_of c.args.piece.now.runs) = c.in_ok-asked.ensures ∙ ap (λ (rs : List Run). map (asked_cell c.args.leaves.now c.args.words.now) (flat_map pairs_of rs)) c.items.ensures in
    IfOk-weaker c.shows.result (TellsShown s c.items-2.result.now casts c.deref.result.now) (λ has. (history : History) (puts : List Put) (v : View) → IsAskedAt history puts v c.args.words.now c.args.leaves.now casts c.args.piece.now s
    → IsTrue has ↔ AreShownIn (content_with history puts) c.args.piece.now.id (sites_of v) c.args.words.now)
    (λ answer tells. λ h puts v at.
    piece_shown h puts v c.args.words.now c.args.leaves.now casts s at.asked c.args.piece.now c.in_ok-asked.asked.items answer at.piece is
    (subst (λ id. TellsShown s id casts c.in_ok-asked.asked.items answer) c.items-2.ensures (subst (λ (cells : List AskedCell). TellsShown s c.items-2.result.now casts cells answer) c.deref.ensures.value tells))) c.shows.ensures
