use Rattle.std.proofs.Common.{◌≡◌, ◌∙◌, ◌∷◌, ℕ, List, ap, sym}
use Rattle.std.proofs.lemmas.Result.{on_ok_weaker}
use Rattle.cells.specs.Places.{c_place}
use Rattle.cells.specs.Runs.{Pair}
use Rattle.history.specs.Chunks.{chunk_index, within_chunk}
use Rattle.transaction_cells.specs.Lanes.{LaneSeen}
use Rattle.transaction_cells.specs.Sites.{site_by}
use Rattle.transaction_cells.proofs.CutLaws.{AreCuts-more}
use Rattle.transaction_cells.proofs.locating.add.Goals as goal

pub returns : goal.returns
returns c =
    on_ok_weaker c.put.result (λ puts sites same h.
    let lane = c.args.lane.now in
    let index = c.args.index.now in
    let p : Pair = record { view = c.args.view; chunk = c.place_in-place.result } in
    let id : c.write_id.new.id.items ≡ lane.array ∷ chunk_index lane.chunk index =
    c.in_ok-write_id.ensures ∙ ap (λ (ns : List ℕ). c.lane.inside.array ∷ chunk_index ns index) c.items-chunk.ensures ∙ ap (λ (l : LaneSeen). l.array ∷ chunk_index l.chunk index) c.lane.view_is in
    let place : c.place_in-place.result ≡ c_place lane.chunk (within_chunk lane.chunk index) =
    c.place_in-place.ensures ∙ ap (λ (ns : List ℕ). c_place ns (within_chunk ns index)) c.items-chunk.ensures ∙ ap (λ (l : LaneSeen). c_place l.chunk (within_chunk l.chunk index)) c.lane.view_is in
    AreCuts-more sites (site_by lane index) c.write_id.new.id.items p c.args.cuts.now c.put.new.cuts id (λ i. record { view = sym same i; chunk = place i }) puts h) c.put.ensures
