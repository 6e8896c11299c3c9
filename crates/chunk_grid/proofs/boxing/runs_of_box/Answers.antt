use Rattle.std.proofs.Common.{◌≡◌, ◌∙◌, ℕ, ℤ, pos, List, length, ap, arith, sym, subst}
use Rattle.std.specs.Result.{IfOk}
use Rattle.std.proofs.lemmas.List.{length-map}
use Rattle.std.specs.List.{AllByRecursion}
use Rattle.index_intervals.specs.Bounds.{Bounds}
use Rattle.index_transform.specs.Values.{value_at}
use Rattle.index_transform.specs.Walks.{lows}
use Rattle.chunk_grid.specs.Grid.{IsInShape, numbers, place_within}
use Rattle.chunk_grid.specs.Pieces.{Pair}
use Rattle.chunk_grid.specs.Runs.{runs_of_pairs}
use Rattle.chunk_grid.specs.Boxes.{IsSmallStep, loops_of, view_steps, chunk_steps, cell_place, looped}
use Rattle.strided_runs.specs.Loops.{AllRun, view_reach, ViewsRise, StayPlaces}
use Rattle.strided_runs.specs.declared.lines.Loop.{Loop}
use Rattle.chunk_grid.proofs.CellLaws.{value-answered}
use Rattle.chunk_grid.proofs.BoxPieces.{regular-value}
use Rattle.chunk_grid.proofs.StepLaws.{length-box}
use Rattle.chunk_grid.proofs.BoxRuns.{view-box, views, chunks, box_loops, first_chunk, view-small, kept-run, kept-rise, kept-stay, small-steps, kept-looped}
use Rattle.chunk_grid.proofs.KeptLaws.{kept}
use Rattle.chunk_grid.proofs.boxing.runs_of_box.Goals as goal

-- the loops that were made are those over the box
loops-is : (boxed : List Bounds) (vs vs2 : List ℕ) (cs cs2 : List ℤ) → vs ≡ vs2 → cs ≡ cs2 → loops_of boxed vs cs ≡ loops_of boxed vs2 cs2
loops-is boxed vs vs2 cs cs2 ev ec = ap (λ (v : List ℕ). loops_of boxed v cs) ev ∙ ap (loops_of boxed vs2) ec

pub at-requires : goal.at-requires
at-requires c =
    ap length (c.deref.ensures.value ∙ c.in_ok-first.ensures) ∙ length-map c.args.boxed.now (λ dim. dim.lo) ∙ length-box c.args.t.now.domain.dims c.args.boxed.now c.requires.inside

pub place_in-chunk-requires : goal.place_in-chunk-requires
place_in-chunk-requires c =
    let first = c.deref.ensures.value ∙ c.in_ok-first.ensures in
    let value = c.deref-2.ensures.value ∙ value-answered c.args.t.now c.deref.result.now c.in-Ok.value.items c.in-Ok.ensures.ok
    ∙ ap (value_at c.args.t.now) first ∙ regular-value c.args.t.now.domain.dims c.args.t.now.maps (lows c.args.boxed.now) c.requires.regular in
    subst (IsInShape c.args.grid.now.shape) (sym value) c.requires.first

pub loops_of-requires-clause-views : goal.loops_of-requires-clause-views
loops_of-requires-clause-views c =
    let h = view-box c.args.t.now.domain.dims c.args.t.now.maps c.args.grid.now c.args.boxed.now c.requires.regular c.requires.fit c.requires.grid c.requires.few c.requires.inside c.requires.first c.requires.cells in
    ap length c.requires.views ∙ views c.args.t.now.domain.dims c.args.t.now.maps c.args.grid.now.chunk c.args.boxed.now h

pub loops_of-requires-clause-chunks : goal.loops_of-requires-clause-chunks
loops_of-requires-clause-chunks c =
    let h = view-box c.args.t.now.domain.dims c.args.t.now.maps c.args.grid.now c.args.boxed.now c.requires.regular c.requires.fit c.requires.grid c.requires.few c.requires.inside c.requires.first c.requires.cells in
    ap length c.requires.chunks ∙ chunks c.args.t.now.domain.dims c.args.t.now.maps c.args.grid.now.chunk c.args.boxed.now h

pub loops_of-requires-clause-small : goal.loops_of-requires-clause-small
loops_of-requires-clause-small c =
    let h = view-box c.args.t.now.domain.dims c.args.t.now.maps c.args.grid.now c.args.boxed.now c.requires.regular c.requires.fit c.requires.grid c.requires.few c.requires.inside c.requires.first c.requires.cells in
    let l = loops-is c.args.boxed.now c.args.views.now (view_steps c.args.t.now.domain.dims) c.args.chunks.now (chunk_steps (length c.args.t.now.domain.dims) c.args.t.now.maps c.args.grid.now.chunk) c.requires.views c.requires.chunks in
    subst (AllByRecursion IsSmallStep) (sym l) (small-steps c.args.t.now.domain.dims c.args.t.now.maps c.args.grid.now.chunk c.args.boxed.now h)

pub runs_of_loops-requires-clause-some : goal.runs_of_loops-requires-clause-some
runs_of_loops-requires-clause-some c =
    let h = view-box c.args.t.now.domain.dims c.args.t.now.maps c.args.grid.now c.args.boxed.now c.requires.regular c.requires.fit c.requires.grid c.requires.few c.requires.inside c.requires.first c.requires.cells in
    let l = loops-is c.args.boxed.now c.args.views.now (view_steps c.args.t.now.domain.dims) c.args.chunks.now (chunk_steps (length c.args.t.now.domain.dims) c.args.t.now.maps c.args.grid.now.chunk) c.requires.views c.requires.chunks in
    let made = c.deref-3.ensures.value ∙ c.in_ok-loops.ensures ∙ ap kept l in
    subst AllRun (sym made) (kept-run c.args.t.now.domain.dims c.args.t.now.maps c.args.grid.now.chunk c.args.boxed.now h)

pub runs_of_loops-requires-clause-rise : goal.runs_of_loops-requires-clause-rise
runs_of_loops-requires-clause-rise c =
    let h = view-box c.args.t.now.domain.dims c.args.t.now.maps c.args.grid.now c.args.boxed.now c.requires.regular c.requires.fit c.requires.grid c.requires.few c.requires.inside c.requires.first c.requires.cells in
    let l = loops-is c.args.boxed.now c.args.views.now (view_steps c.args.t.now.domain.dims) c.args.chunks.now (chunk_steps (length c.args.t.now.domain.dims) c.args.t.now.maps c.args.grid.now.chunk) c.requires.views c.requires.chunks in
    let made = c.deref-3.ensures.value ∙ c.in_ok-loops.ensures ∙ ap kept l in
    subst ViewsRise (sym made) (kept-rise c.args.t.now.domain.dims c.args.t.now.maps c.args.grid.now.chunk c.args.boxed.now h)

pub runs_of_loops-requires-clause-small : goal.runs_of_loops-requires-clause-small
runs_of_loops-requires-clause-small c =
    let h = view-box c.args.t.now.domain.dims c.args.t.now.maps c.args.grid.now c.args.boxed.now c.requires.regular c.requires.fit c.requires.grid c.requires.few c.requires.inside c.requires.first c.requires.cells in
    let l = loops-is c.args.boxed.now c.args.views.now (view_steps c.args.t.now.domain.dims) c.args.chunks.now (chunk_steps (length c.args.t.now.domain.dims) c.args.t.now.maps c.args.grid.now.chunk) c.requires.views c.requires.chunks in
    let made = ap view_reach (c.deref-3.ensures.value ∙ c.in_ok-loops.ensures ∙ ap kept l) in
    let dims = c.items.ensures ∙ ap (λ d. d.dims) c.domain.ensures.value in
    let view = c.first_place-view.ensures ∙ ap (λ (ds : List Bounds). cell_place ds (lows c.args.boxed.now)) dims in
    let s = view-small c.args.t.now.domain.dims c.args.t.now.maps c.args.grid.now.chunk c.args.boxed.now h in
    omega (arith, made, view, s)

pub runs_of_loops-requires-clause-places : goal.runs_of_loops-requires-clause-places
runs_of_loops-requires-clause-places c =
    let h = view-box c.args.t.now.domain.dims c.args.t.now.maps c.args.grid.now c.args.boxed.now c.requires.regular c.requires.fit c.requires.grid c.requires.few c.requires.inside c.requires.first c.requires.cells in
    let l = loops-is c.args.boxed.now c.args.views.now (view_steps c.args.t.now.domain.dims) c.args.chunks.now (chunk_steps (length c.args.t.now.domain.dims) c.args.t.now.maps c.args.grid.now.chunk) c.requires.views c.requires.chunks in
    let made = c.deref-3.ensures.value ∙ c.in_ok-loops.ensures ∙ ap kept l in
    let first = c.deref.ensures.value ∙ c.in_ok-first.ensures in
    let value = c.deref-2.ensures.value ∙ value-answered c.args.t.now c.deref.result.now c.in-Ok.value.items c.in-Ok.ensures.ok
    ∙ ap (value_at c.args.t.now) first ∙ regular-value c.args.t.now.domain.dims c.args.t.now.maps (lows c.args.boxed.now) c.requires.regular in
    let place = c.place_in-chunk.ensures.value ∙ ap (λ (v : List ℤ). place_within c.args.grid.now.chunk (numbers v)) value in
    subst (λ (n : ℕ). StayPlaces c.deref-3.result.now (pos n)) (sym place)
    (subst (λ (ls : List Loop). StayPlaces ls (pos (first_chunk c.args.t.now.maps c.args.grid.now.chunk c.args.boxed.now))) (sym made)
    (kept-stay c.args.t.now.domain.dims c.args.t.now.maps c.args.grid.now.chunk c.args.boxed.now h))

pub returns : goal.returns
returns c =
    let h = view-box c.args.t.now.domain.dims c.args.t.now.maps c.args.grid.now c.args.boxed.now c.requires.regular c.requires.fit c.requires.grid c.requires.few c.requires.inside c.requires.first c.requires.cells in
    let l = loops-is c.args.boxed.now c.args.views.now (view_steps c.args.t.now.domain.dims) c.args.chunks.now (chunk_steps (length c.args.t.now.domain.dims) c.args.t.now.maps c.args.grid.now.chunk) c.requires.views c.requires.chunks in
    let made = c.deref-3.ensures.value ∙ c.in_ok-loops.ensures ∙ ap kept l in
    let first = c.deref.ensures.value ∙ c.in_ok-first.ensures in
    let value = c.deref-2.ensures.value ∙ value-answered c.args.t.now c.deref.result.now c.in-Ok.value.items c.in-Ok.ensures.ok
    ∙ ap (value_at c.args.t.now) first ∙ regular-value c.args.t.now.domain.dims c.args.t.now.maps (lows c.args.boxed.now) c.requires.regular in
    let place = c.place_in-chunk.ensures.value ∙ ap (λ (v : List ℤ). place_within c.args.grid.now.chunk (numbers v)) value in
    let dims = c.items.ensures ∙ ap (λ d. d.dims) c.domain.ensures.value in
    let view = c.first_place-view.ensures ∙ ap (λ (ds : List Bounds). cell_place ds (lows c.args.boxed.now)) dims in
    let pairs = ap (λ (ls : List Loop). looped ls c.first_place-view.result (pos c.place_in-chunk.result)) made
    ∙ ap (λ (n : ℕ). looped (kept (box_loops c.args.t.now.domain.dims c.args.t.now.maps c.args.grid.now.chunk c.args.boxed.now)) n (pos c.place_in-chunk.result)) view
    ∙ ap (λ (n : ℕ). looped (kept (box_loops c.args.t.now.domain.dims c.args.t.now.maps c.args.grid.now.chunk c.args.boxed.now)) (cell_place c.args.t.now.domain.dims (lows c.args.boxed.now)) (pos n)) place
    ∙ kept-looped c.args.t.now.domain.dims c.args.t.now.maps c.args.grid.now.chunk c.args.boxed.now h in
    subst (λ (ps : List Pair). IfOk c.runs_of_loops.result (λ runs. runs ≡ runs_of_pairs ps)) pairs c.runs_of_loops.ensures
