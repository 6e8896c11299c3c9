-- A session, its worker, and the book that workers share may go to another thread, where the store may.
use denote.Param.Send.{IsSend, IsSync, AllSync, recorded_sync, struct_sync, sendable, view_send as through_view, recorded_send, struct_send, plain_send}
use denote.RattleType.{RattleType}
use denote.Struct.Declared.{shape}
use denote.Struct.Tuple.{TupleAt, type_at, field_at}
use mathlib.Core.List.{List}
use mir.Syntax.{Sym}
use Rattle.history.proofs.array.ArrayInfo.TheSendSync as arrayinfo
use Rattle.stack_driver.proofs.reference.ArrayRef.TheSendSync as arrayref
use Rattle.state_laws.proofs.reading.Bounds.TheSendSync as bounds
use Rattle.indexmap.proofs.index_table.Bucket.TheSendSync as bucket
use Rattle.cells.proofs.dense.Dense.TheSendSync as dense
use Rattle.index_transform.proofs.domain.Domain.TheSendSync as domain
use Rattle.cells.proofs.dtype.Dtype.TheSendSync as dtype
use Rattle.indexmap.proofs.index_table.group.Group.TheSendSync as group
use Rattle.history.proofs.array.Home.TheSendSync as home
use Rattle.cells.proofs.Index.TheSendSync as index
use Rattle.index_intervals.proofs.interval.Interval.TheSendSync as interval
use Rattle.session_runs.proofs.Kept.TheSendSync as kept
use Rattle.history.proofs.event.Mode.TheSendSync as mode
use Rattle.n5_blocks.proofs.metadata.N5Meta.TheSendSync as n5meta
use Rattle.cells.proofs.Name.TheSendSync as name
use Rattle.cells.proofs.order.Order.TheSendSync as order
use Rattle.index_transform.proofs.map.OutMap.TheSendSync as outmap
use Rattle.cells.proofs.Sizes.TheSendSync as sizes
use Rattle.chunk_cache.proofs.snapshot.Snapshot.TheSendSync as snapshot
use Rattle.rebase_writes.proofs.staged.Staged.TheSendSync as staged
use Rattle.transaction_cells.proofs.staging.Staging.TheSendSync as staging
use Rattle.std.proofs.boxed.Box.TheSendSync as std_box
use Rattle.std.proofs.hash.FoldHasher.TheSendSync as std_foldhasher
use Rattle.std.proofs.alloc.Global.TheSendSync as std_global
use Rattle.std.proofs.rt.Memory.TheSendSync as std_memory
use Rattle.std.below.std_collections.proofs.btree.node.Node.TheSendSync as std_node
use Rattle.std.proofs.vec.Vec.TheSendSync as std_vec
use Rattle.index_transform.proofs.transform.Transform.TheSendSync as transform
use Rattle.cells.proofs.Words.TheSendSync as words
use Rattle.cells.proofs.WrittenWords.TheSendSync as written
use Rattle.zarr3_chunks.proofs.metadata.Zarr3Meta.TheSendSync as zarr3meta
use Rattle.zarr_chunks.proofs.metadata.ZarrMeta.TheSendSync as zarrmeta
use Rattle.indexmap.proofs.map.IndexMap.TheSendSync as indexmap
use Rattle.std.proofs.string.String.TheSendSync as std_string
use Rattle.std.proofs.hash.BuildHasherDefault.TheSendSync as std_builder
use Rattle.std.proofs.option.Option.TheSendSync as std_option
use Rattle.std.below.std_heap.proofs.GlobalAllocator.TheSendSync as std_heap
use Rattle.std.proofs.Crossing.{crosses, Vec-send}
use Rattle.std.proofs.MapsCrossing as maps
use Rattle.stack_driver.proofs.view.View.TheLaws.TheKnot as knot
use Rattle.stack_driver.specs.contracts.view.View as view
use Rattle.history.specs.contracts.event.Event as event
use Rattle.chunk_cache.proofs.cache.ChunkCache.TheSendSync as cache
use Rattle.state_laws.proofs.arrays.Entry.TheSendSync as entry
use Rattle.state_laws.proofs.generations.KeyNumbers.TheSendSync as numbers
use Rattle.state_laws.specs.contracts.arrays.Entry as entry_type
use Rattle.state_laws.specs.contracts.records.Records as records
use Rattle.state_laws.specs.contracts.records.Records.TheInside as records_inside
use Rattle.locations.proofs.table.Locations.TheSendSync as locations
use Rattle.shared_state.specs.contracts.state.State as state
use Rattle.shared_state.specs.contracts.state.State.TheInside as state_inside
use Rattle.session_runs.specs.contracts.Txn as txn
use Rattle.answer_text.proofs.answer.Answer.TheSendSync as answer
use Rattle.answer_text.specs.contracts.answer.Answer as answer_type
use Rattle.turn_book.proofs.pass.Pass.TheSendSync as pass
use Rattle.session_runs.specs.contracts.session.Session as session
use Rattle.session_workers.specs.contracts.dealing.Worker as worker

-- an event
event_send : IsSend event.the_row
event_send = first_of (
  search (crosses, knot.crosses, sendable) depth 60 fits 20000,
  search (crosses, knot.crosses_both, sendable) depth 60 fits 20000,
  search (dense.the_send, dense.the_sync, dtype.the_field_send, dtype.the_send, dtype.the_field_sync, dtype.the_sync, name.the_send, name.the_sync, order.the_field_send, order.the_send, order.the_field_sync, order.the_sync, index.the_send, index.the_sync, sizes.the_send, sizes.the_sync, words.the_send, words.the_sync, written.the_send, written.the_sync, std_memory.the_field_send, std_memory.the_send, std_memory.the_field_sync, std_memory.the_sync, arrayinfo.the_field_send, arrayinfo.the_send, arrayinfo.the_field_sync, arrayinfo.the_sync, home.the_field_send, home.the_send, home.the_field_sync, home.the_sync, mode.the_field_send, mode.the_send, mode.the_field_sync, mode.the_sync, interval.the_send, interval.the_sync, domain.the_field_send, domain.the_send, domain.the_field_sync, domain.the_sync, outmap.the_field_send, outmap.the_send, outmap.the_field_sync, outmap.the_sync, transform.the_send, transform.the_sync, n5meta.the_send, n5meta.the_sync, arrayref.the_send, arrayref.the_sync, std_box.the_sync, std_vec.the_sync, std_global.the_field_send, std_global.the_send, std_global.the_field_sync, std_global.the_sync, zarr3meta.the_send, zarr3meta.the_sync, zarrmeta.the_send, zarrmeta.the_sync, crosses, knot.crosses, sendable) depth 60 fits 20000,
)

-- what a run keeps of its events
records_send : IsSend records.the_row
records_send =
    through_view records_inside.the_row _ _ _ _
    (recorded_send records_inside.the_field.row _ _ records_inside.the_type.to_one (struct_send (shape records_inside.the_type) (Vec-send event.the_row event_send, (Vec-send entry_type.the_row entry.the_send, (numbers.the_send, (cache.the_send, tt))))))

-- a view
view_send : IsSend view.the_row
view_send = first_of (
  search (crosses, knot.crosses, sendable) depth 60 fits 20000,
  search (crosses, knot.crosses_both, sendable) depth 60 fits 20000,
  search (dtype.the_field_send, dtype.the_send, dtype.the_field_sync, dtype.the_sync, name.the_send, name.the_sync, index.the_send, index.the_sync, sizes.the_send, sizes.the_sync, std_foldhasher.the_field_send, std_foldhasher.the_send, std_foldhasher.the_field_sync, std_foldhasher.the_sync, std_memory.the_field_send, std_memory.the_send, std_memory.the_field_sync, std_memory.the_sync, interval.the_send, interval.the_sync, domain.the_field_send, domain.the_send, domain.the_field_sync, domain.the_sync, outmap.the_field_send, outmap.the_send, outmap.the_field_sync, outmap.the_sync, transform.the_send, transform.the_sync, bucket.the_field_send, bucket.the_send, bucket.the_field_sync, bucket.the_sync, group.the_field_send, group.the_send, group.the_field_sync, group.the_sync, arrayref.the_send, arrayref.the_sync, std_box.the_sync, std_vec.the_sync, std_global.the_field_send, std_global.the_send, std_global.the_field_sync, std_global.the_sync, crosses, knot.crosses, sendable) depth 60 fits 20000,
)

-- a transaction
txn_send : IsSend txn.the_row
txn_send = first_of (
  search (crosses, knot.crosses, sendable) depth 60 fits 20000,
  search (crosses, knot.crosses_both, sendable) depth 60 fits 20000,
  search (dense.the_send, dense.the_sync, dtype.the_field_send, dtype.the_send, dtype.the_field_sync, dtype.the_sync, name.the_send, name.the_sync, index.the_send, index.the_sync, sizes.the_send, sizes.the_sync, words.the_send, words.the_sync, written.the_send, written.the_sync, snapshot.the_send, snapshot.the_sync, std_memory.the_field_send, std_memory.the_send, std_memory.the_field_sync, std_memory.the_sync, mode.the_field_send, mode.the_send, mode.the_field_sync, mode.the_sync, interval.the_send, interval.the_sync, domain.the_field_send, domain.the_send, domain.the_field_sync, domain.the_sync, outmap.the_field_send, outmap.the_send, outmap.the_field_sync, outmap.the_sync, transform.the_send, transform.the_sync, staged.the_send, staged.the_sync, arrayref.the_send, arrayref.the_sync, bounds.the_field_send, bounds.the_send, bounds.the_field_sync, bounds.the_sync, std_box.the_sync, std_vec.the_sync, std_node.the_sync, std_global.the_field_send, std_global.the_send, std_global.the_field_sync, std_global.the_sync, staging.the_send, staging.the_sync, kept.the_field_send, kept.the_send, kept.the_field_sync, kept.the_sync, maps.crosses, crosses, knot.crosses, sendable) depth 60 fits 20000,
)

-- a state, where its store may
pub state_send : (K : RattleType) (g : _) → IsSend K → IsSend (state.the_row K g)
state_send K g s =
    through_view (state_inside.the_row K g) _ _ _ _
    (recorded_send (state_inside.the_field K g).row _ _ (state_inside.the_type K g).to_one (struct_send (shape (state_inside.the_type K g)) (std_global.the_field_send, (s, (locations.the_send, (records_send, tt))))))

-- a session, where the store may
pub session_send : (K : RattleType) (g : _) → IsSend K → IsSend (session.the_row K g)
session_send K g s =
    recorded_send (session.the_field K g).row _ _ (session.the_type K g).to_one
    (struct_send (shape (session.the_type K g)) (search (pass.the_send, state_send K g s) depth 8, (search (indexmap.the_send, std_string.the_send, std_global.the_send, std_heap.the_frees, view_send, std_builder.the_send, std_foldhasher.the_send) depth 12, (std_option.the_field_send txn.the_row txn_send, (Vec-send answer_type.the_row answer.the_send, (plain_send _ _ _ _ _, tt))))))

-- a worker, where the store may
pub worker_send : (K : RattleType) (g : _) → IsSend K → IsSend (worker.the_row K g)
worker_send K g s = recorded_send (worker.the_field K g).row _ _ (worker.the_type K g).to_one (struct_send (shape (worker.the_type K g)) (Vec-send (session.the_row K g) (session_send K g s), tt))

-- what a closure has captured, where each part of it may be shared
pub captured_sync : (name : Sym) (Ts : List RattleType) → AllSync (shape (type_at name Ts)).fields → IsSync (TupleAt name Ts)
captured_sync name Ts s = recorded_sync (field_at name Ts).row _ _ (type_at name Ts).to_one (struct_sync (shape (type_at name Ts)) s)
