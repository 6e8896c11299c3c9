use denote.Exit.{no}
use denote.Param.{param}
use denote.Param.Send.{IsSync, sendable, param_send, arg_send, shr_sync, shr_slice_sync}
use denote.Ref.{ShrRef}
use denote.Slice.{ShrSlice}
use denote.Struct.Field.{u8-field}
use mathlib.Core.List.{[], ◌∷◌}
use mir.Syntax.{named}
use Rattle.std.proofs.Crossing.{crosses}
use Rattle.std.proofs.alloc.Global.TheSendSync as std_global
use Rattle.std.specs.contracts.alloc.Global as global_type
use Rattle.std.specs.contracts.impls.GlobalAllocator.TheImpl as allocator
use Rattle.std.specs.contracts.vec.Vec as vec_type
use Rattle.std.proofs.vec.Vec.TheSendSync as std_vec
use Rattle.std.below.std_heap.proofs.GlobalAllocator.TheSendSync as std_heap
use Rattle.cells.proofs.Name.TheSendSync as name
use Rattle.cells.specs.contracts.Name as name_type
use Rattle.history.specs.contracts.event.Event as event
use Rattle.shared_state.specs.contracts.book.StateBook.TheImpl as state_book
use Rattle.shared_state.specs.contracts.state.State as state
use Rattle.state_laws.specs.contracts.at_start.AtStart as at_start
use Rattle.turn_book.proofs.turn.TurnBook.TheSendSync as book
use Rattle.turn_book.specs.contracts.turn.TurnBook as turn_book
use Rattle.session_workers.proofs.Sends.{state_send, worker_send, captured_sync}
use Rattle.session_workers.proofs.working.work.Goals as goal

pub for_each_mut-requires-send-T : goal.for_each_mut-requires-send-T
for_each_mut-requires-send-T g c κs within = param_send 1 _ (arg_send _ no _ (worker_send _ g.K.KvStore c.type_bounds.send-K))

-- a script's bytes may be shared
texts : IsSync (vec_type.the_row u8-field.row global_type.the_row allocator.ghosts)
texts = search (std_vec.the_sync, std_vec.the_send, std_global.the_send, std_global.the_sync, std_heap.the_frees, crosses, sendable) depth 20 fits 20000

pub for_each_mut-requires-sync-F : goal.for_each_mut-requires-sync-F
for_each_mut-requires-sync-F g c κs within =
    record {
      shared = (captured_sync (115 ∷ 101 ∷ 115 ∷ 115 ∷ 105 ∷ 111 ∷ 110 ∷ 95 ∷ 119 ∷ 111 ∷ 114 ∷ 107 ∷ 101 ∷ 114 ∷ 115 ∷ 58 ∷ 58 ∷ 119 ∷ 111 ∷ 114 ∷ 107 ∷ 105 ∷ 110 ∷ 103 ∷ 58 ∷ 58 ∷ 102 ∷ 110 ∷ 58 ∷ 58 ∷ 119 ∷ 111 ∷ 114 ∷ 107 ∷ 58 ∷ 58 ∷ 102 ∷ 111 ∷ 114 ∷ 95 ∷ 101 ∷ 97 ∷ 99 ∷ 104 ∷ 95 ∷ 109 ∷ 117 ∷ 116 ∷ 43 ∷ 83 ∷ 101 ∷ 108 ∷ 102 ∷ [])
          (ShrRef (named 6) κs.1.1.1.1.1.1.0 (global_type.the_row) ∷ ShrRef (named 7) κs.1.1.1.1.1.1.1.0 (param 1 g.row.R) ∷ ShrRef (named 8) κs.1.1.1.1.1.1.1.1.0 (turn_book.the_row (state.the_row (param 0 g.row.K) g.K.KvStore) event.the_row (at_start.the_row (param 0 g.row.K) g.K.KvStore) (state_book.ghosts (param 0 g.row.K) g.K.KvStore state_book.no_dict state_book.no_dict)) ∷ ShrSlice (named 9) κs.1.1.1.1.1.1.1.1.1.0 (name_type.the_row) ∷ ShrSlice (named 10) κs.1.1.1.1.1.1.1.1.1.1.0 (vec_type.the_row u8-field.row global_type.the_row allocator.ghosts) ∷ ShrRef (named 11) κs.1.1.1.1.1.1.1.1.1.1.1.0 (param 2 g.row.G) ∷ []) (
            shr_sync (named 6) κs.1.1.1.1.1.1.0 (global_type.the_row) (std_global.the_sync),
            (
              shr_sync (named 7) κs.1.1.1.1.1.1.1.0 (param 1 g.row.R) (c.type_bounds.sync-R),
              (
                shr_sync (named 8) κs.1.1.1.1.1.1.1.1.0 (turn_book.the_row (state.the_row (param 0 g.row.K) g.K.KvStore) event.the_row (at_start.the_row (param 0 g.row.K) g.K.KvStore) (state_book.ghosts (param 0 g.row.K) g.K.KvStore state_book.no_dict state_book.no_dict)) (book.the_sync (state.the_row (param 0 g.row.K) g.K.KvStore) event.the_row (at_start.the_row (param 0 g.row.K) g.K.KvStore) (state_book.ghosts (param 0 g.row.K) g.K.KvStore state_book.no_dict state_book.no_dict) (state_send (param 0 g.row.K) g.K.KvStore c.type_bounds.send-K)),
                (
                  shr_slice_sync (named 9) κs.1.1.1.1.1.1.1.1.1.0 (name_type.the_row) (name.the_sync),
                  (
                    shr_slice_sync (named 10) κs.1.1.1.1.1.1.1.1.1.1.0 (vec_type.the_row u8-field.row global_type.the_row allocator.ghosts) (texts),
                    (
                      shr_sync (named 11) κs.1.1.1.1.1.1.1.1.1.1.1.0 (param 2 g.row.G) (c.type_bounds.sync-G),
                      (tt),
                    ),
                  ),
                ),
              ),
            ),
          )).shared;
    }
