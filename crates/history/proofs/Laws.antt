-- What crates above rest on. Each law with what it says; where it stands, it has its premises.

-- what stands in an option is one thing, and none is no thing
pub use Rattle.history.proofs.Known.{some_inj, none_is_none}
-- what holds of no event, and of one event more, holds of each history
pub use Rattle.history.proofs.Histories.{each_history}
-- one event more: the length, an array, the number of its last new shape, the array at a location, the locations that are taken
pub use Rattle.history.proofs.Known.{length-more}
pub use Rattle.history.proofs.Histories.{known_after-more, resized_after-more}
pub use Rattle.history.proofs.Openings.{array_at-more, locations-more}
-- a history of one event more is legal where the one before is, and the event may follow
pub use Rattle.history.proofs.Histories.{legal_step, legal_more}
-- what an opening and a new shape owe where they may follow
pub use Rattle.history.proofs.Known.{opening_of, resize_of}
-- the opening of a leaf at a free location keeps a history legal; a local array may be opened
pub use Rattle.history.proofs.Openings.{opening_legal, local_opening}
-- the array that an opening brings in
pub use Rattle.history.proofs.Known.{opened_as}
pub use Rattle.history.proofs.Touching.{opened_then}
-- no array is there at first; one that is there behind an event was opened by it, got a new shape by it, or was there before
pub use Rattle.history.proofs.Known.{no_array, known_split}
-- an array was opened by one of the events, and its number is below the count of the arrays
pub use Rattle.history.proofs.Known.{opened_le, known_below}
-- an array that is there was opened as it is, and stays the same one as events follow
pub use Rattle.history.proofs.Conflicts.{itself as opened_itself}
pub use Rattle.history.proofs.GenerationTables.{as_opened}
pub use Rattle.history.proofs.Longer.{ArraysStay, AlwaysStay, legal_stay, known-longer}
pub use Rattle.history.proofs.Shrinks.{known_still}
-- one that none of the later events has given a new shape is as it was; the number of its last new shape is one of the events'
pub use Rattle.history.proofs.Unresized.{known_unresized, resized_after-le-length}
-- an array has its number, is as its metadata says, and keeps its rank; a local one keeps its shape
pub use Rattle.history.proofs.Known.{IsGood, known_good, kept_rank}
pub use Rattle.history.proofs.Valid.{local_shape}
-- where a location has no array, no array lies there; where it has one, that is the array of its number
pub use Rattle.history.proofs.Openings.{none_there, array_at-known}
-- a table of locations tells the array that lies at one, and the least location that clashes, or that none does
pub use Rattle.history.proofs.Tabled.{array_by_table, taken_by_table, not_taken_by_table}
-- the table of no event, and that behind an opening at a location and behind any other event
pub use Rattle.history.proofs.Tabled.{table_none, table_opened, table_same}
-- two arrays lie apart, and texts that lie apart begin no text together
pub use Rattle.history.proofs.Apart.{known_apart, apart_texts}
-- the key of an array's chunk, and that a key tells its array and its chunk; no chunk has the key of metadata
pub use Rattle.history.proofs.Apart.{key_is, one_key, one_chunk, no_metadata}
-- every size is at least 1
pub use Rattle.history.proofs.Known.{ArePositive, all_positive}
-- an index vector inside a shape passes the test for it, and one that passes is inside
pub use Rattle.history.proofs.Shapes.{inside-to, inside-from}
-- where two tests hold together, each does
pub use Rattle.history.proofs.Shapes.{and_left, and_right}
-- what a test keeps of a list: all of the list for which it holds, and nothing else
pub use Rattle.history.proofs.AloneShrunk.{among_kept, kept_among}
-- a cell by its chunk and its place in it: the chunk of a cell that is named so, and a cell named so by its own chunk
pub use Rattle.history.proofs.Geometry.{chunk_index-in_array, in_array-split}
-- a chunk's first place lies in it
pub use Rattle.history.proofs.Grids.{zeros, inside_zeros}
-- the chunk of a cell inside the array is in the grid, and reaches into the shape
pub use Rattle.history.proofs.Grids.{in_grid}
pub use Rattle.history.proofs.Shapes.{reaches_own}
-- the first cell of a chunk lies in the shape into which the chunk reaches, and in that chunk
pub use Rattle.history.proofs.Cuts.{first_cell, first_inside, first_index}
-- a chunk is cut where one of its cells is, and only there
pub use Rattle.history.proofs.Shapes.{cut_of_cell}
pub use Rattle.history.proofs.Cuts.{cell_of_is_cut}
-- the chunks that a new shape cuts and those that keep all their cells are all of the old grid
pub use Rattle.history.proofs.CutCounts.{cut_count}
-- an event that touches a chunk gives it its number, and any other leaves its generation
pub use Rattle.history.proofs.Untouched.{generation_touched, generation_untouched}
-- a table of generations tells a chunk's: what it has at the key, else the number of the array's opening
pub use Rattle.history.proofs.GenerationTables.{HasOneChunkAKey, generation_by_table}
-- the table of no event, that behind one more, and that no opening and no failed call changes it
pub use Rattle.history.proofs.GenerationTables.{generations_none, generations_more, opening_numbers_none, fault_numbers_none}
-- the last word that operations put at a cell, and a word that stands where none is put
pub use Rattle.history.proofs.Written.{last_put, else_word}
-- a commit leaves at a cell the last word put there, else the one before, and past the shape the fill
pub use Rattle.history.proofs.Touching.{content_of_done}
-- a new shape leaves at a cell of a chunk that it cuts the word inside the shape, and past it the fill
pub use Rattle.history.proofs.Touching.{content_of_resize}
-- a cell whose chunk nothing has touched since the opening has the word that it had then
pub use Rattle.history.proofs.Untouched.{content_of_opening}
-- the snapshot of a chunk stays right for as long as its generation is the chunk's
pub use Rattle.history.proofs.Snapshots.{snapshot_longer}
-- a chunk's words behind a commit and behind a new shape, and that the snapshot behind it has them
pub use Rattle.history.proofs.Snapshots.{words_over, words_cut, snapshot_of_done, snapshot_of_resize}
-- a stored chunk that nothing has touched since the opening lies there as at the start; the bytes of each have its words
pub use Rattle.history.proofs.Reading.{same_as_start, words_of_store}
-- a store that an event was applied to represents the history with it
pub use Rattle.history.proofs.Keeping.{represents_event}
-- an opening of an array that is there changes nothing, one that makes it puts its metadata, and a failed call changes nothing
pub use Rattle.history.proofs.Applied.{opening_found, opening_made, fault_applied}
-- a chunk that an event touches is written by the shape that its array has then; the changes of an event, made in order, apply it
pub use Rattle.history.proofs.Changing.{shape_now, changes_applied}
-- the count of changes: one more by an event that changes the store, the same by any other
pub use Rattle.history.proofs.Counted.{counted_more, counted_same}
-- a cell whose chunk an event touches has the word that the event leaves, any other keeps its own; content between two moments
pub use Rattle.history.proofs.Untouched.{content_touched, content_untouched, chunk_array}
pub use Rattle.history.proofs.Moments.{chunk_same, content_same, IsUnchanged, unchanged_between, content_at_mark}
-- a legal history begins with legal ones; a cell that is present stays so while nothing touches its chunk
pub use Rattle.history.proofs.Presence.{IsLegal-front, present_same, world_some, world_from, world_at_mark}
pub use Rattle.history.proofs.StepsKnown.{legal_take}
-- generations rise with the history, within its length; the event of a generation touches the chunk
pub use Rattle.history.proofs.Generations.{generation_of-le-length, generation_of-rises, generation_of-touches}
pub use Rattle.history.proofs.Histories.{generation_of-more, content_after-more}
-- a cell inside its chunk; the index of its chunk
pub use Rattle.history.proofs.Geometry.{within_chunk-in_array, inside_within, length-chunk_index}
pub use Rattle.history.proofs.Known.{good_rank, good_positive}
-- a chunk that a cell lies in, that an event writes, that a new shape cuts is one of its array
pub use Rattle.history.proofs.Valid.{valid_of_cell, HasWritten, written_by_all, valid_of_written, valid_of_cut, known_sizes}
-- a cell that is present has a word, if its chunk wasn't damaged at the start; a damaged chunk has none; words are of the dtype
pub use Rattle.history.proofs.Words.{present_word, word_over_empty}
pub use Rattle.history.proofs.Reading.{no_word_of_damaged}
pub use Rattle.history.proofs.Typed.{word_of_dtype}
-- what operations put: one cell is another where the test says so; a word is put by the first or by the later operations
pub use Rattle.history.proofs.Written.{written-is, puts_elsewhere, same_cells, same_chunks}
pub use Rattle.history.proofs.Staged.{same_cell, put_either}
-- keys by their order: none is before itself, nor each before the other, nor the least above another
pub use Rattle.history.proofs.Shrinks.{never_itself, other_way, not_under}
-- what a transaction has read stands by its marks: begun, behind a write, behind a read, and as events follow
pub use Rattle.history.proofs.Transactions.{transaction_begun, transaction_written, transaction_read, transaction_longer}
pub use Rattle.history.proofs.Longer.{chunk_of-longer, known-after_take, mark_of-within}
-- marks at any moment from which nothing touches a chunk show the same
pub use Rattle.history.proofs.Marks.{IsGenerationAt, reads_at_generations}
-- a chunk that was read was known at its mark; a conflict is of one; without one none of the chunks that were read has a later generation
pub use Rattle.history.proofs.Conflicts.{known_at_mark, opening_touches, conflict_is_real, conflict_after_mark}
pub use Rattle.history.proofs.Commits.{read_generation-le-mark, nothing_read, no_conflict_of_writes}
pub use Rattle.history.proofs.Meetings.{no_conflict_of_none}
-- each target of a view lay in its array's shape after some of the events
pub use Rattle.history.proofs.Shrinks.{WasInside, LiesOf, targets_lie, absent_stored}
-- written cells lie in the present shapes where no cell of an array was cut; then, without a conflict, a commit may follow
pub use Rattle.history.proofs.Shrinks.{in_shapes, unshrunk_keeps_legal}
pub use Rattle.history.proofs.Staged.{kept_legal, commit_keeps_legal}
-- the events of a commit keep a history legal: one, or one a key
pub use Rattle.history.proofs.Commits.{done_legal, done_each_legal}
-- views whose arrays are known stay such as events follow
pub use Rattle.history.proofs.KnownViews.{ref_later, view_later, array_known}
-- steps and runs hold over every longer history
pub use Rattle.history.proofs.StepsLonger.{step_longer, run_longer}
-- from line to line a transaction's reads stand, its operations are staged, its names are known, and the session changes nothing meanwhile
pub use Rattle.history.proofs.StepsKept.{kept_later, step_keeps, run_keeps}
pub use Rattle.history.proofs.StepsStaged.{step_staged, run_staged}
pub use Rattle.history.proofs.StepsKnown.{step_known, run_known}
pub use Rattle.history.proofs.Quiet.{step_quiet, run_quiet}
-- a run stays one over the events that it has seen
pub use Rattle.history.proofs.RunCommits.{run_shorter}
-- behind a session's run its commit keeps the history legal: one that meets no conflict and isn't shrunk, and whatever the line of a
-- commit adds, or that of a write of its own
pub use Rattle.history.proofs.RunCommits.{run_keeps_legal, commit_line_legal, write_line_legal}
-- a conflict is another session's, and a commit that read nothing meets none
pub use Rattle.history.proofs.ForeignConflicts.{IsForeignConflict, run_foreign, session_conflicts, writes_meet_none}
-- so is one of a chunk with a mark, whatever was read, where the session made no change since the transaction began: as it does behind a begin,
-- a read and events without one of its own changes
pub use Rattle.history.proofs.MetConflicts.{met_is_foreign, quiet_begun, quiet_marked}
pub use Rattle.history.proofs.Quiet.{HasQuiet, IsNoChange, IsQuiet, seen_quiet}
-- what a line does is of the session's transaction, or outside of one; what refuses it is no conflict
pub use Rattle.history.proofs.ActFits.{IsActIn, IsAskedIn, act_of-in}
pub use Rattle.history.proofs.Settled.{IsSettled, IsAskedSettled, act_of-settled}
-- the arrays as one thread would keep them are those of the history, where every commit is one event
pub use Rattle.history.proofs.Plain.{plain-world, plain-values}
-- a session alone is the single session, whose answers are a run
pub use Rattle.history.proofs.AloneRuns.{run_is_single}
pub use Rattle.history.proofs.AloneSingle.{IsRunAlone, single_is_run}
pub use Rattle.history.proofs.AloneEnds.{run_begins_single}
-- laws of crates below, given on to those above
pub use Rattle.chunk_forms.proofs.Laws.{no_fault_of_spells, spells_of_writes}
pub use Rattle.chunk_forms.proofs.MadeLaws.{n5_rules, zarr3_rules, zarr_rules}
