-- The laws of what is staged that other crates rest on.

-- a view of known references has leaves of arrays of the history, which have one chunk shape for each array
pub use Rattle.transaction_cells.proofs.LeafLaws.{alike_in, leaves_in, leaves_among}
-- words may be staged, and what is staged be read, through such a view; by no operations nothing is staged
pub use Rattle.transaction_cells.proofs.OperationLaws.{can_stage, none_staged}
-- a read needs the chunk of a piece where the view names a cell of it that no operation wrote
pub use Rattle.transaction_cells.proofs.OperationLaws.{needs_unwritten, IsSiteIn, known_sites}
-- leaves, chunks of cells and what is staged stay over a later history
pub use Rattle.transaction_cells.proofs.LaterLaws.{leaves_later, same_chunk, staged_later}
-- at each place of a staged chunk is the word that the operations put last at its cell
pub use Rattle.transaction_cells.proofs.LaterLaws.{staged_cell}
-- there are as many sites as leaves of cells; what a table has under an id that is put in, and by which it is known
pub use Rattle.transaction_cells.proofs.WrittenLaws.{count_of}
pub use Rattle.transaction_cells.proofs.TableLaws.{found-insert}
-- an index vector within its chunk lies inside it; the cells of sites are those that their targets name
pub use Rattle.transaction_cells.proofs.PlaceLaws.{inside_within as inside_in_chunk}
pub use Rattle.transaction_cells.proofs.OperationLaws.{named_cells}
-- a read needs a cell of a piece outside a shape where the view names one there that no operation wrote
pub use Rattle.transaction_cells.proofs.OutsideLaws.{outside_of_view}
