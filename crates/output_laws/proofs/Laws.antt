-- What crates above rest on. Each law with what it says.

-- the values of an output are along at most 32 dimensions
pub use Rattle.output_laws.proofs.FlatOutputs.{outputs_are_flat}
-- printed answers of an output read back, and what they are printed as is answered yes
pub use Rattle.output_laws.proofs.Printed.{printed_outputs_read_back, printed_outputs_are_yes}
-- whoever printed them, answers of an output whose scripts and events are few read back, they fit, and what they are printed as is answered yes
pub use Rattle.output_laws.proofs.WholeOutputs.{outputs_printable, outputs_fit, outputs_yes}
