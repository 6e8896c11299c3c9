-- What crates above rest on. Each law with what it says.

-- over a store that told its contents at the start, logs of sessions are printed ones of a run of the history's sessions
pub use Rattle.session_workers.proofs.Logs.{run_logs}
-- where one mount has a name, scripts ask for stored arrays of that mount alone
pub use Rattle.session_workers.proofs.Mounts.{of_mount}
