-- What crates above rest on.

-- laws of crates below, given on to those above
pub use Rattle.stated_history.proofs.Laws.{uncut}
pub use Rattle.stated_history.proofs.Laws.{among}
pub use Rattle.stated_history.proofs.Laws.{part_5_follows, sessions_within, stated_commits_are_sound, stated_is_one}
