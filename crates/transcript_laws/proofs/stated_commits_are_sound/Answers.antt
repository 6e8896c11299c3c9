use Rattle.transcript_laws.proofs.StatedCommits.{stated_commits_are_sound}
use Rattle.transcript_laws.proofs.stated_commits_are_sound.Goals as goal

pub returns : goal.returns
returns c scripts told history are checked numbered states count legal = stated_commits_are_sound scripts told history are checked numbered states count legal
