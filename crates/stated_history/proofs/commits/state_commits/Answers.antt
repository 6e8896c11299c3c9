use Rattle.std.proofs.Common.{◌≤◌, ◌<◌, ◌+◌, ◌∙◌, [], length, set, Some, sym, ap, subst, arith}
use Rattle.std.proofs.lemmas.Option.{slice_get-get_or}
use Rattle.stated_acts.specs.Cuttings.{lines_kept}
use Rattle.stated_acts.specs.Keeping.{AreCommandsOf}
use Rattle.stated_acts.proofs.Laws.{commands_count, command_at, commands_taken}
use Rattle.stated_history.specs.Kept.{AreKeptActs}
use Rattle.stated_history.specs.Walks.{outlined, TellsAt, TellsCommits}
use Rattle.stated_history.proofs.KeptLaws.{kept_first, kept_more}
use Rattle.stated_history.proofs.LineLaws.{got_low}
use Rattle.stated_history.proofs.SourceLaws.{AreWalkedUpTo, walked_line, walked_all, walked_none}
use Rattle.stated_history.proofs.commits.state_commits.Goals as goal

pub loop-place-init : goal.loop-place-init
loop-place-init c = record {
  kept = kept_first c.args.source.now c.first-walk.result c.in_ok-commits.commits.items c.in_ok-acts.acts.items c.first-walk.ensures.session c.first-walk.ensures.stands c.first-walk.ensures.sound c.in_ok-commits.ensures.items c.in_ok-acts.ensures.items;
  commands = c.requires.commands;
}

pub returns-in-None : goal.returns-in-None
returns-in-None c =
    let s = c.args.source.now in
    let place = c.loop-place.place in
    walked_none s place c.state_line.new.walk c.loop-place-test.true (subst (TellsAt s place c.state_line.new.walk) c.in-None.is c.in_ok-commit.ensures.next)

pub loop-place-preserved : goal.loop-place-preserved
loop-place-preserved c =
    let s = c.args.source.now in
    let place = c.loop-place.place in
    let next = c.state_line.new.walk in
    let low = c.loop-place-test.true in
    let line = got_low s.said.now place low in
    let before = c.loop-place.invariant.kept in
    let more = kept_more s place c.loop-place.acts.items c.state_line.new.acts.items before.count before.each c.in_ok-commit.ensures.acts in
    record {
      kept = record {
        walked = subst (AreWalkedUpTo s (place + 1) next) (sym c.in_ok-push-in-Some.ensures.items)
            (walked_line s place c.loop-place.walk next c.loop-place.commits.items c.in-Some.commit line.0 c.requires.source line.1 before.walked (subst (TellsAt s place next) c.in-Some.is c.in_ok-commit.ensures.next) c.in_ok-commit.ensures.session
            c.in_ok-commit.ensures.sound);
        within = omega (arith, low);
        count = more.0;
        each = more.1;
      };
      commands = subst (λ o. AreCommandsOf (lines_kept s.scripts.now s.said.now) (set c.loop-place.commands place o)) (sym c.take-command.ensures.after) (commands_taken s.scripts.now (lines_kept s.scripts.now s.said.now) c.loop-place.commands place c.loop-place.invariant.commands);
    }

pub returns : goal.returns
returns c =
    let s = c.args.source.now in
    let all : length s.said.now ≤ c.loop-place.place = omega arith in
    let kept = c.loop-place.invariant.kept in
    let within = kept.within in
    let count = kept.count in (
      λ told of_it. subst (λ cs. TellsCommits (outlined s) told (Some cs)) (sym c.wrap.ensures) (walked_all s c.loop-place.place c.loop-place.walk c.loop-place.commits.items all kept.walked told of_it),
      subst (AreKeptActs s) (sym c.wrap-2.ensures) (record { count = omega (arith, all, within, count); each = kept.each }),
    )

pub bounds-commands-place : goal.bounds-commands-place
bounds-commands-place c =
    let count = commands_count c.args.source.now.scripts.now c.args.source.now.said.now c.loop-place.commands c.loop-place.invariant.commands in
    omega (arith, c.loop-place-test.true, count)

pub state_line-requires-clause-command : goal.state_line-requires-clause-command
state_line-requires-clause-command c = λ d there.
    let s = c.args.source.now in
    let commands = c.loop-place.commands in
    let place = c.loop-place.place in
    let count = commands_count s.scripts.now s.said.now commands c.loop-place.invariant.commands in
    let low : place < length commands = omega (arith, c.loop-place-test.true, count) in
    command_at s.scripts.now s.said.now commands place d c.take-command.result c.loop-place.invariant.commands there
    (slice_get-get_or commands place c.index-commands-place.result low ∙ ap Some (sym c.take-command.ensures.value))
