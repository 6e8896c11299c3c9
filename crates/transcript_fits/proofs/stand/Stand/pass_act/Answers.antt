use Rattle.transcript_fits.proofs.Passing.{facing_line, following, on_ok_three, passed, walk_at, walk_kept}
use Rattle.transcript_fits.proofs.stand.Stand.pass_act.Goals as goal

pub follow-requires : goal.follow-requires
follow-requires c = following c.args.judge.now c.requires.judge c.args.self.now c.args.line c.args.place c.requires.passing c.args.act c.requires.does

pub pass_on-requires-clause-walk : goal.pass_on-requires-clause-walk
pass_on-requires-clause-walk c =
    walk_at c.args.judge.now c.requires.judge c.args.self.now c.args.line c.args.place c.requires.passing c.follow.new.self.walk
    (walk_kept c.args.judge.now c.requires.judge c.args.self.now c.args.line c.args.place c.requires.passing c.follow.new.self c.args.act c.requires.does c.in-Ok.ensures)

pub pass_on-requires-clause-line : goal.pass_on-requires-clause-line
pass_on-requires-clause-line c =
    facing_line c.args.judge.now c.requires.judge c.args.self.now c.args.line c.args.place c.requires.passing c.args.act c.requires.does c.follow.new.self.walk
    (walk_kept c.args.judge.now c.requires.judge c.args.self.now c.args.line c.args.place c.requires.passing c.follow.new.self c.args.act c.requires.does c.in-Ok.ensures)

pub returns-in-Ok : goal.returns-in-Ok
returns-in-Ok c =
    on_ok_three c.pass_on.result _ _ _ _ c.pass_on.ensures.walked c.pass_on.ensures.own c.pass_on.ensures.none
    (λ walked own none.
    passed c.args.judge.now c.requires.judge c.args.self.now c.args.line c.args.place c.requires.passing c.follow.new.self c.pass_on.new.self c.args.act c.requires.does
    (walk_kept c.args.judge.now c.requires.judge c.args.self.now c.args.line c.args.place c.requires.passing c.follow.new.self c.args.act c.requires.does c.in-Ok.ensures)
    c.in-Ok.ensures walked c.pass_on.ensures.upto c.pass_on.ensures.begun own none)
