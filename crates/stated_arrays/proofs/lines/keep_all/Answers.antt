use Rattle.std.proofs.Common.{◌≡◌, ◌<◌, ◌+◌, [], ◌∷◌, length, drop, Some, sym, ap, subst, ◌∙◌, arith, length-append}
use Rattle.std.proofs.lemmas.List.{drop_more, drop_all}
use Rattle.std.proofs.lemmas.Option.{slice_get-get_or}
use Rattle.std.specs.List.{AllByRecursion}
use Rattle.transcript_cut.specs.declared.said.Said.{Said}
use Rattle.transcript_cut.proofs.Laws.{command_at, commands_count}
use Rattle.stated_arrays.specs.Lines.{IsSoundLine}
use Rattle.stated_arrays.proofs.Kept.{IsKeptUpTo, kept_first, kept_next, kept_all, sound_more, placed_at}
use Rattle.stated_arrays.proofs.lines.keep_all.Goals as goal

pub loop-place-init : goal.loop-place-init
loop-place-init c = record {
  kept = λ transcript told are. kept_first c.args.scripts.now transcript told c.args.said.now c.args.standing.now c.args.lines.now.items c.requires.none c.requires.first are;
  sound = subst (AllByRecursion IsSoundLine) (sym c.requires.first) tt;
  count = ap length c.requires.first;
  sessions = c.requires.sessions;
}

pub keep_line-requires-clause-placed : goal.keep_line-requires-clause-placed
keep_line-requires-clause-placed c =
    let low : c.loop-place.place < length c.args.said.now = omega arith in
    placed_at c.args.scripts.now c.args.said.now c.loop-place.place c.index-said-place.result c.requires.placed low c.index-said-place.is

pub keep_line-requires-clause-session : goal.keep_line-requires-clause-session
keep_line-requires-clause-session c =
    let low : c.loop-place.place < length c.args.said.now = omega arith in
    let placed = placed_at c.args.scripts.now c.args.said.now c.loop-place.place c.index-said-place.result c.requires.placed low c.index-said-place.is in
    let within = placed.session in
    let sessions = c.loop-place.invariant.sessions in
    omega (arith, within, sessions)

pub loop-place-preserved : goal.loop-place-preserved
loop-place-preserved c =
    let said = c.args.said.now in
    let i = c.loop-place.place in
    let x = c.index-said-place.result in
    let low : i < length said = omega arith in
    let parts : drop i said ≡ x ∷ drop (i + 1) said = drop_more said i x low ∙ ap (λ (y : Said). y ∷ drop (i + 1) said) (sym c.index-said-place.is) in
    let placed = placed_at c.args.scripts.now said i x c.requires.placed low c.index-said-place.is in
    let within = placed.session in
    let sessions = c.loop-place.invariant.sessions in
    let inside : x.line.session < length c.loop-place.standing = omega (arith, within, sessions) in
    let behind = c.in_ok-keep_line.ensures in
    let count = c.loop-place.invariant.count in
    let more : length c.keep_line.new.lines.items ≡ length c.loop-place.lines.items + 1 = ap length behind.kept ∙ length-append c.loop-place.lines.items (behind.line ∷ []) in
    record {
      kept = λ transcript told are. kept_next c.args.scripts.now transcript told x (drop (i + 1) said) c.loop-place.standing c.keep_line.new.standing c.loop-place.lines.items c.keep_line.new.lines.items inside behind
          (subst (λ left. IsKeptUpTo c.args.scripts.now transcript told left c.loop-place.standing c.loop-place.lines.items) parts (c.loop-place.invariant.kept transcript told are));
      sound = subst (AllByRecursion IsSoundLine) (sym behind.kept) (sound_more c.loop-place.lines.items behind.line c.loop-place.invariant.sound behind.sound);
      count = omega (arith, count, more);
      sessions = omega (arith, sessions);
    }

pub returns : goal.returns
returns c =
    let said = c.args.said.now in
    let i = c.loop-place.place in
    record {
      kept = λ transcript told are. kept_all c.args.scripts.now transcript told (drop i said) c.loop-place.standing c.loop-place.lines.items (drop_all i said (omega arith)) (c.loop-place.invariant.kept transcript told are);
      sound = c.loop-place.invariant.sound;
      count = omega arith;
    }

pub keep_line-requires-clause-command : goal.keep_line-requires-clause-command
keep_line-requires-clause-command c =
    let k = c.loop-place.place in
    let said = c.args.said.now in
    let commands = c.args.commands.now in
    let count = commands_count c.args.scripts.now said commands c.requires.commands in
    let low : k < length said = omega arith in
    let within : k < length commands = omega (arith, count) in
    command_at c.args.scripts.now said commands k c.index-said-place.result c.index-commands-place.result c.requires.commands (slice_get-get_or said k c.index-said-place.result low ∙ ap Some (sym c.index-said-place.is))
    (slice_get-get_or commands k c.index-commands-place.result within ∙ ap Some (sym c.index-commands-place.is))

pub bounds-commands-place : goal.bounds-commands-place
bounds-commands-place c =
    let count = commands_count c.args.scripts.now c.args.said.now c.args.commands.now c.requires.commands in
    omega (arith, count)
