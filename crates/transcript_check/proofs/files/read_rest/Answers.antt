use Rattle.std.proofs.Common.{◌++◌, sym, subst}
use Rattle.std.proofs.lemmas.Result.{IfErr-weaker}
use Rattle.std.specs.Prelude.{string_bytes}
use Rattle.std.proofs.lemmas.List.{map-append}
use Rattle.script_streams.specs.Reading.{names_in, texts_in}
use Rattle.transcript_check.specs.CheckRuns.{IsCauseBy, IsTooLongBy}
use Rattle.transcript_check.proofs.FileLaws.{rest_cause, too_long_cause}
use Rattle.transcript_check.proofs.files.read_rest.Goals as goal

pub returns-in-Err-clause-cause : goal.returns-in-Err-clause-cause
returns-in-Err-clause-cause g c =
    let contents = g.S.Reader.contents c.args.scripts.now in
    let before = g.S.Reader.faults c.args.scripts.now in
    let now = g.S.Reader.faults c.read_scripts.new.scripts in
    subst (λ names. IsCauseBy contents names before now c.in-Err.e) (sym (map-append (λ name. string_bytes name) c.args.first.now c.args.rest.now))
    (rest_cause contents (names_in c.args.first.now) (names_in c.args.rest.now) (texts_in c.args.transcript.items) before now c.in-Err.e c.requires.read c.in-Err.ensures.cause c.in-Err.ensures.faults)

pub returns-in-Ok-clause-cause : goal.returns-in-Ok-clause-cause
returns-in-Ok-clause-cause g c =
    let contents = g.S.Reader.contents c.args.scripts.now in
    let before = g.S.Reader.faults c.args.scripts.now in
    let now = g.S.Reader.faults c.read_scripts.new.scripts in
    let texts = texts_in c.args.transcript.items in
    let others = texts_in c.in-Ok.others.items in
    IfErr-weaker c.files_of.result (IsTooLongBy (texts ++ others)) (IsCauseBy contents (names_in (c.args.first.now ++ c.args.rest.now)) before now)
    (λ e too. subst (λ names. IsCauseBy contents names before now e) (sym (map-append (λ name. string_bytes name) c.args.first.now c.args.rest.now))
    (too_long_cause contents (names_in c.args.first.now) (names_in c.args.rest.now) texts others before now e c.requires.read c.in-Ok.ensures.read too))
    c.files_of.ensures.cause
