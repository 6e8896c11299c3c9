use Rattle.std.proofs.Common.{◌≡◌, ◌∙◌, ◌++◌, sym, subst, ap, take}
use Rattle.std.specs.Prelude.{string_bytes}
use Rattle.std.proofs.lemmas.List.{map-append, take-append-drop}
use Rattle.std.proofs.lemmas.Result.{IfErr-weaker}
use Rattle.script_streams.specs.Reading.{names_in}
use Rattle.transcript_check.specs.CheckRuns.{IsCauseBy}
use Rattle.transcript_check.proofs.FileLaws.{cause_later, first_cause}
use Rattle.transcript_check.proofs.files.read_files.Goals as goal

pub returns-in-Ok-clause-cause : goal.returns-in-Ok-clause-cause
returns-in-Ok-clause-cause g c =
    let words = c.args.words.now in
    let front = c.split_at.result.0.now in
    let back = c.split_at.result.1.now in
    let whole : front ++ back ≡ words = ap (λ f. f ++ back) c.split_at.ensures.front ∙ ap (λ b. take 1 words ++ b) c.split_at.ensures.back ∙ take-append-drop 1 words in
    let contents = g.S.Reader.contents c.args.scripts.now in
    let before = g.S.Reader.faults c.args.scripts.now in
    let middle = g.S.Reader.faults c.read_scripts.new.scripts in
    let now = g.S.Reader.faults c.read_rest.new.scripts in
    IfErr-weaker c.read_rest.result (IsCauseBy (g.S.Reader.contents c.read_scripts.new.scripts) (names_in (front ++ back)) middle now) (IsCauseBy contents (names_in words) before now)
    (λ e is. cause_later contents (names_in words) before middle now e c.read_scripts.ensures.faults.later
    (subst (λ ws. IsCauseBy contents (names_in ws) middle now e) whole
    (subst (λ cs. IsCauseBy cs (names_in (front ++ back)) middle now e) c.read_scripts.ensures.contents is)))
    c.read_rest.ensures.cause

pub returns-in-Err-clause-cause : goal.returns-in-Err-clause-cause
returns-in-Err-clause-cause g c =
    let words = c.args.words.now in
    let front = c.split_at.result.0.now in
    let back = c.split_at.result.1.now in
    let whole : front ++ back ≡ words = ap (λ f. f ++ back) c.split_at.ensures.front ∙ ap (λ b. take 1 words ++ b) c.split_at.ensures.back ∙ take-append-drop 1 words in
    let contents = g.S.Reader.contents c.args.scripts.now in
    let before = g.S.Reader.faults c.args.scripts.now in
    let now = g.S.Reader.faults c.read_scripts.new.scripts in
    subst (λ names. IsCauseBy contents names before now c.in-Err.e) (sym (map-append (λ name. string_bytes name) front back) ∙ ap names_in whole)
    (first_cause contents (names_in front) (names_in back) before now c.in-Err.e c.in-Err.ensures.cause c.in-Err.ensures.faults)
