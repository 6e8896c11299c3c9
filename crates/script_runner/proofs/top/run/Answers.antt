use Rattle.std.proofs.Common.{◌≡◌, ◌++◌, Some, sym, ap, subst}
use Rattle.kv_face.specs.Streams.{WhereTold, IsPartOf}
use Rattle.run_words.specs.Options.{texts_of}
use Rattle.script_runner.specs.Asked.{HasAsked}
use Rattle.script_runner.specs.Promises.{HasRunGiven, HasRunTexts, IsPut, text_by}
use Rattle.script_runner.proofs.Asking.{ask_for, ask_to_make, asked_more, error_asks, files_asked, made_asked, of_input, same_files, unread_asked}
use Rattle.script_runner.proofs.Ran.{run_asked, run_made, serial_run}
use Rattle.script_runner.proofs.Verdict.{run_given, yes_outcome}
use Rattle.script_runner.proofs.top.run.Goals as goal

pub returns-in-Ok-Files-clause-serial : goal.returns-in-Ok-Files-clause-serial
returns-in-Ok-Files-clause-serial g c = λ some empty.
    let asked = ask_for c.args.words.now c.in-Ok-Files.field-0 c.in-Ok-Files.first c.in-Ok-Files.ensures.settings c.in-Ok-Files.t14-in-Files-1-is in
    serial_run _ (texts_of c.args.words.now) c.args.mounts.now.items c.read_and_run.new.mounts.items c.read_and_run.result (c.read_and_run.new.sink ≡ c.args.sink.now) empty (λ has. (c.read_and_run.ensures.status has).1)
    (run_asked _ (texts_of c.args.words.now) _ c.args.mounts.now.items c.read_and_run.new.mounts.items c.read_and_run.result (c.read_and_run.new.sink ≡ c.args.sink.now) asked (c.read_and_run.ensures.started some))

pub returns-in-Ok-Files-clause-fits : goal.returns-in-Ok-Files-clause-fits
returns-in-Ok-Files-clause-fits g c = λ some empty.
    let asked = ask_for c.args.words.now c.in-Ok-Files.field-0 c.in-Ok-Files.first c.in-Ok-Files.ensures.settings c.in-Ok-Files.t14-in-Files-1-is in
    yes_outcome _ (texts_of c.args.words.now) c.args.mounts.now.items c.read_and_run.new.mounts.items c.read_and_run.result (c.read_and_run.new.sink ≡ c.args.sink.now) empty
    (run_asked _ (texts_of c.args.words.now) _ c.args.mounts.now.items c.read_and_run.new.mounts.items c.read_and_run.result (c.read_and_run.new.sink ≡ c.args.sink.now) asked (c.read_and_run.ensures.started some))

pub returns-in-Ok-Files-clause-started : goal.returns-in-Ok-Files-clause-started
returns-in-Ok-Files-clause-started g c = λ some.
    let asked = ask_for c.args.words.now c.in-Ok-Files.field-0 c.in-Ok-Files.first c.in-Ok-Files.ensures.settings c.in-Ok-Files.t14-in-Files-1-is in
    run_asked _ (texts_of c.args.words.now) _ c.args.mounts.now.items c.read_and_run.new.mounts.items c.read_and_run.result (c.read_and_run.new.sink ≡ c.args.sink.now) asked (c.read_and_run.ensures.started some)

pub returns-in-Ok-Files-clause-refused : goal.returns-in-Ok-Files-clause-refused
returns-in-Ok-Files-clause-refused g c = ((λ is. absurd (c.read_and_run.ensures.known.1 is)), (λ none. absurd (none c.in-Ok-Files.field-0 c.in-Ok-Files.ensures.settings)))

pub returns-in-Ok-Files-clause-made : goal.returns-in-Ok-Files-clause-made
returns-in-Ok-Files-clause-made g c = λ number asked. absurd (files_asked (texts_of c.args.words.now) c.read_words.result c.in-Ok-Files.field-0 c.in-Ok-Files.first number c.read_words.ensures.only c.in-Ok-Files.is c.in-Ok-Files.t14-in-Files-1-is asked)

pub returns-in-Ok-Files-clause-asked : goal.returns-in-Ok-Files-clause-asked
returns-in-Ok-Files-clause-asked g c = λ files asked.
    let old = c.args.mounts.now.items in
    let new = c.read_and_run.new.mounts.items in
    let outcome = c.read_and_run.result in
    let same = same_files c.args.words.now c.read_words.result c.in-Ok-Files.field-0 c.in-Ok-Files.first files c.read_words.ensures.only c.in-Ok-Files.is c.in-Ok-Files.t14-in-Files-1-is asked in
    subst (λ fs. HasAsked g.S.Reader.gives c.args.scripts.now fs outcome (λ texts. HasRunGiven texts old new outcome (c.read_and_run.new.sink ≡ c.args.sink.now)) c.read_and_run.new.scripts) (sym same)
    (asked_more g.S.Reader.gives c.args.scripts.now _ outcome (λ texts. HasRunTexts texts old new outcome (c.read_and_run.new.sink ≡ c.args.sink.now)) (λ texts. HasRunGiven texts old new outcome (c.read_and_run.new.sink ≡ c.args.sink.now)) c.read_and_run.new.scripts
    (λ texts one. run_given texts old new outcome (c.read_and_run.new.sink ≡ c.args.sink.now) one) c.read_and_run.ensures.asked)

pub returns-in-Ok-Files-clause-put : goal.returns-in-Ok-Files-clause-put
returns-in-Ok-Files-clause-put g c = λ settings is some.
    of_input (λ i. IsPut g.O.Writer.takes c.args.sink.now (text_by i c.read_and_run.result) c.read_and_run.result.status c.read_and_run.new.sink)
    (texts_of c.args.words.now) c.read_words.result c.in-Ok-Files.field-0 _ c.read_words.ensures.only c.in-Ok-Files.is c.in-Ok-Files.t14-in-Files-1-is (c.read_and_run.ensures.put some) settings is

pub returns-in-Ok-Files-clause-unread : goal.returns-in-Ok-Files-clause-unread
returns-in-Ok-Files-clause-unread g c = λ is.
    let asked = ask_for c.args.words.now c.in-Ok-Files.field-0 c.in-Ok-Files.first c.in-Ok-Files.ensures.settings c.in-Ok-Files.t14-in-Files-1-is in
    unread_asked _ (texts_of c.args.words.now) _ _ _ _ asked (c.read_and_run.ensures.unread is)

pub returns-in-Ok-Files-clause-written : goal.returns-in-Ok-Files-clause-written
returns-in-Ok-Files-clause-written g c = λ settings is has.
    of_input (λ i. WhereTold (g.O.Writer.content c.args.sink.now) (λ before. g.O.Writer.content c.read_and_run.new.sink ≡ Some (before ++ text_by i c.read_and_run.result)))
    (texts_of c.args.words.now) c.read_words.result c.in-Ok-Files.field-0 _ c.read_words.ensures.only c.in-Ok-Files.is c.in-Ok-Files.t14-in-Files-1-is (c.read_and_run.ensures.written has) settings is

pub returns-in-Ok-Files-clause-part : goal.returns-in-Ok-Files-clause-part
returns-in-Ok-Files-clause-part g c = λ settings is.
    of_input (λ i. WhereTold (g.O.Writer.content c.args.sink.now) (λ before. IsPartOf (g.O.Writer.content c.read_and_run.new.sink) before (text_by i c.read_and_run.result)))
    (texts_of c.args.words.now) c.read_words.result c.in-Ok-Files.field-0 _ c.read_words.ensures.only c.in-Ok-Files.is c.in-Ok-Files.t14-in-Files-1-is c.read_and_run.ensures.part settings is

pub returns-in-Ok-Made-clause-serial : goal.returns-in-Ok-Made-clause-serial
returns-in-Ok-Made-clause-serial g c = λ some empty.
    let asked = ask_to_make (texts_of c.args.words.now) c.in-Ok-Made.field-0 c.in-Ok-Made.number c.in-Ok-Made.ensures.settings c.in-Ok-Made.t14-in-Made-1-is in
    serial_run _ (texts_of c.args.words.now) c.args.mounts.now.items c.make_and_run.new.mounts.items c.make_and_run.result (c.make_and_run.new.sink ≡ c.args.sink.now) empty (λ has. (c.make_and_run.ensures.status has).1)
    (run_made _ (texts_of c.args.words.now) c.in-Ok-Made.number c.args.mounts.now.items c.make_and_run.new.mounts.items c.make_and_run.result (c.make_and_run.new.sink ≡ c.args.sink.now) asked (c.make_and_run.ensures.started some))

pub returns-in-Ok-Made-clause-fits : goal.returns-in-Ok-Made-clause-fits
returns-in-Ok-Made-clause-fits g c = λ some empty.
    let asked = ask_to_make (texts_of c.args.words.now) c.in-Ok-Made.field-0 c.in-Ok-Made.number c.in-Ok-Made.ensures.settings c.in-Ok-Made.t14-in-Made-1-is in
    yes_outcome _ (texts_of c.args.words.now) c.args.mounts.now.items c.make_and_run.new.mounts.items c.make_and_run.result (c.make_and_run.new.sink ≡ c.args.sink.now) empty
    (run_made _ (texts_of c.args.words.now) c.in-Ok-Made.number c.args.mounts.now.items c.make_and_run.new.mounts.items c.make_and_run.result (c.make_and_run.new.sink ≡ c.args.sink.now) asked (c.make_and_run.ensures.started some))

pub returns-in-Ok-Made-clause-started : goal.returns-in-Ok-Made-clause-started
returns-in-Ok-Made-clause-started g c = λ some.
    let asked = ask_to_make (texts_of c.args.words.now) c.in-Ok-Made.field-0 c.in-Ok-Made.number c.in-Ok-Made.ensures.settings c.in-Ok-Made.t14-in-Made-1-is in
    run_made _ (texts_of c.args.words.now) c.in-Ok-Made.number c.args.mounts.now.items c.make_and_run.new.mounts.items c.make_and_run.result (c.make_and_run.new.sink ≡ c.args.sink.now) asked (c.make_and_run.ensures.started some)

pub returns-in-Ok-Made-clause-refused : goal.returns-in-Ok-Made-clause-refused
returns-in-Ok-Made-clause-refused g c = ((λ is. absurd (c.make_and_run.ensures.known.1 is)), (λ none. absurd (none c.in-Ok-Made.field-0 c.in-Ok-Made.ensures.settings)))

pub returns-in-Ok-Made-clause-asked : goal.returns-in-Ok-Made-clause-asked
returns-in-Ok-Made-clause-asked g c = λ files asked. absurd (made_asked (texts_of c.args.words.now) files c.read_words.result c.in-Ok-Made.field-0 c.in-Ok-Made.number c.read_words.ensures.only c.in-Ok-Made.is c.in-Ok-Made.t14-in-Made-1-is asked)

pub returns-in-Ok-Made-clause-put : goal.returns-in-Ok-Made-clause-put
returns-in-Ok-Made-clause-put g c = λ settings is some.
    of_input (λ i. IsPut g.O.Writer.takes c.args.sink.now (text_by i c.make_and_run.result) c.make_and_run.result.status c.make_and_run.new.sink)
    (texts_of c.args.words.now) c.read_words.result c.in-Ok-Made.field-0 _ c.read_words.ensures.only c.in-Ok-Made.is c.in-Ok-Made.t14-in-Made-1-is (c.make_and_run.ensures.put some) settings is

pub returns-in-Ok-Made-clause-written : goal.returns-in-Ok-Made-clause-written
returns-in-Ok-Made-clause-written g c = λ settings is has.
    of_input (λ i. WhereTold (g.O.Writer.content c.args.sink.now) (λ before. g.O.Writer.content c.make_and_run.new.sink ≡ Some (before ++ text_by i c.make_and_run.result)))
    (texts_of c.args.words.now) c.read_words.result c.in-Ok-Made.field-0 _ c.read_words.ensures.only c.in-Ok-Made.is c.in-Ok-Made.t14-in-Made-1-is (c.make_and_run.ensures.written has) settings is

pub returns-in-Ok-Made-clause-part : goal.returns-in-Ok-Made-clause-part
returns-in-Ok-Made-clause-part g c = λ settings is.
    of_input (λ i. WhereTold (g.O.Writer.content c.args.sink.now) (λ before. IsPartOf (g.O.Writer.content c.make_and_run.new.sink) before (text_by i c.make_and_run.result)))
    (texts_of c.args.words.now) c.read_words.result c.in-Ok-Made.field-0 _ c.read_words.ensures.only c.in-Ok-Made.is c.in-Ok-Made.t14-in-Made-1-is c.make_and_run.ensures.part settings is

pub returns-in-Err-clause-made : goal.returns-in-Err-clause-made
returns-in-Err-clause-made g c = λ number asked. absurd (error_asks (texts_of c.args.words.now) c.read_words.result c.in-Err.field-0 c.read_words.ensures.only c.in-Err.is asked.settings asked.asked)

pub returns-in-Err-clause-asked : goal.returns-in-Err-clause-asked
returns-in-Err-clause-asked g c = λ files asked. absurd (error_asks (texts_of c.args.words.now) c.read_words.result c.in-Err.field-0 c.read_words.ensures.only c.in-Err.is asked.settings asked.asked)

pub returns-in-Err-clause-refused : goal.returns-in-Err-clause-refused
returns-in-Err-clause-refused g c = ((λ two. error_asks (texts_of c.args.words.now) c.read_words.result c.in-Err.field-0 c.read_words.ensures.only c.in-Err.is), (λ none. ap (λ o. o.status) c.unstarted.ensures))
