use Rattle.std.proofs.Common.{◌≡◌, ◌∙◌, [], Some, refl, sym, ap, subst, arith, append-nil}
use Rattle.made_scripts.specs.Summary.{summary_text}
use Rattle.script_runner.specs.Promises.{HasRunTexts}
use Rattle.script_runner.proofs.Asking.{made_count, made_each}
use Rattle.script_streams.specs.Reading.{texts_in}
use Rattle.script_runner.proofs.top.make_and_run.Goals as goal

pub run_texts-requires-clause-texts : goal.run_texts-requires-clause-texts
run_texts-requires-clause-texts g c κs within = let nine = made_count c.args.number c.as_slice.result.now (ap texts_in c.as_slice.ensures.value ∙ c.in-Ok.ensures) in (omega (arith, nine), omega (arith, nine))

pub run_texts-requires-clause-short : goal.run_texts-requires-clause-short
run_texts-requires-clause-short g c κs within = made_each c.args.number c.as_slice.result.now (ap texts_in c.as_slice.ensures.value ∙ c.in-Ok.ensures)

pub returns-in-Ok-clause-started : goal.returns-in-Ok-clause-started
returns-in-Ok-clause-started g c = λ some.
    subst (λ ts. HasRunTexts ts c.args.mounts.now.items c.run_texts.new.mounts.items c.run_texts.result (c.run_texts.new.sink ≡ c.args.sink.now)) (ap texts_in c.as_slice.ensures.value ∙ c.in-Ok.ensures) (c.run_texts.ensures.started some)

pub returns-in-Err-clause-part : goal.returns-in-Err-clause-part
returns-in-Err-clause-part g c = λ before is. record {
  front = [];
  rest = summary_text c.unstarted.result.logs c.unstarted.result.history;
  written = is ∙ ap Some (sym (append-nil before));
  parts = refl;
}
