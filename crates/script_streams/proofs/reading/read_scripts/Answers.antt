use Rattle.std.proofs.Common.{◌<◌, ◌+◌, ◌++◌, ◌∷◌, [], inl, ◌∙◌, length, ap, subst, refl, arith}
use Rattle.std.proofs.lemmas.List.{length_push, take_all}
use Rattle.std.proofs.lemmas.Result.{err_from_is_err_and}
use Rattle.script_streams.specs.Reading.{AreScripts, names_in, texts_in}
use Rattle.script_streams.proofs.Asked.{given_more, all_given, run_ended}
use Rattle.script_streams.proofs.Texts.{names_count, name_at, texts_push, read_more, limits_more, sum_more, cause_of, never_missing}
use Rattle.script_streams.proofs.reading.read_scripts.Goals as goal

pub returns-in_err-bytes-clause-cause : goal.returns-in_err-bytes-clause-cause
returns-in_err-bytes-clause-cause g c =
    let within : c.loop-place.place < length (names_in c.args.names.now) = omega (arith, names_count c.args.names.now, c.loop-place-test.true) in
    let named = name_at c.args.names.now c.loop-place.place c.index-names-place.result c.as_str.result.now (omega (arith, c.loop-place-test.true)) c.index-names-place.is c.as_str.ensures.value in
    let exit = err_from_is_err_and c.from_residual-in_err-bytes.result c.from_residual-in_err-bytes.ensures.1 in
    rw (exit.1, exit.2) (cause_of _ _ (names_in c.args.names.now) (texts_in c.loop-place.read.items) c.as_str.result.now c.loop-place.room c.loop-place.place c.in_err-bytes.field-0.0 within c.loop-place.invariant.contents named c.loop-place.invariant.read c.loop-place.invariant.short c.loop-place.invariant.room c.in_err-bytes.ensures.cause)

pub returns-in_err-bytes-clause-run : goal.returns-in_err-bytes-clause-run
returns-in_err-bytes-clause-run g c =
    let named = name_at c.args.names.now c.loop-place.place c.index-names-place.result c.as_str.result.now (omega (arith, c.loop-place-test.true)) c.index-names-place.is c.as_str.ensures.value in
    let exit = err_from_is_err_and c.from_residual-in_err-bytes.result c.from_residual-in_err-bytes.ensures.1 in
    rw (exit.1, exit.2) (run_ended g.S.Reader.gives _ _ _ (names_in c.args.names.now) c.as_str.result.now c.loop-place.read.items c.loop-place.room c.loop-place.place c.in_err-bytes.field-0.0 named c.loop-place.invariant.room c.loop-place.invariant.given c.in_err-bytes.ensures.answer)

pub returns-in_err-read-clause-run : goal.returns-in_err-read-clause-run
returns-in_err-read-clause-run g c =
    let exit = err_from_is_err_and c.from_residual.result c.from_residual.ensures.1 in
    rw (exit.1, exit.2) (0, [], inl refl)

pub returns-in_err-push-clause-run : goal.returns-in_err-push-clause-run
returns-in_err-push-clause-run g c =
    let within : c.loop-place.place < length (names_in c.args.names.now) = omega (arith, names_count c.args.names.now, c.loop-place-test.true) in
    let named = name_at c.args.names.now c.loop-place.place c.index-names-place.result c.as_str.result.now (omega (arith, c.loop-place-test.true)) c.index-names-place.is c.as_str.ensures.value in
    let exit = err_from_is_err_and c.from_residual-in_err-push.result c.from_residual-in_err-push.ensures.1 in
    rw (exit.1, exit.2) (
      c.loop-place.place + 1,
      c.loop-place.read.items ++ c.in_ok-bytes.bytes ∷ [],
      inl (given_more g.S.Reader.gives _ _ _ (names_in c.args.names.now) c.as_str.result.now c.loop-place.read.items (c.loop-place.read.items ++ c.in_ok-bytes.bytes ∷ []) c.in_ok-bytes.bytes c.loop-place.place within named refl c.loop-place.invariant.given c.in_ok-bytes.ensures.answer),
    )

pub loop-place-preserved : goal.loop-place-preserved
loop-place-preserved g c =
    let within : c.loop-place.place < length (names_in c.args.names.now) = omega (arith, names_count c.args.names.now, c.loop-place-test.true) in
    let named = name_at c.args.names.now c.loop-place.place c.index-names-place.result c.as_str.result.now (omega (arith, c.loop-place-test.true)) c.index-names-place.is c.as_str.ensures.value in
    let grown = texts_push c.loop-place.read.items c.push.new.self.items c.in_ok-bytes.bytes c.in_ok-push.ensures.items in
    let short = c.in_ok-bytes.ensures.short in
    record {
      read = read_more _ _ (names_in c.args.names.now) (texts_in c.loop-place.read.items) (texts_in c.push.new.self.items) c.as_str.result.now c.in_ok-bytes.bytes.items c.loop-place.place within c.loop-place.invariant.contents named grown c.loop-place.invariant.read c.in_ok-bytes.ensures.read;
      count = ap length c.in_ok-push.ensures.items ∙ omega (arith, length_push c.loop-place.read.items c.in_ok-bytes.bytes, c.loop-place.invariant.count);
      short = limits_more (texts_in c.loop-place.read.items) (texts_in c.push.new.self.items) c.in_ok-bytes.bytes.items grown c.loop-place.invariant.short short.0 (omega (arith, short.1, c.loop-place.invariant.room));
      room = omega (arith, short.1, c.loop-place.invariant.room, c.len-room.ensures, sum_more (texts_in c.loop-place.read.items) (texts_in c.push.new.self.items) c.in_ok-bytes.bytes.items grown);
      contents = c.read_at.ensures.contents ∙ c.loop-place.invariant.contents;
      later = omega (arith, c.read_at.ensures.faults.later, c.loop-place.invariant.later);
      given = given_more g.S.Reader.gives _ _ _ (names_in c.args.names.now) c.as_str.result.now c.loop-place.read.items c.push.new.self.items c.in_ok-bytes.bytes c.loop-place.place within named c.in_ok-push.ensures.items c.loop-place.invariant.given c.in_ok-bytes.ensures.answer;
    }

pub returns-clause-missing : goal.returns-clause-missing
returns-clause-missing g c = λ name there missing.
    absurd (never_missing _ (names_in c.args.names.now) (texts_in c.loop-place.read.items) name
    (λ told held. subst (λ ns. AreScripts told ns (texts_in c.loop-place.read.items)) (take_all c.loop-place.place (names_in c.args.names.now) (omega (arith, names_count c.args.names.now, c.loop-place-test.false))) (c.loop-place.invariant.read told held))
    there missing)

pub returns-clause-run : goal.returns-clause-run
returns-clause-run g c = all_given g.S.Reader.gives _ _ (names_in c.args.names.now) c.loop-place.read.items c.loop-place.place (omega (arith, names_count c.args.names.now, c.loop-place-test.false)) c.loop-place.invariant.given
