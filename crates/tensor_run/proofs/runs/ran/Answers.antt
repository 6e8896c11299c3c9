use Rattle.std.proofs.Common.{◌≡◌, ◌∙◌, ◌-◌, None, false, length, take, drop, refl, sym, ap, subst}
use Rattle.std.specs.Prelude.{◌↔◌, map, string_bytes, if◌then◌else◌}
use Rattle.std.proofs.lemmas.List.{drop-map, take_rest}
use Rattle.script_runner.specs.Asked.{AreRefused}
use Rattle.script_runner.specs.Parts.{memory_part, parts_of}
use Rattle.script_runner.specs.Promises.{HasRun, IsEmptyMount, IsSerialOutcome, IsYesOutcome}
use Rattle.script_runner.specs.Words.{mount_words}
use Rattle.tensor_run.proofs.Together.{all_together}
use Rattle.tensor_run.proofs.runs.ran.Goals as goal

pub returns : goal.returns
returns g c =
    let words = c.args.words.now in
    let first = c.args.first in
    let rest : map string_bytes (take (length words - first) (drop first words)) ≡ drop (mount_words (map string_bytes words)) (map string_bytes words) =
    ap (map string_bytes) (take_rest words first) ∙ sym (drop-map string_bytes first words) ∙ ap (λ n. drop n (map string_bytes words)) c.requires.first in
    record {
      serial = λ no some.
          let none : first ≡ 0 = c.requires.first ∙ ap (λ b. if b then 2 else 0) no in
          let same : map string_bytes (take (length words - first) (drop first words)) ≡ map string_bytes words =
          ap (λ n. map string_bytes (take (length words - n) (drop n words))) none ∙ ap (map string_bytes) (take_rest words 0) in
          let parts : c.args.mounts.now.items ≡ parts_of false = c.requires.parts ∙ ap parts_of no in
          let empty : IsEmptyMount c.args.mounts.now.items = subst IsEmptyMount (sym parts) (record { part = memory_part; alone = refl; empty = refl; together = all_together }) in (
            None,
            subst (λ ms. IsSerialOutcome None (map string_bytes words) ms c.run.new.mounts.items c.run.result) parts
                (subst (λ ws. IsSerialOutcome None ws c.args.mounts.now.items c.run.new.mounts.items c.run.result) same (c.run.ensures.serial some empty)),
          );
      fits = λ no some.
          let none : first ≡ 0 = c.requires.first ∙ ap (λ b. if b then 2 else 0) no in
          let same : map string_bytes (take (length words - first) (drop first words)) ≡ map string_bytes words =
          ap (λ n. map string_bytes (take (length words - n) (drop n words))) none ∙ ap (map string_bytes) (take_rest words 0) in
          let parts : c.args.mounts.now.items ≡ parts_of false = c.requires.parts ∙ ap parts_of no in
          let empty : IsEmptyMount c.args.mounts.now.items = subst IsEmptyMount (sym parts) (record { part = memory_part; alone = refl; empty = refl; together = all_together }) in (
            None,
            subst (λ ms. IsYesOutcome None (map string_bytes words) ms c.run.result) parts (subst (λ ws. IsYesOutcome None ws c.args.mounts.now.items c.run.result) same (c.run.ensures.fits some empty)),
          );
      refused = subst (λ ws. (c.run.result.status ≡ 2) ↔ AreRefused ws) rest c.run.ensures.refused;
      started = λ some.
          let r = c.run.ensures.started some in (
            None,
            subst (λ ms. HasRun None (drop (mount_words (map string_bytes words)) (map string_bytes words)) ms c.run.new.mounts.items c.run.result (Unit {0})) c.requires.parts
                (subst (λ ws. HasRun None ws c.args.mounts.now.items c.run.new.mounts.items c.run.result (Unit {0})) rest
                (record { scripts = r.scripts; asked = r.asked; ran = record { whole = r.ran.whole; run = r.ran.run; full = r.ran.full; unwritten = λ no. tt; typed = r.ran.typed } })),
          );
    }
