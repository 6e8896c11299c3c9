use Rattle.std.proofs.Common.{◌≡◌, ◌∷◌, length, drop, codes, sym, ap, ◌∙◌, arith}
use Rattle.std.specs.Prelude.{string_bytes}
use Rattle.std.proofs.lemmas.List.{length-drop}
use Rattle.std.proofs.lemmas.Slice.Eq.{bytes_eq-Decides}
use Rattle.run_words.specs.Options.{Text, texts_of}
use Rattle.run_words.proofs.Texts.{first_text, rest_is}
use Rattle.run_words.proofs.files.marked.Goals as goal

pub returns-then-eq-clause-some : goal.returns-then-eq-clause-some
returns-then-eq-clause-some c =
    let ws = c.args.words.now in
    let first = first_text ws c.mark-item.result c.in-len1-up.len_at_least c.mark-item.is in
    let mark : string_bytes c.mark-item.result ≡ codes "--" = sym c.as_str.ensures.value ∙ (bytes_eq-Decides c.as_str.result.now (codes "--")).0 (sym c.eq.ensures ∙ c.if-eq.true) in (
      first ∙ ap (λ (t : Text). t ∷ texts_of (drop 1 ws)) mark ∙ ap (λ u. codes "--" ∷ texts_of u) (sym (rest_is ws)),
      omega (arith, c.in-len1-up.len_at_least, length-drop 1 ws, ap length (rest_is ws)),
    )
