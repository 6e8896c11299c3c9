use Rattle.std.proofs.Common.{◌≡◌, ◌∙◌, ◌++◌, ℕ, List, Some, ap, sym, subst}
use Rattle.std.specs.List.{slice_get}
use Rattle.std.proofs.lemmas.Result.{IfOk-weaker}
use Rattle.array_homes.specs.Names.{HasRank}
use Rattle.history.specs.declared.array.ArrayInfo.{ArrayInfo}
use Rattle.history.specs.Arrays.{Known, form_of}
use Rattle.history.specs.Chunks.{home_text}
use Rattle.history.specs.Names.{chunk_name}
use Rattle.history.proofs.Laws.{some_inj}
use Rattle.read_fits.proofs.conflicts.key_at.Goals as goal

pub info_of-info-requires : goal.info_of-info-requires
info_of-info-requires c = (c.requires.0.info, c.requires.1.info)

pub number_at-opened-requires : goal.number_at-opened-requires
number_at-opened-requires c = (c.requires.0.opened, ap (λ (ns : List ℕ). slice_get ns c.args.array) c.items.ensures ∙ c.requires.1.number)

pub chunk_key-requires : goal.chunk_key-requires
chunk_key-requires c =
    let k : Known = c.requires.0 in
    subst (λ (i : ArrayInfo). HasRank i.home c.args.index.now) (sym (c.info_of-info.ensures k.info c.requires.1.info)) c.requires.2

pub returns : goal.returns
returns c =
    IfOk-weaker c.chunk_key.result _ _
    (λ key is k array.
    let info : c.info_of-info.result.now ≡ k.info = c.info_of-info.ensures k.info array.info in
    let there : slice_get c.args.openings.now.opened c.args.array ≡ Some c.number_at-opened.result = sym (ap (λ (ns : List ℕ). slice_get ns c.args.array) c.items.ensures) ∙ c.number_at-opened.ensures in
    let opened : c.number_at-opened.result ≡ k.opened = some_inj c.number_at-opened.result k.opened (sym there ∙ array.number) in
    is
    ∙ ap (λ (i : ArrayInfo). home_text i.home c.number_at-opened.result ++ chunk_name (form_of i.home) c.args.index.now) info
    ∙ ap (λ n. home_text k.info.home n ++ chunk_name (form_of k.info.home) c.args.index.now) opened)
    c.chunk_key.ensures
