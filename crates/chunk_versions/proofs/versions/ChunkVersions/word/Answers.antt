use Rattle.std.proofs.Common.{◌≡◌, ◌≤◌, ℕ, Some, get_or, sym, ap, subst, ◌∙◌}
use Rattle.chunk_versions.specs.Moments.{newest}
use Rattle.chunk_versions.specs.Versions.{Versions, word_as_of, put_at}
use Rattle.chunk_versions.specs.declared.put.Put.{Put}
use Rattle.chunk_versions.proofs.Words.{word_at_end}
use Rattle.chunk_versions.proofs.versions.ChunkVersions.word.Goals as goal

pub returns : goal.returns
returns c =
    let here = c.self.inside in
    let link : get_or here.last.items c.args.place 0 ≡ c.link_of-link.result = ap (λ xs. get_or xs c.args.place 0) (sym c.deref.ensures.value) ∙ sym c.link_of-link.ensures in
    let put : put_at here.fill here.puts.items (get_or here.last.items c.args.place 0) ≡ c.put_at.result =
    ap (put_at here.fill here.puts.items) link ∙ ap (λ ps. put_at here.fill ps c.link_of-link.result) (sym c.deref-2.ensures.value) ∙ sym c.put_at.ensures in
    subst (λ (v : Versions). (m : ℕ) → newest v.touches ≤ m → word_as_of v m c.args.place ≡ Some c.put_at.result.word) c.self.view_is
    (λ m late. word_at_end _ c.self.invariant c.args.place m late ∙ ap (λ (p : Put). Some p.word) put)
