use Rattle.std.proofs.Common.{◌≡◌, Some, None, Ok, sym, ap, subst, ◌∙◌}
use Rattle.chunk_forms.specs.Made.{chunks_made}
use Rattle.chunk_forms.specs.Members.{member_name}
use Rattle.chunk_forms.specs.declared.member.Member.TheVariants as member
use Rattle.chunk_forms.specs.Wants.{zarr3_mismatch}
use Rattle.zarr3_chunks.specs.Want.{Want}
use Rattle.chunk_forms.proofs.MadeLaws.{zarr3_rules, zarr3_asked}
use Rattle.chunk_forms.proofs.as_asked.zarr3_made.Goals as goal

pub invariant_of-result : goal.invariant_of-result
invariant_of-result c =
    let shape : c.wrap.result ≡ c.in-Some.shape = c.wrap.ensures ∙ c.in_ok-shape.ensures.items ∙ c.items-2.ensures in
    let chunks : chunks_made (member_name member.ChunkGrid) c.want.inside.chunks c.wrap.result ≡ Ok c.wrap-2.result =
    ap (λ sizes. chunks_made (member_name member.ChunkGrid) c.want.inside.chunks sizes) (shape ∙ sym c.items.ensures) ∙ c.in_ok-chunks.ensures.value ∙ ap Ok (sym c.wrap-2.ensures) in
    rw (c.unwrap_or.ensures, c.unwrap_or-2.ensures, c.unwrap_or-3.ensures) (zarr3_rules _ (member_name member.ChunkGrid) c.wrap.result c.wrap-2.result c.in-Some-dtype.dtype c.want.invariant (c.in-Some.is ∙ ap Some (sym shape)) c.in-Some-dtype.is chunks)

pub returns-clause-asked : goal.returns-clause-asked
returns-clause-asked c =
    let w : Want = record { shape = c.want.inside.shape; chunks = c.want.inside.chunks; dtype = c.want.inside.dtype; big = c.want.inside.big; fill = c.want.inside.fill; dot = c.want.inside.dot } in
    let shape : c.wrap.result ≡ c.in-Some.shape = c.wrap.ensures ∙ c.in_ok-shape.ensures.items ∙ c.items-2.ensures in
    let chunks : chunks_made (member_name member.ChunkGrid) c.want.inside.chunks c.wrap.result ≡ Ok c.wrap-2.result =
    ap (λ sizes. chunks_made (member_name member.ChunkGrid) c.want.inside.chunks sizes) (shape ∙ sym c.items.ensures) ∙ c.in_ok-chunks.ensures.value ∙ ap Ok (sym c.wrap-2.ensures) in
    subst (λ (w : Want). zarr3_mismatch w (record { shape = c.wrap.result; chunks = c.wrap-2.result; dtype = c.in-Some-dtype.dtype; big = c.unwrap_or.result; fill = c.unwrap_or-2.result; dot = c.unwrap_or-3.result }) c.wrap.result ≡ None) c.want.view_is
    (rw (c.unwrap_or.ensures, c.unwrap_or-2.ensures, c.unwrap_or-3.ensures) (zarr3_asked w (member_name member.ChunkGrid) c.wrap.result c.wrap-2.result c.in-Some-dtype.dtype (c.in-Some.is ∙ ap Some (sym shape)) c.in-Some-dtype.is chunks))
