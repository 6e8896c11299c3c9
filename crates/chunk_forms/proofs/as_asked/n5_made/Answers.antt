use Rattle.std.proofs.Common.{◌≡◌, Some, Ok, sym, ap, ◌∙◌}
use Rattle.chunk_forms.specs.Made.{chunks_made}
use Rattle.chunk_forms.specs.Members.{member_name}
use Rattle.chunk_forms.specs.declared.member.Member.TheVariants as member
use Rattle.chunk_forms.proofs.MadeLaws.{n5_rules}
use Rattle.chunk_forms.proofs.as_asked.n5_made.Goals as goal

pub invariant_of-result : goal.invariant_of-result
invariant_of-result c =
    let shape : c.wrap.result ≡ c.in-Some.dimensions = c.wrap.ensures ∙ c.in_ok-dimensions.ensures.items ∙ c.items-2.ensures in
    let chunks : chunks_made (member_name member.BlockSize) c.want.inside.block c.wrap.result ≡ Ok c.wrap-2.result =
    ap (λ sizes. chunks_made (member_name member.BlockSize) c.want.inside.block sizes) (shape ∙ sym c.items.ensures) ∙ c.in_ok-block.ensures.value ∙ ap Ok (sym c.wrap-2.ensures) in
    n5_rules _ (member_name member.BlockSize) c.wrap.result c.wrap-2.result c.in-Some-dtype.dtype c.want.invariant (c.in-Some.is ∙ ap Some (sym shape)) c.in-Some-dtype.is chunks
