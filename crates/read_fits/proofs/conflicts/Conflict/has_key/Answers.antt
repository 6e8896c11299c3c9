use Rattle.std.proofs.Common.{◌≡◌, ◌∙◌, drop, sym, ap, subst}
use Rattle.std.specs.Prelude.{string_bytes}
use Rattle.array_homes.specs.Names.{HasRank}
use Rattle.history.specs.Arrays.{Known}
use Rattle.history.specs.Chunks.{chunk_key}
use Rattle.read_fits.specs.Conflicts.{IsArrayOf}
use Rattle.read_fits.proofs.conflicts.Conflict.has_key.Goals as goal

pub key_at-requires : goal.key_at-requires
key_at-requires c =
    let k : Known = c.requires.array.0 in (
      k,
      subst (λ a. IsArrayOf c.args.openings.now a k) (sym c.array_in.ensures) c.requires.array.1,
      subst (HasRank k.info.home) (sym c.index_in.ensures) c.requires.array.2,
    )

pub returns : goal.returns
returns c = λ k array.
    let made : string_bytes c.in_ok-key.key ≡ chunk_key k (drop 1 c.args.id.now) =
    c.in_ok-key.ensures k (subst (λ a. IsArrayOf c.args.openings.now a k) (sym c.array_in.ensures) array) ∙ ap (chunk_key k) c.index_in.ensures in
    let one = c.as_str.ensures.value ∙ made in
    (λ so. sym one ∙ c.is_same.ensures.0 so ∙ c.items.ensures, λ same. c.is_same.ensures.1 (one ∙ same ∙ sym c.items.ensures))
