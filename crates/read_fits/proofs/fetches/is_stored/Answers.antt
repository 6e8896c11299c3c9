use Rattle.std.proofs.Common.{◌≡◌, Option, Some, sym, subst}
use Rattle.std.specs.Prelude.{◌↔◌, IsTrue}
use Rattle.history.specs.declared.array.ArrayInfo.{ArrayInfo}
use Rattle.history.specs.Arrays.{Known}
use Rattle.history.specs.ReadRows.{IsOnMount, mount_of}
use Rattle.line_fits.specs.Transcript.{mount}
use Rattle.read_fits.proofs.fetches.is_stored.Goals as goal

pub info_of-requires : goal.info_of-requires
info_of-requires c = (c.requires.known.0.info, c.requires.infos c.args.array c.requires.known.0 c.requires.known.1)

pub returns : goal.returns
returns c =
    let k : Known = c.requires.known.0 in
    let same : c.info_of.result.now ≡ k.info = c.info_of.ensures k.info (c.requires.infos c.args.array k c.requires.known.1) in
    subst (λ (o : Option Known). IsTrue c.is_on_mount.result ↔ IsOnMount mount o) (sym c.requires.known.1)
    (subst (λ (i : ArrayInfo). IsTrue c.is_on_mount.result ↔ (mount_of i.home ≡ Some mount)) same c.is_on_mount.ensures)
