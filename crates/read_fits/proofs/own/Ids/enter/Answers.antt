use Rattle.std.proofs.Common.{◌≡◌, ◌∙◌, ◌∷◌, ◌++◌, ◌||◌, [], ℕ, List, false, cond, ap}
use Rattle.std.specs.Str.{bytes_eq}
use Rattle.read_fits.specs.Owned.{Id, has_id}
use Rattle.read_fits.proofs.OwnLaws.{has_more}
use Rattle.read_fits.proofs.own.Ids.enter.Goals as goal
use Rattle.read_fits.proofs.own.Ids.enter.Goals.{in-Ok, in-Err}

pub returns : goal.returns
returns c =
    let ks : List Id = c.args.self.now.set.keys in
    let key : Id = c.in_ok-key.key in
    let absent : has_id ks key.items ≡ false = ap (has_id ks) c.in_ok-key.ensures.items ∙ c.requires in
    elim c.match-insert.branch [
      | in-Ok w ↦ rw w.result-is (λ other.
          ap (λ (xs : List Id). has_id xs other) (w.in-Ok.ensures.keys ∙ ap (λ b. cond b ks (ks ++ key ∷ [])) absent)
          ∙ has_more ks key other
          ∙ ap (λ (xs : List ℕ). bytes_eq xs other || has_id ks other) c.in_ok-key.ensures.items)
      | in-Err w ↦ rw w.result-is tt
    ]
