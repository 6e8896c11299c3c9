use mathlib.Core.Bool.{beq}
use Rattle.std.proofs.Common.{rules, arith, ◌≡◌, ◌∙◌, ℤ, pos, FitsSigned, w64, get_or, ap, sym, false, true, Bool, unsigned_abs, refl}
use Rattle.std.proofs.lemmas.Int.{ints, to_z-of_z}
use Rattle.chunk_grid.specs.Rows.{kept}
use Rattle.chunk_grid.proofs.GridLaws.{from_zero_at}
use Rattle.chunk_grid.proofs.RowParts.{all_kept-at}
use Rattle.chunk_grid.proofs.rows.kept_at.Goals as goal

kept-wanted : (flag want : Bool) (x : ℤ) → beq flag want ≡ true → kept want flag x ≡ x
kept-wanted true true x e = refl
kept-wanted true false x e = absurd (let no_such : ⊥ = cc in no_such)
kept-wanted false true x e = absurd (let no_such : ⊥ = cc in no_such)
kept-wanted false false x e = refl

kept-other : (flag want : Bool) (x : ℤ) → beq flag want ≡ false → kept want flag x ≡ pos 0
kept-other true true x e = absurd (let no_such : ⊥ = cc in no_such)
kept-other true false x e = refl
kept-other false true x e = refl
kept-other false false x e = absurd (let no_such : ⊥ = cc in no_such)

pub overflow_cast-result : goal.overflow_cast-result
overflow_cast-result c =
    let low = from_zero_at c.args.target.now c.args.output c.requires.from_zero (omega (arith, c.requires.same, c.requires.within)) in
    let fits : FitsSigned w64 (get_or c.args.target.now c.args.output (pos 0)) = search rules in
    let stored = to_z-of_z w64 (get_or c.args.target.now c.args.output (pos 0)) fits in
    rw stored (omega (arith, ints), omega (arith, ints))

pub returns-then-flags-output : goal.returns-then-flags-output
returns-then-flags-output c =
    let x = get_or c.args.target.now c.args.output (pos 0) in
    let fits : FitsSigned w64 (get_or c.args.target.now c.args.output (pos 0)) = search rules in
    ap unsigned_abs (to_z-of_z w64 x fits
    ∙ sym (all_kept-at c.args.want c.args.flags.now c.args.target.now c.args.output false c.requires.same c.requires.within
    ∙ kept-wanted (get_or c.args.flags.now c.args.output false) c.args.want x c.if-flags-output.true))

pub returns-else-flags-output : goal.returns-else-flags-output
returns-else-flags-output c =
    ap unsigned_abs (sym (all_kept-at c.args.want c.args.flags.now c.args.target.now c.args.output false c.requires.same c.requires.within
    ∙ kept-other (get_or c.args.flags.now c.args.output false) c.args.want (get_or c.args.target.now c.args.output (pos 0)) c.if-flags-output.false))
