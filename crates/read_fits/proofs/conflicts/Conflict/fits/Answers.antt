use Rattle.std.proofs.Common.{◌≡◌, ◌∙◌, true, false, sym, subst}
use Rattle.std.specs.Prelude.{IsTrue}
use Rattle.std.proofs.lemmas.Result.{IfOk-weaker}
use Rattle.history.specs.History.{History}
use Rattle.history.specs.declared.event.Mode.{Mode}
use Rattle.read_fits.specs.Conflicts.{IsOthers}
use Rattle.read_fits.proofs.ConflictLaws.{met_told, own_chunks, told_met, told_others}
use Rattle.read_fits.proofs.conflicts.Conflict.fits.Goals as goal

pub is_of_any-requires : goal.is_of_any-requires
is_of_any-requires c = (c.requires.0, c.requires.3, own_chunks c.requires.0 c.requires.1 c.requires.2 c.args.own.now.staging c.args.own.now.reads.set.keys c.requires.4 c.requires.5)

pub returns-then-not-may_be_told : goal.returns-then-not-may_be_told
returns-then-not-may_be_told c = λ h upto t tables own each mode. (
  (λ so. absurd (let clash : false ≡ true = so in cc)),
  (λ told.
      let so : c.may_be_told.result ≡ true = c.may_be_told.ensures.1 (subst (λ (m : Mode). IsTrue m.repeatable_read) mode told.asked, told.later) in
      let clash : true ≡ false = sym so ∙ c.if-not-may_be_told.true in
      absurd (cc)),
)

pub returns-then-not-is_others : goal.returns-then-not-is_others
returns-then-not-is_others c = λ h upto t tables own each mode. (
  (λ so. absurd (let clash : false ≡ true = so in cc)),
  (λ told.
      let others = told_others h c.args.openings.now c.args.store.now tables upto t c.args.own.now.staging c.args.own.now.reads.set.keys own c.args.by.owner c.args.self.now.key c.args.self.now.read c.args.self.now.touch told in
      let so : c.is_others.result ≡ true = c.is_others.ensures.1 (subst (λ (events : History). IsOthers events c.args.by.owner c.args.self.now.touch) (sym c.items.ensures) others) in
      let clash : true ≡ false = sym so ∙ c.if-not-is_others.true in
      absurd (cc)),
)

pub returns : goal.returns
returns c =
    IfOk-weaker c.is_of_any.result _ _
    (λ is tests h upto t tables own each mode.
    let law = tests h tables (own_chunks h upto t.ops c.args.own.now.staging c.args.own.now.reads.set.keys own each) in
    let may = c.may_be_told.ensures.0 c.if-not-may_be_told.false in
    let others = subst (λ (events : History). IsOthers events c.args.by.owner c.args.self.now.touch) c.items.ensures (c.is_others.ensures.0 c.if-not-is_others.false) in (
      (λ so. met_told h c.args.openings.now c.args.store.now tables upto t c.args.own.now.staging c.args.own.now.reads.set.keys own c.args.by.owner c.args.self.now.key c.args.self.now.read c.args.self.now.touch
          (subst (λ (m : Mode). IsTrue m.repeatable_read) (sym mode) may.0) may.1 others (law.0 so)),
      (λ told. law.1 (told_met h c.args.openings.now c.args.store.now tables upto t c.args.own.now.staging c.args.own.now.reads.set.keys own c.args.by.owner c.args.self.now.key c.args.self.now.read c.args.self.now.touch told)),
    )) c.is_of_any.ensures
