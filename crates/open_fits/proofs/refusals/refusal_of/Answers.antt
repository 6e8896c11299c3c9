use Rattle.std.proofs.Common.{[], subst}
use Rattle.std.specs.Prelude.{unwrap_or}
use Rattle.std.proofs.lemmas.Result.{IfOk-weaker}
use Rattle.chunk_forms.specs.Members.{member_name}
use Rattle.read_fits.specs.Asked.{leaf_asked}
use Rattle.read_fits.specs.Outcomes.{IsToldAs}
use Rattle.read_fits.specs.Openings.{node_of}
use Rattle.open_fits.specs.Refusals.{IsRefusalFor}
use Rattle.open_fits.proofs.RefusalLaws.{refused_taken, refused_exists, refused_mismatch, refused_not_found, refused_undetermined, unrefused_there}
use Rattle.open_fits.proofs.refusals.refusal_of.Goals as goal

pub returns-in-Taken : goal.returns-in-Taken
returns-in-Taken c =
    let q = c.args.q.now in
    IfOk-weaker c.taken.result _ (IsRefusalFor q c.args.place c.args.asked.now c.args.outcome)
    (λ b is events o told. refused_taken (unwrap_or (node_of c.args.place q.plan.tree) []) (leaf_asked c.args.asked.now) q.moment q.told.numbers o b c.in-Taken.other (subst (λ x. IsToldAs events x o) c.in-Taken.is told) is) c.taken.ensures

pub returns-in-Exists : goal.returns-in-Exists
returns-in-Exists c =
    let q = c.args.q.now in
    IfOk-weaker c.exists.result _ (IsRefusalFor q c.args.place c.args.asked.now c.args.outcome)
    (λ b is events o told. refused_exists (unwrap_or (node_of c.args.place q.plan.tree) []) (leaf_asked c.args.asked.now) q.moment q.told.numbers o b (subst (λ x. IsToldAs events x o) c.in-Exists.is told) is) c.exists.ensures

pub returns-in-Mismatch : goal.returns-in-Mismatch
returns-in-Mismatch c =
    let q = c.args.q.now in
    IfOk-weaker c.mismatch.result _ (IsRefusalFor q c.args.place c.args.asked.now c.args.outcome)
    (λ b is events o told. refused_mismatch (unwrap_or (node_of c.args.place q.plan.tree) []) (leaf_asked c.args.asked.now) q.moment q.told.numbers o b c.in-Mismatch.member.now (subst (λ x. IsToldAs events x o) c.in-Mismatch.is told) is) c.mismatch.ensures

pub returns-in-NotFound : goal.returns-in-NotFound
returns-in-NotFound c =
    let q = c.args.q.now in
    IfOk-weaker c.not_found.result _ (IsRefusalFor q c.args.place c.args.asked.now c.args.outcome)
    (λ b is events o told. refused_not_found (unwrap_or (node_of c.args.place q.plan.tree) []) (leaf_asked c.args.asked.now) q.moment q.told.numbers o b (subst (λ x. IsToldAs events x o) c.in-NotFound.is told) is) c.not_found.ensures

pub returns-in-BadWant : goal.returns-in-BadWant
returns-in-BadWant c =
    let q = c.args.q.now in
    IfOk-weaker c.undetermined.result _ (IsRefusalFor q c.args.place c.args.asked.now c.args.outcome)
    (λ b is events o told. refused_undetermined (unwrap_or (node_of c.args.place q.plan.tree) []) (leaf_asked c.args.asked.now) q.moment q.told.numbers o b (member_name c.in-BadWant.member) (subst (λ x. IsToldAs events x o) c.in-BadWant.is told) is) c.undetermined.ensures

pub returns-in-There : goal.returns-in-There
returns-in-There c = λ events o told.
    let q = c.args.q.now in
    let is = subst (λ x. IsToldAs events x o) c.in-There.is told in
    unrefused_there (unwrap_or (node_of c.args.place q.plan.tree) []) (leaf_asked c.args.asked.now) q.moment q.told.numbers o is.0 is.2
