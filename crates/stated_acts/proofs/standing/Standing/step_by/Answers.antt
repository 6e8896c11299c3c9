use Rattle.std.proofs.Common.{◌≡◌, None, codes, refl, sym, ap, subst}
use Rattle.std.proofs.lemmas.Result.{IfOk-weaker, on_ok_weaker}
use Rattle.serde_json.specs.Find.{get}
use Rattle.indexmap.specs.IndexMap.{get_by_text}
use Rattle.stated_arrays.specs.ToldNumbers.{single}
use Rattle.stated_acts.specs.Acts.{IsSoundAct}
use Rattle.stated_acts.specs.SaidAnswers.{data_said}
use Rattle.stated_acts.specs.Standings.{transaction_in, standing_of, IsEnded}
use Rattle.stated_acts.specs.declared.acts.Act.{Act}
use Rattle.stated_acts.proofs.StandingLaws.{on_ok_of, none_ended, steps_refused, steps_opens, steps_binds, steps_reads, steps_writes, steps_begins, steps_commits, steps_aborts, views_bound, views_same, views_opened, told_kept, written_kept, begins_kept, left_kept, ended_kept, same_kept, sound_of, kept_of}
use Rattle.stated_acts.proofs.standing.Standing.step_by.Goals as goal

pub returns-in-Refused-clause-stands : goal.returns-in-Refused-clause-stands
returns-in-Refused-clause-stands c =
    on_ok_of c.unmoved.result _ (steps_refused (standing_of c.args.self.now) (standing_of c.args.self.now) c.args.line (data_said c.args.answer.now) c.args.act c.args.opened.now _ c.in-Refused.is refl)

pub returns-in-Refused-clause-ended : goal.returns-in-Refused-clause-ended
returns-in-Refused-clause-ended c =
    none_ended c.unmoved.result (IsEnded c.args.act (transaction_in c.args.self.now.transaction) (transaction_in c.args.self.now.transaction)) c.unmoved.ensures
    (subst (λ (a : Act). IsEnded a (transaction_in c.args.self.now.transaction) (transaction_in c.args.self.now.transaction) None) (sym c.in-Refused.is) refl)

pub returns-in-Refused-clause-sound : goal.returns-in-Refused-clause-sound
returns-in-Refused-clause-sound c = on_ok_of c.unmoved.result _ c.requires.stands

pub returns-in-Opens-clause-stands : goal.returns-in-Opens-clause-stands
returns-in-Opens-clause-stands c =
    on_ok_weaker c.bind_opening.result
    (λ names. steps_opens (standing_of c.args.self.now) (standing_of c.bind_opening.new.self) c.args.line (data_said c.args.answer.now) c.args.act c.args.opened.now c.in-Opens.name c.in-Opens.plan c.in-Opens.is names (ap transaction_in c.bind_opening.ensures.transaction))
    c.bind_opening.ensures.names

pub returns-in-Opens-clause-ended : goal.returns-in-Opens-clause-ended
returns-in-Opens-clause-ended c =
    IfOk-weaker c.bind_opening.result (λ e. e ≡ None) (IsEnded c.args.act (transaction_in c.args.self.now.transaction) (transaction_in c.bind_opening.new.self.transaction))
    (λ e none. subst (λ (a : Act). IsEnded a (transaction_in c.args.self.now.transaction) (transaction_in c.bind_opening.new.self.transaction) e) (sym c.in-Opens.is) none) c.bind_opening.ensures.none

pub returns-in-Opens-clause-sound : goal.returns-in-Opens-clause-sound
returns-in-Opens-clause-sound c =
    on_ok_weaker c.bind_opening.result
    (λ names. sound_of c.bind_opening.new.self
    (views_opened (get_by_text c.args.self.now.names) (get_by_text c.bind_opening.new.self.names) c.in-Opens.name (get (codes "open") (data_said c.args.answer.now)) c.args.opened.now c.requires.stands.views c.requires.opened names)
    (same_kept (transaction_in c.args.self.now.transaction) (transaction_in c.bind_opening.new.self.transaction) (kept_of c.args.self.now c.requires.stands) (ap transaction_in c.bind_opening.ensures.transaction)))
    c.bind_opening.ensures.names

pub returns-in-Binds-clause-stands : goal.returns-in-Binds-clause-stands
returns-in-Binds-clause-stands c =
    on_ok_weaker c.rebind.result
    (λ names. steps_binds (standing_of c.args.self.now) (standing_of c.rebind.new.self) c.args.line (data_said c.args.answer.now) c.args.act c.args.opened.now c.in-Binds.name c.in-Binds.view c.in-Binds.is names (ap transaction_in c.rebind.ensures.transaction))
    c.rebind.ensures.names

pub returns-in-Binds-clause-ended : goal.returns-in-Binds-clause-ended
returns-in-Binds-clause-ended c =
    IfOk-weaker c.rebind.result (λ e. e ≡ None) (IsEnded c.args.act (transaction_in c.args.self.now.transaction) (transaction_in c.rebind.new.self.transaction))
    (λ e none. subst (λ (a : Act). IsEnded a (transaction_in c.args.self.now.transaction) (transaction_in c.rebind.new.self.transaction) e) (sym c.in-Binds.is) none) c.rebind.ensures.none

pub returns-in-Binds-clause-sound : goal.returns-in-Binds-clause-sound
returns-in-Binds-clause-sound c =
    on_ok_weaker c.rebind.result
    (λ names. sound_of c.rebind.new.self
    (views_bound (get_by_text c.args.self.now.names) (get_by_text c.rebind.new.self.names) c.in-Binds.name c.in-Binds.view c.requires.stands.views (subst IsSoundAct c.in-Binds.is c.requires.act) names)
    (same_kept (transaction_in c.args.self.now.transaction) (transaction_in c.rebind.new.self.transaction) (kept_of c.args.self.now c.requires.stands) (ap transaction_in c.rebind.ensures.transaction)))
    c.rebind.ensures.names

pub keep_read-requires : goal.keep_read-requires
keep_read-requires c = subst IsSoundAct c.in-Reads.is c.requires.act

pub returns-in-Reads-clause-stands : goal.returns-in-Reads-clause-stands
returns-in-Reads-clause-stands c =
    on_ok_weaker c.keep_read.result
    (λ transaction. steps_reads (standing_of c.args.self.now) (standing_of c.keep_read.new.self) c.args.line (data_said c.args.answer.now) c.args.act c.args.opened.now c.in-Reads.view c.in-Reads.is (ap get_by_text c.keep_read.ensures.names) transaction)
    c.keep_read.ensures.transaction

pub returns-in-Reads-clause-ended : goal.returns-in-Reads-clause-ended
returns-in-Reads-clause-ended c =
    IfOk-weaker c.keep_read.result (λ e. e ≡ None) (IsEnded c.args.act (transaction_in c.args.self.now.transaction) (transaction_in c.keep_read.new.self.transaction))
    (λ e none. subst (λ (a : Act). IsEnded a (transaction_in c.args.self.now.transaction) (transaction_in c.keep_read.new.self.transaction) e) (sym c.in-Reads.is) none) c.keep_read.ensures.none

pub returns-in-Reads-clause-sound : goal.returns-in-Reads-clause-sound
returns-in-Reads-clause-sound c =
    on_ok_weaker c.keep_read.result
    (λ transaction. sound_of c.keep_read.new.self
    (views_same (get_by_text c.args.self.now.names) (get_by_text c.keep_read.new.self.names) c.requires.stands.views (ap get_by_text c.keep_read.ensures.names))
    (told_kept (transaction_in c.args.self.now.transaction) (transaction_in c.keep_read.new.self.transaction) c.in-Reads.view (get (codes "values") (data_said c.args.answer.now)) (kept_of c.args.self.now c.requires.stands) transaction))
    c.keep_read.ensures.transaction

pub returns-in-Writes-clause-stands : goal.returns-in-Writes-clause-stands
returns-in-Writes-clause-stands c =
    on_ok_weaker c.keep_write.result
    (λ transaction. steps_writes (standing_of c.args.self.now) (standing_of c.keep_write.new.self) c.args.line (data_said c.args.answer.now) c.args.act c.args.opened.now c.in-Writes.view c.in-Writes.words c.in-Writes.is (ap get_by_text c.keep_write.ensures.names) transaction)
    c.keep_write.ensures.transaction

pub returns-in-Writes-clause-ended : goal.returns-in-Writes-clause-ended
returns-in-Writes-clause-ended c =
    IfOk-weaker c.keep_write.result (λ e. e ≡ None) (IsEnded c.args.act (transaction_in c.args.self.now.transaction) (transaction_in c.keep_write.new.self.transaction))
    (λ e none. subst (λ (a : Act). IsEnded a (transaction_in c.args.self.now.transaction) (transaction_in c.keep_write.new.self.transaction) e) (sym c.in-Writes.is) none) c.keep_write.ensures.none

pub returns-in-Writes-clause-sound : goal.returns-in-Writes-clause-sound
returns-in-Writes-clause-sound c =
    on_ok_weaker c.keep_write.result
    (λ transaction. sound_of c.keep_write.new.self
    (views_same (get_by_text c.args.self.now.names) (get_by_text c.keep_write.new.self.names) c.requires.stands.views (ap get_by_text c.keep_write.ensures.names))
    (written_kept (transaction_in c.args.self.now.transaction) (transaction_in c.keep_write.new.self.transaction) c.in-Writes.view c.in-Writes.words (kept_of c.args.self.now c.requires.stands) transaction))
    c.keep_write.ensures.transaction

pub returns-in-Begins-clause-stands : goal.returns-in-Begins-clause-stands
returns-in-Begins-clause-stands c =
    steps_begins (standing_of c.args.self.now) (standing_of c.begin.new.self) c.args.line (data_said c.args.answer.now) c.args.act c.args.opened.now c.in-Begins.mode c.in-Begins.is (ap get_by_text c.begin.ensures.names) c.begin.ensures.transaction

pub returns-in-Begins-clause-ended : goal.returns-in-Begins-clause-ended
returns-in-Begins-clause-ended c =
    subst (λ (a : Act). IsEnded a (transaction_in c.args.self.now.transaction) (transaction_in c.begin.new.self.transaction) None) (sym c.in-Begins.is) refl

pub returns-in-Begins-clause-sound : goal.returns-in-Begins-clause-sound
returns-in-Begins-clause-sound c =
    sound_of c.begin.new.self
    (views_same (get_by_text c.args.self.now.names) (get_by_text c.begin.new.self.names) c.requires.stands.views (ap get_by_text c.begin.ensures.names))
    (begins_kept (transaction_in c.begin.new.self.transaction) c.args.line c.in-Begins.mode c.begin.ensures.transaction)

pub returns-in-Commits-clause-stands : goal.returns-in-Commits-clause-stands
returns-in-Commits-clause-stands c =
    steps_commits (standing_of c.args.self.now) (standing_of c.end.new.self) c.args.line (data_said c.args.answer.now) c.args.act c.args.opened.now c.args.numbers.now c.in-Commits.is (ap get_by_text c.end.ensures.names) c.end.ensures.transaction c.requires.numbers

pub returns-in-Commits-clause-ended : goal.returns-in-Commits-clause-ended
returns-in-Commits-clause-ended c =
    subst (λ (a : Act). IsEnded a (transaction_in c.args.self.now.transaction) (transaction_in c.end.new.self.transaction) c.end.result) (sym c.in-Commits.is) c.end.ensures.ended

pub returns-in-Commits-clause-sound : goal.returns-in-Commits-clause-sound
returns-in-Commits-clause-sound c =
    sound_of c.end.new.self
    (views_same (get_by_text c.args.self.now.names) (get_by_text c.end.new.self.names) c.requires.stands.views (ap get_by_text c.end.ensures.names))
    (left_kept (transaction_in c.args.self.now.transaction) (transaction_in c.end.new.self.transaction) c.args.numbers.now.done (single c.args.numbers.now.failed) c.args.numbers.now.damaged (kept_of c.args.self.now c.requires.stands) c.end.ensures.transaction)

pub returns-in-Aborts-clause-stands : goal.returns-in-Aborts-clause-stands
returns-in-Aborts-clause-stands c =
    steps_aborts (standing_of c.args.self.now) (standing_of c.abort.new.self) c.args.line (data_said c.args.answer.now) c.args.act c.args.opened.now c.in-Aborts.is (ap get_by_text c.abort.ensures.names) c.abort.ensures.transaction

pub returns-in-Aborts-clause-ended : goal.returns-in-Aborts-clause-ended
returns-in-Aborts-clause-ended c =
    subst (λ (a : Act). IsEnded a (transaction_in c.args.self.now.transaction) (transaction_in c.abort.new.self.transaction) None) (sym c.in-Aborts.is) refl

pub returns-in-Aborts-clause-sound : goal.returns-in-Aborts-clause-sound
returns-in-Aborts-clause-sound c =
    sound_of c.abort.new.self
    (views_same (get_by_text c.args.self.now.names) (get_by_text c.abort.new.self.names) c.requires.stands.views (ap get_by_text c.abort.ensures.names))
    (ended_kept (transaction_in c.abort.new.self.transaction) c.abort.ensures.transaction)
