-- What is told of a line by what it does.
use Rattle.std.proofs.Common.{◌≡◌, ◌∙◌, ℕ, List, Option, Some, None, Ok, Err, length, take, refl, sym, ap, subst}
use Rattle.std.specs.List.{AllByRecursion}
use Rattle.history.specs.declared.event.Mode.{Mode}
use Rattle.history.specs.declared.event.Op.TheVariants.{Write}
use Rattle.history.specs.Acts.{Asked, opens, binds, reads, stages, writes, begins, commits, aborts, write_act}
use Rattle.history.specs.Answers as old
use Rattle.history.specs.Answers.{Body}
use Rattle.history.specs.Commit.{Transaction}
use Rattle.history.specs.History.{History}
use Rattle.history.proofs.Laws.{none_is_none, some_inj}
use Rattle.open_fits.specs.AnswerLines.{IsAnswerText}
use Rattle.open_fits.specs.Bodies.{body_of}
use Rattle.open_fits.specs.OneAnswer.{HasOneAnswer}
use Rattle.open_fits.specs.OneAnswer as one
use Rattle.open_fits.specs.Openings.{leaves_of, build_of}
use Rattle.open_fits.specs.Sweeps.{IsOpIn}
use Rattle.open_fits.specs.declared.Own.{Own}
use Rattle.stack_driver.specs.Views.{targets_of}
use Rattle.stack_driver.specs.declared.view.View.{View}
use Rattle.stated_history.specs.declared.Act.{Act}
use Rattle.stated_history.specs.declared.Act.TheVariants.{Refused, Opens, Binds, Reads, Writes, Begins, Commits, Aborts}
use Rattle.stated_history.specs.declared.Body.{Body as Printed}
use Rattle.stated_history.specs.declared.Body.TheVariants as printed
use Rattle.stated_history.specs.declared.OpenPlan.{OpenPlan}
use Rattle.stated_history.specs.StatedCommits.{IsSoundOp}
use Rattle.stated_history.specs.ToldStandings.{Standing}
use Rattle.transcript_fits.specs.Judges.{IsJudge, history_of}
use Rattle.transcript_fits.specs.LineFits.{IsLineFit, IsPlainFit, IsAnsweredSo, AreOneAnswer, MayBeAsked, answer_of_line}
use Rattle.transcript_fits.specs.Openings.{IsOpeningFit}
use Rattle.transcript_fits.specs.Readings.{IsReading, IsReadingFit}
use Rattle.transcript_fits.specs.Stands.{IsFaced, IsOwnOf, MayGoOn, ops_in}
use Rattle.transcript_fits.specs.declared.judge.Judge.{Judge}
use Rattle.transcript_fits.specs.declared.line_fit.LineFit.{LineFit}
use Rattle.transcript_fits.specs.declared.line_fit.LineFit.TheVariants.{Unfit, Fits, IfRefused, IfMet}
use Rattle.transcript_fits.specs.declared.line_fit.ToldLine.{ToldLine}
use Rattle.transcript_fits.proofs.ReadLaws.{op_whole, ops_whole}

-- what waits for nothing may be asked, and gone behind
pub plain_asked : (h : History) (fit : LineFit) → IsPlainFit fit → MayBeAsked h fit
plain_asked h Unfit plain = tt
plain_asked h Fits plain = tt
plain_asked h (IfRefused question) plain = absurd plain
plain_asked h (IfMet waiting) plain = absurd plain

pub plain_on : (line : ToldLine) (asked : Asked) (fit : LineFit) → IsPlainFit fit → MayGoOn (answer_of_line line) asked fit
plain_on line asked Unfit plain = tt
plain_on line asked Fits plain = tt
plain_on line asked (IfRefused question) plain = absurd plain
plain_on line asked (IfMet waiting) plain = absurd plain

pub opening_on : (line : ToldLine) (asked : Asked) (fit : LineFit) → IsOpeningFit (answer_of_line line) fit → MayGoOn (answer_of_line line) asked fit
opening_on line asked Unfit is = tt
opening_on line asked Fits is = tt
opening_on line asked (IfRefused question) is = is
opening_on line asked (IfMet waiting) is = absurd is

pub reading_on : (line : ToldLine) (asked : Asked) (view : View) (fit : LineFit) → asked ≡ Ok (reads view None) → IsReadingFit fit → MayGoOn (answer_of_line line) asked fit
reading_on line asked view Unfit same is = tt
reading_on line asked view Fits same is = tt
reading_on line asked view (IfRefused question) same is = absurd is
reading_on line asked view (IfMet waiting) same is = λ name leaves build other. (let clash : Ok (reads view None) ≡ Ok (opens name leaves build) = sym same ∙ other in cc)

module _ (j : Judge) (line : ToldLine) (place : ℕ) (s : Standing) (own : Own) (asked : Asked) where
  -- an act with one answer
  one_fits : (act : Act) (body : Printed) (told : Body) (fit : LineFit) → IsFaced j line place s own asked act → HasOneAnswer asked told → body ≡ body_of told → AreOneAnswer line body fit → IsLineFit (history_of j) (IsAnsweredSo (history_of j) line s.transaction asked) fit
  one_fits act body told fit faced has same tells = tells (history_of j) s.transaction asked told faced.prints.text has same

  asked_as : (told : Asked) (answer : Body) → asked ≡ told → HasOneAnswer told answer → HasOneAnswer asked answer
  asked_as told answer same has = subst (λ a. HasOneAnswer a answer) (sym same) has

  pub refused_fits : (body : Printed) (fit : LineFit) → IsFaced j line place s own asked (Refused body) → AreOneAnswer line body fit → IsLineFit (history_of j) (IsAnsweredSo (history_of j) line s.transaction asked) fit
  refused_fits body fit faced tells = one_fits (Refused body) body faced.does.0 fit faced (asked_as (Err faced.does.0) faced.does.0 faced.does.1 one.refusal) faced.does.2 tells

  pub begun_fits : (mode : Mode) (fit : LineFit) → IsFaced j line place s own asked (Begins mode) → AreOneAnswer line (body_of old.begun) fit → IsLineFit (history_of j) (IsAnsweredSo (history_of j) line s.transaction asked) fit
  begun_fits mode fit faced tells = one_fits (Begins mode) (body_of old.begun) old.begun fit faced (asked_as (Ok (begins mode)) old.begun faced.does.1 one.begun) refl tells

  pub aborted_fits : (fit : LineFit) → IsFaced j line place s own asked Aborts → AreOneAnswer line (body_of old.aborted) fit → IsLineFit (history_of j) (IsAnsweredSo (history_of j) line s.transaction asked) fit
  aborted_fits fit faced tells = one_fits Aborts (body_of old.aborted) old.aborted fit faced (asked_as (Ok aborts) old.aborted faced.does one.aborted) refl tells

  asked_by : (told : Asked) (fit : LineFit) → asked ≡ told → IsLineFit (history_of j) (IsAnsweredSo (history_of j) line s.transaction told) fit → IsLineFit (history_of j) (IsAnsweredSo (history_of j) line s.transaction asked) fit
  asked_by told fit same is = subst (λ (a : Asked). IsLineFit (history_of j) (IsAnsweredSo (history_of j) line s.transaction a) fit) (sym same) is

  -- an act of which it is told whichever transaction stands
  pub opened_fits : (name : List ℕ) (plan : OpenPlan) (fit : LineFit) → IsFaced j line place s own asked (Opens name plan)
      → ((t : Option Transaction) → IsLineFit (history_of j) (IsAnsweredSo (history_of j) line t (Ok (opens name (leaves_of plan) (build_of plan)))) fit) → IsLineFit (history_of j) (IsAnsweredSo (history_of j) line s.transaction asked) fit
  opened_fits name plan fit faced may = asked_by (Ok (opens name (leaves_of plan) (build_of plan))) fit faced.does (may s.transaction)

  pub bound_fits : (name : List ℕ) (view : View) (fit : LineFit) → IsFaced j line place s own asked (Binds name view)
      → ((h : History) (t : Option Transaction) → IsAnswerText line.line line.text.now (answer_of_line line) → IsLineFit h (IsAnsweredSo h line t (Ok (binds name view))) fit)
      → IsLineFit (history_of j) (IsAnsweredSo (history_of j) line s.transaction asked) fit
  bound_fits name view fit faced may = asked_by (Ok (binds name view)) fit faced.does (may (history_of j) s.transaction faced.prints.text)

  -- a read
  pub reading_of : (view : View) → IsFaced j line place s own asked (Reads view) → IsReading j line s.transaction view own
  reading_of view faced = record { prints = faced.prints; within = faced.within; cells = faced.sound; there = faced.there; ops = faced.ops; own = faced.own }

  pub reads_fit : (view : View) (fit : LineFit) → IsFaced j line place s own asked (Reads view)
      → ((t : Option Transaction) → IsReading j line t view own → IsLineFit (history_of j) (IsAnsweredSo (history_of j) line t (Ok (reads view None))) fit) → IsLineFit (history_of j) (IsAnsweredSo (history_of j) line s.transaction asked) fit
  reads_fit view fit faced may = asked_by (Ok (reads view None)) fit faced.does (may s.transaction (reading_of view faced))

  -- a write, in a transaction and outside of one
  pub staged_fits : (view : View) (words : List ℕ) (cells : ℕ) (u : Transaction) (fit : LineFit) → s.transaction ≡ Some u → cells ≡ length words → IsFaced j line place s own asked (Writes view words)
      → AreOneAnswer line (printed.Staged cells) fit → IsLineFit (history_of j) (IsAnsweredSo (history_of j) line s.transaction asked) fit
  staged_fits view words cells u fit stands count faced tells =
      let told : asked ≡ Ok (stages u view words) = faced.does ∙ ap (λ (t : Option Transaction). Ok (write_act t view words)) stands in
      one_fits (Writes view words) (printed.Staged cells) (old.staged (length words)) fit faced (asked_as (Ok (stages u view words)) (old.staged (length words)) told one.staged) (ap printed.Staged count) tells

  pub write_in : IsJudge j → (view : View) (words : List ℕ) → IsFaced j line place s own asked (Writes view words) → IsOpIn (history_of j) (Write view words)
  write_in is view words faced = op_whole j is (Write view words) line.window.upto faced.within faced.there

  pub alone_fits : IsJudge j → (view : View) (words : List ℕ) (cells : ℕ) (fit : LineFit) → s.transaction ≡ None → cells ≡ length words → IsFaced j line place s own asked (Writes view words)
      → ((t : Option Transaction) (given : List ℕ) → length given ≡ cells → length given ≡ length (targets_of view) → IsLineFit (history_of j) (IsAnsweredSo (history_of j) line t (Ok (writes view given))) fit)
      → IsLineFit (history_of j) (IsAnsweredSo (history_of j) line s.transaction asked) fit
  alone_fits is view words cells fit stands count faced may =
      let told : asked ≡ Ok (writes view words) = faced.does ∙ ap (λ (t : Option Transaction). Ok (write_act t view words)) stands in
      asked_by (Ok (writes view words)) fit told (may s.transaction words (sym count) (write_in is view words faced).writes.0)

  -- a commit
  pub commit_ops : IsJudge j → (u : Transaction) → s.transaction ≡ Some u → IsFaced j line place s own asked Commits → AllByRecursion (IsOpIn (history_of j)) u.ops
  commit_ops is u stands faced = ops_whole j is u.ops line.window.upto faced.within (subst (λ (t : Option Transaction). AllByRecursion (IsSoundOp (take line.window.upto (history_of j))) (ops_in t)) stands faced.ops)

  pub commit_own : (u : Transaction) → s.transaction ≡ Some u → IsFaced j line place s own asked Commits → IsOwnOf (history_of j) line.window.upto u.ops own
  commit_own u stands faced = subst (λ (t : Option Transaction). IsOwnOf (history_of j) line.window.upto (ops_in t) own) stands faced.own

  pub commit_fits : (u : Transaction) (fit : LineFit) → s.transaction ≡ Some u → IsFaced j line place s own asked Commits
      → ((t : Option Transaction) → IsLineFit (history_of j) (IsAnsweredSo (history_of j) line t (Ok (commits u))) fit) → IsLineFit (history_of j) (IsAnsweredSo (history_of j) line s.transaction asked) fit
  commit_fits u fit stands faced may =
      let same : Some u ≡ Some faced.does.0 = sym stands ∙ faced.does.1 in
      let one : u ≡ faced.does.0 = some_inj u faced.does.0 same in
      asked_by (Ok (commits u)) fit (faced.does.2 ∙ ap (λ (t : Transaction). Ok (commits t)) (sym one)) (may s.transaction)

  pub no_commit : s.transaction ≡ None → IsFaced j line place s own asked Commits → ⊥
  no_commit stands faced = none_is_none faced.does.0 (sym stands ∙ faced.does.1)
