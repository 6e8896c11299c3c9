-- What a line reads is as reads are judged by.
use Rattle.std.proofs.Common.{◌≡◌, ◌∙◌, ◌≤◌, ℕ, List, [], ◌∷◌, Option, Some, None, Ok, take, length, refl, sym, ap, subst, arith}
use Rattle.std.specs.List.{AllByRecursion}
use Rattle.std.specs.FinMap as finmap
use Rattle.std.proofs.Common.{take_all}
use Rattle.history.specs.declared.event.Op.{Op}
use Rattle.history.specs.declared.event.Op.TheVariants.{Write, Read}
use Rattle.history.specs.Acts.{reads}
use Rattle.history.specs.Commit.{Transaction}
use Rattle.history.specs.History.{History}
use Rattle.history.specs.Legal.{IsLegal, AreWritten, HasTarget}
use Rattle.history.specs.Sessions.{reader}
use Rattle.history.proofs.Laws.{legal_take}
use Rattle.open_fits.proofs.Laws.{leaves_in}
use Rattle.open_fits.specs.AnswerLines.{IsAnswerText}
use Rattle.open_fits.specs.Fitting.{IsFetched}
use Rattle.open_fits.specs.ToldNumbers.{single}
use Rattle.open_fits.specs.Windows.{Window}
use Rattle.open_fits.specs.Sweeps.{IsOpIn, HasItsWrites}
use Rattle.open_fits.specs.Owned.{AreOwn, IsThere}
use Rattle.open_fits.specs.ReadFits.{AreReadFits, IsReadOf, IsReadFit}
use Rattle.open_fits.specs.declared.Own.{Own}
use Rattle.open_fits.specs.declared.ReadFit.{ReadFit}
use Rattle.open_fits.specs.declared.ReadFit.TheVariants.{IfFetched}
use Rattle.open_fits.specs.declared.Spot.{Spot}
use Rattle.stack_driver.specs.Views.{targets_of}
use Rattle.stack_driver.specs.declared.view.View.{View}
use Rattle.stack_targets.specs.Landings.{leaves_of}
use Rattle.open_fits.specs.Operations.{AreStaged, IsLeafIn}
use Rattle.stated_history.specs.StatedCommits.{IsSoundOp, IsCounted}
use Rattle.stated_history.specs.Outline.{outline}
use Rattle.transcript_fits.specs.Judges.{IsJudge, history_of}
use Rattle.transcript_fits.specs.LineFits.{IsAnsweredSo, IsLineFit, IsPlainFit, answer_of_line, window_of_line}
use Rattle.transcript_fits.specs.Readings.{IsReading, IsReadingFit}
use Rattle.transcript_fits.specs.Stands.{ops_in}
use Rattle.transcript_fits.specs.declared.judge.Judge.{Judge}
use Rattle.transcript_fits.specs.declared.line_fit.LineFit.{LineFit}
use Rattle.transcript_fits.specs.declared.line_fit.LineFit.TheVariants as lf
use Rattle.transcript_fits.specs.declared.line_fit.ToldLine.{ToldLine}
use Rattle.transcript_fits.proofs.FitLaws.{fit_same}
use Rattle.transcript_fits.proofs.Sound.{op_later}
use Rattle.transcript_fits.proofs.Judged.{judge_legal, judge_still}

writes_of : (op : Op) → IsCounted op → AreWritten op → HasItsWrites op
writes_of (Write view words) count words_are = (count, words_are)
writes_of (Read view words) count words_are = tt

-- a sound operation is one of the history's
pub op_in : (h : History) (op : Op) → IsSoundOp h op → IsOpIn h op
op_in h op is = record {
  view = record { valid = is.view; finite = is.finite; few = is.few; refs = is.refs; targets = is.targets };
  writes = writes_of op is.count is.words;
}

pub ops_in_history : (h : History) (ops : List Op) → AllByRecursion (IsSoundOp h) ops → AllByRecursion (IsOpIn h) ops
ops_in_history h [] are = tt
ops_in_history h (op ∷ ops) are = (op_in h op are.0, ops_in_history h ops are.1)

module _ (j : Judge) (is : IsJudge j) where
  abbrev h : History
  h = history_of j

  whole : (op : Op) (n : ℕ) → n ≤ length h → IsSoundOp (take n h) op → IsSoundOp h op
  whole op n low sound = subst (λ k. IsSoundOp k op) (take_all (length h) h (omega arith)) (op_later h (judge_legal j is) (judge_still j is) n (length h) low op sound)

  pub op_whole : (op : Op) (n : ℕ) → n ≤ length h → IsSoundOp (take n h) op → IsOpIn h op
  op_whole op n low sound = op_in h op (whole op n low sound)

  pub ops_whole : (ops : List Op) (n : ℕ) → n ≤ length h → AllByRecursion (IsSoundOp (take n h)) ops → AllByRecursion (IsOpIn h) ops
  ops_whole [] n low all = tt
  ops_whole (op ∷ ops) n low all = (op_whole op n low all.0, ops_whole ops n low all.1)

  reader_ops : (line : ℕ) (t : Option Transaction) → ops_in t ≡ (reader line t).ops
  reader_ops line None = refl
  reader_ops line (Some t) = refl

  -- what may be read is there when the window ends
  pub read_of : (line : ToldLine) (t : Option Transaction) (view : View) (own : Own) (spot : Spot) → spot.line ≡ line.line → spot.upto ≡ line.window.upto → IsReading j line t view own → IsReadOf h spot t view own.staging
  read_of line t view own spot same_line same_upto read =
      let sound = read.there [] in
      let front : IsLegal finmap.empty (take line.window.upto h) = legal_take finmap.empty h line.window.upto (judge_legal j is) in
      let ops = ap (λ (n : ℕ). (reader n t).ops) same_line in
      record {
        legal = judge_legal j is;
        stated = is.stated;
        within = subst (λ n. n ≤ length h) (sym same_upto) read.within;
        in_history = (op_whole (Read view []) line.window.upto read.within sound).view;
        count = read.cells.1;
        leaves = subst (λ n. AllByRecursion (IsLeafIn (take n h)) (leaves_of view)) (sym same_upto) (leaves_in finmap.empty (take line.window.upto h) view front sound.refs);
        targets = subst (λ n. AllByRecursion (HasTarget (take n h)) (targets_of view)) (sym same_upto) sound.targets;
        each = subst (AllByRecursion (IsOpIn h)) (reader_ops line.line t ∙ sym ops) (ops_whole (ops_in t) line.window.upto read.within read.ops);
        own = subst (λ (p : ℕ × List Op). AreStaged (take p.0 h) p.1 own.staging) (λ i. (sym same_upto i, (reader_ops line.line t ∙ sym ops) i)) read.own.writes;
      }

  -- and what may be fetched
  pub there_of : (line : ToldLine) (t : Option Transaction) (view : View) (own : Own) → IsReading j line t view own → IsThere h line.window.upto view
  there_of line t view own read =
      let sound = read.there [] in
      let front : IsLegal finmap.empty (take line.window.upto h) = legal_take finmap.empty h line.window.upto (judge_legal j is) in
      record {
        legal = judge_legal j is;
        stated = is.stated;
        in_history = (op_whole (Read view []) line.window.upto read.within sound).view;
        leaves = leaves_in finmap.empty (take line.window.upto h) view front sound.refs;
        targets = sound.targets;
      }

  pub own_of : (line : ToldLine) (t : Option Transaction) (view : View) (own : Own) → IsReading j line t view own → AreOwn h line.window.upto (reader line.line t).ops own.staging own.reads.set.keys
  own_of line t view own read = subst (λ ops. AreOwn h line.window.upto ops own.staging own.reads.set.keys) (reader_ops line.line t) read.own

  -- what is told of the read at its spot is told of it at its line
  pub read_so : (line : ToldLine) (t : Option Transaction) (view : View) (own : Own) (spot : Spot) (fit : ReadFit) → spot.line ≡ line.line → spot.from ≡ line.window.from → spot.upto ≡ line.window.upto → spot.failed ≡ line.numbers.now.failed
      → IsReading j line t view own → AreReadFits spot view own.staging line.text.now (answer_of_line line) fit → IsReadFit h line.owner (window_of_line line) t line.line view line.text.now (answer_of_line line) fit
  read_so line t view own spot fit same_line same_from same_upto same_failed read told =
      let text = subst (λ n. IsAnswerText n line.text.now (answer_of_line line)) (sym same_line) read.prints.text in
      subst (λ (p : ℕ × Window). IsReadFit h line.owner p.1 t p.0 view line.text.now (answer_of_line line) fit)
      (λ i. (same_line i, record { from = same_from i; upto = same_upto i }))
      (told h line.owner t (read_of line t view own spot same_line same_upto read) text (read.prints.numbers.failed ∙ ap single (sym same_failed)))

  -- the tables are those of the outline, and what may be fetched is there
  pub fetched_there : (line : ToldLine) (t : Option Transaction) (view : View) (own : Own) → IsReading j line t view own
      → (g : History) × (upto : ℕ) × (u : Transaction) × (outline g ≡ j.source.now.openings.now.events) × IsThere g upto view × AreOwn g upto u.ops own.staging own.reads.set.keys
  fetched_there line t view own read = (h, line.window.upto, reader line.line t, is.outlined, there_of line t view own read, own_of line t view own read)

-- a read that calls the store, or waits for what it read
pub fetched_fits : (h : History) (line : ToldLine) (t : Option Transaction) (view : View) (fit : LineFit) → IsReadFit h line.owner (window_of_line line) t line.line view line.text.now (answer_of_line line) IfFetched
    → IsLineFit h (IsFetched h (reader line.line t) view) fit → IsLineFit h (IsAnsweredSo h line t (Ok (reads view None))) fit
fetched_fits h line t view fit both = fit_same h (IsFetched h (reader line.line t) view) (IsAnsweredSo h line t (Ok (reads view None))) fit (both.1, both.0)

pub plain_reading : (fit : LineFit) → IsPlainFit fit → IsReadingFit fit
plain_reading lf.Unfit plain = tt
plain_reading lf.Fits plain = tt
plain_reading (lf.IfRefused question) plain = absurd plain
plain_reading (lf.IfMet waiting) plain = absurd plain
