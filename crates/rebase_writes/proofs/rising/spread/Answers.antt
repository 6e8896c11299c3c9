-- What is spread in the words and into empty marks.
use Rattle.std.proofs.Common.{◌≡◌, ◌≤◌, ◌<◌, ◌∙◌, ◌+◌, ◌-◌, ◌*◌, ◌/◌, ◌++◌, List, ℕ, None, length, get_or, take, drop, replicate, ap, sym, subst, arith, rules}
use Rattle.cells.specs.declared.run.Run.{Run}
use Rattle.cells.specs.Runs.{view_place}
use Rattle.rebase_writes.specs.Marks.{is_marked, marks_of}
use Rattle.rebase_writes.specs.Rising.{AreRising, runs_staged}
use Rattle.rebase_writes.specs.Staged.{staged_cells}
use Rattle.rebase_writes.proofs.MarkLaws.{unmarked_zeros}
use Rattle.rebase_writes.proofs.PutLaws.{front_of, rising_longer}
use Rattle.rebase_writes.proofs.RisingLaws.{runs_alike}
use Rattle.rebase_writes.proofs.rising.spread.Goals as goal

pub spread_runs-requires-clause-rising : goal.spread_runs-requires-clause-rising
spread_runs-requires-clause-rising c =
    let size : length c.as_mut_slice-2.result.now ≡ c.args.cells = search rules in
    subst (λ n. AreRising n n c.args.runs.now) (sym size) (rising_longer (length c.args.words.now.items) c.args.cells c.args.cells c.args.runs.now c.requires.few c.requires.rising)

pub spread_runs-requires-clause-small : goal.spread_runs-requires-clause-small
spread_runs-requires-clause-small c =
    let size : length c.as_mut_slice-2.result.now ≡ c.args.cells = search rules in
    omega (arith, size, c.requires.small)

pub spread_runs-requires-clause-room : goal.spread_runs-requires-clause-room
spread_runs-requires-clause-room c =
    let size : length c.as_mut_slice-2.result.now ≡ c.args.cells = search rules in
    let marks : length c.as_mut_slice.result.now ≡ c.args.cells / 64 + 1 = search rules in
    omega (arith, size, marks)

pub spread_runs-requires-clause-none : goal.spread_runs-requires-clause-none
spread_runs-requires-clause-none c place =
    let marks : c.resize.new.self.items ≡ replicate (c.args.cells / 64 + 1) 0 = search rules in
    ap (λ (ms : List ℕ). is_marked ms place) (c.as_mut_slice.ensures.value ∙ marks) ∙ unmarked_zeros (c.args.cells / 64 + 1) place

pub returns-clause-staged : goal.returns-clause-staged
returns-clause-staged c =
    let new_marks = c.spread_runs.new.marks in
    let new_words = c.spread_runs.new.words in
    let size : length c.as_mut_slice-2.result.now ≡ c.args.cells = search rules in
    let long_marks : length new_marks ≡ c.resize.new.self.len = search rules in
    let long_words : length new_words ≡ c.resize-2.new.self.len = search rules in
    ap (λ (m : List ℕ). staged_cells (marks_of c.args.cells m) (take c.resize-2.new.self.len (new_words ++ drop (length new_words) c.resize-2.new.self.items))) (front_of c.resize.new.self.len new_marks _ long_marks)
    ∙ ap (staged_cells (marks_of c.args.cells new_marks)) (front_of c.resize-2.new.self.len new_words _ long_words)
    ∙ c.spread_runs.ensures c.args.cells size
    ∙ runs_alike c.args.runs.now c.as_mut_slice-2.result.now c.args.words.now.items (replicate c.args.cells None)
    (λ i d inside k less.
    let place = view_place (get_or c.args.runs.now i d) k in
    let within = (c.requires.rising.inside i d inside).in_view k less in
    ap (λ (ws : List ℕ). get_or ws place 0) c.as_mut_slice-2.ensures.value
    ∙ c.resize-2.ensures.by_index.0 place 0 (omega (arith, within, c.requires.few)) (omega (arith, within, c.args.words.now.ok)))
