-- The answers of an output have texts of UTF-8 and numbers of 64 bits, where its lines have.
use Rattle.std.proofs.Common.{◌≡◌, ℕ, suc, ◌+◌, ◌-◌, ◌<◌, ◌≤◌, ◌^◌, List, [], ◌∷◌, ◌++◌, length, map, take, Bool, true, false, cond, Option, Some, None, Result, Ok, Err, IsUtf8, refl, sym, ap, subst, arith, length-append}
use Rattle.std.specs.Prelude.{All}
use Rattle.std.specs.FinMap as finmap
use Rattle.std.specs.List.{AllByRecursion}
use Rattle.std.specs.Str.{bytes_eq}
use Rattle.std.proofs.lemmas.Int.{ints}
use Rattle.std.proofs.lemmas.List.{length-take, length-take-le}
use Rattle.cells.specs.Numbers.{IsWord}
use Rattle.cells.specs.declared.dtype.Dtype.{Dtype}
use Rattle.index_intervals.specs.Bounds.{Bounds}
use Rattle.kv_face.specs.Store.{Contents}
use Rattle.stack_driver.specs.References.{Reference}
use Rattle.stack_driver.specs.Views.{look_of}
use Rattle.stack_driver.specs.declared.view.View.{View}
use Rattle.stack_driver.proofs.Looks.{own_dims}
use Rattle.history.specs.declared.array.ArrayInfo.{ArrayInfo}
use Rattle.history.specs.declared.array.Home.{Home}
use Rattle.history.specs.declared.array.Home.TheVariants.{Zarr, N5, Zarr3, Local}
use Rattle.history.specs.Acts.{Act, Asked, act_of}
use Rattle.history.specs.Alone.{single_store}
use Rattle.history.specs.Answers as body
use Rattle.history.specs.Answers.{Body, Answer, Text, BuildCause}
use Rattle.history.specs.Arrays.{Known, known_after, is_local}
use Rattle.history.specs.Commit.{Fixed, Transaction}
use Rattle.history.specs.CommitRows.{IsCommit, conflicts, is_shrunk, is_split, is_damaged, is_done, is_failed, is_wanting, own_part}
use Rattle.history.specs.History.{History}
use Rattle.history.specs.Legal.{IsLegal, IsAsKept}
use Rattle.history.specs.Lines.{SpecLeaf, Line}
use Rattle.history.specs.OpenRows.{AreOpened, no_leaf, known_leaf, new_leaf, given_leaf}
use Rattle.history.specs.Own.{Numbered, numbers_of, opened_event, fault, fault_at}
use Rattle.history.specs.Reads.{mark_of}
use Rattle.history.specs.Refusals.{last_mark, cells_outside}
use Rattle.history.specs.Sessions.{Names, SessionState, bind, reader}
use Rattle.history.specs.Staged.{HasFittingValues, FitsInLine}
use Rattle.history.specs.Steps.{as_written, IsRow, open_done, open_refused, open_unbuilt, open_failed, open_wanting, view_done, read_done, read_shrunk, read_damaged, read_failed, write_staged, write_done, begin_done, commit_done, abort_done, resize_done, resize_many, resize_split, resize_damaged, resize_failed, resolve_done, resolve_refused, IsAnswered, refused_line, wanting, done_line, SessionStep, IsSessionRun, no_line, blank_line, next_line, last_line}
use Rattle.history.proofs.Laws.{known_good, legal_take, opened_as, known_sizes, local_shape, generation_of-le-length, resized_after-le-length}
use Rattle.history.proofs.Openings.{known_there}
use Rattle.history.proofs.StepsKnown.{IsEventOf}
use Rattle.history.proofs.Asking.{IsAskedBy}
use Rattle.transcript_laws.specs.Outputs.{HasWords}
use Rattle.transcript_laws.specs.Transcript.{mount}
use Rattle.transcript_laws.proofs.Bodies.{IsCounted}
use Rattle.transcript_laws.proofs.Checked.{IsCheckedLine, IsCheckedAct, AreCheckedLines, act_checked}
use Rattle.transcript_laws.proofs.Runs.{HasNoMemory}
use Rattle.output_laws.specs.Plain.{IsWhole}
use Rattle.output_laws.specs.Small.{IsSmallDim}
use Rattle.output_laws.specs.Parts.{AreNumbers, IsSmallBuildCause, IsSmallBody}
use Rattle.output_laws.proofs.FlatOutputs.{Lines, AreRankLines, AreRankNames, step_flat}
use Rattle.output_laws.proofs.LineRanks.{IsRankLine}
use Rattle.output_laws.proofs.OpenedRanks.{own_are, opened_few, new_there}
use Rattle.output_laws.proofs.OutcomeTexts.{key_text, metadata_text, refusal_small}
use Rattle.output_laws.proofs.SmallLines.{IsSmallBuilt, IsSmallLine, AreSmallNames, IsSmallDone, IsSmallAsked, act_small}
use Rattle.output_laws.proofs.SmallViews.{IsSmallRef, IsSmallView}
use Rattle.output_laws.proofs.TextEvents.{IsTextHome, AreTextEvents, IsTextLeaf, known_text, front_text}
use Rattle.output_laws.proofs.ViewRanks.{IsRankRef}

abbrev pub AreSmallLines : Lines → Type 0
AreSmallLines [] = Unit {0}
AreSmallLines (None ∷ lines) = AreSmallLines lines
AreSmallLines (Some line ∷ lines) = IsSmallLine line × AreSmallLines lines

-- ---- the arrays of a history

home_sizes : (start : Contents) (events : History) (a : ℕ) (k : Known) → IsLegal start events → AreTextEvents events → known_after events a ≡ Some k → (b : Bool) → is_local k.info.home ≡ b → AllByRecursion (λ size. size < 2 ^ 63) k.shape
home_sizes start events a k legal texts is false stored = lower k.shape (known_sizes start a events legal k is stored)
  where
    lower : (sizes : List ℕ) → AllByRecursion (λ s. s ≤ 2 ^ 62 - 2) sizes → AllByRecursion (λ s. s < 2 ^ 63) sizes
    lower [] all = tt
    lower (s ∷ sizes) all = (omega (arith, all.0), lower sizes all.1)
home_sizes start events a k legal texts is true stored =
    let good = known_good start a events legal k is in
    subst (AllByRecursion (λ size. size < 2 ^ 63)) (sym (local_shape start a events legal k is stored))
    (of_home k.info.home good.kept (known_text events a k texts is) stored)
  where
    of_home : (home : Home) → IsAsKept k.info home → IsTextHome home → is_local home ≡ true → AllByRecursion (λ size. size < 2 ^ 63) k.info.shape
    of_home (Zarr mount path meta) kept text e = absurd (cc)
    of_home (N5 mount path meta) kept text e = absurd (cc)
    of_home (Zarr3 mount path meta) kept text e = absurd (cc)
    of_home (Local cells) kept text e = subst (AllByRecursion (λ size. size < 2 ^ 63)) (sym kept.shape) text

known_small : (start : Contents) (events : History) (a : ℕ) (k : Known) → IsLegal start events → AreTextEvents events → known_after events a ≡ Some k → AllByRecursion (λ size. size < 2 ^ 63) k.shape
known_small start events a k legal texts is = home_sizes start events a k legal texts is (is_local k.info.home) refl

new_sizes : (start : Contents) (events : History) (owner at : ℕ) (info : ArrayInfo) → IsLegal start events → AreTextEvents events → IsEventOf events (record { number = at + 1; event = opened_event owner info }) → AllByRecursion (λ size. size < 2 ^ 63) info.shape
new_sizes start events owner at info legal texts stands =
    let n : ℕ = stands.0 in
    known_small start (take (n + 1) events) info.number (opened_as (take n events) info) (legal_take start events (n + 1) legal) (front_text (n + 1) events texts) (new_there events owner at info stands)

-- the arrays of leaves that were opened
opened_sizes : {start : Contents} {owner : ℕ} {events : History} {seen : ℕ} {leaves : List SpecLeaf} {refs : List Reference} {own : List Numbered} {now : ℕ} {rest : List SpecLeaf} → IsLegal start events → AreTextEvents events → AreOpened start owner events seen leaves refs own now rest
    → AllByRecursion (IsEventOf events) own → AllByRecursion (λ (r : Reference). AllByRecursion (λ size. size < 2 ^ 63) r.shape) refs
opened_sizes legal texts no_leaf stand = tt
opened_sizes {start = start} {events = events} legal texts (known_leaf {leaf = leaf} at k low high outcome more) stand =
    let known = known_there start (take at events) leaf outcome.stored k (legal_take start events at legal) (sym outcome.same) in
    (known_small start (take at events) k.info.number k (legal_take start events at legal) (front_text at events texts) known, opened_sizes legal texts more stand)
opened_sizes {start = start} {owner = owner} {events = events} legal texts (new_leaf at meta low high new more) stand = (new_sizes start events owner at _ legal texts stand.0, opened_sizes legal texts more stand.1)
opened_sizes {start = start} {owner = owner} {events = events} legal texts (given_leaf at low high more) stand = (new_sizes start events owner at _ legal texts stand.0, opened_sizes legal texts more stand.1)

both_refs : (refs : List Reference) → AllByRecursion IsRankRef refs → AllByRecursion (λ (r : Reference). AllByRecursion (λ size. size < 2 ^ 63) r.shape) refs → AllByRecursion IsSmallRef refs
both_refs [] few sizes = tt
both_refs (r ∷ refs) few sizes = (record { few = few.0; sizes = sizes.0 }, both_refs refs few.1 sizes.1)

-- the leaves that are left
rest_text : {start : Contents} {owner : ℕ} {events : History} {seen : ℕ} {leaves : List SpecLeaf} {refs : List Reference} {own : List Numbered} {now : ℕ} {rest : List SpecLeaf} → AreOpened start owner events seen leaves refs own now rest → AllByRecursion IsTextLeaf leaves → AllByRecursion IsTextLeaf rest
rest_text no_leaf texts = texts
rest_text (known_leaf at k low high outcome more) texts = rest_text more texts.1
rest_text (new_leaf at meta low high new more) texts = rest_text more texts.1
rest_text (given_leaf at low high more) texts = rest_text more texts.1

-- ---- numbers of events

event_low : (events : History) (o : Numbered) → IsEventOf events o → o.number ≤ length events
event_low events o stands =
    let n : ℕ = stands.0 in
    let number = stands.1 in
    let parts : length (take (n + 1) events) ≡ length (take n events ++ o.event ∷ []) = ap length stands.2 in
    let more = length-append (take n events) (o.event ∷ []) in
    let one = length-take (n + 1) events in
    let other = length-take n events in
    omega (arith, number, parts, more, one, other)

numbers_low : (events : History) (os : List Numbered) → length events < 2 ^ 64 → AllByRecursion (IsEventOf events) os → AreNumbers (numbers_of os)
numbers_low events [] low stand = tt
numbers_low events (o ∷ os) low stand = (let within = event_low events o stand.0 in omega (arith, within, low), numbers_low events os low stand.1)

front_of : (P : Numbered → Type 0) (xs ys : List Numbered) → AllByRecursion P (xs ++ ys) → AllByRecursion P xs
front_of P [] ys all = tt
front_of P (x ∷ xs) ys all = (all.0, front_of P xs ys all.1)

back_of : (P : Numbered → Type 0) (xs ys : List Numbered) → AllByRecursion P (xs ++ ys) → AllByRecursion P ys
back_of P [] ys all = all
back_of P (x ∷ xs) ys all = back_of P xs ys all.1

-- ---- words and origins

word_low : (dtype : Dtype) (w : ℕ) → IsWord dtype w → w < 2 ^ 64
word_low dtype w is = is.in_64_bits

words_low : (dtype : Dtype) (ws : List ℕ) → All (IsWord dtype) ws → AreNumbers ws
words_low dtype [] all = tt
words_low dtype (w ∷ ws) all = (word_low dtype w (all 0 w (omega arith)), words_low dtype ws (λ k x low. all (suc k) x (omega (arith, low))))

origin_whole : (dims : List Bounds) → AllByRecursion IsSmallDim dims → AllByRecursion IsWhole (map (λ (d : Bounds). d.lo) dims)
origin_whole [] all = tt
origin_whole (d ∷ dims) all = (record { from_least = omega (arith, ints, all.0.lo.from_least); to_greatest = omega (arith, ints, all.0.lo.to_greatest) }, origin_whole dims all.1)

-- ---- rows

bound_small : (names : Names) (name : Text) (view : View) → AreSmallNames names → IsSmallView view → AreSmallNames (bind names name view)
bound_small names name view each has = λ other v is. by other v (bytes_eq name other) is
  where
    by : (other : Text) (v : View) (b : Bool) → cond b (Some view) (names other) ≡ Some v → IsSmallView v
    by other v true is = let same : view ≡ v = cc in subst IsSmallView same has
    by other v false is = each other v is

built_view : (r : Result View (Text × BuildCause)) (v : View) → IsSmallBuilt r → r ≡ Ok v → IsSmallView v
built_view (Ok w) v small is = let same : w ≡ v = cc in subst IsSmallView same small
built_view (Err p) v small is = absurd (cc)

built_cause : (r : Result View (Text × BuildCause)) (path : Text) (cause : BuildCause) → IsSmallBuilt r → r ≡ Err (path, cause) → IsUtf8 path × IsSmallBuildCause cause
built_cause (Ok w) path cause small is = absurd (cc)
built_cause (Err p) path cause small is = let same : p ≡ (path, cause) = cc in subst (λ (q : Text × BuildCause). IsUtf8 q.0 × IsSmallBuildCause q.1) same small

-- a commit's answer as a write's
written_small : (cells : ℕ) (answer : Body) → cells < 2 ^ 64 → IsSmallBody answer → IsSmallBody (as_written cells answer)
written_small cells (body.committed numbers) low small = (low, small)
written_small cells answer low small = small

counted_of : (cells : ℕ) (answer : Body) → IsCounted (as_written cells answer) → IsCounted answer
counted_of cells (body.committed numbers) counted = tt
counted_of cells answer counted = counted

module _ (owner : ℕ) (history : History) (legal : IsLegal finmap.empty history) (texts : AreTextEvents history) (low : length history < 2 ^ 64) where
  abbrev fixed : Fixed
  fixed = single_store mount

  -- behind a row the names are small as before it, and so is its answer
  record Behind (names : Names) (answer : Body) : Type 0 where
    names_are : AreSmallNames names
    small : IsSmallBody answer

  module _ (s : SessionState) (line : ℕ) (events : History) (now : IsLegal finmap.empty events) (told : AreTextEvents events) (few : length events < 2 ^ 64) where
    commit_small : (t : Transaction) (left : Option Transaction) (answer : Body) (os : List Numbered) → AllByRecursion (IsEventOf events) os → IsCommit fixed owner events t left answer os → IsCounted answer → IsSmallBody answer
    commit_small t left answer os stand (conflicts {key} {read} {now = gone} conflict) counted =
        let one = generation_of-le-length (take (mark_of t.marks conflict.chunk) events) conflict.chunk in
        let two = generation_of-le-length events conflict.chunk in
        let size = length-take (mark_of t.marks conflict.chunk) events in
        let before = conflict.read_at in
        let after = conflict.now_at in
        (key_text events conflict.chunk key told conflict.named, omega (arith, few, one, size, before), omega (arith, few, two, after))
    commit_small t left answer os stand (is_shrunk {key} {now = gone} free shrunk) counted =
        let one = resized_after-le-length events shrunk.cell.array in
        let same = shrunk.number in
        (metadata_text events shrunk.cell.array key told shrunk.is_outside.named, omega (arith, few, one, same))
    commit_small t left answer os stand (is_split free present split) counted = absurd counted
    commit_small t left answer os stand (is_damaged may damage) counted = absurd counted
    commit_small t left answer os stand (is_done n may undamaged) counted = numbers_low events os few stand
    commit_small t left answer os stand (is_failed n count other part changed_on) counted =
        let done = own_part fixed owner events n t count in
        let last = back_of (IsEventOf events) done (record { number = n + count + 1; event = fault owner other } ∷ []) stand in
        let within = event_low events _ last.0 in
        (omega (arith, few, within), numbers_low events done few (front_of (IsEventOf events) done (record { number = n + count + 1; event = fault owner other } ∷ []) stand), tt)
    commit_small t left answer os stand (is_wanting n count part) counted = tt

    row_small : (act : Act) (names : Names) (left : Option Transaction) (answer : Body) (os : List Numbered) → AllByRecursion (IsEventOf events) os → IsCheckedAct act → IsSmallDone act → AreSmallNames s.names → IsCounted answer → HasWords answer
        → IsRow fixed owner events s line act names left answer os → Behind names answer
    row_small act names left answer os stand checked parts all counted words (open_done {name = name} {refs = refs} {view = view} opened built) =
        let small = built_view _ view (parts.2 refs (both_refs refs (opened_few now opened stand) (opened_sizes now told opened stand))) built in
        record {
          names_are = bound_small s.names name view all small;
          small = (parts.0, record { dims = small.own.dims; labels = small.own.labels }, numbers_low events os few stand);
        }
    row_small act names left answer os stand checked parts all counted words (open_refused {node = node} {leaf = leaf} opened refusal) =
        let rest = rest_text opened parts.1 in
        let leaf_is = rest.0 in
        let within = refusal.within in
        record {
          names_are = all;
          small = refusal_small node leaf refusal.at (numbers_of os) refusal.outcome answer leaf_is.0 leaf_is.1 leaf_is.2 (omega (arith, few, within)) (numbers_low events os few stand) (take refusal.at events) (front_text refusal.at events told)
              refusal.comes.stored refusal.comes.same counted refusal.answered;
        }
    row_small act names left answer os stand checked parts all counted words (open_unbuilt {refs = refs} {path = path} {cause = cause} opened built) =
        let why = built_cause _ path cause (parts.2 refs (both_refs refs (opened_few now opened stand) (opened_sizes now told opened stand))) built in
        record { names_are = all; small = (why.0, why.1, numbers_low events os few stand) }
    row_small act names left answer os stand checked parts all counted words (open_failed {own = added} {leaf = leaf} before opened failed) =
        let last = back_of (IsEventOf events) added (fault_at (before + 1) owner leaf.mount) stand in
        let within = event_low events _ last.0 in
        record { names_are = all; small = (omega (arith, few, within), tt, numbers_low events added few (front_of (IsEventOf events) added (fault_at (before + 1) owner leaf.mount) stand)) }
    row_small act names left answer os stand checked parts all counted words (open_wanting opened) = record { names_are = all; small = tt }
    row_small act names left answer os stand checked parts all counted words (view_done {name = name} {view = view}) = record { names_are = bound_small s.names name view all parts.1; small = (parts.0, parts.1.own) }
    row_small act names left answer os stand checked parts all counted words (read_done {view = view} {down = None} {words = shown} read) =
        record { names_are = all; small = (origin_whole (look_of view).dims (subst (AllByRecursion IsSmallDim) (own_dims view) parts.own.dims), words_low (look_of view).dtype shown words.1) }
    row_small act names left answer os stand checked parts all counted words (read_done {down = Some down} read) = absurd (cc)
    row_small act names left answer os stand checked parts all counted words (read_shrunk {view = view} {key = key} {now = gone} shrunk) =
        let why = shrunk.shrunk in
        let same = why.number in
        let moment = last_mark events shrunk.marks why.cell.array (cells_outside events shrunk.marks (reader line s.transaction) view) in
        let one = resized_after-le-length (take moment events) why.cell.array in
        let size = length-take moment events in
        record { names_are = all; small = (metadata_text events why.cell.array key told why.named, omega (arith, few, one, size, same)) }
    row_small act names left answer os stand checked parts all counted words (read_damaged damaged) = absurd counted
    row_small act names left answer os stand checked parts all counted words (read_failed before fetched) = let within = event_low events _ stand.0 in record { names_are = all; small = (omega (arith, few, within), tt, tt) }
    row_small act names left answer os stand checked parts all counted words write_staged = record { names_are = all; small = parts }
    row_small act names left answer os stand checked parts all counted words (write_done {words = given} {left = rest} {answer = inner} commit) =
        record { names_are = all; small = written_small (length given) inner parts (commit_small _ rest inner os stand commit (counted_of (length given) inner counted)) }
    row_small act names left answer os stand checked parts all counted words begin_done = record { names_are = all; small = tt }
    row_small act names left answer os stand checked parts all counted words (commit_done {t = t} commit) = record { names_are = all; small = commit_small t left answer os stand commit counted }
    row_small act names left answer os stand checked parts all counted words abort_done = record { names_are = all; small = tt }
    row_small act names left answer os stand checked parts all counted words (resize_done n may undamaged) = absurd checked
    row_small act names left answer os stand checked parts all counted words (resize_many many) = absurd checked
    row_small act names left answer os stand checked parts all counted words (resize_split free split) = absurd checked
    row_small act names left answer os stand checked parts all counted words (resize_damaged may damaged) = absurd checked
    row_small act names left answer os stand checked parts all counted words (resize_failed n may on_mount) = absurd checked
    row_small act names left answer os stand checked parts all counted words (resolve_done k first top is) = absurd checked
    row_small act names left answer os stand checked parts all counted words (resolve_refused k first top is) = absurd checked

    answered_small : (asked : Asked) (names : Names) (left : Option Transaction) (answer : Body) (os : List Numbered) → AllByRecursion (IsEventOf events) os → IsSmallAsked asked → IsAskedBy IsCheckedAct asked → AreSmallNames s.names → IsCounted answer → HasWords answer
        → IsAnswered fixed owner events s line asked names left answer os → Behind names answer
    answered_small asked names left answer os stand parts checked all counted words refused_line = record { names_are = all; small = parts }
    answered_small asked names left answer os stand parts checked all counted words wanting = record { names_are = all; small = tt }
    answered_small asked names left answer os stand parts checked all counted words (done_line {act = act} row) = row_small act names left answer os stand checked parts all counted words row

  step_small : (s : SessionState) (line : ℕ) (asked : Line) (next : SessionState) (answer : Body) → IsCheckedLine asked → IsRankLine asked → HasFittingValues asked → IsSmallLine asked → AreRankNames s.names → AreSmallNames s.names → IsCounted answer → HasWords answer
      → SessionStep fixed owner history s line asked next answer → Behind next.names answer
  step_small s line asked next answer checked ranked fits parts ranks all counted words step =
      let size = length-take-le next.seen history step.within in
      let rises = step.rises in
      let within = step.within in
      answered_small s line (take next.seen history) (legal_take finmap.empty history next.seen legal) (front_text next.seen history texts) (omega (arith, size, within, low)) (act_of s.names s.transaction asked) next.names next.transaction answer _
      (own_are owner s.seen (take next.seen history) (omega (arith, size, rises))) (act_small s.names s.transaction asked ranks all checked ranked fits parts) (act_checked s.names s.transaction asked checked) all counted words step.row

  -- the answers of a run
  pub run_small : {s last : SessionState} {n : ℕ} {lines : Lines} {log : List Answer} → AreCheckedLines lines → AreRankLines lines → AllByRecursion FitsInLine lines → AreSmallLines lines → AreRankNames s.names → AreSmallNames s.names → HasNoMemory log
      → AllByRecursion (λ (a : Answer). IsCounted a.body) log → AllByRecursion (λ (a : Answer). HasWords a.body) log → IsSessionRun fixed owner history s n lines log last → AllByRecursion (λ (a : Answer). IsSmallBody a.body) log
  run_small checked ranked fits parts ranks all none counted words no_line = tt
  run_small checked ranked fits parts ranks all none counted words (blank_line rest) = run_small checked.1 ranked fits.1 parts ranks all none counted words rest
  run_small checked ranked fits parts ranks all none counted words (next_line {s} {m} {last} {line} {asked} {answer} step goes_on rest) =
      let behind = step_small s line asked m answer checked.0 ranked.0 fits.0 parts.0 ranks all counted.0 words.0 step in
      let ranked_behind = step_flat owner history legal s line asked m answer checked.0 ranked.0 ranks step in
      (behind.small, run_small checked.1 ranked.1 fits.1 parts.1 ranked_behind.names_are behind.names_are none.1 counted.1 words.1 rest)
  run_small checked ranked fits parts ranks all none counted words (last_line step) = let wants : true ≡ false = none.0 in absurd (cc)
