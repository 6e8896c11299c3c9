-- What the marks of a session's transaction are between its lines.
use Rattle.std.proofs.Common.{◌≡◌, ℕ, ◌+◌, ◌<◌, ◌≤◌, List, [], ◌∷◌, ◌++◌, length, take, take-take, Bool, true, false, cond, Option, Some, None, Ok, Err, Result, refl, sym, ap, subst, ◌∙◌, arith, append-nil, append_assoc, length-take}
use Rattle.std.specs.Prelude.{◌||◌, IsTrue, not, filter, filter_map}
use Rattle.std.specs.List.{AllByRecursion, list_any}
use Rattle.std.specs.FinMap as finmap
use Rattle.stack_driver.specs.Targets.{Cell, Target}
use Rattle.stack_driver.specs.Views.{targets_of}
use Rattle.stack_driver.specs.declared.error.TargetError.{TargetError}
use Rattle.stack_driver.specs.declared.view.View.{View}
use Rattle.history.specs.declared.event.Mode.{Mode}
use Rattle.history.specs.declared.event.Op.{Op}
use Rattle.history.specs.declared.event.Op.TheVariants.{Write, Read}
use Rattle.history.specs.Arrays.{Known, known_after}
use Rattle.history.specs.Chunks.{Chunk, is_chunk, chunk_of}
use Rattle.history.specs.Commit.{Transaction}
use Rattle.history.specs.History.{History}
use Rattle.history.specs.Legal.{IsLegal}
use Rattle.history.specs.Reads.{Marks, has_mark, target_cell, cells_named, is_put, unwritten, first_reads}
use Rattle.history.specs.Refs.{HasKnownRefs}
use Rattle.history.specs.Sessions.{new_transaction}
use Rattle.history.specs.Shown.{IsMarkWithin, AreMarked, after_read}
use Rattle.history.specs.Steps.{with_write}
use Rattle.history.specs.Writes.{puts_of}
use Rattle.history.proofs.Laws.{legal_take, known_still, chunk_array, same_chunks, WasInside, LiesOf, targets_lie}
use Rattle.history.proofs.Transactions.{all_with}
use Rattle.transcript_laws.specs.Transcript.{Told}
use Rattle.transcript_laws.specs.Numbers.{numbers_of}
use Rattle.transcript_laws.specs.Windows.{last_of, lines_up_to, lines_before}
use Rattle.transcript_laws.proofs.Bounds.{up_to_more}
use Rattle.transcript_laws.proofs.Seen.{AreFrom, chunk_stays}

-- the number from which on a transaction may have looked at events
abbrev pub base : Option Transaction → List Told → ℕ
base t earlier = last_of (numbers_of (lines_before t earlier))

-- the operations that are read first, where one more is done
pub first_reads-more : (op : Op) (before ops : List Op) → first_reads before (ops ++ op ∷ []) ≡ first_reads before ops ++ first_reads (before ++ ops) (op ∷ [])
first_reads-more op before [] = ap (λ b. first_reads b (op ∷ [])) (sym (append-nil before))
first_reads-more op before (Write view words ∷ ops) = first_reads-more op (before ++ Write view words ∷ []) ops ∙ ap (λ b. first_reads (before ++ Write view words ∷ []) ops ++ first_reads b (op ∷ [])) (append_assoc before (Write view words ∷ []) ops)
first_reads-more op before (Read view words ∷ ops) =
    ap (λ xs. unwritten before view ++ xs)
    (first_reads-more op (before ++ Read view words ∷ []) ops ∙ ap (λ b. first_reads (before ++ Read view words ∷ []) ops ++ first_reads b (op ∷ [])) (append_assoc before (Read view words ∷ []) ops))
    ∙ sym (append_assoc (unwritten before view) (first_reads (before ++ Read view words ∷ []) ops) (first_reads (before ++ (Read view words ∷ ops)) (op ∷ [])))

has_more : (marks fresh : Marks) (c : Chunk) → has_mark marks c ≡ true → has_mark (marks ++ fresh) c ≡ true
has_more [] fresh c has = absurd (cc)
has_more (m ∷ marks) fresh c has = by (is_chunk m.0 c) has (has_more marks fresh c)
  where
    by : (b : Bool) → (b || has_mark marks c) ≡ true → (has_mark marks c ≡ true → has_mark (marks ++ fresh) c ≡ true) → (b || has_mark (marks ++ fresh) c) ≡ true
    by true is rest = refl
    by false is rest = rest is

pub all_kept : (P : Cell → Type 0) (test : Cell → Bool) (xs : List Cell) → AllByRecursion P xs → AllByRecursion P (filter test xs)
all_kept P test [] all = tt
all_kept P test (x ∷ xs) all = by (test x) (all_kept P test xs all.1)
  where
    by : (b : Bool) → AllByRecursion P (filter test xs) → AllByRecursion P (cond b (x ∷ filter test xs) (filter test xs))
    by true rest = (all.0, rest)
    by false rest = rest

pub none_kept : (test : Cell → Bool) (xs : List Cell) → AllByRecursion (λ x. test x ≡ false) xs → filter test xs ≡ []
none_kept test [] all = refl
none_kept test (x ∷ xs) all = ap (λ b. cond b (x ∷ filter test xs) (filter test xs)) all.0 ∙ none_kept test xs all.1

pub all_mapped : (P Q : Cell → Type 0) → ((x : Cell) → P x → Q x) → (xs : List Cell) → AllByRecursion P xs → AllByRecursion Q xs
all_mapped P Q f [] all = tt
all_mapped P Q f (x ∷ xs) all = (f x all.0, all_mapped P Q f xs all.1)

pub all_both : (P Q : Cell → Type 0) (xs : List Cell) → AllByRecursion P xs → AllByRecursion Q xs → AllByRecursion (λ x. P x × Q x) xs
all_both P Q [] one other = tt
all_both P Q (x ∷ xs) one other = ((one.0, other.0), all_both P Q xs one.1 other.1)

-- one of them is this chunk
some_of : (f : Cell → Chunk) (P : Cell → Type 0) (c : Chunk) (xs : List Cell) → AllByRecursion P xs → list_any (λ x. is_chunk (f x) c) xs ≡ true → (x : Cell) × P x × (f x ≡ c)
some_of f P c [] all is = absurd (cc)
some_of f P c (x ∷ xs) all is = by (is_chunk (f x) c) refl is (some_of f P c xs all.1)
  where
    by : (b : Bool) → is_chunk (f x) c ≡ b → (b || list_any (λ y. is_chunk (f y) c) xs) ≡ true → (list_any (λ y. is_chunk (f y) c) xs ≡ true → (y : Cell) × P y × (f y ≡ c)) → (y : Cell) × P y × (f y ≡ c)
    by true here any rest = (x, all.0, same_chunks (f x) c here)
    by false here any rest = rest any

module _ (history : History) (legal : IsLegal finmap.empty history) where
  -- the array of a cell is known behind so many events
  abbrev pub IsKnownCell : ℕ → Cell → Type 0
  IsKnownCell seen x = (k : Known) × (known_after (take seen history) x.array ≡ Some k)

  -- so is that of a marked chunk, at its mark
  abbrev pub IsKnownMark : Chunk × ℕ → Type 0
  IsKnownMark p = (k : Known) × (known_after (take p.1 history) p.0.array ≡ Some k)

  known_later : (seen later : ℕ) (a : ℕ) (k : Known) → seen ≤ later → known_after (take seen history) a ≡ Some k → (l : Known) × (known_after (take later history) a ≡ Some l)
  known_later seen later a k low is =
      let early : known_after (take seen (take later history)) a ≡ Some k = ap (λ h. known_after h a) (take-take seen later history low) ∙ is in
      let l = known_still finmap.empty (take later history) a seen k (legal_take finmap.empty history later legal) early in
      (l.0, l.1)

  named_lie : (seen : ℕ) (ts : List (Result Target TargetError)) → AllByRecursion (LiesOf (take seen history)) ts → AllByRecursion (WasInside (take seen history)) (filter_map target_cell ts)
  named_lie seen [] all = tt
  named_lie seen (Ok t ∷ ts) all = (all.0, named_lie seen ts all.1)
  named_lie seen (Err e ∷ ts) all = named_lie seen ts all.1

  -- the cells of a view of known arrays lay in their arrays
  pub cells_lie : (seen : ℕ) (view : View) → HasKnownRefs (take seen history) view → AllByRecursion (WasInside (take seen history)) (cells_named view)
  cells_lie seen view refs = named_lie seen (targets_of view) (targets_lie (take seen history) view refs)

  inside_known : (seen : ℕ) (x : Cell) → WasInside (take seen history) x → IsKnownCell seen x
  inside_known seen x was = let l = known_still finmap.empty (take seen history) x.array was.seen was.array (legal_take finmap.empty history seen legal) was.known in (l.0, l.1)

  -- so the arrays of its cells are known
  pub cells_known : (seen : ℕ) (view : View) → HasKnownRefs (take seen history) view → AllByRecursion (IsKnownCell seen) (cells_named view)
  cells_known seen view refs = all_mapped (WasInside (take seen history)) (IsKnownCell seen) (inside_known seen) (cells_named view) (cells_lie seen view refs)

  pub unwritten_known : (seen : ℕ) (ops : List Op) (view : View) → HasKnownRefs (take seen history) view → AllByRecursion (IsKnownCell seen) (unwritten ops view)
  unwritten_known seen ops view refs = all_kept (IsKnownCell seen) (λ x. not (is_put (puts_of ops) x)) (cells_named view) (cells_known seen view refs)

  -- a cell of a known array stays in its chunk
  pub chunk_now : (seen m : ℕ) (x : Cell) → seen ≤ m → m ≤ length history → IsKnownCell seen x → chunk_of history x ≡ chunk_of (take m history) x
  chunk_now seen m x low within known = chunk_stays history m legal x seen known.0 (omega (arith, low, within, length-take m history)) known.1

  -- the marks of a transaction before the line of a number, behind these lines: none is before its window, each chunk that
  -- was read has one, and a transaction whose reads aren't kept has none
  pub record HasMarks (n : ℕ) (earlier : List Told) (t : Transaction) : Type 0 where
    pub began : t.line < n
    pub from : AreFrom (base (Some t) earlier) t.marks
    pub plain : t.mode.repeatable_read ≡ false → t.marks ≡ []
    pub covered : AllByRecursion (λ x. has_mark t.marks (chunk_of history x) ≡ true) (first_reads [] t.ops)
    pub known : AllByRecursion IsKnownMark t.marks

  abbrev pub HaveMarks : ℕ → List Told → Option Transaction → Type 0
  HaveMarks n earlier None = Unit {0}
  HaveMarks n earlier (Some t) = HasMarks n earlier t

  -- a line later
  pub marks_later : (n : ℕ) (earlier : List Told) (told : Told) (t : Transaction) → told.number ≡ n → HasMarks n earlier t → HasMarks (n + 1) (earlier ++ told ∷ []) t
  marks_later n earlier told t number is =
      let began = is.began in
      record { began = omega (arith, began); from = by t.mode.repeatable_read refl; plain = is.plain; covered = is.covered; known = is.known }
    where
      by : (b : Bool) → t.mode.repeatable_read ≡ b → AreFrom (last_of (numbers_of (cond b (lines_up_to t.line (earlier ++ told ∷ [])) (earlier ++ told ∷ [])))) t.marks
      by true kept =
          let first = is.began in
          let early : AreFrom (last_of (numbers_of (lines_up_to t.line earlier))) t.marks = subst (λ b. AreFrom (last_of (numbers_of (cond b (lines_up_to t.line earlier) earlier))) t.marks) kept is.from in
          subst (λ ls. AreFrom (last_of (numbers_of ls)) t.marks) (sym (up_to_more t.line earlier told (omega (arith, first, number)))) early
      by false kept = subst (AreFrom (last_of (numbers_of (earlier ++ told ∷ [])))) (sym (is.plain kept)) tt

  pub have_later : (n : ℕ) (earlier : List Told) (told : Told) (t : Option Transaction) → told.number ≡ n → HaveMarks n earlier t → HaveMarks (n + 1) (earlier ++ told ∷ []) t
  have_later n earlier told None number is = tt
  have_later n earlier told (Some t) number is = marks_later n earlier told t number is

  -- a blank line later
  pub have_blank : (n : ℕ) (earlier : List Told) (t : Option Transaction) → HaveMarks n earlier t → HaveMarks (n + 1) earlier t
  have_blank n earlier None is = tt
  have_blank n earlier (Some t) is = let began = is.began in record { began = omega (arith, began); from = is.from; plain = is.plain; covered = is.covered; known = is.known }

  -- a transaction that begins
  pub begun_marks : (n : ℕ) (earlier : List Told) (mode : Mode) → HasMarks (n + 1) earlier (new_transaction n mode)
  begun_marks n earlier mode = record { began = omega arith; from = tt; plain = λ is. refl; covered = tt; known = tt }

  -- a write that is staged
  pub staged_marks : (n : ℕ) (earlier : List Told) (t : Transaction) (view : View) (words : List ℕ) → HasMarks n earlier t → HasMarks n earlier (with_write t view words)
  staged_marks n earlier t view words is = record {
    began = is.began;
    from = is.from;
    plain = is.plain;
    covered = subst (AllByRecursion (λ x. has_mark t.marks (chunk_of history x) ≡ true)) (sym (first_reads-more (Write view words) [] t.ops ∙ append-nil (first_reads [] t.ops))) is.covered;
    known = is.known;
  }

  module _ (seen m : ℕ) (low : seen ≤ m) (within : m ≤ length history) where
    abbrev now : History
    now = take m history

    fresh_from : (from : ℕ) (fresh : Marks) → from ≤ seen → AllByRecursion (IsMarkWithin seen (length now)) fresh → AreFrom from fresh
    fresh_from from [] up all = tt
    fresh_from from (p ∷ fresh) up all = (let first = all.0.0 in omega (arith, up, first), fresh_from from fresh up all.1)

    fresh_known : (xs : List Cell) (fresh : Marks) → AllByRecursion (IsKnownCell seen) xs → AllByRecursion (IsMarkWithin seen (length now)) fresh → AllByRecursion (λ (p : Chunk × ℕ). IsTrue (list_any (λ x. is_chunk (chunk_of now x) p.0) xs)) fresh
        → AllByRecursion IsKnownMark fresh
    fresh_known xs [] known all needed = tt
    fresh_known xs (p ∷ fresh) known all needed =
        let one = some_of (chunk_of now) (IsKnownCell seen) p.0 xs known needed.0 in
        let number : one.0.array ≡ p.0.array = sym (chunk_array (known_after now one.0.array) one.0) ∙ ap (λ (c : Chunk). c.array) one.2 in
        let l = known_later seen p.1 one.0.array one.1.0 all.0.0 one.1.1 in
        ((l.0, ap (known_after (take p.1 history)) (sym number) ∙ l.1), fresh_known xs fresh known all.1 needed.1)

    -- the marks behind a read
    pub record HasReadMarks (from : ℕ) (t : Transaction) (view : View) (marks : Marks) : Type 0 where
      pub from_is : AreFrom from marks
      pub covered : AllByRecursion (λ x. has_mark marks (chunk_of history x) ≡ true) (unwritten t.ops view)
      pub known : AllByRecursion IsKnownMark marks

    pub marks_of_read : (from : ℕ) (t : Transaction) (view : View) (marks : Marks) → HasKnownRefs (take seen history) view → from ≤ seen → AreFrom from t.marks → AllByRecursion IsKnownMark t.marks → AreMarked now seen t view marks → HasReadMarks from t view marks
    marks_of_read from t view marks refs up from_is known is =
        let cells = unwritten_known seen t.ops view refs in
        record {
          from_is = subst (AreFrom from) (sym is.marked) (all_with (λ (p : Chunk × ℕ). from ≤ p.1) t.marks is.fresh from_is (fresh_from from is.fresh up is.within));
          covered =
              all_mapped (λ x. IsKnownCell seen x × IsTrue (has_mark marks (chunk_of now x))) (λ x. has_mark marks (chunk_of history x) ≡ true)
              (λ x both. ap (has_mark marks) (chunk_now seen m x low within both.0) ∙ both.1) (unwritten t.ops view) (all_both (IsKnownCell seen) (λ x. IsTrue (has_mark marks (chunk_of now x))) (unwritten t.ops view) cells is.each);
          known = subst (AllByRecursion IsKnownMark) (sym is.marked) (all_with IsKnownMark t.marks is.fresh known (fresh_known (unwritten t.ops view) is.fresh cells is.within is.needed));
        }

    more_marked : (marks fresh : Marks) (xs : List Cell) → AllByRecursion (λ x. has_mark marks (chunk_of history x) ≡ true) xs → AllByRecursion (λ x. has_mark (marks ++ fresh) (chunk_of history x) ≡ true) xs
    more_marked marks fresh [] all = tt
    more_marked marks fresh (x ∷ xs) all = (has_more marks fresh (chunk_of history x) all.0, more_marked marks fresh xs all.1)

    -- a transaction behind a read
    pub read_marks : (n : ℕ) (earlier : List Told) (t : Transaction) (view : View) (words : List ℕ) (marks : Marks) → HasKnownRefs (take seen history) view → base (Some t) earlier ≤ seen → AreMarked now seen t view marks → HasMarks n earlier t
        → HasMarks n earlier (after_read t view words marks)
    read_marks n earlier t view words marks refs up is has = by t.mode.repeatable_read refl
      where
        by : (b : Bool) → t.mode.repeatable_read ≡ b → HasMarks n earlier (cond b (record t { ops = t.ops ++ Read view words ∷ []; marks = marks }) t)
        by false kept = has
        by true kept =
            let read = marks_of_read (base (Some t) earlier) t view marks refs up has.from has.known is in
            let old : AllByRecursion (λ x. has_mark marks (chunk_of history x) ≡ true) (first_reads [] t.ops) =
            subst (λ ms. AllByRecursion (λ x. has_mark ms (chunk_of history x) ≡ true) (first_reads [] t.ops)) (sym is.marked) (more_marked t.marks is.fresh (first_reads [] t.ops) has.covered) in
            record {
              began = has.began;
              from = read.from_is;
              plain = λ plain. (let clash : true ≡ false = sym kept ∙ plain in absurd (cc));
              covered =
                  subst (AllByRecursion (λ x. has_mark marks (chunk_of history x) ≡ true)) (sym (first_reads-more (Read view words) [] t.ops))
                  (all_with (λ x. has_mark marks (chunk_of history x) ≡ true) (first_reads [] t.ops) (unwritten t.ops view ++ []) old (all_with (λ x. has_mark marks (chunk_of history x) ≡ true) (unwritten t.ops view) [] read.covered tt));
              known = read.known;
            }
