-- A commit without a conflict, all of whose written cells lie in the present shapes, has legal operations.
use Rattle.std.proofs.Common.{◌≡◌, ℕ, List, [], ◌∷◌, ◌++◌, length, map, Bool, true, false, cond, Option, Some, None, Result, Ok, Err, ◌⊎◌, inl, inr, refl, sym, ap, ◌∙◌, append_assoc, append-nil, arith, eq-eqb}
use Rattle.std.specs.Prelude.{◌==◌, ◌||◌, option_map, filter_map, filter}
use Rattle.std.specs.List.{AllByRecursion, zip}
use Rattle.std.specs.Str.{bytes_eq}
use Rattle.std.proofs.lemmas.Slice.Eq.{bytes_eq-Decides}
use Rattle.cells.proofs.Laws.{both_true}
use Rattle.kv_face.specs.Store.{Contents}
use Rattle.stack_driver.specs.Targets.{Cell, is_cell, Target, outwards}
use Rattle.stack_driver.specs.Views.{targets_of}
use Rattle.stack_driver.specs.declared.error.TargetError.{TargetError}
use Rattle.history.specs.declared.event.Op.{Op}
use Rattle.history.specs.declared.event.Op.TheVariants.{Write, Read}
use Rattle.history.specs.History.{History}
use Rattle.history.specs.Arrays.{known_after}
use Rattle.history.specs.Writes.{Put, put_at, puts_of, puts_of_op, Content, written, shown_in}
use Rattle.history.specs.Content.{content_after, world_after}
use Rattle.history.specs.Reads.{is_put}
use Rattle.history.specs.Legal.{IsLegal, IsLegalOp, HasTarget, AreReads, is_present}
use Rattle.history.specs.Commit.{Fixed, Transaction, kept_ops, commit_events, is_write, HasNoConflict}
use Rattle.history.specs.Staged.{IsFound, IsStaged, AreInShapes}
use Rattle.history.proofs.Commits.{all_filter, kept_reads, committed}
use Rattle.history.specs.Staged.{IsTransaction}
use Rattle.history.proofs.Presence.{world_some}
use Rattle.history.proofs.Written.{puts_elsewhere}

pub same_cell : (x : Cell) → is_cell x x ≡ true
same_cell x = both_true (x.array == x.array) (bytes_eq x.index x.index) (eq-eqb x.array x.array refl) ((bytes_eq-Decides x.index x.index).1 refl)

pub or_left : (a b : Bool) → a ≡ true → (a || b) ≡ true
or_left true b e = refl
or_left false b e = absurd (cc)

pub or_right : (a b : Bool) → b ≡ true → (a || b) ≡ true
or_right true b e = refl
or_right false b e = e

or_assoc : (a b c : Bool) → (a || (b || c)) ≡ ((a || b) || c)
or_assoc true b c = refl
or_assoc false b c = refl

pub or_parted : (a b : Bool) → (a || b) ≡ true → (a ≡ true) ⊎ (b ≡ true)
or_parted true b e = inl refl
or_parted false b e = inr e

-- what some puts and others put
pub put_either : (ps qs : List Put) (x : Cell) → is_put (ps ++ qs) x ≡ (is_put ps x || is_put qs x)
put_either [] qs x = refl
put_either (p ∷ ps) qs x = ap (λ b. is_cell p.0 x || b) (put_either ps qs x) ∙ or_assoc (is_cell p.0 x) (is_put ps x) (is_put qs x)

puts_more : (before : List Op) (op : Op) → puts_of (before ++ op ∷ []) ≡ puts_of before ++ puts_of_op op
puts_more [] op = append-nil (puts_of_op op)
puts_more (b ∷ before) op = ap (λ ps. puts_of_op b ++ ps) (puts_more before op) ∙ sym (append_assoc (puts_of_op b) (puts_of before) (puts_of_op op))

module _ (start : Contents) (events : History) where
  -- the cells of a Write are those that it puts
  write_targets : (ts : List (Result Target TargetError)) (words : List ℕ) → length words ≡ length ts → AllByRecursion IsFound ts
      → ((x : Cell) → is_put (filter_map put_at (zip ts words)) x ≡ true → is_present events x ≡ true) → AllByRecursion (HasTarget events) ts
  write_targets [] words same found there = tt
  write_targets (t ∷ ts) [] same found there = absurd (grind (arith, same))
  write_targets (Err e ∷ ts) (w ∷ ws) same found there = absurd (found.0)
  write_targets (Ok t ∷ ts) (w ∷ ws) same found there =
      let rest = filter_map put_at (zip ts ws) in (
        there t.cell (or_left (is_cell t.cell t.cell) (is_put rest t.cell) (same_cell t.cell)),
        write_targets ts ws (grind (arith, same)) found.1 (λ x e. there x (or_right (is_cell t.cell x) (is_put rest x) e)),
      )

  -- a number is there only in the present shape, or where it was put
  number_there : (before : List Op) → ((x : Cell) → is_put (puts_of before) x ≡ true → is_present events x ≡ true) → (x : Cell) (w : ℕ) → written before (world_after start events) x ≡ Some w → is_present events x ≡ true
  number_there before there x w has = told (is_put (puts_of before) x) refl
    where
      told : (b : Bool) → is_put (puts_of before) x ≡ b → is_present events x ≡ true
      told true e = there x e
      told false e = (world_some (known_after events x.array) x (content_after start events x) w (sym (puts_elsewhere (puts_of before) (world_after start events) x e) ∙ has)).0

  read_targets : (g : Content) → ((x : Cell) (w : ℕ) → g x ≡ Some w → is_present events x ≡ true) → (ts : List (Result Target TargetError)) (words : List ℕ) → map Some words ≡ map (shown_in g) ts → AllByRecursion (HasTarget events) ts
  read_targets g there [] words same = tt
  read_targets g there (t ∷ ts) [] same = absurd (cc)
  read_targets g there (Err e ∷ ts) (w ∷ ws) same = let never : Some w ≡ None = cc in absurd (cc)
  read_targets g there (Ok t ∷ ts) (w ∷ ws) same =
      let head : Some w ≡ option_map (outwards t.casts) (g t.cell) = cc in
      let tail : map Some ws ≡ map (shown_in g) ts = cc in
      (seen (g t.cell) refl head, read_targets g there ts ws tail)
    where
      seen : (o : Option ℕ) → g t.cell ≡ o → Some w ≡ option_map (outwards t.casts) o → is_present events t.cell ≡ true
      seen None e f = absurd (cc)
      seen (Some v) e f = there t.cell v e

  each_legal : (before ops : List Op) → AreReads (world_after start events) before ops → AllByRecursion IsStaged ops
      → ((x : Cell) → is_put (puts_of before) x ≡ true → is_present events x ≡ true) → ((x : Cell) → is_put (puts_of ops) x ≡ true → is_present events x ≡ true) → AllByRecursion (IsLegalOp events) ops
  each_legal before [] reads staged there here = tt
  each_legal before (Write view words ∷ ops) reads staged there here =
      let op : Op = Write view words in
      let first : (x : Cell) → is_put (puts_of_op op) x ≡ true → is_present events x ≡ true = λ x e. here x (put_either (puts_of_op op) (puts_of ops) x ∙ or_left (is_put (puts_of_op op) x) (is_put (puts_of ops) x) e) in (
        record {
          finite = staged.0.finite;
          targets = write_targets (targets_of view) words staged.0.count staged.0.targets first;
          count = staged.0.count;
          words = staged.0.words;
        },
        each_legal (before ++ op ∷ []) ops reads staged.1 (more before op there first) (λ x e. here x (put_either (puts_of_op op) (puts_of ops) x ∙ or_right (is_put (puts_of_op op) x) (is_put (puts_of ops) x) e)),
      )
    where
      more : (before : List Op) (op : Op) → ((x : Cell) → is_put (puts_of before) x ≡ true → is_present events x ≡ true) → ((x : Cell) → is_put (puts_of_op op) x ≡ true → is_present events x ≡ true)
          → (x : Cell) → is_put (puts_of (before ++ op ∷ [])) x ≡ true → is_present events x ≡ true
      more before op old new x e =
          elim (or_parted (is_put (puts_of before) x) (is_put (puts_of_op op) x) (sym (ap (λ ps. is_put ps x) (puts_more before op) ∙ put_either (puts_of before) (puts_of_op op) x) ∙ e)) [
            | inl a ↦ old x a
            | inr b ↦ new x b
          ]
  each_legal before (Read view words ∷ ops) reads staged there here =
      let op : Op = Read view words in (
        record {
          finite = staged.0.finite;
          targets = read_targets (written before (world_after start events)) (number_there before there) (targets_of view) words reads.0;
          count = staged.0.count;
          words = staged.0.words;
        },
        each_legal (before ++ op ∷ []) ops reads.1 staged.1
            (λ x e. there x (sym (ap (λ ps. is_put ps x) (puts_more before op ∙ append-nil (puts_of before))) ∙ e)) here,
      )

-- what isn't kept of the operations of a transaction puts nothing
kept_puts : (b : Bool) (ops : List Op) → puts_of (cond b ops (filter is_write ops)) ≡ puts_of ops
kept_puts true ops = refl
kept_puts false ops = writes_put ops
  where
    writes_put : (ops : List Op) → puts_of (filter is_write ops) ≡ puts_of ops
    writes_put [] = refl
    writes_put (Write view words ∷ ops) = ap (λ ps. puts_of_op (Write view words) ++ ps) (writes_put ops)
    writes_put (Read view words ∷ ops) = writes_put ops

kept_staged : (b : Bool) (ops : List Op) → AllByRecursion IsStaged ops → AllByRecursion IsStaged (cond b ops (filter is_write ops))
kept_staged true ops all = all
kept_staged false ops all = all_filter IsStaged is_write ops all

-- no conflict and every written cell in the present shapes: the operations that the commit keeps are legal
pub kept_legal : (start : Contents) (events : History) (t : Transaction) → IsLegal start events → IsTransaction start events t → HasNoConflict events t → AllByRecursion IsStaged t.ops → AreInShapes events t.ops
    → AllByRecursion (IsLegalOp events) (kept_ops t)
kept_legal start events t legal tx free staged inside =
    each_legal start events [] (kept_ops t) (kept_reads start events t t.mode.repeatable_read refl legal tx free) (kept_staged t.mode.repeatable_read t.ops staged)
    (λ x e. let never : false ≡ true = e in absurd (cc)) (λ x e. inside x (sym (ap (λ ps. is_put ps x) (kept_puts t.mode.repeatable_read t.ops)) ∙ e))

-- and the history with the commit is legal
pub commit_keeps_legal : (fixed : Fixed) (events : History) (owner : ℕ) (t : Transaction) → IsLegal fixed.start events → IsTransaction fixed.start events t → HasNoConflict events t → AllByRecursion IsStaged t.ops → AreInShapes events t.ops
    → IsLegal fixed.start (events ++ commit_events fixed events owner t)
commit_keeps_legal fixed events owner t legal tx free staged inside =
    committed fixed events owner t legal (record { each = kept_legal fixed.start events t legal tx free staged inside; reads = kept_reads fixed.start events t t.mode.repeatable_read refl legal tx free })
