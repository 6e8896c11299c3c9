use Rattle.std.proofs.Common.{◌≡◌, ◌∙◌, ℕ, Bool, List, Option, Some, None, length, replicate, sym, ap, subst, arith}
use Rattle.std.specs.Prelude.{IfSome, IfNone}
use Rattle.std.proofs.lemmas.List.{length-replicate}
use Rattle.rebase_writes.specs.Marks.{marks_of}
use Rattle.rebase_writes.specs.Rising.{AreRising, runs_staged}
use Rattle.rebase_writes.specs.Staged.{staged_at, staged_cells}
use Rattle.rebase_writes.proofs.KeptLaws.{by_runs_is, by_cells_is, length-by_cells, lent_runs}
use Rattle.rebase_writes.proofs.RisingLaws.{none_at}
use Rattle.rebase_writes.proofs.staged.Staged.word.Goals as goal

pub marked_word-requires-clause-inside : goal.marked_word-requires-clause-inside
marked_word-requires-clause-inside c =
    let s = c.self.inside in
    let full = c.self.invariant.full c.if-self.false in
    let is = by_cells_is s.by_runs s.cells s.runs.items s.words.items s.marks.items c.args.self.now c.if-self.false c.self.view_is in
    let count = length-by_cells s.cells s.words.items s.marks.items c.args.self.now full is in
    omega (arith, ap (λ (w : List ℕ). length w) c.deref-else-self-2.ensures.value, full, count, c.requires)

pub marked_word-requires-clause-room : goal.marked_word-requires-clause-room
marked_word-requires-clause-room c =
    let full = c.self.invariant.full c.if-self.false in
    omega (arith, ap (λ (w : List ℕ). length w) c.deref-else-self-2.ensures.value, ap (λ (m : List ℕ). length m) c.deref-else-self.ensures.value, full, c.self.invariant.marked c.if-self.false)

pub returns-then-self : goal.returns-then-self
returns-then-self c =
    let s = c.self.inside in
    let is = by_runs_is s.by_runs s.cells s.runs.items s.words.items s.marks.items c.args.self.now c.if-self.true c.self.view_is in
    let base : List (Option ℕ) = replicate s.cells None in
    let runs = c.deref.result.now in
    let kept = c.deref-then-self.result.now in
    let are = lent_runs 0 s.cells s.runs.items runs s.words.items kept c.deref.ensures.value c.deref-then-self.ensures.value (c.self.invariant.rising c.if-self.true) in
    let rising = subst (λ n. AreRising (length kept) n runs) (sym (length-replicate s.cells None)) are in
    let same : staged_at (runs_staged runs kept base) c.args.place ≡ staged_at c.args.self.now c.args.place =
    ap (λ (all : List (Option ℕ)). staged_at all c.args.place) ((λ i. runs_staged (c.deref.ensures.value i) (c.deref-then-self.ensures.value i) base) ∙ is) in
    told (λ (cells : List (Option ℕ)). AreRising (length kept) (length cells) runs) (λ (cells : List (Option ℕ)). staged_at (runs_staged runs kept cells) c.args.place) (λ (cells : List (Option ℕ)). staged_at cells c.args.place)
    c.word_at.result c.word_at.ensures.some c.word_at.ensures.none base rising (none_at s.cells c.args.place) ∙ same
  where
    told : (Q : List (Option ℕ) → Type 0) (F B : List (Option ℕ) → Option ℕ) (r : Option ℕ) → IfSome r (λ word. (cells : List (Option ℕ)) → Q cells → F cells ≡ Some word) → IfNone r ((cells : List (Option ℕ)) → F cells ≡ B cells) → (cells : List (Option ℕ)) → Q cells → B cells ≡ None → r ≡ F cells
    told Q F B None some none cells q bare = sym (none cells ∙ bare)
    told Q F B (Some word) some none cells q bare = sym (some cells q)

pub returns-else-self : goal.returns-else-self
returns-else-self c =
    let s = c.self.inside in
    let full = c.self.invariant.full c.if-self.false in
    let is = by_cells_is s.by_runs s.cells s.runs.items s.words.items s.marks.items c.args.self.now c.if-self.false c.self.view_is in
    let count = length-by_cells s.cells s.words.items s.marks.items c.args.self.now full is in
    c.marked_word.ensures s.cells (ap (λ (w : List ℕ). length w) c.deref-else-self-2.ensures.value ∙ full)
    ∙ ap (λ (all : List (Option ℕ)). staged_at all c.args.place) ((λ i. staged_cells (marks_of s.cells (c.deref-else-self.ensures.value i)) (c.deref-else-self-2.ensures.value i)) ∙ is)
