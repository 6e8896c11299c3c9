-- A read of a session alone, and what its transaction has marked.
use Rattle.std.proofs.Common.{◌≡◌, ℕ, List, [], ◌∷◌, ◌++◌, length, Bool, true, false, cond, Option, Some, None, Result, Ok, Err, refl, sym, ap, subst, ◌∙◌, append_assoc, append-nil, arith}
use Rattle.std.specs.Prelude.{◌||◌, ◌==◌}
use Rattle.std.specs.List.{AllByRecursion}
use Rattle.std.specs.FinMap as finmap
use Rattle.stack_driver.specs.declared.ComposeError.TheVariants as compose
use Rattle.stack_driver.specs.References.{Reference}
use Rattle.stack_driver.specs.Renewed.{array_of}
use Rattle.stack_driver.specs.Views.{look_of}
use Rattle.stack_driver.specs.declared.view.View.{View}
use Rattle.history.specs.declared.event.Op.{Op}
use Rattle.history.specs.declared.event.Op.TheVariants.{Write, Read}
use Rattle.history.specs.History.{History}
use Rattle.history.specs.Acts.{Act, opens, binds, reads, stages, writes, begins, commits, aborts, resizes, resolves, Asked, outside, inside, named, all_named, changed, with_changes, with_join, without, with_values, with_factors, write_act, on_leaf, on_stored, read_of, write_of, act_of}
use Rattle.history.specs.Answers as body
use Rattle.history.specs.Answers.{Body, Text, JoinCause}
use Rattle.history.specs.Chunks.{Chunk, is_chunk, chunk_of}
use Rattle.history.specs.Commit.{Fixed, Transaction}
use Rattle.history.specs.Lines.{ChangeError, Downsampling, Line, refused, opening, viewing, joining, reading, writing, beginning, committing, aborting, resizing, resolving}
use Rattle.history.specs.ReadRows.{with_read}
use Rattle.history.specs.Reads.{Marks, has_mark, first_reads, unwritten}
use Rattle.history.specs.Sessions.{Names, reader}
use Rattle.history.specs.Shown.{IsMarkWithin, AreMarked, IsRead, after_read}
use Rattle.history.specs.Single.{Single, LineDone, unless_outside, words_now, read_alone}
use Rattle.history.specs.Viewing.{shape_of, view_fault, cell_fault, values_body}
use Rattle.history.proofs.AloneCommits.{bare, IsMarkedNow}
use Rattle.history.proofs.AloneReads.{AreMarkedAt, words_are, read_inside}
use Rattle.history.proofs.Serial.{all_mapped}
use Rattle.history.proofs.Transactions.{all_with}

abbrev pub bare_of : Option Transaction → Option Transaction
bare_of None = None
bare_of (Some t) = Some (bare t)

abbrev pub bare_act : Act → Act
bare_act (opens name leaves build) = opens name leaves build
bare_act (binds name view) = binds name view
bare_act (reads view down) = reads view down
bare_act (stages t view words) = stages (bare t) view words
bare_act (writes view words) = writes view words
bare_act (begins mode) = begins mode
bare_act (commits t) = commits (bare t)
bare_act aborts = aborts
bare_act (resizes array shape) = resizes array shape
bare_act (resolves name view array) = resolves name view array

abbrev pub bare_asked : Asked → Asked
bare_asked (Ok act) = Ok (bare_act act)
bare_asked (Err answer) = Err answer

outside_bare : (t : Option Transaction) (asked : Asked) → bare_asked asked ≡ asked → outside (bare_of t) asked ≡ bare_asked (outside t asked)
outside_bare None asked same = sym same
outside_bare (Some u) asked same = refl

inside_bare : (t : Option Transaction) (act : Transaction → Act) → ((u : Transaction) → act (bare u) ≡ bare_act (act u)) → inside (bare_of t) act ≡ bare_asked (inside t act)
inside_bare None act same = refl
inside_bare (Some u) act same = ap Ok (same u)

named_bare : (name : Text) (o : Option View) (f g : View → Asked) → ((v : View) → f v ≡ bare_asked (g v)) → named name o f ≡ bare_asked (named name o g)
named_bare name None f g same = refl
named_bare name (Some v) f g same = same v

all_named_bare : (names : Names) (of : List Text) (f g : List View → Asked) → ((vs : List View) → f vs ≡ bare_asked (g vs)) → all_named names of f ≡ bare_asked (all_named names of g)
all_named_bare names [] f g same = same []
all_named_bare names (name ∷ more) f g same = named_bare name (names name) _ _ (λ v. all_named_bare names more (λ views. f (v ∷ views)) (λ views. g (v ∷ views)) (λ views. same (v ∷ views)))

join_bare : (r : Result View JoinCause) (f g : View → Asked) → ((v : View) → f v ≡ bare_asked (g v)) → with_join r f ≡ bare_asked (with_join r g)
join_bare (Err cause) f g same = refl
join_bare (Ok v) f g same = same v

changes_bare : (r : Result View ChangeError) (f g : View → Asked) → ((v : View) → f v ≡ bare_asked (g v)) → with_changes r f ≡ bare_asked (with_changes r g)
changes_bare (Err e) f g same = refl
changes_bare (Ok v) f g same = same v

without_bare : (fault : Option Body) (a b : Asked) → a ≡ bare_asked b → without fault a ≡ bare_asked (without fault b)
without_bare None a b same = same
without_bare (Some f) a b same = refl

values_bare : (r : Result (List ℕ) (List ℕ)) (f g : List ℕ → Asked) → ((ws : List ℕ) → f ws ≡ bare_asked (g ws)) → with_values r f ≡ bare_asked (with_values r g)
values_bare (Err path) f g same = refl
values_bare (Ok words) f g same = same words

cond_bare : (b : Bool) (x y : Asked) → bare_asked x ≡ x → bare_asked y ≡ y → bare_asked (cond b x y) ≡ cond b x y
cond_bare true x y p q = p
cond_bare false x y p q = q

cond_to : (b : Bool) (x y p q : Asked) → x ≡ bare_asked p → y ≡ bare_asked q → cond b x y ≡ bare_asked (cond b p q)
cond_to true x y p q one other = one
cond_to false x y p q one other = other

factors_bare : (down : Option Downsampling) (view : View) (a b : Asked) → a ≡ bare_asked b → with_factors down view a ≡ bare_asked (with_factors down view b)
factors_bare None view a b same = same
factors_bare (Some d) view a b same = cond_to (d.rank == length (look_of view).dims) a (Err (body.refused_view compose.Rank)) b (Err (body.refused_view compose.Rank)) same refl

leaf_bare : (o : Option Reference) (f : Reference → Asked) → ((a : Reference) → bare_asked (f a) ≡ f a) → bare_asked (on_leaf o f) ≡ on_leaf o f
leaf_bare None f same = refl
leaf_bare (Some a) f same = same a

stored_bare : (array : Reference) (shape : List ℕ) → bare_asked (on_stored array shape) ≡ on_stored array shape
stored_bare array shape = cond_bare array.local _ _ refl (cond_bare (length shape == length array.shape) _ _ refl refl)

write_bare : (t : Option Transaction) (v : View) (words : List ℕ) → write_act (bare_of t) v words ≡ bare_act (write_act t v words)
write_bare None v words = refl
write_bare (Some t) v words = refl

-- the marks play no part in what a line asks for
pub act_of-bare : (names : Names) (t : Option Transaction) (line : Line) → act_of names (bare_of t) line ≡ bare_asked (act_of names t line)
act_of-bare names t (refused error) = refl
act_of-bare names t (opening name leaves build) = outside_bare t (Ok (opens name leaves build)) refl
act_of-bare names t (viewing name of changes) = named_bare of (names of) _ _ (λ v. changes_bare (changed (Ok v) changes) _ (λ made. Ok (binds name made)) (λ made. refl))
act_of-bare names t (joining name of join changes) = all_named_bare names of _ _ (λ views. join_bare (join views) _ _ (λ v. changes_bare (changed (Ok v) changes) _ (λ made. Ok (binds name made)) (λ made. refl)))
act_of-bare names t (reading name changes down) =
    named_bare name (names name) _ _
    (λ v. changes_bare (changed (Ok v) changes) (read_of down) (read_of down)
    (λ w. factors_bare down w _ (without (view_fault w) (without (cell_fault w) (Ok (reads w down)))) (without_bare (view_fault w) _ (without (cell_fault w) (Ok (reads w down))) (without_bare (cell_fault w) (Ok (reads w down)) (Ok (reads w down)) refl))))
act_of-bare names t (writing name changes values) =
    named_bare name (names name) _ _
    (λ v. changes_bare (changed (Ok v) changes) (write_of (bare_of t) values) (write_of t values)
    (λ w. without_bare (view_fault w) _ _ (values_bare (values (look_of w).dtype (shape_of w)) _ _ (λ words. without_bare (cell_fault w) (Ok (write_act (bare_of t) w words)) (Ok (write_act t w words)) (ap Ok (write_bare t w words))))))
act_of-bare names t (beginning mode) = outside_bare t (Ok (begins mode)) refl
act_of-bare names t committing = inside_bare t commits (λ u. refl)
act_of-bare names t aborting = inside_bare t (λ u. aborts) (λ u. refl)
act_of-bare names t (resizing name shape) = outside_bare t _ (sym (named_bare name (names name) _ _ (λ v. sym (leaf_bare (array_of v) _ (λ array. stored_bare array shape)))))
act_of-bare names t (resolving name) = outside_bare t _ (sym (named_bare name (names name) _ _ (λ v. sym (leaf_bare (array_of v) (λ array. Ok (resolves name v array)) (λ array. refl)))))

-- the transaction that stands has its marks
abbrev pub HasMarks : History → Option Transaction → Type 0
HasMarks events None = Unit {0}
HasMarks events (Some t) = IsMarkedNow events t

first_reads-more : (op : Op) (before ops : List Op) → first_reads before (ops ++ op ∷ []) ≡ first_reads before ops ++ first_reads (before ++ ops) (op ∷ [])
first_reads-more op before [] = ap (λ b. first_reads b (op ∷ [])) (sym (append-nil before))
first_reads-more op before (Write view words ∷ ops) = first_reads-more op (before ++ Write view words ∷ []) ops ∙ ap (λ b. first_reads (before ++ Write view words ∷ []) ops ++ first_reads b (op ∷ [])) (append_assoc before (Write view words ∷ []) ops)
first_reads-more op before (Read view words ∷ ops) =
    ap (λ xs. unwritten before view ++ xs)
    (first_reads-more op (before ++ Read view words ∷ []) ops ∙ ap (λ b. first_reads (before ++ Read view words ∷ []) ops ++ first_reads b (op ∷ [])) (append_assoc before (Read view words ∷ []) ops))
    ∙ sym (append_assoc (unwritten before view) (first_reads (before ++ Read view words ∷ []) ops) (first_reads (before ++ (Read view words ∷ ops)) (op ∷ [])))

pub written_marks : (events : History) (t : Transaction) (view : View) (words : List ℕ) → IsMarkedNow events t → IsMarkedNow events (record t { ops = t.ops ++ Write view words ∷ [] })
written_marks events t view words marked = record {
  marked = marked.marked;
  complete = subst (AllByRecursion (λ x. has_mark t.marks (chunk_of events x) ≡ true)) (sym (first_reads-more (Write view words) [] t.ops ∙ append-nil (first_reads [] t.ops))) marked.complete;
}

fresh_now : (n seen : ℕ) (fresh : Marks) → seen ≡ n → AllByRecursion (IsMarkWithin seen n) fresh → AreMarkedAt n fresh
fresh_now n seen [] same new = tt
fresh_now n seen (m ∷ ms) same new = (let low = new.0.0 in let high = new.0.1 in omega (arith, same, low, high), fresh_now n seen ms same new.1)

has_more : (marks fresh : Marks) (c : Chunk) → has_mark marks c ≡ true → has_mark (marks ++ fresh) c ≡ true
has_more [] fresh c has = absurd (cc)
has_more (m ∷ ms) fresh c has = or_more (is_chunk m.0 c) (has_mark ms c) (has_mark (ms ++ fresh) c) (has_more ms fresh c) has
  where
    or_more : (a b c : Bool) → (b ≡ true → c ≡ true) → (a || b) ≡ true → (a || c) ≡ true
    or_more true b c more is = refl
    or_more false b c more is = more is

pub marks_now : (events : History) (seen : ℕ) (t : Transaction) (view : View) (marks : Marks) → seen ≡ length events → AreMarkedAt (length events) t.marks → AreMarked events seen t view marks → AreMarkedAt (length events) marks
marks_now events seen t view marks same old new = subst (AreMarkedAt (length events)) (sym new.marked) (all_with (λ m. m.1 ≡ length events) t.marks new.fresh old (fresh_now (length events) seen new.fresh same new.within))

-- a read that is kept leaves its marks
pub read_marks : (events : History) (seen : ℕ) (t : Transaction) (view : View) (words : List ℕ) (marks : Marks) (b : Bool) → seen ≡ length events → AreMarked events seen t view marks → IsMarkedNow events t
    → IsMarkedNow events (cond b (record t { ops = t.ops ++ Read view words ∷ []; marks = marks }) t)
read_marks events seen t view words marks false same new old = old
read_marks events seen t view words marks true same new old = record {
  marked = marks_now events seen t view marks same old.marked new;
  complete =
      let kept : AllByRecursion (λ x. has_mark marks (chunk_of events x) ≡ true) (first_reads [] t.ops) =
      all_mapped (λ x. has_mark t.marks (chunk_of events x) ≡ true) (λ x. has_mark marks (chunk_of events x) ≡ true) (λ x has. subst (λ ms. has_mark ms (chunk_of events x) ≡ true) (sym new.marked) (has_more t.marks new.fresh (chunk_of events x) has)) (first_reads [] t.ops) old.complete in
      let here : AllByRecursion (λ x. has_mark marks (chunk_of events x) ≡ true) (unwritten t.ops view ++ []) = subst (AllByRecursion (λ x. has_mark marks (chunk_of events x) ≡ true)) (sym (append-nil (unwritten t.ops view))) new.each in
      subst (AllByRecursion (λ x. has_mark marks (chunk_of events x) ≡ true)) (sym (first_reads-more (Read view words) [] t.ops)) (all_with (λ x. has_mark marks (chunk_of events x) ≡ true) (first_reads [] t.ops) (unwritten t.ops view ++ []) kept here);
}

bare_cond : (b : Bool) (x y : Transaction) → cond b (bare x) (bare y) ≡ bare (cond b x y)
bare_cond true x y = refl
bare_cond false x y = refl

-- a read that is shown
pub read_row : (fixed : Fixed) (names : Names) (h : History) (seen line : ℕ) (t : Option Transaction) (view : View) (down : Option Downsampling) (words : List ℕ) (marks : Marks) → fixed.start ≡ finmap.empty → seen ≡ length h → HasMarks h t → IsRead fixed h seen (reader line t) view words marks
    → (read_alone (record { names = names; events = h; transaction = bare_of t }) (reader line (bare_of t)) view down ≡ record { after = record { names = names; events = h; transaction = bare_of (with_read t view words marks) }; body = values_body view down words })
    × HasMarks h (with_read t view words marks)
read_row fixed names h seen line None view down words marks empty same old read =
    let at : AreMarkedAt (length h) marks = marks_now h seen (reader line None) view marks same tt read.marked in
    let x : Single = record { names = names; events = h; transaction = None } in (
      ap (λ o. unless_outside x None o (record { after = x; body = values_body view down (words_now h (reader line None) view) })) (read_inside fixed h seen (reader line None) view words marks at read)
          ∙ ap (λ ws. record { after = x; body = values_body view down ws }) (words_are fixed h seen (reader line None) view words marks empty at read),
      tt,
    )
read_row fixed names h seen line (Some t) view down words marks empty same old read =
    let at : AreMarkedAt (length h) marks = marks_now h seen t view marks same old.marked read.marked in
    let x : Single = record { names = names; events = h; transaction = Some (bare t) } in
    let done : List ℕ → LineDone = λ ws. record { after = record { names = names; events = h; transaction = Some (after_read (bare t) view ws []) }; body = values_body view down ws } in (
      ap (λ o. unless_outside x (Some (bare t)) o (done (words_now h t view))) (read_inside fixed h seen t view words marks at read)
          ∙ ap done (words_are fixed h seen t view words marks empty at read)
          ∙ ap (λ u. record { after = record { names = names; events = h; transaction = Some u }; body = values_body view down words }) (bare_cond t.mode.repeatable_read (record t { ops = t.ops ++ Read view words ∷ []; marks = marks }) t),
      read_marks h seen t view words marks t.mode.repeatable_read same read.marked old,
    )
