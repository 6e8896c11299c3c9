-- What operations put at a cell.
use Rattle.std.proofs.Common.{◌≡◌, ℕ, List, [], ◌∷◌, ◌++◌, Bool, true, false, cond, Option, Some, None, Result, Ok, Err, inl, inr, refl, sym, ap, subst, ◌∙◌, eqb-true, eq-eqb}
use Rattle.std.specs.Prelude.{◌==◌, ◌&&◌, ◌||◌, IsTrue, fold, filter_map}
use Rattle.std.specs.List.{list_any, AllByRecursion, zip}
use Rattle.std.specs.Str.{bytes_eq}
use Rattle.std.proofs.lemmas.Slice.Eq.{bytes_eq-Decides}
use Rattle.stack_driver.specs.Targets.{Cell, is_cell, Target}
use Rattle.stack_driver.specs.Views.{targets_of}
use Rattle.stack_driver.specs.declared.error.TargetError.{TargetError}
use Rattle.history.specs.declared.event.Op.{Op}
use Rattle.history.specs.declared.event.Op.TheVariants.{Write, Read}
use Rattle.history.specs.History.{History}
use Rattle.history.specs.Chunks.{Chunk, is_chunk, chunk_of}
use Rattle.history.specs.Writes.{Put, Content, put, put_at, puts_of, puts_of_op, written}
use Rattle.history.specs.Reads.{is_put}
use Rattle.history.specs.Legal.{IsLegalOp, HasTarget, is_present}
use Rattle.history.proofs.Tests.{true_or_false}
use Rattle.cells.proofs.Laws.{both}

-- the last word that is put at the cell
abbrev pub else_word : Option ℕ → Option ℕ → Option ℕ
else_word None o = o
else_word (Some w) o = Some w

abbrev pub last_put : List Put → Cell → Option ℕ
last_put [] x = None
last_put (p ∷ ps) x = else_word (last_put ps x) (cond (is_cell p.0 x) (Some p.1) None)

first_or : (l : Option ℕ) (b : Bool) (w : ℕ) (o : Option ℕ) → else_word l (cond b (Some w) o) ≡ else_word (else_word l (cond b (Some w) None)) o
first_or None true w o = refl
first_or None false w o = refl
first_or (Some v) b w o = refl

-- putting one word after another leaves the last one
pub fold-put : (puts : List Put) (f : Content) (x : Cell) → fold put f puts x ≡ else_word (last_put puts x) (f x)
fold-put [] f x = refl
fold-put (p ∷ ps) f x = fold-put ps (put f p) x ∙ first_or (last_put ps x) (is_cell p.0 x) p.1 (f x)

pub written-is : (ops : List Op) (f : Content) (x : Cell) → written ops f x ≡ else_word (last_put (puts_of ops) x) (f x)
written-is ops f x = fold-put (puts_of ops) f x

-- what puts leave at a cell goes by what it had alone
pub puts_local : (ps : List Put) (f g : Content) (x : Cell) → f x ≡ g x → fold put f ps x ≡ fold put g ps x
puts_local ps f g x e = fold-put ps f x ∙ ap (else_word (last_put ps x)) e ∙ sym (fold-put ps g x)

pub or_parts : (a b : Bool) → (a || b) ≡ false → (a ≡ false) × (b ≡ false)
or_parts false b e = (refl, e)
or_parts true b e = absurd (cc)

-- puts elsewhere leave a cell
pub puts_elsewhere : (ps : List Put) (f : Content) (x : Cell) → is_put ps x ≡ false → fold put f ps x ≡ f x
puts_elsewhere [] f x e = refl
puts_elsewhere (p ∷ ps) f x e =
    let parts = or_parts (is_cell p.0 x) (is_put ps x) e in
    puts_elsewhere ps (put f p) x parts.1 ∙ ap (λ b. cond b (Some p.1) (f x)) parts.0

or_both : (a b : Bool) → a ≡ false → b ≡ false → (a || b) ≡ false
or_both false b e f = f
or_both true b e f = absurd (cc)

any_both : (f : Put → Bool) (ps qs : List Put) → list_any f ps ≡ false → list_any f qs ≡ false → list_any f (ps ++ qs) ≡ false
any_both f [] qs e g = g
any_both f (p ∷ ps) qs e g =
    let parts = or_parts (f p) (list_any f ps) e in
    or_both (f p) (list_any f (ps ++ qs)) parts.0 (any_both f ps qs parts.1 g)

pub same_cells : (y x : Cell) → is_cell y x ≡ true → y ≡ x
same_cells y x e =
    let parts = both (y.array == x.array) (bytes_eq y.index x.index) e in
    let array = eqb-true y.array x.array parts.0 in
    let index = (bytes_eq-Decides y.index x.index).0 parts.1 in
    λ i. record { array = array i; index = index i }

pub same_chunks : (b c : Chunk) → is_chunk b c ≡ true → b ≡ c
same_chunks b c e =
    let parts = both (b.array == c.array) (bytes_eq b.index c.index) e in
    let array = eqb-true b.array c.array parts.0 in
    let index = (bytes_eq-Decides b.index c.index).0 parts.1 in
    λ i. record { array = array i; index = index i }

is_itself : (c : Chunk) → is_chunk c c ≡ true
is_itself c = ap (λ b. b && bytes_eq c.index c.index) (eq-eqb c.array c.array refl) ∙ (bytes_eq-Decides c.index c.index).1 refl

-- a cell of another chunk is another cell
other_chunk : (h : History) (y x : Cell) → is_chunk (chunk_of h y) (chunk_of h x) ≡ false → is_cell y x ≡ false
other_chunk h y x e =
    elim (true_or_false (is_cell y x)) [
      | inl t ↦
          let clash : true ≡ false = sym (is_itself (chunk_of h x)) ∙ ap (λ z. is_chunk (chunk_of h z) (chunk_of h x)) (sym (same_cells y x t)) ∙ e in
          absurd (cc)
      | inr f ↦ f
    ]

-- where the chunk isn't written, the cell isn't
pub elsewhere : (h : History) (x : Cell) (ps : List Put) → list_any (λ p. is_chunk (chunk_of h p.0) (chunk_of h x)) ps ≡ false → is_put ps x ≡ false
elsewhere h x [] e = refl
elsewhere h x (p ∷ ps) e =
    let parts = or_parts (is_chunk (chunk_of h p.0) (chunk_of h x)) (list_any (λ q. is_chunk (chunk_of h q.0) (chunk_of h x)) ps) e in
    or_both (is_cell p.0 x) (is_put ps x) (other_chunk h p.0 x parts.0) (elsewhere h x ps parts.1)

-- a cell that isn't there is no cell that is
absent_cell : (h : History) (y x : Cell) → IsTrue (is_present h y) → is_present h x ≡ false → is_cell y x ≡ false
absent_cell h y x there gone =
    elim (true_or_false (is_cell y x)) [
      | inl t ↦ let clash : false ≡ true = subst IsTrue (ap (is_present h) (same_cells y x t) ∙ gone) there in absurd (cc)
      | inr f ↦ f
    ]

absent_targets : (h : History) (x : Cell) (ts : List (Result Target TargetError)) (ws : List ℕ) → AllByRecursion (HasTarget h) ts → is_present h x ≡ false → is_put (filter_map put_at (zip ts ws)) x ≡ false
absent_targets h x [] ws all gone = refl
absent_targets h x (t ∷ ts) [] all gone = refl
absent_targets h x (Ok t ∷ ts) (w ∷ ws) all gone =
    or_both (is_cell t.cell x) (is_put (filter_map put_at (zip ts ws)) x) (absent_cell h t.cell x all.0 gone) (absent_targets h x ts ws all.1 gone)
absent_targets h x (Err e ∷ ts) (w ∷ ws) all gone = absurd all.0

absent_op : (h : History) (x : Cell) (op : Op) → IsLegalOp h op → is_present h x ≡ false → is_put (puts_of_op op) x ≡ false
absent_op h x (Write view words) legal gone = absent_targets h x (targets_of view) words legal.targets gone
absent_op h x (Read view words) legal gone = refl

-- legal operations put nothing at a cell that isn't there
pub absent : (h : History) (x : Cell) (ops : List Op) → AllByRecursion (IsLegalOp h) ops → is_present h x ≡ false → is_put (puts_of ops) x ≡ false
absent h x [] all gone = refl
absent h x (op ∷ ops) all gone = any_both (λ p. is_cell p.0 x) (puts_of_op op) (puts_of ops) (absent_op h x op all.0 gone) (absent h x ops all.1 gone)
