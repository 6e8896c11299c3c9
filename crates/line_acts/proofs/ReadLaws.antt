-- What refuses a read before its cells are looked for.
use Rattle.std.proofs.Common.{◌≡◌, ◌∙◌, ℕ, ◌==◌, true, false, cond, List, length, Option, Some, None, Result, Ok, Err, refl, sym, ap, subst, arith}
use Rattle.std.specs.Prelude.{IfOk, OnOk}
use Rattle.std.proofs.lemmas.Bool.Decides.{nat_tests}
use Rattle.line_meanings.specs.declared.Body.TheVariants.{Values}
use Rattle.cells.specs.declared.dtype.Dtype.{Dtype}
use Rattle.downsample_view.specs.Downsampled.{downsampled}
use Rattle.downsample_view.specs.declared.outcome.Down.{Down}
use Rattle.history.specs.Acts.{Asked, read_of, reads, with_factors, without}
use Rattle.history.specs.Answers as old
use Rattle.history.specs.Answers.{Body}
use Rattle.history.specs.Viewing.{cell_fault, values_body}
use Rattle.index_transform.specs.Cells.{count_answer}
use Rattle.line_meanings.specs.Bodies.{body_of}
use Rattle.line_meanings.specs.declared.DownWant.{DownWant}
use Rattle.line_meanings.specs.Numbers.{downsampling, downsampling_of}
use Rattle.line_acts.specs.Ranks.{HasRank}
use Rattle.line_acts.proofs.FaultLaws.{counted_sound}
use Rattle.stack_driver.specs.Views.{look_of}
use Rattle.stack_driver.specs.declared.view.View.{View}
use Rattle.transform_composition.specs.declared.error.ComposeError.TheVariants as compose

-- factors refuse no view with as many dimensions
pub with_rank : (down : Option DownWant) (v : View) → HasRank down v → (next : Asked) → with_factors (downsampling_of down) v next ≡ next
with_rank None v rank next = refl
with_rank (Some want) v rank next =
    let same : (length want.factors == length (look_of v).dims) ≡ true = grind (arith, nat_tests, rank) in
    ap (λ b. cond b next (Err (old.refused_view compose.Rank))) same

-- nor does a count that there is
pub readable_view : (down : Option DownWant) (v : View) (n : ℕ) → HasRank down v → count_answer (look_of v).dims ≡ Ok n → read_of (downsampling_of down) v ≡ without (cell_fault v) (Ok (reads v (downsampling_of down)))
readable_view down v n rank counted =
    with_rank down v rank _ ∙ ap (λ (f : Option Body). without f (without (cell_fault v) (Ok (reads v (downsampling_of down))))) (counted_sound v n counted)

-- a test of the ranks
pub rank_from : (want : DownWant) (v : View) (m n : ℕ) → m ≡ length want.factors → n ≡ length (look_of v).dims → (m == n) ≡ true → HasRank (Some want) v
rank_from want v m n one other test = grind (arith, nat_tests, one, other, test)

pub rank_not : (want : DownWant) (v : View) (m n : ℕ) → m ≡ length want.factors → n ≡ length (look_of v).dims → (m == n) ≡ false → (next : Asked) → with_factors (downsampling_of (Some want)) v next ≡ Err (old.refused_view compose.Rank)
rank_not want v m n one other test next =
    let apart : (length want.factors == length (look_of v).dims) ≡ false = subst (λ k. (k == length (look_of v).dims) ≡ false) one (subst (λ k. (m == k) ≡ false) other test) in
    ap (λ b. cond b next (Err (old.refused_view compose.Rank))) apart

-- what holds of a value holds of a result that is the value
pub if_ok_at : {T E : Type 0} (P : T → Type 0) (v : T) (r : Result T E) → IfOk r (λ w. w ≡ v) → OnOk r (P v) → IfOk r P
if_ok_at P v (Ok w) same holds = subst P (sym same) holds
if_ok_at P v (Err e) same holds = tt

pub on_ok_map : {T E P Q : Type 0} (r : Result T E) → OnOk r P → (P → Q) → OnOk r Q
on_ok_map (Ok w) holds f = f holds
on_ok_map (Err e) holds f = tt

pub on_ok_any : {T E P : Type 0} (r : Result T E) → P → OnOk r P
on_ok_any (Ok w) holds = holds
on_ok_any (Err e) holds = tt

-- words of a view as they are printed: fewer of them, and all
pub fewer_told : (v : View) (want : DownWant) (words : List ℕ) (d : Down) (kind : Dtype) → d ≡ downsampled want.method (look_of v).dtype want.factors (look_of v).dims words → kind ≡ (look_of v).dtype
    → Values d.origin d.shape kind d.words ≡ body_of (values_body v (Some (downsampling want)) words)
fewer_told v want words d kind is same = ap (λ k. Values d.origin d.shape k d.words) same ∙ ap (λ (e : Down). Values e.origin e.shape (look_of v).dtype e.words) is

pub on_ok_with : {T E Q : Type 0} {P : T → Type 0} (r : Result T E) → IfOk r P → ((x : T) → P x → Q) → OnOk r Q
on_ok_with (Ok w) holds f = f w holds
on_ok_with (Err e) holds f = tt

pub on_ok_both : {T E R : Type 0} {P Q : T → Type 0} (r : Result T E) → IfOk r P → IfOk r Q → ((x : T) → P x → Q x → R) → OnOk r R
on_ok_both (Ok w) one other f = f w one other
on_ok_both (Err e) one other f = tt
