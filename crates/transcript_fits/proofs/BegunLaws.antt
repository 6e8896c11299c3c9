-- Which of a session's lines began the transaction that stands.
use Rattle.std.proofs.Common.{◌≡◌, ◌∙◌, ◌≤◌, ◌+◌, ◌-◌, ℕ, List, [], ◌∷◌, ◌++◌, Bool, true, false, cond, Option, Some, None, Ok, Err, take, refl, sym, ap, subst, arith}
use Rattle.std.specs.List.{slice_get}
use Rattle.serde_json.specs.Data.{Data}
use Rattle.history.specs.declared.event.Op.TheVariants.{Read}
use Rattle.history.specs.Acts.{Asked, opens, binds, reads, stages, writes, begins, commits, aborts, resizes, resolves}
use Rattle.history.specs.Commit.{Transaction}
use Rattle.history.specs.History.{History}
use Rattle.history.specs.ReadRows.{with_read}
use Rattle.history.proofs.ActFits.{IsAskedIn}
use Rattle.history.proofs.Laws.{some_inj, none_is_none}
use Rattle.open_fits.specs.Windows.{lines_up_to}
use Rattle.open_fits.proofs.Laws.{AreBelow, up_to-take}
use Rattle.stack_driver.specs.declared.view.View.{View}
use Rattle.stated_history.specs.ToldStandings.{Standing, read_told, standing_asked}
use Rattle.stated_history.specs.Transcript.{Told}
use Rattle.transcript_fits.specs.Stands.{IsBegunAt, IsBegunBy}
use Rattle.transcript_fits.proofs.PassLaws.{left_same}

-- it was begun at the same line
abbrev SameLine : Option Transaction → Transaction → Type 0
SameLine t u = (v : Transaction) × (t ≡ Some v) × (v.line ≡ u.line)

with_read_line : (t u : Transaction) (view : View) (words : List ℕ) → with_read (Some t) view words [] ≡ Some u → t.line ≡ u.line
with_read_line t u view words is = by t.mode.repeatable_read refl
  where
    by : (b : Bool) → t.mode.repeatable_read ≡ b → t.line ≡ u.line
    by true asked =
        ap (λ (x : Transaction). x.line)
        (some_inj (record t { ops = t.ops ++ Read view words ∷ []; marks = [] }) u (sym (ap (λ c. Some (cond c (record t { ops = t.ops ++ Read view words ∷ []; marks = [] }) t)) asked) ∙ is))
    by false asked = ap (λ (x : Transaction). x.line) (some_inj t u (sym (ap (λ c. Some (cond c (record t { ops = t.ops ++ Read view words ∷ []; marks = [] }) t)) asked) ∙ is))

read_line : (t : Option Transaction) (view : View) (values : Option Data) (u : Transaction) → read_told t view values ≡ Some u → SameLine t u
read_line t view None u is = (u, is, refl)
read_line None view (Some values) u is = absurd (none_is_none u is)
read_line (Some t) view (Some values) u is = (t, refl, with_read_line t u view _ is)

-- behind a line the transaction that stands is the one from before it, or begun there
abbrev BegunBehind : Asked → Option Transaction → ℕ → Transaction → Type 0
BegunBehind (Ok (begins mode)) t line u = u.line ≡ line
BegunBehind asked t line u = SameLine t u

begun_behind : (h : History) (s : Standing) (line : ℕ) (asked : Asked) (d : Data) (u : Transaction) → IsAskedIn s.transaction asked → (standing_asked h s line asked d).transaction ≡ Some u → BegunBehind asked s.transaction line u
begun_behind h s line (Err refusal) d u stands is = (u, is, refl)
begun_behind h s line (Ok (opens name leaves build)) d u stands is = (u, is, refl)
begun_behind h s line (Ok (binds name view)) d u stands is = (u, is, refl)
begun_behind h s line (Ok (reads view down)) d u stands is = read_line s.transaction view _ u is
begun_behind h s line (Ok (stages t view words)) d u stands is = (t, stands, ap (λ (x : Transaction). x.line) (some_inj _ u is))
begun_behind h s line (Ok (writes view words)) d u stands is = (u, is, refl)
begun_behind h s line (Ok (begins mode)) d u stands is = ap (λ (x : Transaction). x.line) (sym (some_inj _ u is))
begun_behind h s line (Ok (commits t)) d u stands is = (t, stands, ap (λ (x : Transaction). x.line) (left_same t u _ _ _ is))
begun_behind h s line (Ok aborts) d u stands is = absurd (none_is_none u is)
begun_behind h s line (Ok (resizes array shape)) d u stands is = (u, is, refl)
begun_behind h s line (Ok (resolves name view array)) d u stands is = (u, is, refl)

module _ (ts : List Told) (begin at : ℕ) (t : Told) (there : slice_get ts at ≡ Some t) (below : AreBelow t.number ts at) where
  abbrev IsBegunIn : ℕ → Transaction → Type 0
  IsBegunIn m u = (begin ≤ m) × (m ≤ begin + (at + 1)) × ((n : ℕ) → m - begin ≤ n → lines_up_to u.line (take n ts) ≡ take (m - begin) ts)

  begun_here : (u : Transaction) (new : ℕ) → new ≡ begin + at → u.line ≡ t.number → IsBegunIn new u
  begun_here u new is line =
      let many : new - begin ≡ at = omega (arith, is) in (
        omega (arith, is),
        omega (arith, is),
        λ n low.
            ap (λ l. lines_up_to l (take n ts)) line ∙ up_to-take t.number ts at n below (omega (arith, many, low)) ∙ ap (λ m. take m ts) (sym many),
      )

  begun_there : (old new : Option Transaction) (begun : ℕ) (u : Transaction) → IsBegunAt ts begin (begin + at) begun old → SameLine old u → IsBegunIn begun u
  begun_there old new begun u is same =
      let one = is same.0 same.1 in
      let low = one.1 in (
        one.0,
        omega (arith, low),
        λ n over. ap (λ l. lines_up_to l (take n ts)) (sym same.2) ∙ one.2 n over,
      )

  pub begun_next : (h : History) (s : Standing) (asked : Asked) (d : Data) (after : Option Transaction) (old new : ℕ) → IsAskedIn s.transaction asked → after ≡ (standing_asked h s t.number asked d).transaction
      → IsBegunAt ts begin (begin + at) old s.transaction → IsBegunBy asked old (begin + at) new → IsBegunAt ts begin (begin + (at + 1)) new after
  begun_next h s asked d after old new stands same was is = λ u here. by u asked (begun_behind h s t.number asked d u stands (sym same ∙ here)) is
    where
      kept : (u : Transaction) → SameLine s.transaction u → new ≡ old → IsBegunIn new u
      kept u behind one = subst (λ (m : ℕ). IsBegunIn m u) (sym one) (begun_there s.transaction after old u was behind)

      by : (u : Transaction) (a : Asked) → BegunBehind a s.transaction t.number u → IsBegunBy a old (begin + at) new → IsBegunIn new u
      by u (Err refusal) behind one = kept u behind one
      by u (Ok (opens name leaves build)) behind one = kept u behind one
      by u (Ok (binds name view)) behind one = kept u behind one
      by u (Ok (reads view down)) behind one = kept u behind one
      by u (Ok (stages v view words)) behind one = kept u behind one
      by u (Ok (writes view words)) behind one = kept u behind one
      by u (Ok (begins mode)) behind one = begun_here u new one behind
      by u (Ok (commits v)) behind one = kept u behind one
      by u (Ok aborts) behind one = kept u behind one
      by u (Ok (resizes array shape)) behind one = kept u behind one
      by u (Ok (resolves name view array)) behind one = kept u behind one
