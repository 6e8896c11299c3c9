-- What is kept of each line, and whether a transaction of its session stands behind it.
use Rattle.std.proofs.Common.{◌≡◌, ◌≢◌, ◌<◌, ℕ, zero, suc, List, [], ◌∷◌, ◌++◌, Bool, true, false, cond, Option, Some, None, length, set, get_or, get_or-set_same, get_or-set_other, refl, sym, ap, subst, ◌∙◌, arith, append_assoc, append-nil, eqb-true, eq-eqb}
use Rattle.std.proofs.lemmas.Grind.{fold-append}
use Rattle.std.specs.Prelude.{◌==◌, ◌&&◌, ◌||◌, is_some, unwrap_or}
use Rattle.std.specs.List.{AllByRecursion}
use Rattle.serde_json.specs.Data.{Data}
use Rattle.history.specs.Lines.{Line, SpecLeaf}
use Rattle.transcript_cut.specs.declared.SpecLeaf as spec
use Rattle.transcript_cut.specs.declared.Tree.{Tree}
use Rattle.transcript_cut.specs.Openings.{leaves_from, node_of}
use Rattle.transcript_cut.specs.ToldNumbers.{single, done_in, failed_in, told_of}
use Rattle.transcript_cut.specs.Stances.{Stance, stance, stance_by, stance_begun, stance_left}
use Rattle.transcript_cut.specs.Leaves.{IsSoundLeaf}
use Rattle.transcript_cut.specs.Transcript.{mount, asked_by, Told}
use Rattle.transcript_cut.specs.Numbers.{PrintsNumbers}
use Rattle.transcript_cut.specs.Said.{AreSaid}
use Rattle.transcript_cut.specs.Spans.{line_at, IsPlaced}
use Rattle.transcript_cut.specs.declared.numbers.EventNumbers.{EventNumbers}
use Rattle.transcript_cut.specs.declared.said.Said.{Said}
use Rattle.stated_arrays.specs.Acts.{IsActOf, IsSoundAct, stands_by, leaves_by}
use Rattle.stated_arrays.specs.Outlined.{leaves_asked, leaves_at}
use Rattle.stated_arrays.specs.Lines.{AreLeavesOf, IsFreshLine, IsNewLine, IsSoundLine, IsKept, AreKept, IsKeptBehind}
use Rattle.stated_arrays.specs.declared.acts.Act.{Act}
use Rattle.stated_arrays.specs.declared.acts.Act.TheVariants.{Open, Begin, Commit, Abort, Other}
use Rattle.stated_arrays.specs.declared.lines.OpenLine.{OpenLine}

-- the leaves of a Spec, each of its node
pub leaves_of_spec : (tree : Tree) (n : ℕ) (kept : List spec.SpecLeaf) → AreLeavesOf kept (leaves_from tree n kept)
leaves_of_spec tree n [] = tt
leaves_of_spec tree n (leaf ∷ kept) = ((unwrap_or (node_of n tree) [], refl), leaves_of_spec tree (suc n) kept)

none_of : (leaves : List SpecLeaf) → leaves ≡ [] → AreLeavesOf [] leaves
none_of leaves is = subst (AreLeavesOf []) (sym is) tt

-- what an act opens is what its line opens
pub act_kept : (line : Line) (act : Act) (s : Option Stance) → IsActOf line act → AreLeavesOf (leaves_by act (is_some s)) (leaves_at s line)
act_kept line (Open leaves) None is = subst (AreLeavesOf leaves) (sym (ap leaves_asked is.3)) (leaves_of_spec is.1 0 leaves)
act_kept line (Open leaves) (Some s) is = tt
act_kept line Begin None is = none_of (leaves_asked line) (ap leaves_asked is.1)
act_kept line Begin (Some s) is = tt
act_kept line Commit None is = none_of (leaves_asked line) (ap leaves_asked is)
act_kept line Commit (Some s) is = tt
act_kept line Abort None is = none_of (leaves_asked line) (ap leaves_asked is)
act_kept line Abort (Some s) is = tt
act_kept line Other None is = none_of (leaves_asked line) is.opens
act_kept line Other (Some s) is = tt

never_zero : (n : ℕ) → (suc n == 0) ≡ false
never_zero n = by (suc n == 0) refl
  where
    by : (b : Bool) → (suc n == 0) ≡ b → (suc n == 0) ≡ false
    by true is = let same = eqb-true (suc n) 0 is in let no : ⊥ = omega (arith, same) in absurd no
    by false is = is

-- a commit leaves a transaction that stands where nothing was done, and a call failed or a chunk is damaged
commit_stands : (s : Option Stance) (done : List ℕ) (failed : Option ℕ) (damaged : Bool) → (is_some s && ((length done == 0) && (is_some failed || damaged))) ≡ is_some (stance_left done (single failed) damaged s)
commit_stands None done failed damaged = refl
commit_stands (Some s) [] None true = refl
commit_stands (Some s) [] None false = refl
commit_stands (Some s) [] (Some n) damaged = refl
commit_stands (Some s) (m ∷ done) failed damaged = ap (λ b. b && (is_some failed || damaged)) (never_zero (length done))

begin_stands : (number : ℕ) (mode : _) (s : Option Stance) → true ≡ is_some (stance_begun number mode s)
begin_stands number mode None = refl
begin_stands number mode (Some s) = refl

-- whether a transaction stands behind an act
pub act_stands : (line : Line) (act : Act) (s : Option Stance) (number : ℕ) (answer : Data) (numbers : EventNumbers) → IsActOf line act → PrintsNumbers answer numbers → stands_by act numbers (is_some s) ≡ is_some (stance_by number answer line s)
act_stands line (Open leaves) s number answer numbers is prints = sym (ap (λ l. is_some (stance_by number answer l s)) is.3)
act_stands line Begin s number answer numbers is prints = begin_stands number is.0 s ∙ sym (ap (λ l. is_some (stance_by number answer l s)) is.1)
act_stands line Commit s number answer numbers is prints =
    commit_stands s numbers.done numbers.failed numbers.damaged ∙ ap (λ d. is_some (stance_left d (single numbers.failed) numbers.damaged s)) (sym prints.done)
    ∙ ap (λ f. is_some (stance_left (done_in answer) f numbers.damaged s)) (sym prints.failed) ∙ ap (λ b. is_some (stance_left (done_in answer) (failed_in answer) b s)) (sym prints.damaged)
    ∙ sym (ap (λ l. is_some (stance_by number answer l s)) is)
act_stands line Abort s number answer numbers is prints = sym (ap (λ l. is_some (stance_by number answer l s)) is)
act_stands line Other s number answer numbers is prints = sym (ap is_some (is.keeps number answer s))

-- one line more
pub kept_more : (earlier told : List Told) (t : Told) (lines : List OpenLine) (l : OpenLine) → AreKept earlier told lines → IsKept (stance (told_of t.session (earlier ++ told))) t l → AreKept earlier (told ++ t ∷ []) (lines ++ l ∷ [])
kept_more earlier [] t [] l are is = (subst (λ e. IsKept (stance (told_of t.session e)) t l) (append-nil earlier) is, tt)
kept_more earlier [] t (m ∷ lines) l are is = absurd are
kept_more earlier (u ∷ told) t [] l are is = absurd are
kept_more earlier (u ∷ told) t (m ∷ lines) l are is =
    (are.0, kept_more (earlier ++ u ∷ []) told t lines l are.1 (subst (λ e. IsKept (stance (told_of t.session e)) t l) (sym (append_assoc earlier (u ∷ []) told)) is))

-- the lines of a session, with one line more
told_more : (session : ℕ) (told : List Told) (t : Told) (b : Bool) → (t.session == session) ≡ b → told_of session (told ++ t ∷ []) ≡ told_of session told ++ cond b (t ∷ []) []
told_more session [] t b is = ap (λ c. cond c (t ∷ []) []) is
told_more session (u ∷ told) t b is = by (u.session == session) (told_more session told t b is)
  where
    by : (c : Bool) → told_of session (told ++ t ∷ []) ≡ told_of session told ++ cond b (t ∷ []) []
        → cond c (u ∷ told_of session (told ++ t ∷ [])) (told_of session (told ++ t ∷ [])) ≡ cond c (u ∷ told_of session told) (told_of session told) ++ cond b (t ∷ []) []
    by true rest = ap (λ ts. u ∷ ts) rest
    by false rest = rest

stance_more : (told : List Told) (t : Told) → stance (told ++ t ∷ []) ≡ stance_by t.number t.answer t.asked (stance told)
stance_more told t = fold-append (λ s (u : Told). stance_by u.number u.answer u.asked s) None told (t ∷ [])

-- the first lines of a transcript were gone over, and these are left
pub record IsKeptUpTo (scripts : List (List ℕ)) (transcript : List ℕ) (told : List Told) (left : List Said) (standing : List Bool) (lines : List OpenLine) : Type 0 where
  pub first : List Told
  pub rest : List Told
  pub parts : told ≡ first ++ rest
  pub are : AreSaid scripts transcript left rest
  pub kept : AreKept [] first lines
  pub stands : (session : ℕ) → session < length standing → get_or standing session false ≡ is_some (stance (told_of session first))

pub kept_first : (scripts : List (List ℕ)) (transcript : List ℕ) (told : List Told) (said : List Said) (standing : List Bool) (lines : List OpenLine) → ((k : ℕ) → get_or standing k false ≡ false) → lines ≡ [] → AreSaid scripts transcript said told
    → IsKeptUpTo scripts transcript told said standing lines
kept_first scripts transcript told said standing lines none empty are = record {
  first = [];
  rest = told;
  parts = refl;
  are = are;
  kept = subst (AreKept [] []) (sym empty) tt;
  stands = λ session low. none session;
}

module _ (scripts : List (List ℕ)) (transcript : List ℕ) (told : List Told) (x : Said) (more : List Said) (old new : List Bool) (lines later : List OpenLine) where
  kept_by : (rest : List Told) → (is : IsKeptUpTo scripts transcript told (x ∷ more) old lines) → is.rest ≡ rest → AreSaid scripts transcript (x ∷ more) rest → x.line.session < length old → IsKeptBehind scripts x old new lines later
      → IsKeptUpTo scripts transcript told more new later
  kept_by [] is same are low behind = absurd are
  kept_by (t ∷ rest) is same are low behind =
      let session : t.session ≡ x.line.session = (are.0).session in
      let stood : get_or old x.line.session false ≡ is_some (stance (told_of t.session is.first)) =
      is.stands x.line.session low ∙ ap (λ k. is_some (stance (told_of k is.first))) (sym session) in
      let found = behind.told transcript t (stance (told_of t.session is.first)) are.0 stood in
      record {
        first = is.first ++ t ∷ [];
        rest = rest;
        parts = is.parts ∙ ap (λ r. is.first ++ r) same ∙ sym (append_assoc is.first (t ∷ []) rest);
        are = are.1;
        kept = subst (AreKept [] (is.first ++ t ∷ [])) (sym behind.kept) (kept_more [] is.first t lines behind.line is.kept found.0);
        stands = λ s within. subst (λ b. get_or b s false ≡ is_some (stance (told_of s (is.first ++ t ∷ [])))) (sym behind.standing) (by s (t.session == s) refl (within_old s (subst (λ b. s < length b) behind.standing within)) session found.1);
      }
    where
      length_set : (bs : List Bool) (k : ℕ) (b : Bool) → length (set bs k b) ≡ length bs
      length_set [] k b = refl
      length_set (c ∷ bs) zero b = refl
      length_set (c ∷ bs) (suc k) b = ap suc (length_set bs k b)

      within_old : (s : ℕ) → s < length (set old x.line.session behind.stands) → s < length old
      within_old s less = let size = length_set old x.line.session behind.stands in omega (arith, less, size)

      by : (s : ℕ) (b : Bool) → (t.session == s) ≡ b → s < length old → t.session ≡ x.line.session → behind.stands ≡ is_some (stance_by t.number t.answer t.asked (stance (told_of t.session is.first)))
          → get_or (set old x.line.session behind.stands) s false ≡ is_some (stance (told_of s (is.first ++ t ∷ [])))
      by s true own within session stands =
          let here : t.session ≡ s = eqb-true t.session s own in
          let spot : s ≡ x.line.session = sym here ∙ session in
          ap (λ k. get_or (set old x.line.session behind.stands) k false) spot ∙ get_or-set_same old x.line.session behind.stands false low ∙ stands
          ∙ ap (λ k. is_some (stance_by t.number t.answer t.asked (stance (told_of k is.first)))) here
          ∙ sym (ap (λ ts. is_some (stance ts)) (told_more s is.first t true own) ∙ ap is_some (stance_more (told_of s is.first) t))
      by s false other within session stands =
          let apart : s ≢ x.line.session = λ same. let own : (t.session == s) ≡ true = eq-eqb t.session s (session ∙ sym same) in let no : true ≡ false = sym own ∙ other in cc in
          get_or-set_other old x.line.session s behind.stands false apart ∙ is.stands s within
          ∙ sym (ap (λ ts. is_some (stance ts)) (told_more s is.first t false other ∙ append-nil (told_of s is.first)))

  pub kept_next : x.line.session < length old → IsKeptBehind scripts x old new lines later → IsKeptUpTo scripts transcript told (x ∷ more) old lines → IsKeptUpTo scripts transcript told more new later
  kept_next low behind is = kept_by is.rest is refl is.are low behind

pub kept_all : (scripts : List (List ℕ)) (transcript : List ℕ) (told : List Told) (left : List Said) (standing : List Bool) (lines : List OpenLine) → left ≡ [] → IsKeptUpTo scripts transcript told left standing lines → AreKept [] told lines
kept_all scripts transcript told left standing lines none is =
    let nothing = no_rest is.rest (subst (λ l. AreSaid scripts transcript l is.rest) none is.are) in
    subst (λ ts. AreKept [] ts lines) (sym (is.parts ∙ ap (λ r. is.first ++ r) nothing ∙ append-nil is.first)) is.kept
  where
    no_rest : (rest : List Told) → AreSaid scripts transcript [] rest → rest ≡ []
    no_rest [] are = refl
    no_rest (t ∷ rest) are = absurd are

-- each of the lines
pub sound_more : (lines : List OpenLine) (l : OpenLine) → AllByRecursion IsSoundLine lines → IsSoundLine l → AllByRecursion IsSoundLine (lines ++ l ∷ [])
sound_more [] l all is = (is, tt)
sound_more (m ∷ lines) l all is = (all.0, sound_more lines l all.1 is)

-- of a line that is kept, no leaf was given a number
pub fresh_of : (earlier told : List Told) (lines : List OpenLine) → AreKept earlier told lines → AllByRecursion IsFreshLine lines
fresh_of earlier [] [] are = tt
fresh_of earlier [] (l ∷ lines) are = absurd are
fresh_of earlier (t ∷ told) [] are = absurd are
fresh_of earlier (t ∷ told) (l ∷ lines) are = ((are.0).fresh, fresh_of (earlier ++ t ∷ []) told lines are.1)

-- what an act opens is sound
pub leaves_sound : (act : Act) (stands : Bool) → IsSoundAct act → AllByRecursion (IsSoundLeaf (mount ∷ [])) (leaves_by act stands)
leaves_sound (Open leaves) true sound = tt
leaves_sound (Open leaves) false sound = sound
leaves_sound Begin stands sound = tt
leaves_sound Commit stands sound = tt
leaves_sound Abort stands sound = tt
leaves_sound Other stands sound = tt

-- a line was kept by its act
pub kept_behind : (scripts : List (List ℕ)) (x : Said) (act : Act) (old new : List Bool) (lines more : List OpenLine) → IsActOf (asked_by (line_at scripts x.line)) act → IsSoundAct act → new ≡ set old x.line.session (stands_by act x.numbers (get_or old x.line.session false))
    → IsNewLine (leaves_by act (get_or old x.line.session false)) lines more → IsKeptBehind scripts x old new lines more
kept_behind scripts x act old new lines more is sound stands new_line = record {
  line = new_line.line;
  kept = new_line.kept;
  sound = subst (AllByRecursion (IsSoundLeaf (mount ∷ []))) (sym new_line.rest) (leaves_sound act (get_or old x.line.session false) sound);
  stands = stands_by act x.numbers (get_or old x.line.session false);
  standing = stands;
  told = λ transcript t s said stood.
      let asked = subst (λ (l : Line). IsActOf l act) (sym said.asked) is in (
        record {
          leaves = subst (λ ls. AreLeavesOf ls (leaves_at s t.asked)) (sym (new_line.rest ∙ ap (leaves_by act) stood)) (act_kept t.asked act s asked);
          fresh = new_line.fresh;
        },
        ap (stands_by act x.numbers) stood ∙ act_stands t.asked act s t.number t.answer x.numbers asked said.prints,
      );
}

-- each line that is left is placed
pub placed_at : (scripts : List (List ℕ)) (said : List Said) (i : ℕ) (x : Said) → AllByRecursion (λ (s : Said). IsPlaced scripts s.line) said → i < length said → x ≡ get_or said i x → IsPlaced scripts x.line
placed_at scripts [] i x all low is = absurd (let no : ⊥ = omega (arith, low) in no)
placed_at scripts (s ∷ said) zero x all low is = subst (λ (y : Said). IsPlaced scripts y.line) (sym is) all.0
placed_at scripts (s ∷ said) (suc i) x all low is = placed_at scripts said i x all.1 (omega (arith, low)) is
