-- The lines of scripts, read up to the first that isn't checked.
use Rattle.std.proofs.Common.{◌≡◌, ℕ, List, [], ◌∷◌, ◌++◌, Option, Bool, true, false, sym, ap, subst, ◌∙◌, append_assoc, append-nil}
use Rattle.std.specs.List.{AllByRecursion, AllZip}
use Rattle.transcript_laws.specs.Transcript.{ScriptLine, lines_of_scripts}
use Rattle.transcript_laws.specs.Unchecked.{is_unchecked, AreChecked, IsFirstUnchecked}
use Rattle.transcript_laws.specs.declared.Command.{Command}
use Rattle.transcript_cut.specs.Keeping.{IsCommandOf, AreCommandsOf, IsLineRead}

abbrev IsChecked : ScriptLine → Type 0
IsChecked line = is_unchecked line ≡ false

checked_more : (earlier : List ScriptLine) (line : ScriptLine) → AllByRecursion IsChecked earlier → IsChecked line → AllByRecursion IsChecked (earlier ++ line ∷ [])
checked_more [] line all is = (is, tt)
checked_more (l ∷ earlier) line all is = (all.0, checked_more earlier line all.1 is)

commands_more : (earlier : List ScriptLine) (commands : List (Option Command)) (line : ScriptLine) (kept : Option Command) → AreCommandsOf earlier commands → IsCommandOf line kept → AreCommandsOf (earlier ++ line ∷ []) (commands ++ kept ∷ [])
commands_more [] [] line kept are is = (is, tt)
commands_more [] (c ∷ commands) line kept are is = absurd are
commands_more (l ∷ earlier) [] line kept are is = absurd are
commands_more (l ∷ earlier) (c ∷ commands) line kept are is = (are.0, commands_more earlier commands line kept are.1 is)

module _ (scripts : List (List ℕ)) where
  -- the first lines are checked, this is kept of them, and these are left
  pub record IsCheckedUpTo (commands : List (Option Command)) (left : List ScriptLine) : Type 0 where
    pub earlier : List ScriptLine
    pub parts : lines_of_scripts 0 scripts ≡ earlier ++ left
    pub checked : AllByRecursion IsChecked earlier
    pub kept : AreCommandsOf earlier commands

  pub at_start : (commands : List (Option Command)) (left : List ScriptLine) → commands ≡ [] → lines_of_scripts 0 scripts ≡ left → IsCheckedUpTo commands left
  at_start commands left none is = record { earlier = []; parts = is; checked = tt; kept = subst (AreCommandsOf []) (sym none) tt }

  pub one_more : (old new : List (Option Command)) (left more : List ScriptLine) (line : ScriptLine) → IsCheckedUpTo old left → left ≡ line ∷ more → IsLineRead line.bytes old new true → IsCheckedUpTo new more
  one_more old new left more line is lefts read = record {
    earlier = is.earlier ++ line ∷ [];
    parts = is.parts ∙ ap (λ ls. is.earlier ++ ls) lefts ∙ sym (append_assoc is.earlier (line ∷ []) more);
    checked = checked_more is.earlier line is.checked read.0;
    kept = subst (AreCommandsOf (is.earlier ++ line ∷ [])) (sym read.1.1) (commands_more is.earlier old line read.1.0 is.kept read.1.2);
  }

  pub first_here : (old new : List (Option Command)) (left more : List ScriptLine) (line : ScriptLine) → IsCheckedUpTo old left → left ≡ line ∷ more → IsLineRead line.bytes old new false → IsFirstUnchecked scripts line
  first_here old new left more line is lefts unchecked = record {
    earlier = is.earlier;
    later = more;
    lines = is.parts ∙ ap (λ ls. is.earlier ++ ls) lefts;
    checked = is.checked;
    unchecked = unchecked;
  }

  whole : (commands : List (Option Command)) (left : List ScriptLine) (is : IsCheckedUpTo commands left) → left ≡ [] → lines_of_scripts 0 scripts ≡ is.earlier
  whole commands left is lefts = is.parts ∙ ap (λ ls. is.earlier ++ ls) lefts ∙ append-nil is.earlier

  pub all_checked : (commands : List (Option Command)) (left : List ScriptLine) → IsCheckedUpTo commands left → left ≡ [] → AreChecked scripts
  all_checked commands left is lefts = subst (AllByRecursion IsChecked) (sym (whole commands left is lefts)) is.checked

  pub all_kept : (commands : List (Option Command)) (left : List ScriptLine) → IsCheckedUpTo commands left → left ≡ [] → AreCommandsOf (lines_of_scripts 0 scripts) commands
  all_kept commands left is lefts = subst (λ ls. AreCommandsOf ls commands) (sym (whole commands left is lefts)) is.kept
