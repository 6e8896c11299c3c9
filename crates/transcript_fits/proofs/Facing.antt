-- A session before one of its lines: what the line does is sound.
use Rattle.std.proofs.Common.{ℕ, List, Option, Some, None, Ok, take, subst}
use Rattle.std.specs.List.{AllByRecursion}
use Rattle.std.specs.FinMap as finmap
use Rattle.history.specs.declared.event.Op.TheVariants.{Write}
use Rattle.history.specs.Acts.{Asked, write_act}
use Rattle.history.specs.Commit.{Transaction}
use Rattle.history.specs.History.{History}
use Rattle.history.specs.Legal.{IsLegal}
use Rattle.history.proofs.Asking.{IsAskedBy}
use Rattle.stack_driver.specs.declared.view.View.{View}
use Rattle.stated_history.specs.Acts.{IsActBy, IsActAt}
use Rattle.stated_history.specs.StatedCommits.{IsSoundOp}
use Rattle.stated_history.specs.ToldStandings.{Standing, act_at}
use Rattle.stated_history.specs.Transcript.{Told}
use Rattle.stated_history.specs.declared.Act.{Act}
use Rattle.stated_history.specs.declared.Act.TheVariants.{Refused, Opens, Binds, Reads, Writes, Begins, Commits, Aborts}
use Rattle.stated_history.proofs.Laws.{AreSoundOps, IsSoundStanding, IsSoundAct, IsGoodLine, line_sound, AreUnresized}
use Rattle.transcript_fits.specs.Stands.{IsThereFor, IsThereStanding, ops_in}
use Rattle.transcript_fits.proofs.Sound.{front_legal, front_still}

-- what a session has is sound by the first events
staged_of : (h : History) (t : Option Transaction) → AllByRecursion (IsSoundOp h) (ops_in t) → AreSoundOps h t
staged_of h None all = tt
staged_of h (Some t) all = all

ops_of : (h : History) (t : Option Transaction) → AreSoundOps h t → AllByRecursion (IsSoundOp h) (ops_in t)
ops_of h None all = tt
ops_of h (Some t) all = all

pub sound_standing : (h : History) (upto : ℕ) (s : Standing) → IsThereStanding h upto s → IsSoundStanding (take upto h) s
sound_standing h upto s is = record { bound = is.views; staged = staged_of (take upto h) s.transaction is.ops }

pub there_standing : (h : History) (upto : ℕ) (s : Standing) → IsSoundStanding (take upto h) s → IsThereStanding h upto s
there_standing h upto s is = record { views = is.bound; ops = ops_of (take upto h) s.transaction is.staged }

module _ (h : History) (upto : ℕ) where
  -- of what is asked, what is read or written is there
  written_there : (t : Option Transaction) (view : View) (words : List ℕ) → IsAskedBy (IsSoundAct (take upto h)) (Ok (write_act t view words)) → IsSoundOp (take upto h) (Write view words)
  written_there None view words sound = sound
  written_there (Some t) view words sound = sound.1

  act_there : (t : Option Transaction) (asked : Asked) (act : Act) → IsActBy t asked act → IsAskedBy (IsSoundAct (take upto h)) asked → IsThereFor h upto t act
  act_there t asked (Refused body) does sound = tt
  act_there t asked (Opens name plan) does sound = tt
  act_there t asked (Binds name view) does sound = tt
  act_there t asked (Reads view) does sound = subst (IsAskedBy (IsSoundAct (take upto h))) does sound
  act_there t asked (Writes view words) does sound = written_there t view words (subst (IsAskedBy (IsSoundAct (take upto h))) does sound)
  act_there t asked (Begins mode) does sound = tt
  act_there t asked Commits does sound = tt
  act_there t asked Aborts does sound = tt

  module _ (legal : IsLegal finmap.empty h) (still : AreUnresized h) where
    pub asks_there : (s : Standing) (t : Told) → IsGoodLine t.asked → IsThereStanding h upto s → IsAskedBy (IsSoundAct (take upto h)) (act_at s t)
    asks_there s t good is = line_sound (take upto h) (front_legal h legal still upto) (front_still h legal still upto) s t.asked good (sound_standing h upto s is)

    pub line_there : (s : Standing) (t : Told) (act : Act) → IsGoodLine t.asked → IsThereStanding h upto s → IsActAt s t.asked act → IsThereFor h upto s.transaction act
    line_there s t act good is does = act_there s.transaction (act_at s t) act does (asks_there s t good is)
