-- What is answered of an open line is right.
use Rattle.std.proofs.Common.{◌≡◌, ◌≢◌, ◌↔◌, ℕ, ◌+◌, ◌<◌, ◌≤◌, List, [], length, map, Bool, true, false, Option, Ok, refl, sym, ap, subst, ◌∙◌}
use Rattle.std.specs.Prelude.{◌^◌}
use Rattle.std.specs.List.{AllByRecursion}
use Rattle.std.proofs.lemmas.List.{length-map}
use Rattle.serde_json.specs.Data.{Data}
use Rattle.history.specs.Acts.{opens}
use Rattle.history.specs.Commit.{Transaction}
use Rattle.history.specs.History.{History}
use Rattle.read_fits.specs.Conditions.{IsTree}
use Rattle.read_fits.specs.declared.OpenPlan.{OpenPlan}
use Rattle.stack_driver.specs.References.{Reference}
use Rattle.read_fits.specs.Outline.{outline}
use Rattle.read_fits.specs.Openings.{leaf_of, leaves_from, leaves_of, build_of}
use Rattle.read_fits.specs.Asked.{wanted_leaf}
use Rattle.read_fits.specs.Lines.{bare}
use Rattle.read_fits.specs.declared.Openings.{Openings}
use Rattle.read_fits.specs.OpenedViews.{AreGiven, paired}
use Rattle.read_fits.proofs.Laws.{pairs_of}
use Rattle.open_fits.specs.Built.{IsBuiltAs, IsTakenEnd, IsEndOf, IsInWindow}
use Rattle.read_fits.specs.Fits.{IsAnsweredBy}
use Rattle.open_fits.specs.Moments.{moment_by, told_at}
use Rattle.open_fits.specs.Opens.{leaves_at, window_told, IsOpenLine, IsSmall, IsRefusedAt, IsQuestion, IsJudged, MayBeAsked, AsksOf, IsFitAt}
use Rattle.open_fits.specs.Settling.{AreArraysFor}
use Rattle.open_fits.specs.declared.moments.Moment.{Moment}
use Rattle.open_fits.specs.declared.opens.OpenFit.{OpenFit}
use Rattle.open_fits.specs.declared.opens.OpenFit.TheVariants.{Unfit, Fits, IfRefused}
use Rattle.open_fits.specs.declared.questions.OpenQuestion.{OpenQuestion}
use Rattle.open_fits.specs.declared.questions.OpenTold.{OpenTold}
use Rattle.open_fits.specs.declared.questions.WantedPlan.{WantedPlan}
use Rattle.open_fits.proofs.Fronts.{leaves_wanted, all_small, given_wanted, length-leaves_at, length-paired}
use Rattle.open_fits.proofs.Judging.{answer_of_fit, fit_of_answer, fits_built, stop_of_answer, asked_of_answer, answer_of_asked}

module _ (plan : OpenPlan) (numbers : List (Option ℕ)) (openings : Openings) (told : OpenTold) (d : Data) (line : IsOpenLine plan numbers openings told d) (wanted : WantedPlan) (leaves_same : map wanted_leaf wanted.leaves ≡ bare plan.leaves) (tree_same : wanted.tree ≡ plan.tree) where
  -- what calls ask of the leaves
  pub leaves_small : AllByRecursion IsSmall wanted.leaves
  leaves_small = all_small wanted.leaves plan.leaves leaves_same line.sound.each

  leaves_are : leaves_at wanted.tree 0 wanted.leaves ≡ leaves_of plan
  leaves_are = leaves_wanted wanted.tree 0 wanted.leaves plan.leaves leaves_same ∙ ap (λ t. leaves_from t 0 plan.leaves) tree_same

  pub leaves_given : AreGiven openings.events (paired (map wanted_leaf wanted.leaves) numbers)
  leaves_given = given_wanted openings.events wanted.tree 0 wanted.leaves numbers (subst (λ ls. AreGiven openings.events (paired ls numbers)) (sym leaves_are) line.given)

  pub leaves_count : length numbers ≡ length wanted.leaves
  leaves_count =
      ap length (sym line.taken) ∙ length-map _ _ ∙ ap length (pairs_of openings.events (leaves_of plan) told.numbers) ∙ length-paired (leaves_of plan) _ ∙ ap length (sym leaves_are)
      ∙ length-leaves_at wanted.tree 0 wanted.leaves

  plan_count : length plan.leaves ≡ length wanted.leaves
  plan_count = sym (length-map plan.leaves (leaf_of [])) ∙ ap length (sym leaves_same) ∙ length-map wanted.leaves wanted_leaf

  pub tree_over : IsTree (length wanted.leaves) wanted.tree
  tree_over = subst (IsTree (length wanted.leaves)) (sym tree_same) (subst (λ n. IsTree n plan.tree) plan_count line.sound.over)

  module _ (arrays : List Reference) (front : AreArraysFor openings.events told.upto wanted.leaves numbers arrays) (b : Bool) (all : length arrays ≡ length wanted.leaves → IsBuiltAs wanted.tree arrays told b) (lack : length arrays ≢ length wanted.leaves → b ≡ false) where
    abbrev Fit : History → ℕ → Option Transaction → Type 0
    Fit h owner t = IsAnsweredBy h owner (window_told told) t told.line (Ok (opens told.name (leaves_of plan) (build_of plan))) told.text d

    -- it fits
    pub judged_fits : b ≡ true → (h : History) → outline h ≡ openings.events → (owner : ℕ) (t : Option Transaction) → Fit h owner t
    judged_fits is h same owner t =
        fit_of_answer plan numbers openings told d line wanted leaves_same tree_same h same owner t
        (fits_built plan numbers openings told d line wanted leaves_same tree_same h same arrays (front h same (window_told told) refl wanted.tree) b all lack is)

    module _ (isnt : b ≡ false) (m : Moment) (m_is : m ≡ moment_by (told_at d) told.failed told.from) where
      -- it doesn't
      pub judged_unfit : (IsInWindow told (length openings.events) m → ⊥) → (h : History) → outline h ≡ openings.events → (owner : ℕ) (t : Option Transaction) → Fit h owner t → ⊥
      judged_unfit outside h same owner t fit =
          let stop = stop_of_answer plan numbers openings told d line wanted leaves_same tree_same h same arrays (front h same (window_told told) refl wanted.tree) b all lack isnt
          (answer_of_fit plan numbers openings told d line wanted leaves_same tree_same h same owner t fit) in
          outside (subst (IsInWindow told (length openings.events)) (sym m_is) stop.window)

      -- it does where a leaf is refused so
      module _ (window : IsInWindow told (length openings.events) m) (first end : ℕ) (taken_end : IsTakenEnd numbers first) (end_of : IsEndOf (length arrays) (length wanted.leaves) end) (q : OpenQuestion)
          (q_is : q ≡ record { plan = wanted; first = first; end = end; moment = m.events; is_failed = m.is_failed; told = told }) where
        q_then : q ≡ record { plan = wanted; first = first; end = end; moment = (moment_by (told_at d) told.failed told.from).events; is_failed = (moment_by (told_at d) told.failed told.from).is_failed; told = told }
        q_then = q_is ∙ ap (λ (n : Moment). record { plan = wanted; first = first; end = end; moment = n.events; is_failed = n.is_failed; told = told }) m_is

        pub judged_asked : (h : History) → outline h ≡ openings.events → (owner : ℕ) (t : Option Transaction) → Fit h owner t ↔ IsRefusedAt h q
        judged_asked h same owner t =
            let fronted = front h same (window_told told) refl wanted.tree in (
              (λ fit. subst (IsRefusedAt h) (sym q_then)
                  (asked_of_answer plan numbers openings told d line wanted leaves_same tree_same h same arrays fronted b all lack first end taken_end end_of isnt
                  (answer_of_fit plan numbers openings told d line wanted leaves_same tree_same h same owner t fit))),
              (λ refused_so. fit_of_answer plan numbers openings told d line wanted leaves_same tree_same h same owner t
                  (answer_of_asked plan numbers openings told d line wanted leaves_same tree_same h same arrays fronted b all lack first end taken_end end_of
                  (subst (IsInWindow told (length openings.events)) m_is window) (subst (IsRefusedAt h) q_then refused_so))),
            )

        pub may_ask : (m.is_failed ≡ true → m.events + 1 < 2 ^ 64) → IsQuestion openings.events q
        may_ask few = subst (IsQuestion openings.events) (sym q_then) (record {
          within = subst (λ (n : Moment). n.events ≤ length openings.events) m_is window.within;
          few = subst (λ (n : Moment). n.is_failed ≡ true → n.events + 1 < 2 ^ 64) m_is few;
          end = end_of.within;
          reads = (d, line.text);
        })

      -- whatever is answered
      module _ (first : ℕ) (taken_end : IsTakenEnd numbers first) where
        pub judged_at : (fit : OpenFit) → IsFitAt wanted first (length arrays) m told (length openings.events) fit → (h : History) → outline h ≡ openings.events → (owner : ℕ) (t : Option Transaction) → IsJudged h (Fit h owner t) fit
        judged_at Unfit outside h same owner t = judged_unfit outside h same owner t
        judged_at Fits never h same owner t = absurd never
        judged_at (IfRefused q) is h same owner t = judged_asked is.0 first q.end taken_end is.1 q is.2 h same owner t

        pub asked_at : (m.is_failed ≡ true → m.events + 1 < 2 ^ 64) → (fit : OpenFit) → IsFitAt wanted first (length arrays) m told (length openings.events) fit → MayBeAsked openings.events fit
        asked_at few Unfit outside = tt
        asked_at few Fits never = tt
        asked_at few (IfRefused q) is = may_ask is.0 first q.end taken_end is.1 q is.2 few

-- what is asked is asked of the line's answer
pub asks_same : (wanted : WantedPlan) (first settled : ℕ) (m : Moment) (told : OpenTold) (count : ℕ) (fit : OpenFit) → IsFitAt wanted first settled m told count fit → AsksOf told fit
asks_same wanted first settled m told count Unfit is = tt
asks_same wanted first settled m told count Fits is = tt
asks_same wanted first settled m told count (IfRefused q) is = ap (λ (x : OpenQuestion). x.told) is.2
