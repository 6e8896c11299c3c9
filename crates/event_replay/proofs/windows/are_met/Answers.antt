use Rattle.std.proofs.Common.{◌≡◌, ◌∙◌, ◌<◌, ◌-◌, length, get_or, true, false, refl, sym, ap, subst, arith}
use Rattle.event_replay.specs.Links.{LeadsTo}
use Rattle.event_replay.specs.Sweeps.{IsMetIn, IsWaitingIn}
use Rattle.event_replay.specs.declared.waiting.Waiting.{Waiting}
use Rattle.event_replay.proofs.FollowLaws.{one_of}
use Rattle.event_replay.proofs.LinkLaws.{behind_next}
use Rattle.event_replay.proofs.windows.are_met.Goals as goal

pub returns-then-not-so_far : goal.returns-then-not-so_far
returns-then-not-so_far c = λ events before front store size within. (
  λ so. absurd (let clash : false ≡ true = so in cc),
  λ both. absurd (let isnt = c.if-not-so_far.true in let is = both.0 in cc),
)

pub bounds-last-number : goal.bounds-last-number
bounds-last-number c = let size = c.requires.ends.1.numbers in let most = c.requires.ends.2 in omega (arith, size, most)

pub links-init : goal.links-init
links-init c =
    let ends = c.requires.ends.1 in
    let size = ends.numbers in
    let most = c.requires.ends.2 in
    let leads = ends.links.at_number c.args.number (omega (arith, size, most)) in
    record {
      low = leads.low;
      own = leads.own;
      met = λ events before front store long within i d from few same. absurd (leads.none i d from few same);
    }

pub waiting_at-requires : goal.waiting_at-requires
waiting_at-requires c = let low = c.links.invariant.low in let some = c.links-test.true in omega (arith, low, some)

pub meets-requires : goal.meets-requires
meets-requires c =
    let w = c.waiting_at.result.now in
    let low = c.links.invariant.low in
    let some = c.links-test.true in
    let all = c.requires.waiting in
    (all.0, (one_of (IsWaitingIn all.0) c.args.waiting.now (c.links.link - 1) w all.1 (omega (arith, low, some)) (c.waiting_at.ensures w)).demand_in)

pub returns-then-not-branch : goal.returns-then-not-branch
returns-then-not-branch c = λ events before front store long within.
    let waiting = c.args.waiting.now in
    let link = c.links.link in
    let w = c.waiting_at.result.now in
    let low = c.links.invariant.low in
    let some = c.links-test.true in
    let under : link - 1 < length waiting = omega (arith, low, some) in
    let is = c.waiting_at.ensures w in
    let own = c.links.invariant.own w some in
    let end : length before ≡ w.upto = long ∙ sym own ∙ ap (λ (v : Waiting). v.upto) (sym is) in
    let told = c.in_ok-meets.ensures events before front store end (one_of (IsWaitingIn events) waiting (link - 1) w within under is).demand_in in (
      λ so. absurd (let clash : false ≡ true = so in cc),
      λ both. let here = told.1 (subst (IsMetIn events) (sym is) (both.1 (link - 1) w under own)) in
          absurd (let isnt = c.if-not-branch.true in cc),
    )

pub bounds-earlier-link : goal.bounds-earlier-link
bounds-earlier-link c =
    let low = c.links.invariant.low in
    let some = c.links-test.true in
    let size = c.requires.ends.1.links.count in
    omega (arith, low, some, size)

pub links-preserved : goal.links-preserved
links-preserved c =
    let waiting = c.args.waiting.now in
    let link = c.links.link in
    let next = get_or c.args.earlier.now (link - 1) 0 in
    let w = c.waiting_at.result.now in
    let low = c.links.invariant.low in
    let some = c.links-test.true in
    let under : link - 1 < length waiting = omega (arith, low, some) in
    let is = c.waiting_at.ensures w in
    let own = c.links.invariant.own w some in
    let leads = subst (λ n. LeadsTo waiting n (link - 1) next) own (c.requires.ends.1.links.at_place (link - 1) w under) in
    record {
      low = let less = leads.low in omega (arith, less, low);
      own = leads.own;
      met = λ events before front store long within.
          let end : length before ≡ w.upto = long ∙ sym own ∙ ap (λ (v : Waiting). v.upto) (sym is) in
          let here = (c.in_ok-meets.ensures events before front store end (one_of (IsWaitingIn events) waiting (link - 1) w within under is).demand_in).0 c.if-not-branch.false in
          behind_next waiting (IsMetIn events) c.args.number link next w some is here leads (c.links.invariant.met events before front store long within) low;
    }

pub links-smaller : goal.links-smaller
links-smaller c =
    let low = c.links.invariant.low in
    let some = c.links-test.true in
    let less = (c.requires.ends.1.links.at_place (c.links.link - 1) c.waiting_at.result.now (omega (arith, low, some))).low in
    omega (arith, less, some)

pub returns : goal.returns
returns c = λ events before front store long within. (
  λ so. (c.if-not-so_far.false, λ i d low same. c.links.invariant.met events before front store long within i d (let none = c.links-test.false in omega (arith, none)) low same),
  λ both. refl,
)
