use Rattle.std.proofs.Common.{◌≡◌, ◌∙◌, ◌<◌, ◌≤◌, ◌+◌, ℕ, List, [], ◌∷◌, ◌++◌, length, sym, ap, subst, arith}
use Rattle.std.proofs.lemmas.List.{length-set}
use Rattle.event_replay.specs.Links.{AreLinked}
use Rattle.event_replay.specs.declared.waiting.Waiting.{Waiting}
use Rattle.event_replay.proofs.FollowLaws.{one_of}
use Rattle.event_replay.proofs.LinkLaws.{linked_more}
use Rattle.event_replay.proofs.ends.ends_of.Goals as goal

pub linked-requires : goal.linked-requires
linked-requires c =
    let waiting = c.args.waiting.now in
    let w = c.waiting_at.result.now in
    let low : c.loop-i.i < length waiting = omega arith in
    let within = one_of (λ (v : Waiting). v.upto ≤ c.args.most) waiting c.loop-i.i w c.requires.within low (c.waiting_at.ensures w) in
    let size = c.loop-i.invariant.numbers in
    omega (arith, within, size)

pub loop-i-preserved : goal.loop-i-preserved
loop-i-preserved c =
    let waiting = c.args.waiting.now in
    let i = c.loop-i.i in
    let w = c.waiting_at.result.now in
    let last = c.loop-i.last.items in
    let before = c.loop-i.earlier.items in
    let inv = c.loop-i.invariant in
    let low : i < length waiting = omega arith in
    let upto = one_of (λ (v : Waiting). v.upto ≤ c.args.most) waiting i w c.requires.within low (c.waiting_at.ensures w) in
    let size = inv.numbers in
    let within : w.upto < length last = omega (arith, upto, size) in
    let pushed = c.in_ok-push.ensures.items ∙ ap (λ (link : ℕ). before ++ link ∷ []) c.linked.ensures.old in
    record {
      numbers = ap (λ (links : List ℕ). length links) c.linked.ensures.new ∙ length-set last w.upto (i + 1) ∙ inv.numbers;
      links = subst (AreLinked waiting (i + 1) c.linked.new.last.items) (sym pushed) (linked_more waiting i last before c.linked.new.last.items w low c.waiting_at.ensures within c.linked.ensures.new inv.links);
    }

pub returns : goal.returns
returns c =
    let end : c.loop-i.i ≡ length c.args.waiting.now = omega arith in
    record {
      numbers = c.loop-i.invariant.numbers;
      links = subst (λ n. AreLinked c.args.waiting.now n c.loop-i.last.items c.loop-i.earlier.items) end c.loop-i.invariant.links;
    }
