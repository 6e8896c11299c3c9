use Rattle.commits.proofs.making.commit_planned.Goals as goal

pub returns-in-Ok-clause-kept : goal.returns-in-Ok-clause-kept
returns-in-Ok-clause-kept g c = c.commit_parts.ensures.kept c.args.plans.items c.requires.plans c.in-Ok.ensures

pub commit_parts-requires-clause-parts : goal.commit_parts-requires-clause-parts
commit_parts-requires-clause-parts g c = (c.args.plans.items, c.requires.plans, c.in-Ok.ensures, c.requires.agrees)
