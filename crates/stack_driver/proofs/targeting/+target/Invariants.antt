use Rattle.stack_driver.proofs.targeting.+target.Given as goal

abbrev pub decreases-target : goal.decreases-target
decreases-target l = goal.size-target l
