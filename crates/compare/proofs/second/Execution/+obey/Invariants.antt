use Rattle.compare.proofs.second.Execution.+obey.Given as goal

abbrev pub decreases-obey : goal.decreases-obey
decreases-obey l = l.depth
