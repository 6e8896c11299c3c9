use Rattle.transform_json.proofs.arrays.+put_sizes.Given as goal

abbrev pub decreases-put_sizes : goal.decreases-put_sizes
decreases-put_sizes l = l.depth
