use Rattle.spec_forms.proofs.numbers.+put_sizes.Given as goal

abbrev pub decreases-put_sizes : goal.decreases-put_sizes
decreases-put_sizes l = l.room
