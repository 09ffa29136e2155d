use Rattle.st_asm.proofs.numbers.+packed.Given as goal

abbrev pub decreases-packed : goal.decreases-packed
decreases-packed l = l.count
